-- Texts that are UTF-8, and objects, which have no float, so that their texts are known.
use Rattle.std.proofs.Common.{List, false, refl, ◌∷◌, ◌≡◌, [], ℕ}
use Rattle.std.proofs.Common.{Ordering, Less, Equal, Greater, nat_cmp}
use Rattle.std.proofs.lemmas.Bool.{false_from_ne_true, or_from, or_parts}
use Rattle.std.proofs.lemmas.Str.{IsUtf8-from_is_utf8, is_utf8-from_IsUtf8}
use Rattle.std.specs.Cmp.Lexicographic.{slice_cmp}
use Rattle.std.specs.Ordering.{match_ordering}
use Rattle.std.specs.Prelude.{codes}
use Rattle.std.specs.Str.{IsUtf8, is_utf8}
use Rattle.serde_json.specs.Data.{Data, Members, member, no_members, put}
use Rattle.serde_json.specs.Written.{has_float, members_have_float}
use Rattle.card_json.specs.Objects.{data_of, members_from, named, shown, with_said}
use Rattle.card_json.specs.declared.said.Member.{Member}
use Rattle.card_json.specs.declared.said.Said.{Said}
use Rattle.card_json.specs.declared.said.Said.TheVariants.{Hex, Nothing, Number, Text, Truth, Word}

pub shown_whole : (text : List ℕ) → IsUtf8 text → text ≡ shown text
shown_whole text is = rw (is_utf8-from_IsUtf8 text is) refl

pub shown_mark : (text : List ℕ) → (IsUtf8 text → ⊥) → codes "?" ≡ shown text
shown_mark text isn't = rw (false_from_ne_true (is_utf8 text) (λ is. isn't (IsUtf8-from_is_utf8 text is))) refl

put_at : (o : Ordering) (k l : List ℕ) (d e : Data) (ms : Members) → has_float d ≡ false
    → members_have_float (member l e ms) ≡ false → members_have_float (put k d ms) ≡ false
    → members_have_float (match_ordering o (member k d (member l e ms)) (member l d ms) (member l e (put k d ms))) ≡ false
put_at Less k l d e ms is rest later = or_from _ _ is rest
put_at Equal k l d e ms is rest later = or_from _ _ is (or_parts (has_float e) _ rest).1
put_at Greater k l d e ms is rest later = or_from _ _ (or_parts (has_float e) _ rest).0 later

put_has_no_float : (k : List ℕ) (d : Data) (ms : Members) → has_float d ≡ false → members_have_float ms ≡ false
    → members_have_float (put k d ms) ≡ false
put_has_no_float k d no_members is rest = or_from _ _ is rest
put_has_no_float k d (member l e ms) is rest =
    put_at (slice_cmp nat_cmp k l) k l d e ms is rest
    (put_has_no_float k d ms is (or_parts (has_float e) _ rest).1)

with_said_has_no_float : (name : List ℕ) (said : Said) (ms : Members) → members_have_float ms ≡ false
    → members_have_float (with_said name (data_of said) ms) ≡ false
with_said_has_no_float name (Word word) ms rest = put_has_no_float name _ ms refl rest
with_said_has_no_float name (Text text) ms rest = put_has_no_float name _ ms refl rest
with_said_has_no_float name (Hex bytes) ms rest = put_has_no_float name _ ms refl rest
with_said_has_no_float name (Number n) ms rest = put_has_no_float name _ ms refl rest
with_said_has_no_float name (Truth b) ms rest = put_has_no_float name _ ms refl rest
with_said_has_no_float name Nothing ms rest = rest

-- the text of an object of these members is known
pub members_have_no_float : (members : List Member) (ms : Members) → members_have_float ms ≡ false
    → members_have_float (members_from ms (named members)) ≡ false
unfolding members_from
members_have_no_float [] ms is = is
members_have_no_float (m ∷ members) ms is =
    members_have_no_float members (with_said m.name.now (data_of m.said) ms) (with_said_has_no_float m.name.now m.said ms is)
