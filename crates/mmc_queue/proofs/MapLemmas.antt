-- A map of entries by ticket, as the list of its entries.
use Rattle.std.proofs.Common.{◌++◌, ◌<◌, ◌^◌, ◌∙◌, ◌∷◌, ◌≡◌, Bool, List, None, Option, Some, [], ap, arith, cond, false, refl, sym}
use Rattle.std.proofs.Common.{true, ℕ}
use Rattle.std.specs.Prelude.{◌==◌, nat_lt}
use Rattle.std.specs.BTreeMap.{BTreeMap, insert_entry, is_at, values}
use Rattle.std.specs.Map.{lookup, remove_entry, values_of}
use Rattle.std.specs.Ordering.{is_eq, nat_cmp}
use Rattle.std.specs.declared.cmp.Ordering.TheVariants.{Equal, Greater, Less}
use Rattle.std.proofs.lemmas.Bool.{true≢false}
use Rattle.std.proofs.lemmas.Bool.Decides.{nat_tests}
use Rattle.std.proofs.lemmas.Option.{none-some}
use Rattle.mmc_queue.specs.Mirror.{AreKeyed}
use Rattle.mmc_queue.specs.Waiting.{AreBelow, AreSound, IsSound, Takes, at_ticket}
use Rattle.mmc_queue.specs.declared.entry.Entry.{Entry}

greater : (t x : ℕ) → x < t → nat_cmp t x ≡ Greater
greater t x h =
    let a : nat_lt t x ≡ false = grind (arith, nat_tests) in
    let b : (t == x) ≡ false = grind (arith, nat_tests) in rw (a, b) refl

is_same_by : (l e : Bool) → (l ≡ true → e ≡ false) → is_eq (cond l Less (cond e Equal Greater)) ≡ e
is_same_by true true h = absurd (true≢false (h refl))
is_same_by true false h = refl
is_same_by false true h = refl
is_same_by false false h = refl

pub is_same : (a b : ℕ) → is_at (nat_cmp a) b ≡ (a == b)
is_same a b = is_same_by (nat_lt a b) (a == b) (λ h. grind (arith, nat_tests))

pub absent : (es : List (ℕ × Entry)) (t : ℕ) → AreKeyed es → AreBelow t (values_of es) → lookup (is_at (nat_cmp t)) es ≡ None
absent [] t keyed below = refl
absent (e ∷ es) t keyed below =
    rw (greater t e.0 (omega (arith, keyed.0, below.0))) (absent es t keyed.2 below.1)

pub insert_last : (es : List (ℕ × Entry)) (t : ℕ) (v : Entry) → AreKeyed es → AreBelow t (values_of es)
    → insert_entry nat_cmp es t v ≡ es ++ (t, v) ∷ []
insert_last [] t v keyed below = refl
insert_last (e ∷ es) t v keyed below =
    rw (greater t e.0 (omega (arith, keyed.0, below.0))) (ap (λ xs. e ∷ xs) (insert_last es t v keyed.2 below.1))

values_push : (es : List (ℕ × Entry)) (t : ℕ) (v : Entry) → values_of (es ++ (t, v) ∷ []) ≡ values_of es ++ v ∷ []
values_push [] t v = refl
values_push (e ∷ es) t v = ap (λ xs. e.1 ∷ xs) (values_push es t v)

pub pushed_values : (m n : BTreeMap ℕ Entry) (v : Entry) → AreKeyed m.entries → AreBelow v.ticket (values m)
    → n.entries ≡ insert_entry nat_cmp m.entries v.ticket v
    → values n ≡ values m ++ v ∷ []
pushed_values m n v keyed below is =
    ap values_of (is ∙ insert_last m.entries v.ticket v keyed below) ∙ values_push m.entries v.ticket v

pub keyed_push : (es : List (ℕ × Entry)) (v : Entry) → AreKeyed es → v.ticket < 2 ^ 64 → AreKeyed (es ++ (v.ticket, v) ∷ [])
keyed_push [] v keyed small = (refl, small, tt)
keyed_push (e ∷ es) v keyed small = (keyed.0, keyed.1, keyed_push es v keyed.2 small)

pub sound_push : (es : List Entry) (v : Entry) → AreSound es → IsSound v → AreSound (es ++ v ∷ [])
sound_push [] v sound one = (one, tt)
sound_push (e ∷ es) v sound one = (sound.0, sound_push es v sound.1 one)

-- One that leaves.

keyed_remove_by : (test : ℕ → Bool) (e : ℕ × Entry) (es : List (ℕ × Entry)) (b : Bool) → AreKeyed (e ∷ es)
    → AreKeyed (remove_entry test es)
    → AreKeyed (cond b es (e ∷ remove_entry test es))
keyed_remove_by test e es true keyed rest = keyed.2
keyed_remove_by test e es false keyed rest = (keyed.0, keyed.1, rest)

pub keyed_remove : (test : ℕ → Bool) (es : List (ℕ × Entry)) → AreKeyed es → AreKeyed (remove_entry test es)
keyed_remove test [] keyed = tt
keyed_remove test (e ∷ es) keyed = keyed_remove_by test e es (test e.0) keyed (keyed_remove test es keyed.2)

-- what a look-up by ticket found, and the list without it
pub record Found (es left : List (ℕ × Entry)) (t : ℕ) (v : Entry) : Type 0 where
  pub ticket : v.ticket ≡ t
  pub there : at_ticket t (values_of es) ≡ Some v
  pub takes : Takes (values_of es) v (values_of left)

abbrev or_else : Entry → Option Entry → Entry
or_else d None = d
or_else d (Some x) = x

found_by : (t : ℕ) (e : ℕ × Entry) (es : List (ℕ × Entry)) (v : Entry) (b : Bool) → b ≡ (t == e.0) → e.0 ≡ e.1.ticket
    → cond b (Some e.1) (lookup (is_at (nat_cmp t)) es) ≡ Some v
    → (lookup (is_at (nat_cmp t)) es ≡ Some v → Found es (remove_entry (is_at (nat_cmp t)) es) t v)
    → Found (e ∷ es) (cond b es (e ∷ remove_entry (is_at (nat_cmp t)) es)) t v
found_by t e es v true is keyed found rest =
    let same : e.1 ≡ v = ap (or_else v) found in
    let at : e.0 ≡ t = grind (arith, nat_tests) in
    let yes : (t == e.1.ticket) ≡ true = ap (λ k. t == k) (sym keyed) ∙ sym is in
    record {
      ticket = ap (λ (x : Entry). x.ticket) (sym same) ∙ sym keyed ∙ at;
      there = rw yes found;
      takes = ([], values_of es, ap (λ (x : Entry). x ∷ values_of es) same, refl);
    }
found_by t e es v false is keyed found rest =
    let r = rest found in
    let no : (t == e.1.ticket) ≡ false = ap (λ k. t == k) (sym keyed) ∙ sym is in
    record {
      ticket = r.ticket;
      there = rw no r.there;
      takes = (e.1 ∷ r.takes.0, r.takes.1, ap (λ xs. e.1 ∷ xs) r.takes.2, ap (λ xs. e.1 ∷ xs) r.takes.3);
    }

pub found : (t : ℕ) (es : List (ℕ × Entry)) (v : Entry) → AreKeyed es → lookup (is_at (nat_cmp t)) es ≡ Some v
    → Found es (remove_entry (is_at (nat_cmp t)) es) t v
found t [] v keyed is = absurd (none-some v is)
found t (e ∷ es) v keyed is =
    found_by t e es v (is_at (nat_cmp t) e.0) (is_same t e.0) keyed.0 is (λ h. found t es v keyed.2 h)

pub same_lookup : (t : ℕ) (es : List (ℕ × Entry)) → AreKeyed es → at_ticket t (values_of es) ≡ lookup (is_at (nat_cmp t)) es
same_lookup t [] keyed = refl
same_lookup t (e ∷ es) keyed =
    let same : (t == e.1.ticket) ≡ is_at (nat_cmp t) e.0 = ap (λ k. t == k) (sym keyed.0) ∙ sym (is_same t e.0) in
    rw (same, same_lookup t es keyed.2) refl

pub first_removed : (p : ℕ × Entry) (es : List (ℕ × Entry)) → es ≡ remove_entry (is_at (nat_cmp p.0)) (p ∷ es)
first_removed p es =
    let yes : is_at (nat_cmp p.0) p.0 ≡ true = is_same p.0 p.0 ∙ grind (arith, nat_tests) in rw yes refl

-- those that stay are sound
pub sound_without : (before : List Entry) (e : Entry) (after : List Entry) → AreSound (before ++ e ∷ after) → AreSound (before ++ after)
sound_without [] e after sound = sound.1
sound_without (b ∷ before) e after sound = (sound.0, sound_without before e after sound.1)

pub sound_one : (before : List Entry) (e : Entry) (after : List Entry) → AreSound (before ++ e ∷ after) → IsSound e
sound_one [] e after sound = sound.0
sound_one (b ∷ before) e after sound = sound_one before e after sound.1

small_by : (t : ℕ) (e : ℕ × Entry) (ws : List Entry) (v : Entry) (b : Bool) → (t == e.1.ticket) ≡ b → e.0 ≡ e.1.ticket
    → e.0 < 2 ^ 64 → cond b (Some e.1) (at_ticket t ws) ≡ Some v → (at_ticket t ws ≡ Some v → t < 2 ^ 64)
    → t < 2 ^ 64
small_by t e ws v true same key small is rest =
    let at : t ≡ e.1.ticket = grind (arith, nat_tests) in omega (arith, at, small, key)
small_by t e ws v false same key small is rest = rest is

-- a ticket that waits is a number of 64 bits
pub small_ticket : (t : ℕ) (es : List (ℕ × Entry)) (v : Entry) → AreKeyed es → at_ticket t (values_of es) ≡ Some v → t < 2 ^ 64
small_ticket t [] v keyed is = absurd (none-some v is)
small_ticket t (e ∷ es) v keyed is =
    small_by t e (values_of es) v (t == e.1.ticket) refl keyed.0 keyed.1 is (λ h. small_ticket t es v keyed.2 h)
