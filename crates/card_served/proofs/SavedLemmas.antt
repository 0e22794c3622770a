-- One sector more, and one partition more.
use Rattle.std.proofs.Common.{[], ap, append-nil, append_assoc, arith, drop, length, refl, suc, sym, take, zero, ◌++◌}
use Rattle.std.proofs.Common.{◌+◌, ◌<◌, ◌∙◌, ◌∷◌, ◌≡◌, List, Option, ℕ}
use Rattle.std.proofs.Math.Path.{transport}
use Rattle.std.proofs.Math.ListN.{get_or}
use Rattle.std.proofs.lemmas.List.{flat_map_more, take_more}
use Rattle.std.specs.Io.KnownBytes.{Appends}
use Rattle.std.specs.Prelude.{slice_index_or}
use Rattle.text_out.proofs.WritingLemmas.{appends_more}
use Rattle.mmc_card.specs.Card.{Card, stored}
use Rattle.mmc_card.specs.Sectors.{Sector}
use Rattle.mmc_card.specs.declared.part.Part.{Part}
use Rattle.card_served.specs.Saved.{bytes_in, bytes_of}

-- the bytes of the first sectors, then those of the next one, and then the others'
pub bytes_at : (sectors : List Sector) (i : ℕ) → i < length sectors
    → bytes_of sectors ≡ bytes_of (take i sectors) ++ (slice_index_or sectors i [] ++ bytes_of (drop (suc i) sectors))
bytes_at [] i less = absurd (omega (arith, less))
bytes_at (x ∷ xs) zero less = refl
bytes_at (x ∷ xs) (suc i) less =
    ap (λ bytes. x ++ bytes) (bytes_at xs i (omega (arith, less))) ∙ sym (append_assoc x (bytes_of (take i xs)) _)

bytes_more : (sectors : List Sector) (i : ℕ) → i < length sectors
    → bytes_of (take (suc i) sectors) ≡ bytes_of (take i sectors) ++ slice_index_or sectors i []
bytes_more [] i less = absurd (omega (arith, less))
bytes_more (x ∷ xs) zero less = append-nil x
bytes_more (x ∷ xs) (suc i) less =
    ap (λ bytes. x ++ bytes) (bytes_more xs i (omega (arith, less))) ∙ sym (append_assoc x (bytes_of (take i xs)) _)

pub sector_next : (a b c : Option (List ℕ)) (sectors : List Sector) (i j : ℕ) → j ≡ suc i → i < length sectors
    → Appends a b (bytes_of (take i sectors)) → Appends b c (slice_index_or sectors i [])
    → Appends a c (bytes_of (take j sectors))
sector_next a b c sectors i j next less before after =
    let all : bytes_of (take i sectors) ++ slice_index_or sectors i [] ≡ bytes_of (take j sectors) =
    sym (ap (λ n. bytes_of (take n sectors)) next ∙ bytes_more sectors i less) in
    transport (ap (Appends a c) all) (appends_more a b c _ _ before after)

-- the bytes of the first partitions, and then those of the next one
pub one_more : (card : Card) (parts : List Part) (i : ℕ) (d : Part) → i < length parts
    → bytes_in card (take (i + 1) parts) ≡ bytes_in card (take i parts) ++ bytes_of (stored card (get_or parts i d))
one_more card parts i d lt =
    ap (bytes_in card) (take_more parts i d lt)
    ∙ sym (flat_map_more (λ part. bytes_of (stored card part)) [] (take i parts) (get_or parts i d))

pub saved_next : (card : Card) (a b c : Option (List ℕ)) (parts : List Part) (i : ℕ) (d : Part) → i < length parts
    → Appends a b (bytes_in card (take i parts)) → Appends b c (bytes_of (stored card (get_or parts i d)))
    → Appends a c (bytes_in card (take (i + 1) parts))
saved_next card a b c parts i d lt before after =
    transport (ap (Appends a c) (sym (one_more card parts i d lt))) (appends_more a b c _ _ before after)
