-- A card at rest holds one value in each sector at most.
use Rattle.std.proofs.Common.{◌≡◌, Bool, [], ◌∷◌, cond, false, subst, sym, true, ℕ}
use Rattle.mmc_card.specs.declared.part.Part.{Part}
use Rattle.mmc_card.specs.Card.{Card, holds, known}
use Rattle.mmc_card.specs.Sectors.{IsDecided, Same, Sector}
use Rattle.mmc_block.proofs.GroupLemmas.{one_decided}

none_decided : IsDecided []
none_decided v w p q = absurd p

at_decided : (b : Bool) (x : Sector) → IsDecided (cond b (x ∷ []) [])
at_decided true x = one_decided x
at_decided false x = none_decided

-- what a card at rest holds
abbrev pub RestLaw : Type 0
RestLaw = (card : Card) → card.values ≡ [] → Same (holds card) (known card)

pub rest_decided : (card : Card) → RestLaw → card.values ≡ [] → (p : Part) (s : ℕ) → IsDecided (holds card p s)
rest_decided card rests finished p s = subst IsDecided (sym (rests card finished p s)) (at_decided _ _)
