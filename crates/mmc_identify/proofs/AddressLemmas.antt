-- The RCA by which a card goes, by its kind.
use Rattle.std.proofs.Common.{◌≡◌, subst, sym, ℕ}
use Rattle.std.specs.Prelude.{Err, IfOk, IsOkAnd, Ok, Result}
use Rattle.mmc_frame.specs.declared.kind.Kind.TheVariants.{Sd}
use Rattle.mmc_card.specs.Card.{Card}
use Rattle.mmc_card.specs.Made.{Made}
use Rattle.mmc_identify.specs.declared.fault.IdentFault.{IdentFault}
use Rattle.mmc_identify.specs.Stages.{IsNamed, IsRcaOf}

-- any will do for an SD card
pub published_rca : (made : Made) (r : Result ℕ IdentFault) → made.kind ≡ Sd → IfOk r (λ rca. IsRcaOf made rca)
published_rca made (Ok rca) sd = λ mmc. cc (sd, mmc)
published_rca made (Err fault) sd = tt

pub assigned_rca : (made : Made) (r : Result ℕ IdentFault) → IfOk r (λ rca. rca ≡ 1) → IfOk r (λ rca. IsRcaOf made rca)
assigned_rca made (Ok rca) one = λ mmc. one
assigned_rca made (Err fault) one = tt

pub assigned_named : (r : Result ℕ IdentFault) (card : Card) → (r ≡ Ok 1) × IsNamed 1 card
    → IsOkAnd r (λ rca. IsNamed rca card)
assigned_named (Ok rca) card h =
    let one : rca ≡ 1 = (let e = h.0 in cc e) in subst (λ n. IsNamed n card) (sym one) h.1
assigned_named (Err fault) card h = cc h.0
