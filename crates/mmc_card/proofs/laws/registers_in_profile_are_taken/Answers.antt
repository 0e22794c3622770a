use Rattle.std.proofs.Common.{◌&&◌, ◌∙◌, ◌≡◌, Bool, ap, arith, cond, false, refl, true, ℕ}
use Rattle.std.specs.Prelude.{◌==◌, Err, Ok, Result}
use Rattle.mmc_frame.specs.declared.kind.Kind.{Kind}
use Rattle.mmc_frame.specs.declared.kind.Kind.TheVariants.{Mmc, Sd}
use Rattle.mmc_regs.specs.Csd.{csd_from, csd_in, csd_of}
use Rattle.mmc_regs.specs.CsdFields.{csd_structure}
use Rattle.mmc_regs.specs.declared.csd.Csd.{Csd}
use Rattle.mmc_regs.specs.declared.fault.RegFault.{RegFault}
use Rattle.mmc_card.specs.Made.{HasRegisters, Made, csd_number_of}
use Rattle.mmc_card.proofs.laws.registers_in_profile_are_taken.Goals as goal

checked : {X E : Type 0} (a b : Bool) (x : X) (e : E) → a ≡ true → b ≡ true
    → cond {A = Result X E} (a && b) (Ok x) (Err e) ≡ Ok x
checked true true x e h k = refl
checked true false x e h k = absurd cc
checked false b x e h k = absurd cc

-- the register's check fits
by_number : (made : Made) (kind : Kind) → HasRegisters made → csd_in kind made.csd ≡ csd_of kind (csd_number_of made)
by_number made kind r = ap (csd_from kind) (checked _ _ (csd_number_of made) _ r.csd_check r.csd_end)

version_one : (structure : ℕ) (x y : Result Csd RegFault) (z : Csd) → structure ≡ 0 → x ≡ Ok z
    → cond (structure == 0) x y ≡ Ok z
version_one structure x y z h k = rw h k

version_two : (structure : ℕ) (x y : Result Csd RegFault) (z : Csd) → structure ≡ 1
    → cond (structure == 0) x (cond (structure == 1) (Ok z) y) ≡ Ok z
version_two structure x y z h = rw h refl

pub returns-clause-standard : goal.returns-clause-standard
returns-clause-standard c =
    λ made r s. by_number made Sd r
    ∙ version_one (csd_structure (csd_number_of made)) _ _ _ s.version
    (checked _ _ _ _ s.read_length s.write_length)

pub returns-clause-high : goal.returns-clause-high
returns-clause-high c = λ made r h.
    by_number made Sd r ∙ version_two (csd_structure (csd_number_of made)) _ _ _ h.version

pub returns-clause-mmc : goal.returns-clause-mmc
returns-clause-mmc c = λ made r. by_number made Mmc r

pub returns-clause-ext_csd : goal.returns-clause-ext_csd
returns-clause-ext_csd c = λ made p. grind (arith, p.revision, p.erase_group)
