use Rattle.std.proofs.Common.{None, Some, refl, subst, ◌≡◌}
use Rattle.mmc_card_rows.specs.declared.store.TheConstants.{MAX_LARGE}
use Rattle.mmc_card_sim.specs.CardSpec.{IsRefusalWithin, refusal_within}
use Rattle.mmc_card_sim.specs.declared.spec.BuildFault.TheVariants.{ImageSize}
use Rattle.card_check.specs.Registers.{contradictions}
use Rattle.card_check.proofs.ContradictionLemmas.{broken_registers, broken_size, said_registers, said_size}
use Rattle.card_check.proofs.PrintLemmas.{prints_failed}
use Rattle.card_check.proofs.registers.check_registers.Goals as goal

pub returns-in_err-put_registers-clause-said : goal.returns-in_err-put_registers-clause-said
returns-in_err-put_registers-clause-said g c =
    let old = g.W.Write.contents c.args.out.now in
    let new = g.W.Write.contents c.put_registers.new.out in
    prints_failed old new c.from_residual.result (contradictions c.args.spec.now) c.from_residual.ensures.0
    (broken_registers c.args.spec.now old old new c.in_err-put_registers.ensures)

pub returns-in_err-put_line-in-Err-ImageSize-clause-said : goal.returns-in_err-put_line-in-Err-ImageSize-clause-said
returns-in_err-put_line-in-Err-ImageSize-clause-said g c =
    let old = g.W.Write.contents c.args.out.now in
    let mid = g.W.Write.contents c.put_registers.new.out in
    let new = g.W.Write.contents c.put_line.new.out in
    let is : refusal_within MAX_LARGE c.args.spec.now ≡ Some ImageSize =
    subst (IsRefusalWithin MAX_LARGE c.args.spec.now) c.in-Err-ImageSize.field-0-is c.in-Err-ImageSize.ensures.refused in
    prints_failed old new c.from_residual-in_err-put_line-in-Err-ImageSize.result (contradictions c.args.spec.now)
    c.from_residual-in_err-put_line-in-Err-ImageSize.ensures.0
    (broken_size c.args.spec.now old mid new is c.in_ok-put_registers.ensures c.in_err-put_line-in-Err-ImageSize.ensures)

pub returns-in-Ok-clause-said : goal.returns-in-Ok-clause-said
returns-in-Ok-clause-said g c =
    let old = g.W.Write.contents c.args.out.now in
    let new = g.W.Write.contents c.put_registers.new.out in
    said_registers c.args.spec.now old old new None c.in-Ok.ensures.taken refl c.in_ok-put_registers.ensures

pub returns-in_ok-put_line-in-Err-ImageSize-clause-said : goal.returns-in_ok-put_line-in-Err-ImageSize-clause-said
returns-in_ok-put_line-in-Err-ImageSize-clause-said g c =
    let old = g.W.Write.contents c.args.out.now in
    let mid = g.W.Write.contents c.put_registers.new.out in
    let new = g.W.Write.contents c.put_line.new.out in
    let is : refusal_within MAX_LARGE c.args.spec.now ≡ Some ImageSize =
    subst (IsRefusalWithin MAX_LARGE c.args.spec.now) c.in-Err-ImageSize.field-0-is c.in-Err-ImageSize.ensures.refused in
    said_size c.args.spec.now old mid new is c.in_ok-put_registers.ensures c.in_ok-put_line-in-Err-ImageSize.ensures
