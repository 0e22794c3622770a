use Rattle.std.proofs.Common.{Err, Result, subst, ◌≡◌}
use Rattle.text_out.specs.Writing.{Writes}
use Rattle.mmc_regs.specs.Csd.{csd_in}
use Rattle.mmc_regs.specs.declared.csd.Csd.{Csd}
use Rattle.mmc_regs.specs.declared.fault.RegFault.{RegFault}
use Rattle.mmc_regs.specs.declared.fault.RegFault.TheVariants.{Range}
use Rattle.mmc_card_sim.specs.Registers.{kind_of}
use Rattle.card_check.specs.Registers.{csd_text}
use Rattle.card_check.proofs.registers.put_csd.Goals as goal

pub returns-in-Err-Range : goal.returns-in-Err-Range
returns-in-Err-Range g c =
    let read : Err Range ≡ csd_in (kind_of c.args.registers.now.kind) c.args.registers.now.csd = cc in
    subst (λ (r : Result Csd RegFault). Writes (g.W.Write.contents c.args.out.now)
    (g.W.Write.contents c.put_line-in-Err-Range.new.out) c.put_line-in-Err-Range.result (csd_text r)) read
    c.put_line-in-Err-Range.ensures
