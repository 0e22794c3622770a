use Rattle.std.proofs.Common.{◌∙◌, ap, subst}
use Rattle.text_out.specs.Writing.{Writes}
use Rattle.mmc_regs.specs.Csd.{csd_in}
use Rattle.card_decode.specs.Summaries.{size_if}
use Rattle.card_decode.proofs.summary.put_csd.Goals as goal

pub returns-in-Err : goal.returns-in-Err
unfolding size_if
returns-in-Err g c =
    subst (λ r. Writes (g.W.Write.contents c.args.out.now) (g.W.Write.contents c.put.new.out) c.put.result (size_if r))
    (c.in-Err.ensures.read ∙ ap (csd_in c.args.kind) c.fitting_register.ensures) c.put.ensures
