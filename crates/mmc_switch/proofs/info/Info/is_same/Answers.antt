use Rattle.std.proofs.Common.{◌∙◌, ap, sym}
use Rattle.mmc_switch.proofs.SameLemmas.{equal_csd, equal_info, known_info, same_info, same_lasting}
use Rattle.mmc_switch.specs.Info.{lasting}
use Rattle.mmc_switch.proofs.info.Info.is_same.Goals as goal

pub returns-then-eq-clause-same : goal.returns-then-eq-clause-same
returns-then-eq-clause-same c is =
    ap lasting (sym c.used_as.ensures) ∙ sym c.lasting.ensures
    ∙ same_info c.lasting.result c.lasting-2.result (sym c.eq.ensures ∙ c.if-eq.true) ∙ c.lasting-2.ensures

pub returns-then-eq-clause-known : goal.returns-then-eq-clause-known
returns-then-eq-clause-known c limits made registers one other =
    c.eq-then-eq.ensures
    ∙ equal_csd c.lasting-then-eq.result c.lasting-then-eq-2.result
    (c.lasting-then-eq.ensures ∙ same_lasting limits made c.args.self.now c.args.other.now registers one other
    ∙ sym c.lasting-then-eq-2.ensures)

pub returns-else-eq-clause-known : goal.returns-else-eq-clause-known
returns-else-eq-clause-known c limits made registers one other =
    c.eq.ensures
    ∙ equal_info c.lasting.result c.lasting-2.result
    (c.lasting.ensures ∙ ap lasting c.used_as.ensures ∙ known_info limits made c.args.self.now c.args.other.now one other
    ∙ sym c.lasting-2.ensures)
