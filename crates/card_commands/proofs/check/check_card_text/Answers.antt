use Rattle.std.proofs.Common.{List, Option, subst}
use Rattle.std.specs.Prelude.{IfSome}
use Rattle.card_text.specs.CardFile.{IsCardFile}
use Rattle.card_text.specs.Planning.{PlannedFault}
use Rattle.card_text.specs.Script.{lines}
use Rattle.mmc_card_sim.specs.declared.spec.CardSpec.{CardSpec}
use Rattle.card_commands.proofs.CheckLemmas.{described_by}
use Rattle.card_commands.proofs.check.check_card_text.Goals as goal

pub returns-in-Some : goal.returns-in-Some
returns-in-Some g c =
    let read = subst (λ (checked : Option CardSpec). IfSome checked (λ spec. (plan : List PlannedFault)
    × IsCardFile (lines c.args.text.now) spec plan)) c.in-Some.is c.in_ok-check_card.ensures.good in
    described_by c.args.text.now c.in-Some.spec read c.check_spec.result c.check_spec.ensures
