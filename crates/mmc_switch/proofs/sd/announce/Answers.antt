use Rattle.std.proofs.Common.{◌∙◌, ap, arith, inr, false, sym, true}
use Rattle.mmc_frame.specs.declared.kind.Kind.TheVariants.{Sd}
use Rattle.mmc_card.specs.Card.{is_identified}
use Rattle.mmc_card.specs.Laws.{Setting}
use Rattle.mmc_bus.proofs.WorkLemmas.{moved_by}
use Rattle.mmc_switch.proofs.RestLemmas.{answers_well, carried_out, set_as, still_at_rest}
use Rattle.mmc_switch.specs.Stages.{lines_of}
use Rattle.mmc_switch.proofs.sd.announce.Goals as goal

pub returns-clause-moves : goal.returns-clause-moves
returns-clause-moves g c kept =
    let old = g.B.Bus.view c.args.bus.now in
    let new = g.B.Bus.view c.ask.new.bus in
    let heard = c.ask.result in
    let r = c.check_own.result in
    let argument = c.rca_argument.result in
    let card = old.card in
    let e = c.ask.ensures.asked.exchanged in
    let k = e.kept kept in
    let none = c.no_command_but_erase_widens.ensures card 55 argument (omega arith) (λ e. absurd (omega (arith, e))) in
    moved_by old 55 argument heard new none k
    (λ setting is set ok.
    let law = c.cmd55_announces_an_application_command.ensures.idle _ _ _ _ (k.step.at_once (still_at_rest card set.rest)) k.was_card in
    set_as true false card.state card.source card.width card.timing card.block_length (lines_of setting) setting setting
    old new set.rest.state e.lines (carried_out Sd _ _ old heard new r c.check_own.ensures.ok law ok).1 set.is_set set)
    (λ same setting is sd set.
    let law = c.cmd55_announces_an_application_command.ensures.idle _ _ _ _ (k.step.at_once (still_at_rest card set.rest)) k.was_card in
    answers_well Sd false _ old heard new r c.a_status_tells_of_its_card.ensures.errors k.was_card sd
    c.check_own.ensures.all law same set.rest (
      sd,
      inr (ap is_identified set.rest.state),
      c.rca_argument.ensures.names ∙ sym (ap (λ (s : Setting). s.rca) set.is_set ∙ is),
    ))
