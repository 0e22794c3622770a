use Rattle.std.proofs.Common.{ap, arith, false, true}
use Rattle.mmc_frame.specs.declared.kind.Kind.TheVariants.{Sd}
use Rattle.mmc_card.specs.declared.exchange.Width.TheVariants.{Four}
use Rattle.mmc_card.specs.Laws.{Setting}
use Rattle.mmc_bus.proofs.WorkLemmas.{moved_by}
use Rattle.mmc_switch.proofs.RestLemmas.{answers_well, carried_out, set_as, still_at_rest}
use Rattle.mmc_switch.specs.Stages.{lines_of}
use Rattle.mmc_switch.proofs.sd.set_bus_width.Goals as goal

pub returns-clause-moves : goal.returns-clause-moves
returns-clause-moves g c kept =
    let old = g.B.Bus.view c.args.bus.now in
    let new = g.B.Bus.view c.ask.new.bus in
    let heard = c.ask.result in
    let r = c.check_own.result in
    let e = c.ask.ensures.asked.exchanged in
    let k = e.kept kept in
    let none = c.no_command_but_erase_widens.ensures old.card 6 2 (omega arith) (λ e. absurd (omega (arith, e))) in
    let four : Setting → Setting = λ s. record s { width = Four } in
    moved_by old 6 2 heard new none k
    (λ setting sd set ok.
    let law = c.acmd6_sets_the_width.ensures _ _ _ _ (k.step.at_once (still_at_rest old.card set.rest)) sd set.rest.app in
    set_as false true old.card.state old.card.source Four old.card.timing old.card.block_length (lines_of setting)
    setting (four setting) old new set.rest.state e.lines
    (carried_out Sd _ _ old heard new r c.check_own.ensures.ok law ok).1 (ap four set.is_set) set)
    (λ same setting sd set.
    answers_well Sd true _ old heard new r c.a_status_tells_of_its_card.ensures.errors k.was_card sd
    c.check_own.ensures.all (c.acmd6_sets_the_width.ensures _ _ _ _ (k.step.at_once (still_at_rest old.card set.rest)) sd set.rest.app) same set.rest
    set.rest.state)
