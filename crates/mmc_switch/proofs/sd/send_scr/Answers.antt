use Rattle.std.proofs.Common.{arith, true}
use Rattle.std.specs.Prelude.{Err, Ok}
use Rattle.mmc_frame.specs.declared.kind.Kind.TheVariants.{Sd}
use Rattle.mmc_regs.specs.Scr.{scr_number}
use Rattle.mmc_switch.proofs.FetchLemmas.{block_fails, command_fails, commanded, fetched}
use Rattle.mmc_switch.proofs.SdLemmas.{scr_sent}
use Rattle.mmc_switch.proofs.sd.send_scr.Goals as goal

pub returns-in_err-check_own-clause-moves : goal.returns-in_err-check_own-clause-moves
returns-in_err-check_own-clause-moves g c kept =
    let a = g.B.Bus.view c.args.bus.now in
    let b = g.B.Bus.view c.ask.new.bus in
    let bytes = a.card.made.scr in
    let timing = a.card.timing in
    let asked = c.ask.ensures.asked in
    let r = c.from_residual.result in
    let cause = c.in_err-check_own.field-0.0 in
    let judged = c.in_err-check_own.ensures in
    let k = asked.exchanged.kept kept in
    let none = c.no_command_but_erase_widens.ensures a.card 51 0 (omega arith) (λ e. absurd (omega (arith, e))) in
    let p = commanded {Asks = Unit {0}} Sd bytes timing a 51 0 c.ask.result b (Err cause) asked
    kept none c.a_status_tells_of_its_card.ensures.errors (λ asks there. there.0) judged.ok judged.all
    (λ is asks. c.acmd51_sends_the_scr.ensures _ _ _ _ (k.step.at_once is)) in
    scr_sent r a b
    (command_fails true bytes timing scr_number cause r a b
    (λ asks sd rest. (sd, rest.app, rest.state)) c.from_residual.ensures.0 p)

pub returns-in_err-receive-clause-moves : goal.returns-in_err-receive-clause-moves
returns-in_err-receive-clause-moves g c kept =
    let a = g.B.Bus.view c.args.bus.now in
    let b = g.B.Bus.view c.ask.new.bus in
    let d = g.B.Bus.view c.receive.new.bus in
    let bytes = a.card.made.scr in
    let timing = a.card.timing in
    let asked = c.ask.ensures.asked in
    let r = c.from_residual-in_err-receive.result in
    let cause = c.in_err-receive.field-0.0 in
    let judged = c.in_ok-check_own.ensures in
    let q = c.in_err-receive.ensures.works kept in
    let k = asked.exchanged.kept q.was_kept in
    let none = c.no_command_but_erase_widens.ensures a.card 51 0 (omega arith) (λ e. absurd (omega (arith, e))) in
    let p = commanded {Asks = Unit {0}} Sd bytes timing a 51 0 c.ask.result b (Ok tt) asked
    q.was_kept none c.a_status_tells_of_its_card.ensures.errors (λ asks there. there.0) judged.ok judged.all
    (λ is asks. c.acmd51_sends_the_scr.ensures _ _ _ _ (k.step.at_once is)) in
    scr_sent r a d
    (block_fails 8 true bytes c.receive.new.buffer timing scr_number cause r a b d
    (λ asks sd card. card.registers.scr sd) c.from_residual-in_err-receive.ensures.0 p q)

pub returns-clause-moves : goal.returns-clause-moves
returns-clause-moves g c kept =
    let a = g.B.Bus.view c.args.bus.now in
    let b = g.B.Bus.view c.ask.new.bus in
    let d = g.B.Bus.view c.receive.new.bus in
    let bytes = a.card.made.scr in
    let timing = a.card.timing in
    let asked = c.ask.ensures.asked in
    let judged = c.in_ok-check_own.ensures in
    let q = c.in_ok-receive.ensures.works kept in
    let k = asked.exchanged.kept q.was_kept in
    let none = c.no_command_but_erase_widens.ensures a.card 51 0 (omega arith) (λ e. absurd (omega (arith, e))) in
    let p = commanded {Asks = Unit {0}} Sd bytes timing a 51 0 c.ask.result b (Ok tt) asked
    q.was_kept none c.a_status_tells_of_its_card.ensures.errors (λ asks there. there.0) judged.ok judged.all
    (λ is asks. c.acmd51_sends_the_scr.ensures _ _ _ _ (k.step.at_once is)) in
    scr_sent (Ok c.new.result) a d
    (fetched 8 true bytes c.receive.new.buffer timing scr_number c.new.result a b d c.new.ensures p q)
