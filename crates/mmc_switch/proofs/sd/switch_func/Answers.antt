use Rattle.std.proofs.Common.{◌≡◌, arith, false, refl}
use Rattle.std.specs.Prelude.{Err, Ok}
use Rattle.mmc_frame.specs.declared.kind.Kind.TheVariants.{Sd}
use Rattle.mmc_card.specs.Laws.{IsStill, timing_once_sent}
use Rattle.mmc_bus.specs.CommandLaws.{IsSwitchSource, bytes_sent}
use Rattle.mmc_bus.proofs.WorkLemmas.{refuted}
use Rattle.mmc_switch.proofs.FetchLemmas.{block_fails, command_fails, commanded, fetched}
use Rattle.mmc_switch.proofs.SdLemmas.{status_sent}
use Rattle.mmc_switch.proofs.SwitchStatusLemmas.{sent_length}
use Rattle.mmc_switch.proofs.sd.switch_func.Goals as goal

pub returns-in_err-check_own-clause-moves : goal.returns-in_err-check_own-clause-moves
returns-in_err-check_own-clause-moves g c kept =
    let a = g.B.Bus.view c.args.bus.now in
    let b = g.B.Bus.view c.ask.new.bus in
    let argument = c.args.argument in
    let bytes = bytes_sent b.card.source in
    let timing = timing_once_sent b.card.source a.card.timing in
    let asked = c.ask.ensures.asked in
    let r = c.from_residual.result in
    let cause = c.in_err-check_own.field-0.0 in
    let judged = c.in_err-check_own.ensures in
    let k = asked.exchanged.kept kept in
    let none = c.no_command_but_erase_widens.ensures a.card 6 argument (omega arith) (λ e. absurd (omega (arith, e))) in
    let p = commanded {Asks = (a.card.made.kind ≡ Sd) × (a.card.app ≡ false) × IsStill a.card} Sd bytes timing a 6 argument
    c.ask.result b (Err cause) asked kept none c.a_status_tells_of_its_card.ensures.errors (λ asks there. asks.0) judged.ok judged.all
    (λ is asks. c.cmd6_sends_the_switch_status.ensures.does _ _ _ _ (k.step.at_once is) asks.0 asks.1) in
    status_sent argument r a b b (λ sd app is ok. refuted r c.from_residual.ensures.0 ok)
    (command_fails false bytes timing (λ bytes. bytes) cause r a b
    (λ asks has rest. (rest.state, has)) c.from_residual.ensures.0 p)

pub returns-in_err-receive-clause-moves : goal.returns-in_err-receive-clause-moves
returns-in_err-receive-clause-moves g c kept =
    let a = g.B.Bus.view c.args.bus.now in
    let b = g.B.Bus.view c.ask.new.bus in
    let argument = c.args.argument in
    let d = g.B.Bus.view c.receive.new.bus in
    let bytes = bytes_sent b.card.source in
    let timing = timing_once_sent b.card.source a.card.timing in
    let asked = c.ask.ensures.asked in
    let r = c.from_residual-in_err-receive.result in
    let cause = c.in_err-receive.field-0.0 in
    let judged = c.in_ok-check_own.ensures in
    let q = c.in_err-receive.ensures.works kept in
    let k = asked.exchanged.kept q.was_kept in
    let none = c.no_command_but_erase_widens.ensures a.card 6 argument (omega arith) (λ e. absurd (omega (arith, e))) in
    let p = commanded {Asks = (a.card.made.kind ≡ Sd) × (a.card.app ≡ false) × IsStill a.card} Sd bytes timing a 6 argument
    c.ask.result b (Ok tt) asked q.was_kept none c.a_status_tells_of_its_card.ensures.errors (λ asks there. asks.0) judged.ok judged.all
    (λ is asks. c.cmd6_sends_the_switch_status.ensures.does _ _ _ _ (k.step.at_once is) asks.0 asks.1) in
    let sends : a.card.made.kind ≡ Sd → a.card.app ≡ false → IsStill a.card → IsSwitchSource a.card argument b.card.source =
    λ sd app is. c.cmd6_sends_the_switch_status.ensures.sends _ _ _ _ _ (k.step.at_once is) sd app (judged.ok refl).1 (Sd, (judged.ok refl).2) in
    status_sent argument r a b d (λ sd app is ok. refuted r c.from_residual-in_err-receive.ensures.0 ok)
    (block_fails 64 false bytes c.receive.new.buffer timing (λ bytes. bytes) cause r a b d
    (λ asks has card. sent_length a.card argument b.card.source (sends asks.0 asks.1 asks.2)
    (card.registers.switch_status asks.0)) c.from_residual-in_err-receive.ensures.0 p q)

pub returns-clause-moves : goal.returns-clause-moves
returns-clause-moves g c kept =
    let a = g.B.Bus.view c.args.bus.now in
    let b = g.B.Bus.view c.ask.new.bus in
    let argument = c.args.argument in
    let d = g.B.Bus.view c.receive.new.bus in
    let bytes = bytes_sent b.card.source in
    let timing = timing_once_sent b.card.source a.card.timing in
    let asked = c.ask.ensures.asked in
    let judged = c.in_ok-check_own.ensures in
    let q = c.in_ok-receive.ensures.works kept in
    let k = asked.exchanged.kept q.was_kept in
    let none = c.no_command_but_erase_widens.ensures a.card 6 argument (omega arith) (λ e. absurd (omega (arith, e))) in
    let p = commanded {Asks = (a.card.made.kind ≡ Sd) × (a.card.app ≡ false) × IsStill a.card} Sd bytes timing a 6 argument
    c.ask.result b (Ok tt) asked q.was_kept none c.a_status_tells_of_its_card.ensures.errors (λ asks there. asks.0) judged.ok judged.all
    (λ is asks. c.cmd6_sends_the_switch_status.ensures.does _ _ _ _ (k.step.at_once is) asks.0 asks.1) in
    let sends : a.card.made.kind ≡ Sd → a.card.app ≡ false → IsStill a.card → IsSwitchSource a.card argument b.card.source =
    λ sd app is. c.cmd6_sends_the_switch_status.ensures.sends _ _ _ _ _ (k.step.at_once is) sd app (judged.ok refl).1 (Sd, (judged.ok refl).2) in
    status_sent argument (Ok c.new.result) a b d (λ sd app is ok. sends sd app is)
    (fetched 64 false bytes c.receive.new.buffer timing (λ bytes. bytes) c.new.result a b d c.new.ensures p q)
