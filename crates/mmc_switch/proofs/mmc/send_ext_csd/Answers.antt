use Rattle.std.proofs.Common.{◌∙◌, ◌≡◌, arith, false, refl}
use Rattle.std.specs.Prelude.{Err, Ok}
use Rattle.mmc_frame.specs.declared.kind.Kind.TheVariants.{Mmc}
use Rattle.mmc_card.specs.Laws.{IsStill}
use Rattle.mmc_card.specs.RowsSwitch.{IsExtCsdOf}
use Rattle.mmc_switch.proofs.FetchLemmas.{block_fails, command_fails, commanded, ext_csd_length, ext_csd_sent, fetched}
use Rattle.mmc_switch.proofs.mmc.send_ext_csd.Goals as goal
use Rattle.mmc_bus.specs.CommandLaws.{bytes_sent}
use Rattle.mmc_bus.proofs.WorkLemmas.{refuted}

pub returns-in_err-check_own-clause-moves : goal.returns-in_err-check_own-clause-moves
returns-in_err-check_own-clause-moves g c kept =
    let a = g.B.Bus.view c.args.bus.now in
    let b = g.B.Bus.view c.ask.new.bus in
    let bytes = bytes_sent b.card.source in
    let timing = a.card.timing in
    let asked = c.ask.ensures.asked in
    let r = c.from_residual.result in
    let cause = c.in_err-check_own.field-0.0 in
    let judged = c.in_err-check_own.ensures in
    let k = asked.exchanged.kept kept in
    let none = c.no_command_but_erase_widens.ensures a.card 8 0 (omega arith) (λ e. absurd (omega (arith, e))) in
    let p = commanded {Asks = (a.card.made.kind ≡ Mmc) × IsStill a.card} Mmc bytes timing a 8 0 c.ask.result b (Err cause) asked
    kept none c.a_status_tells_of_its_card.ensures.errors (λ asks there. asks.0) judged.ok judged.all
    (λ is asks. c.cmd8_sends_the_ext_csd.ensures.does _ _ _ _ (k.step.at_once is) asks.0) in
    ext_csd_sent bytes r a b (λ mmc is ok. refuted r c.from_residual.ensures.0 ok)
    (command_fails false bytes timing (λ bytes. bytes) cause r a b
    (λ asks can rest. rest.state) c.from_residual.ensures.0 p)

pub returns-in_err-receive-clause-moves : goal.returns-in_err-receive-clause-moves
returns-in_err-receive-clause-moves g c kept =
    let a = g.B.Bus.view c.args.bus.now in
    let b = g.B.Bus.view c.ask.new.bus in
    let d = g.B.Bus.view c.receive.new.bus in
    let bytes = bytes_sent b.card.source in
    let timing = a.card.timing in
    let asked = c.ask.ensures.asked in
    let r = c.from_residual-in_err-receive.result in
    let cause = c.in_err-receive.field-0.0 in
    let judged = c.in_ok-check_own.ensures in
    let q = c.in_err-receive.ensures.works kept in
    let k = asked.exchanged.kept q.was_kept in
    let none = c.no_command_but_erase_widens.ensures a.card 8 0 (omega arith) (λ e. absurd (omega (arith, e))) in
    let p = commanded {Asks = (a.card.made.kind ≡ Mmc) × IsStill a.card} Mmc bytes timing a 8 0 c.ask.result b (Ok tt) asked
    q.was_kept none c.a_status_tells_of_its_card.ensures.errors (λ asks there. asks.0) judged.ok judged.all
    (λ is asks. c.cmd8_sends_the_ext_csd.ensures.does _ _ _ _ (k.step.at_once is) asks.0) in
    let sends : a.card.made.kind ≡ Mmc → IsStill a.card → IsExtCsdOf a.card bytes =
    λ mmc is. c.cmd8_sends_the_ext_csd.ensures.sends _ _ _ _ _ (k.step.at_once is) mmc (judged.ok refl).1 (Mmc, (judged.ok refl).2) in
    ext_csd_sent bytes r a d (λ mmc is ok. sends mmc is)
    (block_fails 512 false bytes c.receive.new.buffer timing (λ bytes. bytes) cause r a b d
    (λ asks can card. (sends asks.0 asks.1).len ∙ ext_csd_length a.card (card.registers.ext_csd asks.0)) c.from_residual-in_err-receive.ensures.0 p q)

pub returns-clause-moves : goal.returns-clause-moves
returns-clause-moves g c kept =
    let a = g.B.Bus.view c.args.bus.now in
    let b = g.B.Bus.view c.ask.new.bus in
    let d = g.B.Bus.view c.receive.new.bus in
    let bytes = bytes_sent b.card.source in
    let timing = a.card.timing in
    let asked = c.ask.ensures.asked in
    let judged = c.in_ok-check_own.ensures in
    let q = c.in_ok-receive.ensures.works kept in
    let k = asked.exchanged.kept q.was_kept in
    let none = c.no_command_but_erase_widens.ensures a.card 8 0 (omega arith) (λ e. absurd (omega (arith, e))) in
    let p = commanded {Asks = (a.card.made.kind ≡ Mmc) × IsStill a.card} Mmc bytes timing a 8 0 c.ask.result b (Ok tt) asked
    q.was_kept none c.a_status_tells_of_its_card.ensures.errors (λ asks there. asks.0) judged.ok judged.all
    (λ is asks. c.cmd8_sends_the_ext_csd.ensures.does _ _ _ _ (k.step.at_once is) asks.0) in
    let sends : a.card.made.kind ≡ Mmc → IsStill a.card → IsExtCsdOf a.card bytes =
    λ mmc is. c.cmd8_sends_the_ext_csd.ensures.sends _ _ _ _ _ (k.step.at_once is) mmc (judged.ok refl).1 (Mmc, (judged.ok refl).2) in
    ext_csd_sent bytes (Ok c.receive.new.buffer) a d (λ mmc is ok. sends mmc is)
    (fetched 512 false bytes c.receive.new.buffer timing (λ bytes. bytes) c.receive.new.buffer a b d refl p q)
