use Rattle.std.proofs.Common.{◌∙◌, ap, sym}
use Rattle.mmc_card.specs.declared.exchange.Lines.{Lines}
use Rattle.mmc_switch.proofs.SdLemmas.{is_high, timing_set}
use Rattle.mmc_switch.proofs.sd.set_timing.Goals as goal

pub returns-then-eq-clause-moves : goal.returns-then-eq-clause-moves
returns-then-eq-clause-moves g c card kept =
    timing_set c.args.width c.args.switches c.args.scr c.speed_up.result (g.B.Bus.view c.args.bus.now)
    (g.B.Bus.view c.speed_up.new.bus) c.if-switches.true (λ old. c.if-sd_spec-ne0.true (c.sd_spec.ensures ∙ old))
    (ap (λ (l : Lines). l.timing) (sym c.limits.ensures) ∙ is_high c.limits.result.timing (sym c.if-eq.ensures))
    (c.speed_up.ensures.moves kept)
