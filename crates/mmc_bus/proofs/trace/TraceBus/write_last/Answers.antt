use Rattle.std.proofs.Common.{◌≡◌, ◌+◌, ◌++◌, drop, Some, sym, ap, ◌∙◌, append_assoc}
use Rattle.std.specs.Prelude.{slice_get}
use Rattle.std.specs.Option.{option_copied}
use Rattle.text_out.proofs.WritingLemmas.{appends_more, writes_broken}
use Rattle.mmc_bus.specs.Trace.{last_of}
use Rattle.mmc_bus.specs.ExchangeText.{exchange_text, lines_text}
use Rattle.mmc_bus.proofs.ExchangeLines.{lines_at}
use Rattle.mmc_bus.proofs.trace.TraceBus.write_last.Goals as goal

pub returns-in_err-write_exchange : goal.returns-in_err-write_exchange
returns-in_err-write_exchange g c =
    let inv = c.loop-i.invariant in
    let found : Some c.unwrap-exchange.result.now ≡ slice_get c.self.inside.last.items c.loop-i.i =
    sym (ap option_copied c.unwrap-exchange.ensures) ∙ c.get.ensures in
    writes_broken _ _ _ _ inv.0 _ (lines_text (drop (c.loop-i.i + 1) c.self.inside.last.items)) _
    c.from_residual.ensures.0
    (ap (λ es. lines_text (last_of c.args.most es)) inv.3 ∙ inv.1
    ∙ ap (λ t. inv.0 ++ t) (lines_at c.self.inside.last.items c.loop-i.i _ found)) inv.2
    c.in_err-write_exchange.ensures

pub loop-i-preserved : goal.loop-i-preserved
loop-i-preserved g c =
    let inv = c.loop-i.invariant in
    let found : Some c.unwrap-exchange.result.now ≡ slice_get c.self.inside.last.items c.loop-i.i =
    sym (ap option_copied c.unwrap-exchange.ensures) ∙ c.get.ensures in (
      inv.0 ++ exchange_text c.unwrap-exchange.result.now,
      inv.1 ∙ ap (λ t. inv.0 ++ t) (lines_at c.self.inside.last.items c.loop-i.i _ found)
          ∙ sym (append_assoc inv.0 _ _),
      appends_more _ _ _ inv.0 _ inv.2 c.in_ok-write_exchange.ensures,
      inv.3,
      inv.4,
    )
