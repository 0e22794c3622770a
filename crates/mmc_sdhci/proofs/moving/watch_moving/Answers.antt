use Rattle.std.proofs.Common.{◌∙◌, sym}
use Rattle.mmc_sdhci.proofs.Finishing.{seen_again, seen_stays, watch_moving_over, watches_moving_then}
use Rattle.mmc_sdhci.proofs.moving.watch_moving.Goals as goal

pub returns-then-is_over-clause-watches : goal.returns-then-is_over-clause-watches
returns-then-is_over-clause-watches g c =
    let view = g.R.Registers.view in
    let v0 = view c.args.registers.now in
    watch_moving_over v0 (view c.wait.new.self) (view c.read32-bits.new.self) c.read32-bits.result c.requires.rest c.requires.moving
    (seen_stays v0 (view c.look-2.new.registers) (view c.wait.new.self) c.in_default.ensures.watches c.wait.ensures.stays)
    c.read32-bits.ensures.reads (sym c.is_over.ensures ∙ c.if-is_over.true)

pub returns-clause-watches : goal.returns-clause-watches
returns-clause-watches g c =
    let view = g.R.Registers.view in
    let v0 = view c.args.registers.now in
    watches_moving_then v0 (view c.read32-bits.new.self) (view c.look-3.new.registers) c.look-3.result
    (seen_again v0 (view c.wait.new.self) (view c.read32-bits.new.self) c.read32-bits.result c.requires.rest c.requires.moving
    (seen_stays v0 (view c.look-2.new.registers) (view c.wait.new.self) c.in_default.ensures.watches c.wait.ensures.stays)
    c.read32-bits.ensures.reads (sym c.is_over.ensures ∙ c.if-is_over.false))
    c.look-3.ensures.watches
