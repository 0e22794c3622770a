use Rattle.std.proofs.Common.{◌∙◌, Some, refl, sym}
use Rattle.mmc_sdhci.proofs.Glancing.{ready_cleared, seeking_still, watch_again, watch_over, watched_stays, watched_then, watches_then}
use Rattle.mmc_sdhci.proofs.watching.wait.Goals as goal

pub returns-in-Some-clause-watches : goal.returns-in-Some-clause-watches
returns-in-Some-clause-watches g c =
    let view = g.R.Registers.view in
    watches_then c.args.sought (view c.args.registers.now) (view c.write32.new.self) (view c.look_often.new.registers)
    (Some c.in-Some.seen) c.requires
    (ready_cleared (view c.args.registers.now) (view c.write32.new.self) c.write32.ensures.writes) c.in-Some.ensures.watches

pub returns-then-is_over-clause-watches : goal.returns-then-is_over-clause-watches
returns-then-is_over-clause-watches g c =
    let view = g.R.Registers.view in
    let v0 = view c.args.registers.now in
    let cleared = ready_cleared v0 (view c.write32.new.self) c.write32.ensures.writes in
    watch_over c.args.sought v0 (view c.wait.new.self) (view c.look-seen.new.registers) c.look-seen.result c.requires
    (watched_stays v0 (view c.look_often.new.registers) (view c.wait.new.self)
    (watched_then v0 (view c.write32.new.self) (view c.look_often.new.registers) cleared c.in_default.ensures.watches)
    c.wait.ensures.stays)
    c.look-seen.ensures.glances (sym c.is_over.ensures ∙ c.if-is_over.true)

pub look_often-requires-2 : goal.look_often-requires-2
look_often-requires-2 g c =
    let view = g.R.Registers.view in
    let v0 = view c.args.registers.now in
    let last = view c.look-seen.new.registers in
    let cleared = ready_cleared v0 (view c.write32.new.self) c.write32.ensures.writes in
    seeking_still c.args.sought v0 last c.requires
    (watch_again c.args.sought v0 (view c.wait.new.self) last last c.look-seen.result c.requires
    (watched_stays v0 (view c.look_often.new.registers) (view c.wait.new.self)
    (watched_then v0 (view c.write32.new.self) (view c.look_often.new.registers) cleared c.in_default.ensures.watches)
    c.wait.ensures.stays)
    c.look-seen.ensures.glances (sym c.is_over.ensures ∙ c.if-is_over.false) (λ kept. (kept, refl)))

pub returns-clause-watches : goal.returns-clause-watches
returns-clause-watches g c =
    let view = g.R.Registers.view in
    let v0 = view c.args.registers.now in
    let last = view c.look-seen.new.registers in
    let cleared = ready_cleared v0 (view c.write32.new.self) c.write32.ensures.writes in
    watches_then c.args.sought v0 last (view c.look_often-2.new.registers) c.look_often-2.result c.requires
    (watch_again c.args.sought v0 (view c.wait.new.self) last last c.look-seen.result c.requires
    (watched_stays v0 (view c.look_often.new.registers) (view c.wait.new.self)
    (watched_then v0 (view c.write32.new.self) (view c.look_often.new.registers) cleared c.in_default.ensures.watches)
    c.wait.ensures.stays)
    c.look-seen.ensures.glances (sym c.is_over.ensures ∙ c.if-is_over.false) (λ kept. (kept, refl)))
    c.look_often-2.ensures.watches
