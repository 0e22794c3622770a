use Rattle.std.proofs.Common.{◌+◌, ◌<◌, ◌≡◌, ◌≤◌, Some, true}
use Rattle.mmc_bus.proofs.ClosingLemmas.{Asking}
use Rattle.mmc_bus.specs.Heard.{cause_of}
use Rattle.mmc_bus.specs.declared.cause.Cause.TheVariants.{Status}
use Rattle.mmc_bus.proofs.status.confirm_within.Given as goal

abbrev pub invariant-loop-statuses : goal.invariant-loop-statuses
invariant-loop-statuses g l =
    ((g.B.Bus.view l.bus).is_kept ≡ true
    → Asking l.fn.kind l.fn.rca (g.B.Bus.view l.initial.bus) l._statuses (g.B.Bus.view l.bus))
    × ((g.B.Bus.view l.bus).exchanges ≤ (g.B.Bus.view l.initial.bus).exchanges + l._statuses)
    × (0 < l._statuses → cause_of (g.B.Bus.view l.bus).last ≡ Some Status)
