use Rattle.std.proofs.Common.{◌+◌, ◌≡◌, ◌<◌, ◌≤◌, Some, true}
use Rattle.mmc_bus.specs.Heard.{cause_of}
use Rattle.mmc_bus.specs.declared.cause.Cause.TheVariants.{Busy}
use Rattle.mmc_bus.proofs.PollLemmas.{Polling}
use Rattle.mmc_bus.proofs.wait.count_polls.Given as goal

abbrev pub invariant-loop-polls : goal.invariant-loop-polls
invariant-loop-polls g l =
    ((g.B.Bus.view l.bus).is_kept ≡ true → Polling (g.B.Bus.view l.initial.bus) l.polls (g.B.Bus.view l.bus))
    × ((g.B.Bus.view l.bus).exchanges ≤ (g.B.Bus.view l.initial.bus).exchanges + l.polls)
    × (0 < l.polls → cause_of (g.B.Bus.view l.bus).last ≡ Some Busy)
    × ((g.B.Bus.view l.bus).lines ≡ (g.B.Bus.view l.initial.bus).lines)
