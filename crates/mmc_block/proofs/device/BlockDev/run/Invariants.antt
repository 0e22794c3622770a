-- The turns so far, and there is room for the answers to come.
use Rattle.std.proofs.Common.{◌+◌, ◌≡◌, ◌≤◌, [], vec_capacity, vec_len}
use Rattle.mmc_block.specs.Device.{unanswered_of, work_of}
use Rattle.mmc_block.proofs.TurnsLemmas.{TurnsSoFar}
use Rattle.mmc_block.proofs.device.BlockDev.run.Given as goal

abbrev pub invariant-loop-self : goal.invariant-loop-self
invariant-loop-self g l = record {
  so_far : TurnsSoFar g.B.Bus.view l.fn.self l.self l.answers.items;
  room : vec_len l.answers + unanswered_of l.self ≤ vec_capacity l.answers;
  none : l.given.items ≡ [];
}

abbrev pub decreases-loop-self : goal.decreases-loop-self
decreases-loop-self g l = work_of l.self
