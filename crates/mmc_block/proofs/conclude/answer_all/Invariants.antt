-- The answers so far and those of the members that are left, which are taken from the end, are the answers to all.
use Rattle.std.proofs.Common.{◌++◌, ◌+◌, ◌≡◌, ◌≤◌, length, map, reverse}
use Rattle.mmc_queue.specs.declared.extent.TheConstants.{MAX_GROUP}
use Rattle.mmc_block.specs.Entries.{completion_of}
use Rattle.mmc_block.proofs.conclude.answer_all.Given as goal

abbrev pub invariant-loop-ticket : goal.invariant-loop-ticket
invariant-loop-ticket l = record {
  told : l.answers.items ++ map completion_of (reverse l.members.items) ≡ map completion_of l.fn.members.items;
  room : length l.answers.items + length l.members.items ≤ MAX_GROUP;
}

abbrev pub decreases-loop-ticket : goal.decreases-loop-ticket
decreases-loop-ticket l = length l.members.items
