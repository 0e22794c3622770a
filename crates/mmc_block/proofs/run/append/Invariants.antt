-- Those that are appended so far and those that are left, which are taken from the end, are all answers, and there is room for the rest.
use Rattle.std.proofs.Common.{◌+◌, ◌++◌, ◌≡◌, ◌≤◌, length, reverse, vec_capacity, vec_len}
use Rattle.mmc_block.proofs.run.append.Given as goal

abbrev pub invariant-loop-completion : goal.invariant-loop-completion
invariant-loop-completion l = record {
  told : l.all.items ++ reverse l.answers.items ≡ l.fn.all.items ++ l.fn.answers.items;
  len : vec_len l.all + length l.answers.items ≡ vec_len l.fn.all + length l.fn.answers.items;
  room : vec_len l.all + length l.answers.items ≤ vec_capacity l.all;
  capacity : vec_capacity l.fn.all ≤ vec_capacity l.all;
}

abbrev pub decreases-loop-completion : goal.decreases-loop-completion
decreases-loop-completion l = length l.answers.items
