use Rattle.std.proofs.Common.{◌++◌, ◌-◌, ◌≡◌, ◌≤◌, length, replicate}
use Rattle.std.specs.Prelude.{vec_capacity}
use Rattle.sparse_sectors.proofs.chunk.grow.Given as goal

abbrev pub invariant-loop-front : goal.invariant-loop-front
invariant-loop-front l = record {
  more : length l.fn.front.items ≤ length l.front.items;
  grown : l.front.items ≡ l.fn.front.items ++ replicate (length l.front.items - length l.fn.front.items) l.fn.blank;
  few : length l.front.items - l.count ≤ length l.fn.front.items - l.count;
  room : vec_capacity l.fn.front ≤ vec_capacity l.front;
}

abbrev pub decreases-loop-front : goal.decreases-loop-front
decreases-loop-front l = l.count - length l.front.items
