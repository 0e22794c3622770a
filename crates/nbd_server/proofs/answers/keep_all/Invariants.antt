use Rattle.std.proofs.Common.{◌+◌, ◌++◌, ◌≡◌, length}
use Rattle.std.specs.Prelude.{IsPermutation}
use Rattle.nbd_server.proofs.answers.keep_all.Given as goal

abbrev pub invariant-loop-last : goal.invariant-loop-last
invariant-loop-last l = record {
  longer : length l.all.items + length l.given.items ≡ length l.fn.all.items + length l.fn.given.items;
  kept : IsPermutation (l.fn.all.items ++ l.fn.given.items) (l.all.items ++ l.given.items);
}

abbrev pub decreases-loop-last : goal.decreases-loop-last
decreases-loop-last l = length l.given.items
