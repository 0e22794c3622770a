use Rattle.std.proofs.Common.{◌≡◌, true, ℕ}
use Rattle.mmc_queue.specs.Search.{BestMay, NotAbove, StandsAlike, may_join_at}
use Rattle.mmc_queue.proofs.SearchLemmas.{Covers}
use Rattle.mmc_queue.proofs.queue.Queue.lower_at.Given as goal

abbrev pub invariant-loop-place : goal.invariant-loop-place
invariant-loop-place l =
    BestMay l.extent l.self l.best × ((t : ℕ) → NotAbove l.fn.best t → NotAbove l.best t)
    × ((t : ℕ) → StandsAlike l.extent l.self l.fn.edge l.sector t → may_join_at l.extent l.self t ≡ true → Covers l.best l.place-iterator t)
