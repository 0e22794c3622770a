use Rattle.std.proofs.Common.{◌+◌, ◌≡◌, drop}
use Rattle.mmc_card_rows.specs.Sizes.{total}
use Rattle.mmc_card_rows.proofs.store.total.Given as goal

abbrev pub invariant-loop-size : goal.invariant-loop-size
invariant-loop-size l = l.sum + total (drop l.size-index l.sizes) ≡ total l.sizes
