use Rattle.std.proofs.Common.{◌≡◌, ◌+◌, drop}
use Rattle.mmc_card_rows.specs.Sizes.{total}
use Rattle.card_check.proofs.registers.total.Given as goal

-- the sizes so far and those to come are all sizes
abbrev pub invariant-loop-size : goal.invariant-loop-size
invariant-loop-size l = l.sum + total (drop l.size-index l.sizes) ≡ total l.fn.sizes
