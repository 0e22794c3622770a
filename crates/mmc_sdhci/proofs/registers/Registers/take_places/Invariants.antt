use Rattle.std.proofs.Common.{[], ◌*◌, ◌+◌, ◌<◌, ◌≡◌, List, Some, length, ℕ}
use Rattle.std.specs.Prelude.{slice_index_or, slice_range}
use Rattle.mmc_sdhci.specs.Controller.{Settled}
use Rattle.mmc_sdhci.specs.Lent.{Come}
use Rattle.mmc_sdhci.proofs.registers.Registers.take_places.Given as goal

abbrev pub invariant-loop-i : goal.invariant-loop-i
invariant-loop-i g l =
    let v0 = g.Self.Registers.view l.initial.self in
    let v = g.Self.Registers.view l.self in
    (length l.blocks ≡ length l.initial.blocks)
    × Settled v0
    ((v ≡ v0)
    × ((come : List (List ℕ)) → v0.dma.lent ≡ Some (Come come) → (j : ℕ) → j < l.i
    → slice_range l.blocks (512 * j) (512 * j + 512) ≡ slice_index_or come (l.index + j) []))
    v
