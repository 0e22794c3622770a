use Rattle.std.proofs.Common.{◌≡◌, ℕ, List, ◌++◌, drop, length}
use Rattle.mmc_bus.specs.Trace.{last_of}
use Rattle.std.specs.Io.KnownBytes.{Appends}
use Rattle.mmc_bus.specs.ExchangeText.{lines_text}
use Rattle.mmc_bus.proofs.trace.TraceBus.write_last.Given as goal

abbrev pub invariant-loop-i : goal.invariant-loop-i
invariant-loop-i g l =
    (front : List ℕ) × (lines_text (last_of l.fn.most l.self-inside.last.items) ≡ front ++ lines_text
    (drop l.i l.self-inside.last.items))
    × Appends (g.W.Write.contents l.fn.out) (g.W.Write.contents l.out) front
    × (l.fn.self.exchanges ≡ l.self-inside.last.items) × (l.i-end ≡ length l.self-inside.last.items)
