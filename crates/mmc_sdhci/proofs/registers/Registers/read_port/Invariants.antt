use Rattle.std.proofs.Common.{◌*◌, ◌++◌, ◌≡◌, length, take}
use Rattle.mmc_sdhci.specs.Controller.{Settled}
use Rattle.mmc_sdhci.proofs.registers.Registers.read_port.Given as goal

abbrev pub invariant-loop-i : goal.invariant-loop-i
invariant-loop-i g l =
    (length l.block ≡ length l.initial.block)
    × Settled (g.Self.Registers.view l.initial.self)
    (length (g.Self.Registers.view l.initial.self).incoming ≡ length l.block
    → ((g.Self.Registers.view l.initial.self).incoming
    ≡ take (4 * l.i) l.block ++ (g.Self.Registers.view l.self).incoming)
    × (g.Self.Registers.view l.self
    ≡ record (g.Self.Registers.view l.initial.self) { incoming = (g.Self.Registers.view l.self).incoming }))
    (g.Self.Registers.view l.self)
