use Rattle.std.proofs.Common.{◌≡◌, length}
use Rattle.qemu_sdhci.proofs.registers.QemuRegistersRegisters.take_place.Given as goal

abbrev pub invariant-loop-i : goal.invariant-loop-i
invariant-loop-i l = length l.block ≡ 512
