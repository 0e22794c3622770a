use Rattle.std.proofs.Common.{◌≡◌, ◌<◌, ◌++◌, take, replicate, false}
use Rattle.mmc_frame.specs.Check.{bits_of, remainder}
use Rattle.mmc_frame.proofs.check.check_of.Given as goal

abbrev pub invariant-loop-byte : goal.invariant-loop-byte
invariant-loop-byte l = record {
  small : l.check < 128;
  so_far : l.check ≡ remainder (bits_of (take l.byte-index l.bytes) ++ replicate 7 false);
}
