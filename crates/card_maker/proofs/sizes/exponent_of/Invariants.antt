use Rattle.std.proofs.Common.{◌≤◌, ◌<◌, ◌*◌, ◌^◌, ◌-◌}
use Rattle.card_maker.proofs.sizes.exponent_of.Given as goal

abbrev pub invariant-loop-exponent : goal.invariant-loop-exponent
invariant-loop-exponent l = record {
  least : 2 ≤ l.exponent;
  most : l.exponent ≤ 10;
  needed : 2 < l.exponent → 4096 * 2 ^ (l.exponent - 1) < l.sectors;
}

abbrev pub decreases-loop-exponent : goal.decreases-loop-exponent
decreases-loop-exponent l = 10 - l.exponent
