use Rattle.std.proofs.Common.{length, ◌-◌, ◌≡◌, ◌<◌, ℕ, ◌≤◌, get_or}
use Rattle.text_out.proofs.repeats.sure_len.Given as goal

abbrev pub invariant-loop-count : goal.invariant-loop-count
invariant-loop-count l = record {
  within : l.count ≤ length l.bytes;
  same : (k : ℕ) → k < l.count → get_or l.bytes k 0 ≡ l.byte;
}

abbrev pub decreases-loop-count : goal.decreases-loop-count
decreases-loop-count l = length l.bytes - l.count
