use Rattle.std.proofs.Common.{◌≡◌, ℕ, ◌<◌, ◌≤◌, get_or, false}
use Rattle.card_wave.proofs.Linear.{pushed_check}
use Rattle.card_wave.proofs.line_checks.LineChecks.push.Given as goal

abbrev pub invariant-loop-line : goal.invariant-loop-line
invariant-loop-line l = record {
  pushed : (k : ℕ) → k < l.line
      → get_or l.self.of_line k 0 ≡ pushed_check (get_or l.fn.self.of_line k 0) (get_or l.fn.sample.dat k false);
  left : (k : ℕ) → l.line ≤ k → get_or l.self.of_line k 0 ≡ get_or l.fn.self.of_line k 0;
}
