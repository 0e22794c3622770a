use Rattle.std.proofs.Common.{arith}
use Rattle.card_wave.proofs.CheckLemmas.{shown_push}
use Rattle.card_wave.proofs.line_checks.LineChecks.push.Goals as goal

pub returns : goal.returns
returns c =
    shown_push c.args.self.now.of_line c.loop-line.self.of_line c.args.sample.now
    (λ k lt. c.loop-line.invariant.pushed k (omega arith))
