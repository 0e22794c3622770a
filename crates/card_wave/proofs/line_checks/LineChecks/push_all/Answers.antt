use Rattle.std.proofs.Common.{◌++◌, take, ap, sym, ◌∙◌, subst, append_assoc, append-nil}
use Rattle.std.proofs.lemmas.List.{take_more, take_all}
use Rattle.card_wave.specs.BlockSamples.{AreChecks}
use Rattle.card_wave.proofs.line_checks.LineChecks.push_all.Goals as goal

pub loop-sample-init : goal.loop-sample-init
loop-sample-init c block h = subst (AreChecks c.args.self.now.of_line) (sym (append-nil block)) h

pub loop-sample-preserved : goal.loop-sample-preserved
loop-sample-preserved c block h =
    let samples = c.args.samples.now in
    let i = c.loop-sample.sample-index in
    subst (AreChecks c.push.new.self.of_line)
    (append_assoc block (take i samples) _
    ∙ ap (λ l. block ++ l) (sym (take_more samples i _ c.loop-sample-test.true)))
    (c.push.ensures (block ++ take i samples) (c.loop-sample.invariant block h))

pub returns : goal.returns
returns c block h =
    subst (λ l. AreChecks c.loop-sample.self.of_line (block ++ l))
    (take_all c.loop-sample.sample-index c.args.samples.now c.loop-sample-test.false) (c.loop-sample.invariant block h)
