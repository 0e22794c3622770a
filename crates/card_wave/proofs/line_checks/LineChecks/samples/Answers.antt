use Rattle.card_wave.specs.BlockSamples.{check_samples}
use Rattle.card_wave.proofs.line_checks.LineChecks.samples.Goals as goal

pub returns : goal.returns
unfolding check_samples
returns c block h =
    let e15 = c.sample.ensures block h in
    let e14 = c.sample-2.ensures block h in
    let e13 = c.sample-3.ensures block h in
    let e12 = c.sample-4.ensures block h in
    let e11 = c.sample-5.ensures block h in
    let e10 = c.sample-6.ensures block h in
    let e9 = c.sample-7.ensures block h in
    let e8 = c.sample-8.ensures block h in
    let e7 = c.sample-9.ensures block h in
    let e6 = c.sample-10.ensures block h in
    let e5 = c.sample-11.ensures block h in
    let e4 = c.sample-12.ensures block h in
    let e3 = c.sample-13.ensures block h in
    let e2 = c.sample-14.ensures block h in
    let e1 = c.sample-15.ensures block h in
    let e0 = c.sample-16.ensures block h in
    cc
