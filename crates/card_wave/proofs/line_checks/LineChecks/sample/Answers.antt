use Rattle.std.proofs.Common.{◌<◌, ℕ, ap, ◌∙◌, lit<}
use Rattle.card_wave.specs.BlockSamples.{check_level, check_sample}
use Rattle.card_wave.proofs.line_checks.LineChecks.sample.Goals as goal

pub returns-in-One : goal.returns-in-One
unfolding check_sample
returns-in-One c block h =
    let at = λ (k : ℕ) (lt : k < 8). ap (λ n. check_level c.args.is_sound n c.args.place) (h k lt) in
    let l0 = c.level.ensures ∙ at 0 (lit< tt) in
    rw (c.in-One.is, ← l0) c.on_one_line.ensures

pub returns-in-Four : goal.returns-in-Four
unfolding check_sample
returns-in-Four c block h =
    let at = λ (k : ℕ) (lt : k < 8). ap (λ n. check_level c.args.is_sound n c.args.place) (h k lt) in
    let l3 = c.level-in-Four.ensures ∙ at 3 (lit< tt) in
    let l2 = c.level-in-Four-2.ensures ∙ at 2 (lit< tt) in
    let l1 = c.level-in-Four-3.ensures ∙ at 1 (lit< tt) in
    let l0 = c.level-in-Four-4.ensures ∙ at 0 (lit< tt) in
    rw (c.in-Four.is, ← l3, ← l2, ← l1, ← l0) c.on_four_lines.ensures

pub returns-in-Eight : goal.returns-in-Eight
unfolding check_sample
returns-in-Eight c block h =
    let at = λ (k : ℕ) (lt : k < 8). ap (λ n. check_level c.args.is_sound n c.args.place) (h k lt) in
    let l7 = c.level-in-Eight.ensures ∙ at 7 (lit< tt) in
    let l6 = c.level-in-Eight-2.ensures ∙ at 6 (lit< tt) in
    let l5 = c.level-in-Eight-3.ensures ∙ at 5 (lit< tt) in
    let l4 = c.level-in-Eight-4.ensures ∙ at 4 (lit< tt) in
    let l3 = c.level-in-Eight-5.ensures ∙ at 3 (lit< tt) in
    let l2 = c.level-in-Eight-6.ensures ∙ at 2 (lit< tt) in
    let l1 = c.level-in-Eight-7.ensures ∙ at 1 (lit< tt) in
    let l0 = c.level-in-Eight-8.ensures ∙ at 0 (lit< tt) in
    rw (c.in-Eight.is, ← l7, ← l6, ← l5, ← l4, ← l3, ← l2, ← l1, ← l0) c.on_eight_lines.ensures
