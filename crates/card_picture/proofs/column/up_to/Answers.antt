use Rattle.std.proofs.Common.{◌≤◌, ◌∙◌, arith, length, sym}
use Rattle.std.proofs.Math.Seq.{take-length}
use Rattle.card_picture.proofs.ColumnLemmas.{up_to_is}
use Rattle.card_picture.proofs.column.up_to.Goals as goal

pub returns-then-byte-end : goal.returns-then-byte-end
returns-then-byte-end c =
    sym (up_to_is c.args.end c.args.text.now c.loop-count.count c.loop-count.auto.count-end c.loop-count.invariant
    (λ lt. c.if-byte-end.true))

pub returns : goal.returns
returns c =
    let all : length c.args.text.now ≤ c.loop-count.count = omega arith in
    sym (up_to_is c.args.end c.args.text.now (length c.args.text.now) (omega arith)
    (λ k lt. c.loop-count.invariant k (omega arith)) (λ lt. absurd (omega arith)) ∙ take-length c.args.text.now)
