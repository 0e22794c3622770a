use Rattle.std.proofs.Common.{◌==◌, arith, sym}
use Rattle.std.proofs.lemmas.List.Sums.{prefix_len_is}
use Rattle.std.proofs.lemmas.Bool.{eq-eqb, ne_eqb}
use Rattle.text_out.proofs.repeats.repeat_len.Goals as goal

pub returns-else-bytes-count-clause-count : goal.returns-else-bytes-count-clause-count
returns-else-bytes-count-clause-count c =
    sym (prefix_len_is (λ b. b == c.args.byte) c.args.bytes.now c.loop-count.count 0 c.loop-count.invariant.within
    (λ k lt. eq-eqb _ _ (c.loop-count.invariant.same k lt)) (λ lt. ne_eqb _ _ c.if-bytes-count.false))

pub returns-after-loop-count-clause-count : goal.returns-after-loop-count-clause-count
returns-after-loop-count-clause-count c =
    sym (prefix_len_is (λ b. b == c.args.byte) c.args.bytes.now c.loop-count.count 0 c.loop-count.invariant.within
    (λ k lt. eq-eqb _ _ (c.loop-count.invariant.same k lt)) (λ lt. absurd (omega arith)))
