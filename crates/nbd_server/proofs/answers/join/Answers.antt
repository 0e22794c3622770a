use Rattle.std.proofs.Common.{ap, append_assoc, arith, inl, inr, sym, ◌*◌, ◌++◌, ◌∙◌}
use Rattle.nbd_server.proofs.PartsLemmas.{joined, joined_long}
use Rattle.nbd_server.proofs.answers.join.Goals as goal

pub loop-number-preserved : goal.loop-number-preserved
loop-number-preserved c =
    let so_far = c.loop-number.invariant in
    let piece = c.in-Some-data_of.piece.now in
    let (one, among, client, answer) = c.in-Some.ensures in
    let (is, full) = c.in-Some-data_of.ensures in
    let long = full ∙ ap (λ n. 512 * n) c.min-sectors.ensures in
    record {
      bytes = so_far.bytes ++ piece;
      more = grind (arith, c.extend_from_slice.ensures.items, c.is_err.ensures.value, c.if-is_err.false, so_far.more, append_assoc c.args.bytes.now.items so_far.bytes piece);
      long = joined_long c.args.count c.args.parts c.loop-number.number so_far.bytes piece c.requires c.loop-number-test.true so_far.long long;
      answered = joined c.args.given.now c.args.count c.args.parts c.loop-number.number so_far.bytes piece c.requires c.loop-number-test.true
          so_far.long long so_far.answered (one, among, client, answer ∙ is);
    }

pub returns-in_default-clause-failed : goal.returns-in_default-clause-failed
returns-in_default-clause-failed c = λ is. (c.loop-number.number, c.loop-number-test.true, inl c.in_default.ensures)

pub returns-in_default-data_of-clause-failed : goal.returns-in_default-data_of-clause-failed
returns-in_default-data_of-clause-failed c = λ is. (c.loop-number.number, c.loop-number-test.true, inr (c.in-Some.answer.now, c.in-Some.ensures, rw (sym c.min-sectors.ensures) c.in_default-data_of.ensures))
