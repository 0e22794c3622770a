use Rattle.std.proofs.Common.{ap, arith, length, length-append, subst, sym, ◌++◌, ◌∙◌}
use Rattle.nbd_server.specs.Messages.{Reads}
use Rattle.nbd_server.proofs.InputLemmas.{consumes_then, was_ok}
use Rattle.nbd_server.proofs.input.pieces_of.Goals as goal

pub returns-in-None-clause-read : goal.returns-in-None-clause-read
returns-in-None-clause-read g c =
    let so_far = c.loop-left.invariant in
    let old = so_far.many in
    let same = rw c.in-None.is at c.in_ok-piece.ensures.read in
    let (skipped, many, read) = c.in_ok-skip-in-None.ensures.read in (
      c.loop-left.bytes ++ skipped,
      omega (arith, old, many, length-append c.loop-left.bytes skipped),
      tt,
      consumes_then _ _ _ c.loop-left.bytes skipped so_far.read
          (subst (λ input. Reads g.R.Read.remaining input c.skip.new.input skipped) same read),
    )

pub returns-then-is_err-clause-read : goal.returns-then-is_err-clause-read
returns-then-is_err-clause-read g c =
    let so_far = c.loop-left.invariant in
    let old = so_far.many in
    let few = c.min-some.ensures in
    let (long, read) = rw c.in-Some.is at c.in_ok-piece.ensures.read in
    let piece = c.in-Some.piece.items in
    let (skipped, many, others) = c.in_ok-skip.ensures.read in (
      (c.loop-left.bytes ++ piece) ++ skipped,
      omega (arith, old, few, long, many, length-append c.loop-left.bytes piece, length-append (c.loop-left.bytes ++ piece) skipped),
      tt,
      consumes_then _ _ _ (c.loop-left.bytes ++ piece) skipped (consumes_then _ _ _ c.loop-left.bytes piece so_far.read read) others,
    )

pub loop-left-preserved : goal.loop-left-preserved
loop-left-preserved g c =
    let so_far = c.loop-left.invariant in
    let old = so_far.many in
    let whole = so_far.whole in
    let few = c.min-some.ensures in
    let (long, read) = rw c.in-Some.is at c.in_ok-piece.ensures.read in
    let piece = c.in-Some.piece.items in
    let put = was_ok c.push.result _ (sym c.is_err.ensures.value ∙ c.if-is_err.false) c.push.ensures in
    let more = ap length put ∙ length-append c.loop-left.bytes piece in
    record {
      many = omega (arith, old, few, long, more);
      whole = λ some. let full = whole (omega (arith, some)) in omega (arith, some, few, long, more, full);
      read = subst (λ bytes. Reads g.R.Read.remaining c.args.input.now c.bytes_of.new.input bytes) (sym put)
          (consumes_then _ _ _ c.loop-left.bytes piece so_far.read read);
    }
