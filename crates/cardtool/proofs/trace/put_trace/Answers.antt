use Rattle.text_out.proofs.WritingLemmas.{front_before, writes_after, writes_failed}
use Rattle.mmc_bus.specs.ExchangeText.{lines_text}
use Rattle.mmc_bus.specs.Trace.{last_of}
use Rattle.cardtool.specs.Whole.{trace_line}
use Rattle.std.proofs.Common.{length}
use Rattle.cardtool.proofs.trace.put_trace.Goals as goal

pub returns-in_err-put_pieces-clause-written : goal.returns-in_err-put_pieces-clause-written
returns-in_err-put_pieces-clause-written g c =
    let kept = last_of c.args.n c.args.bus.now.exchanges in
    writes_failed _ _ _ _ c.from_residual.ensures.0
    (front_before _ _ (trace_line (length kept)) (lines_text kept)
    (rw c.shown-count.ensures.count at c.in_err-put_pieces.ensures))

pub returns-clause-written : goal.returns-clause-written
returns-clause-written g c =
    let kept = last_of c.args.n c.args.bus.now.exchanges in
    writes_after _ _ _ _ (trace_line (length kept)) (lines_text kept)
    (rw c.shown-count.ensures.count at c.in_ok-put_pieces.ensures) c.write_last.ensures
