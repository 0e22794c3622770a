use Rattle.std.proofs.Common.{ℕ, ◌*◌, ◌+◌}
use Rattle.mmc_queue.specs.declared.request.Request.TheVariants.{Read}
use Rattle.nbd_server.specs.Parts.{sectors_of}
use Rattle.nbd_server.proofs.PartsLemmas.{read_is}
use Rattle.nbd_server.proofs.LongLemmas.{none_more, none_yet, one_asked}
use Rattle.nbd_server.proofs.long.ask_reads.Goals as goal

pub loop-number-init : goal.loop-number-init
loop-number-init g c = none_yet g.B.Bus.view _ _

pub loop-number-preserved : goal.loop-number-preserved
loop-number-preserved g c =
    let (acts, of_parts, leads, none, asked) = c.in_ok-ask_part.ensures.leads in
    one_asked g.B.Bus.view _ _ _
    (λ (n : ℕ). Read c.args.part (c.args.span.start + 16 * n) (sectors_of c.args.span.count n))
    c.loop-number.number _ acts c.loop-number.invariant of_parts leads none asked
    (read_is c.args.part c.args.span.start c.args.span.count c.loop-number.number c.after-start.result.start c.after-start.result.count c.after-start.ensures.start c.after-start.ensures.count)

pub returns-in_err-ask_part-clause-leads : goal.returns-in_err-ask_part-clause-leads
returns-in_err-ask_part-clause-leads g c =
    let (acts, of_parts, leads, none, asked) = c.in_err-ask_part.ensures.leads in
    none_more g.B.Bus.view _ _ _ _ c.loop-number.number acts c.from_residual.result _ c.loop-number.invariant of_parts leads none
    c.from_residual.ensures.0
