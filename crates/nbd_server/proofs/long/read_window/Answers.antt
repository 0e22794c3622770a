use Rattle.std.proofs.Common.{subst, ◌++◌}
use Rattle.nbd_server.specs.Parts.{AreAnswered}
use Rattle.nbd_server.proofs.DeskLemmas.{leads_then, of_parts_then}
use Rattle.nbd_server.proofs.PartsLemmas.{if_ok_then, window_read}
use Rattle.nbd_server.proofs.LongLemmas.{parts_failed}
use Rattle.mmc_queue.specs.declared.request.Request.TheVariants.{Read}
use Rattle.nbd_server.specs.Parts.{IsData, Lacks, sectors_of}
use Rattle.nbd_server.proofs.PartsLemmas.{if_err_then, window_failed}
use Rattle.std.proofs.Common.{ℕ, ◌*◌, ◌+◌}
use Rattle.nbd_server.proofs.long.read_window.Goals as goal

pub returns-in_err-asked-clause-leads : goal.returns-in_err-asked-clause-leads
returns-in_err-asked-clause-leads g c =
    let (xs, of_xs, leads_xs, none, failed) = c.in_err-asked.ensures.leads in
    let (ys, of_ys, leads_ys, answers) = c.gather-given.ensures.leads in
    parts_failed g.B.Bus.view _ _ _ xs ys c.from_residual.result c.in_err-asked.field-0.0 _ c.from_residual.ensures.0
    c.from_residual.ensures.1 of_xs of_ys leads_xs leads_ys (λ is. absurd (c.in_err-asked.ensures.refused is))

pub returns-clause-leads : goal.returns-clause-leads
returns-clause-leads g c =
    let (xs, of_xs, leads_xs, none, asked) = c.in_ok-asked.ensures.leads in
    let (ys, of_ys, leads_ys, answers) = c.gather-given.ensures.leads in
    let same = c.as_slice.ensures.value in (
      xs ++ ys,
      of_parts_then xs ys of_xs of_ys,
      leads_then g.B.Bus.view _ _ _ xs ys leads_xs leads_ys,
      if_ok_then c.join.result _ _
          (λ done (more, after, long, answered). (
            more,
            after,
            window_read c.args.part c.args.span.start c.args.span.count c.in_ok-asked.field-0 xs ys c.gather-given.result.items more none asked.0 asked.1
                answers long (subst (λ given. AreAnswered given c.args.span.count c.in_ok-asked.field-0 more) same answered),
          ))
          c.join.ensures.joined,
      if_err_then c.join.result _ _
          (λ error failed is. let (n, less, lacks) = failed is in
          window_failed (λ (n : ℕ). Read c.args.part (c.args.span.start + 16 * n) (sectors_of c.args.span.count n)) c.in_ok-asked.field-0 xs ys
          c.gather-given.result.items n none asked.1 answers less
          (subst (λ given. Lacks (IsData (sectors_of c.args.span.count n)) given n) same lacks))
          c.join.ensures.failed,
    )
