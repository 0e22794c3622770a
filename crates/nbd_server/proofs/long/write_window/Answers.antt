use Rattle.std.proofs.Common.{subst, take, ◌++◌, ◌<◌}
use Rattle.mmc_block.specs.declared.completion.Answer.TheVariants.{Done}
use Rattle.nbd_server.specs.Parts.{Has}
use Rattle.nbd_server.proofs.DeskLemmas.{leads_then, of_parts_then}
use Rattle.nbd_server.proofs.PartsLemmas.{window_written}
use Rattle.nbd_server.proofs.LongLemmas.{parts_failed}
use Rattle.mmc_queue.specs.declared.request.Request.TheVariants.{Write}
use Rattle.nbd_server.specs.Parts.{Lacks, bytes_of_part, sectors_of}
use Rattle.nbd_server.proofs.PartsLemmas.{window_failed}
use Rattle.std.proofs.Common.{ℕ, ◌≡◌, ◌*◌, ◌+◌}
use Rattle.nbd_server.proofs.long.write_window.Goals as goal

pub returns-in_err-asked-clause-leads : goal.returns-in_err-asked-clause-leads
returns-in_err-asked-clause-leads g c =
    let (xs, of_xs, leads_xs, none, failed) = c.in_err-asked.ensures.leads in
    let (ys, of_ys, leads_ys, answers) = c.gather-given.ensures.leads in
    parts_failed g.B.Bus.view _ _ _ xs ys c.from_residual.result c.in_err-asked.field-0.0 _ c.from_residual.ensures.0
    c.from_residual.ensures.1 of_xs of_ys leads_xs leads_ys (λ is. absurd (c.in_err-asked.ensures.refused is))

pub returns-then-are_done-clause-leads : goal.returns-then-are_done-clause-leads
returns-then-are_done-clause-leads g c =
    let (xs, of_xs, leads_xs, none, asked) = c.in_ok-asked.ensures.leads in
    let (ys, of_ys, leads_ys, answers) = c.gather-given.ensures.leads in (
      xs ++ ys,
      of_parts_then xs ys of_xs of_ys,
      leads_then g.B.Bus.view _ _ _ xs ys leads_xs leads_ys,
      window_written c.args.part c.args.span.start c.args.span.count c.in_ok-asked.field-0 xs ys c.gather-given.result.items
          (take (512 * c.args.span.count) c.args.bytes.now) none asked.0 asked.1 answers
          (subst (λ given. (n : ℕ) → n < c.in_ok-asked.field-0 → Has given n Done) c.as_slice.ensures.value (c.are_done.ensures.done c.if-are_done.true)),
      tt,
    )

pub returns-clause-leads : goal.returns-clause-leads
returns-clause-leads g c =
    let (xs, of_xs, leads_xs, none, asked) = c.in_ok-asked.ensures.leads in
    let (ys, of_ys, leads_ys, answers) = c.gather-given.ensures.leads in
    let bytes = take (512 * c.args.span.count) c.args.bytes.now in (
      xs ++ ys,
      of_parts_then xs ys of_xs of_ys,
      leads_then g.B.Bus.view _ _ _ xs ys leads_xs leads_ys,
      tt,
      λ is. let (n, less, lacks) = c.are_done.ensures.undone c.if-are_done.false in
          window_failed
          (λ (n : ℕ). Write c.args.part (c.args.span.start + 16 * n) (sectors_of c.args.span.count n) (bytes_of_part bytes c.args.span.count n))
          c.in_ok-asked.field-0 xs ys c.gather-given.result.items n none asked.1 answers less
          (subst (λ given. Lacks (λ answer. answer ≡ Done) given n) c.as_slice.ensures.value lacks),
    )
