use Rattle.std.proofs.Common.{ap, arith, drop, length, refl, take, ◌*◌, ◌+◌, ◌∙◌, ◌≡◌, ℕ}
use Rattle.std.proofs.lemmas.List.{drop-drop}
use Rattle.mmc_queue.specs.declared.request.Request.TheVariants.{Write}
use Rattle.nbd_server.specs.Parts.{bytes_of_part, sectors_of}
use Rattle.nbd_server.proofs.PartsLemmas.{all_of, next_part, rest_left, whole_or_rest, write_is}
use Rattle.nbd_server.proofs.LongLemmas.{none_more, none_yet, one_asked}
use Rattle.nbd_server.proofs.long.ask_writes.Goals as goal

pub loop-number-init : goal.loop-number-init
loop-number-init g c = record { asked = none_yet g.B.Bus.view _ _; left = refl }

pub loop-number-preserved : goal.loop-number-preserved
loop-number-preserved g c =
    let (acts, of_parts, leads, none, asked) = c.in_ok-ask_part.ensures.leads in
    let n = c.loop-number.number in
    let count = c.args.span.count in
    let whole = take (512 * count) c.args.bytes.now in
    record {
      asked = one_asked g.B.Bus.view _ _ _
          (λ (n : ℕ). Write c.args.part (c.args.span.start + 16 * n) (sectors_of count n) (bytes_of_part whole count n))
          n _ acts c.loop-number.invariant.asked of_parts leads none asked
          (write_is c.args.part c.args.span.start count n c.after-start.result.start c.after-start.result.count whole c.next_piece.result
          c.after-start.ensures.start c.after-start.ensures.count
          (c.next_piece.ensures.piece ∙ ap (take 8192) c.loop-number.invariant.left
          ∙ next_part c.args.bytes.now count n c.requires.whole (omega arith) (whole_or_rest count (length c.args.bytes.now) c.requires.few c.requires.rest)));
      left = c.next_piece.ensures.rest ∙ ap (drop 8192) c.loop-number.invariant.left ∙ drop-drop 8192 (8192 * n) c.args.bytes.now
          ∙ ap (λ k. drop k c.args.bytes.now) (omega arith);
    }

pub returns-in_err-ask_part-clause-leads : goal.returns-in_err-ask_part-clause-leads
returns-in_err-ask_part-clause-leads g c =
    let (acts, of_parts, leads, none, asked) = c.in_err-ask_part.ensures.leads in
    none_more g.B.Bus.view _ _ _ _ c.loop-number.number acts c.from_residual.result _ c.loop-number.invariant.asked of_parts leads none
    c.from_residual.ensures.0

pub returns-clause-leads : goal.returns-clause-leads
returns-clause-leads g c =
    let h = c.loop-number.invariant.asked in
    let last : c.loop-number.number ≡ c.div_ceil-parts.result = omega (arith, c.loop-number-test.false, c.loop-number.auto.number-end) in
    (h.acts, h.of_parts, h.leads, h.none, (all_of c.args.span.count c.div_ceil-parts.result c.div_ceil-parts.ensures, rw last at h.asked))

pub returns-clause-taken : goal.returns-clause-taken
returns-clause-taken g c =
    let last : c.loop-number.number ≡ c.div_ceil-parts.result = omega (arith, c.loop-number-test.false, c.loop-number.auto.number-end) in
    c.loop-number.invariant.left
    ∙ ap (λ n. drop (8192 * n) c.args.bytes.now) last
    ∙ rest_left c.args.bytes.now c.args.span.count c.div_ceil-parts.result
    (all_of c.args.span.count c.div_ceil-parts.result c.div_ceil-parts.ensures)
    (whole_or_rest c.args.span.count (length c.args.bytes.now) c.requires.few c.requires.rest)
