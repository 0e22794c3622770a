use Rattle.std.proofs.Common.{ap, drop, arith, refl, subst, take, ◌*◌, ◌∙◌, ◌≡◌, ℕ}
use Rattle.std.proofs.lemmas.List.{drop-drop, take_all}
use Rattle.nbd_server.specs.Parts.{AreWindows, IsWritten, Window}
use Rattle.nbd_server.proofs.LongLemmas.{nothing_yet, one_more, parts_failed}
use Rattle.nbd_server.proofs.PartsLemmas.{bytes_next, failed_later}
use Rattle.nbd_server.proofs.long.write_long.Goals as goal

pub loop-done-init : goal.loop-done-init
loop-done-init g c =
    record { so_far = nothing_yet g.B.Bus.view _ _ _ c.requires.none c.requires.cleared; left = refl; within = omega arith }

pub returns-in_err-write_window-clause-leads : goal.returns-in_err-write_window-clause-leads
returns-in_err-write_window-clause-leads g c =
    let (acts, of_parts, leads, nothing, failed) = c.in_err-write_window.ensures.leads in
    let h = c.loop-done.invariant.so_far in
    parts_failed g.B.Bus.view _ _ _ h.acts acts c.from_residual.result c.in_err-write_window.field-0.0 _ c.from_residual.ensures.0
    c.from_residual.ensures.1 h.of_parts of_parts h.leads leads (λ is. failed_later h.acts acts (failed is))

pub loop-done-preserved : goal.loop-done-preserved
loop-done-preserved g c =
    let (acts, of_parts, leads, is, nothing) = c.in_ok-write_window.ensures.leads in
    let done = c.loop-done.done in
    let count = c.after-next.result.count in
    let left = c.loop-done.invariant.left in
    let one : Window = record { count = count; acts = acts; bytes = take (512 * count) (drop (512 * done) c.args.bytes) } in
    record {
      so_far = rw (bytes_next done count c.args.bytes) (one_more g.B.Bus.view _ _ _
          (λ (from : ℕ) (w : Window). IsWritten c.args.part from w.count w.acts w.bytes) c.args.span.start done _
          (take (512 * done) c.args.bytes) one c.loop-done.invariant.so_far of_parts leads c.after-next.ensures.start
          (subst (λ bytes. IsWritten c.args.part c.after-next.result.start count acts (take (512 * count) bytes)) left is)
          c.in_ok-write_window.ensures.none c.in_ok-write_window.ensures.cleared);
      left = c.in_ok-write_window.ensures.taken ∙ ap (drop (512 * count)) left ∙ drop-drop (512 * count) (512 * done) c.args.bytes
          ∙ ap (λ k. drop k c.args.bytes) (omega arith);
      within = omega (arith, c.after-next.ensures.count, c.loop-done-test.true);
    }

pub returns-clause-leads : goal.returns-clause-leads
returns-clause-leads g c =
    let h = c.loop-done.invariant.so_far in
    let within = c.loop-done.invariant.within in
    let all : c.loop-done.done ≡ c.args.span.count = omega (arith, within, c.loop-done-test.false) in
    let whole = c.requires.whole in (
      h.acts,
      h.of_parts,
      h.leads,
      (
        h.windows,
        h.served,
        subst (λ n. AreWindows h.windows n h.acts c.args.bytes) all
            (subst (AreWindows h.windows c.loop-done.done h.acts) (take_all (512 * c.loop-done.done) c.args.bytes (omega (arith, all, whole))) h.are),
      ),
      tt,
    )
