use Rattle.std.proofs.Common.{[], arith, subst, ℕ}
use Rattle.nbd_server.specs.Parts.{AreWindows, IsRead, Window}
use Rattle.nbd_server.proofs.DeskLemmas.{leads_none, no_parts}
use Rattle.nbd_server.proofs.LongLemmas.{nothing_yet, one_more, parts_failed}
use Rattle.nbd_server.proofs.PartsLemmas.{failed_later}
use Rattle.nbd_server.proofs.long.read_long.Goals as goal

pub returns-in_default-clause-leads : goal.returns-in_default-clause-leads
returns-in_default-clause-leads g c = ([], no_parts, leads_none g.B.Bus.view _, tt, λ is. absurd cc)

pub loop-done-init : goal.loop-done-init
loop-done-init g c = record {
  so_far = rw c.in-Ok.ensures.items (nothing_yet g.B.Bus.view _ _ _ c.requires.none c.requires.cleared);
  within = omega arith;
}

pub returns-in_err-read_window-clause-leads : goal.returns-in_err-read_window-clause-leads
returns-in_err-read_window-clause-leads g c =
    let (acts, of_parts, leads, nothing, failed) = c.in_err-read_window.ensures.leads in
    let h = c.loop-done.invariant.so_far in
    parts_failed g.B.Bus.view _ _ _ h.acts acts c.from_residual.result c.in_err-read_window.field-0.0 _ c.from_residual.ensures.0
    c.from_residual.ensures.1 h.of_parts of_parts h.leads leads (λ is. failed_later h.acts acts (failed is))

pub loop-done-preserved : goal.loop-done-preserved
loop-done-preserved g c =
    let (acts, of_parts, leads, (more, after, is), nothing) = c.in_ok-read_window.ensures.leads in
    let one : Window = record { count = c.after-next.result.count; acts = acts; bytes = more } in
    record {
      so_far = rw after (one_more g.B.Bus.view _ _ _ (λ (from : ℕ) (w : Window). IsRead c.args.part from w.count w.acts w.bytes)
          c.args.span.start c.loop-done.done _ c.loop-done.bytes.items one c.loop-done.invariant.so_far of_parts leads
          c.after-next.ensures.start is c.in_ok-read_window.ensures.none c.in_ok-read_window.ensures.cleared);
      within = omega (arith, c.after-next.ensures.count, c.loop-done-test.true);
    }

pub returns-clause-leads : goal.returns-clause-leads
returns-clause-leads g c =
    let h = c.loop-done.invariant.so_far in
    let all = c.loop-done.invariant.within in (
      h.acts,
      h.of_parts,
      h.leads,
      (h.windows, h.served, subst (λ n. AreWindows h.windows n h.acts c.loop-done.bytes.items) (omega (arith, all, c.loop-done-test.false)) h.are),
      tt,
    )
