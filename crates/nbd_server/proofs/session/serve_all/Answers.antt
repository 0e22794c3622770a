use Rattle.std.proofs.Common.{[], ap, append-nil, arith, inl, inr, length-append, refl, subst, sym, ◌++◌, ◌∷◌}
use Rattle.nbd_server.specs.Acts.{AreTurns}
use Rattle.nbd_server.specs.Served.{Served}
use Rattle.nbd_server.proofs.DeskLemmas.{does_none, does_then}
use Rattle.nbd_server.proofs.SessionLemmas.{after_turns, does_broken, if_no_ok, ends_as, none_taken, taken_more, turns_after}
use Rattle.nbd_server.proofs.session.serve_all.Goals as goal

pub loop-served-init : goal.loop-served-init
loop-served-init g c = record {
  acts = [];
  served = [];
  does = does_none g.B.Bus.view _ _ tt;
  taken = none_taken _ _;
  count = refl;
}

pub loop-served-preserved : goal.loop-served-preserved
loop-served-preserved g c =
    let so_far = c.loop-served.invariant in
    let (ys, turns, first) = c.in_ok-settle.ensures.does in
    let (zs, second, taken) = c.in_ok-serve_message.ensures in
    let (after, next, is, its, read) = rw c.in-Ok-Some.field-0-is at c.in-Ok-Some.ensures.read in
    let message = c.in-Ok-Some.message in
    let by = rw c.if-not-branch.false at taken in
    let one : Served = record { header = message.header; bytes = next; acts = so_far.taken.turns ++ (ys ++ zs) } in
    let longer = length-append so_far.served (one ∷ []) in
    let count = so_far.count in
    record {
      acts = so_far.acts ++ (ys ++ zs);
      served = so_far.served ++ one ∷ [];
      does = does_then g.B.Bus.view _ _ _ _ _ _ tt _ so_far.acts (ys ++ zs) so_far.does
          (does_then g.B.Bus.view _ _ _ _ _ _ tt _ ys zs first second);
      taken = taken_more _ _ _ _ so_far.acts (ys ++ zs) so_far.served message.header after next _ so_far.taken is
          its (after_turns _ message.header _ ys zs turns by) read;
      count = omega (arith, longer, count);
    }

pub returns-in_err-settle : goal.returns-in_err-settle
returns-in_err-settle g c =
    let so_far = c.loop-served.invariant in
    let (ys, turns, first) = c.in_err-settle.ensures.does in (
      so_far.acts ++ ys,
      does_broken g.B.Bus.view _ _ _ _ (so_far.acts ++ ys) _ c.from_residual.result c.from_residual.ensures.0
          (does_then g.B.Bus.view _ _ _ _ _ _ tt _ so_far.acts ys so_far.does first),
      if_no_ok c.from_residual.result _ c.from_residual.ensures.0,
    )

pub returns-in-Ok-None : goal.returns-in-Ok-None
returns-in-Ok-None g c =
    let so_far = c.loop-served.invariant in
    let (ys, turns, first) = c.in_ok-settle.ensures.does in
    let (end, read) = rw c.in-Ok-None.field-0-is at c.in-Ok-None.ensures.read in (
      so_far.acts ++ ys,
      does_then g.B.Bus.view _ _ _ _ _ _ tt _ so_far.acts ys so_far.does first,
      (
        _,
        so_far.served,
        turns_after _ _ _ so_far.acts ys so_far.served so_far.taken turns,
        ([], read, inl (inl (refl, end))),
      ),
    )

pub returns-in-Err : goal.returns-in-Err
returns-in-Err g c =
    let so_far = c.loop-served.invariant in
    let (ys, turns, first) = c.in_ok-settle.ensures.does in (
      so_far.acts ++ ys,
      does_then g.B.Bus.view _ _ _ _ _ _ tt _ so_far.acts ys so_far.does first,
      (_, so_far.served, turns_after _ _ _ so_far.acts ys so_far.served so_far.taken turns, ends_as _ _ _ so_far.served c.in-Err.ensures.fault),
    )

pub returns-in_err-serve_message : goal.returns-in_err-serve_message
returns-in_err-serve_message g c =
    let so_far = c.loop-served.invariant in
    let (ys, turns, first) = c.in_ok-settle.ensures.does in
    let (zs, second, taken) = c.in_err-serve_message.ensures in
    let failed = c.from_residual-in_err-serve_message.ensures.0 in
    let result = c.from_residual-in_err-serve_message.result in (
      so_far.acts ++ (ys ++ zs),
      does_broken g.B.Bus.view _ _ _ _ (so_far.acts ++ (ys ++ zs)) _ result failed
          (does_then g.B.Bus.view _ _ _ _ _ _ tt _ so_far.acts (ys ++ zs) so_far.does
          (does_then g.B.Bus.view _ _ _ _ _ _ tt _ ys zs first second)),
      if_no_ok result _ failed,
    )

pub returns-then-not-branch : goal.returns-then-not-branch
returns-then-not-branch g c =
    let so_far = c.loop-served.invariant in
    let (ys, turns, first) = c.in_ok-settle.ensures.does in
    let (zs, second, taken) = c.in_ok-serve_message.ensures in
    let (after, next, is, given, read) = rw c.in-Ok-Some.field-0-is at c.in-Ok-Some.ensures.read in
    let (nothing, ends) = rw c.if-not-branch.true at taken in
    let more = subst AreTurns (ap (λ xs. ys ++ xs) (sym nothing)) (subst AreTurns (sym (append-nil ys)) turns) in (
      so_far.acts ++ (ys ++ zs),
      does_then g.B.Bus.view _ _ _ _ _ _ tt _ so_far.acts (ys ++ zs) so_far.does
          (does_then g.B.Bus.view _ _ _ _ _ _ tt _ ys zs first second),
      (
        _,
        so_far.served,
        turns_after _ _ _ so_far.acts (ys ++ zs) so_far.served so_far.taken more,
        (next, read, inl (inr (c.in-Ok-Some.message.header, after, ends, is))),
      ),
    )
