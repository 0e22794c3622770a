use Rattle.std.proofs.Common.{◌∙◌, inr, refl, subst, sym}
use Rattle.mmc_queue.specs.Search.{StandsAlike}
use Rattle.mmc_queue.specs.Waiting.{Ascend}
use Rattle.mmc_queue.specs.declared.place.Place.{Place}
use Rattle.mmc_queue.proofs.OrderLemmas.{ascend_from}
use Rattle.mmc_queue.proofs.SearchLemmas.{Covers, better_parts, covers_all, covers_passed, covers_taken, in_range, lower_still}
use Rattle.mmc_queue.proofs.queue.Queue.lower_at.Goals as goal

pub loop-place-init : goal.loop-place-init
loop-place-init c =
    let m = c.self.inside.by_ticket in
    let places = c.self.inside.places.items in
    let extent = c.args.extent.now in
    let first : Place = record { part = extent.part; kind = extent.kind; edge = c.args.edge; sector = c.args.sector; ticket = 0 } in
    let is = c.into_iter-place-iterator.ensures.into_iter_gives ∙ c.range-place-items.ensures.between c.new.ensures.exhausted in (
      c.requires,
      (λ t h. h),
      (λ t s may. inr
          (rw (is, c.new.ensures.start, c.new.ensures.end)
          (in_range m places extent c.args.edge c.args.sector first t c.self.invariant refl
          (subst (λ ws. StandsAlike extent ws c.args.edge c.args.sector t) (sym c.self.view_is) s)))),
    )

pub loop-place-preserved-then-is_better : goal.loop-place-preserved-then-is_better
loop-place-preserved-then-is_better c =
    let extent = c.args.extent.now in
    let p = c.in-Some.place.now in
    let best = c.loop-place.best in
    let parts = better_parts extent c.args.self.now p.ticket best (sym c.is_better.ensures ∙ c.if-is_better.true) in (
      parts.1,
      (λ t h. lower_still best p.ticket t parts.0 (c.loop-place.invariant.1 t h)),
      (λ t s may. covers_taken best p c.next.new.self t parts.0
          (subst (λ ps. Covers best ps t) c.in-Some.ensures.steps (c.loop-place.invariant.2 t s may))),
    )

pub loop-place-preserved : goal.loop-place-preserved
loop-place-preserved c =
    let extent = c.args.extent.now in
    let p = c.in-Some.place.now in
    let best = c.loop-place.best in (
      c.loop-place.invariant.0,
      c.loop-place.invariant.1,
      (λ t s may. covers_passed extent c.args.self.now best p c.next.new.self t (sym c.is_better.ensures ∙ c.if-is_better.false) may
          (subst (λ ps. Covers best ps t) c.in-Some.ensures.steps (c.loop-place.invariant.2 t s may))),
    )

pub returns-clause-ascend : goal.returns-clause-ascend
returns-clause-ascend c =
    subst (Ascend 0) c.self.view_is (ascend_from c.self.inside.by_ticket.entries c.self.invariant.keyed c.self.invariant.ordered)

pub returns-clause-lowest : goal.returns-clause-lowest
returns-clause-lowest c t s may =
    covers_all c.loop-place.best t
    (subst (λ ps. Covers c.loop-place.best ps t) c.in-None.ensures.steps.0 (c.loop-place.invariant.2 t s may))
