use Rattle.std.proofs.Common.{◌∙◌, ap, arith, sym}
use Rattle.mmc_slots.specs.declared.slot.Slot.{Slot}
use Rattle.mmc_slots.proofs.GapLemmas.{all_closed, left_free, moved_up}
use Rattle.mmc_slots.proofs.submission.close_gaps.Goals as goal
use Rattle.mmc_slots.proofs.submission.close_gaps.Goals.{else-slot-ne-FREE, then-slot-ne-FREE}

pub loop-from-preserved : goal.loop-from-preserved
loop-from-preserved c =
    let was = c.args.slots.now in
    let now = c.loop-from.slots in
    let to = c.loop-from.to in
    let from = c.loop-from.from in
    let long = c.loop-from.auto.slots in
    let below = c.loop-from-test.true in
    elim c.if-slot-ne-FREE.branch [
      | then-slot-ne-FREE w ↦ rw (w.to-is, w.slots-is, w.put_state.ensures, c.slot_at-slot.ensures)
          (moved_up to from now was c.loop-from.invariant (omega (arith, below, long)) long
          (λ h. w.if-slot-ne-FREE.true (ap (λ (s : Slot). s.state) c.slot_at-slot.ensures ∙ h)))
      | else-slot-ne-FREE w ↦ rw (w.to-is, w.slots-is)
          (left_free to from now was c.loop-from.invariant (omega (arith, below, long))
          (ap (λ (s : Slot). s.state) (sym c.slot_at-slot.ensures) ∙ w.if-slot-ne-FREE.false))
    ]

pub returns-clause-same : goal.returns-clause-same
returns-clause-same c =
    let long = c.loop-from.auto.slots in
    let past = c.loop-from-test.false in
    all_closed c.loop-from.to c.loop-from.from c.loop-from.slots c.args.slots.now c.loop-from.invariant long (omega (arith, past, long))
