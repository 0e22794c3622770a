use Rattle.std.proofs.Common.{◌∙◌, ap, arith, sym}
use Rattle.mmc_slots.specs.declared.slot.Slot.{Slot}
use Rattle.mmc_slots.proofs.ServedLemmas.{one_left, one_moved}
use Rattle.mmc_slots.proofs.conclusion.put_all.Goals as goal
use Rattle.mmc_slots.proofs.conclusion.put_all.Goals.{else-slot_at-eq-TOGETHER, then-slot_at-eq-TOGETHER}

pub loop-k-preserved : goal.loop-k-preserved
loop-k-preserved c =
    let was = c.args.slots.now in
    let now = c.loop-k.slots in
    let k = c.loop-k.k in
    let state = c.args.state in
    let long = c.loop-k.auto.slots in
    let below = c.loop-k-test.true in
    elim c.if-slot_at-eq-TOGETHER.branch [
      | then-slot_at-eq-TOGETHER w ↦ rw (w.slots-is, w.put_state.ensures)
          (one_moved state k now was c.loop-k.invariant (omega (arith, below, long)) long
          (ap (λ (s : Slot). s.state) (sym c.slot_at.ensures) ∙ w.if-slot_at-eq-TOGETHER.true))
      | else-slot_at-eq-TOGETHER w ↦ rw w.slots-is
          (one_left state k now was c.loop-k.invariant (omega (arith, below, long)) long
          (λ h. w.if-slot_at-eq-TOGETHER.false (ap (λ (s : Slot). s.state) c.slot_at.ensures ∙ h)))
    ]
