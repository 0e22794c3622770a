use Rattle.std.proofs.Common.{◌∙◌, ◌≡◌, [], ap, arith, sym}
use Rattle.mmc_queue.specs.Rule.{widened}
use Rattle.mmc_queue.specs.declared.extent.Extent.{Extent}
use Rattle.mmc_slots.specs.Slots.{Memory, SameButStates, entries_in, request_of, slot_at}
use Rattle.mmc_slots.specs.declared.slot.Slot.{Slot}
use Rattle.mmc_slots.proofs.GroupLemmas.{few_members, one_joins, one_more}
use Rattle.mmc_slots.proofs.SlotLemmas.{ordered_still, others_stay, same_marked}
use Rattle.mmc_slots.proofs.service.grow.Goals as goal

pub slot_at-requires : goal.slot_at-requires
slot_at-requires c = (c.in-Some.ensures (λ t. [])).below

pub put_state-requires : goal.put_state-requires
put_state-requires c = (c.in-Some.ensures (λ t. [])).below

pub widened-extent-requires-clause-few : goal.widened-extent-requires-clause-few
widened-extent-requires-clause-few c =
    few_members (λ t. []) c.args.most c.loop-joined.extent c.loop-joined.slots c.in-Some.k (c.in-Some.ensures (λ t. []))

pub loop-joined-preserved : goal.loop-joined-preserved
loop-joined-preserved c =
    let before = c.loop-joined.invariant in
    let ss = c.loop-joined.slots in
    let extent = c.loop-joined.extent in
    let k = c.in-Some.k in
    let n = c.in-Some.ensures (λ t. []) in
    let is = n.is in
    let few = few_members (λ t. []) c.args.most extent ss k n in
    let some = before.some in
    let wide : (m : Memory) → c.widened-extent.result ≡ widened extent (request_of m (slot_at ss k)) =
    λ m. c.widened-extent.ensures (request_of m c.slot_at.result) (c.asked.ensures.asked m)
    ∙ ap (λ (s : Slot). widened extent (request_of m s)) c.slot_at.ensures in
    let more = ap (λ (x : Extent). x.members) (wide (λ t. [])) ∙ one_more extent (request_of (λ t. []) (slot_at ss k)) in
    record {
      some = omega (arith, more, some);
      few = omega (arith, more, few);
      grown = λ m next waits up g.
          rw (c.put_state.ensures, wide m)
          (one_joins m c.args.most next waits extent ss k (before.ordered next up) (c.in-Some.ensures m) (before.grown m next waits up g));
      others = λ m state waits together.
          ap (entries_in m state) c.put_state.ensures
          ∙ others_stay m state 2 ss k n.below (λ h. waits (sym h ∙ is)) (λ h. together (sym h)) ∙ before.others m state waits together;
      same = let one : SameButStates ss c.put_state.new.slots = rw c.put_state.ensures (same_marked 2 ss k) in one ∙ before.same;
      ordered = λ next up.
          rw c.put_state.ensures
          (ordered_still next 2 ss k n.below (λ h. omega (arith, is, h)) (λ h. omega (arith, h)) (before.ordered next up));
    }
