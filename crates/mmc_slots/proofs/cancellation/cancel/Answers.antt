use Rattle.std.proofs.Common.{[], ◌&&◌, ◌∙◌, ◌≡◌, Bool, ap, arith, false, refl, subst, sym, true, ℕ}
use Rattle.std.specs.Prelude.{◌==◌, All}
use Rattle.std.proofs.lemmas.Bool.{and_from, eq-eqb, true≢false}
use Rattle.std.proofs.lemmas.List.{take_all}
use Rattle.std.proofs.lemmas.List.Elements.{All-more}
use Rattle.mmc_slots.specs.Cancelled.{is_request}
use Rattle.mmc_slots.specs.Slots.{AreOrdered, entry_of, free_slot, slot_at}
use Rattle.mmc_slots.specs.declared.slot.Slot.{Slot}
use Rattle.mmc_slots.proofs.SlotLemmas.{one_leaves, ordered_without, others_stay, same_marked}
use Rattle.mmc_slots.proofs.WorkLemmas.{one_given_back}
use Rattle.mmc_slots.proofs.cancellation.cancel.Goals as goal

pub returns-then-has-clause-taken : goal.returns-then-has-clause-taken
returns-then-has-clause-taken c = λ m.
    let below = c.loop-k-test.true in
    let is : (slot_at c.loop-k.slots c.loop-k.k).state ≡ 1 = cc in
    rw (c.put_state.ensures, c.slot_at-slot.ensures, ← c.loop-k.invariant.same)
    (one_leaves m 1 0 c.loop-k.slots c.loop-k.k (omega (arith, below)) is (λ h. omega (arith, h)))

pub returns-then-has-clause-others : goal.returns-then-has-clause-others
returns-then-has-clause-others c = λ m state free waits.
    let below = c.loop-k-test.true in
    let is : (slot_at c.loop-k.slots c.loop-k.k).state ≡ 1 = cc in
    rw (c.put_state.ensures, ← c.loop-k.invariant.same)
    (others_stay m state 0 c.loop-k.slots c.loop-k.k (omega (arith, below)) (λ h. waits (sym h ∙ is)) (λ h. free (sym h)))

pub returns-then-has-clause-less : goal.returns-then-has-clause-less
returns-then-has-clause-less c =
    one_given_back (λ t. []) (entry_of (λ t. []) c.slot_at-slot.result) c.args.slots.now c.put_state.new.slots
    (returns-then-has-clause-taken c (λ t. [])) (returns-then-has-clause-others c (λ t. []))

pub returns-then-has-clause-ordered : goal.returns-then-has-clause-ordered
returns-then-has-clause-ordered c = λ next up.
    let below = c.loop-k-test.true in
    let is : (slot_at c.loop-k.slots c.loop-k.k).state ≡ 1 = cc in
    rw c.put_state.ensures
    (ordered_without next c.loop-k.slots c.loop-k.k (omega (arith, below)) (λ h. omega (arith, is, h))
    (subst (AreOrdered next) (sym c.loop-k.invariant.same) up))

pub returns-then-has-clause-same : goal.returns-then-has-clause-same
returns-then-has-clause-same c =
    rw (c.put_state.ensures, ← c.loop-k.invariant.same) (same_marked 0 c.loop-k.slots c.loop-k.k)

none_by : (s : Slot) (ticket : ℕ) (is : Bool) → is_request s ≡ is → (is_request s && (s.ticket == ticket)) ≡ false → s.ticket ≡ ticket
    → is ≡ false
none_by s ticket true request h is =
    absurd (true≢false (sym (and_from (is_request s) (s.ticket == ticket) request (eq-eqb s.ticket ticket is)) ∙ h))
none_by s ticket false request h is = refl

pub loop-k-preserved : goal.loop-k-preserved
loop-k-preserved c =
    let below = c.loop-k-test.true in
    let ss = c.loop-k.slots in
    let k = c.loop-k.k in
    let test = ap (λ (s : Slot). is_request s && (s.ticket == c.args.ticket)) (sym c.slot_at-slot.ensures)
    ∙ sym c.has.ensures ∙ c.if-has.false in
    record {
      same = c.loop-k.invariant.same;
      none = All-more (λ s. s.ticket ≡ c.args.ticket → is_request s ≡ false) ss k free_slot (omega (arith, below)) c.loop-k.invariant.none
          (none_by (slot_at ss k) c.args.ticket (is_request (slot_at ss k)) refl test);
    }

pub returns-clause-why : goal.returns-clause-why
returns-clause-why c =
    let past = c.loop-k-test.false in
    let whole = take_all c.loop-k.k c.loop-k.slots (omega (arith, past)) ∙ c.loop-k.invariant.same in
    subst (All (λ (s : Slot). s.ticket ≡ c.args.ticket → is_request s ≡ false)) whole c.loop-k.invariant.none
