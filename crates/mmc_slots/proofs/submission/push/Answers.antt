use Rattle.std.proofs.Common.{◌++◌, ◌∙◌, ◌≡◌, ◌≢◌, ◌≤◌, ◌∷◌, List, [], ap, arith, length, refl, sym, ℕ}
use Rattle.std.specs.Prelude.{◌==◌, slice_set}
use Rattle.std.proofs.lemmas.Bool.{ne_eqb}
use Rattle.std.proofs.lemmas.List.{append-nil}
use Rattle.mmc_queue.specs.declared.entry.Entry.{Entry}
use Rattle.mmc_slots.specs.Slots.{AreFreeFrom, entries_in, entry_of, in_state, taken}
use Rattle.mmc_slots.specs.declared.slot.Slot.{Slot}
use Rattle.mmc_slots.proofs.GapLemmas.{all_taken, all_unchanged, entries_more, ordered_more, placed}
use Rattle.mmc_slots.proofs.SlotLemmas.{kept_no}
use Rattle.mmc_slots.proofs.submission.push.Goals as goal

pub returns-then-place-slots-clause-unchanged : goal.returns-then-place-slots-clause-unchanged
returns-then-place-slots-clause-unchanged c =
    all_unchanged c.make_room-place.new.slots c.args.slots.now c.make_room-place.ensures.same c.make_room-place.auto.slots
    (c.make_room-place.ensures.full c.if-place-slots.true)

pub returns-then-place-slots-clause-others : goal.returns-then-place-slots-clause-others
returns-then-place-slots-clause-others c = λ m state free waits.
    ap (entries_in m state)
    (all_unchanged c.make_room-place.new.slots c.args.slots.now c.make_room-place.ensures.same c.make_room-place.auto.slots
    (c.make_room-place.ensures.full c.if-place-slots.true))

pub returns-then-place-slots-clause-full : goal.returns-then-place-slots-clause-full
returns-then-place-slots-clause-full c = all_taken c.args.slots.now (c.make_room-place.ensures.full c.if-place-slots.true)

-- a request in the room that was made
one_more : (request : Slot) (place : ℕ) (ss was : List Slot) → place ≤ length ss → place ≢ length ss → AreFreeFrom place ss
    → taken ss ≡ taken was
    → taken (slice_set ss place (in_state 1 request)) ≡ taken was ++ in_state 1 request ∷ []
one_more request place ss was most within free same =
    placed ss place (in_state 1 request) free (omega (arith, most, within)) (λ h. omega (arith, h))
    ∙ ap (λ (xs : List Slot). xs ++ in_state 1 request ∷ []) same

pub returns-clause-taken : goal.returns-clause-taken
returns-clause-taken c =
    let e = c.make_room-place.ensures in
    one_more c.args.request c.make_room-place.result c.make_room-place.new.slots c.args.slots.now e.most c.if-place-slots.false e.free
    e.same

pub returns-clause-waits : goal.returns-clause-waits
returns-clause-waits c = λ m.
    let e = c.make_room-place.ensures in
    let s : Slot = in_state 1 c.args.request in
    let ss = c.make_room-place.new.slots in
    entries_more m 1 (slice_set ss c.make_room-place.result s) c.args.slots.now s (λ h. omega (arith, h))
    (one_more c.args.request c.make_room-place.result ss c.args.slots.now e.most c.if-place-slots.false e.free e.same)

pub returns-clause-others : goal.returns-clause-others
returns-clause-others c = λ m state free waits.
    let e = c.make_room-place.ensures in
    let s : Slot = in_state 1 c.args.request in
    let ss = c.make_room-place.new.slots in
    entries_more m state (slice_set ss c.make_room-place.result s) c.args.slots.now s free
    (one_more c.args.request c.make_room-place.result ss c.args.slots.now e.most c.if-place-slots.false e.free e.same)
    ∙ ap (λ (es : List Entry). entries_in m state c.args.slots.now ++ es)
    (kept_no (entry_of m) (λ x. x.state == state) s [] (ne_eqb 1 state (λ h. waits (sym h))))
    ∙ append-nil (entries_in m state c.args.slots.now)

pub returns-clause-ordered : goal.returns-clause-ordered
returns-clause-ordered c = λ up.
    let e = c.make_room-place.ensures in
    let s : Slot = in_state 1 c.args.request in
    let ss = c.make_room-place.new.slots in
    ordered_more c.args.request.ticket (slice_set ss c.make_room-place.result s) c.args.slots.now s refl
    (one_more c.args.request c.make_room-place.result ss c.args.slots.now e.most c.if-place-slots.false e.free e.same) up
