-- Who may join, one slot after the other.
use Rattle.std.proofs.Common.{◌&&◌, ◌++◌, ◌+◌, ◌<◌, ◌∷◌, ◌≡◌, Bool, List, [], cond, false, length, map, subst, sym, take, true, ℕ}
use Rattle.std.specs.Prelude.{◌==◌}
use Rattle.mmc_queue.specs.Rule.{NoneMay, may_join}
use Rattle.mmc_queue.specs.declared.entry.Entry.{Entry}
use Rattle.mmc_queue.specs.declared.extent.Extent.{Extent}
use Rattle.mmc_slots.specs.Slots.{Memory, entries_in, entry_of, slot_at}
use Rattle.mmc_slots.specs.declared.slot.Slot.{Slot}
use Rattle.mmc_slots.proofs.SlotLemmas.{kept_more}

none_append : (most : ℕ) (extent : Extent) (ws xs ys : List Entry) → NoneMay most extent ws xs → NoneMay most extent ws ys
    → NoneMay most extent ws (xs ++ ys)
none_append most extent ws [] ys p q = q
none_append most extent ws (x ∷ xs) ys p q = (p.0, none_append most extent ws xs ys p.1 q)

none_by : (m : Memory) (most : ℕ) (extent : Extent) (ws : List Entry) (x : Slot) (b : Bool)
    → (b && may_join most extent ws (entry_of m x)) ≡ false → NoneMay most extent ws (map (entry_of m) (cond b (x ∷ []) []))
none_by m most extent ws x true h = (h, tt)
none_by m most extent ws x false h = tt

pub none_more : (m : Memory) (most : ℕ) (extent : Extent) (ws : List Entry) (ss : List Slot) (k : ℕ) → k < length ss
    → (((slot_at ss k).state == 1) && may_join most extent ws (entry_of m (slot_at ss k))) ≡ false
    → NoneMay most extent ws (entries_in m 1 (take k ss)) → NoneMay most extent ws (entries_in m 1 (take (k + 1) ss))
none_more m most extent ws ss k below h none =
    let x : Slot = slot_at ss k in
    subst (NoneMay most extent ws) (sym (kept_more (entry_of m) (λ s. s.state == 1) ss k below))
    (none_append most extent ws (entries_in m 1 (take k ss)) (entries_in m 1 (x ∷ [])) none
    (none_by m most extent ws x (x.state == 1) h))
