-- What lies in the memory of a request hangs on its ticket alone.
use Rattle.std.proofs.Common.{◌+◌, ◌<◌, ◌∙◌, ◌≡◌, ◌≢◌, ◌≤◌, ◌∷◌, Bool, List, [], ap, arith, false, refl, sym, true, ℕ}
use Rattle.std.specs.Prelude.{◌==◌, if◌then◌else◌}
use Rattle.std.proofs.lemmas.Bool.Decides.{nat_tests}
use Rattle.mmc_queue.specs.declared.entry.Entry.{Entry}
use Rattle.mmc_slots.specs.Slots.{AreOrdered, AscendWithin, Memory, entries_in, entry_of, tickets}
use Rattle.mmc_slots.specs.declared.slot.Slot.{Slot}
use Rattle.mmc_slots.specs.declared.slot.TheConstants.{FREE}
use Rattle.mmc_turns.specs.Agrees.{lent_more}

pub same_entry : (memory other : Memory) (s : Slot) → other s.ticket ≡ memory s.ticket → entry_of other s ≡ entry_of memory s
same_entry memory other s same = ap (λ (bytes : List ℕ). entry_of (λ ticket. bytes) s) same

ascend_below : (low next : ℕ) (ts : List ℕ) → AscendWithin low next ts → low ≤ next
ascend_below low next [] up = up
ascend_below low next (t ∷ ts) up =
    let first = up.0 in
    let rest = ascend_below (t + 1) next ts up.1 in omega (arith, first, rest)

same_number : (m n : ℕ) → (m == n) ≡ true → m ≡ n
same_number m n h = grind (arith, nat_tests)

-- the entries of a state that isn't that of free slots
abbrev entries_by : Memory → Bool → Slot → List Entry → List Entry
entries_by memory is s rest = if is then (entry_of memory s ∷ rest) else rest

module _ (memory other : Memory) (state next : ℕ) (some : state ≢ FREE) (agree : (t : ℕ) → t < next → other t ≡ memory t) where
  abbrev AreSame : List Slot → Type 0
  AreSame slots = entries_in other state slots ≡ entries_in memory state slots

  one_more : (low : ℕ) (s : Slot) (ss : List Slot) (is free : Bool) → (s.state == state) ≡ is → (s.state == FREE) ≡ free
      → AscendWithin low next (tickets (s ∷ ss)) → ((from : ℕ) → AscendWithin from next (tickets ss) → AreSame ss) → AreSame (s ∷ ss)
  one_more low s ss true true is free up rest = absurd (some (sym (same_number s.state state is) ∙ same_number s.state FREE free))
  one_more low s ss true false is free up rest =
      let here : AscendWithin low next (s.ticket ∷ tickets ss) = rw free at up in
      let below = ascend_below (s.ticket + 1) next (tickets ss) here.1 in
      rw (is, same_entry memory other s (agree s.ticket (omega (arith, below))), rest (s.ticket + 1) here.1) refl
  one_more low s ss false true is free up rest =
      let here : AscendWithin low next (tickets ss) = rw free at up in rw is (rest low here)
  one_more low s ss false false is free up rest =
      let here : AscendWithin low next (s.ticket ∷ tickets ss) = rw free at up in rw is (rest (s.ticket + 1) here.1)

  same_within : (low : ℕ) (slots : List Slot) → AscendWithin low next (tickets slots) → AreSame slots
  same_within low [] up = refl
  same_within low (s ∷ ss) up =
      one_more low s ss (s.state == state) (s.state == FREE) refl refl up (λ from rest. same_within from ss rest)

lent_before : (memory : Memory) (next : ℕ) (bytes : List ℕ) (t : ℕ) → t < next → lent_more memory next bytes t ≡ memory t
lent_before memory next bytes t below =
    let other : (t == next) ≡ false = grind (arith, nat_tests, below) in rw other refl

-- What is lent for a later ticket changes no request.
pub same_lent : (memory : Memory) (next : ℕ) (bytes : List ℕ) (state : ℕ) (slots : List Slot) → state ≢ FREE → AreOrdered next slots
    → entries_in (lent_more memory next bytes) state slots ≡ entries_in memory state slots
same_lent memory next bytes state slots some up =
    same_within memory (lent_more memory next bytes) state next some (lent_before memory next bytes) 0 slots up
