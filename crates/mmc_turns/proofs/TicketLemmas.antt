-- Who has a ticket.
use Rattle.std.proofs.Common.{◌<◌, ◌∙◌, ◌≡◌, ◌≢◌, ◌∷◌, ◌||◌, ◌⊎◌, Bool, List, [], arith, false, get_or, inl, inr, length, refl, subst, suc, sym, true, zero, ℕ}
use Rattle.std.specs.Prelude.{◌==◌, All, Any}
use Rattle.std.proofs.lemmas.Bool.{false≢true}
use Rattle.std.proofs.lemmas.Bool.Decides.{nat_tests}
use Rattle.std.proofs.lemmas.List.Elements.{All-head, All-tail}
use Rattle.mmc_block.specs.Entries.{waits_of}
use Rattle.mmc_block.specs.Machine.{IsTicketOf}
use Rattle.mmc_slots.specs.Cancelled.{is_request}
use Rattle.mmc_slots.specs.Slots.{Memory, entries_in}
use Rattle.mmc_slots.specs.declared.slot.Slot.{Slot}
use Rattle.mmc_slots.specs.declared.slot.TheConstants.{ALONE, TOGETHER, WAITS}

same_number : (m n : ℕ) → (m == n) ≡ true → m ≡ n
same_number m n h = grind (arith, nat_tests)

-- A slot of the state with the ticket is one of those.

module _ (memory : Memory) (state ticket : ℕ) where
  abbrev Has : List Slot → Type 0
  Has slots = IsTicketOf ticket (waits_of (entries_in memory state slots))

  has_first : (s : Slot) (ss : List Slot) → (s.state == state) ≡ true → s.ticket ≡ ticket → Has (s ∷ ss)
  has_first s ss is same = rw is (inl (sym same))

  has_later : (s : Slot) (ss : List Slot) (is : Bool) → (s.state == state) ≡ is → Has ss → Has (s ∷ ss)
  has_later s ss true is has = rw is (inr has)
  has_later s ss false is has = rw is has

  has_one : (s : Slot) (ss : List Slot) (is : Bool) → (s.state == state) ≡ is → Has (s ∷ ss)
      → ((s.state ≡ state) × (ticket ≡ s.ticket)) ⊎ Has ss
  has_one s ss true is has =
      elim (rw is at has) [
        | inl same ↦ inl (same_number s.state state is, same)
        | inr later ↦ inr later
      ]
  has_one s ss false is has = inr (rw is at has)

  -- none of these holds a request with the ticket
  pub has_none : (slots : List Slot) → ((s : Slot) → s.state ≡ state → is_request s ≡ true)
      → All (λ s. s.ticket ≡ ticket → is_request s ≡ false) slots → Has slots → ⊥
  has_none [] request none has = has
  has_none (s ∷ ss) request none has =
      elim (has_one s ss (s.state == state) refl has) [
        | inl here ↦ false≢true (sym (All-head (λ s. s.ticket ≡ ticket → is_request s ≡ false) s ss none (sym here.1)) ∙ request s here.0)
        | inr later ↦ has_none ss request (All-tail (λ s. s.ticket ≡ ticket → is_request s ≡ false) s ss none) later
      ]

either : (a b c : Bool) → (a || (b || c)) ≡ true → a ≡ false → (b ≡ true) ⊎ (c ≡ true)
either true b c some not = absurd (false≢true (sym not))
either false true c some not = inl refl
either false false c some not = inr some

other : (m n : ℕ) → m ≢ n → (m == n) ≡ false
other m n h = grind (arith, nat_tests)

abbrev Serves : Memory → ℕ → List Slot → Type 0
Serves memory ticket slots =
    IsTicketOf ticket (waits_of (entries_in memory TOGETHER slots)) ⊎ IsTicketOf ticket (waits_of (entries_in memory ALONE slots))

abbrev Is : ℕ → Slot → Type 0
Is ticket s = (s.ticket ≡ ticket) × (is_request s ≡ true) × (s.state ≢ WAITS)

serves_at : (memory : Memory) (ticket : ℕ) (slots : List Slot) (k : ℕ) (x : Slot) → k < length slots → get_or slots k x ≡ x → Is ticket x
    → Serves memory ticket slots
serves_at memory ticket [] k x below at is = absurd (omega (arith, below))
serves_at memory ticket (s ∷ ss) zero x below at is =
    let here : Is ticket s = subst (Is ticket) (sym at) is in
    elim (either (s.state == WAITS) (s.state == TOGETHER) (s.state == ALONE) here.1 (other s.state WAITS here.2)) [
      | inl together ↦ inl (has_first memory TOGETHER ticket s ss together here.0)
      | inr alone ↦ inr (has_first memory ALONE ticket s ss alone here.0)
    ]
serves_at memory ticket (s ∷ ss) (suc k) x below at is =
    elim (serves_at memory ticket ss k x (omega (arith, below)) at is) [
      | inl later ↦ inl (has_later memory TOGETHER ticket s ss (s.state == TOGETHER) refl later)
      | inr later ↦ inr (has_later memory ALONE ticket s ss (s.state == ALONE) refl later)
    ]

-- one with it that doesn't wait is in service
pub is_served : (memory : Memory) (ticket : ℕ) (slots : List Slot) → Any (Is ticket) slots → Serves memory ticket slots
is_served memory ticket slots some = serves_at memory ticket slots some.0 some.1 some.2 some.3 some.4
