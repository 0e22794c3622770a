-- Those in service can be served as one extent, whatever lies in their memory.
use Rattle.std.proofs.Common.{◌∙◌, ◌≡◌, ◌∷◌, Bool, List, [], arith, false, filter, if◌then◌else◌, length, map, refl, subst, sym, true, ℕ}
use Rattle.std.specs.Prelude.{◌==◌}
use Rattle.std.proofs.lemmas.Bool.Decides.{nat_tests}
use Rattle.mmc_queue.specs.Group.{IsJoined}
use Rattle.mmc_queue.specs.declared.entry.Entry.{Entry}
use Rattle.mmc_slots.specs.Slots.{Memory, entries_in, entry_of}
use Rattle.mmc_slots.specs.declared.slot.Slot.{Slot}
use Rattle.mmc_slots.specs.declared.slot.TheConstants.{TOGETHER}
use Rattle.mmc_turns.specs.Agrees.{lent_more}
use Rattle.mmc_turns.specs.Serving.{AsLong, ServedStay}
use Rattle.mmc_turns.proofs.LentLemmas.{same_lent}

-- Nobody is in a state by one memory who isn't by another.

none_as : (memory after : Memory) (slots : List Slot) → map (entry_of memory) slots ≡ [] → map (entry_of after) slots ≡ []
none_as memory after [] none = refl
none_as memory after (s ∷ ss) none = absurd cc

pub none_in : (memory after : Memory) (state : ℕ) (slots : List Slot) → entries_in memory state slots ≡ [] → entries_in after state slots ≡ []
none_in memory after state slots none = none_as memory after (filter (λ s. s.state == state) slots) none

some_as : (memory after : Memory) (slots : List Slot) (e : Entry) (es : List Entry) → map (entry_of memory) slots ≡ e ∷ es
    → (first : Entry) × (others : List Entry) × (map (entry_of after) slots ≡ first ∷ others)
some_as memory after [] e es some = absurd cc
some_as memory after (s ∷ ss) e es some = (entry_of after s, map (entry_of after) ss, refl)

pub some_in : (memory after : Memory) (state : ℕ) (slots : List Slot) (e : Entry) (es : List Entry) → entries_in memory state slots ≡ e ∷ es
    → (first : Entry) × (others : List Entry) × (entries_in after state slots ≡ first ∷ others)
some_in memory after state slots e es some = some_as memory after (filter (λ s. s.state == state) slots) e es some

-- Those in service stay.

-- with what was lent before for this ticket in place of what is lent now
as_long_before : (memory after : Memory) (next : ℕ) (bytes : List ℕ) → AsLong (lent_more memory next bytes) after
    → AsLong memory (lent_more after next (memory next))
as_long_before memory after next bytes as_long t = by_test (t == next) refl
  where
    by_test : (is : Bool) → (t == next) ≡ is → length (if is then memory next else after t) ≡ length (memory t)
    by_test true is = let same : t ≡ next = grind (arith, nat_tests, is) in rw same refl
    by_test false is = let there : length (after t) ≡ length (if (t == next) then bytes else memory t) = as_long t in rw is at there

pub served_stay : ServedStay
served_stay = record {
  accepted = λ info memory bytes old new extent next card machine a joined others after as_long.
      subst (λ es. IsJoined es extent)
      (same_lent after next (memory next) TOGETHER old (λ h. cc) a.ordered ∙ sym (others after TOGETHER (λ h. cc) (λ h. cc)))
      (joined (lent_more after next (memory next)) (as_long_before memory after next bytes as_long));
  none = λ memory after old new none others. others after TOGETHER (λ h. cc) (λ h. cc) ∙ none_in memory after TOGETHER old none;
  given_back = λ memory old new extent joined others after as_long.
      subst (λ es. IsJoined es extent) (sym (others after TOGETHER (λ h. cc) (λ h. cc))) (joined after as_long);
}
