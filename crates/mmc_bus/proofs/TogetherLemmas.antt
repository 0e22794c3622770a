-- A command and the blocks after it, exchange by exchange.
use Rattle.std.proofs.Common.{◌<◌, ◌∙◌, ◌≡◌, ◌≤◌, List, ap, arith, length, refl, suc, zero, ℕ}
use Rattle.std.proofs.lemmas.List.{length-set}
use Rattle.std.specs.Prelude.{slice_set}
use Rattle.mmc_card.specs.BusView.{BusView}
use Rattle.mmc_card.specs.Card.{IsCard}
use Rattle.mmc_card.specs.Faults.{FallNoMore}
use Rattle.mmc_card.specs.declared.exchange.Exchange.{Exchange}
use Rattle.mmc_card.specs.declared.exchange.DataIn.{DataIn}
use Rattle.mmc_card.specs.declared.exchange.DataOut.{DataOut}
use Rattle.mmc_bus.specs.Lending.{IsRewritten, block, nothing}
use Rattle.mmc_bus.specs.declared.moved.Moved.{Moved}
use Rattle.mmc_bus.specs.Together.{AreAccepted, AreGood, MovesAtMost, OneOf, ReadOn, RestsAfter, WrittenOn, accepted_one, good_one}
use Rattle.mmc_bus.specs.Together.{none_accepted, none_good, reads, reads_none, reads_nothing, writes, writes_none}

-- what is known of a step is known of the exchange
pub one_facts : {Step Facts : Type 0} (old : BusView) (exchange : Exchange) (new : BusView)
    → OneOf old exchange Step new → (IsCard old.card → new.limits ≡ old.limits → FallNoMore old new → Step → Facts)
    → OneOf old exchange Facts new
one_facts old exchange new e facts = record {
  lines = e.lines;
  limits = e.limits;
  last = e.last;
  exchanges = e.exchanges;
  kept = λ k. let s = e.kept k in record {
    was_kept = s.was_kept;
    was_card = s.was_card;
    step = facts s.was_card e.limits s.bounded s.step;
    is_card = s.is_card;
    bounded = s.bounded;
  };
}

-- What is known of each exchange is known of all.

module _ {V S : Type 0} {Reads Takes : V → DataIn → List ℕ → V → Type 0} {blocks : S → List (List ℕ)}
    {leave : S → ℕ → List ℕ → S} (old : V) (was : S)
    (each : (a b : V) (got : DataIn) (left : List ℕ) → Reads a got left b → Takes a got left b) where
  good_as : (k : ℕ) (new : V) (now : S) → AreGood Reads blocks leave old was k new now
      → AreGood Takes blocks leave old was k new now
  good_as k new now none_good = none_good
  good_as k new now (good_one done view then left next before below long read) =
      good_one done view then left next (good_as done view then before) below long (each view next _ left read)

  pub read_as : (moved : Moved DataIn) (new : V) (now : S)
      → ReadOn Reads blocks leave old was moved new now → ReadOn Takes blocks leave old was moved new now
  read_as moved new now (reads good next then all) = reads good next then (good_as good next then all)
  read_as moved new now (reads_nothing then lent) = reads_nothing then lent
  read_as moved new now (reads_none some view then last got left next before below long not read lent) =
      reads_none some view then last got left next (good_as some view then before) below long not
      (each view next got left read) lent

rests_as : {V : Type 0} {Rests Finds : V → V → Type 0} (finds : (a b : V) → Rests a b → Finds a b) (done : ℕ)
    (view ready : V) → RestsAfter Rests done view ready → RestsAfter Finds done view ready
rests_as finds zero view ready rests = rests
rests_as finds (suc done) view ready rests = finds view ready rests

module _ {V : Type 0} {Writes Offers : V → List ℕ → DataOut → V → Type 0} {Rests Finds : V → V → Type 0}
    {blocks : List (List ℕ)} (old : V)
    (each : (a b : V) (got : DataOut) (bytes : List ℕ) → Writes a bytes got b → Offers a bytes got b)
    (finds : (a b : V) → Rests a b → Finds a b) where
  accepted_as : (k : ℕ) (new : V) → AreAccepted Writes Rests blocks old k new
      → AreAccepted Offers Finds blocks old k new
  accepted_as k new none_accepted = none_accepted
  accepted_as k new (accepted_one done view ready next before rests below written) =
      accepted_one done view ready next (accepted_as done view before) (rests_as finds done view ready rests) below
      (each ready next _ _ written)

  pub written_as : (moved : Moved DataOut) (new : V) → WrittenOn Writes Rests blocks old moved new
      → WrittenOn Offers Finds blocks old moved new
  written_as moved new (writes good next all) = writes good next (accepted_as good next all)
  written_as moved new (writes_none some view ready got next before rests below not written) =
      writes_none some view ready got next (accepted_as some view before) (rests_as finds some view ready rests) below not
      (each ready next got _ written)

-- What was lent: blocks were left in it one after the other, and no more than there are.

abbrev pub WritesOne : {S : Type 0} → (S → List (List ℕ)) → (S → ℕ → List ℕ → S) → Type 0
WritesOne {S} blocks leave =
    (s : S) (i : ℕ) (left : List ℕ) → i < length (blocks s) → length left ≡ 512
    → blocks (leave s i left) ≡ slice_set (blocks s) i left

one_kept : {S : Type 0} (blocks : S → List (List ℕ)) {leave : S → ℕ → List ℕ → S} (one : WritesOne blocks leave)
    (was now : S) (i : ℕ) (left : List ℕ) → i < length (blocks now) → length left ≡ 512
    → length (blocks now) ≡ length (blocks was) → length (blocks (leave now i left)) ≡ length (blocks was)
one_kept blocks one was now i left below long same =
    ap (λ (xs : List (List ℕ)). length xs) (one now i left below long) ∙ length-set (blocks now) i left ∙ same

rewritten_count : {S : Type 0} (blocks : S → List (List ℕ)) {leave : S → ℕ → List ℕ → S} (one : WritesOne blocks leave)
    (was now : S) → IsRewritten blocks leave was now → length (blocks now) ≡ length (blocks was)
rewritten_count blocks one was now nothing = refl
rewritten_count blocks one was now (block then i left before below long) =
    one_kept blocks one was then i left below long (rewritten_count blocks one was then before)

module _ {V S : Type 0} {Reads : V → DataIn → List ℕ → V → Type 0} {blocks : S → List (List ℕ)}
    {leave : S → ℕ → List ℕ → S} (old : V) (was : S) (one : WritesOne blocks leave) where
  pub good_count : (k : ℕ) (new : V) (now : S) → AreGood Reads blocks leave old was k new now
      → length (blocks now) ≡ length (blocks was)
  good_count k new now none_good = refl
  good_count k new now (good_one done view then left next before below long read) =
      one_kept blocks one was then done left below long (good_count done view then before)

  pub good_few : (k : ℕ) (new : V) (now : S) → AreGood Reads blocks leave old was k new now
      → k ≤ length (blocks was)
  good_few k new now none_good = omega arith
  good_few k new now (good_one done view then left next before below long read) =
      let same = good_count done view then before in omega (arith, below, same)

  pub good_lent : (k : ℕ) (new : V) (now : S) → AreGood Reads blocks leave old was k new now
      → IsRewritten blocks leave was now
  good_lent k new now none_good = nothing
  good_lent k new now (good_one done view then left next before below long read) =
      block then done left (good_lent done view then before) below long

  pub read_count : (moved : Moved DataIn) (new : V) (now : S)
      → ReadOn Reads blocks leave old was moved new now → length (blocks now) ≡ length (blocks was)
  read_count moved new now (reads good next then all) = good_count good next then all
  read_count moved new now (reads_nothing then lent) = rewritten_count blocks one was then lent
  read_count moved new now (reads_none some view then last got left next before below long not read lent) =
      rewritten_count blocks one was last lent

  pub read_few : (moved : Moved DataIn) (new : V) (now : S)
      → ReadOn Reads blocks leave old was moved new now → MovesAtMost moved (length (blocks was))
  read_few moved new now (reads good next then all) = good_few good next then all
  read_few moved new now (reads_nothing then lent) = omega arith
  read_few moved new now (reads_none some view then last got left next before below long not read lent) =
      tt

  pub read_lent : (moved : Moved DataIn) (new : V) (now : S)
      → ReadOn Reads blocks leave old was moved new now → IsRewritten blocks leave was now
  read_lent moved new now (reads good next then all) = good_lent good next then all
  read_lent moved new now (reads_nothing then lent) = lent
  read_lent moved new now (reads_none some view then last got left next before below long not read lent) =
      lent

module _ {V : Type 0} {Writes : V → List ℕ → DataOut → V → Type 0} {Rests : V → V → Type 0}
    {blocks : List (List ℕ)} (old : V) where
  pub accepted_few : (k : ℕ) (new : V) → AreAccepted Writes Rests blocks old k new → k ≤ length blocks
  accepted_few k new none_accepted = omega arith
  accepted_few k new (accepted_one done view ready next before rests below written) = omega (arith, below)

  pub written_few : (moved : Moved DataOut) (new : V) → WrittenOn Writes Rests blocks old moved new
      → MovesAtMost moved (length blocks)
  written_few moved new (writes good next all) = accepted_few good next all
  written_few moved new (writes_none some view ready got next before rests below not written) =
      tt
