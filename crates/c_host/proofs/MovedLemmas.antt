-- What C says of the blocks that it moved, and that nothing has to be shown of a host that isn't kept.
use Rattle.std.proofs.Common.{◌<◌, ◌≡◌, ◌≤◌, Bool, List, arith, false, length, refl, subst, suc, true, ℕ}
use Rattle.std.specs.Prelude.{◌==◌, IfSome, None, Option, Some, if◌then◌else◌}
use Rattle.std.proofs.lemmas.Bool.Decides.{nat_tests}
use Rattle.mmc_bus.proofs.TogetherLemmas.{WritesOne, good_lent}
use Rattle.mmc_bus.specs.Together.{AreGood, MovesAtMost, ReadOn, good_one, none_good, reads, reads_none}
use Rattle.mmc_bus.specs.declared.moved.Moved.{Moved}
use Rattle.mmc_bus.specs.declared.moved.Moved.TheVariants as Move
use Rattle.mmc_card.specs.declared.exchange.DataIn.{DataIn}
use Rattle.mmc_card.specs.declared.exchange.DataIn.TheVariants as Received
use Rattle.mmc_card.specs.declared.exchange.DataOut.TheVariants as Sent
use Rattle.mmc_host.specs.Hosts.{unkept_host}
use Rattle.mmc_host.specs.Together.{HostRead}
use Rattle.c_host.specs.Records.{failed_by, moved_by, refused_by, touched_by}

-- So many blocks at most, and one that failed only where there are any.

few_if : {T : Type 0} (none : Bool) (got : T) (count : ℕ) → MovesAtMost (if none then Move.Good 0 else Move.Failed got) count
few_if true got count = omega arith
few_if false got count = tt

pub few_moved : {T : Type 0} (failed : Option T) (good count : ℕ) → MovesAtMost (moved_by failed good count) count
few_moved None good count = omega arith
few_moved (Some got) good count = few_if (count == 0) got count

touched_if : (none : Bool) (got : DataIn) (count : ℕ)
    → touched_by (if none then Move.Good 0 else Move.Failed got) count ≤ count
touched_if true got count = omega arith
touched_if false got count = omega arith

pub few_touched : (failed : Option DataIn) (good count : ℕ) → touched_by (moved_by failed good count) count ≤ count
few_touched None good count = omega arith
few_touched (Some got) good count = touched_if (count == 0) got count

failed_if : {T : Type 0} (none : Bool) (x got : T) → (if none then Move.Good 0 else Move.Failed x) ≡ Move.Failed got
    → (none ≡ false) × (x ≡ got)
failed_if true x got is = cc
failed_if false x got is = (refl, cc)

some_by : (count : ℕ) → (count == 0) ≡ false → 0 < count
some_by count is = grind (arith, nat_tests)

pub some_failed : {T : Type 0} (IsOther : T → Type 0) (failed : Option T) (good count : ℕ) (got : T)
    → IfSome failed (λ x. IsOther x) → moved_by failed good count ≡ Move.Failed got → IsOther got × (0 < count)
some_failed IsOther None good count got other is = cc
some_failed IsOther (Some x) good count got other is =
    let f = failed_if (count == 0) x got is in (subst (λ y. IsOther y) f.1 other, some_by count f.0)

other_if : (none bad : Bool)
    → IfSome (if none then None else if bad then Some Received.Bad else Some Received.Nothing) (λ got. got ≡ Received.Good → ⊥)
other_if true bad = tt
other_if false true = λ is. cc
other_if false false = λ is. cc

pub is_other_in : (number : ℕ) → IfSome (failed_by number) (λ got. got ≡ Received.Good → ⊥)
is_other_in number = other_if (number == 0) (number == 1)

refused_if : (none rejected : Bool)
    → IfSome (if none then None else if rejected then Some Sent.Rejected else Some Sent.Nothing) (λ got. got ≡ Sent.Accepted → ⊥)
refused_if true rejected = tt
refused_if false true = λ is. cc
refused_if false false = λ is. cc

pub is_other_out : (number : ℕ) → IfSome (refused_by number) (λ got. got ≡ Sent.Accepted → ⊥)
is_other_out number = refused_if (number == 0) (number == 1)

-- Reads.

module _ {S : Type 0} (blocks : S → List (List ℕ)) (leave : S → ℕ → List ℕ → S) (one : WritesOne blocks leave) (was : S) where
  failing : (k : ℕ) (now : S) → AreGood HostRead blocks leave unkept_host was k unkept_host now → 0 < k
      → 0 < length (blocks was) → (got : DataIn) → (got ≡ Received.Good → ⊥)
      → ReadOn HostRead blocks leave unkept_host was (Move.Failed got) unkept_host now
  failing k now none_good some inside got not = absurd (omega (arith, some))
  failing k now (good_one done view held left next before below long read) some inside got not =
      reads_none 0 unkept_host was (leave held done left) got left next none_good inside long not (λ kept. absurd (cc))
      (good_lent unkept_host was one (suc done) next (leave held done left)
      (good_one done view held left next before below long read))

  pub all_read : (moved : Moved DataIn) (count : ℕ) (now : S) → count ≡ length (blocks was)
      → ((got : DataIn) → moved ≡ Move.Failed got → (got ≡ Received.Good → ⊥) × (0 < count))
      → AreGood HostRead blocks leave unkept_host was (touched_by moved count) unkept_host now
      → ReadOn HostRead blocks leave unkept_host was moved unkept_host now
  all_read (Move.Good good) count now full failed all = reads good unkept_host now all
  all_read (Move.Failed got) count now full failed all =
      let f = failed got refl in
      let some = f.1 in
      failing count now all some (omega (arith, some, full)) got f.0
