-- One call more of a history.
use Rattle.std.proofs.Common.{◌∙◌, ◌≡◌, ◌∷◌, ◌++◌, ◌*◌, ◌+◌, [], List, ap, arith, drop, inl, inr, length, refl, subst, suc, sym, take, true, false, ℕ, ℤ}
use Rattle.std.proofs.Math.Seq.{drop-append_seam, take-append_seam}
use Rattle.std.proofs.lemmas.List.{length-append}
use Rattle.std.specs.Prelude.{Err, IfOk, Ok, Result, pos}
use Rattle.mmc_card.proofs.Narrow.{carried_then}
use Rattle.mmc_card.specs.Card.{Card, holds}
use Rattle.mmc_card.specs.Laws.{Carried}
use Rattle.mmc_card.specs.Made.{Made}
use Rattle.mmc_card.specs.Sectors.{AreRead, Change, Sector, Sets, Within, changed, maybe_changed, pieces}
use Rattle.mmc_card.specs.declared.exchange.Lines.{Lines}
use Rattle.mmc_card.specs.declared.part.Part.{Part}
use Rattle.mmc_block.proofs.GroupLemmas.{in_as, read_changes_none}
use Rattle.mmc_block.specs.Alone.{IsServedAlone, Leaves, ServesAlone, idle}
use Rattle.mmc_block.specs.Changes.{change_of}
use Rattle.mmc_block.specs.InOrder.{AreDecided}
use Rattle.mmc_block.specs.Machine.{Machine}
use Rattle.mmc_block.specs.declared.completion.Answer.{Answer}
use Rattle.mmc_block.specs.declared.completion.Answer.TheVariants as Gave
use Rattle.mmc_direct.specs.declared.refused.NotDone.{NotDone}
use Rattle.mmc_direct.specs.declared.refused.NotDone.TheVariants.{Failed, Refused as RefusedFor}
use Rattle.mmc_requests.specs.Changes.{TakesEffect, change_by, written_at}
use Rattle.mmc_requests.specs.Kinds.{is_read}
use Rattle.mmc_requests.specs.declared.refused.Refused.{Refused}
use Rattle.mmc_requests.specs.declared.kind.Kind.{Kind}
use Rattle.mmc_requests.specs.declared.kind.Kind.TheVariants as to
use Rattle.mmc_switch.specs.Info.{IsKnown}
use Rattle.mmc_switch.specs.declared.info.Info.{Info}
use Rattle.kelifandro.specs.Answers.{answer_number}
use Rattle.kelifandro.specs.Asked.{AreWhole}
use Rattle.kelifandro.specs.Calls.{is_attempted}
use Rattle.kelifandro.specs.History.{Call, HasServed, IsStep, TellsAnswer, Told, joined, request_by, request_of}
use Rattle.kelifandro.specs.History.Call.{Closed, Opened, Served}

-- Sectors and their bytes.

-- each has 512 bytes
abbrev pub AreSectors : List Sector → Type 0
AreSectors [] = Unit {0}
AreSectors (sector ∷ sectors) = (length sector ≡ 512) × AreSectors sectors

pub are_sectors : (sectors : List Sector) → AreWhole sectors → AreSectors sectors
are_sectors [] whole = tt
are_sectors (sector ∷ sectors) whole = (whole 0 (omega arith), are_sectors sectors (λ i less. whole (suc i) (omega (arith, less))))

pub length-joined : (sectors : List Sector) → AreSectors sectors → length (joined sectors) ≡ 512 * length sectors
length-joined [] are = refl
length-joined (sector ∷ sectors) are =
    let rest = length-joined sectors are.1 in
    let both = length-append sector (joined sectors) in
    let one = are.0 in omega (arith, rest, both, one)

first_of : (sector : Sector) (rest : List ℕ) → length sector ≡ 512 → take 512 (sector ++ rest) ≡ sector
first_of sector rest is = subst (λ n. take n (sector ++ rest) ≡ sector) is (take-append_seam sector rest)

others_of : (sector : Sector) (rest : List ℕ) → length sector ≡ 512 → drop 512 (sector ++ rest) ≡ rest
others_of sector rest is = subst (λ n. drop n (sector ++ rest) ≡ rest) is (drop-append_seam sector rest)

pub pieces-joined : (sectors : List Sector) → AreSectors sectors → pieces (length sectors) (joined sectors) ≡ sectors
pieces-joined [] are = refl
pieces-joined (sector ∷ sectors) are =
    rw (first_of sector (joined sectors) are.0) (rw (others_of sector (joined sectors) are.0)
    (rw (pieces-joined sectors are.1) refl))

-- What a request changes.

pub same_change : (kind : Kind) (info : Info) (part : Part) (start count : ℕ) (memory : List Sector) → AreSectors memory
    → change_of info (request_by kind part start count memory) ≡ change_by kind info part start count memory
same_change to.Read info part start count memory are = refl
same_change to.Write info part start count memory are = ap (λ values. written_at part start values) (pieces-joined memory are)
same_change to.Erase info part start count memory are = refl
same_change to.Trim info part start count memory are = refl

-- what it leaves, by what was promised of its change
module _ (info : Info) (part : Part) (start count : ℕ) (before after : List Sector) (were : AreSectors before) (are : AreSectors after)
    (long : length after ≡ length before) (old new : Sets) where
  abbrev Left : Kind → ℤ → Type 0
  Left kind number =
      (answer : Answer) × TellsAnswer number after answer × Leaves info (request_by kind part start count before) old answer new

  failed : (kind : Kind) → Within new (maybe_changed (change_by kind info part start count before) old)
      → Within new (maybe_changed (change_of info (request_by kind part start count before)) old)
  failed kind within =
      subst (λ (change : Change). Within new (maybe_changed change old)) (sym (same_change kind info part start count before were)) within

  took : (kind : Kind) → TakesEffect (change_by kind info part start count before) old new
      → Within new (changed (change_of info (request_by kind part start count before)) old)
  took kind takes =
      subst (λ (change : Change). Within new (changed change old)) (sym (same_change kind info part start count before were)) takes.within

  joins : AreRead new part start after → (length (joined after) ≡ 512 * length before)
      × AreRead new part start (pieces (length before) (joined after))
  joins read = (
    length-joined after are ∙ ap (λ n. 512 * n) long,
    subst (λ (n : ℕ). AreRead new part start (pieces n (joined after))) long
        (subst (λ values. AreRead new part start values) (sym (pieces-joined after are)) read),
  )

  done : (kind : Kind) → TakesEffect (change_by kind info part start count before) old new → AreDecided new
      → (is_read kind ≡ true → AreRead new part start after) → Left kind (pos 0)
  done to.Read takes decided read = (
    Gave.Data (joined after),
    (refl, refl),
    (
      refl,
      joins (read refl),
      (λ p s v i. in_as v (read_changes_none info (request_by to.Read part start count before) p s (old p s) refl)
          (took to.Read takes p s v i)),
      decided,
    ),
  )
  done to.Write takes decided read = (Gave.Done, refl, (refl, took to.Write takes, decided))
  done to.Erase takes decided read = (Gave.Done, refl, (refl, took to.Erase takes, decided))
  done to.Trim takes decided read = (Gave.Done, refl, (refl, took to.Trim takes, decided))

  pub leaves_by : (kind : Kind) (answer : Result Unit NotDone)
      → ((why : Refused) → answer ≡ Err (RefusedFor why) → ⊥)
      → Within new (maybe_changed (change_by kind info part start count before) old)
      → IfOk answer (λ _. TakesEffect (change_by kind info part start count before) old new)
      → IfOk answer (λ _. AreDecided new) → IfOk answer (λ _. is_read kind ≡ true → AreRead new part start after)
      → Left kind (answer_number answer)
  leaves_by kind (Ok ok) unrefused within takes decided read = done kind takes decided read
  leaves_by kind (Err (RefusedFor why)) unrefused within takes decided read = absurd (unrefused why refl)
  leaves_by kind (Err (Failed cause)) unrefused within takes decided read =
      (Gave.Failed cause, refl, failed kind within)

-- Histories.

module _ (limits : Lines) (start was now : Card) (earlier : List Call) where
  -- a request that was attempted
  pub one_more : ServesAlone → (told : Told) (info : Info) (answer : Answer) → IsKnown limits was.made info
      → TellsAnswer told.number told.after answer
      → Leaves info (request_of told.asked told.before) (holds was) answer (holds now) → Carried was now
      → HasServed limits start was earlier → HasServed limits start now (Served told ∷ earlier)
  one_more law told info answer known tells leaves carried h =
      let request = request_of told.asked told.before in
      let step = law info h.machine.sets h.machine.next request answer (holds was) (holds now) h.contents leaves in
      record {
        machine = idle step.0 (h.machine.next + 1);
        executed = (
          h.machine,
          h.executed,
          inr (record {
            info = info;
            known = subst (λ (made : Made). IsKnown limits made info) h.carried.made known;
            answer = answer;
            tells = tells;
            served = subst (λ (m : Machine). IsServedAlone info m request answer (idle step.0 (h.machine.next + 1))) (sym h.answered) step.1;
          }),
        );
        contents = step.2;
        answered = refl;
        carried = carried_then h.carried carried;
      }

  -- what leaves the machine as it was
  still : (call : Call) → Carried was now → Within (holds now) (holds was) → HasServed limits start was earlier
      → ((m : Machine) → IsStep limits start.made m call m) → HasServed limits start now (call ∷ earlier)
  still call carried narrows h step = record {
    machine = h.machine;
    executed = (h.machine, h.executed, step h.machine);
    contents = λ p s v i. h.contents p s v (narrows p s v i);
    answered = h.answered;
    carried = carried_then h.carried carried;
  }

  pub opened_more : (number : ℤ) → Carried was now → Within (holds now) (holds was) → HasServed limits start was earlier
      → HasServed limits start now (Opened number ∷ earlier)
  opened_more number carried narrows h = still (Opened number) carried narrows h (λ m. refl)

  pub closed_more : Carried was now → Within (holds now) (holds was) → HasServed limits start was earlier
      → HasServed limits start now (Closed ∷ earlier)
  closed_more carried narrows h = still Closed carried narrows h (λ m. refl)

  -- a request that wasn't
  pub none_more : (told : Told) → is_attempted told.number ≡ false → told.after ≡ told.before → Carried was now
      → Within (holds now) (holds was) → HasServed limits start was earlier → HasServed limits start now (Served told ∷ earlier)
  none_more told number memory carried narrows h =
      still (Served told) carried narrows h (λ m. inl (record { number = number; memory = memory; machine = refl }))
