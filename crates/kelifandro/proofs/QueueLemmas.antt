-- What the calls of a queue make of what it keeps true.
use Rattle.std.proofs.Common.{◌++◌, ◌+◌, ◌<◌, ◌∙◌, ◌==◌, ◌≡◌, ◌≢◌, ◌≤◌, ◌∷◌, List, None, Option, Some, [], ap, arith, inl, length, map, refl, subst, sym, true, ℕ}
use Rattle.std.specs.Prelude.{Bool, Contains, Err, IfErr, IfOk, Ok, OnErr, OnOk, Result, false, if◌then◌else◌, is_err, is_ok, is_some, suc, zero}
use Rattle.std.proofs.lemmas.Bool.{true≢false}
use Rattle.std.proofs.lemmas.Bool.Decides.{nat_tests}
use Rattle.std.proofs.lemmas.List.{get_or_push}
use Rattle.mmc_card.specs.Card.{Card, holds}
use Rattle.mmc_card.specs.declared.exchange.Lines.{Lines}
use Rattle.mmc_queue.specs.Waiting.{Takes}
use Rattle.mmc_queue.specs.declared.entry.Entry.{Entry}
use Rattle.mmc_queue.specs.declared.extent.Extent.{Extent}
use Rattle.mmc_record.specs.declared.record.CardRecord.{CardRecord}
use Rattle.mmc_requests.specs.declared.asked.Asked.{Asked}
use Rattle.mmc_switch.specs.Info.{IsKnown}
use Rattle.mmc_switch.specs.Stands.{info_of}
use Rattle.mmc_switch.specs.declared.info.Info.{Info}
use Rattle.mmc_block.proofs.ClientLemmas.{failed_within, merged_has, merged_has_none, merged_more, merged_none}
use Rattle.mmc_block.specs.Alone.{idle}
use Rattle.mmc_block.specs.ClientLaws.{ClientsSeeEach, seen_as}
use Rattle.mmc_block.specs.Clients.{AreSteps as AreClientSteps, ClientMachine, ClientStep, Told as Reply, at_rest}
use Rattle.mmc_block.specs.Clients.Told.{Answered, Cancelled, Submitted}
use Rattle.mmc_block.specs.declared.cancel.CancelFault.TheVariants as told
use Rattle.mmc_block.specs.Entries.{AreServable, waiting_of, waits_of}
use Rattle.mmc_block.specs.Machine.{IsMerged, Machine, Waiting}
use Rattle.mmc_slots.specs.Accepted.{entry_with, refusal}
use Rattle.mmc_slots.specs.Cancelled.{IsWhy}
use Rattle.mmc_slots.specs.Slots.{AreOrdered, AscendWithin, Memory, entries_in, entry_of, request_by, request_of, taken}
use Rattle.mmc_slots.specs.Work.{work_left}
use Rattle.mmc_slots.specs.declared.cancellation.CancelFault.{CancelFault}
use Rattle.mmc_slots.specs.declared.cancellation.CancelFault.TheVariants as fault
use Rattle.mmc_slots.specs.declared.slot.Slot.{Slot}
use Rattle.mmc_slots.specs.declared.slot.TheConstants.{ALONE, FREE, TOGETHER, WAITS}
use Rattle.mmc_turns.specs.Agrees.{Agrees, Fits, lent_more}
use Rattle.mmc_turns.specs.Serving.{HasStarted, ServedStay}
use Rattle.mmc_turns.specs.Steps.{CancellationAgrees, OthersStay, SubmissionAgrees, accepted, with_waits}
use Rattle.kelifandro.specs.Asked.{asked_by}
use Rattle.kelifandro.specs.History.{Call, HasServed}
use Rattle.kelifandro.proofs.GoesOnLemmas.{known_of}
use Rattle.mmc_direct.specs.Noted.{IsNotedOf, bus_going_on, lines_in}
use Rattle.mmc_host.specs.Hosts.{HostView}
use Rattle.kelifandro.specs.QueueState.{IsServing, KeepsQueue}
use Rattle.kelifandro.specs.Queues.{HasQueued, cancelled_so, memory_of, unanswered}

-- one step more
pub steps_more : {S A : Type 0} (Step : S → A → S → Type 0) (old : S) (xs : List A) (mid : S) (x : A) (new : S)
    → AreClientSteps Step old xs mid → Step mid x new → AreClientSteps Step old (xs ++ x ∷ []) new
steps_more Step old [] mid x new same step = (new, subst (λ s. Step s x new) same step, refl)
steps_more Step old (y ∷ ys) mid x new steps step = (steps.0, steps.1, steps_more Step steps.0 ys mid x new steps.2 step)

none_waits : (es : List Entry) → waits_of es ≡ [] → es ≡ []
none_waits [] none = refl
none_waits (e ∷ es) none = absurd cc

none_both : {A : Type 0} (xs ys : List A) → xs ++ ys ≡ [] → (xs ≡ []) × (ys ≡ [])
none_both [] ys none = (refl, none)
none_both (x ∷ xs) ys none = absurd cc

-- nothing is without an answer
merged_empty : (zs xs ys : List Waiting) → IsMerged zs xs ys → zs ≡ [] → (xs ≡ []) × (ys ≡ [])
merged_empty [] xs ys m none = m
merged_empty (z ∷ zs) xs ys m none = absurd cc

module _ (limits : Lines) (start now : Card) (calls : List Call) (replies : List Reply) (lent : Memory) (slots : List Slot) (next : ℕ)
    (serving : Option Asked) (opened : CardRecord) (k : KeepsQueue limits start now calls replies lent slots next serving opened) where
  abbrev info : Info
  info = info_of k.how

  none_left : unanswered lent slots ≡ [] → k.outstanding ≡ []
  none_left none =
      let both = none_both (entries_in lent WAITS slots) (entries_in lent TOGETHER slots ++ entries_in lent ALONE slots) none in
      let two = none_both (entries_in lent TOGETHER slots) (entries_in lent ALONE slots) both.1 in
      let served : k.machine.in_service ≡ [] =
      k.agrees.in_service ∙ ap (λ es. waits_of es ++ waits_of (entries_in lent ALONE slots)) two.0 ∙ ap waits_of two.1 in
      merged_none k.outstanding k.machine.waits (subst (λ ws. IsMerged k.outstanding ws k.machine.waits) served k.merged)
      ∙ k.agrees.waits ∙ ap waits_of both.0

  none_unanswered : k.outstanding ≡ [] → unanswered lent slots ≡ []
  none_unanswered none =
      let both = merged_empty k.outstanding k.machine.in_service k.machine.waits k.merged none in
      let two = none_both (waits_of (entries_in lent TOGETHER slots)) (waits_of (entries_in lent ALONE slots))
      (sym k.agrees.in_service ∙ both.0) in
      ap (λ es. es ++ (entries_in lent TOGETHER slots ++ entries_in lent ALONE slots))
      (none_waits (entries_in lent WAITS slots) (sym k.agrees.waits ∙ both.1))
      ∙ ap (λ es. es ++ entries_in lent ALONE slots) (none_waits (entries_in lent TOGETHER slots) two.0)
      ∙ none_waits (entries_in lent ALONE slots) two.1

  -- what a queue keeps true is its headline
  pub has_queued : HasQueued limits start now calls replies lent slots
  has_queued = record {
    opened = k.first;
    before = k.before;
    rested = k.rested;
    info = info;
    known = k.known;
    machine = seen_as k.machine k.outstanding;
    executed = k.executed;
    contents = λ p s v i.
        failed_within info k.outstanding k.machine.in_service k.machine.waits k.machine.sets k.machine.sets k.merged (λ p s v i. i) p s v
        (k.agrees.within p s v i);
    answered = (none_left, none_unanswered);
    carried = k.carried;
  }

-- Submissions.

own_bytes : (memory : Memory) (next : ℕ) (bytes : List ℕ) → lent_more memory next bytes next ≡ bytes
own_bytes memory next bytes = let same : (next == next) ≡ true = grind arith in rw same refl

module _ (submission : SubmissionAgrees) (stay : ServedStay) (limits : Lines) (start now : Card) (calls : List Call) (replies : List Reply)
    (lent : Memory) (old new : List Slot) (next : ℕ) (serving : Option Asked) (opened : CardRecord)
    (k : KeepsQueue limits start now calls replies lent old next serving opened) where
  serving_more : (bytes : List ℕ) → OthersStay old new → (some : Option Asked) → IsServing lent old some
      → IsServing (lent_more lent next bytes) new some
  serving_more bytes others None none =
      stay.none lent (lent_more lent next bytes) old new none others
  serving_more bytes others (Some asked) (extent, is, joined) =
      (extent, is, stay.accepted (info_of k.how) lent bytes old new extent next (holds now) k.machine k.agrees joined others)

  pub submits : (bytes : List ℕ) (client : ℕ) (asked : Asked) → Fits asked bytes → refusal (info_of k.how) asked ≡ None
      → ((memory : Memory) → entries_in memory WAITS new ≡ entries_in memory WAITS old ++ entry_with memory client asked next ∷ [])
      → OthersStay old new → AreOrdered (next + 1) new
      → KeepsQueue limits start now calls
      (replies ++ Submitted client (request_by asked.kind asked.part asked.start asked.count bytes) (Ok next) ∷ [])
      (lent_more lent next bytes) new (next + 1) serving opened
  submits bytes client asked fits none waits others ordered =
      let e : Entry = entry_with (lent_more lent next bytes) client asked next in
      let w : Waiting = waiting_of e in
      let own : w ≡ record { ticket = k.machine.next; client = client; request = request_by asked.kind asked.part asked.start asked.count bytes } =
      ap (λ (b : List ℕ). let v : Waiting = record {
        ticket = next;
        client = client;
        request = request_by asked.kind asked.part asked.start asked.count b;
      } in v) (own_bytes lent next bytes)
      ∙ ap (λ (n : ℕ). let v : Waiting = record {
        ticket = n;
        client = client;
        request = request_by asked.kind asked.part asked.start asked.count bytes;
      } in v) (sym k.agrees.next_is) in
      record {
        how = k.how;
        says = k.says;
        known = k.known;
        first = k.first;
        before = k.before;
        rested = k.rested;
        machine = accepted k.machine w;
        outstanding = k.outstanding ++ w ∷ [];
        merged = merged_more k.outstanding k.machine.in_service k.machine.waits w k.merged;
        executed = steps_more (ClientStep (info_of k.how)) (at_rest k.first.sets 0) replies (seen_as k.machine k.outstanding)
            (Submitted client (request_by asked.kind asked.part asked.start asked.count bytes) (Ok next))
            (seen_as (accepted k.machine w) (k.outstanding ++ w ∷ [])) k.executed
            (record {
              ticket_is = sym k.agrees.next_is;
              becomes = ap (λ (v : Waiting). let m : ClientMachine = record {
                sets = k.machine.sets;
                outstanding = k.outstanding ++ v ∷ [];
                next = k.machine.next + 1;
              } in m) own;
            });
        agrees = submission (info_of k.how) lent bytes client asked old new next (holds now) k.machine k.agrees fits none waits others ordered;
        serves = serving_more bytes others serving k.serves;
        carried = k.carried;
      }

-- Cancellations.

module _ (sees : ClientsSeeEach) (cancellation : CancellationAgrees) (stay : ServedStay) (limits : Lines) (start now : Card)
    (calls : List Call) (replies : List Reply) (lent : Memory) (old : List Slot) (next : ℕ) (serving : Option Asked) (opened : CardRecord)
    (k : KeepsQueue limits start now calls replies lent old next serving opened) where
  -- the same machine, of which a reply was told that changes nothing
  same_more : (call : Reply) → ClientStep (info_of k.how) (seen_as k.machine k.outstanding) call (seen_as k.machine k.outstanding)
      → KeepsQueue limits start now calls (replies ++ call ∷ []) lent old next serving opened
  same_more call step = record {
    how = k.how;
    says = k.says;
    known = k.known;
    first = k.first;
    before = k.before;
    rested = k.rested;
    machine = k.machine;
    outstanding = k.outstanding;
    merged = k.merged;
    executed = steps_more (ClientStep (info_of k.how)) (at_rest k.first.sets 0) replies (seen_as k.machine k.outstanding) call
        (seen_as k.machine k.outstanding) k.executed step;
    agrees = k.agrees;
    serves = k.serves;
    carried = k.carried;
  }

  serving_still : (new : List Slot) → OthersStay old new → (some : Option Asked) → IsServing lent old some → IsServing lent new some
  serving_still new others None none = stay.none lent lent old new none others
  serving_still new others (Some asked) (extent, is, joined) = (extent, is, stay.given_back lent old new extent joined others)

  pub gives_back : (new : List Slot) (s : Slot) (ticket : ℕ) → s.ticket ≡ ticket
      → Takes (entries_in lent WAITS old) (entry_of lent s) (entries_in lent WAITS new) → OthersStay old new → AreOrdered next new
      → KeepsQueue limits start now calls (replies ++ Cancelled ticket (Ok (request_of lent s)) ∷ []) lent new next serving opened
  gives_back new s ticket same takes others ordered =
      let both = cancellation.gives_back (info_of k.how) lent s old new next (holds now) k.machine k.agrees takes others ordered in
      let after : Machine = with_waits k.machine (entries_in lent WAITS new) in
      let seen = sees (info_of k.how) k.machine k.outstanding (Cancelled s.ticket (Ok (request_of lent s))) after k.merged both.0 in
      subst (λ t. KeepsQueue limits start now calls (replies ++ Cancelled t (Ok (request_of lent s)) ∷ []) lent new next serving opened) same
      (record {
        how = k.how;
        says = k.says;
        known = k.known;
        first = k.first;
        before = k.before;
        rested = k.rested;
        machine = after;
        outstanding = seen.0;
        merged = seen.1;
        executed = steps_more (ClientStep (info_of k.how)) (at_rest k.first.sets 0) replies (seen_as k.machine k.outstanding)
            (Cancelled s.ticket (Ok (request_of lent s))) (seen_as after seen.0) k.executed seen.2;
        agrees = both.1;
        serves = serving_still new others serving k.serves;
        carried = k.carried;
      })

  pub is_served : (ticket : ℕ) → IsWhy old ticket fault.InService
      → KeepsQueue limits start now calls (replies ++ Cancelled ticket (Err told.InService) ∷ []) lent old next serving opened
  is_served ticket why =
      same_more (Cancelled ticket (Err told.InService)) (
        merged_has ticket k.outstanding k.machine.in_service k.machine.waits k.merged
            (cancellation.in_service (info_of k.how) lent old ticket next (holds now) k.machine k.agrees why),
        refl,
      )

  pub is_unknown : (ticket : ℕ) → IsWhy old ticket fault.Unknown
      → KeepsQueue limits start now calls (replies ++ Cancelled ticket (Err told.Unknown) ∷ []) lent old next serving opened
  is_unknown ticket why =
      let none = cancellation.unknown (info_of k.how) lent old ticket next (holds now) k.machine k.agrees why in
      same_more (Cancelled ticket (Err told.Unknown))
      (merged_has_none ticket k.outstanding k.machine.in_service k.machine.waits k.merged none.0 none.1, refl)

-- Starts.

pub starts : ClientsSeeEach → (limits : Lines) (start now : Card) (calls : List Call) (replies : List Reply) (lent : Memory)
    (old new : List Slot) (extent : Extent) (next : ℕ) (opened : CardRecord)
    → (k : KeepsQueue limits start now calls replies lent old next None opened)
    → HasStarted (info_of k.how) lent new extent next (holds now) k.machine
    → KeepsQueue limits start now calls replies lent new next (Some (asked_by extent)) opened
starts sees limits start now calls replies lent old new extent next opened k s =
    let seen = sees (info_of k.how) k.machine k.outstanding (Answered []) s.after k.merged s.turns in
    record {
      how = k.how;
      says = k.says;
      known = k.known;
      first = k.first;
      before = k.before;
      rested = k.rested;
      machine = s.after;
      outstanding = seen.0;
      merged = seen.1;
      executed = subst (λ m. AreClientSteps (ClientStep (info_of k.how)) (at_rest k.first.sets 0) replies m) (sym seen.2) k.executed;
      agrees = s.agrees;
      serves = (extent, refl, s.joined);
      carried = k.carried;
    }

-- By the calls of slots.

module _ (sees : ClientsSeeEach) (cancellation : CancellationAgrees) (stay : ServedStay) (limits : Lines) (start now : Card)
    (calls : List Call) (replies : List Reply) (lent : Memory) (old new : List Slot) (next : ℕ) (serving : Option Asked) (opened : CardRecord)
    (ticket : ℕ) where
  pub cancels : (cancelled : Result Slot CancelFault) → IfOk cancelled (λ s. (s.ticket ≡ ticket) × Contains old s)
      → IfOk cancelled (λ s. (memory : Memory)
      → Takes (entries_in memory WAITS old) (entry_of memory s) (entries_in memory WAITS new))
      → OthersStay old new → ((n : ℕ) → AreOrdered n old → AreOrdered n new) → IfErr cancelled (IsWhy old ticket)
      → OnErr cancelled (new ≡ old) → KeepsQueue limits start now calls replies lent old next serving opened
      → KeepsQueue limits start now calls (replies ++ cancelled_so lent ticket cancelled ∷ []) lent new next serving opened
  cancels (Ok s) which taken others ordered why same k =
      gives_back sees cancellation stay limits start now calls replies lent old next serving opened k new s ticket which.0 (taken lent) others
      (ordered next k.agrees.ordered)
  cancels (Err fault.InService) which taken others ordered why same k =
      subst (λ slots. KeepsQueue limits start now calls (replies ++ Cancelled ticket (Err told.InService) ∷ []) lent slots next serving opened)
      (sym same)
      (is_served sees cancellation stay limits start now calls replies lent old next serving opened k ticket why)
  cancels (Err fault.Unknown) which taken others ordered why same k =
      subst (λ slots. KeepsQueue limits start now calls (replies ++ Cancelled ticket (Err told.Unknown) ∷ []) lent slots next serving opened)
      (sym same)
      (is_unknown sees cancellation stay limits start now calls replies lent old next serving opened k ticket why)

-- One request's memory more.

at_end : (lent : List (List ℕ)) (bytes : List ℕ) (next : ℕ) → length lent ≡ next → memory_of (lent ++ bytes ∷ []) next ≡ bytes
at_end lent bytes next long = get_or_push lent bytes [] next long

elsewhere : (lent : List (List ℕ)) (bytes : List ℕ) (t : ℕ) → (t ≡ length lent → ⊥) → memory_of (lent ++ bytes ∷ []) t ≡ memory_of lent t
elsewhere [] bytes zero other = absurd (other refl)
elsewhere [] bytes (suc t) other = refl
elsewhere (b ∷ lent) bytes zero other = refl
elsewhere (b ∷ lent) bytes (suc t) other = elsewhere lent bytes t (λ same. other (ap suc same))

more_at : (lent : List (List ℕ)) (bytes : List ℕ) (next : ℕ) → length lent ≡ next → (t : ℕ) (is : Bool) → (t == next) ≡ is
    → (if is then bytes else memory_of lent t) ≡ memory_of (lent ++ bytes ∷ []) t
more_at lent bytes next long t true is =
    let same : t ≡ next = grind (arith, nat_tests, is) in rw same (sym (at_end lent bytes next long))
more_at lent bytes next long t false is =
    let other : (t ≡ next → ⊥) = λ same. grind (arith, nat_tests, is, same) in
    sym (elsewhere lent bytes t (λ same. other (same ∙ long)))

pub lent_then : (lent : List (List ℕ)) (bytes : List ℕ) (next : ℕ) → length lent ≡ next
    → lent_more (memory_of lent) next bytes ≡ memory_of (lent ++ bytes ∷ [])
lent_then lent bytes next long = λ i. λ t. more_at lent bytes next long t (t == next) refl i

pub none_is : {A : Type 0} (option : Option A) → is_some option ≡ false → option ≡ None
none_is None none = refl
none_is (Some it) none = absurd (true≢false none)

-- Accepted, or refused.

pub on_ok : {A E : Type 0} {P : Type 0} (result : Result A E) → is_ok result ≡ true → OnOk result P → P
on_ok (Ok it) ok holds = holds
on_ok (Err why) ok holds = absurd (true≢false (sym ok))

pub on_err : {A E : Type 0} {P : Type 0} (result : Result A E) → is_ok result ≡ false → OnErr result P → P
on_err (Ok it) ok holds = absurd (true≢false ok)
on_err (Err why) ok holds = holds

pub not_err : {A E : Type 0} (result : Result A E) → is_err result ≡ false → is_ok result ≡ true
not_err (Ok it) none = refl
not_err (Err why) none = absurd (true≢false none)

pub not_ok : {A E : Type 0} (result : Result A E) → is_err result ≡ true → is_ok result ≡ false
not_ok (Ok it) some = absurd (true≢false (sym some))
not_ok (Err why) some = refl

module _ (submission : SubmissionAgrees) (stay : ServedStay) (limits : Lines) (start now : Card) (calls : List Call) (replies : List Reply)
    (lent : List (List ℕ)) (old new : List Slot) (next later : ℕ) (serving : Option Asked) (opened : CardRecord) (bytes : List ℕ) (client : ℕ)
    (asked : Asked) (info : Info) (long : length lent ≡ next) (more : later ≡ next + 1) where
  pub accepts : (k : KeepsQueue limits start now calls replies (memory_of lent) old next serving opened) → info ≡ info_of k.how
      → Fits asked bytes → refusal info asked ≡ None
      → ((memory : Memory) → entries_in memory WAITS new ≡ entries_in memory WAITS old ++ entry_with memory client asked next ∷ [])
      → OthersStay old new → (AreOrdered next old → AreOrdered later new)
      → KeepsQueue limits start now calls
      (replies ++ Submitted client (request_by asked.kind asked.part asked.start asked.count bytes) (Ok next) ∷ [])
      (memory_of (lent ++ bytes ∷ [])) new later serving opened
  accepts k same fits none waits others ordered =
      subst (λ n. KeepsQueue limits start now calls
      (replies ++ Submitted client (request_by asked.kind asked.part asked.start asked.count bytes) (Ok next) ∷ [])
      (memory_of (lent ++ bytes ∷ [])) new n serving opened) (sym more)
      (subst (λ memory. KeepsQueue limits start now calls
      (replies ++ Submitted client (request_by asked.kind asked.part asked.start asked.count bytes) (Ok next) ∷ [])
      memory new (next + 1) serving opened) (lent_then lent bytes next long)
      (submits submission stay limits start now calls replies (memory_of lent) old new next serving opened k bytes client asked fits
      (subst (λ i. refusal i asked ≡ None) same none) waits others
      (subst (λ n. AreOrdered n new) more (ordered k.agrees.ordered))))

-- what goes into service, where nothing was
pub begins : ClientsSeeEach → (limits : Lines) (start now : Card) (calls : List Call) (replies : List Reply) (lent : Memory)
    (old new : List Slot) (extent : Extent) (next : ℕ) (serving : Option Asked) (asked : Asked) (opened : CardRecord)
    → is_some serving ≡ false → asked ≡ asked_by extent
    → ((info : Info) (machine : Machine) → Agrees info lent old next (holds now) machine → entries_in lent TOGETHER old ≡ []
    → HasStarted info lent new extent next (holds now) machine)
    → KeepsQueue limits start now calls replies lent old next serving opened
    → KeepsQueue limits start now calls replies lent new next (Some asked) opened
begins sees limits start now calls replies lent old new extent next serving asked opened none is begun k =
    let keeps : KeepsQueue limits start now calls replies lent old next None opened =
    subst (λ s. KeepsQueue limits start now calls replies lent old next s opened) (none_is serving none) k in
    subst (λ a. KeepsQueue limits start now calls replies lent new next (Some a) opened) (sym is)
    (starts sees limits start now calls replies lent old new extent next opened keeps
    (begun (info_of keeps.how) keeps.machine keeps.agrees keeps.serves))

-- It leaves less to do.
pub begins_less : (lent : Memory) (old new : List Slot) (next : ℕ) (serving : Option Asked) → is_some serving ≡ false
    → IsServing lent old serving → AreOrdered next old
    → (AreOrdered next old → entries_in lent TOGETHER old ≡ [] → work_left new < work_left old) → work_left new < work_left old
begins_less lent old new next serving none serves ordered less =
    less ordered (subst (IsServing lent old) (none_is serving none) serves)

-- At first.

none_at : (memory : Memory) (state : ℕ) (s : Slot) (ss : List Slot) (free : Bool) → (s.state == FREE) ≡ free → state ≢ FREE
    → taken (s ∷ ss) ≡ [] → (taken ss ≡ [] → entries_in memory state ss ≡ []) → entries_in memory state (s ∷ ss) ≡ []
none_at memory state s ss true is some none rest =
    let other : (s.state == state) ≡ false = grind (arith, nat_tests, is, some) in
    let left : taken ss ≡ [] = rw is at none in rw other (rest left)
none_at memory state s ss false is some none rest = absurd (let left : s ∷ taken ss ≡ [] = rw is at none in cc)

none_taken : (memory : Memory) (state : ℕ) (slots : List Slot) → state ≢ FREE → taken slots ≡ [] → entries_in memory state slots ≡ []
none_taken memory state [] some none = refl
none_taken memory state (s ∷ ss) some none =
    none_at memory state s ss (s.state == FREE) refl some none (λ left. none_taken memory state ss some left)

pub opens_queue : (host : HostView) (start : Card) (calls : List Call) (note : CardRecord) (slots : List Slot) → IsNotedOf note host
    → HasServed host.limits start host.card calls → taken slots ≡ []
    → KeepsQueue host.limits start host.card calls [] (memory_of []) slots 0 None note
opens_queue host start calls note slots noted h none =
    let waits = none_taken (memory_of []) WAITS slots (λ h. cc) none in
    let together = none_taken (memory_of []) TOGETHER slots (λ h. cc) none in
    let alone = none_taken (memory_of []) ALONE slots (λ h. cc) none in
    let info : Info = info_of noted.how in
    record {
      how = noted.how;
      says = noted.says;
      known = subst (λ made. IsKnown host.limits made info) h.carried.made
          (known_of noted.how (bus_going_on host (lines_in noted.how)) noted.stands);
      first = h.machine;
      before = h.executed;
      rested = h.answered;
      machine = idle h.machine.sets 0;
      outstanding = [];
      merged = (refl, refl);
      executed = refl;
      agrees = record {
        waits = sym (ap waits_of waits);
        in_service = sym (ap (λ es. waits_of es ++ waits_of (entries_in (memory_of []) ALONE slots)) together ∙ ap waits_of alone);
        next_is = refl;
        within = h.contents;
        ordered = subst (λ (ss : List Slot). AscendWithin 0 0 (map (λ s. s.ticket) ss)) (sym none) (omega arith);
        in_order = omega arith;
        served = record { one_kind = tt; in_order = omega arith; passes_none = tt };
        may_wait = subst (AreServable info) (sym waits) tt;
        may_serve = subst (AreServable info) (sym together) tt;
        may_alone = subst (AreServable info) (sym alone) tt;
        few = inl (subst (λ es. length es ≤ 1) (sym together) (omega arith));
      };
      serves = together;
      carried = h.carried;
    }
