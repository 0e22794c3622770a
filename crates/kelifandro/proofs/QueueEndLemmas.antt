-- What serving those in service, and its end, make of what a queue keeps true.
use Rattle.std.proofs.Common.{append-nil}
use Rattle.std.proofs.Common.{◌++◌, ◌-◌, ◌<◌, ◌∙◌, ◌≡◌, ◌≢◌, ◌≤◌, ◌∷◌, ◌||◌, ◌⊎◌, Bool, List, None, Some, [], ap, arith, cond, false, inl, inr, length, map, refl, subst, sym, true, ℕ, ℤ}
use Rattle.std.specs.Prelude.{nat_le, negsuc, pos}
use Rattle.std.proofs.lemmas.Bool.{true≢false}
use Rattle.std.proofs.lemmas.Bool.Decides.{nat_tests}
use Rattle.mmc_bus.specs.declared.cause.Cause.{Cause}
use Rattle.mmc_bus.specs.declared.cause.Cause.TheVariants as why
use Rattle.mmc_card.proofs.Narrow.{carried_then}
use Rattle.mmc_card.proofs.SectorLemmas.{old_maybe}
use Rattle.mmc_card.specs.Card.{Card, holds}
use Rattle.mmc_card.specs.Laws.{Carried}
use Rattle.mmc_card.specs.Made.{Made}
use Rattle.mmc_card.specs.Sectors.{AreRead, Change, IsDecided, IsIn, Sector, Sets, Within, changed, maybe_changed, pieces, touches, value_of}
use Rattle.mmc_card.specs.declared.exchange.Lines.{Lines}
use Rattle.mmc_card.specs.declared.part.Part.{Part}
use Rattle.mmc_queue.specs.Group.{IsJoined}
use Rattle.mmc_queue.specs.Lent.{blocks_of, write_blocks_of}
use Rattle.mmc_queue.specs.Requests.{is_read as reads_request}
use Rattle.mmc_queue.specs.declared.entry.Entry.{Entry}
use Rattle.mmc_queue.specs.declared.extent.Extent.{Extent}
use Rattle.mmc_queue.specs.declared.group.Group.{Group}
use Rattle.mmc_queue.specs.declared.request.Request.{Request}
use Rattle.mmc_record.specs.declared.record.CardRecord.{CardRecord}
use Rattle.mmc_requests.specs.Changes.{change_by, values_by, written_at}
use Rattle.mmc_requests.specs.declared.asked.Asked.{Asked}
use Rattle.mmc_requests.specs.declared.kind.Kind.{Kind}
use Rattle.mmc_requests.specs.declared.kind.Kind.TheVariants as to
use Rattle.mmc_switch.specs.Info.{IsKnown}
use Rattle.mmc_switch.specs.Stands.{info_of}
use Rattle.mmc_switch.specs.declared.info.Info.{Info}
use Rattle.mmc_block.proofs.GroupLemmas.{in_as, read_changes_none}
use Rattle.mmc_block.specs.Changes.{change_of}
use Rattle.mmc_block.specs.ClientLaws.{ClientsSeeEach, seen_as}
use Rattle.mmc_block.specs.Clients.{ClientStep, Told as Reply, at_rest}
use Rattle.mmc_block.specs.Clients.Told.{Answered}
use Rattle.mmc_block.specs.Entries.{completion_of, waiting_of, waits_of}
use Rattle.mmc_block.specs.Groups.{completed}
use Rattle.mmc_block.specs.Machine.{Waiting}
use Rattle.mmc_block.specs.Service.{change_of_group}
use Rattle.mmc_host.specs.Hosts.{HostView}
use Rattle.mmc_block.specs.Alone.{Leaves, idle}
use Rattle.mmc_block.specs.Machine.{AreJoined as AreJoinedIn}
use Rattle.mmc_block.specs.declared.completion.Answer.{Answer}
use Rattle.mmc_block.specs.declared.completion.Answer.TheVariants as Gave
use Rattle.mmc_block.specs.declared.completion.Completion.{Completion}
use Rattle.mmc_slots.specs.Served.{IsAnswered, IsSplit}
use Rattle.mmc_slots.specs.Slots.{AreOrdered, Memory, entries_in}
use Rattle.mmc_slots.specs.Work.{work_left}
use Rattle.mmc_slots.specs.declared.slot.Slot.{Slot}
use Rattle.mmc_slots.specs.declared.slot.TheConstants.{ALONE, TOGETHER}
use Rattle.mmc_turns.specs.Serving.{AreJoined, BlocksAreTheirs, EndAgrees, HoldTheirs, TurnAgrees, bytes_of_each, group_of, room_of_each}
use Rattle.kelifandro.specs.Answers.{cause_number}
use Rattle.kelifandro.specs.Asked.{asked_by}
use Rattle.kelifandro.specs.Calls.{is_attempted}
use Rattle.kelifandro.specs.History.{Call, GoesOn, IsKept, LeavesBy, TellsAnswer, joined, request_by, request_of}
use Rattle.kelifandro.specs.History.Call.{Served}
use Rattle.kelifandro.specs.QueueState.{KeepsQueue, KeepsServed, WasDone}
use Rattle.kelifandro.specs.Queues.{AreCopied, AreEnough, AreGathered, answers_by, cause_with, ended, failed_by, tells_done}
use Rattle.kelifandro.proofs.HistoryLemmas.{AreSectors, pieces-joined, same_change}
use Rattle.kelifandro.proofs.QueueLemmas.{steps_more}

-- Two that know a card by its registers know the same of what a request changes.
same_byte : (limits : Lines) (made : Made) (a b : Info) → IsKnown limits made a → IsKnown limits made b → a.erased_byte ≡ b.erased_byte
same_byte limits made a b first other = first.erased_byte ∙ sym other.erased_byte

one_or_all : (b : Bool) (x v : Sector) (xs : List Sector) → IsIn (cond b (x ∷ []) xs) v → IsIn (cond b (x ∷ xs) xs) v
one_or_all true x v xs (inl is) = inl is
one_or_all true x v xs (inr none) = absurd none
one_or_all false x v xs h = h

maybe_of : (change : Change) (old new : Sets) → Within new (changed change old) → Within new (maybe_changed change old)
maybe_of change old new within p s v i = one_or_all (touches change p s) (value_of change s) v (old p s) (within p s v i)

not_a_cause : (cause : Cause) → cause_number cause ≡ pos 0 → ⊥
not_a_cause why.Answer h = cc
not_a_cause why.Data h = cc
not_a_cause why.Status h = cc
not_a_cause why.Busy h = cc
not_a_cause why.Recovery h = cc

module _ (theirs : BlocksAreTheirs) (ends : EndAgrees) (limits : Lines) (start was now : Card) (calls : List Call) (replies : List Reply)
    (lent : Memory) (slots : List Slot) (next : ℕ) (asked : Asked) (opened : CardRecord) (before after : List Sector) (number : ℤ)
    (k : KeepsQueue limits start was calls replies lent slots next (Some asked) opened) (were : AreSectors before) (are : AreSectors after)
    (long : length after ≡ length before) (enough : AreEnough asked before) (gathered : AreGathered lent slots asked before)
    (carried : Carried was now) where
  abbrev info : Info
  info = info_of k.how

  abbrev extent : Extent
  extent = k.serves.0

  abbrev group : Group
  group = group_of (entries_in lent TOGETHER slots) extent

  abbrev same_asked : asked ≡ asked_by extent
  same_asked = k.serves.1

  abbrev own : IsJoined (entries_in lent TOGETHER slots) extent
  own = k.serves.2 lent (λ ticket. refl)

  written : extent.kind ≡ to.Write → write_blocks_of group ≡ before
  written writes =
      let kind : asked.kind ≡ to.Write = ap (λ (a : Asked). a.kind) same_asked ∙ writes in
      theirs.writes group before own writes (enough (rw kind refl) ∙ ap (λ (a : Asked). a.count) same_asked)
      (subst (λ n. HoldTheirs bytes_of_each n (entries_in lent TOGETHER slots) before) (ap (λ (a : Asked). a.start) same_asked) (gathered kind))

  same_values : (kind : Kind) → extent.kind ≡ kind
      → change_by kind info extent.part extent.start (extent.end - extent.start) before
      ≡ change_by kind info extent.part extent.start (extent.end - extent.start) (write_blocks_of group)
  same_values to.Read kind = refl
  same_values to.Write kind = ap (λ values. written_at extent.part extent.start values) (sym (written kind))
  same_values to.Erase kind = refl
  same_values to.Trim kind = refl

  -- what the one request changes is what the group does
  same_group : (other : Info) → IsKnown limits was.made other → change_of other (request_of asked before) ≡ change_of_group info group
  same_group other known =
      same_change asked.kind other asked.part asked.start asked.count before were
      ∙ ap (λ byte. written_at asked.part asked.start (values_by asked.kind byte asked.count before))
      (same_byte limits was.made other info known (subst (λ made. IsKnown limits made info) (sym k.carried.made) k.known))
      ∙ ap (λ (a : Asked). change_by a.kind info a.part a.start a.count before) same_asked
      ∙ same_values extent.kind refl

  keeps_now : Within (holds now) (maybe_changed (change_of_group info group) (holds was))
      → KeepsQueue limits start now calls replies lent slots next (Some asked) opened
  keeps_now maybe = record {
    how = k.how;
    says = k.says;
    known = k.known;
    first = k.first;
    before = k.before;
    rested = k.rested;
    machine = k.machine;
    outstanding = k.outstanding;
    merged = k.merged;
    executed = k.executed;
    agrees = ends.failed info lent slots extent next (holds was) (holds now) k.machine k.agrees k.serves.2 maybe;
    serves = k.serves;
    carried = carried_then k.carried carried;
  }

  enough_after : AreEnough asked after
  enough_after moves = long ∙ enough moves

  served_as : (maybe : Within (holds now) (maybe_changed (change_of_group info group) (holds was)))
      → (number ≡ pos 0 → WasDone k.how lent slots next k.machine extent after (holds now))
      → KeepsServed limits start now calls replies lent slots next asked opened number after
  unfolding keeps_now
  served_as maybe done = record { keeps = keeps_now maybe; enough = enough_after; done = done }

  was_done : Within (holds now) (changed (change_of_group info group) (holds was))
      → ((part : Part) (sector : ℕ) → IsDecided (holds now part sector))
      → (extent.kind ≡ to.Read → AreRead (holds now) extent.part extent.start after)
      → WasDone k.how lent slots next k.machine extent after (holds now)
  was_done within decided read =
      record { was = holds was; agreed = k.agrees; changed = within; decided = decided; read = read }

  reads_by : extent.kind ≡ to.Read → asked.kind ≡ to.Read
  reads_by reads = ap (λ (a : Asked). a.kind) same_asked ∙ reads

  by_answer : (other : Info) → IsKnown limits was.made other → (answer : Answer) → TellsAnswer number after answer
      → Leaves other (request_of asked before) (holds was) answer (holds now)
      → KeepsServed limits start now calls replies lent slots next asked opened number after
  by_answer other known Gave.Done tells leaves =
      let within : Within (holds now) (changed (change_of_group info group) (holds was)) =
      subst (λ c. Within (holds now) (changed c (holds was))) (same_group other known) leaves.1 in
      served_as (maybe_of (change_of_group info group) (holds was) (holds now) within) (λ zero.
      was_done within leaves.2 (λ reads. absurd (true≢false (subst
      (λ kind. reads_request (request_by kind asked.part asked.start asked.count before) ≡ false) (reads_by reads) leaves.0))))
  by_answer other known (Gave.Data bytes) tells leaves =
      let request : Request = request_of asked before in
      let within : Within (holds now) (changed (change_of_group info group) (holds was)) =
      subst (λ c. Within (holds now) (changed c (holds was))) (same_group other known)
      (λ p s v i. in_as v (sym (read_changes_none other request p s (holds was p s) leaves.0)) (leaves.2 p s v i)) in
      let read : extent.kind ≡ to.Read → AreRead (holds now) extent.part extent.start after =
      λ reads.
      let at : AreRead (holds now) asked.part asked.start (pieces (length before) bytes) =
      (subst (λ kind. AreJoinedIn (request_by kind asked.part asked.start asked.count before) (holds now) bytes) (reads_by reads) leaves.1).1 in
      let own : pieces (length before) bytes ≡ after =
      ap (λ b. pieces (length before) b) tells.1 ∙ ap (λ n. pieces n (joined after)) (sym long) ∙ pieces-joined after are in
      subst (λ (a : Asked). AreRead (holds now) a.part a.start after) same_asked
      (subst (λ values. AreRead (holds now) asked.part asked.start values) own at) in
      served_as (maybe_of (change_of_group info group) (holds was) (holds now) within) (λ zero. was_done within leaves.3 read)
  by_answer other known (Gave.Failed cause) tells leaves =
      served_as (subst (λ c. Within (holds now) (maybe_changed c (holds was))) (same_group other known) leaves)
      (λ zero. absurd (not_a_cause cause (sym tells ∙ zero)))

  pub serves : LeavesBy limits was now (Served (record { asked = asked; before = before; after = after; number = number }))
      → KeepsServed limits start now calls replies lent slots next asked opened number after
  serves (inl all) =
      served_as (λ p s v i. old_maybe (change_of_group info group) (holds was) p s v (all.narrows p s v i))
      (λ zero. absurd (true≢false (sym (ap (λ n. is_attempted n) zero) ∙ all.number)))
  serves (inr left) = by_answer left.info left.known left.answer left.tells left.leaves

-- it is the same card
pub carried_by : {call : Call} {was now : HostView} {note new : CardRecord} → GoesOn call was note now new → IsKept was note
    → Carried was.card now.card
carried_by {call} {was} {now} goes kept =
    (goes.served kept was.card [] (record {
      machine = idle (holds was.card) 0;
      executed = refl;
      contents = λ p s v i. i;
      answered = refl;
      carried = record { made = refl; sizes = λ p. refl };
    })).carried

-- The end.

one_of : (es : List Entry) → 0 < length es → nat_le (length es) 1 ≡ true → (e : Entry) × (es ≡ e ∷ [])
one_of [] some few = absurd (omega (arith, some))
one_of (e ∷ []) some few = (e, refl)
one_of (e ∷ f ∷ es) some few = absurd (grind (arith, nat_tests, few))

failed_waits : (number : ℤ) (es : List Entry)
    → map (failed_by number) es ≡ map (λ w. completed w (Gave.Failed (cause_with number))) (waits_of es)
failed_waits number [] = refl
failed_waits number (e ∷ es) = ap (λ (cs : List Completion). failed_by number e ∷ cs) (failed_waits number es)

is_zero : (number : ℤ) → tells_done number ≡ true → number ≡ pos 0
is_zero (pos n) done = ap pos (grind (arith, nat_tests, done))
is_zero (negsuc n) done = absurd (true≢false (sym done))

not_few : (n : ℕ) (none : Type 0) → nat_le n 1 ≡ false → (n ≤ 1) ⊎ none → none
not_few n none many (inl few) = absurd (grind (arith, nat_tests, many, few))
not_few n none many (inr is) = is

later : (done few : Bool) → false ≡ (done || few) → (done ≡ false) × (few ≡ false)
later true few not = absurd (true≢false (sym not))
later false few not = (refl, sym not)

module _ (theirs : BlocksAreTheirs) (ends : EndAgrees) (sees : ClientsSeeEach) (limits : Lines) (start now : Card) (calls : List Call)
    (replies : List Reply) (lent after : Memory) (old new : List Slot) (next : ℕ) (asked : Asked) (opened : CardRecord) (number : ℤ)
    (moved : List Sector) (served : KeepsServed limits start now calls replies lent old next asked opened number moved)
    (copied : AreCopied lent after old asked moved) (ordered : AreOrdered next old → AreOrdered next new) where
  abbrev q : KeepsQueue limits start now calls replies lent old next (Some asked) opened
  q = served.keeps

  abbrev its : Extent
  its = q.serves.0

  abbrev Ends : List Reply → Type 0
  Ends more = KeepsQueue limits start now calls (replies ++ more) lent new next None opened

  told : (answers : List Completion) → entries_in lent TOGETHER new ≡ []
      → TurnAgrees (info_of q.how) lent q.machine answers new next (holds now) → Ends (Answered answers ∷ [])
  told answers none turn =
      let seen = sees (info_of q.how) q.machine q.outstanding (Answered answers) turn.after q.merged turn.turns in
      record {
        how = q.how;
        says = q.says;
        known = q.known;
        first = q.first;
        before = q.before;
        rested = q.rested;
        machine = turn.after;
        outstanding = seen.0;
        merged = seen.1;
        executed = steps_more (ClientStep (info_of q.how)) (at_rest q.first.sets 0) replies (seen_as q.machine q.outstanding)
            (Answered answers) (seen_as turn.after seen.0) q.executed seen.2;
        agrees = turn.agrees;
        serves = none;
        carried = q.carried;
      }

  is_done : number ≡ pos 0 → IsAnswered lent old new → Ends (Answered (map completion_of (entries_in after TOGETHER old)) ∷ [])
  is_done zero answered =
      let w = served.done zero in
      let given : Group = group_of (entries_in after TOGETHER old) its in
      let read : its.kind ≡ to.Read → AreRead (holds now) its.part its.start (blocks_of given) =
      λ reads.
      let kind : asked.kind ≡ to.Read = ap (λ (a : Asked). a.kind) q.serves.1 ∙ reads in
      let own : blocks_of given ≡ moved =
      theirs.reads given moved (q.serves.2 after copied.as_long) reads (served.enough (rw kind refl) ∙ ap (λ (a : Asked). a.count) q.serves.1)
      (subst (λ n. HoldTheirs room_of_each n (entries_in after TOGETHER old) moved) (ap (λ (a : Asked). a.start) q.serves.1)
      (copied.theirs kind)) in
      subst (λ blocks. AreRead (holds now) its.part its.start blocks) (sym own) (w.read reads) in
      told (map completion_of (entries_in after TOGETHER old)) answered.none
      (ends.done (info_of q.how) lent after old new its next w.was (holds now) q.machine w.agreed q.serves.2 copied.as_long copied.same
      w.changed w.decided read answered (ordered q.agrees.ordered))

  is_failed : nat_le (length (entries_in lent TOGETHER old)) 1 ≡ true → IsAnswered lent old new
      → Ends (Answered (map (failed_by number) (entries_in after TOGETHER old)) ∷ [])
  is_failed few answered =
      let one = one_of (entries_in lent TOGETHER old) (q.serves.2 lent (λ ticket. refl)).some few in
      let same : map (failed_by number) (entries_in after TOGETHER old) ≡ completed (waiting_of one.0) (Gave.Failed (cause_with number)) ∷ [] =
      failed_waits number (entries_in after TOGETHER old)
      ∙ ap (λ (ws : List Waiting). map (λ w. completed w (Gave.Failed (cause_with number))) ws)
      (copied.same ∙ ap waits_of one.1) in
      subst (λ answers. Ends (Answered answers ∷ [])) (sym same)
      (told (completed (waiting_of one.0) (Gave.Failed (cause_with number)) ∷ []) answered.none
      (ends.fails (info_of q.how) lent one.0 (cause_with number) old new next (holds now) q.machine q.agrees one.1 answered
      (ordered q.agrees.ordered)))

  is_split : nat_le (length (entries_in lent TOGETHER old)) 1 ≡ false → (entries_in lent ALONE old ≡ [] → IsSplit lent old new) → Ends []
  is_split many split =
      let none = not_few (length (entries_in lent TOGETHER old)) (entries_in lent ALONE old ≡ []) many q.agrees.few in
      let is = split none in
      subst (λ all. KeepsQueue limits start now calls all lent new next None opened) (sym (append-nil replies)) (record {
        how = q.how;
        says = q.says;
        known = q.known;
        first = q.first;
        before = q.before;
        rested = q.rested;
        machine = q.machine;
        outstanding = q.outstanding;
        merged = q.merged;
        executed = q.executed;
        agrees = ends.split (info_of q.how) lent old new next (holds now) q.machine q.agrees none is (ordered q.agrees.ordered);
        serves = is.none;
        carried = q.carried;
      })

  answered_by : (done : Bool) → tells_done number ≡ done → true ≡ (done || nat_le (length (entries_in lent TOGETHER old)) 1)
      → IsAnswered lent old new → Ends (Answered (answers_by number after old) ∷ [])
  answered_by true done which answered = rw done (is_done (is_zero number done) answered)
  answered_by false done which answered = rw done (is_failed (sym which) answered)

  pub concludes : (result : Bool) → result ≡ (tells_done number || nat_le (length (entries_in lent TOGETHER old)) 1)
      → (result ≡ true → IsAnswered lent old new) → (result ≡ false → entries_in lent ALONE old ≡ [] → IsSplit lent old new)
      → Ends (ended result (answers_by number after old))
  concludes true which answered split = answered_by (tells_done number) refl which (answered refl)
  concludes false which answered split =
      is_split (later (tells_done number) (nat_le (length (entries_in lent TOGETHER old)) 1) which).1 (split refl)

-- The end leaves less to do.

unless_few : (n : ℕ) (Alone : Type 0) (done : Bool) → (n ≤ 1) ⊎ Alone → (done || nat_le n 1) ≡ false → Alone
unless_few n Alone true few is = absurd cc
unless_few n Alone false (inl low) is = absurd (grind (arith, low, is))
unless_few n Alone false (inr alone) is = alone

pub ends_less : (lent : Memory) (old new : List Slot) (extent : Extent) (result done : Bool) → AreJoined lent old extent
    → (length (entries_in lent TOGETHER old) ≤ 1) ⊎ (entries_in lent ALONE old ≡ [])
    → result ≡ (done || nat_le (length (entries_in lent TOGETHER old)) 1)
    → (entries_in lent TOGETHER old ≢ [] → (result ≡ false → entries_in lent ALONE old ≡ []) → work_left new < work_left old)
    → work_left new < work_left old
ends_less lent old new extent result done joined few which less =
    let some = (joined lent (λ t. refl)).some in
    less (λ none. let zero = ap length none in omega (arith, some, zero))
    (λ failed. unless_few (length (entries_in lent TOGETHER old)) (entries_in lent ALONE old ≡ []) done few (sym which ∙ failed))
