-- What C is told of a request, and what was promised of it.
use Rattle.std.proofs.Common.{◌∙◌, ◌≡◌, ap, refl, subst, sym}
use Rattle.std.proofs.lemmas.Bool.{false≢true}
use Rattle.std.specs.Prelude.{Bool, Err, IfErr, IfOk, IfSome, IsOk, None, Ok, Option, Result, Some, false, is_err, is_some, pos, true, ℕ, ℤ}
use Rattle.mmc_bus.specs.declared.cause.Cause.{Cause}
use Rattle.mmc_bus.specs.declared.cause.Cause.TheVariants.{Answer, Busy, Data, Recovery, Status}
use Rattle.mmc_direct.proofs.NotedLemmas.{and_left}
use Rattle.mmc_direct.specs.Noted.{IsCounted, IsServed, Notes, bus_going_on, lines_in}
use Rattle.mmc_card.specs.BusView.{BusView}
use Rattle.mmc_direct.specs.Opened.{IsReadyAs}
use Rattle.mmc_direct.specs.Served.{IfRefused, IfServed, refusal_in}
use Rattle.mmc_direct.specs.declared.refused.NotDone.{NotDone}
use Rattle.mmc_direct.specs.declared.served.Served.{Served}
use Rattle.mmc_host.specs.Hosts.{HostView}
use Rattle.mmc_switch.specs.Stands.{StandsIn}
use Rattle.kelifandro.specs.Done.{OnlyTold}
use Rattle.mmc_direct.specs.declared.refused.NotDone.TheVariants.{Failed, Refused as RefusedFor}
use Rattle.mmc_requests.specs.declared.refused.Refused.{Refused}
use Rattle.mmc_requests.specs.declared.refused.Refused.TheVariants.{Empty, NoSuchPartition, NoTrim, NotInPartition, OutOfRange, ReadOnly, TooLong, Unaligned}
use Rattle.mmc_switch.specs.declared.stands.Stands.{Stands}
use Rattle.c_host.specs.declared.given.WayRecord.{WayRecord}
use Rattle.mmc_record.specs.Note.{IsNoteOf, is_note}
use Rattle.mmc_record.specs.declared.record.CardRecord.{CardRecord}
use Rattle.mmc_recovery.specs.declared.healed.Healed.{Healed}
use Rattle.kelifandro.specs.Answers.{answer_number, cause_number, is_unready, refused_number}
use Rattle.kelifandro.specs.Longs.{begins_by}
use Rattle.kelifandro.specs.Calls.{IfNoted, IsAsNoted, TellsCounts, TellsWhy, is_attempted, is_open}

-- the number of an answer that refuses
refused_answer : (answer : Result Unit NotDone) (why : Refused) → refusal_in answer ≡ Some why
    → answer_number answer ≡ refused_number why
refused_answer (Ok done) why is = absurd (cc)
refused_answer (Err (RefusedFor other)) why is =
    let same : other ≡ why = cc in
    ap (λ (w : Refused). refused_number w) same
refused_answer (Err (Failed cause)) why is = absurd (cc)

pub refused_unmade : (why : Refused) → is_attempted (refused_number why) ≡ false
refused_unmade NoSuchPartition = refl
refused_unmade OutOfRange = refl
refused_unmade Empty = refl
refused_unmade TooLong = refl
refused_unmade ReadOnly = refl
refused_unmade NotInPartition = refl
refused_unmade NoTrim = refl
refused_unmade Unaligned = refl

not_done : (why : Refused) → refused_number why ≡ pos 0 → ⊥
not_done why is = false≢true (sym (refused_unmade why) ∙ ap (λ (n : ℤ). is_attempted n) is)

failed_made : (cause : Cause) → is_attempted (cause_number cause) ≡ true
failed_made Answer = refl
failed_made Data = refl
failed_made Status = refl
failed_made Busy = refl
failed_made Recovery = refl

made_by : (answer : Result Unit NotDone) → refusal_in answer ≡ None → is_attempted (answer_number answer) ≡ true
made_by (Ok done) none = refl
made_by (Err (RefusedFor why)) none = absurd (cc)
made_by (Err (Failed cause)) none = failed_made cause

-- a refusal is told by its number; where the call came to no host, by another than that of what is done
pub tells_why : {A : Type 0} (answer : A → Result Unit NotDone) (way : ℕ) (why : Option Refused) (called : Result A ℤ) (number : ℤ)
    → IfOk called (λ did. number ≡ answer_number (answer did)) → IfErr called (λ other. number ≡ other)
    → IfErr called (λ other. other ≡ pos 0 → ⊥) → (way ≡ 0 → IsOk called)
    → IfOk called (λ did. refusal_in (answer did) ≡ why) → TellsWhy way why number
tells_why answer way None (Ok did) number told other fault comes judged = λ host.
    ap (λ (n : ℤ). is_attempted n) told ∙ made_by (answer did) judged
tells_why answer way None (Err not) number told other fault comes judged = λ host. absurd (false≢true (comes host))
tells_why answer way (Some why) (Ok did) number told other fault comes judged =
    let is : number ≡ refused_number why = told ∙ refused_answer (answer did) why judged in
    (λ done. not_done why (sym is ∙ done), λ host. is)
tells_why answer way (Some why) (Err not) number told other fault comes judged =
    (λ done. fault (sym other ∙ done), λ host. absurd (false≢true (comes host)))

-- no answer tells that the controller isn't ready
refused_ready : (why : Refused) → is_unready (refused_number why) ≡ false
refused_ready NoSuchPartition = refl
refused_ready OutOfRange = refl
refused_ready Empty = refl
refused_ready TooLong = refl
refused_ready ReadOnly = refl
refused_ready NotInPartition = refl
refused_ready NoTrim = refl
refused_ready Unaligned = refl

failed_ready : (cause : Cause) → is_unready (cause_number cause) ≡ false
failed_ready Answer = refl
failed_ready Data = refl
failed_ready Status = refl
failed_ready Busy = refl
failed_ready Recovery = refl

answer_ready : (answer : Result Unit NotDone) → is_unready (answer_number answer) ≡ false
answer_ready (Ok done) = refl
answer_ready (Err (RefusedFor why)) = refused_ready why
answer_ready (Err (Failed cause)) = failed_ready cause

-- so that it isn't is told only where the call came to no host
pub tells_unready : {A D : Type 0} (answer : A → Result Unit NotDone) (Tells : D → ℤ → Type 0) (called : Result A ℤ) (number : ℤ)
    (middle end : D) → IfOk called (λ came. number ≡ answer_number (answer came)) → IfErr called (λ other. number ≡ other)
    → IfErr called (λ other. end ≡ middle) → IfErr called (λ other. Tells middle other) → is_unready number ≡ true
    → Tells end number
tells_unready answer Tells (Ok came) number middle end told other none tells = λ unready.
    absurd (false≢true (sym (answer_ready (answer came)) ∙ ap (λ (n : ℤ). is_unready n) (sym told) ∙ unready))
tells_unready answer Tells (Err not) number middle end told other none tells = λ unready.
    subst (λ d. Tells d number) (sym none) (subst (λ n. Tells middle n) (sym other) tells)

pub refused_only : (answer : Result Unit NotDone) (Holds : Type 0) → is_attempted (answer_number answer) ≡ false
    → IfRefused answer Holds → Holds
refused_only (Ok done) Holds unmade holds = absurd (false≢true (sym unmade))
refused_only (Err (RefusedFor why)) Holds unmade holds = holds
refused_only (Err (Failed cause)) Holds unmade holds = absurd (false≢true (sym unmade ∙ failed_made cause))

served_only : (answer : Result Unit NotDone) (Holds : Type 0) → is_attempted (answer_number answer) ≡ true
    → IfServed answer Holds → Holds
served_only (Ok done) Holds made holds = holds
served_only (Err (RefusedFor why)) Holds made holds = absurd (false≢true (sym (refused_unmade why) ∙ made))
served_only (Err (Failed cause)) Holds made holds = holds

-- where no attempt was made nothing is counted
pub tells_none : {A : Type 0} (answer : A → Result Unit NotDone) (called : Result A ℤ) (number : ℤ) (Same : Type 0)
    → IfOk called (λ did. number ≡ answer_number (answer did)) → IfErr called (λ other. Same)
    → IfOk called (λ did. IfRefused (answer did) Same) → is_attempted number ≡ false → Same
tells_none answer (Err not) number Same told none refused unmade = none
tells_none answer (Ok did) number Same told none refused unmade =
    refused_only (answer did) Same (ap (λ (n : ℤ). is_attempted n) (sym told) ∙ unmade) refused

-- and otherwise what came of the attempts
pub tells_counts : {A : Type 0} (answer : A → Result Unit NotDone) (most : ℕ) (stands : Stands) (old : Healed) (called : Result A ℤ)
    (number : ℤ) (note : CardRecord) (new : Healed)
    → IfOk called (λ did. number ≡ answer_number (answer did)) → IfErr called (λ other. number ≡ other)
    → IfErr called (λ other. is_attempted other ≡ false)
    → IfOk called (λ did. IfServed (answer did) (IsCounted most stands old (answer did) note new))
    → TellsCounts most stands old number note new
tells_counts answer most stands old (Err not) number note new told other none counts = λ made.
    absurd (false≢true (sym none ∙ ap (λ (n : ℤ). is_attempted n) (sym other) ∙ made))
tells_counts answer most stands old (Ok did) number note new told other none counts = λ made. (
  answer did,
  told,
  served_only (answer did) (IsCounted most stands old (answer did) note new) (ap (λ (n : ℤ). is_attempted n) (sym told) ∙ made) counts,
)

-- who is found by the record stands as was noted
pub as_noted_by : (note : CardRecord) (found : Option Stands)
    → ((stands : Stands) → IsNoteOf stands note → found ≡ Some stands) → IfSome found (λ stands. IsAsNoted stands note)
as_noted_by note None noted = tt
as_noted_by note (Some stands) noted = λ other is. let same : Some stands ≡ Some other = noted other is in cc

-- what holds of how the card stands holds of what was noted
pub as_noted : (note : CardRecord) (stands : Stands) → IsAsNoted stands note → (Holds : Stands → Type 0) → Holds stands
    → IfNoted note Holds
as_noted note stands noted Holds holds other is = subst Holds (noted other is) holds

-- of a request that is refused nothing has changed, and the record notes the card as it was noted
pub unchanged_by : (P Q R : Type 0) (answer : Result Unit NotDone) → IfRefused answer (P × Q × R) → IfRefused answer Q
unchanged_by P Q R (Ok done) holds = tt
unchanged_by P Q R (Err (RefusedFor why)) holds = holds.1
unchanged_by P Q R (Err (Failed cause)) holds = tt

pub noted_again : (P Q : Type 0) (note new : CardRecord) (stands : Stands) (answer : Result Unit NotDone)
    → IsAsNoted stands note → IfRefused answer (P × Q × Notes stands new) → IfNoted note (λ s. IfRefused answer (Notes s new))
noted_again P Q note new stands (Ok done) noted holds how is = tt
noted_again P Q note new stands (Err (RefusedFor why)) noted holds how is = subst (λ (s : Stands). Notes s new) (noted how is) holds.2
noted_again P Q note new stands (Err (Failed cause)) noted holds how is = tt

-- a record that is the same as that of a card which is ready is one too
pub ready_again : (old new : CardRecord) (view : BusView) → new ≡ old → IsReadyAs old view → IsReadyAs new view
ready_again old new view same ready = subst (λ (note : CardRecord). IsReadyAs note view) (sym same) ready

-- where a long request doesn't begin it is told why
pub told_why : (refusal : Option Refused) (number : ℤ) (Told : Refused → Type 0) → Err number ≡ begins_by refusal
    → ((why : Refused) → number ≡ refused_number why → Told why) → IfSome refusal Told
told_why None number Told is told = tt
told_why (Some why) number Told is told = told why cc

-- where it does there is nothing to tell
pub told_none : (refusal : Option Refused) (Told : Refused → Type 0) → Ok tt ≡ begins_by refusal → IfSome refusal Told
told_none None Told is = tt
told_none (Some why) Told is = absurd (cc)

-- what follows of what holds where a call came to no host, and where it was refused
pub where_none : {A P Q : Type 0} (called : Result A ℤ) → (P → Q) → IfErr called (λ n. P) → IfErr called (λ n. Q)
where_none (Err number) then holds = then holds
where_none (Ok came) then holds = tt

refused_then : {P Q : Type 0} (answer : Result Unit NotDone) → (P → Q) → IfRefused answer P → IfRefused answer Q
refused_then (Ok done) then holds = tt
refused_then (Err (RefusedFor why)) then holds = then holds
refused_then (Err (Failed cause)) then holds = tt

pub always_none : {A P : Type 0} (called : Result A ℤ) → P → IfErr called (λ n. P)
always_none (Err number) holds = holds
always_none (Ok came) holds = tt

-- what holds after a call, whether it has come to a host or not
pub either_call : {A D : Type 0} (called : Result A ℤ) (Holds : D → Type 0) (Then : Type 0) (middle end : D)
    → IfErr called (λ n. Holds middle) → IfErr called (λ n. end ≡ middle) → IfOk called (λ came. Then) → (Then → Holds end)
    → Holds end
either_call (Err number) Holds Then middle end none same came then = subst Holds (sym same) none
either_call (Ok done) Holds Then middle end none same came then = then came

-- two facts of where a call came to no host
pub both_none : {A P Q R : Type 0} (called : Result A ℤ) → (P → Q → R) → IfErr called (λ n. P) → IfErr called (λ n. Q)
    → IfErr called (λ n. R)
both_none (Err number) then p q = then p q
both_none (Ok came) then p q = tt

pub where_refused : {A P Q : Type 0} (answer : A → Result Unit NotDone) (called : Result A ℤ) → (P → Q)
    → IfOk called (λ came. IfRefused (answer came) P) → IfOk called (λ came. IfRefused (answer came) Q)
where_refused answer (Err number) then holds = tt
where_refused answer (Ok came) then holds = refused_then (answer came) then holds

-- of what a call has left, where its request was refused, or wasn't
pub untold_by : {B H : Type 0} (P Q : Type 0) (host : H) (Holds : H → Type 0) (answer : Result Unit NotDone) (end : Result B H)
    → is_err end ≡ is_some (refusal_in answer) → IfRefused answer ((end ≡ Err host) × P × Q) → Holds host → IfErr end Holds
untold_by P Q host Holds answer (Ok bus) refused untouched holds = tt
untold_by P Q host Holds (Ok done) (Err left) refused untouched holds = absurd (false≢true (sym refused))
untold_by P Q host Holds (Err (RefusedFor why)) (Err left) refused untouched holds =
    let same : left ≡ host = let is = untouched.0 in cc in
    subst Holds (sym same) holds
untold_by P Q host Holds (Err (Failed cause)) (Err left) refused untouched holds = absurd (false≢true (sym refused))

pub where_left : {B H : Type 0} {P Q : B → Type 0} (end : Result B H) → ((bus : B) → P bus → Q bus) → IfOk end P → IfOk end Q
where_left (Ok bus) then holds = then bus holds
where_left (Err host) then holds = tt

-- what holds of every way holds of this one
where_kept : {B H : Type 0} (Holds : H → WayRecord → Type 0) (end : Result B H) (way : WayRecord)
    → IfErr end (λ host. (w : WayRecord) → Holds host w) → IfErr end (λ host. Holds host way)
where_kept Holds (Err host) way all = all way
where_kept Holds (Ok bus) way all = tt

pub refused_at : {A B H : Type 0} (Holds : A → H → WayRecord → Type 0) (end : A → Result B H) (called : Result A ℤ) (way : WayRecord)
    → IfOk called (λ came. IfErr (end came) (λ host. (w : WayRecord) → Holds came host w))
    → IfOk called (λ came. IfErr (end came) (λ host. Holds came host way))
refused_at Holds end (Err number) way all = tt
refused_at Holds end (Ok came) way all = where_kept (Holds came) (end came) way all

pub left_at : {A B H : Type 0} (Holds : A → B → WayRecord → Type 0) (end : A → Result B H) (called : Result A ℤ) (way : WayRecord)
    → IfOk called (λ came. IfOk (end came) (λ bus. (w : WayRecord) → Holds came bus w))
    → IfOk called (λ came. IfOk (end came) (λ bus. Holds came bus way))
left_at Holds end (Err number) way all = tt
left_at Holds end (Ok came) way all = where_left (end came) (λ bus each. each way) all

-- a request was served over the host as it was before it was told its lines
served_as : (Has : BusView → Served → BusView → Type 0) (stands : Stands) (was host : HostView) (answer : Result Unit NotDone)
    (note : CardRecord) (end : BusView) → OnlyTold was host → (end.is_kept ≡ true → host.is_kept ≡ true)
    → IsServed Has stands host answer note end → IsServed Has stands was answer note end
served_as Has stands was host answer note end told was_kept s = record {
  served = s.served;
  answers = s.answers;
  fits = s.fits;
  notes = s.notes;
  has = λ kept. subst (λ (h : HostView). StandsIn stands (bus_going_on h (lines_in stands))
      → Has (bus_going_on h (lines_in stands)) s.served end) (told (was_kept kept)).1 (s.has kept);
}

pub served_noted : {B H : Type 0} (note : CardRecord) (stands : Stands) → IsAsNoted stands note
    → (Has : Stands → BusView → Served → BusView → Type 0) (was host : HostView) (answer : Result Unit NotDone) (new : CardRecord)
    (view : B → BusView) (end : Result B H) → OnlyTold was host → IfOk end (λ bus. (view bus).is_kept ≡ true → host.is_kept ≡ true)
    → IfOk end (λ bus. IsServed (Has stands) stands host answer new (view bus))
    → IfNoted note (λ how. IfOk end (λ bus. IsServed (Has how) how was answer new (view bus)))
served_noted note stands noted Has was host answer new view (Ok bus) told was_kept served =
    as_noted note stands noted (λ how. IsServed (Has how) how was answer new (view bus))
    (served_as (Has stands) stands was host answer new (view bus) told was_kept served)
served_noted note stands noted Has was host answer new view (Err left) told was_kept served = λ how says. tt

opened_by : (b : Bool) → (b ≡ false → ⊥) → b ≡ true
opened_by true not = refl
opened_by false not = absurd (not refl)

ok_or_err : {A : Type 0} {came : A} {other : ℤ} → Ok came ≡ Err other → ⊥
ok_or_err is = absurd (cc)

pub is_noted : (way : WayRecord) (note : CardRecord) → true ≡ is_open way note → is_note note ≡ true
is_noted way note opened = and_left (is_note note) _ (sym opened)

-- a call that has come to a host is for a card that is noted
pub open_by : {A : Type 0} (way : WayRecord) (note : CardRecord) (number : ℤ) (called : Result A ℤ)
    → (is_open way note ≡ false → called ≡ Err number) → IfOk called (λ came. is_note note ≡ true)
open_by way note number (Err other) not = tt
open_by way note number (Ok came) not = and_left (is_note note) _ (opened_by (is_open way note) (λ is. absurd (ok_or_err (not is))))
