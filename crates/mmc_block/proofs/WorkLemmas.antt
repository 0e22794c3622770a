-- How many attempts are left, and that each turn lowers the work that is left.
use Rattle.std.proofs.Common.{◌*◌, ◌+◌, ◌-◌, ◌<◌, ◌∙◌, ◌∷◌, ◌≡◌, ◌≤◌, Bool, List, [], ap, arith, false, if◌then◌else◌}
use Rattle.std.proofs.Common.{inl, inr, length, refl, suc, true, ℕ}
use Rattle.mmc_card.specs.declared.part.Part.{Part}
use Rattle.mmc_queue.specs.declared.entry.Entry.{Entry}
use Rattle.mmc_queue.specs.declared.extent.Extent.{Extent}
use Rattle.mmc_queue.specs.declared.group.Group.{Group}
use Rattle.mmc_requests.specs.declared.limits.TheConstants.{MAX_COUNT}
use Rattle.mmc_queue.specs.Group.{IsFair, IsMerged}
use Rattle.mmc_queue.specs.Lent.{AreLent}
use Rattle.mmc_queue.specs.Requests.{can_merge}
use Rattle.mmc_switch.specs.declared.info.Info.{Info}
use Rattle.mmc_switch.specs.declared.broken.Broken.{Broken}
use Rattle.mmc_block.specs.declared.completion.Completion.{Completion}
use Rattle.mmc_block.specs.declared.service.Attempt.{Attempt}
use Rattle.mmc_switch.specs.declared.stands.Stands.{Stands}
use Rattle.mmc_switch.specs.declared.progress.Progress.{Progress}
use Rattle.mmc_switch.specs.declared.progress.Progress.TheVariants.{Done, Failed, More}
use Rattle.mmc_block.specs.Service.{Service}
use Rattle.mmc_block.specs.Service.Service.{Idle, Serving, Taken}
use Rattle.mmc_block.specs.declared.service.Stage.{Stage}
use Rattle.mmc_block.specs.declared.service.Stage.TheVariants.{At, Running}
use Rattle.mmc_block.specs.declared.service.Work.{Work}
use Rattle.mmc_block.specs.declared.service.Work.TheVariants.{Blocks, Erase}
use Rattle.mmc_transfer.specs.declared.way.Way.{Way}
use Rattle.mmc_transfer.specs.declared.way.Way.TheVariants as way
use Rattle.mmc_block.specs.declared.work.TheConstants.{TURNS_OF_AN_ATTEMPT, TURNS_OF_A_REQUEST, TURNS_OF_A_RUN}
use Rattle.mmc_block.specs.Entries.{waits_of}
use Rattle.mmc_block.specs.Machine.{Waiting}
use Rattle.mmc_block.specs.Service.{AfterFailure, Concludes, HasStarted, IsFirstTry, IsNext, IsStageOf, IsWorkOf, ServiceOk}
use Rattle.mmc_block.specs.Service.{kind_of_way, tries}
use Rattle.mmc_block.specs.Work.{IsCountable, IsShort, IsShortAt, attempts_left, is_on, left_behind, service_left, split}
use Rattle.mmc_block.specs.Work.{stage_left}

-- The blocks of a run.

-- reads and writes are joined up to so many sectors
can_join : (w : Way) → can_merge (kind_of_way w) ≡ true
can_join way.Read = refl
can_join way.Write = refl

module _ (g : Group) (short : can_merge g.extent.kind ≡ true → g.extent.end ≤ g.extent.start + MAX_COUNT) where
  -- so that a run for them has no more blocks
  run_short : (work : Work) → IsWorkOf g work → IsShort work
  run_short (Blocks run) of =
      let count = of.0.count_is in
      let few = short (ap can_merge of.1 ∙ can_join run.job.way) in
      omega (arith, count, few)
  run_short (Erase run) of = tt

  stage_short : (stage : Stage) → IsStageOf g stage → IsShortAt stage
  stage_short (At stands) of = tt
  stage_short (Running work) of = run_short work of

-- what a device has in service is bounded
pub countable : (info : Info) (service : Service) (waits : List Waiting) (next : ℕ) → ServiceOk info service waits next
    → IsCountable service
countable info (Idle stands) waits next ok = tt
countable info (Serving stage attempt) waits next ok =
    let attempted = ok.2 in (
      attempted.joined.some,
      attempted.fits,
      attempted.few,
      stage_short attempt.group attempted.joined.short stage ok.1,
    )
countable info Taken waits next ok = absurd ok

-- Attempts.

-- those at some requests, with this one, are at most six for each that is in service
pub attempts_most : (members : List Entry) (failed others : ℕ) → 0 < length members → failed < tries members
    → (tries members - (failed + 1)) + split members + 4 * others + 1 ≤ 6 * (length members + others)
attempts_most [] failed others some fits = absurd (omega (arith, some))
attempts_most (e ∷ []) failed others some fits = omega arith
attempts_most (e ∷ f ∷ es) failed others some fits = omega arith

one_less : (tries failed : ℕ) → failed + 1 < tries → tries - (failed + 1) ≡ tries - (failed + 1 + 1) + 1
one_less tries failed more = omega (arith, more)

-- An attempt.

one_of : (b : Bool) → (if b then TURNS_OF_A_RUN else TURNS_OF_A_RUN + 1) ≤ TURNS_OF_AN_ATTEMPT
one_of true = omega arith
one_of false = omega arith

-- a new attempt takes no more turns than that, whatever its partition
stage_most : (stands : Stands) (part : Part) → stage_left (At stands) part ≤ TURNS_OF_AN_ATTEMPT
stage_most (Stands.Ready session) part = one_of (is_on session.selected part)
stage_most (Stands.Broken broken) part = omega arith

-- What is decided.

next_left : (stands : Stands) (es : List Entry) (service : Service) → IsNext stands es service
    → service_left service ≤ TURNS_OF_AN_ATTEMPT * (4 * length es)
next_left stands [] service next = rw next (omega arith)
next_left stands (e ∷ es) service next =
    let a : Attempt = next.0 in
    let most = stage_most stands a.group.extent.part in
    rw (next.1, next.2.members_are, next.2.others_are, next.2.failed) (omega (arith, most))

-- what is left, where so much is in this attempt
abbrev left_with : ℕ → Attempt → ℕ
left_with left attempt = left + TURNS_OF_AN_ATTEMPT * attempts_left attempt

failed_left : (broken : Broken) (members : List Entry) (again : ℕ) (others : List Entry) (service : Service)
    (completions : List Completion) → AfterFailure broken members others service completions
    → service_left service ≤ TURNS_OF_AN_ATTEMPT * (again + split members + 4 * length others)
failed_left broken [] again others service completions after = absurd after
failed_left broken (e ∷ []) again others service completions after =
    let next = next_left (Stands.Broken broken) others service after.0 in
    omega (arith, next)
failed_left broken (e ∷ f ∷ es) again others service completions after =
    let next = next_left (Stands.Broken broken) (e ∷ f ∷ es) service after.0 in
    omega (arith, next)

concluded_left : (outcome : Progress Stage) (attempt : Attempt) (service : Service) (completions : List Completion)
    → Concludes outcome attempt service completions
    → service_left service ≤ left_with (left_behind attempt.group.extent.part outcome) attempt
concluded_left (More stage) attempt service completions after = rw after.0 (omega arith)
concluded_left (Done session) attempt service completions after =
    let next = next_left (Stands.Ready session) attempt.others.items service after.0 in
    omega (arith, next)
concluded_left (Failed broken) attempt service completions (inl again) =
    let less = one_less (tries attempt.group.members.items) attempt.failed again.0 in
    rw again.1 (omega (arith, less))
concluded_left (Failed broken) attempt service completions (inr last) =
    let gone = failed_left broken attempt.group.members.items (tries attempt.group.members.items - (attempt.failed + 1))
    attempt.others.items service completions last.1 in
    omega (arith, gone)

-- Starts.

merged_length : (whole xs ys : List Entry) → IsMerged whole xs ys → length whole ≡ length xs + length ys
merged_length [] xs ys parts = rw (parts.0, parts.1) refl
merged_length (z ∷ whole) xs ys (inl left) =
    let rest = merged_length whole left.0 ys left.2 in
    rw left.1 (omega (arith, rest))
merged_length (z ∷ whole) xs ys (inr right) =
    let rest = merged_length whole xs right.0 right.2 in
    rw right.1 (omega (arith, rest))

waits_length : (es : List Entry) → length (waits_of es) ≡ length es
waits_length [] = refl
waits_length (e ∷ es) = ap suc (waits_length es)

some_tries : (es : List Entry) → 0 < length es → 0 < tries es
some_tries [] some = absurd (omega (arith, some))
some_tries (e ∷ []) some = omega arith
some_tries (e ∷ f ∷ es) some = omega arith

-- a group that goes into service takes no more turns than its members did while they waited
first_left : (stands : Stands) (attempt : Attempt) → IsFirstTry attempt attempt.group.members.items []
    → service_left (Serving (At stands) attempt) ≤ TURNS_OF_A_REQUEST * length attempt.group.members.items
first_left stands attempt first =
    let members : List Entry = attempt.group.members.items in
    let most = stage_most stands attempt.group.extent.part in
    let tried = some_tries members first.joined.some in
    let none = first.failed in
    let fits : attempt.failed < tries members = omega (arith, tried, none) in
    let count = attempts_most members attempt.failed (length attempt.others.items) first.joined.some fits in
    let alone : length attempt.others.items ≡ 0 = ap length first.others_are in
    omega (arith, most, count, alone)

fair_length : (old members left : List Entry) (extent : Extent) → IsFair old members extent left
    → length (waits_of old) ≡ length members + length (waits_of left)
fair_length old members left run fair =
    let whole : length old ≡ suc (length fair.later) = ap length fair.waits_are in
    let group : length members ≡ suc (length fair.others) = ap length fair.members_are in
    let parts = merged_length fair.later fair.others left fair.parts in
    let before = waits_length old in
    let after = waits_length left in
    omega (arith, whole, group, parts, before, after)

-- the work of a device in whose queue these wait
abbrev work_with : List Entry → Service → ℕ
work_with waits service = TURNS_OF_A_REQUEST * length (waits_of waits) + service_left service

started_left : (old later : List Entry) (service : Service) (stage : Stage) (attempt : Attempt)
    → HasStarted old service later (Serving stage attempt)
    → work_with later (Serving stage attempt) ≤ work_with old service
started_left old later (Idle stands) stage attempt (inl none) = let e = none.2 in cc
started_left old later (Idle stands) stage attempt (inr new) =
    let taken : Attempt = new.0 in
    let same : service_left (Serving stage attempt) ≡ service_left (Serving (At stands) taken) = ap service_left new.1 in
    let most = first_left stands taken new.2 in
    let parts = fair_length old taken.group.members.items later taken.group.extent new.3 in
    omega (arith, same, most, parts)
started_left old later (Serving before tried) stage attempt same =
    let left : service_left (Serving stage attempt) ≡ service_left (Serving before tried) = ap service_left same.0 in
    let waits : length (waits_of later) ≡ length (waits_of old) = ap (λ es. length (waits_of es)) same.1 in
    omega (arith, left, waits)
started_left old later Taken stage attempt none = absurd none

-- A turn.

lent_length : (old new : List Entry) → AreLent old new → length new ≡ length old
lent_length [] [] lent = refl
lent_length [] (f ∷ new) lent = absurd lent
lent_length (e ∷ old) [] lent = absurd lent
lent_length (e ∷ old) (f ∷ new) lent = ap suc (lent_length old new lent.1)

same_tries : (old new : List Entry) → length new ≡ length old → (tries new ≡ tries old) × (split new ≡ split old)
same_tries [] [] same = (refl, refl)
same_tries [] (f ∷ new) same = cc
same_tries (e ∷ old) [] same = cc
same_tries (e ∷ []) (f ∷ []) same = (refl, refl)
same_tries (e ∷ []) (f ∷ g ∷ new) same = cc
same_tries (e ∷ d ∷ old) (f ∷ []) same = cc
same_tries (e ∷ d ∷ old) (f ∷ g ∷ new) same = (refl, ap (λ n. 4 * n) same)

-- an attempt whose members have their buffers filled has as many attempts left
lent_attempts : (old new : Attempt) → AreLent old.group.members.items new.group.members.items → new.others ≡ old.others
    → new.failed ≡ old.failed → attempts_left new ≡ attempts_left old
lent_attempts old new lent others failed =
    let same = same_tries old.group.members.items new.group.members.items
    (lent_length old.group.members.items new.group.members.items lent) in
    rw (same.0, same.1, others, failed) refl

-- The work that is left falls by as much as what was left of the attempt, or more: where nothing was in service a group was
-- taken; then one settle, one select, or the exchanges of one turn of a run were made, and it was decided what follows.
pub turn_work : (old later : List Entry) (service new : Service) (stage : Stage) (attempt turned : Attempt)
    (outcome : Progress Stage) (completions : List Completion) → HasStarted old service later (Serving stage attempt)
    → AreLent attempt.group.members.items turned.group.members.items → turned.group.extent ≡ attempt.group.extent
    → turned.others ≡ attempt.others → turned.failed ≡ attempt.failed → Concludes outcome turned new completions
    → work_with later new + stage_left stage attempt.group.extent.part
    ≤ work_with old service + left_behind attempt.group.extent.part outcome
turn_work old later service new stage attempt turned outcome completions started lent run others failed after =
    let at_start = started_left old later service stage attempt started in
    let count = lent_attempts attempt turned lent others failed in
    let same : left_behind turned.group.extent.part outcome ≡ left_behind attempt.group.extent.part outcome =
    ap (λ (extent : Extent). left_behind extent.part outcome) run in
    let turn = concluded_left outcome turned new completions after in
    omega (arith, at_start, count, same, turn)
