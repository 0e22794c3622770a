-- What the service of a device means.
use Rattle.std.specs.Prelude.{◌++◌, ◌+◌, ◌-◌, ◌<◌, ◌∷◌, ◌≡◌, ◌≤◌, ◌⊎◌, List, [], length, map, ℕ}
use Rattle.mmc_card.specs.BusView.{BusView}
use Rattle.mmc_card.specs.Card.{holds}
use Rattle.mmc_card.specs.Profile.{InProfile}
use Rattle.mmc_card.specs.Sectors.{Change, Sector, Within, changed, maybe_changed}
use Rattle.mmc_bus.specs.Learned.{Stays}
use Rattle.mmc_erase.specs.Run.{IsRunning as IsErasing}
use Rattle.mmc_queue.specs.Group.{IsFair, IsJoined}
use Rattle.mmc_queue.specs.Lent.{blocks_of, write_blocks_of}
use Rattle.mmc_queue.specs.Waiting.{AreSound}
use Rattle.mmc_queue.specs.declared.entry.Entry.{Entry}
use Rattle.mmc_queue.specs.declared.extent.TheConstants.{MAX_GROUP}
use Rattle.mmc_queue.specs.declared.group.Group.{Group}
use Rattle.mmc_requests.specs.declared.kind.Kind.{Kind}
use Rattle.mmc_requests.specs.declared.kind.Kind.TheVariants as kind
use Rattle.mmc_switch.specs.Info.{lasting}
use Rattle.mmc_switch.specs.Place.{IsBroken, IsReady}
use Rattle.mmc_switch.specs.Stands.{StandsIn, info_of}
use Rattle.mmc_switch.specs.Turns.{progress_of}
use Rattle.mmc_switch.specs.UnderWay.{part_of}
use Rattle.mmc_switch.specs.declared.broken.Broken.{Broken}
use Rattle.mmc_switch.specs.declared.info.Info.{Info}
use Rattle.mmc_switch.specs.declared.session.Session.{Session}
use Rattle.mmc_transfer.specs.Run.{IsRunning as IsMoving}
use Rattle.mmc_transfer.specs.declared.way.Way.{Way}
use Rattle.mmc_transfer.specs.declared.way.Way.TheVariants as way
use Rattle.mmc_requests.specs.Changes.{change_by as change_as}
use Rattle.mmc_requests.specs.Kinds.{kind_of_how}
use Rattle.mmc_requests.specs.declared.limits.TheConstants.{ATTEMPTS, ATTEMPTS_OF_A_GROUP}
use Rattle.mmc_block.specs.Entries.{AreServable, HoldWhatTheyRead, completion_of, waits_of}
use Rattle.mmc_block.specs.Groups.{AreInOrder, AreOneKind, PassNone}
use Rattle.mmc_block.specs.Machine.{Waiting}
use Rattle.mmc_block.specs.declared.completion.Answer.TheVariants.{Failed as FailedFor}
use Rattle.mmc_block.specs.declared.completion.Completion.{Completion}
use Rattle.mmc_block.specs.declared.service.Attempt.{Attempt}
use Rattle.mmc_switch.specs.declared.stands.Stands.{Stands}
use Rattle.mmc_switch.specs.declared.progress.Progress.{Progress}
use Rattle.mmc_switch.specs.declared.progress.Progress.TheVariants.{Done, Failed, More}
use Rattle.mmc_switch.specs.declared.progress.Standing.{Standing}
use Rattle.mmc_block.specs.declared.service.Work.{Work}
use Rattle.mmc_block.specs.declared.service.Work.TheVariants.{Blocks, Erase}
use Rattle.mmc_block.specs.declared.service.Phase.{Phase}
use Rattle.mmc_block.specs.declared.service.Phase.TheVariants as phase
use Rattle.mmc_block.specs.declared.service.Stage.{Stage}
use Rattle.mmc_block.specs.declared.service.Stage.TheVariants.{At, Running}

-- What a device is at, as contracts see it: nothing is in service, or an attempt is, which has come so far. The device itself
-- keeps the phase and the attempt apart, so that a turn moves the phase alone.
pub data Service : Type 0 where
  Idle : Stands → Service
  Serving : Stage → Attempt → Service
  Taken : Service

-- the two together
abbrev pub service_of : Phase → Attempt → Service
service_of (phase.Idle stands) attempt = Idle stands
service_of (phase.Serving stage) attempt = Serving stage attempt
service_of phase.Taken attempt = Taken

-- where nothing is in service the attempt has no requests
abbrev pub EmptyIfIdle : Phase → Attempt → Type 0
EmptyIfIdle (phase.Idle stands) attempt = (attempt.group.members.items ≡ []) × (attempt.others.items ≡ [])
EmptyIfIdle (phase.Serving stage) attempt = Unit {0}
EmptyIfIdle phase.Taken attempt = Unit {0}

-- What is known of the card.

-- for good: an SD card may publish another RCA after each reset, and take another speed
abbrev pub lasting_of : Session → Info
lasting_of session = lasting session.info

abbrev pub lasting_by : Stands → Info
lasting_by (Stands.Ready session) = lasting_of session
lasting_by (Stands.Broken broken) = lasting_of broken.session

abbrev pub session_of : Work → Session
session_of (Blocks run) = run.job.session
session_of (Erase run) = run.job.session

abbrev pub info_of_stage : Stage → Info
info_of_stage (At stands) = lasting_by stands
info_of_stage (Running work) = lasting_of (session_of work)

abbrev pub info_of_outcome : Progress Stage → Info
info_of_outcome (More stage) = info_of_stage stage
info_of_outcome (Done session) = lasting_of session
info_of_outcome (Failed broken) = lasting_of broken.session

-- with the RCA and the speed that it has now
abbrev pub info_now_at : Stage → Info
info_now_at (At stands) = info_of stands
info_now_at (Running work) = (session_of work).info

abbrev pub IsInfoNow : Service → Info → Type 0
IsInfoNow (Idle stands) info = info ≡ info_of stands
IsInfoNow (Serving stage attempt) info = info ≡ info_now_at stage
IsInfoNow Taken info = Unit {0}

-- how a run stands after a turn, which is this then
abbrev pub work_then : Work → Standing → Progress Stage
work_then work standing = progress_of (session_of work) (Running work) standing

-- The phase before a step and after it.

-- it is not in the hands of a call
abbrev pub IsHere : Phase → Type 0
IsHere (phase.Idle stands) = Unit {0}
IsHere (phase.Serving stage) = Unit {0}
IsHere phase.Taken = ⊥

-- an attempt is in service, and this holds of how far it has come
abbrev pub IfServing : Phase → (Stage → Type 0) → Type 0
IfServing (phase.Serving stage) Holds = Holds stage
IfServing (phase.Idle stands) Holds = ⊥
IfServing phase.Taken Holds = ⊥

-- nothing is in service, and this holds of the card
abbrev pub IfIdle : Phase → (Stands → Type 0) → Type 0
IfIdle (phase.Idle stands) Holds = Holds stands
IfIdle (phase.Serving stage) Holds = ⊥
IfIdle phase.Taken Holds = ⊥

-- an attempt's run is still to begin, or is under way
abbrev pub IfAt : Phase → (Stands → Type 0) → Type 0
IfAt (phase.Serving (At stands)) Holds = Holds stands
IfAt (phase.Serving (Running work)) Holds = ⊥
IfAt (phase.Idle stands) Holds = ⊥
IfAt phase.Taken Holds = ⊥

-- a card is ready for an attempt whose run is still to begin
abbrev pub IfReady : Phase → (Session → Type 0) → Type 0
IfReady (phase.Serving (At (Stands.Ready session))) Holds = Holds session
IfReady (phase.Serving (At (Stands.Broken broken))) Holds = ⊥
IfReady (phase.Serving (Running work)) Holds = ⊥
IfReady (phase.Idle stands) Holds = ⊥
IfReady phase.Taken Holds = ⊥

abbrev pub IfRunning : Phase → (Work → Type 0) → Type 0
IfRunning (phase.Serving (Running work)) Holds = Holds work
IfRunning (phase.Serving (At stands)) Holds = ⊥
IfRunning (phase.Idle stands) Holds = ⊥
IfRunning phase.Taken Holds = ⊥

-- what a step has left of an attempt: it goes on, or it is over, and the phase has the card; one in the hands of a call has
-- left it where it was
abbrev pub outcome_of : Stage → Phase → Progress Stage
outcome_of was (phase.Serving stage) = More stage
outcome_of was (phase.Idle (Stands.Ready session)) = Done session
outcome_of was (phase.Idle (Stands.Broken broken)) = Failed broken
outcome_of was phase.Taken = More was

-- A run for a group.

abbrev pub kind_of_way : Way → Kind
kind_of_way way.Read = kind.Read
kind_of_way way.Write = kind.Write

-- the session's partition and these sectors are those of the group
pub record IsFor (group : Group) (session : Session) (start count : ℕ) : Type 0 where
  pub part : part_of session ≡ group.extent.part
  pub start_is : start ≡ group.extent.start
  pub count_is : count ≡ group.extent.end - group.extent.start

-- the run does what the requests of the group ask
abbrev pub IsWorkOf : Group → Work → Type 0
IsWorkOf group (Blocks run) =
    IsFor group run.job.session run.job.start run.job.count × (group.extent.kind ≡ kind_of_way run.job.way)
IsWorkOf group (Erase run) =
    IsFor group run.job.session run.job.start run.job.count × (group.extent.kind ≡ kind_of_how run.job.how)

abbrev pub IsStageOf : Group → Stage → Type 0
IsStageOf group (At stands) = Unit {0}
IsStageOf group (Running work) = IsWorkOf group work

abbrev pub IsOutcomeOf : Group → Progress Stage → Type 0
IsOutcomeOf group (More stage) = IsStageOf group stage
IsOutcomeOf group (Done session) = Unit {0}
IsOutcomeOf group (Failed broken) = Unit {0}

-- what goes on isn't a broken card: one that something failed with has failed the attempt
abbrev pub GoesOnReady : Progress Stage → Type 0
GoesOnReady (More (At (Stands.Ready session))) = Unit {0}
GoesOnReady (More (At (Stands.Broken broken))) = ⊥
GoesOnReady (More (Running work)) = Unit {0}
GoesOnReady (Done session) = Unit {0}
GoesOnReady (Failed broken) = Unit {0}

-- the blocks that a group lends to a run which moves blocks this way
abbrev pub lent_for : Way → Group → List Sector
lent_for way.Read group = blocks_of group
lent_for way.Write group = write_blocks_of group

-- the change that a run for a group makes, by its kind
abbrev pub change_by : Info → Group → Kind → Change
change_by info group kind =
    change_as kind info group.extent.part group.extent.start (group.extent.end - group.extent.start) (write_blocks_of group)

abbrev pub change_of_group : Info → Group → Change
change_of_group info group = change_by info group group.extent.kind

-- Where the card is.

-- the run is under way with the blocks of the group, after so many faults in its turns
abbrev pub IsUnderWay : Work → Group → ℕ → BusView → Type 0
IsUnderWay (Blocks run) group faults view = IsMoving run (lent_for run.job.way group) faults view
IsUnderWay (Erase run) group faults view = IsErasing run faults view

-- the card is where the attempt says
abbrev pub IsAt : Stage → Group → ℕ → BusView → Type 0
IsAt (At stands) group faults view = StandsIn stands view
IsAt (Running work) group faults view = IsUnderWay work group faults view

-- What a turn of an attempt leaves, after so many faults in the turns of its run: it goes on; or it is done with its whole
-- effect, and the card is ready; or it has failed, which in profile takes a fault.
abbrev pub HasLeft : Change → Group → ℕ → BusView → Progress Stage → BusView → Type 0
HasLeft change group faults old (More stage) new =
    (later : ℕ) × (later ≤ faults) × IsAt stage group later new
    × Within (holds new.card) (maybe_changed change (holds old.card))
HasLeft change group faults old (Done session) new =
    IsReady session new × Within (holds new.card) (changed change (holds old.card))
    × HoldWhatTheyRead (holds new.card) group.members.items
HasLeft change group faults old (Failed broken) new =
    IsBroken broken new × (InProfile old.card.made → 0 < faults)
    × Within (holds new.card) (maybe_changed change (holds old.card))

pub record Did (change : Change) (group : Group) (faults : ℕ) (old : BusView) (outcome : Progress Stage)
    (new : BusView) : Type 0 where
  pub stays : Stays old new
  pub left : HasLeft change group faults old outcome new

-- Who is in service.

-- the service is not in the hands of a call
abbrev pub IsHeld : Service → Type 0
IsHeld (Idle stands) = Unit {0}
IsHeld (Serving stage attempt) = Unit {0}
IsHeld Taken = ⊥

abbrev pub in_service_of : Service → List Waiting
in_service_of (Idle stands) = []
in_service_of (Serving stage attempt) = waits_of attempt.group.members.items ++ waits_of attempt.others.items
in_service_of Taken = []

-- how many attempts these have
abbrev pub tries : {A : Type 0} → List A → ℕ
tries [] = 0
tries (w ∷ []) = ATTEMPTS
tries (w ∷ v ∷ ws) = ATTEMPTS_OF_A_GROUP

-- several are served together only where they are all
abbrev pub AreAll : List Entry → List Entry → Type 0
AreAll [] others = Unit {0}
AreAll (w ∷ []) others = Unit {0}
AreAll (w ∷ v ∷ ws) others = others ≡ []

-- What an attempt keeps true of its fields.
pub record AttemptOk (info : Info) (attempt : Attempt) : Type 0 where
  pub joined : IsJoined attempt.group.members.items attempt.group.extent
  pub servable : AreServable info (attempt.group.members.items ++ attempt.others.items)
  pub sound : AreSound attempt.others.items
  pub fits : attempt.failed < tries attempt.group.members.items
  pub all : AreAll attempt.group.members.items attempt.others.items
  pub few : length attempt.group.members.items + length attempt.others.items ≤ MAX_GROUP

-- Those in service are of one partition and kind, by ticket, and pass no earlier one of these that conflicts.
pub record AreServed (in_service waits : List Waiting) (next : ℕ) : Type 0 where
  pub one_kind : AreOneKind in_service
  pub in_order : AreInOrder 0 in_service next
  pub passes_none : PassNone in_service waits

abbrev pub ServiceOk : Info → Service → List Waiting → ℕ → Type 0
ServiceOk info (Idle stands) waits next = lasting_by stands ≡ info
ServiceOk info (Serving stage attempt) waits next =
    (info_of_stage stage ≡ info) × IsStageOf attempt.group stage × AttemptOk info attempt
    × AreServed (in_service_of (Serving stage attempt)) waits next
ServiceOk info Taken waits next = ⊥

-- What the device decides.

-- what it decides about: an attempt at sound requests, of whose tries one is left, before there is an answer
pub record IsTried (attempt : Attempt) (answers : List Completion) : Type 0 where
  pub some : 0 < length attempt.group.members.items
  pub sound : AreSound attempt.group.members.items
  pub others : AreSound attempt.others.items
  pub all : AreAll attempt.group.members.items attempt.others.items
  pub fits : attempt.failed < tries attempt.group.members.items
  pub no_answer : answers ≡ []

-- an attempt at these alone, of which none has failed, before these others
pub record IsFirstTry (attempt : Attempt) (members others : List Entry) : Type 0 where
  pub members_are : attempt.group.members.items ≡ members
  pub others_are : attempt.others.items ≡ others
  pub joined : IsJoined attempt.group.members.items attempt.group.extent
  pub failed : attempt.failed ≡ 0

-- where nothing is in service, the next group goes into service, if something waits
abbrev pub HasStarted : List Entry → Service → List Entry → Service → Type 0
HasStarted old (Idle stands) left service =
    ((old ≡ []) × (left ≡ []) × (service ≡ Idle stands))
    ⊎ ((attempt : Attempt) × (service ≡ Serving (At stands) attempt) × IsFirstTry attempt attempt.group.members.items []
    × IsFair old attempt.group.members.items attempt.group.extent left)
HasStarted old (Serving stage attempt) left service = (service ≡ Serving stage attempt) × (left ≡ old)
HasStarted old Taken left service = ⊥

-- the first of those that are to be served alone, or none
abbrev pub IsNext : Stands → List Entry → Service → Type 0
IsNext stands [] service = service ≡ Idle stands
IsNext stands (e ∷ es) service = (attempt : Attempt) × (service ≡ Serving (At stands) attempt) × IsFirstTry attempt (e ∷ []) es

-- after the last attempt has failed: one alone fails, and of several each is served alone
abbrev pub AfterFailure : Broken → List Entry → List Entry → Service → List Completion → Type 0
AfterFailure broken [] others service completions = ⊥
AfterFailure broken (e ∷ []) others service completions =
    IsNext (Stands.Broken broken) others service
    × (completions ≡ record { ticket = e.ticket; client = e.client; answer = FailedFor broken.cause } ∷ [])
AfterFailure broken (e ∷ f ∷ es) others service completions =
    IsNext (Stands.Broken broken) (e ∷ f ∷ es) service × (completions ≡ [])

-- after a failure there is another attempt, until the last one has failed
abbrev pub AfterAttempt : Broken → Attempt → Service → List Completion → Type 0
AfterAttempt broken attempt service completions =
    ((attempt.failed + 1 < tries attempt.group.members.items)
    × (service ≡ Serving (At (Stands.Broken broken)) (record attempt { failed = attempt.failed + 1 })) × (completions ≡ []))
    ⊎ ((attempt.failed + 1 ≡ tries attempt.group.members.items)
    × AfterFailure broken attempt.group.members.items attempt.others.items service completions)

-- what follows a turn of an attempt
abbrev pub Concludes : Progress Stage → Attempt → Service → List Completion → Type 0
Concludes (More stage) attempt service completions = (service ≡ Serving stage attempt) × (completions ≡ [])
Concludes (Done session) attempt service completions =
    IsNext (Stands.Ready session) attempt.others.items service × (completions ≡ map completion_of attempt.group.members.items)
Concludes (Failed broken) attempt service completions = AfterAttempt broken attempt service completions
