-- The work that is left, as a bound on the turns, and the causes of failures.
use Rattle.std.specs.Prelude.{◌*◌, ◌+◌, ◌-◌, ◌<◌, ◌==◌, ◌≡◌, ◌≤◌, Bool, List, None, Option, Some, [], ◌∷◌, false}
use Rattle.std.specs.Prelude.{if◌then◌else◌, length, true, ℕ}
use Rattle.mmc_card.specs.BusView.{BusView}
use Rattle.mmc_card.specs.Sectors.{part_number}
use Rattle.mmc_card.specs.declared.part.Part.{Part}
use Rattle.mmc_bus.specs.Heard.{cause_of}
use Rattle.mmc_bus.specs.declared.cause.Cause.{Cause}
use Rattle.mmc_bus.specs.declared.cause.Cause.TheVariants.{Recovery}
use Rattle.mmc_erase.specs.Run.{exchanges_left as erases_left}
use Rattle.mmc_transfer.specs.Run.{exchanges_left as moves_left}
use Rattle.mmc_queue.specs.declared.entry.Entry.{Entry}
use Rattle.mmc_queue.specs.declared.extent.TheConstants.{MAX_GROUP}
use Rattle.mmc_requests.specs.declared.limits.TheConstants.{ATTEMPTS, MAX_COUNT}
use Rattle.mmc_recovery.specs.declared.settling.TheConstants.{EXCHANGES_OF_A_SETTLE}
use Rattle.mmc_switch.specs.declared.mmc.TheConstants.{EXCHANGES_OF_A_SWITCH}
use Rattle.mmc_transfer.specs.declared.pace.Pace.{Pace}
use Rattle.mmc_transfer.specs.declared.pace.Pace.TheVariants.{Exchange, Transfer}
use Rattle.mmc_block.specs.Service.{tries}
use Rattle.mmc_block.specs.declared.service.Attempt.{Attempt}
use Rattle.mmc_switch.specs.declared.stands.Stands.{Stands}
use Rattle.mmc_switch.specs.declared.progress.Progress.{Progress}
use Rattle.mmc_switch.specs.declared.progress.Progress.TheVariants.{Done, Failed, More}
use Rattle.mmc_block.specs.declared.service.Work.{Work}
use Rattle.mmc_block.specs.declared.service.Work.TheVariants.{Blocks, Erase}
use Rattle.mmc_block.specs.Service.{Service}
use Rattle.mmc_block.specs.Service.Service.{Idle, Serving, Taken}
use Rattle.mmc_block.specs.declared.service.Stage.{Stage}
use Rattle.mmc_block.specs.declared.service.Stage.TheVariants.{At, Running}
use Rattle.mmc_block.specs.declared.work.TheConstants.{TURNS_OF_AN_ATTEMPT, TURNS_OF_A_RUN}

-- Turns.

-- the partition is selected
abbrev pub is_on : Option Part → Part → Bool
is_on None part = false
is_on (Some selected) part = part_number selected == part_number part

abbrev pub run_left : Work → ℕ
run_left (Blocks run) = moves_left run
run_left (Erase run) = erases_left run

-- what is left of an attempt at a group of this partition: a settle, a select, and a run
abbrev pub stage_left : Stage → Part → ℕ
stage_left (At (Stands.Broken broken)) part = TURNS_OF_A_RUN + 2
stage_left (At (Stands.Ready session)) part = if is_on session.selected part then TURNS_OF_A_RUN else TURNS_OF_A_RUN + 1
stage_left (Running work) part = run_left work

-- the card isn't ready in this partition
abbrev pub IsElsewhere : Part → Stands → Type 0
IsElsewhere part (Stands.Ready session) = is_on session.selected part ≡ false
IsElsewhere part (Stands.Broken broken) = Unit {0}

-- what is left of it after a turn
abbrev pub left_behind : Part → Progress Stage → ℕ
left_behind part (More stage) = stage_left stage part
left_behind part (Done session) = 0
left_behind part (Failed broken) = 0

-- an attempt of which so much was left is nearer to its end
abbrev pub Lowers : ℕ → Part → Progress Stage → Type 0
Lowers left part outcome = left_behind part outcome < left

-- the attempts that are left after this one: those at the group, and then those at each request of several alone
abbrev pub split : List Entry → ℕ
split [] = 0
split (e ∷ []) = 0
split (e ∷ f ∷ es) = ATTEMPTS * length (e ∷ f ∷ es)

abbrev pub attempts_left : Attempt → ℕ
attempts_left attempt =
    (tries attempt.group.members.items - (attempt.failed + 1)) + split attempt.group.members.items
    + ATTEMPTS * length attempt.others.items

-- a run that moves blocks has no more of them than a request may have
abbrev pub IsShort : Work → Type 0
IsShort (Blocks run) = run.job.count ≤ MAX_COUNT
IsShort (Erase run) = Unit {0}

-- the same of an attempt's run, where it is under way
abbrev pub IsShortAt : Stage → Type 0
IsShortAt (At stands) = Unit {0}
IsShortAt (Running work) = IsShort work

-- an attempt at some requests, of which not all have failed, and not at too many, by a run that isn't too long
abbrev pub IsCountable : Service → Type 0
IsCountable (Idle stands) = Unit {0}
IsCountable (Serving stage attempt) =
    (0 < length attempt.group.members.items) × (attempt.failed < tries attempt.group.members.items)
    × (length attempt.group.members.items + length attempt.others.items ≤ MAX_GROUP) × IsShortAt stage
IsCountable Taken = Unit {0}

-- a bound on the turns of those in service
abbrev pub service_left : Service → ℕ
service_left (Idle stands) = 0
service_left (Serving stage attempt) =
    stage_left stage attempt.group.extent.part + TURNS_OF_AN_ATTEMPT * attempts_left attempt
service_left Taken = 0

-- Exchanges.

-- Those of a turn are paid for by the work that is left, a settle's for each.
abbrev pub Pays : Part → ℕ → BusView → Progress Stage → BusView → Type 0
Pays part left was outcome now =
    now.exchanges + EXCHANGES_OF_A_SETTLE * left_behind part outcome ≤ was.exchanges + EXCHANGES_OF_A_SETTLE * left

-- how many exchanges of a run a turn may make at most: one, or all that are left
abbrev pub most_of_run : Pace → ℕ → ℕ
most_of_run Exchange left = 1
most_of_run Transfer left = left

-- and of a card that is ready: those of a select, or of a run that begins
abbrev pub most_ready : Pace → ℕ
most_ready Exchange = EXCHANGES_OF_A_SWITCH
most_ready Transfer = TURNS_OF_A_RUN

-- how many exchanges a turn may make at most: those of a settle, of a select, or of a run
abbrev pub most_at : Pace → Stage → ℕ
most_at pace (At (Stands.Broken broken)) = EXCHANGES_OF_A_SETTLE
most_at pace (At (Stands.Ready session)) = most_ready pace
most_at pace (Running work) = most_of_run pace (run_left work)

abbrev pub most_exchanges : Pace → Service → ℕ
most_exchanges pace (Idle stands) = most_at pace (At stands)
most_exchanges pace (Serving stage attempt) = most_at pace stage
most_exchanges pace Taken = 0

-- Causes.

-- the card is broken
abbrev pub is_broken : Stage → Bool
is_broken (At (Stands.Broken broken)) = true
is_broken (At (Stands.Ready session)) = false
is_broken (Running work) = false

-- want of recovery where the card was broken, otherwise what the last exchange tells
abbrev pub IsCauseAfter : Bool → Cause → BusView → Type 0
IsCauseAfter true cause view = cause ≡ Recovery
IsCauseAfter false cause view = cause_of view.last ≡ Some cause

abbrev pub IsCausedBy : Bool → Progress Stage → BusView → Type 0
IsCausedBy was_broken (Failed broken) view = IsCauseAfter was_broken broken.cause view
IsCausedBy was_broken outcome view = Unit {0}
