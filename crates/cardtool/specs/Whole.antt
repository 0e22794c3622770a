-- The whole: a script that is served, the text of its answers, the trace after it, and the status.
use Rattle.std.specs.Prelude.{◌≡◌, ◌+◌, ◌-◌, ◌*◌, ◌≤◌, ℕ, List, [], ◌∷◌, ◌++◌, codes, length, Bool, false, true, Option}
use Rattle.std.specs.Prelude.{None, Some, Result, Ok, Err, if◌then◌else◌}
use Rattle.std.specs.Fmt.{decimal}
use Rattle.std.specs.List.{All}
use Rattle.std.specs.Io.KnownBytes.{Appends}
use Rattle.text_out.specs.Writing.{AppendsFront}
use Rattle.mmc_card.specs.Limits.{all_lines}
use Rattle.mmc_card.specs.declared.exchange.Exchange.{Exchange}
use Rattle.mmc_card.specs.declared.exchange.Lines.{Lines}
use Rattle.mmc_bus.specs.ExchangeText.{lines_text}
use Rattle.mmc_bus.specs.Trace.{HasItsFrame}
use Rattle.mmc_card.specs.BusView.{BusView}
use Rattle.mmc_card.specs.Faults.{FallNoMore}
use Rattle.mmc_card.specs.Card.{holds}
use Rattle.mmc_card.specs.Made.{Made}
use Rattle.mmc_card.specs.Profile.{InProfile}
use Rattle.mmc_card.specs.declared.part.Part.{Part}
use Rattle.mmc_card.specs.Sectors.{Sector, Sets, Within}
use Rattle.mmc_card_sim.specs.CardSpec.{refusal_of}
use Rattle.mmc_card_sim.specs.SimView.{SimView}
use Rattle.mmc_card_sim.specs.declared.spec.CardSpec.{CardSpec}
use Rattle.mmc_card_sim.specs.declared.spec.TheConstants.{MAX_SECTORS}
use Rattle.mmc_switch.specs.Info.{IsInfo}
use Rattle.mmc_switch.specs.declared.info.Info.{Info}
use Rattle.mmc_block.specs.Answers.{failures}
use Rattle.mmc_block.specs.InOrder.{AreDecided, EndsInOrder, IsInOrder, MayHold, answers, history}
use Rattle.mmc_block.specs.Machine.{all_failed}
use Rattle.mmc_block.specs.Execution.{Counted, IsCountedExecution, Event as MachineEvent, Reply, opened_after, unanswered}
use Rattle.card_text.specs.declared.event.ScriptEvent.{ScriptEvent}
use Rattle.card_text.specs.declared.event.ScriptEvent.TheVariants.{Run}
use Rattle.card_served.specs.declared.fault.ServeFault.{ServeFault}
use Rattle.card_served.specs.declared.fault.ServeFault.TheVariants.{ImageSize, Locked, NoCard, NoMemory, Register}
use Rattle.card_served.specs.declared.fault.ServeFault.TheVariants.{Unsupported, Voltage, Write}
use Rattle.card_served.specs.New.{IsNew, IsWhyUnbuilt}
use Rattle.card_text.specs.Planning.{PlannedFault}
use Rattle.cardtool.specs.Serving.{FollowScript, any_bad, texts}

-- 1 where some request was refused or failed
abbrev pub status_of : Bool → ℕ
status_of bad = if bad then 1 else 0

-- the outcome where the events were served, or where the writer failed
abbrev pub outcome_of : {E : Type 0} → Result Bool E → Result ℕ ServeFault
outcome_of (Ok bad) = Ok (status_of bad)
outcome_of (Err e) = Err Write

-- a card wasn't opened
abbrev pub is_unopened : ServeFault → Bool
is_unopened NoCard = true
is_unopened Voltage = true
is_unopened Unsupported = true
is_unopened Locked = true
is_unopened _ = false

-- the exit status, or the fault of a write after it
abbrev pub ended_by : {E : Type 0} → ℕ → Result Unit E → Result ℕ ServeFault
ended_by status (Ok x) = Ok status
ended_by status (Err e) = Err Write

-- trace K
abbrev pub trace_line : ℕ → List ℕ
trace_line count = codes "trace " ++ (decimal count ++ (10 ∷ []))

-- `trace K`, and the lines of the K exchanges
abbrev pub trace_text : List Exchange → List ℕ
trace_text exchanges = trace_line (length exchanges) ++ lines_text exchanges

-- the trace of exchanges in their frames, as many as were asked for at most
pub record IsTrace (most : ℕ) (text : List ℕ) : Type 0 where
  pub exchanges : List Exchange
  pub few : length exchanges ≤ most
  pub framed : All HasItsFrame exchanges
  pub text_is : text ≡ trace_text exchanges

-- What stands after the answers: with a trace its text, but nothing while events are left.
abbrev pub IsTraceAfter : Option ℕ → List ScriptEvent → List ℕ → Type 0
IsTraceAfter None left text = text ≡ []
IsTraceAfter (Some n) (event ∷ left) text = text ≡ []
IsTraceAfter (Some n) [] text = IsTrace n text

-- An execution by these events and replies, which are the script's up to what is left, over sectors that held `before` and
-- then `later`, while so many faults fell.
pub record ExecutionOverSectors (info : Info) (in_profile : Bool) (before later : Sets) (fell : ℕ)
    (script left : List ScriptEvent)
    (events : List MachineEvent) (replies : List Reply) : Type 0 where
  pub last : Counted
  -- the faults before the first event
  pub earlier : ℕ
  -- an execution of the machine that is opened on the first sectors, in which no more faults fell
  pub executed : IsCountedExecution info (opened_after earlier in_profile before) events replies last
  pub fewer : last.faults ≤ earlier + fell
  pub of_script : FollowScript script events replies (record { pending = unanswered last.machine; left = left })
  -- it allows what the sectors hold then; of one in service each is old or new
  pub within : Within later (all_failed info last.machine.in_service last.machine.sets)
  -- where nothing is left each request has its answer
  pub all_answered : left ≡ [] → (last.machine.waits ≡ []) × (last.machine.in_service ≡ [])
  -- the answers are in order, and so, while nothing is in service, is what the sectors hold then
  pub in_order : IsInOrder (history info before events replies)
  pub ends_in_order : last.machine.in_service ≡ [] → (contents : Part → ℕ → Sector) → MayHold later contents
      → EndsInOrder (history info before events replies) later last.machine.next contents
  -- in profile each failure takes four faults
  pub four_each : in_profile ≡ true → 4 * failures (answers replies) ≤ fell

-- So for a card that is taken to be in profile, where it is, and for one of which that isn't said.
abbrev pub ExecutedInAnyProfile : Made → Info → Sets → Sets → ℕ → List ScriptEvent → List ScriptEvent → List MachineEvent
    → List Reply → Type 0
ExecutedInAnyProfile made info before later fell script left events replies =
    (in_profile : Bool) → (in_profile ≡ true → InProfile made)
    → ExecutionOverSectors info in_profile before later fell script left events replies

-- The script was served and its text went out, with the trace after it, and the status tells how its requests fared.
pub record IsServedToItsEnd (limits : Lines) (made : Made) (before later : Sets) (fell : ℕ) (script : List ScriptEvent)
    (trace : Option ℕ)
    (old new : Option (List ℕ)) (status : ℕ) : Type 0 where
  pub info : Info
  pub of_card : IsInfo limits made info
  pub events : List MachineEvent
  pub replies : List Reply
  pub execution : ExecutedInAnyProfile made info before later fell script [] events replies
  -- what was printed after the answers
  pub text_after : List ℕ
  pub traced : IsTraceAfter trace [] text_after
  pub printed : Appends old new (texts events replies ++ text_after)
  pub status_is : status ≡ status_of (any_bad replies)

-- After a write fault a prefix of the script was served, and a prefix of what is printed of it went out.
pub record IsServedInPart (limits : Lines) (made : Made) (before later : Sets) (fell : ℕ) (script : List ScriptEvent) (trace : Option ℕ)
    (old new : Option (List ℕ)) : Type 0 where
  pub info : Info
  pub of_card : IsInfo limits made info
  pub events : List MachineEvent
  pub replies : List Reply
  -- what of the script wasn't served
  pub left : List ScriptEvent
  pub execution : ExecutedInAnyProfile made info before later fell script left events replies
  -- what is printed after the answers
  pub text_after : List ℕ
  pub traced : IsTraceAfter trace left text_after
  pub printed : AppendsFront old new (texts events replies ++ text_after)

-- The card wasn't opened: nothing was printed, no sector may hold more, and a card in profile had three faults at least.
pub record IsUnopened (made : Made) (before later : Sets) (fell : ℕ) (old new : Option (List ℕ)) : Type 0 where
  pub unwritten : new ≡ old
  pub within : Within later before
  pub three_fell : InProfile made → 3 ≤ fell

-- What became of a script on a card that is made so, over a host with these limits. The card's sectors held `before` and then
-- `later`, while so many faults fell. Where memory was refused nothing was served or printed.
abbrev pub IsServed : Lines → Made → Sets → Sets → ℕ → List ScriptEvent → Option ℕ → Option (List ℕ) → Option (List ℕ)
    → Result ℕ ServeFault → Type 0
IsServed limits made before later fell script trace old new (Ok status) =
    IsServedToItsEnd limits made before later fell script trace old new status
IsServed limits made before later fell script trace old new (Err Write) =
    IsServedInPart limits made before later fell script trace old new
IsServed limits made before later fell script trace old new (Err NoMemory) = (later ≡ before) × (new ≡ old)
IsServed limits made before later fell script trace old new (Err NoCard) = IsUnopened made before later fell old new
IsServed limits made before later fell script trace old new (Err Voltage) = IsUnopened made before later fell old new
IsServed limits made before later fell script trace old new (Err Unsupported) = IsUnopened made before later fell old new
IsServed limits made before later fell script trace old new (Err Locked) = IsUnopened made before later fell old new
IsServed limits made before later fell script trace old new (Err fault) = ⊥

-- So over a bus that is kept to the end, if the sectors of its card were decided; no more faults are to fall than before.
-- At the script's end turns are taken until each request has its answer.
abbrev pub IsServedOver : BusView → BusView → List ScriptEvent → Option ℕ → Option (List ℕ) → Option (List ℕ)
    → Result ℕ ServeFault → Type 0
IsServedOver before later script trace old new result =
    later.is_kept ≡ true → AreDecided (holds before.card)
    → FallNoMore before later
    × IsServed before.limits before.card.made (holds before.card) (holds later.card) (later.faults - before.faults)
    (script ++ Run ∷ []) trace old new result

-- nothing went out, unless the writer failed
abbrev pub IsUnwritten : Option (List ℕ) → Option (List ℕ) → ServeFault → Type 0
IsUnwritten old new fault = (fault ≡ Write → ⊥) → new ≡ old

-- A new card in memory.

-- A script was served on a new card, over its bus, which limits nothing. So many faults fell, no more than were planned.
pub record IsServedOnNewCard (spec : CardSpec) (plan : List PlannedFault) (script : List ScriptEvent) (trace : Option ℕ)
    (old new : Option (List ℕ)) (result : Result ℕ ServeFault) : Type 0 where
  pub sim : SimView
  pub is_new : IsNew spec plan sim
  -- what the card holds then
  pub later : Sets
  pub fell : ℕ
  pub few : fell ≤ length plan
  pub served : IsServed all_lines sim.card.made (holds sim.card) later fell (script ++ Run ∷ []) trace old new result

-- What became of a script on the card of a spec, with these faults planned: the spec is refused, or memory was, and
-- nothing was served or printed; or the script was served.
abbrev pub IsServedOnSpec : CardSpec → List PlannedFault → List ScriptEvent → Option ℕ → Option (List ℕ)
    → Option (List ℕ) → Result ℕ ServeFault → Type 0
IsServedOnSpec spec plan script trace old new (Err Register) = IsWhyUnbuilt MAX_SECTORS spec Register × (new ≡ old)
IsServedOnSpec spec plan script trace old new (Err ImageSize) = IsWhyUnbuilt MAX_SECTORS spec ImageSize × (new ≡ old)
IsServedOnSpec spec plan script trace old new (Err NoMemory) = IsWhyUnbuilt MAX_SECTORS spec NoMemory × (new ≡ old)
IsServedOnSpec spec plan script trace old new result =
    (refusal_of spec ≡ None) × IsServedOnNewCard spec plan script trace old new result
