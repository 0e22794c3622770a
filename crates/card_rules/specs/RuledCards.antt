-- A card in memory whose faults are planned by rules too.
use Rattle.std.specs.Option.{option_or}
use Rattle.std.specs.Prelude.{◌+◌, ◌++◌, ◌-◌, ◌<◌, ◌^◌, ◌∷◌, ◌≡◌, Bool, List, None, Option, Some, [], if◌then◌else◌, length, nat_lt, ℕ}
use Rattle.mmc_card.specs.BusView.{BusView}
use Rattle.mmc_card.specs.declared.exchange.DataIn.{DataIn}
use Rattle.mmc_card.specs.declared.exchange.DataOut.{DataOut}
use Rattle.mmc_card.specs.declared.exchange.Reply.{Reply}
use Rattle.mmc_card_sim.specs.FaultyExchanges.{Commands, Polls, Reads, Writes, counted, fits_command, fits_poll, fits_read, fits_write}
use Rattle.mmc_card_sim.specs.Plan.{fault_at, to_come}
use Rattle.mmc_card_sim.specs.SimView.{SimView, met, planned_fault, sim_bus_view}
use Rattle.mmc_card_sim.specs.declared.fault.Fault.{Fault}
use Rattle.mmc_card_sim.specs.declared.plan.Planned.{Planned}
use Rattle.mmc_card_sim.specs.declared.plan.TheConstants.{MAX_PLANNED}
use Rattle.card_rules.specs.Chosen.{IsSaid, before_of}
use Rattle.card_rules.specs.declared.moment.Moment.{Moment}
use Rattle.card_rules.specs.declared.rule.Rule.{Rule}
use Rattle.card_rules.specs.declared.ruled_card.RuledCard.{RuledCard}

-- without rules no more faults may fall than are planned; with rules nothing bounds them
abbrev pub may_fall_by : List Rule → SimView → Option ℕ
may_fall_by [] card = Some (to_come card.plan card.wire.exchanges)
may_fall_by (rule ∷ rules) card = None

-- what contracts see of it as a bus
abbrev pub ruled_view : RuledCard → BusView
ruled_view ruled = record (sim_bus_view ruled.card) { may_fall = may_fall_by ruled.rules.rules.items ruled.card }

-- Each exchange: the fault that is planned for it falls where it fits, no other does, and it is counted.

-- the one that is planned for the exchange between these
abbrev pub planned_between : SimView → SimView → Option Fault
planned_between old new = fault_at new.plan old.wire.exchanges

abbrev pub DoesCommand : Option Fault → SimView → List ℕ → Reply → SimView → Type 0
DoesCommand fault old frame reply new =
    Commands fault (met fault old).delays (met fault old).card frame reply
    (fits_command fault (met fault old).delays (met fault old).card frame) new.card
    × (new.faults ≡ counted (fits_command fault (met fault old).delays (met fault old).card frame) (met fault old).faults)

abbrev pub DoesRead : Option Fault → SimView → ℕ → DataIn → List ℕ → SimView → Type 0
DoesRead fault old size got block new =
    Reads fault old.delays old.card old.wire.lines size got block (fits_read fault old.card old.wire.lines size) new.card
    × (new.faults ≡ counted (fits_read fault old.card old.wire.lines size) old.faults)

abbrev pub DoesWrite : Option Fault → SimView → List ℕ → DataOut → SimView → Type 0
DoesWrite fault old block got new =
    Writes fault (met fault old).delays (met fault old).card old.wire.lines block got
    (fits_write fault (met fault old).card old.wire.lines) new.card
    × (new.faults ≡ counted (fits_write fault (met fault old).card old.wire.lines) (met fault old).faults)

abbrev pub DoesPoll : Option Fault → SimView → Bool → SimView → Type 0
DoesPoll fault old said new =
    Polls fault old.delays old.card said (fits_poll fault old.card) new.card
    × (new.faults ≡ counted (fits_poll fault old.card) old.faults)

-- of the card nothing but the plan has changed
pub record Plans (old new : RuledCard) : Type 0 where
  pub card : new.card ≡ record old.card { plan = new.card.plan }
  pub rules : new.rules.rules ≡ old.rules.rules
  pub fell : new.fell ≡ old.fell
  pub place : new.place ≡ old.place

-- the card takes one fault more, and can count one exchange more
abbrev pub HasRoom : SimView → Type 0
HasRoom card = (to_come card.plan card.wire.exchanges < MAX_PLANNED) × (card.wire.exchanges < 2 ^ 64 - 1)

-- what is planned for such an exchange: what the first rule says that is about it, and else what was planned before
abbrev pub IsChosen : RuledCard → Moment → Option Fault → Type 0
IsChosen ruled moment planned =
    (said : Option Fault)
    × IsSaid ruled.rules.rules.items ruled.card.wire.exchanges moment (before_of ruled.rules.commands moment) said
    × (HasRoom ruled.card → planned ≡ option_or said (planned_fault ruled.card))

-- without rules not even that
pub record Prepares (old new : RuledCard) : Type 0 where
  pub plans : Plans old new
  pub unruled : old.rules.rules.items ≡ [] → new.card.plan ≡ old.card.plan

-- where more faults have fallen than before this exchange, and there is room, the fault is noted after the others
abbrev pub noted : ℕ → Option Fault → List Planned → List Planned
noted exchange None fell = fell
noted exchange (Some fault) fell =
    if nat_lt (length fell) MAX_PLANNED then fell ++ record { exchange = exchange; fault = fault } ∷ [] else fell

pub record Notes (exchange faults : ℕ) (fault : Option Fault) (old new : RuledCard) : Type 0 where
  pub card : new.card ≡ old.card
  pub rules : new.rules ≡ old.rules
  pub place : new.place ≡ old.place
  pub fell : new.fell.items ≡ (if nat_lt faults old.card.faults then noted exchange fault old.fell.items else old.fell.items)

-- there were no rules, nothing was planned, and no fault fell
pub record FallsNone (old new : RuledCard) : Type 0 where
  pub rules : old.rules.rules.items ≡ []
  pub plan : old.card.plan ≡ []
  pub faults : new.card.faults ≡ old.card.faults
