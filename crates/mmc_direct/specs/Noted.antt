-- A record of a card, and the card as it is.
use Rattle.std.specs.Prelude.{◌≡◌, Result, true, ℕ}
use Rattle.mmc_card.specs.BusView.{BusView}
use Rattle.mmc_card.specs.declared.exchange.Lines.{Lines}
use Rattle.mmc_direct.specs.Healing.{HasHealed}
use Rattle.mmc_direct.specs.Served.{AnswersBy}
use Rattle.mmc_switch.specs.Stands.{StandsIn, info_of}
use Rattle.mmc_direct.specs.declared.refused.NotDone.{NotDone}
use Rattle.mmc_direct.specs.declared.served.Served.{Served}
use Rattle.mmc_switch.specs.declared.stands.Stands.{Stands}
use Rattle.mmc_host.specs.Hosts.{HostView, bus_of}
use Rattle.mmc_record.specs.Note.{IsNoteOf}
use Rattle.mmc_recovery.specs.declared.healed.Healed.{Healed}
use Rattle.mmc_record.specs.declared.record.CardRecord.{CardRecord}

-- The record notes how the card stands: ready, or broken after a failure.
pub record IsNoted (note : CardRecord) (view : BusView) : Type 0 where
  pub how : Stands
  pub says : IsNoteOf how note
  pub stands : StandsIn how view

-- whatever card stands so, the record notes it
abbrev pub Notes : Stands → CardRecord → Type 0
Notes stands note = (view : BusView) → StandsIn stands view → IsNoted note view

-- the lines that a card has that stands so
abbrev pub lines_in : Stands → Lines
lines_in stands = record { width = (info_of stands).width; timing = (info_of stands).timing }

-- what the bus over a host goes on with, on these lines
abbrev pub bus_going_on : HostView → Lines → BusView
bus_going_on host lines = record (bus_of host) { lines = lines }

-- The record notes how the card of a host stands, between two calls.
pub record IsNotedOf (note : CardRecord) (host : HostView) : Type 0 where
  pub how : Stands
  pub says : IsNoteOf how note
  pub stands : StandsIn how (bus_going_on host (lines_in how))

-- A request was served with this answer, by what it promises of the card, and the record notes how the card stands after it.
pub record HasServed (Has : Served → Type 0) (answer : Result Unit NotDone) (note : CardRecord) : Type 0 where
  pub served : Served
  pub answers : served.answer ≡ answer
  pub fits : AnswersBy served.answer served.stands
  pub notes : Notes served.stands note
  pub has : Has served

-- A request with so many attempts that was answered so is counted by them, after which the card stands as the record notes.
pub record IsCounted (most : ℕ) (stands : Stands) (old : Healed) (answer : Result Unit NotDone) (note : CardRecord) (new : Healed)
    : Type 0 where
  pub left : Stands
  pub fits : AnswersBy answer left
  pub notes : Notes left note
  pub healed : HasHealed most stands old left new

-- where the card of a host stood so, and the bus over the host was kept to its end, this holds
abbrev pub WhereStood : Stands → HostView → BusView → Type 0 → Type 0
WhereStood stands host end Holds =
    end.is_kept ≡ true → StandsIn stands (bus_going_on host (lines_in stands)) → Holds

-- a request was served over a host whose card stood so, by what it promises from where the host went on to the end
abbrev pub IsServed : (BusView → Served → BusView → Type 0) → Stands → HostView → Result Unit NotDone → CardRecord → BusView
    → Type 0
IsServed Has stands host answer note end =
    HasServed (λ served. WhereStood stands host end (Has (bus_going_on host (lines_in stands)) served end)) answer note
