-- The views of a card in memory that follows a plan of faults: what contracts see of it, and what they see of it as a
-- bus, which is always kept, and on which no more faults may fall than are planned for exchanges to come.
use Rattle.std.specs.Prelude.{◌-◌, ◌/◌, ◌^◌, ◌≡◌, ◌≤◌, List, None, Option, Some, true, unwrap_or, ℕ}
use Rattle.mmc_frame.specs.declared.card_state.State.TheVariants.{Idle}
use Rattle.mmc_bus.specs.declared.wire.Wire.{Wire}
use Rattle.mmc_bus.specs.Wires.{bus_view_with}
use Rattle.mmc_card.specs.BusView.{BusView}
use Rattle.mmc_card.specs.Card.{Card, IsCard, patience}
use Rattle.mmc_card.specs.Made.{erased_byte_of_card}
use Rattle.mmc_card_sim.specs.CardSpec.{sizes_of}
use Rattle.mmc_card_sim.specs.FaultyExchanges.{after_time, counted, fits_time}
use Rattle.mmc_card_sim.specs.Plan.{fault_at, to_come}
use Rattle.mmc_card_rows.specs.Chip.{moved_on}
use Rattle.mmc_card_rows.specs.Registers.{first_life_time, last_rca_by, made_of, rca_changes_by}
use Rattle.mmc_card_rows.specs.SectorLists.{first_sectors}
use Rattle.mmc_card_rows.specs.Sizes.{total}
use Rattle.mmc_card_rows.specs.Store.{split}
use Rattle.mmc_card_rows.specs.declared.delays.Delays.{Delays}
use Rattle.mmc_card_sim.specs.declared.fault.Fault.{Fault}
use Rattle.mmc_card_sim.specs.declared.plan.Planned.{Planned}
use Rattle.mmc_card_sim.specs.declared.spec.CardSpec.{CardSpec}

-- the card, how long it takes and what it chooses next, what is kept of the exchanges, the plan, and how many faults have fallen
pub record SimView : Type 0 where
  pub card : Card
  pub delays : Delays
  pub wire : Wire
  pub plan : List Planned
  pub faults : ℕ

abbrev pub sim_bus_view : SimView → BusView
sim_bus_view sim =
    bus_view_with sim.card sim.faults (Some (to_come sim.plan sim.wire.exchanges)) true sim.wire

-- the fault that is planned for its next exchange
abbrev pub planned_fault : SimView → Option Fault
planned_fault sim = fault_at sim.plan sim.wire.exchanges

-- what a card that is built by this chooses at first: before it is ready its OCR has its own bits 30 and 29 or these
abbrev pub first_delays : CardSpec → Delays
first_delays spec =
    record {
      ready = spec.ready;
      busy = spec.busy;
      last_rca = last_rca_by spec.registers.kind;
      rca_changes = rca_changes_by spec.registers.kind;
      early = unwrap_or spec.early (spec.registers.ocr / 2 ^ 29);
      keeps_length = spec.keeps_length;
      refusal = spec.refusal;
      stays_busy = spec.stays_busy;
      lagging = spec.lagging;
      late = spec.late;
      before = Idle;
      shows_app_cmd = spec.shows_app_cmd;
      life_time = first_life_time spec.ages spec.registers.kind;
      goes_on = spec.goes_on;
      finds = 0;
    }

-- As the next command, or the next block that is written, meets it, for which this fault is planned: a card that goes on by itself
-- has done so, or its programming has failed, and nobody has seen it.
abbrev pub card_met : Option Fault → SimView → Card
card_met fault sim = after_time fault sim.delays sim.card

abbrev pub met : Option Fault → SimView → SimView
met fault sim =
    record sim {
      card = card_met fault sim;
      delays = moved_on sim.delays sim.card.state (card_met fault sim).state;
      faults = counted (fits_time fault sim.card) sim.faults;
    }

-- It is a card, whose own delays are fifteen exchanges at most, and of which no command finds an error of its own; no more faults
-- have fallen than exchanges were made, and none is planned for the number at which their count stays.
pub record SimOk (sim : SimView) : Type 0 where
  pub is_card : IsCard sim.card
  pub soon_ready : sim.delays.ready ≤ patience
  pub soon_rested : sim.delays.busy ≤ patience
  pub finds_none : sim.delays.finds ≡ 0
  pub few : sim.faults ≤ sim.wire.exchanges
  pub bounded : sim.wire.exchanges ≤ 2 ^ 64 - 1
  pub never : fault_at sim.plan (2 ^ 64 - 1) ≡ None

-- The sectors that a spec tells of, partition by partition: those of its image, or all with the erased byte.
abbrev pub first_parts : CardSpec → List (List (List ℕ))
first_parts spec =
    split (sizes_of spec.registers)
    (first_sectors spec.image (total (sizes_of spec.registers)) (erased_byte_of_card (made_of spec.registers)))
