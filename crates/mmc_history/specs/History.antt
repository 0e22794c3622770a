-- Headline (docs/AUDIT.md, "What to read").
-- What the calls of a device come to, whatever fell: the answers and the contents of the card are a run of the sector machine, as
-- its clients see it.
use Rattle.std.specs.Prelude.{◌++◌, ◌∷◌, ◌≡◌, ◌↔◌, List, [], length, true, ℕ}
use Rattle.mmc_card.specs.BusView.{BusView}
use Rattle.mmc_card.specs.Card.{Card, holds, stored}
use Rattle.mmc_card.specs.Sectors.{Within}
use Rattle.mmc_card.specs.declared.part.Part.{Part}
use Rattle.mmc_switch.specs.declared.info.Info.{Info}
use Rattle.mmc_block.specs.Clients.{AreSteps, ClientMachine, ClientStep, Told, at_rest}
use Rattle.mmc_block.specs.Machine.{all_failed}

-- From a card that was opened so, these calls with their replies have come to a card that is so now, and so much work is left.
pub record HasServed (info : Info) (opened now : Card) (calls : List Told) (work_left : ℕ) : Type 0 where
  pub machine : ClientMachine
  -- the calls are an execution of the sector machine
  pub executed : AreSteps (ClientStep info) (at_rest (holds opened) 0) calls machine
  -- the card's sectors hold no more than the machine's may, where those of a request without an answer are old or new
  pub contents : Within (holds now) (all_failed info machine.outstanding machine.sets)
  -- no work is left exactly where nothing is without an answer
  pub answered : (work_left ≡ 0) ↔ (machine.outstanding ≡ [])
  -- it is the same card, and each of its partitions has as many sectors
  pub carried : (now.made ≡ opened.made) × ((part : Part) → length (stored now part) ≡ length (stored opened part))

-- What contracts see of a device with its history.
pub record DeviceHistory (B : Type 0) : Type 0 where
  pub bus : B
  pub info : Info
  -- the bus as the card was opened
  pub opened : BusView
  -- each call so far with its reply, the first one first
  pub calls : List Told
  -- a bound on the turns until no request is without an answer
  pub work_left : ℕ

-- One call more with its reply. Over a bus that is kept all calls together are a run of the sector machine.
pub record Continues {B : Type 0} (view : B → BusView) (old : DeviceHistory B) (call : Told) (new : DeviceHistory B) : Type 0 where
  pub calls : new.calls ≡ old.calls ++ call ∷ []
  pub info : new.info ≡ old.info
  pub opened : new.opened ≡ old.opened
  pub served : (view new.bus).is_kept ≡ true
      → HasServed new.info new.opened.card (view new.bus).card new.calls new.work_left
