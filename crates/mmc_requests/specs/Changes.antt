-- Headline (docs/AUDIT.md, "What to read").
-- What a request changes. The rules are the project's own.
use Rattle.std.specs.Prelude.{◌∷◌, ◌≡◌, List, [], if◌then◌else◌, replicate, true, ℕ}
use Rattle.mmc_card.specs.Sectors.{Change, Sector, Sets, Within, changed, touches, value_of}
use Rattle.mmc_card.specs.declared.part.Part.{Part}
use Rattle.mmc_switch.specs.declared.info.Info.{Info}
use Rattle.mmc_requests.specs.Kinds.{is_read, moves_blocks}
use Rattle.mmc_requests.specs.declared.kind.Kind.{Kind}

-- these sectors, from this one on, get these values
abbrev pub written_at : Part → ℕ → List Sector → Change
written_at part start values = record { part = part; start = start; values = values }

-- so many sectors, from this one on, get the byte that a card of which this is known has in an erased one
abbrev pub erased_at : Info → Part → ℕ → ℕ → Change
erased_at info part start count = written_at part start (replicate count (replicate 512 info.erased_byte))

-- what so many sectors get by a request of this kind: none of them anything by a read, these values by a write, and this byte otherwise
abbrev pub values_by : Kind → ℕ → ℕ → List Sector → List Sector
values_by kind byte count values =
    if is_read kind then [] else if moves_blocks kind then values else replicate count (replicate 512 byte)

-- what such a request changes, on a card of which this is known
abbrev pub change_by : Kind → Info → Part → ℕ → ℕ → List Sector → Change
change_by kind info part start count values = written_at part start (values_by kind info.erased_byte count values)

-- It takes effect: each sector of the change holds its new value alone, and no other one may hold more than it might before.
pub record TakesEffect (change : Change) (old new : Sets) : Type 0 where
  pub alone : (part : Part) (sector : ℕ) → touches change part sector ≡ true → new part sector ≡ value_of change sector ∷ []
  pub within : Within new (changed change old)
