-- What a partition of a card is like as an export.
use Rattle.std.specs.Prelude.{Some, false, true, ◌≡◌}
use Rattle.mmc_switch.specs.Info.{sectors_of}
use Rattle.mmc_switch.specs.declared.info.Info.{Info}
use Rattle.nbd_server.specs.declared.export.Export.{Export}
use Rattle.nbd_server.specs.declared.negotiation.Standing.{Standing}
use Rattle.nbd_server.specs.declared.negotiation.Standing.TheVariants.{Agreed}

-- It has the size of its partition, and can do what the card can.
pub record IsExport (info : Info) (export : Export) : Type 0 where
  pub sectors : sectors_of info export.part ≡ Some export.sectors
  pub erase_unit : export.erase_unit ≡ info.erase_unit
  pub trims_each : export.trims_each ≡ info.trims
  pub read_only : export.can.read_only ≡ info.read_only
  pub trims : export.can.trims ≡ true → info.read_only ≡ false
  pub zeroes : export.can.zeroes ≡ true → (info.trims ≡ true) × (info.erased_byte ≡ 0)

-- if an export was agreed it is one of this card
abbrev pub IsOf : Info → Standing → Type 0
IsOf info (Agreed export) = IsExport info export
IsOf info standing = Unit {0}
