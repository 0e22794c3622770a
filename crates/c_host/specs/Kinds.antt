-- The kinds of card that a library serves, and what isn't asked where one of them isn't.
use Rattle.std.specs.Prelude.{◌==◌, ◌≡◌, Bool, List, Result, Err, false, if◌then◌else◌, not, true, ℕ}
use Rattle.mmc_frame.specs.declared.kind.Kind.{Kind}
use Rattle.mmc_frame.specs.declared.kind.Kind.TheVariants.{Mmc, Sd}
use Rattle.mmc_host.specs.declared.told.Heard.{Heard}
use Rattle.mmc_host.specs.declared.told.HostCommand.{HostCommand}
use Rattle.mmc_host.specs.declared.told.ResponseFault.{ResponseFault}
use Rattle.mmc_host.specs.declared.told.ResponseFault.TheVariants.{Timeout}
use Rattle.c_host.specs.Talk.{Talk}
use Rattle.c_host.specs.Told.{TellsCommand}
use Rattle.c_host.specs.declared.kinds.Kinds.{Kinds}

abbrev pub serves : Kinds → Kind → Bool
serves kinds Sd = kinds.sd
serves kinds Mmc = kinds.mmc

-- CMD1 asks an eMMC device whether it is ready, ACMD41 an SD card
abbrev pub is_in_vain : Kinds → ℕ → Bool
is_in_vain kinds index =
    if index == 1 then not kinds.mmc else if index == 41 then not kinds.sd else false

-- What is in vain isn't done: then this holds, and otherwise that.
abbrev pub unless_in_vain : Bool → Type 0 → Type 0 → Type 0
unless_in_vain true Left Done = Left
unless_in_vain false Left Done = Done

-- A command that asks in vain isn't told, and no response is heard.
abbrev pub TellsWithin : Kinds → HostCommand → Result Heard ResponseFault → List Talk → List Talk → Type 0
TellsWithin kinds command heard old new =
    unless_in_vain (is_in_vain kinds command.index) ((heard ≡ Err Timeout) × (new ≡ old)) (TellsCommand command heard old new)
