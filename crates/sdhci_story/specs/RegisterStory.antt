-- THE ASSUMPTION about an SD host controller and its card, by its registers: there is a story of what the controller was, and each
-- access is a step of it, as `mmc_sdhci` `Accesses` says what a controller does, and `Lending` what a port does with memory that it lends.
use Rattle.std.specs.Prelude.{[], ◌≡◌, ◌∷◌, List, None, Some, true}
use Rattle.std.proofs.Common.{refl}
use Rattle.std.proofs.lemmas.Bool.{false≢true}
use Rattle.mmc_sdhci.specs.Accesses.{Passes, Reads, Reads8, Stays, Writes, Writes8}
use Rattle.mmc_sdhci.specs.Controller.{Built, ControllerView, Settled}
use Rattle.mmc_sdhci.specs.Driver.{IsNew, unkept_controller}
use Rattle.mmc_sdhci.specs.Lending.{Lends, LendsTable, TakesPlace, TakesPlaces, unlent}
use Rattle.mmc_sdhci.specs.Lent.{Room, ToGo}
use Rattle.mmc_sdhci.specs.Moving.{Puts, Takes}
use Rattle.sdhci_story.specs.Access.{Access, BlocksLent, Misused, Pause, PlaceTaken, PlacesTaken, PortRead, PortWritten, Read32, Read8}
use Rattle.sdhci_story.specs.Access.{RoomLent, TableLent, TakenBack, Wait, Write32, Write8}

-- an access is what the controller does, or its port
abbrev pub IsAccess : ControllerView → Access → ControllerView → Type 0
IsAccess old (Read32 offset value) new = Reads old offset value new
IsAccess old (Write32 offset value) new = Writes old offset value new
IsAccess old (Read8 offset value) new = Reads8 old offset value new
IsAccess old (Write8 offset value) new = Writes8 old offset value new
IsAccess old (PortRead block) new = Takes old block new
IsAccess old (PortWritten block) new = Puts old block new
IsAccess old (RoomLent count place) new = Lends old (Room count) place new
IsAccess old (BlocksLent blocks place) new = Lends old (ToGo blocks) place new
IsAccess old (TableLent is_wide place) new = LendsTable old is_wide place new
IsAccess old (PlaceTaken index block) new = TakesPlace old index block new
IsAccess old (PlacesTaken first bytes) new = TakesPlaces old first bytes new
IsAccess old TakenBack new = Settled old (new ≡ unlent old) new
IsAccess old (Pause micros) new = Passes old micros new
IsAccess old (Wait interrupts micros) new = Stays old new
IsAccess old Misused new = Settled old ⊥ new

-- The assumption.
pub record RegisterStory : Type 0 where
  -- the controller and its card after these accesses, the last one first, and whether they have conformed so far (`is_kept`)
  pub controller : List Access → ControllerView
  -- what is built in, which stays
  pub built : Built
  pub same : (past : List Access) → (controller past).built ≡ built
  -- before the first access a driver may begin with it
  pub begins : IsNew (controller [])
  -- where they have, each access is what a controller does
  pub explains : (access : Access) (past : List Access) → IsAccess (controller past) access (controller (access ∷ past))

-- the story is true of all that was done
abbrev pub IsTrueOf : RegisterStory → List Access → Type 0
IsTrueOf story past = (story.controller past).is_kept ≡ true

-- the story that is never true
abbrev pub never : (access : Access) → IsAccess unkept_controller access unkept_controller
never (Read32 offset value) = λ said. absurd (false≢true said)
never (Write32 offset value) = λ said. absurd (false≢true said)
never (Read8 offset value) = λ said. absurd (false≢true said)
never (Write8 offset value) = λ said. absurd (false≢true said)
never (PortRead block) = λ said. absurd (false≢true said)
never (PortWritten block) = λ said. absurd (false≢true said)
never (RoomLent count None) = λ said. absurd (false≢true said)
never (RoomLent count (Some place)) = λ said. absurd (false≢true said)
never (BlocksLent blocks None) = λ said. absurd (false≢true said)
never (BlocksLent blocks (Some place)) = λ said. absurd (false≢true said)
never (TableLent is_wide None) = λ said. absurd (false≢true said)
never (TableLent is_wide (Some place)) = λ said. absurd (false≢true said)
never (PlaceTaken index block) = λ said. absurd (false≢true said)
never (PlacesTaken first bytes) = λ said. absurd (false≢true said)
never TakenBack = λ said. absurd (false≢true said)
never (Pause micros) = λ said. absurd (false≢true said)
never (Wait interrupts micros) = λ said. absurd (false≢true said)
never Misused = λ said. absurd (false≢true said)

abbrev pub never_true : RegisterStory
never_true =
    record {
      controller = λ past. unkept_controller;
      built = unkept_controller.built;
      same = λ past. refl;
      begins = λ said. absurd (false≢true said);
      explains = λ access past. never access;
    }
