-- Registers conform: what was read, written and waited for is a list of steps of the definition of a controller.
use Rattle.std.specs.Prelude.{◌≡◌, ◌∷◌, [], List}
use Rattle.mmc_sdhci.specs.Controller.{ControllerView}
use Rattle.mmc_sdhci.specs.Driver.{IsNew}
use Rattle.sdhci_story.specs.Access.{Access}
use Rattle.sdhci_story.specs.RegisterStory.{IsAccess, RegisterStory}

-- These accesses, the last one first, are steps that follow each other, from a new controller to this one.
abbrev pub AreSteps : List Access → ControllerView → Type 0
AreSteps [] view = IsNew view
AreSteps (access ∷ past) view =
    (before : ControllerView) × AreSteps past before × IsAccess before access view × (view.built ≡ before.built)

-- A story tells of such steps.
abbrev pub StoriesTellSteps : Type 0
StoriesTellSteps = (story : RegisterStory) (past : List Access) → AreSteps past (story.controller past)

-- And to all such steps there is a story that tells them.
abbrev pub StepsHaveAStory : Type 0
StepsHaveAStory =
    (past : List Access) (view : ControllerView) → AreSteps past view
    → (story : RegisterStory) × (story.controller past ≡ view)
