-- Files that were read, or weren't.
use Rattle.std.proofs.Common.{◌≡◌, ℕ, List, Option, Some, Result, Ok, Err, inl, inr, sym, subst}
use Rattle.std.specs.Prelude.{◌⊎◌, IfSome, IsSome}
use Rattle.mmc_card_sim.specs.declared.spec.CardSpec.{CardSpec}
use Rattle.card_text.specs.declared.event.ScriptEvent.{ScriptEvent}
use Rattle.card_text.specs.declared.fault.ScriptFault.{ScriptFault}
use Rattle.card_text.specs.declared.fault.ScriptFault.TheVariants as OfScript
use Rattle.card_served.specs.Faults.{of_script}
use Rattle.card_served.specs.declared.fault.ServeFault.{ServeFault}
use Rattle.card_served.specs.declared.fault.ServeFault.TheVariants.{CardIncomplete, CardLine, NoMemory, ReadCard, ReadImage, ReadScript}
use Rattle.card_served.specs.declared.fault.ServeFault.TheVariants.{TooLong}
use Rattle.card_text.specs.CardFile.{IsCardFile}
use Rattle.cardtool.specs.Files.{AreRefused, Files, HasCard, HasEvents, IsOutcomeOfFiles, IsServedFromFiles}
use Rattle.card_served.specs.Inputs.{IsCardRead, IsCardRefused, IsUnread}
use Rattle.card_served.proofs.InputLemmas.{known_text}
use Rattle.card_text.specs.Planning.{PlannedFault}
use Rattle.card_text.specs.Script.{IsBadLine, events_in, lines}

pub has_card : (files : Files) (spec : CardSpec) (plan : List PlannedFault) → IsCardRead files.card spec plan → HasCard files
has_card files spec plan read =
    known_text (λ all. (spec : CardSpec) × (plan : List PlannedFault) × IsCardFile (lines all) spec plan) files.card
    read.text read.text_is (spec, plan, read.card_is)

pub has_events : (files : Files) (text : List ℕ) (events : List ScriptEvent)
    → IfSome files.script (λ all. text ≡ all) → events_in (lines text) ≡ Some events → HasEvents files
has_events files text events same h =
    known_text (λ all. (events : List ScriptEvent) × (events_in (lines all) ≡ Some events)) files.script text same
    (events, h)

module _ (files : Files) where
  pub script_unread : (fault : ServeFault) → HasCard files → IsUnread files.script 1048576 ReadScript fault
      → AreRefused files fault
  script_unread fault has (inl same) = subst (λ f. AreRefused files f) (sym same) has
  script_unread fault has (inr (inl same)) = subst (λ f. AreRefused files f) (sym same) tt
  script_unread fault has (inr (inr (same, longer))) = subst (λ f. AreRefused files f) (sym same) (inr (has, longer))

  -- a fault of the card file
  pub card_refused : (fault : ServeFault) → IsCardRefused files.card fault → AreRefused files fault
  card_refused ReadCard why = why
  card_refused (CardLine n) why = why
  card_refused CardIncomplete why = why
  card_refused TooLong why = inl why
  card_refused NoMemory why = why
  card_refused fault why = absurd why

  pub bad_script : (text : List ℕ) (fault : ScriptFault) → HasCard files → IfSome files.script (λ all. text ≡ all)
      → IsBadLine (lines text) fault → AreRefused files (of_script fault)
  bad_script text (OfScript.BadLine n) has same bad =
      (has, known_text (λ all. IsBadLine (lines all) (OfScript.BadLine n)) files.script text same bad)
  bad_script text OfScript.NoMemory has same bad = tt

  pub image_unread : (fault : ServeFault) → HasCard files → HasEvents files → (fault ≡ ReadImage → IsSome files.image)
      → (fault ≡ ReadImage) ⊎ (fault ≡ NoMemory) → AreRefused files fault
  image_unread fault has events given (inl same) =
      subst (λ f. AreRefused files f) (sym same) (has, events, given same)
  image_unread fault has events given (inr same) = subst (λ f. AreRefused files f) (sym same) tt

-- what was read and served is the outcome
pub from_files : (files : Files) (trace : Option ℕ) (old new : Option (List ℕ)) (r : Result ℕ ServeFault)
    → IsServedFromFiles files trace old new r → IsOutcomeOfFiles files trace old new r
from_files files trace old new (Ok status) served = served
from_files files trace old new (Err fault) served = inr served
