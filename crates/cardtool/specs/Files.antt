-- The files: why they weren't read, or what they say.
use Rattle.std.specs.Prelude.{◌≡◌, ◌⊎◌, ◌*◌, ◌+◌, ℕ, IfSome, IsSome, List, Option, None, Some, Result, Ok, Err, take, ⊤}
use Rattle.mmc_card_sim.specs.declared.spec.CardSpec.{CardSpec}
use Rattle.mmc_card_sim.specs.declared.spec.TheConstants.{MAX_SECTORS}
use Rattle.card_text.specs.declared.event.ScriptEvent.{ScriptEvent}
use Rattle.card_served.specs.declared.fault.ServeFault.{ServeFault}
use Rattle.card_served.specs.declared.fault.ServeFault.TheVariants.{CardIncomplete, CardLine, NoMemory, ReadCard}
use Rattle.card_served.specs.declared.fault.ServeFault.TheVariants.{ReadImage, ReadScript, ScriptLine, TooLong}
use Rattle.card_text.specs.declared.script.TheConstants.{MAX_SCRIPT}
use Rattle.card_text.specs.CardFile.{IsCardFile}
use Rattle.card_text.specs.Planning.{PlannedFault}
use Rattle.card_text.specs.Script.{IsFirstBadLine, events_in, lines}
use Rattle.card_served.specs.Inputs.{IsCardRead, IsCardRefused, IsLonger}
use Rattle.cardtool.specs.Whole.{IsServedOnSpec}

-- the texts of the files, as far as their readers tell; the image may be left out
pub record Files : Type 0 where
  pub card : Option (List ℕ)
  pub script : Option (List ℕ)
  pub image : Option (Option (List ℕ))

-- the card file describes a card
abbrev pub HasCard : Files → Type 0
HasCard files = IfSome files.card (λ all. (spec : CardSpec) × (plan : List PlannedFault) × IsCardFile (lines all) spec plan)

-- the script is one
abbrev pub HasEvents : Files → Type 0
HasEvents files = IfSome files.script (λ all. (events : List ScriptEvent) × (events_in (lines all) ≡ Some events))

-- What a fault says of files that were refused. They come in order: a fault of the script comes only where the card file
-- was taken, and one of the image only where the script was taken too.
abbrev pub AreRefused : Files → ServeFault → Type 0
AreRefused files ReadCard = IsCardRefused files.card ReadCard
AreRefused files (CardLine n) = IsCardRefused files.card (CardLine n)
AreRefused files CardIncomplete = IsCardRefused files.card CardIncomplete
AreRefused files TooLong = IsCardRefused files.card TooLong ⊎ (HasCard files × IsLonger files.script MAX_SCRIPT)
AreRefused files ReadScript = HasCard files
AreRefused files (ScriptLine n) = HasCard files × IfSome files.script (λ all. IsFirstBadLine (lines all) n)
AreRefused files ReadImage = HasCard files × HasEvents files × IsSome files.image
AreRefused files NoMemory = ⊤
AreRefused files fault = ⊥

-- The image is read to one byte past the most sectors; a longer one is too long in any case.
abbrev pub IsImage : Option (Option (List ℕ)) → Option (List ℕ) → Type 0
IsImage None image = image ≡ None
IsImage (Some file) None = ⊥
IsImage (Some file) (Some bytes) = IfSome file (λ all. bytes ≡ take (512 * MAX_SECTORS + 1) all)

-- the card file, with the image, gives this spec and plans these faults, and the script gives these events
pub record AreRead (files : Files) (spec : CardSpec) (plan : List PlannedFault) (events : List ScriptEvent)
    : Type 0 where
  pub script_text : List ℕ
  -- the card without its image
  pub bare : CardSpec
  pub card_is : IsCardRead files.card bare plan
  pub script_file : IfSome files.script (λ all. script_text ≡ all)
  pub image_file : IsImage files.image spec.image
  pub spec_is : spec ≡ record bare { image = spec.image }
  pub events_are : events_in (lines script_text) ≡ Some events

-- the files were read, and the events were served on the card that they describe, with the faults that they plan
pub record IsServedFromFiles (files : Files) (trace : Option ℕ) (old new : Option (List ℕ))
    (result : Result ℕ ServeFault) : Type 0 where
  pub spec : CardSpec
  pub plan : List PlannedFault
  pub events : List ScriptEvent
  pub read : AreRead files spec plan events
  pub served : IsServedOnSpec spec plan events trace old new result

-- So with an exit status; with a fault either they were refused, and nothing was written, or it is one of serving.
abbrev pub IsOutcomeOfFiles : Files → Option ℕ → Option (List ℕ) → Option (List ℕ) → Result ℕ ServeFault → Type 0
IsOutcomeOfFiles files trace old new (Ok status) = IsServedFromFiles files trace old new (Ok status)
IsOutcomeOfFiles files trace old new (Err fault) =
    (AreRefused files fault × (new ≡ old)) ⊎ IsServedFromFiles files trace old new (Err fault)
