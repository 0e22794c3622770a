-- What was read of an input, or why it wasn't.
use Rattle.std.specs.Prelude.{◌≡◌, ◌⊎◌, ◌<◌, ℕ, IfSome, List, Option, length, ⊤}
use Rattle.mmc_card_sim.specs.declared.spec.CardSpec.{CardSpec}
use Rattle.card_text.specs.declared.card_file.TheConstants.{MAX_CARD_FILE}
use Rattle.card_text.specs.declared.fault.CardFault.TheVariants as OfCard
use Rattle.card_text.specs.CardFile.{IsBadCard, IsCardFile}
use Rattle.card_text.specs.Planning.{PlannedFault}
use Rattle.card_text.specs.Script.{lines}
use Rattle.card_served.specs.declared.fault.ServeFault.{ServeFault}
use Rattle.card_served.specs.declared.fault.ServeFault.TheVariants.{CardIncomplete, CardLine, NoMemory, ReadCard, TooLong}

-- a file that is longer than it may be
abbrev pub IsLonger : Option (List ℕ) → ℕ → Type 0
IsLonger file limit = IfSome file (λ all. limit < length all)

-- a file wasn't read: its reader failed, which this fault says, or it is too long, or memory was refused
abbrev pub IsUnread : Option (List ℕ) → ℕ → ServeFault → ServeFault → Type 0
IsUnread file limit unread fault = (fault ≡ unread) ⊎ ((fault ≡ NoMemory) ⊎ ((fault ≡ TooLong) × IsLonger file limit))

-- the card file, as far as its reader tells, describes this card and plans these faults
pub record IsCardRead (file : Option (List ℕ)) (spec : CardSpec) (plan : List PlannedFault) : Type 0 where
  pub text : List ℕ
  pub text_is : IfSome file (λ all. text ≡ all)
  pub card_is : IsCardFile (lines text) spec plan

-- what a fault says of a card file that was refused
abbrev pub IsCardRefused : Option (List ℕ) → ServeFault → Type 0
IsCardRefused file ReadCard = ⊤
IsCardRefused file (CardLine n) = IfSome file (λ all. IsBadCard (lines all) (OfCard.BadLine n))
IsCardRefused file CardIncomplete = IfSome file (λ all. IsBadCard (lines all) OfCard.Incomplete)
IsCardRefused file TooLong = IsLonger file MAX_CARD_FILE
IsCardRefused file NoMemory = ⊤
IsCardRefused file fault = ⊥
