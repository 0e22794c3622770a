-- What a call begins with, and what becomes of it.
use Rattle.std.specs.Prelude.{◌&&◌, ◌==◌, ◌≡◌, Bool, None, Option, Result, Some, nat_lt, negsuc, pos, true, ℕ, ℤ}
use Rattle.mmc_direct.specs.Noted.{IsCounted}
use Rattle.mmc_card.specs.declared.part.Part.{Part}
use Rattle.mmc_direct.specs.declared.refused.NotDone.{NotDone}
use Rattle.mmc_requests.specs.declared.refused.Refused.{Refused}
use Rattle.mmc_switch.specs.declared.stands.Stands.{Stands}
use Rattle.mmc_record.specs.Note.{IsNoteOf, is_note}
use Rattle.mmc_record.specs.Numbers.{kind_of, part_of}
use Rattle.mmc_record.specs.declared.record.CardRecord.{CardRecord}
use Rattle.mmc_recovery.specs.declared.healed.Healed.{Healed}
use Rattle.c_host.specs.Given.{kinds_by}
use Rattle.c_host.specs.Kinds.{serves}
use Rattle.c_host.specs.declared.given.WayRecord.{WayRecord}
use Rattle.kelifandro.specs.Answers.{answer_number, refused_number}

-- the card stands as was noted
abbrev pub IsAsNoted : Stands → CardRecord → Type 0
IsAsNoted stands note = (noted : Stands) → IsNoteOf noted note → stands ≡ noted

-- where a card is noted, this holds of how it stands
abbrev pub IfNoted : CardRecord → (Stands → Type 0) → Type 0
IfNoted note Holds = (stands : Stands) → IsNoteOf stands note → Holds stands

-- it is noted, and of a kind that is served
abbrev pub is_open : WayRecord → CardRecord → Bool
is_open way note = is_note note && serves (kinds_by way) (kind_of note.kind)

-- where a card is open, this holds of how it stands
abbrev pub IfOpen : WayRecord → CardRecord → (Stands → Type 0) → Type 0
IfOpen way note Holds = is_open way note ≡ true → IfNoted note Holds

-- where there is a partition of this number, this holds of it
abbrev pub IfMeant : ℕ → (Part → Type 0) → Type 0
IfMeant number Holds = (part : Part) → part_of number ≡ Some part → Holds part

-- the number of a request that was attempted: it is done, or has failed
abbrev pub is_attempted : ℤ → Bool
is_attempted (pos n) = n == 0
is_attempted (negsuc n) = nat_lt 8 n && nat_lt n 14

-- A request that may not be made is never told as done. By functions it is told by the number of why, and any other is attempted; by
-- registers the controller may not be ready, which comes first.
abbrev pub TellsWhy : ℕ → Option Refused → ℤ → Type 0
TellsWhy way None number = way ≡ 0 → is_attempted number ≡ true
TellsWhy way (Some why) number = (number ≡ pos 0 → ⊥) × (way ≡ 0 → number ≡ refused_number why)

-- A request with so many attempts that was attempted is counted by them, whose outcome the number tells.
abbrev pub TellsCounts : ℕ → Stands → Healed → ℤ → CardRecord → Healed → Type 0
TellsCounts most stands old number note new =
    is_attempted number ≡ true
    → (answer : Result Unit NotDone) × (number ≡ answer_number answer) × IsCounted most stands old answer note new
