-- A card file: what its lines say together.
use Rattle.std.specs.Prelude.{◌&&◌, ◌-◌, ◌<◌, ◌≡◌, ◌≤◌, ℕ, Bool, List, [], ◌∷◌, Option, None, Some, filter_map, length, map, nat_lt}
use Rattle.std.specs.Prelude.{not, take, true, ⊤}
use Rattle.std.specs.List.{AllPass, IsDistinct, list_any}
use Rattle.std.specs.Option.{option_or}
use Rattle.mmc_card_sim.specs.declared.plan.TheConstants.{MAX_PLANNED}
use Rattle.mmc_card_sim.specs.declared.spec.CardSpec.{CardSpec}
use Rattle.mmc_frame.specs.declared.kind.Kind.{Kind as CardKind}
use Rattle.card_text.specs.declared.card_line.CardLine.{CardLine}
use Rattle.card_text.specs.declared.card_line.CardLine.TheVariants.{Fault, Kind}
use Rattle.card_text.specs.declared.fault.CardFault.{CardFault}
use Rattle.card_text.specs.declared.fault.CardFault.TheVariants.{BadLine, Incomplete, NoMemory}
use Rattle.card_text.specs.declared.text_line.Line.{Line}
use Rattle.card_text.specs.declared.text_line.Line.TheVariants.{Says}
use Rattle.card_text.specs.CardLines.{card_line_of, is_of, repeats}
use Rattle.card_text.specs.CardSpecs.{spec_of}
use Rattle.card_text.specs.Planning.{PlannedFault}
use Rattle.card_text.specs.TextLines.{said_in}

-- what the lines say, in order, where each of them is of the grammar
unfoldable pub card_lines_in : List (List ℕ) → Option (List CardLine)
card_lines_in all = said_in (map card_line_of all)

-- the kind that a line gives
abbrev pub kind_said : Line CardLine → Option CardKind
kind_said (Says (Kind kind)) = Some kind
kind_said said = None

-- the kind that the first well-formed line `kind` gives, wherever it stands
unfoldable pub kind_in : List (List ℕ) → Option CardKind
kind_in [] = None
kind_in (line ∷ others) = option_or (kind_said (card_line_of line)) (kind_in others)

-- the fault that a line plans
abbrev pub planned_of_line : CardLine → Option PlannedFault
planned_of_line (Fault exchange fault) = Some (exchange, fault)
planned_of_line line = None

-- the planned faults, in order
unfoldable pub plan_of : List CardLine → List PlannedFault
plan_of ls = filter_map planned_of_line ls

-- a card may have a line of its kind; without a kind every line may stand
abbrev pub may_have : Option CardKind → CardLine → Bool
may_have None line = true
may_have (Some kind) line = is_of kind line

-- a line gives again what one of those above gives
abbrev pub is_repeated : List CardLine → CardLine → Bool
is_repeated above line = list_any (λ other. repeats line other) above

-- one more fault may be planned, where the line plans one
abbrev pub has_room : List CardLine → CardLine → Bool
has_room above (Fault exchange fault) = nat_lt (length (plan_of above)) MAX_PLANNED
has_room above line = true

-- a line may stand below others
abbrev pub may_stand : Option CardKind → List CardLine → CardLine → Bool
may_stand kind above line = may_have kind line && not (is_repeated above line) && has_room above line

-- the lines stand beside each other: none is of the other kind, none gives again what one above it gives, and not too
-- many faults are planned
pub record StandTogether (kind : Option CardKind) (ls : List CardLine) : Type 0 where
  pub of_kind : AllPass (may_have kind) ls
  pub once : IsDistinct (λ above line. repeats line above) ls
  pub few : length (plan_of ls) ≤ MAX_PLANNED

-- each line is of the grammar, what they say is this, and it stands together
pub record AreCardLines (kind : Option CardKind) (all : List (List ℕ)) (ls : List CardLine) : Type 0 where
  pub said : card_lines_in all ≡ Some ls
  pub together : StandTogether kind ls

-- lines that are good, whatever they say
abbrev pub AreGood : Option CardKind → List (List ℕ) → Type 0
AreGood kind all = (ls : List CardLine) × AreCardLines kind all ls

-- line n, counted from 1, is the first bad one
pub record IsFirstBadCardLine (kind : Option CardKind) (all : List (List ℕ)) (n : ℕ) : Type 0 where
  pub counted : 0 < n
  pub stands : n ≤ length all
  pub good_before : AreGood kind (take (n - 1) all)
  pub bad : AreGood kind (take n all) → ⊥

-- the lines are good, and say this
pub record IsCardFile (all : List (List ℕ)) (spec : CardSpec) (plan : List PlannedFault) : Type 0 where
  pub ls : List CardLine
  pub good : AreCardLines (kind_in all) all ls
  pub spec_said : spec_of ls ≡ Some spec
  pub plan_said : plan ≡ plan_of ls

-- the lines are good, and a key is missing
pub record IsIncomplete (all : List (List ℕ)) : Type 0 where
  pub ls : List CardLine
  pub good : AreCardLines (kind_in all) all ls
  pub missing : spec_of ls ≡ None

-- what a fault says of the lines, each for itself and beside each other; want of memory says nothing of them
abbrev pub IsLineFault : Option CardKind → List (List ℕ) → CardFault → Type 0
IsLineFault kind all (BadLine n) = IsFirstBadCardLine kind all n
IsLineFault kind all NoMemory = ⊤
IsLineFault kind all Incomplete = ⊥

-- what a fault says of a card file
abbrev pub IsBadCard : List (List ℕ) → CardFault → Type 0
IsBadCard all Incomplete = IsIncomplete all
IsBadCard all fault = IsLineFault (kind_in all) all fault
