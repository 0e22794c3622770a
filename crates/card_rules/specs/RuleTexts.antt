-- The text of a rule, by its words.
use Rattle.std.specs.Prelude.{◌-◌, ◌==◌, ◌&&◌, ◌∷◌, Bool, List, None, Option, Some, [], codes, false, if◌then◌else◌, nat_le, nat_lt, option_and_then}
use Rattle.std.specs.Prelude.{option_map, ℕ}
use Rattle.std.specs.Str.{bytes_eq}
use Rattle.card_text.specs.FaultTexts.{fault_of}
use Rattle.card_text.specs.Numbers.{number_of}
use Rattle.card_text.specs.Parts.{parts}
use Rattle.card_rules.specs.declared.rule.Rule.{Rule}
use Rattle.card_rules.specs.declared.rule.What.{What}
use Rattle.card_rules.specs.declared.rule.What.TheVariants.{Any, Gone, This}
use Rattle.card_rules.specs.declared.rule.When.{When}
use Rattle.card_rules.specs.declared.rule.When.TheVariants.{After, At, Chance, Each, From, Read, Write}

-- a number below 2^32
abbrev pub small_by : Option ℕ → Option ℕ
small_by (Some n) = if nat_le n 0xffffffff then Some n else None
small_by None = None

unfoldable pub small_of : List ℕ → Option ℕ
small_of digits = small_by (number_of digits)

-- this word alone
abbrev pub is_alone : List ℕ → List (List ℕ) → Bool
is_alone wanted (word ∷ []) = bytes_eq word wanted
is_alone wanted words = false

-- `any`, `gone`, or the text of a fault
unfoldable pub what_of : List (List ℕ) → Option What
what_of words =
    if is_alone (codes "any") words then Some Any
    else (if is_alone (codes "gone") words then Some Gone else option_map (λ fault. This fault) (fault_of words))

unfoldable pub planned_by : When → List (List ℕ) → Option Rule
planned_by when words = option_map (λ what. record { when = when; what = what }) (what_of words)

abbrev pub range_by : ℕ → ℕ → Option (ℕ × ℕ)
range_by first last = if nat_le first last then Some (first, last) else None

-- one sector, or the first and the last
unfoldable pub range_of : List (List ℕ) → Option (ℕ × ℕ)
range_of (first ∷ []) = option_map (λ a. (a, a)) (small_of first)
range_of (first ∷ last ∷ []) =
    option_and_then (λ a. option_and_then (λ b. range_by a b) (small_of last)) (small_of first)
range_of others = None

abbrev pub chance_by : ℕ → ℕ → Option When
chance_by of out_of = if nat_lt 0 out_of && nat_le of out_of then Some (Chance of out_of) else None

-- so many of so many
unfoldable pub chance_of : List (List ℕ) → Option When
chance_of (of ∷ out_of ∷ []) =
    option_and_then (λ a. option_and_then (λ b. chance_by a b) (small_of out_of)) (small_of of)
chance_of others = None

-- the K-th command with this index, from 1
unfoldable pub nth_of : ℕ → ℕ → List (List ℕ) → Option Rule
nth_of index nth words = if nth == 0 then None else planned_by (After index (nth - 1)) words

abbrev pub command_by : ℕ → Option ℕ → List (List ℕ) → List (List ℕ) → Option Rule
command_by index None words rest = planned_by (Each index) words
command_by index (Some nth) words rest = nth_of index nth rest

-- a fault for each command with this index, or a number before it
unfoldable pub command_of : ℕ → List (List ℕ) → Option Rule
command_of index [] = None
command_of index (word ∷ rest) = command_by index (number_of word) (word ∷ rest) rest

abbrev pub of_index : ℕ → List (List ℕ) → Option Rule
of_index index words = if nat_lt index 64 then command_of index words else None

-- what the words after the first one say
unfoldable pub rule_by : List ℕ → List ℕ → List (List ℕ) → Option Rule
rule_by key value words =
    if bytes_eq key (codes "from") then option_and_then (λ n. planned_by (From n) words) (number_of value)
    else (if bytes_eq key (codes "cmd") then option_and_then (λ index. of_index index words) (number_of value)
    else (if bytes_eq key (codes "read") then
    option_and_then (λ (r : ℕ × ℕ). planned_by (Read r.0 r.1) words) (range_of (parts 45 value))
    else (if bytes_eq key (codes "write") then
    option_and_then (λ (r : ℕ × ℕ). planned_by (Write r.0 r.1) words) (range_of (parts 45 value))
    else (if bytes_eq key (codes "random") then option_and_then (λ when. planned_by when words) (chance_of (parts 47 value))
    else None))))

abbrev pub rule_at : Option ℕ → List ℕ → List (List ℕ) → Option Rule
rule_at (Some exchange) word rest = planned_by (At exchange) rest
rule_at None word [] = None
rule_at None word (value ∷ others) = rule_by word value others

-- what the words of a rule say
unfoldable pub rule_of : List (List ℕ) → Option Rule
rule_of [] = None
rule_of (word ∷ rest) = rule_at (number_of word) word rest
