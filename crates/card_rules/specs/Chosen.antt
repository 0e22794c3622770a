-- What the rules of a card plan.
use Rattle.std.specs.Prelude.{◌%◌, ◌+◌, ◌-◌, ◌^◌, ◌≡◌, List, None, Option, Some, false, min, slice_index_or, slice_set, take, true, ℕ}
use Rattle.std.specs.List.{All, slice_get}
use Rattle.mmc_card_sim.specs.declared.fault.Fault.{Fault}
use Rattle.card_rules.specs.Rules.{IsPlanned, is_about}
use Rattle.card_rules.specs.declared.moment.Moment.{Moment}
use Rattle.card_rules.specs.declared.moment.Moment.TheVariants.{Command}
use Rattle.card_rules.specs.declared.rule.Rule.{Rule}

-- how many commands with its index came before an exchange, by the counts of all indices
abbrev pub before_of : List ℕ → Moment → ℕ
before_of commands (Command index) = slice_index_or commands (index % 64) 0
before_of commands moment = 0

-- the counts after it
abbrev pub counted : List ℕ → Moment → List ℕ
counted commands (Command index) =
    slice_set commands (index % 64) (min (slice_index_or commands (index % 64) 0 + 1) (2 ^ 64 - 1))
counted commands moment = commands

-- with some random number the rule isn't about the exchange
abbrev pub IsQuiet : ℕ → Moment → ℕ → Rule → Type 0
IsQuiet number moment before rule = (chance : ℕ) × (is_about rule.when number moment before chance ≡ false)

-- with some random number it is, and plans this fault
abbrev pub IsSaidBy : ℕ → Moment → ℕ → Rule → Fault → Type 0
IsSaidBy number moment before rule fault =
    (chance : ℕ) × (is_about rule.when number moment before chance ≡ true) × IsPlanned rule.what moment fault

-- the first rule that is about the exchange plans the fault, or none is
abbrev pub IsSaid : List Rule → ℕ → Moment → ℕ → Option Fault → Type 0
IsSaid rules number moment before None = All (IsQuiet number moment before) rules
IsSaid rules number moment before (Some fault) =
    (i : ℕ) × (rule : Rule) × (slice_get rules i ≡ Some rule) × All (IsQuiet number moment before) (take i rules)
    × IsSaidBy number moment before rule fault
