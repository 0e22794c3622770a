-- Headline (docs/AUDIT.md, "What to read").
-- Which answers are failures.
use Rattle.std.specs.Prelude.{◌+◌, ◌∷◌, Bool, List, [], false, if◌then◌else◌, true, ℕ}
use Rattle.std.specs.List.{list_any}
use Rattle.mmc_block.specs.declared.completion.Answer.{Answer}
use Rattle.mmc_block.specs.declared.completion.Answer.TheVariants.{Data, Done, Failed}
use Rattle.mmc_block.specs.declared.completion.Completion.{Completion}

-- the answer is a failure
abbrev pub is_failed : Answer → Bool
is_failed Done = false
is_failed (Data bytes) = false
is_failed (Failed cause) = true

-- some answer is one
abbrev pub any_failed : List Completion → Bool
any_failed completions = list_any (λ (c : Completion). is_failed c.answer) completions

-- how many are
abbrev pub failures : List Completion → ℕ
failures [] = 0
failures (c ∷ cs) = (if is_failed c.answer then 1 else 0) + failures cs
