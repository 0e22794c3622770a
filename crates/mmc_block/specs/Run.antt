-- Turns until no request is without an answer.
use Rattle.std.specs.Prelude.{◌&&◌, ◌==◌, ◌≡◌, List, count_by, replicate, ℕ}
use Rattle.mmc_switch.specs.declared.info.Info.{Info}
use Rattle.mmc_block.specs.Execution.{Counted, IsCountedExecution, Reply}
use Rattle.mmc_block.specs.Execution.Event.{Turn}
use Rattle.mmc_block.specs.InOrder.{answers}
use Rattle.mmc_block.specs.Machine.{Waiting}
use Rattle.mmc_block.specs.declared.completion.Completion.{Completion}

-- Turns of a machine with own faults, which gave these answers in all.
pub record TakesTurns (info : Info) (old : Counted) (completions : List Completion) (new : Counted) : Type 0 where
  pub turns : ℕ
  pub replies : List Reply
  pub executed : IsCountedExecution info old (replicate turns Turn) replies new
  pub given : answers replies ≡ completions

-- how many of these requests are this client's under this ticket
abbrev pub asked_by : ℕ → ℕ → List Waiting → ℕ
asked_by client ticket ws = count_by (λ w. (w.client == client) && (w.ticket == ticket)) ws

-- how many of these answers are for this client under this ticket
abbrev pub answered_to : ℕ → ℕ → List Completion → ℕ
answered_to client ticket cs = count_by (λ c. (c.client == client) && (c.ticket == ticket)) cs

-- each of these requests has one answer, under its client and ticket, and there is no other answer
abbrev pub AreEachAnswered : List Waiting → List Completion → Type 0
AreEachAnswered ws cs = (client ticket : ℕ) → answered_to client ticket cs ≡ asked_by client ticket ws
