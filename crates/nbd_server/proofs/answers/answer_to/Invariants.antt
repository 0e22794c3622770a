use Rattle.std.proofs.Common.{◌<◌, ◌≢◌, ℕ}
use Rattle.std.specs.Prelude.{get_or}
use Rattle.mmc_block.specs.declared.completion.Completion.{Completion}
use Rattle.nbd_server.proofs.answers.answer_to.Given as goal

abbrev pub invariant-loop-completion : goal.invariant-loop-completion
invariant-loop-completion l = (k : ℕ) (d : Completion) → k < l.completion-index → (get_or l.given k d).client ≢ l.number
