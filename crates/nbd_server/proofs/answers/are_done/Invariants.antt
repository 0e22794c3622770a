use Rattle.std.proofs.Common.{◌<◌, ℕ}
use Rattle.mmc_block.specs.declared.completion.Answer.TheVariants.{Done}
use Rattle.nbd_server.specs.Parts.{Has}
use Rattle.nbd_server.proofs.answers.are_done.Given as goal

abbrev pub invariant-loop-number : goal.invariant-loop-number
invariant-loop-number l = (n : ℕ) → n < l.number → Has l.given n Done
