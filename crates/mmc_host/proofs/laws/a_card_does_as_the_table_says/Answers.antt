use Rattle.std.proofs.Common.{refl}
use Rattle.mmc_card.specs.Rows.{command_of}
use Rattle.mmc_host.proofs.TableLemmas.{answer_told, as_long, blocks_told, busy_after}
use Rattle.mmc_host.proofs.laws.a_card_does_as_the_table_says.Goals as goal

pub returns : goal.returns
returns c = record {
  answer = λ choice card index argument below.
      answer_told choice card.made.kind card.app card index argument below;
  length = as_long;
  busy = λ choice card index argument.
      busy_after choice (command_of card.made.kind card.app index) card index argument;
  blocks = λ choice card index argument moved below is.
      blocks_told moved choice card.made.kind card.app card index argument below refl is.registers;
}
