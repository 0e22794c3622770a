use Rattle.std.proofs.Common.{false, subst}
use Rattle.mmc_frame.specs.declared.card_state.State.TheVariants.{Data}
use Rattle.mmc_card.specs.RowsTransfer.{begun, transfer_errors, transferred}
use Rattle.mmc_card_rows.specs.Chip.{Answers, card_of}
use Rattle.mmc_card_rows.proofs.chip.Chip.read_multiple_block.Goals as goal

pub returns : goal.returns
returns c =
    let card = card_of c.args.self.now in
    subst
    (λ left. Answers (transferred 18 (transfer_errors false card c.args.address) card (begun Data false left card c.args.address))
    c.transfer.new.self c.transfer.result)
    c.preset.ensures c.transfer.ensures
