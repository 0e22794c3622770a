use Rattle.std.proofs.Common.{◌∙◌, sym}
use Rattle.mmc_card_rows.proofs.ChipLemmas.{refused_transfer}
use Rattle.mmc_card_rows.proofs.chip.Chip.transfer.Goals as goal

pub returns-then-not-is_empty : goal.returns-then-not-is_empty
returns-then-not-is_empty c =
    refused_transfer _ _ _ _ _ c.raise.new.self c.respond_status.new.self c.respond_status.result
    c.errors_at-errors.ensures.errors (sym (c.is_empty.ensures tt) ∙ c.if-not-is_empty.true) c.raise.ensures
    c.respond_status.ensures
