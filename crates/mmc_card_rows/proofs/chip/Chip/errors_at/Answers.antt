use Rattle.std.proofs.Common.{arith}
use Rattle.mmc_card_rows.proofs.ChipLemmas.{transfer_errors_known}
use Rattle.mmc_card_rows.proofs.chip.Chip.errors_at.Goals as goal

pub returns-clause-errors : goal.returns-clause-errors
returns-clause-errors c =
    rw (
      c.from_bits_retain.ensures tt,
      c.bits_if.ensures.bits,
      c.bits_if-2.ensures.bits,
      c.bits_if-3.ensures.bits,
      c.bits_if-4.ensures.bits,
      c.protects.ensures,
      c.is_misaligned.ensures,
      c.sector_at.ensures.sector,
      c.size.ensures.size,
    )
    (omega arith)

pub returns-clause-known : goal.returns-clause-known
returns-clause-known c =
    rw (
      c.from_bits_retain.ensures tt,
      c.bits_if.ensures.bits,
      c.bits_if-2.ensures.bits,
      c.bits_if-3.ensures.bits,
      c.bits_if-4.ensures.bits,
    )
    (transfer_errors_known _ _ _ _)
