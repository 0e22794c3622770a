use Rattle.std.proofs.Common.{sym, ◌∙◌}
use Rattle.card_decode.proofs.ByteLemmas.{byte_low, byte_high}
use Rattle.card_decode.proofs.bits.byte_at.Goals as goal

pub returns-then-is_low_first : goal.returns-then-is_low_first
returns-then-is_low_first c =
    byte_low c.args.register c.args.bytes.now c.args.place (λ j. (c.type_inv.bytes j).fits) c.requires
    (sym c.is_low_first.ensures ∙ c.if-is_low_first.true)

pub returns-else-is_low_first : goal.returns-else-is_low_first
returns-else-is_low_first c =
    byte_high c.args.register c.args.bytes.now c.args.place (λ j. (c.type_inv.bytes j).fits) c.requires
    (sym c.is_low_first.ensures ∙ c.if-is_low_first.false)
