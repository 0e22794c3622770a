use Rattle.std.proofs.Common.{◌∙◌, ap, ◌/◌, ◌%◌, ◌^◌}
use Rattle.card_decode.specs.Registers.{number_of}
use Rattle.card_decode.proofs.ByteLemmas.{bit_of_byte}
use Rattle.card_decode.proofs.bits.bit_at.Goals as goal

pub returns : goal.returns
returns c =
    c.from.ensures ∙ ap (λ b. b / 2 ^ (c.args.place % 8) % 2) c.byte_at-byte.ensures
    ∙ bit_of_byte (number_of c.args.register c.args.bytes.now) c.args.place
