use Rattle.std.proofs.Common.{◌+◌, ◌*◌, ap, ◌∙◌}
use Rattle.mmc_frame.specs.Field.{field}
use Rattle.card_decode.specs.Registers.{number_of}
use Rattle.card_decode.proofs.ByteLemmas.{byte_min}
use Rattle.card_decode.proofs.line.byte_of.Goals as goal

pub returns : goal.returns
returns c =
    let n = number_of c.args.register c.args.bytes.now in
    c.bits.ensures ∙ ap (λ top. field top (c.args.low + 8 * c.args.place) n) c.min.ensures
    ∙ byte_min n c.args.high c.args.low c.args.place c.requires.within
