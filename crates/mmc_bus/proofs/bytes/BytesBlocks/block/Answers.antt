use Rattle.std.proofs.Common.{◌<◌, ◌∙◌, arith, length}
use Rattle.std.specs.Prelude.{◌/◌}
use Rattle.mmc_bus.specs.BlockLaws.{length_pieces, piece_is}
use Rattle.mmc_bus.proofs.bytes.BytesBlocks.block.Goals as goal

pub piece-requires : goal.piece-requires
piece-requires c =
    let count = length_pieces (length c.args.self.now / 512) c.args.self.now in
    let below = c.requires in
    record { room = omega (arith, count, below) }

pub returns : goal.returns
returns c =
    let count = length_pieces (length c.args.self.now / 512) c.args.self.now in
    let below = c.requires in
    let less : c.args.i < length c.args.self.now / 512 = omega (arith, count, below) in
    c.piece.ensures.value ∙ piece_is (length c.args.self.now / 512) c.args.self.now c.args.i less
