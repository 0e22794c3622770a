use Rattle.std.proofs.Common.{arith, length}
use Rattle.std.specs.Prelude.{◌/◌}
use Rattle.mmc_bus.specs.BlockLaws.{length_pieces}
use Rattle.mmc_bus.proofs.bytes.BytesBlocksMut.blocks_mut.Goals as goal

pub slice_mut-requires : goal.slice_mut-requires
slice_mut-requires c =
    let count = length_pieces (length c.args.self.now / 512) c.args.self.now in
    record { room = omega (arith, count, c.requires.some, c.requires.inside) }
