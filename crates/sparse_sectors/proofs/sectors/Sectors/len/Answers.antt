use Rattle.std.proofs.Common.{◌/◌, ap, arith, length}
use Rattle.std.proofs.lemmas.List.{length-append}
use Rattle.mmc_bus.specs.BlockLaws.{length_pieces}
use Rattle.mmc_bus.specs.Bytes.{blocks_in}
use Rattle.sparse_sectors.proofs.sectors.Sectors.len.Goals as goal

pub returns : goal.returns
returns c =
    let image = c.self.inside.image in
    omega (
      arith,
      length_pieces (length image / 512) image,
      length-append (blocks_in image) c.self.inside.rest,
      ap length c.self.view_is,
      ap length c.as_slice.ensures,
      c.len.ensures.len,
    )
