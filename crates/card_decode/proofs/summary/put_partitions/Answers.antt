use Rattle.card_decode.specs.Summaries.{partitions_text}
use Rattle.card_decode.proofs.summary.put_partitions.Goals as goal

pub returns : goal.returns
unfolding partitions_text
returns g c =
    rw (
      c.boot_sectors.ensures,
      c.gp_sectors.ensures,
      c.gp_sectors-2.ensures,
      c.gp_sectors-3.ensures,
      c.gp_sectors-4.ensures,
      c.erase_unit.ensures,
    ) at c.put_pieces.ensures
