use Rattle.std.proofs.Common.{◌∙◌, ap}
use Rattle.mmc_regs.specs.Csd.{erase_unit_of, sectors_of}
use Rattle.card_decode.specs.Summaries.{size_text}
use Rattle.card_decode.proofs.summary.put_size.Goals as goal

pub returns-in-V1 : goal.returns-in-V1
unfolding size_text
returns-in-V1 g c =
    rw c.in-V1.is (rw (
      c.sectors.ensures ∙ ap sectors_of c.in-V1.is,
      c.erase_unit.ensures
          ∙ ap erase_unit_of c.in-V1.is,
    ) at c.put_card_size.ensures)

pub returns-in-V2 : goal.returns-in-V2
unfolding size_text
returns-in-V2 g c =
    rw c.in-V2.is (rw (
      c.sectors-in-V2.ensures ∙ ap sectors_of c.in-V2.is,
      c.erase_unit-in-V2.ensures
          ∙ ap erase_unit_of c.in-V2.is,
    ) at c.put_card_size-in-V2.ensures)

pub returns-in-Mmc : goal.returns-in-Mmc
unfolding size_text
returns-in-Mmc g c =
    rw c.in-Mmc.is (rw (c.sectors-in-Mmc.ensures ∙ ap sectors_of c.in-Mmc.is) at c.put_capacity.ensures)
