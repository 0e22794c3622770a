use Rattle.mmc_card_sim.proofs.SpecLemmas.{sd_unit, small_unit}
use Rattle.mmc_card_sim.proofs.judging.erase_unit.Goals as goal

pub returns-in-Sd-clause-some : goal.returns-in-Sd-clause-some
returns-in-Sd-clause-some c =
    let of_sd = rw c.in-Sd.is at c.requires.of_kind in
    rw c.erase_unit.ensures (sd_unit c.args.csd.now of_sd).0

pub returns-in-Sd-clause-small : goal.returns-in-Sd-clause-small
returns-in-Sd-clause-small c =
    let of_sd = rw c.in-Sd.is at c.requires.of_kind in
    rw c.erase_unit.ensures (sd_unit c.args.csd.now of_sd).1

pub returns-in-Mmc-clause-small : goal.returns-in-Mmc-clause-small
returns-in-Mmc-clause-small c =
    let bytes = rw c.in-Mmc.is at c.requires.registers.ext_csd_bytes in
    rw (c.erase_unit-in-Mmc.ensures, c.new.ensures) (small_unit c.in-Mmc.mmc.ext_csd bytes)
