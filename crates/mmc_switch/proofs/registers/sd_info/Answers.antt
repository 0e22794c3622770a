use Rattle.std.proofs.Common.{◌∙◌, ap, refl, sym}
use Rattle.std.specs.Prelude.{◌==◌}
use Rattle.mmc_regs.specs.Csd.{is_protected}
use Rattle.mmc_regs.specs.Scr.{erased_byte, set_block_count}
use Rattle.mmc_card.proofs.ToldLemmas.{told_registers, told_sectors, told_unit}
use Rattle.mmc_card.specs.Made.{addressing_of, as_told}
use Rattle.mmc_ext_csd.specs.Partition.{existing_sectors}
use Rattle.mmc_switch.proofs.InfoLemmas.{is_sd_csd, number_is, sd_fit, sd_sizes_are, sd_unit, tested}
use Rattle.mmc_switch.proofs.registers.sd_info.Goals as goal

pub returns-in_err-erase_unit-clause-taken : goal.returns-in_err-erase_unit-clause-taken
returns-in_err-erase_unit-clause-taken c made registers is found =
    cc (c.in_err-erase_unit.ensures.taken
    (is_sd_csd (as_told found.says made) c.args.found.now.csd (told_registers found.says made registers) is found.csd))

pub invariant_of-result : goal.invariant_of-result
invariant_of-result c = record {
  addressable = rw c.sd_sizes.ensures (sd_fit c.args.found.now.addressing c.args.found.now.csd);
  some_unit = c.in_ok-erase_unit.ensures.some_unit;
}

pub returns-clause-info : goal.returns-clause-info
returns-clause-info c limits made registers is found told =
    let says = found.says in
    let takes = told_registers says made registers in
    record {
      kind = sym is;
      addressing = found.addressing;
      rca = found.rca;
      cid = found.cid;
      says = says;
      csd = found.csd;
      sizes =
          rw c.sd_sizes.ensures
          (λ part. sd_sizes_are (as_told says made) c.args.found.now.csd c.args.found.now.addressing takes is found.csd found.addressing part
          ∙ ap (λ n. existing_sectors n (addressing_of made)) (told_sectors says made part registers));
      read_only = c.read_only.ensures ∙ ap is_protected (number_is (as_told says made) c.args.found.now.csd takes found.csd);
      erase_unit =
          c.in_ok-erase_unit.ensures.unit ∙ sd_unit (as_told says made) c.args.found.now.csd takes is found.csd
          ∙ told_unit says made registers;
      erased_byte = c.erased_byte.ensures ∙ ap erased_byte told.scr ∙ rw is refl;
      trims = rw is refl;
      cmd23 =
          tested c.has_set_block_count.result (set_block_count c.args.told.now.scr) c.has_set_block_count.ensures
          ∙ ap (λ scr. set_block_count scr == 1) told.scr ∙ rw is refl;
      width = told.width;
      timing = told.timing;
    }
