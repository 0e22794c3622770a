use Rattle.std.proofs.Common.{◌∙◌, ap, inl, refl, sym}
use Rattle.mmc_ext_csd.specs.ExtCsd.{trim_support}
use Rattle.mmc_regs.specs.Csd.{is_protected}
use Rattle.mmc_card.proofs.ToldLemmas.{told_registers, told_sectors}
use Rattle.mmc_card.specs.Made.{addressing_of, as_told}
use Rattle.mmc_ext_csd.specs.Partition.{existing_sectors}
use Rattle.mmc_switch.proofs.InfoLemmas.{mmc_erased, mmc_fit, mmc_sizes_are, mmc_trims, mmc_unit, number_is, tested}
use Rattle.mmc_switch.proofs.registers.mmc_info.Goals as goal

pub invariant_of-result : goal.invariant_of-result
invariant_of-result c = record {
  addressable = rw c.mmc_sizes.ensures (mmc_fit c.args.found.now.addressing c.args.found.now.csd c.args.ext_csd.now);
  some_unit = rw c.erase_unit.ensures c.requires.some_unit;
}

pub returns : goal.returns
returns c = record {
  info = λ limits card registers is found told width timing.
      let says = found.says in
      let tells = record card { made = as_told says card.made } in
      let takes = told_registers says card.made registers in
      record {
        kind = sym is;
        addressing = found.addressing;
        rca = found.rca;
        cid = found.cid;
        says = says;
        csd = found.csd;
        sizes =
            rw c.mmc_sizes.ensures
            (λ part. mmc_sizes_are tells c.args.found.now.csd c.args.found.now.addressing c.args.ext_csd.now takes is found.csd
            found.addressing (record { len = told.len; read = told.read }) part
            ∙ ap (λ n. existing_sectors n (addressing_of card.made)) (told_sectors says card.made part registers));
        read_only = c.read_only.ensures ∙ ap is_protected (number_is (as_told says card.made) c.args.found.now.csd takes found.csd);
        erase_unit = c.erase_unit.ensures ∙ mmc_unit card c.args.ext_csd.now is told;
        erased_byte = c.erased_byte.ensures ∙ mmc_erased card c.args.ext_csd.now is told;
        trims =
            tested c.trims.result (trim_support c.args.ext_csd.now) c.trims.ensures
            ∙ mmc_trims card c.args.ext_csd.now is told;
        cmd23 = rw is refl;
        width = width;
        timing = inl timing;
      };
  rca = refl;
  lines = (refl, refl);
}
