use Rattle.std.proofs.Common.{◌∙◌, ap, refl, sym}
use Rattle.mmc_regs.specs.Csd.{csd_in}
use Rattle.mmc_ext_csd.specs.Partition.{existing_sectors}
use Rattle.mmc_record.specs.Note.{noted_size}
use Rattle.mmc_record.proofs.NoteLemmas.{ok_in}
use Rattle.mmc_record.proofs.reading.restored_info.Goals as goal

pub returns-clause-says : goal.returns-clause-says
returns-clause-says c = record {
  kind = sym c.kind_of-kind.ensures;
  addressing = sym c.addressing_of-addressing.ensures;
  rca = refl;
  cid = sym c.read_cid.ensures ∙ ok_in c.read_cid.result c.in_ok-cid.cid c.in_ok-cid.ensures.value;
  csd = ap (λ kind. csd_in kind c.args.note.now.csd) (sym c.kind_of-kind.ensures) ∙ sym c.read_csd.ensures.read
      ∙ ok_in c.read_csd.result c.in_ok-csd.csd c.in_ok-csd.ensures.value;
  sizes = λ part. ap (existing_sectors (noted_size c.args.note.now part)) (sym c.addressing_of-addressing.ensures)
      ∙ c.sizes_of-sizes.ensures.sizes part;
  read_only = sym c.is_set.ensures;
  erase_unit = refl;
  erased_byte = refl;
  trims = sym c.is_set-2.ensures;
  cmd23 = sym c.is_set-3.ensures;
  width = sym c.width_of.ensures;
  timing = sym c.timing_of.ensures;
}
