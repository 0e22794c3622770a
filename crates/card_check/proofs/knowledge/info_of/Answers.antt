use Rattle.std.proofs.Common.{◌∙◌, ap, false, inl, refl, sym}
use Rattle.mmc_frame.specs.declared.addressing.Addressing.{Addressing}
use Rattle.mmc_frame.specs.declared.kind.Kind.{Kind}
use Rattle.mmc_regs.specs.Csd.{csd_in}
use Rattle.mmc_ext_csd.specs.Partition.{existing_sectors}
use Rattle.mmc_card.specs.Made.{sectors_in}
use Rattle.mmc_card_sim.specs.Registers.{made_of}
use Rattle.card_check.proofs.KnowledgeLemmas.{cid_read, default_speed, one_line}
use Rattle.card_check.proofs.knowledge.info_of.Goals as goal

pub returns : goal.returns
returns c =
    let registers = c.args.spec.now.registers in
    let made = made_of registers in
    record {
      kind = c.kind-2.ensures;
      addressing = c.addressing_of-addressing.ensures;
      rca = λ is. refl;
      cid = cid_read registers.cid _ c.in-Ok-read_cid.ensures;
      says = false;
      csd = sym (c.in-Ok-read_csd.ensures.read ∙ ap (λ (kind : Kind). csd_in kind registers.csd) c.kind.ensures);
      sizes = λ part.
          c.addressable.ensures.sizes made c.in-Ok.ensures.exist part
          ∙ ap (λ (a : Addressing). existing_sectors (sectors_in made part) a) c.addressing_of-addressing.ensures;
      read_only = c.in-Ok.ensures.protected;
      erase_unit = c.in-Ok.ensures.unit;
      erased_byte = c.erased_byte.ensures;
      trims = c.trims.ensures;
      cmd23 = c.has_cmd23.ensures;
      width = one_line _;
      timing = inl (default_speed _);
    }
