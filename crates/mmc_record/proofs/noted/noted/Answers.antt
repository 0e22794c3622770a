use Rattle.std.proofs.Common.{◌∙◌, ap}
use Rattle.std.specs.Int.{bytes_high_first}
use Rattle.mmc_regs.specs.Csd.{csd_in, csd_number}
use Rattle.mmc_regs.specs.Register.{checked_number}
use Rattle.mmc_card.specs.declared.part.Part.TheVariants.{Boot1, Boot2, Gp1, Gp2, Gp3, Gp4, User}
use Rattle.mmc_record.proofs.NoteLemmas.{each_part, exists_as_noted}
use Rattle.mmc_record.proofs.noted.noted.Goals as goal

pub returns-clause-says : goal.returns-clause-says
returns-clause-says c checks =
    let session = c.args.session.now in
    let info = session.info in
    let same = c.info-info.ensures in
    let kind = c.kind_number.ensures ∙ ap (λ i. i.kind) same in
    let addressing = c.addressing_number.ensures ∙ ap (λ i. i.addressing) same in
    let cid = c.to_be_bytes.ensures ∙ ap (bytes_high_first 16) (c.register.ensures ∙ ap (λ i. i.cid) same) in
    let csd = c.to_be_bytes-2.ensures
    ∙ ap (bytes_high_first 16) (c.register-2.ensures ∙ ap (λ i. csd_number i.csd) same) in
    let user = exists_as_noted info User _ _ addressing (ap (λ i. i.sizes.user) same) in
    let boot = exists_as_noted info Boot1 _ _ addressing (ap (λ i. i.sizes.boot) same) in
    let boot' = exists_as_noted info Boot2 _ _ addressing (ap (λ i. i.sizes.boot) same) in
    let gp1 = exists_as_noted info Gp1 _ _ addressing (ap (λ i. i.sizes.gp1) same) in
    let gp2 = exists_as_noted info Gp2 _ _ addressing (ap (λ i. i.sizes.gp2) same) in
    let gp3 = exists_as_noted info Gp3 _ _ addressing (ap (λ i. i.sizes.gp3) same) in
    let gp4 = exists_as_noted info Gp4 _ _ addressing (ap (λ i. i.sizes.gp4) same) in
    record {
      info = record {
        kind = kind;
        addressing = addressing;
        rca = ap (λ i. i.rca) same;
        cid = ap checked_number cid ∙ checks.cid;
        csd = ap (λ k. csd_in k c.to_be_bytes-2.result) kind ∙ ap (csd_in info.kind) csd ∙ checks.csd;
        sizes = each_part _ user boot boot' gp1 gp2 gp3 gp4;
        read_only = c.flag.ensures ∙ ap (λ i. i.read_only) same;
        erase_unit = ap (λ i. i.erase_unit) same;
        erased_byte = ap (λ i. i.erased_byte) same;
        trims = c.flag-2.ensures ∙ ap (λ i. i.trims) same;
        cmd23 = c.flag-3.ensures ∙ ap (λ i. i.cmd23) same;
        width = c.width_number.ensures ∙ ap (λ i. i.width) same;
        timing = c.timing_number.ensures ∙ ap (λ i. i.timing) same;
      };
      partition_config = c.partition_config.ensures;
      selected = c.part_number.ensures ∙ c.selected.ensures;
    }
