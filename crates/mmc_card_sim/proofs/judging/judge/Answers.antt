use Rattle.std.proofs.Common.{ap, arith, sym, ◌∙◌, ◌≤◌}
use Rattle.mmc_regs.specs.Csd.{is_protected}
use Rattle.mmc_card.specs.Made.{csd_number_of}
use Rattle.mmc_card_sim.proofs.SpecLemmas.{few_sectors, image_length, number_of_csd, sizes_exist}
use Rattle.mmc_card_rows.specs.Registers.{made_of}
use Rattle.mmc_card_rows.specs.Sizes.{total}
use Rattle.mmc_card_rows.specs.declared.store.TheConstants.{MAX_LARGE}
use Rattle.mmc_card_sim.proofs.judging.judge.Goals as goal

pub returns-clause-protected : goal.returns-clause-protected
returns-clause-protected c =
    let made = made_of c.args.spec.now.registers in
    c.read_only.ensures
    ∙ ap is_protected (number_of_csd made.kind (csd_number_of made) c.in_ok-csd.csd c.in_ok-csd.ensures.csd)

pub returns-clause-image : goal.returns-clause-image
returns-clause-image c =
    image_length c.args.limit c.sizes_by-sizes.result c.args.spec.now.image (sym c.if-not-takes_image.ensures)

pub returns-clause-exist : goal.returns-clause-exist
returns-clause-exist c =
    let within = few_sectors c.args.limit c.sizes_by-sizes.result c.args.spec.now.image
    (sym c.if-not-takes_image.ensures) in
    let few : total c.sizes_by-sizes.result ≤ MAX_LARGE = omega (arith, within, c.requires) in
    rw c.sizes_by-sizes.ensures (sizes_exist c.args.spec.now.registers (rw c.sizes_by-sizes.ensures at few))
