use Rattle.std.proofs.Common.{◌∙◌, ap, length}
use Rattle.mmc_card.specs.Card.{IsCard, powered_on}
use Rattle.mmc_card.specs.Sectors.{part_number}
use Rattle.mmc_card.proofs.Conditions.{along}
use Rattle.mmc_card_sim.proofs.BuildLemmas.{has_its_sizes, new_blocks}
use Rattle.mmc_card_sim.proofs.SpecLemmas.{length_sizes}
use Rattle.mmc_card_rows.specs.Registers.{made_of}
use Rattle.mmc_card_sim.proofs.sim_card.SimCard.build_within.Goals as goal

pub unused-requires-clause-card : goal.unused-requires-clause-card
unused-requires-clause-card c =
    let registers = c.args.spec.registers in
    let judged = c.in_ok-judged in
    let erased = c.erased_byte-erased in
    let blocks = new_blocks judged.judged.sizes c.args.spec.image erased.result judged.ensures.image_bytes
    judged.ensures.image erased.type_inv in
    let sizes = has_its_sizes judged.judged.sizes c.args.spec.image erased.result (made_of registers) _
    (ap (powered_on (made_of registers)) c.in-Ok.ensures.sectors)
    (ap length judged.ensures.sizes ∙ length_sizes registers) judged.ensures.exist in
    along IsCard c.powered_on-chip.ensures.card
    (c.a_card_after_power_on_is_one.ensures _ _ judged.ensures.registers sizes
    (λ part. rw c.in-Ok.ensures.sectors (blocks (part_number part))))

pub returns-clause-sizes : goal.returns-clause-sizes
returns-clause-sizes c =
    let registers = c.args.spec.registers in
    has_its_sizes c.in_ok-judged.judged.sizes c.args.spec.image c.erased_byte-erased.result (made_of registers) _
    (c.unused.ensures.card ∙ c.powered_on-chip.ensures.card
    ∙ ap (powered_on (made_of registers)) c.in-Ok.ensures.sectors)
    (ap length c.in_ok-judged.ensures.sizes ∙ length_sizes registers) c.in_ok-judged.ensures.exist
