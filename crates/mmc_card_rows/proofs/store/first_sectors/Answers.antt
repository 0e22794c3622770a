use Rattle.std.proofs.Common.{◌∙◌, ◌≡◌, ap, length}
use Rattle.mmc_card_rows.proofs.StoreLemmas.{first_length, of_image}
use Rattle.mmc_card_rows.specs.SectorLists.{first_sectors}
use Rattle.mmc_card_rows.proofs.store.first_sectors.Goals as goal

pub returns-in-Some-clause-sectors : goal.returns-in-Some-clause-sectors
returns-in-Some-clause-sectors c =
    c.from_image.ensures
    ∙ of_image c.args.image c.in-Some.image c.args.count c.args.erased c.in-Some.is c.requires.image

pub returns-in-Some-clause-len : goal.returns-in-Some-clause-len
returns-in-Some-clause-len c =
    let count = c.args.count in
    let sectors : c.from_image.result ≡ first_sectors c.args.image count c.args.erased =
    c.from_image.ensures
    ∙ of_image c.args.image c.in-Some.image count c.args.erased c.in-Some.is c.requires.image in
    ap length sectors ∙ first_length c.args.image count c.args.erased
