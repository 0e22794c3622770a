use Rattle.std.proofs.Common.{◌∙◌, ap, sym}
use Rattle.std.proofs.lemmas.List.{set-get_or}
use Rattle.std.specs.Prelude.{[], slice_set}
use Rattle.mmc_card.specs.Sectors.{part_number}
use Rattle.mmc_card_rows.specs.Store.{part_of, parts_of, values_of}
use Rattle.mmc_card_rows.proofs.StoreLemmas.{none_lands}
use Rattle.mmc_card_rows.proofs.store.Store.settle.Goals as goal

pub returns-in-Old-clause-sectors : goal.returns-in-Old-clause-sectors
returns-in-Old-clause-sectors c =
    let store = c.args.self.now in
    rw c.in-Old.is (c.drop_values.ensures.sectors
    ∙ sym (ap (slice_set (parts_of store) (part_number c.args.part))
    (none_lands store.start (values_of store) (part_of store c.args.part))
    ∙ set-get_or (parts_of store) (part_number c.args.part) []))
