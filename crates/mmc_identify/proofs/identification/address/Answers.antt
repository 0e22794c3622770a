use Rattle.mmc_bus.proofs.WorkLemmas.{moved_as}
use Rattle.mmc_identify.proofs.AddressLemmas.{assigned_named, assigned_rca, published_rca}
use Rattle.mmc_identify.proofs.identification.address.Goals as goal

pub returns-in-Sd-clause-moves : goal.returns-in-Sd-clause-moves
returns-in-Sd-clause-moves g c kept =
    let made = (g.B.Bus.view c.args.bus.now).card.made in
    rw c.in-Sd.is (moved_as _ _ (c.publish.ensures.moves kept) (λ sd. published_rca made c.publish.result sd)
    (λ same profile sd state. (c.publish.ensures.moves kept).fine same profile sd state))

pub returns-in-Mmc-clause-moves : goal.returns-in-Mmc-clause-moves
returns-in-Mmc-clause-moves g c kept =
    let made = (g.B.Bus.view c.args.bus.now).card.made in
    rw c.in-Mmc.is (moved_as _ _ (c.assign.ensures.moves kept) (λ mmc. assigned_rca made c.assign.result c.assign.ensures.one)
    (λ same profile mmc state. assigned_named _ _ ((c.assign.ensures.moves kept).fine same mmc state)))
