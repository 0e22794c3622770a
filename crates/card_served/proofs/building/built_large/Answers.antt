use Rattle.mmc_card_rows.specs.declared.store.TheConstants.{MAX_LARGE}
use Rattle.card_served.specs.New.{IsWhyUnbuilt}
use Rattle.card_served.proofs.BuildingLemmas.{why_unbuilt}
use Rattle.card_served.proofs.InputLemmas.{err_is}
use Rattle.card_served.proofs.building.built_large.Goals as goal

pub returns-in_err-card-clause-err : goal.returns-in_err-card-clause-err
returns-in_err-card-clause-err c =
    err_is (IsWhyUnbuilt MAX_LARGE c.args.spec) _ _ c.from_residual.ensures.1
    (why_unbuilt MAX_LARGE c.args.spec _ c.in_err-card.ensures.refused)
