use Rattle.std.proofs.Common.{subst, sym}
use Rattle.mmc_switch.proofs.UnderWayLemmas.{ready_as}
use Rattle.mmc_switch.specs.Place.{IsReady}
use Rattle.mmc_switch.specs.declared.info.Info.{Info}
use Rattle.mmc_switch.proofs.session.Session.used_as.Goals as goal

pub returns-clause-ready : goal.returns-clause-ready
returns-clause-ready c view known ready =
    subst (λ (info : Info). IsReady (record c.args.self { info = info }) view) (sym c.used_as.ensures)
    (ready_as c.args.self c.args.other.now view known ready)
