use Rattle.std.proofs.Common.{not, subst, sym}
use Rattle.mmc_switch.proofs.UnderWayLemmas.{ready_using}
use Rattle.mmc_switch.specs.KnownFaults.{locks_up_at_cmd23, loses_by_trim}
use Rattle.mmc_switch.specs.Place.{IsReady}
use Rattle.mmc_switch.specs.declared.info.Info.{Info}
use Rattle.mmc_switch.proofs.session.Session.heeding_known_faults.Goals as goal

pub returns-clause-ready : goal.returns-clause-ready
returns-clause-ready c view ready =
    let info = c.args.self.info in
    subst (λ (info : Info). IsReady (record c.args.self { info = info }) view) (sym c.heeding_known_faults.ensures)
    (ready_using c.args.self (not (loses_by_trim info.kind info.cid)) (not (locks_up_at_cmd23 info.kind info.cid)) view ready)
