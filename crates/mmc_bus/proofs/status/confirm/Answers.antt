use Rattle.std.proofs.Common.{Ok, refl, subst, sym}
use Rattle.mmc_bus.proofs.ClosingLemmas.{Asks, asked_once}
use Rattle.mmc_bus.specs.declared.status.Closing.TheVariants.{Clean}
use Rattle.mmc_bus.proofs.status.confirm.Goals as goal

pub returns-in-Clean-clause-works : goal.returns-in-Clean-clause-works
returns-in-Clean-clause-works g c kept =
    asked_once c.args.kind c.args.rca (Ok Clean) (Ok tt) (g.B.Bus.view c.args.bus.now) (g.B.Bus.view c.ask_closing.new.bus)
    (λ ok. refl) (λ ok. refl)
    (subst (λ closing. Asks c.args.kind c.args.rca (Ok closing) (g.B.Bus.view c.args.bus.now)
    (g.B.Bus.view c.ask_closing.new.bus)) c.in-Clean.is (c.in_ok-ask_closing.ensures.works kept))
