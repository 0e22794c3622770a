use Rattle.std.proofs.Common.{◌≡◌, ◌⊎◌, inl, inr, refl, subst, sym}
use Rattle.mmc_card.proofs.Conditions.{by_cond}
use Rattle.mmc_host.specs.Together.{IsUnderWay}
use Rattle.mmc_host.specs.declared.data.Data.{Data}
use Rattle.mmc_host.specs.declared.data.Data.TheVariants.{Nothing}
use Rattle.mmc_host.specs.declared.told.HostState.{HostState}
use Rattle.mmc_host.proofs.BusLemmas.{replied}
use Rattle.mmc_host.proofs.host_bus.HostBus.send.Goals as goal

pub returns-clause-sent : goal.returns-clause-sent
returns-clause-sent g c =
    replied (g.H.Host.view c.args.self.now.host) (g.H.Host.view c.set_ios.new.self.host) (g.H.Host.view c.send-heard.new.self)
    (g.H.Host.view c.rest.new.self.host) c.args.command c.send-heard.result c.spelled.result c.set_ios.ensures.only
    c.send-heard.ensures c.rest.ensures.rests c.spelled.ensures

pub returns-clause-data : goal.returns-clause-data
returns-clause-data g c =
    subst (λ (state : HostState). IsUnderWay c.args.command state) (sym (c.rest.ensures.state))
    (subst (λ (state : HostState). IsUnderWay c.args.command state) (sym c.sent-self.ensures)
    (by_cond (λ (left : Data). (left ≡ Nothing) ⊎ (left ≡ c.args.command.transfer)) c.is_ok.result (λ _. inr refl) (λ _. inl refl)))
