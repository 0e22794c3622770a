use Rattle.std.proofs.Common.{ap, subst, sym, ◌∙◌, ◌≡◌}
use Rattle.std.specs.Prelude.{reverse}
use Rattle.mmc_history.proofs.ServingLemmas.{serves_from, tells, tells_beside}
use Rattle.mmc_history.specs.Serving.{IsServing}
use Rattle.mmc_card.specs.BusView.{BusView}
use Rattle.mmc_card.specs.Made.{Made}
use Rattle.mmc_switch.specs.Info.{IsInfo}
use Rattle.mmc_history.proofs.device.Device.open.Goals as goal

pub invariant_of-result : goal.invariant_of-result
invariant_of-result g c kept =
    let device = c.in_ok-device.device in
    let e = c.in_ok-device.ensures in
    subst (IsServing g.B.Bus.view c.of-opened.result device) (sym (ap reverse c.new.ensures))
    (serves_from g.B.Bus.view c.of-opened.result device (c.of-opened.ensures ∙ ap g.B.Bus.view c.bus.ensures) (e.decided kept)
    (e.machine kept))

pub returns-clause-info : goal.returns-clause-info
returns-clause-info g c kept =
    let bus = g.B.Bus.view c.args.bus in
    let opened : c.of-opened.result ≡ g.B.Bus.view c.in_ok-device.device.bus = c.of-opened.ensures ∙ ap g.B.Bus.view c.bus.ensures in
    let made : c.of-opened.result.card.made ≡ bus.card.made =
    ap (λ (v : BusView). v.card.made) opened ∙ (c.in_ok-device.ensures.stays kept).0.carried.made in
    subst (λ (m : Made). IsInfo bus.limits m c.in_ok-device.device.info) (sym made) (c.in_ok-device.ensures.info kept)

pub returns-clause-served : goal.returns-clause-served
returns-clause-served g c kept =
    tells g.B.Bus.view c.of-opened.result c.an_execution_has_its_laws.ensures c.clients_see_no_groups.ensures
    c.in_ok-device.device (reverse c.new.result.past) c.nothing_is_left_where_all_is_answered.ensures (invariant_of-result g c kept)

pub returns-clause-beside : goal.returns-clause-beside
returns-clause-beside g c kept =
    tells_beside g.B.Bus.view c.of-opened.result c.an_execution_has_its_laws.ensures c.clients_see_no_groups.ensures
    c.in_ok-device.device (reverse c.new.result.past) (invariant_of-result g c kept)
