use Rattle.std.proofs.Common.{refl}
use Rattle.mmc_direct.specs.Requests.{Serves}
use Rattle.mmc_direct.specs.declared.served.Served.{Served}
use Rattle.mmc_switch.specs.Stands.{info_of, stands_of}
use Rattle.mmc_host.specs.Hosts.{bus_over}
use Rattle.mmc_direct.specs.Noted.{bus_going_on, lines_in}
use Rattle.mmc_direct.proofs.NotedLemmas.{and_left, counted_by, noted_of, noted_still, served_over}
use Rattle.mmc_direct.proofs.RequestLemmas.{has_served}
use Rattle.mmc_direct.proofs.whole.serve_over.Goals as goal

pub returns-clause-healed : goal.returns-clause-healed
returns-clause-healed g c =
    let outcome = c.keep_trying-outcome.result in
    counted_by (g.R.Request.attempts c.args.request.now) c.args.stands c.args.healed.now c.answer.result (stands_of outcome) c.noted_after.result
    c.keep_trying-outcome.new.healed c.answer.ensures.fits c.noted_after.ensures c.keep_trying-outcome.ensures.healed

pub returns-clause-served : goal.returns-clause-served
returns-clause-served g c =
    let tried = c.keep_trying-outcome in
    let bus = tried.new.bus in
    let begun = c.go_on-bus.result in
    let change = g.R.Request.change (info_of c.args.stands) c.args.request.now in
    let attempts = g.R.Request.attempts c.args.request.now in
    let from = bus_over (g.H.Host.view begun.host) begun.wire begun.is_misused in
    let to = bus_over (g.H.Host.view bus.host) bus.wire bus.is_misused in
    let served : Served = record { stands = stands_of tried.result; answer = c.answer.result } in
    served_over (Serves attempts change (λ sets. g.R.Request.has sets tried.new.request)) c.args.stands
    (bus_going_on (g.H.Host.view c.args.host) (lines_in c.args.stands)) to from served c.noted_after.result tried.ensures.tries.kept
    (λ k. c.go_on-bus.ensures.view (and_left _ _ k)) c.answer.ensures.fits c.noted_after.ensures
    (λ k at. has_served attempts change (λ sets. g.R.Request.has sets tried.new.request) from served tried.result to refl
    c.answer.ensures.answer (tried.ensures.tries.tried k at) (tried.ensures.has k at))

pub returns-clause-noted : goal.returns-clause-noted
returns-clause-noted g c k at =
    let bus = c.keep_trying-outcome.new.bus in
    let s = returns-clause-served g c in
    noted_of (g.H.Host.view bus.host) bus.wire bus.is_misused c.noted_after.result (bus.within (and_left _ _ k))
    (s.notes (bus_over (g.H.Host.view bus.host) bus.wire bus.is_misused) (s.has k at).changed.stands)

pub returns-clause-kept : goal.returns-clause-kept
returns-clause-kept g c k =
    (c.go_on-bus.ensures.goes_on (and_left _ _ (c.keep_trying-outcome.ensures.tries.kept k))).0

pub returns-in-Some-clause-noted_again : goal.returns-in-Some-clause-noted_again
returns-in-Some-clause-noted_again g c =
    noted_still c.args.stands (g.H.Host.view c.args.host) c.noted.result c.noted.ensures
