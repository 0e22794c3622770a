use Rattle.std.proofs.Common.{◌≡◌}
use Rattle.std.proofs.lemmas.Bool.{false≢true}
use Rattle.mmc_direct.specs.Noted.{IsCounted}
use Rattle.mmc_direct.specs.Refusal.{refusal_of}
use Rattle.mmc_direct.specs.Served.{IfServed, refusal_in}
use Rattle.mmc_switch.specs.Stands.{info_of}
use Rattle.kelifandro.proofs.CallLemmas.{always_none, as_noted, is_noted, noted_again, served_noted, unchanged_by, untold_by, where_left}
use Rattle.kelifandro.proofs.DoneLemmas.{fit_ready}
use Rattle.kelifandro.specs.Done.{done_of, host_after, stories_of}
use Rattle.mmc_direct.specs.Requests.{Serves}
use Rattle.kelifandro.proofs.requests.serve_by.Goals as goal

pub returns-in_err-host-clause-functions : goal.returns-in_err-host-clause-functions
returns-in_err-host-clause-functions g c = λ host opened how is.
    absurd (false≢true (c.in_err-host.ensures.functions host))

pub returns-clause-untouched : goal.returns-clause-untouched
returns-clause-untouched g c = unchanged_by _ _ _ c.serve_over-answer.result.0 c.serve_over-answer.ensures.untouched

pub returns-clause-noted : goal.returns-clause-noted
returns-clause-noted g c =
    noted_again _ _ c.args.card.now _ c.in-Some.stands c.serve_over-answer.result.0 c.in-Some.ensures.stands
    c.serve_over-answer.ensures.untouched

pub returns-clause-judged : goal.returns-clause-judged
returns-clause-judged g c =
    as_noted c.args.card.now c.in-Some.stands c.in-Some.ensures.stands
    (λ stands. refusal_in c.serve_over-answer.result.0 ≡ refusal_of (info_of stands) (g.R.Request.asked c.args.request.now))
    c.serve_over-answer.ensures.refused

pub returns-clause-counted : goal.returns-clause-counted
returns-clause-counted g c =
    as_noted c.args.card.now c.in-Some.stands c.in-Some.ensures.stands
    (λ stands. IfServed c.serve_over-answer.result.0 (IsCounted (g.R.Request.attempts c.args.request.now) stands c.args.healed.now c.serve_over-answer.result.0
    c.serve_over-answer.new.card c.serve_over-answer.new.healed))
    c.serve_over-answer.ensures.healed

pub returns-clause-served : goal.returns-clause-served
returns-clause-served g c =
    let over = c.serve_over-answer in
    served_noted c.args.card.now c.in-Some.stands c.in-Some.ensures.stands
    (λ how. Serves (g.R.Request.attempts c.args.request.now) (g.R.Request.change (info_of how) c.args.request.now) (λ sets. g.R.Request.has sets over.new.request))
    (host_after (stories_of g.S.HasStory.story g.S.HasRegisterStory.story) c.args.way.now (done_of c.args.did.now)) _
    over.result.0 over.new.card _ over.result.1 c.in_ok-host.ensures.comes over.ensures.kept over.ensures.served

pub returns-clause-untold : goal.returns-clause-untold
returns-clause-untold g c =
    let over = c.serve_over-answer in
    untold_by _ _ c.in_ok-host.host _ over.result.0 over.result.1 over.ensures.left over.ensures.untouched c.in_ok-host.ensures.comes

pub returns-clause-was_true : goal.returns-clause-was_true
returns-clause-was_true g c =
    let over = c.serve_over-answer in
    where_left over.result.1 (λ bus was_kept kept. (c.in_ok-host.ensures.comes (was_kept kept)).0) over.ensures.kept

pub go_back-requires-clause-ready : goal.go_back-requires-clause-ready
go_back-requires-clause-ready g c =
    c.requires.fit.ready (is_noted c.args.way.now c.args.card.now c.in-Some.ensures.open)

pub returns-in_err-host-clause-fit_again : goal.returns-in_err-host-clause-fit_again
returns-in_err-host-clause-fit_again g c =
    always_none c.from_residual.result (fit_ready (stories_of g.S.HasStory.story g.S.HasRegisterStory.story) c.args.way.now
    (done_of c.go_back.new.did) c.args.card.now c.requires.fit.wired c.in_err-host.ensures.ready_again)

pub returns-in_err-host-clause-leaves : goal.returns-in_err-host-clause-leaves
returns-in_err-host-clause-leaves g c = g.met.R.Request.unmoved c.args.request.now
