use Rattle.std.proofs.Common.{◌∙◌, ap, arith, refl}
use Rattle.mmc_bus.specs.Heard.{cause_of}
use Rattle.mmc_bus.proofs.PollLemmas.{calm_no, polled_no, polled_out, polling_none, polling_yes}
use Rattle.mmc_bus.proofs.wait.count_polls.Goals as goal

pub loop-polls-init : goal.loop-polls-init
loop-polls-init g c = (polling_none _, omega arith, λ h. absurd (omega (arith, h)), refl)

pub loop-polls-preserved : goal.loop-polls-preserved
loop-polls-preserved g c =
    let e = c.if-not-poll.ensures.polled in (
      λ kept. let k = e.kept kept in polling_yes _ _ _ _ (c.loop-polls.invariant.0 k.was_kept) e.lines k,
      omega (arith, c.loop-polls.invariant.1, e.exchanges),
      λ h. ap cause_of e.last,
      e.lines ∙ c.loop-polls.invariant.3,
    )

pub returns-then-not-poll-clause-works : goal.returns-then-not-poll-clause-works
returns-then-not-poll-clause-works g c kept =
    let e = c.if-not-poll.ensures.polled in
    let k = e.kept kept in
    polled_no _ c.loop-polls.polls _ _ (c.loop-polls.invariant.0 k.was_kept) e.lines refl k

pub returns-then-not-poll-clause-calm : goal.returns-then-not-poll-clause-calm
returns-then-not-poll-clause-calm g c kept ok =
    let k = c.if-not-poll.ensures.polled.kept kept in
    calm_no _ c.loop-polls.polls _ _ (c.loop-polls.invariant.0 k.was_kept) k

pub returns-clause-works : goal.returns-clause-works
returns-clause-works g c kept =
    polled_out _ c.loop-polls.polls _ (c.loop-polls.invariant.0 kept) (omega (arith, c.loop-polls-test.false))
    (λ done. cc)
