use Rattle.std.proofs.Common.{◌+◌, ◌∙◌, ◌≡◌, ap, arith, subst, sym}
use Rattle.std.specs.Prelude.{Err, None, Ok}
use Rattle.mmc_direct.specs.Attempts.{exchanges_of}
use Rattle.mmc_direct.specs.Refusal.{refusal_of}
use Rattle.mmc_requests.specs.declared.asked.Asked.{Asked}
use Rattle.mmc_switch.specs.Stands.{info_of}
use Rattle.mmc_switch.specs.declared.stands.Stands.TheVariants as Stands
use Rattle.mmc_direct.proofs.HealingLemmas.{failed_so, healed_done, healed_in_vain, heals_again, heals_first}
use Rattle.mmc_direct.proofs.RefusalLemmas.{still_served}
use Rattle.mmc_direct.proofs.TriesLemmas.{one_try, tries_all, tries_enough, tries_once_more}
use Rattle.mmc_direct.proofs.retries.keep_trying.Goals as goal

pub returns-in-Ok-clause-tries : goal.returns-in-Ok-clause-tries
returns-in-Ok-clause-tries g c =
    let each = exchanges_of (g.R.Request.asked c.args.request.now) in
    let change = g.R.Request.change (info_of c.args.stands) c.args.request.now in
    let a = g.B.Bus.view c.args.bus.now in
    let b = g.B.Bus.view c.attempt.new.bus in
    let e = c.in-Ok.ensures in
    let few = c.attempts-most.ensures in
    tries_enough 1 (g.R.Request.attempts c.args.request.now) each change c.args.stands c.in-Ok.session a b
    (omega (arith, few.some, few.attempts))
    (one_try each change c.args.stands a (Ok c.in-Ok.session) b e.info e.bounded e.kept e.cause e.tried)

pub returns-in-Ok-clause-healed : goal.returns-in-Ok-clause-healed
returns-in-Ok-clause-healed g c =
    let few = c.attempts-most.ensures in
    healed_done (g.R.Request.attempts c.args.request.now) c.args.stands c.args.healed.now 1 c.in-Ok.session c.count_done.new.healed
    (omega (arith, few.some, few.attempts))
    (heals_first c.args.stands c.args.healed.now c.attempt.new.healed (Stands.Ready c.in-Ok.session) c.count_done.new.healed
    c.in-Ok.ensures.healed c.count_done.ensures)

pub loop-failed-init : goal.loop-failed-init
loop-failed-init g c =
    let e = c.in-Err.ensures in
    record {
      tries =
          one_try (exchanges_of (g.R.Request.asked c.args.request.now))
          (g.R.Request.change (info_of c.args.stands) c.args.request.now) c.args.stands (g.B.Bus.view c.args.bus.now)
          (Err c.in-Err.broken) (g.B.Bus.view c.attempt.new.bus) e.info e.bounded e.kept e.cause e.tried;
      leaves = e.leaves;
      heals =
          heals_first c.args.stands c.args.healed.now c.attempt.new.healed (Stands.Broken c.in-Err.broken)
          c.count_failed.new.healed e.healed
          (failed_so c.in-Err.broken c.attempt.new.healed c.count_failed.new.healed c.cause.result c.cause.ensures
          c.count_failed.ensures);
    }

pub attempt-requires-in-loop-failed : goal.attempt-requires-in-loop-failed
attempt-requires-in-loop-failed g c =
    let so_far = c.loop-failed.invariant in
    let info = c.loop-failed.broken.session.info in
    let first = c.args.request.now in
    record {
      served =
          subst (λ (now : Asked). refusal_of info now ≡ None)
          (sym (g.met.R.Request.asks_the_same first c.loop-failed.request so_far.leaves))
          (still_served (g.R.Request.asked first) info (info_of c.args.stands) so_far.tries.info c.requires.served);
    }

pub returns-in-Ok-attempt-clause-tries : goal.returns-in-Ok-attempt-clause-tries
returns-in-Ok-attempt-clause-tries g c =
    let so_far = c.loop-failed.invariant in
    let info = info_of c.args.stands in
    let first = c.args.request.now in
    let now = c.loop-failed.request in
    let broken = c.loop-failed.broken in
    let each = exchanges_of (g.R.Request.asked first) in
    let change = g.R.Request.change info first in
    let a = g.B.Bus.view c.args.bus.now in
    let new = g.B.Bus.view c.attempt-in-loop-failed.new.bus in
    let few = c.loop-failed-test.true in
    let e = c.in-Ok-attempt.ensures in
    let most = c.attempts-most.ensures.attempts in
    tries_enough (c.loop-failed._failed + 1) (g.R.Request.attempts c.args.request.now) each change c.args.stands
    c.in-Ok-attempt.session a new (omega (arith, few, most))
    (tries_once_more c.loop-failed._failed each (exchanges_of (g.R.Request.asked now)) change
    (g.R.Request.change broken.session.info now) c.args.stands broken a (g.B.Bus.view c.loop-failed.bus)
    (Ok c.in-Ok-attempt.session) new (ap exchanges_of (g.met.R.Request.asks_the_same first now so_far.leaves))
    (g.met.R.Request.changes_by_lasting broken.session.info info now so_far.tries.info
    ∙ g.met.R.Request.changes_the_same info first now so_far.leaves)
    so_far.tries e.info e.bounded e.kept e.cause e.tried)

pub returns-in-Ok-attempt-clause-healed : goal.returns-in-Ok-attempt-clause-healed
returns-in-Ok-attempt-clause-healed g c =
    let few = c.loop-failed-test.true in
    let most = c.attempts-most.ensures.attempts in
    healed_done (g.R.Request.attempts c.args.request.now) c.args.stands c.args.healed.now (c.loop-failed._failed + 1)
    c.in-Ok-attempt.session c.count_done-in-Ok-attempt.new.healed (omega (arith, few, most))
    (heals_again c.args.stands c.args.healed.now c.loop-failed._failed c.loop-failed.broken c.loop-failed.healed
    c.attempt-in-loop-failed.new.healed (Stands.Ready c.in-Ok-attempt.session) c.count_done-in-Ok-attempt.new.healed
    c.loop-failed.invariant.heals c.in-Ok-attempt.ensures.healed c.count_done-in-Ok-attempt.ensures)

pub loop-failed-preserved : goal.loop-failed-preserved
loop-failed-preserved g c =
    let so_far = c.loop-failed.invariant in
    let info = info_of c.args.stands in
    let first = c.args.request.now in
    let now = c.loop-failed.request in
    let broken = c.loop-failed.broken in
    let left = c.in-Err-attempt.left in
    let e = c.in-Err-attempt.ensures in
    record {
      tries =
          tries_once_more c.loop-failed._failed (exchanges_of (g.R.Request.asked first)) (exchanges_of (g.R.Request.asked now))
          (g.R.Request.change info first) (g.R.Request.change broken.session.info now) c.args.stands broken
          (g.B.Bus.view c.args.bus.now) (g.B.Bus.view c.loop-failed.bus) (Err left)
          (g.B.Bus.view c.attempt-in-loop-failed.new.bus)
          (ap exchanges_of (g.met.R.Request.asks_the_same first now so_far.leaves))
          (g.met.R.Request.changes_by_lasting broken.session.info info now so_far.tries.info
          ∙ g.met.R.Request.changes_the_same info first now so_far.leaves)
          so_far.tries e.info e.bounded e.kept e.cause e.tried;
      leaves = g.met.R.Request.in_turn first now c.attempt-in-loop-failed.new.request so_far.leaves e.leaves;
      heals =
          heals_again c.args.stands c.args.healed.now c.loop-failed._failed broken c.loop-failed.healed
          c.attempt-in-loop-failed.new.healed (Stands.Broken left) c.count_failed-in-Err-attempt.new.healed so_far.heals
          e.healed
          (failed_so left c.attempt-in-loop-failed.new.healed c.count_failed-in-Err-attempt.new.healed
          c.cause-in-Err-attempt.result c.cause-in-Err-attempt.ensures c.count_failed-in-Err-attempt.ensures);
    }

pub returns-clause-tries : goal.returns-clause-tries
returns-clause-tries g c =
    let most = c.attempts-most.ensures in
    let least = c.loop-failed-test.false in
    let few = c.loop-failed.auto._failed-end (omega (arith, most.some)) in
    tries_all c.loop-failed._failed (g.R.Request.attempts c.args.request.now) (exchanges_of (g.R.Request.asked c.args.request.now))
    (g.R.Request.change (info_of c.args.stands) c.args.request.now) c.args.stands (Err c.loop-failed.broken)
    (g.B.Bus.view c.args.bus.now) (g.B.Bus.view c.loop-failed.bus) (omega (arith, least, most.attempts))
    (omega (arith, few, most.attempts)) c.loop-failed.invariant.tries

pub returns-clause-healed : goal.returns-clause-healed
returns-clause-healed g c =
    let most = c.attempts-most.ensures in
    let least = c.loop-failed-test.false in
    let few = c.loop-failed.auto._failed-end (omega (arith, most.some)) in
    healed_in_vain (g.R.Request.attempts c.args.request.now) c.args.stands c.args.healed.now c.loop-failed._failed
    c.loop-failed.broken c.loop-failed.healed (omega (arith, least, most.attempts)) (omega (arith, few, most.attempts))
    c.loop-failed.invariant.heals
