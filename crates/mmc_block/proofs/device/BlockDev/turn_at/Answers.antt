-- A turn is a start, a settle, a select or an exchange, and a decision.
use Rattle.std.proofs.Common.{◌++◌, ◌∙◌, arith, refl, rules, subst, sym}
use Rattle.mmc_switch.specs.declared.info.Info.{Info}
use Rattle.mmc_block.specs.Device.{DeviceOk, work_of}
use Rattle.mmc_block.specs.Entries.{AreServable, waits_of}
use Rattle.mmc_block.specs.Groups.{IsChangeOf}
use Rattle.mmc_block.specs.Healing.{StepHeals}
use Rattle.mmc_block.specs.Service.{AttemptOk, HasStarted, change_of_group, in_service_of, info_of_stage, outcome_of, service_of}
use Rattle.mmc_block.specs.Step.{Stepped}
use Rattle.mmc_switch.specs.declared.progress.Progress.{Progress}
use Rattle.mmc_block.specs.declared.service.Attempt.{Attempt}
use Rattle.mmc_block.specs.Service.Service.{Idle, Serving}
use Rattle.mmc_block.specs.declared.service.Stage.{Stage}
use Rattle.mmc_block.proofs.AnyLemmas.{Leaves, answers_none, answers_of, cause_served, concluded_leaves}
use Rattle.mmc_block.proofs.AnyLemmas.{counted_answers}
use Rattle.mmc_block.proofs.AnyLemmas.{left_length, no_work, none_waits, started_most}
use Rattle.mmc_block.proofs.ComesLemmas.{turn_idle, turn_serves}
use Rattle.mmc_block.proofs.EntryLemmas.{lent_are_all, lent_tries, lent_waits, servable_parts}
use Rattle.mmc_block.proofs.HealingLemmas.{idle_heals, turn_heals}
use Rattle.mmc_block.proofs.ServiceLemmas.{concluded_ok, lent_ok, lent_served, started_ok}
use Rattle.mmc_block.proofs.WorkLemmas.{turn_work}
use Rattle.mmc_block.proofs.device.BlockDev.turn_at.Given.{Over}
use Rattle.mmc_block.proofs.device.BlockDev.turn_at.Goals as goal
use Rattle.mmc_block.proofs.device.BlockDev.turn_at.Goals.{After-conclude}

-- what is in service once a group may have been started
begun : (g : Over) (c : After-conclude g)
    → HasStarted c.self.inside.queue (service_of c.self.inside.phase c.self.inside.attempt) c.start.new.queue
    (Serving c.in-Serving.field-0 c.start.new.attempt)
begun g c = rw c.in-Serving.is at c.start.ensures.started

-- the fields then
begun_ok : (g : Over) (c : After-conclude g)
    → DeviceOk c.self.inside.info c.start.new.queue (Serving c.in-Serving.field-0 c.start.new.attempt) c.self.inside.next
begun_ok g c =
    started_ok c.self.inside.info c.self.inside.queue c.start.new.queue (service_of c.self.inside.phase c.self.inside.attempt)
    (Serving c.in-Serving.field-0 c.start.new.attempt) c.self.inside.next c.self.invariant.ok (begun g c)

-- what the step has left
abbrev outcome : (g : Over) → After-conclude g → Progress Stage
outcome g c = outcome_of c.in-Serving.field-0 c.step.new.phase

stepped : (g : Over) (c : After-conclude g)
    → Stepped c.args.pace c.in-Serving.field-0 c.start.new.attempt.group (g.B.Bus.view c.self.inside.bus) (outcome g c) c.step.new.group
    (g.B.Bus.view c.step.new.bus)
stepped g c = rw c.in-Serving.is at c.step.ensures.stepped

-- the attempt after the step
abbrev after : (g : Over) → After-conclude g → Attempt
after g c = record c.start.new.attempt { group = c.step.new.group }

after_ok : (g : Over) (c : After-conclude g) → AttemptOk c.self.inside.info (after g c)
after_ok g c =
    let serves = (begun_ok g c).serves in
    lent_ok c.self.inside.info c.start.new.attempt c.step.new.group serves.2 (stepped g c).advances.lent
    (stepped g c).advances.joined
    (subst (λ (i : Info). AreServable i c.step.new.group.members.items) serves.0
    (stepped g c).servable)

leaves : (g : Over) (c : After-conclude g)
    → Leaves (in_service_of (Serving c.in-Serving.field-0 c.start.new.attempt)) c.conclude.new.answers.items
    (in_service_of (service_of c.conclude.new.phase c.conclude.new.attempt)) (waits_of c.start.new.queue)
leaves g c =
    let olds = c.start.new.attempt.group.members.items in
    let news = c.step.new.group.members.items in
    let serves = (begun_ok g c).serves in
    let served = lent_served c.start.new.attempt c.step.new.group (waits_of c.start.new.queue)
    c.self.inside.next (stepped g c).advances.lent serves.3 in
    subst (λ ws. Leaves (ws ++ waits_of c.start.new.attempt.others.items) c.conclude.new.answers.items
    (in_service_of (service_of c.conclude.new.phase c.conclude.new.attempt)) (waits_of c.start.new.queue))
    (lent_waits olds news (stepped g c).advances.lent)
    (concluded_leaves c.self.inside.info (outcome g c) (after g c) (service_of c.conclude.new.phase c.conclude.new.attempt)
    c.conclude.new.answers.items (waits_of c.start.new.queue) (after_ok g c) served.passes_none
    (c.conclude.ensures.concludes c.in-Serving.field-0))

heals : (g : Over) (c : After-conclude g)
    → StepHeals c.in-Serving.field-0 (g.B.Bus.view c.self.inside.bus) c.self.inside.healed (outcome g c)
    (g.B.Bus.view c.step.new.bus) c.step.new.healed
heals g c = rw c.in-Serving.is at c.step.ensures.healed

pub step-requires-clause-serving : goal.step-requires-clause-serving
step-requires-clause-serving g c =
    let s : HasStarted c.self.inside.queue (service_of c.self.inside.phase c.self.inside.attempt) c.start.new.queue
    (Serving c.in-Serving.field-0 c.start.new.attempt) = rw c.in-Serving.is at c.start.ensures.started in
    let ok = started_ok c.self.inside.info c.self.inside.queue c.start.new.queue (service_of c.self.inside.phase c.self.inside.attempt)
    (Serving c.in-Serving.field-0 c.start.new.attempt) c.self.inside.next c.self.invariant.ok s in
    let attempt_ok = ok.serves.2 in
    rw c.in-Serving.is (
      subst (λ (i : Info). AreServable i c.start.new.attempt.group.members.items) (sym ok.serves.0)
          (servable_parts c.self.inside.info c.start.new.attempt.group.members.items c.start.new.attempt.others.items
          attempt_ok.servable).0,
      ok.serves.1,
    )

pub conclude-requires-clause-tried : goal.conclude-requires-clause-tried
conclude-requires-clause-tried g c =
    let s : HasStarted c.self.inside.queue (service_of c.self.inside.phase c.self.inside.attempt) c.start.new.queue
    (Serving c.in-Serving.field-0 c.start.new.attempt) = rw c.in-Serving.is at c.start.ensures.started in
    let ok = started_ok c.self.inside.info c.self.inside.queue c.start.new.queue (service_of c.self.inside.phase c.self.inside.attempt)
    (Serving c.in-Serving.field-0 c.start.new.attempt) c.self.inside.next c.self.invariant.ok s in
    let step : Stepped c.args.pace c.in-Serving.field-0 c.start.new.attempt.group (g.B.Bus.view c.self.inside.bus)
    (outcome_of c.in-Serving.field-0 c.step.new.phase) c.step.new.group (g.B.Bus.view c.step.new.bus) =
    rw c.in-Serving.is at c.step.ensures.stepped in
    let fits = ok.serves.2.fits in
    let same = lent_tries c.start.new.attempt.group.members.items c.step.new.group.members.items step.advances.lent in
    record {
      some = step.advances.joined.some;
      sound = step.advances.joined.sound;
      others = ok.serves.2.sound;
      all = lent_are_all c.start.new.attempt.group.members.items c.step.new.group.members.items
          c.start.new.attempt.others.items step.advances.lent ok.serves.2.all;
      fits = omega (arith, fits, same);
      no_answer = c.requires;
    }

pub invariant_of-self-in-Serving : goal.invariant_of-self-in-Serving
invariant_of-self-in-Serving g c =
    let ok = begun_ok g c in
    let few = ok.few in
    let n = left_length _ _ _ _ (leaves g c) in
    record {
      ok = record {
        servable = ok.servable;
        in_order = ok.in_order;
        few = omega (arith, few, n);
        serves = concluded_ok c.self.inside.info (outcome g c) (after g c) (service_of c.conclude.new.phase c.conclude.new.attempt)
            c.conclude.new.answers.items (waits_of c.start.new.queue) c.self.inside.next
            ((stepped g c).advances.info_is ∙ ok.serves.0) (stepped g c).advances.of (after_ok g c)
            (lent_served c.start.new.attempt c.step.new.group (waits_of c.start.new.queue) c.self.inside.next
            (stepped g c).advances.lent ok.serves.3)
            (c.conclude.ensures.concludes c.in-Serving.field-0);
      };
      empty = c.conclude.ensures.empty;
    }

pub returns-in-Idle : goal.returns-in-Idle
unfolding work_of
returns-in-Idle g c =
    let s : HasStarted c.self.inside.queue (service_of c.self.inside.phase c.self.inside.attempt) c.start.new.queue (Idle c.in-Idle.field-0) =
    rw c.in-Idle.is at c.start.ensures.started in
    let none = no_work c.self.inside.queue c.start.new.queue (service_of c.self.inside.phase c.self.inside.attempt) c.in-Idle.field-0 s in
    rw (← c.self.view_is, c.in-Idle.is) record {
      machine = λ kept. turn_idle g.B.Bus.view c.self.inside.bus c.self.inside.info (service_of c.self.inside.phase c.self.inside.attempt) c.in-Idle.field-0
          c.self.inside.queue c.start.new.queue c.self.inside.next c.self.inside.healed c.args.answers.now.items c.self.invariant.ok s c.requires;
      kept = λ kept. kept;
      answers = answers_none c.self.inside.queue c.start.new.queue (service_of c.self.inside.phase c.self.inside.attempt) c.in-Idle.field-0 c.args.answers.now.items s c.requires;
      leaves = search rules;
      lowers = λ some. absurd (let before = none.0 in omega (arith, before, some));
      same = (refl, refl);
      idle = search rules;
      paid = (let left = none.1 in omega (arith, left));
      by_stage = omega arith;
      cause = search rules;
      healed = idle_heals g.B.Bus.view _ _ c.self.inside.queue c.start.new.queue c.in-Idle.field-0 c.args.answers.now.items s refl;
    }

pub returns-in-Serving : goal.returns-in-Serving
unfolding work_of
returns-in-Serving g c =
    let serves = (begun_ok g c).serves in
    let attempt_ok = serves.2 in
    let attempt = c.start.new.attempt in
    let change = change_of_group (info_of_stage c.in-Serving.field-0) attempt.group in
    let is_change : IsChangeOf c.self.inside.info (waits_of attempt.group.members.items) change =
    subst (λ (i : Info). IsChangeOf c.self.inside.info (waits_of attempt.group.members.items)
    (change_of_group i attempt.group)) (sym serves.0)
    (c.a_group_changes_what_its_members_do.ensures c.self.inside.info attempt.group attempt_ok.joined) in
    let given = answers_of c.self.inside.queue c.start.new.queue (service_of c.self.inside.phase c.self.inside.attempt) (Serving c.in-Serving.field-0 attempt) (service_of c.conclude.new.phase c.conclude.new.attempt)
    c.conclude.new.answers.items c.self.inside.next (begun g c) (leaves g c) serves.3.in_order in
    let made = (stepped g c).advances.bounded in
    let less = turn_work c.self.inside.queue c.start.new.queue (service_of c.self.inside.phase c.self.inside.attempt) (service_of c.conclude.new.phase c.conclude.new.attempt) c.in-Serving.field-0 attempt (after g c)
    (outcome g c) c.conclude.new.answers.items (begun g c) (stepped g c).advances.lent (stepped g c).advances.extent refl refl
    (c.conclude.ensures.concludes c.in-Serving.field-0) in
    let started = started_most c.args.pace c.self.inside.queue c.start.new.queue (service_of c.self.inside.phase c.self.inside.attempt) c.in-Serving.field-0 attempt (begun g c) in
    rw (← c.self.view_is) record {
      machine = λ kept. turn_serves g.B.Bus.view c.self.inside.bus c.step.new.bus c.self.inside.info (service_of c.self.inside.phase c.self.inside.attempt) (service_of c.conclude.new.phase c.conclude.new.attempt)
          c.self.inside.queue c.start.new.queue c.self.inside.next c.self.inside.healed c.count_attempt.new.healed c.in-Serving.field-0 attempt (after g c) change
          (outcome g c) c.conclude.new.answers.items c.self.invariant.ok (begun g c) (after_ok g c)
          serves.3
          (lent_waits attempt.group.members.items c.step.new.group.members.items
          (stepped g c).advances.lent)
          refl refl is_change c.a_card_at_rest_is_decided.ensures ((stepped g c).did kept)
          (c.conclude.ensures.concludes c.in-Serving.field-0);
      kept = (stepped g c).advances.kept;
      answers = given;
      leaves = counted_answers (waits_of c.self.inside.queue) (in_service_of (service_of c.self.inside.phase c.self.inside.attempt))
          c.conclude.new.answers.items (waits_of c.start.new.queue) (in_service_of (service_of c.conclude.new.phase c.conclude.new.attempt)) given;
      lowers = λ some. (let lowers = (stepped g c).advances.lowers in omega (arith, less, lowers));
      same = (refl, refl);
      idle = λ none. absurd (none_waits c.self.inside.queue c.start.new.queue (service_of c.self.inside.phase c.self.inside.attempt) c.in-Serving.field-0 attempt
          (begun g c) attempt_ok.joined.some none);
      paid = (let paid = (stepped g c).advances.paid in omega (arith, less, paid));
      by_stage = omega (arith, made, started);
      cause = cause_served c.self.inside.queue c.start.new.queue (service_of c.self.inside.phase c.self.inside.attempt) (service_of c.conclude.new.phase c.conclude.new.attempt) c.in-Serving.field-0 attempt (after g c)
          (outcome g c) c.conclude.new.answers.items (g.B.Bus.view c.step.new.bus)
          (begun g c) (c.conclude.ensures.concludes c.in-Serving.field-0) (stepped g c).advances.cause;
      healed = λ some. turn_heals g.B.Bus.view _ _ c.self.inside.queue c.start.new.queue c.in-Serving.field-0 attempt (after g c)
          (outcome g c) c.conclude.new.answers.items c.step.new.healed (begun g c) (after_ok g c).joined.some
          (stepped g c).advances.goes_on (c.conclude.ensures.concludes c.in-Serving.field-0) (heals g c)
          (c.count_attempt.ensures c.in-Serving.field-0);
    }
