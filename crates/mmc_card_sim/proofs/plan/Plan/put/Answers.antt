use Rattle.std.proofs.Common.{◌++◌, ◌∙◌, ap, drop, length, subst, take}
use Rattle.std.specs.Prelude.{◌≡◌, slice_set}
use Rattle.std.proofs.lemmas.List.{length-set}
use Rattle.std.proofs.Math.Seq.{take-append_seam}
use Rattle.mmc_card_sim.specs.Plan.{fault_at}
use Rattle.mmc_card_sim.specs.declared.plan.Planned.{Planned}
use Rattle.mmc_card_sim.proofs.PlanLemmas.{added, replaced}
use Rattle.mmc_card_sim.proofs.plan.Plan.put.Goals as goal

pub returns-in-Some-clause-planned : goal.returns-in-Some-clause-planned
returns-in-Some-clause-planned c e =
    let p : Planned = record { exchange = c.args.exchange; fault = c.args.fault } in
    let old = c.self.inside.planned.items in
    let new = slice_set old c.in-Some.i p in
    let there = rw (← c.self.view_is) at c.in-Some.ensures.there in
    let same = rw (← c.self.view_is) at c.in-Some.ensures.same in
    let back = subst (λ n. take n (new ++ drop (length new) old) ≡ new) (length-set old c.in-Some.i p)
    (take-append_seam new _) in
    rw (← c.self.view_is, c.deref_mut.ensures.value)
    (ap (λ xs. fault_at xs e) back ∙ replaced old c.in-Some.i p p e there.0 there.1 (same p))

pub returns-in-None-clause-planned : goal.returns-in-None-clause-planned
returns-in-None-clause-planned c e =
    let p : Planned = record { exchange = c.args.exchange; fault = c.args.fault } in
    rw (← c.self.view_is)
    (ap (λ xs. fault_at xs e) c.push.ensures.items
    ∙ added c.self.inside.planned.items p e (rw (← c.self.view_is) at c.in-None.ensures.none))
