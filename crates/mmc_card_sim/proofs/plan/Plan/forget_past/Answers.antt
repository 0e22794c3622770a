use Rattle.std.proofs.Common.{rules, ◌∙◌, ap, length}
use Rattle.std.specs.Prelude.{nat_le}
use Rattle.arrayvec.proofs.ArrayVecLemmas.{filter-from_retain}
use Rattle.mmc_card_sim.specs.declared.plan.Planned.{Planned}
use Rattle.mmc_card_sim.specs.Plan.{fault_at}
use Rattle.mmc_card_sim.proofs.PlanLemmas.{later_counted, later_same}
use Rattle.mmc_card_sim.proofs.plan.Plan.forget_past.Goals as goal

pub returns : goal.returns
returns c =
    let old = c.self.inside.planned.items in
    let kept = filter-from_retain _ (λ (p : Planned). nat_le c.args.made p.exchange) _ (λ x b f' y k. search rules) old _
    c.retain.ensures.filtered in
    rw (← c.self.view_is) (record {
      kept = kept;
      same = λ e later. ap (λ xs. fault_at xs e) kept ∙ later_same c.args.made old e later;
      room = ap length kept ∙ later_counted c.args.made old;
    })
