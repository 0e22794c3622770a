use Rattle.std.proofs.Common.{◌∙◌, ap}
use Rattle.std.specs.Map.{values_of}
use Rattle.mmc_queue.specs.Rule.{passes_none}
use Rattle.mmc_queue.proofs.SearchLemmas.{passes_below}
use Rattle.mmc_queue.proofs.queue.Queue.passes_none.Goals as goal

pub loop-other-init : goal.loop-other-init
loop-other-init c =
    let e = c.args.entry.now in
    let is = c.into_iter-other-iterator.ensures.into_iter_gives ∙ c.range-other-items.ensures.between tt in
    ap (λ es. passes_none e (values_of es)) is ∙ passes_below e c.self.inside.by_ticket.entries c.self.invariant.keyed
    ∙ ap (passes_none e) c.self.view_is
