use Rattle.std.proofs.Common.{◌∙◌, ◌≡◌, ap, subst, sym}
use Rattle.mmc_queue.specs.Waiting.{Ascend}
use Rattle.mmc_queue.proofs.OrderLemmas.{ascend_from}
use Rattle.std.specs.BTreeMap.{is_at}
use Rattle.std.specs.Map.{remove_entry}
use Rattle.std.specs.Ordering.{nat_cmp}
use Rattle.mmc_queue.proofs.MapLemmas.{first_removed}
use Rattle.mmc_queue.proofs.MirrorLemmas.{taken}
use Rattle.mmc_queue.proofs.queue.Queue.take_oldest.Goals as goal

pub invariant_of-self-2 : goal.invariant_of-self-2
invariant_of-self-2 c =
    let m = c.self.inside.by_ticket in
    let t = c.in-Some.field-0-0 in
    let left = c.pop_first.new.self.entries in
    let first : left ≡ remove_entry (is_at (nat_cmp t)) m.entries =
    first_removed (t, c.in-Some.entry) left ∙ ap (remove_entry (is_at (nat_cmp t))) (sym c.in-Some.ensures.removal) in
    taken m c.pop_first.new.self c.self.inside.places.items c.remove.new.self.items c.in-Some.entry t c.self.invariant
    c.in-Some.ensures.value first c.in-Some.ensures.updates c.pop_first.ensures.ordered c.remove.ensures

pub returns-then-is_empty-clause-ascend : goal.returns-then-is_empty-clause-ascend
returns-then-is_empty-clause-ascend c =
    subst (Ascend 0) c.self.view_is (ascend_from c.self.inside.by_ticket.entries c.self.invariant.keyed c.self.invariant.ordered)

pub returns-clause-ascend : goal.returns-clause-ascend
returns-clause-ascend c =
    subst (Ascend 0) c.self.view_is (ascend_from c.self.inside.by_ticket.entries c.self.invariant.keyed c.self.invariant.ordered)
