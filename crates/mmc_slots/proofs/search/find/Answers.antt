use Rattle.std.proofs.Common.{◌&&◌, ◌∙◌, ap, arith, sym}
use Rattle.std.specs.Prelude.{◌==◌}
use Rattle.std.proofs.lemmas.Bool.{and_parts, eqb-true}
use Rattle.mmc_queue.specs.Rule.{may_join}
use Rattle.mmc_slots.specs.Slots.{entries_in, entry_of, slot_at}
use Rattle.mmc_slots.specs.declared.slot.Slot.{Slot}
use Rattle.mmc_slots.proofs.SearchLemmas.{none_more}
use Rattle.mmc_slots.proofs.search.find.Goals as goal

pub loop-k-preserved : goal.loop-k-preserved
loop-k-preserved c = λ m.
    let below = c.loop-k-test.true in
    let ss = c.args.slots.now in
    let ws = entries_in m 1 ss in
    none_more m c.args.most c.args.extent.now ws ss c.loop-k.k (omega (arith, below))
    (ap (λ (v : Slot). (v.state == 1) && may_join c.args.most c.args.extent.now ws (entry_of m v)) (sym c.slot_at.ensures)
    ∙ sym (c.can_join.ensures m) ∙ c.if-can_join.false)
    (c.loop-k.invariant m)

pub returns-then-can_join : goal.returns-then-can_join
returns-then-can_join c = λ m.
    let below = c.loop-k-test.true in
    let ss = c.args.slots.now in
    let s : Slot = slot_at ss c.loop-k.k in
    let ws = entries_in m 1 ss in
    let both = and_parts (s.state == 1) (may_join c.args.most c.args.extent.now ws (entry_of m s))
    (ap (λ (v : Slot). (v.state == 1) && may_join c.args.most c.args.extent.now ws (entry_of m v)) (sym c.slot_at.ensures)
    ∙ sym (c.can_join.ensures m) ∙ c.if-can_join.true) in
    record {
      below = omega (arith, below);
      is = eqb-true s.state 1 both.0;
      may = both.1;
      none_before = c.loop-k.invariant m;
    }
