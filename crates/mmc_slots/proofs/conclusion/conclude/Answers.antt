use Rattle.std.proofs.Common.{◌∙◌, ◌≡◌, ◌≤◌, ap, arith, length, sym, true}
use Rattle.std.specs.Prelude.{nat_le, nat_lt}
use Rattle.mmc_slots.specs.Slots.{entries_in}
use Rattle.std.proofs.lemmas.Bool.{true≢false}
use Rattle.mmc_slots.proofs.ServedLemmas.{all_answered, all_ordered, all_same, all_split, others_stay}
use Rattle.mmc_slots.proofs.WorkLemmas.{answered_less, not_few, split_less}
use Rattle.mmc_slots.proofs.conclusion.conclude.Goals as goal
use Rattle.mmc_slots.proofs.conclusion.conclude.Goals.{else-is_answered, else-is_done, then-is_answered, then-is_done}

pub returns-clause-answered : goal.returns-clause-answered
returns-clause-answered c = λ is m.
    elim c.if-is_answered.branch [
      | then-is_answered w ↦ rw (c.put_all.ensures, w.put_all-is) (all_answered m c.args.slots.now)
      | else-is_answered w ↦ absurd (true≢false (sym is ∙ w.if-is_answered.false))
    ]

pub returns-clause-split : goal.returns-clause-split
returns-clause-split c = λ is m none.
    elim c.if-is_answered.branch [
      | then-is_answered w ↦ absurd (true≢false (sym w.if-is_answered.true ∙ is))
      | else-is_answered w ↦ rw (c.put_all.ensures, w.put_all-is) (all_split m c.args.slots.now none)
    ]

pub returns-clause-less : goal.returns-clause-less
returns-clause-less c = λ m some nobody.
    elim c.if-is_answered.branch [
      | then-is_answered w ↦ answered_less m c.args.slots.now c.put_all.new.slots some (returns-clause-answered c w.if-is_answered.true m)
      | else-is_answered w ↦
          let failed = w.if-is_answered.false in
          let several : nat_lt 1 (length (entries_in m 2 c.args.slots.now)) ≡ true = elim c.if-is_done.branch [
            | then-is_done v ↦ absurd (true≢false (sym v.if-is_done.true ∙ sym v.is_answered-is ∙ failed))
            | else-is_done v ↦
                let count = v.count_together.ensures m in
                not_few (length (entries_in m 2 c.args.slots.now)) (ap (λ n. nat_le n 1) (sym count) ∙ sym v.is_answered-is ∙ failed)
          ] in
          split_less m c.args.slots.now c.put_all.new.slots several (nobody failed) (returns-clause-split c failed m (nobody failed))
    ]

pub returns-clause-ordered : goal.returns-clause-ordered
returns-clause-ordered c = λ next up. rw c.put_all.ensures (all_ordered c.if-is_answered.put_all 0 next c.args.slots.now up)

pub returns-clause-unknown : goal.returns-clause-unknown
returns-clause-unknown c = λ m state past.
    let low : c.if-is_answered.put_all ≤ 3 = elim c.if-is_answered.branch [
      | then-is_answered w ↦ let is = w.put_all-is in omega (arith, is)
      | else-is_answered w ↦ let is = w.put_all-is in omega (arith, is)
    ] in
    rw c.put_all.ensures
    (others_stay m state c.if-is_answered.put_all c.args.slots.now (λ h. omega (arith, past, h)) (λ h. omega (arith, past, low, h)))

pub returns-clause-same : goal.returns-clause-same
returns-clause-same c = rw c.put_all.ensures (all_same c.if-is_answered.put_all c.args.slots.now)
