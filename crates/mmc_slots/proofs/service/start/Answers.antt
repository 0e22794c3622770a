use Rattle.std.proofs.Common.{◌∙◌, ◌≡◌, ◌∷◌, [], ap, arith, refl, sym}
use Rattle.std.proofs.lemmas.Bool.{true≢false}
use Rattle.mmc_queue.specs.declared.extent.Extent.{Extent}
use Rattle.mmc_slots.specs.Slots.{entries_in}
use Rattle.mmc_slots.proofs.GroupLemmas.{alone_starts, ascend_in, group_begins, none_in, not_none}
use Rattle.mmc_slots.proofs.SlotLemmas.{ordered_still, others_stay, same_marked}
use Rattle.mmc_slots.proofs.WorkLemmas.{group_less, some_alone}
use Rattle.mmc_slots.proofs.service.start.Goals as goal

-- Where one is to be served alone.

pub returns-in-Some-clause-idle : goal.returns-in-Some-clause-idle
returns-in-Some-clause-idle c = λ m.
    ((λ h. absurd (true≢false h)), λ idle. absurd (not_none m 3 c.args.slots.now c.in-Some.k c.in-Some.ensures idle.alone))

pub returns-in-Some-clause-rule : goal.returns-in-Some-clause-rule
returns-in-Some-clause-rule c = λ m next ready. absurd (not_none m 3 c.args.slots.now c.in-Some.k c.in-Some.ensures ready.alone)

pub returns-in-Some-clause-fair : goal.returns-in-Some-clause-fair
returns-in-Some-clause-fair c = λ m next ready sound few.
    absurd (not_none m 3 c.args.slots.now c.in-Some.k c.in-Some.ensures ready.alone)

pub returns-in-Some-clause-alone : goal.returns-in-Some-clause-alone
returns-in-Some-clause-alone c = λ m e es none are.
    rw (c.serve.ensures.slots, c.serve.ensures.extent m)
    (alone_starts m e es c.args.slots.now c.in-Some.k c.in-Some.ensures none are)

pub returns-in-Some-clause-less : goal.returns-in-Some-clause-less
returns-in-Some-clause-less c = λ m next up none.
    some_alone m (entries_in m 3 c.args.slots.now) c.args.slots.now c.serve.new.slots c.serve.result
    (λ nobody. not_none m 3 c.args.slots.now c.in-Some.k c.in-Some.ensures nobody) refl none
    (λ e es are. returns-in-Some-clause-alone c m e es none are)

pub returns-in-Some-clause-unknown : goal.returns-in-Some-clause-unknown
returns-in-Some-clause-unknown c = λ m state past.
    let first = c.in-Some.ensures in
    let is = first.is in
    rw c.serve.ensures.slots
    (others_stay m state 2 c.args.slots.now c.in-Some.k first.below (λ h. omega (arith, is, past, h)) (λ h. omega (arith, past, h)))

pub returns-in-Some-clause-same : goal.returns-in-Some-clause-same
returns-in-Some-clause-same c = rw c.serve.ensures.slots (same_marked 2 c.args.slots.now c.in-Some.k)

pub returns-in-Some-clause-ordered : goal.returns-in-Some-clause-ordered
returns-in-Some-clause-ordered c = λ next up.
    let first = c.in-Some.ensures in
    let is = first.is in
    rw c.serve.ensures.slots
    (ordered_still next 2 c.args.slots.now c.in-Some.k first.below (λ h. omega (arith, is, h)) (λ h. omega (arith, h)) up)

-- Where nothing is to be served.

pub returns-in_default-first_in-clause-idle : goal.returns-in_default-first_in-clause-idle
returns-in_default-first_in-clause-idle c = λ m. (
  (λ h. record {
    waits = none_in m 1 c.args.slots.now c.in_default-first_in.ensures;
    alone = none_in m 3 c.args.slots.now c.in_default.ensures;
  }),
  λ idle. refl,
)

-- Where a group begins.

pub grow-requires-clause-some : goal.grow-requires-clause-some
grow-requires-clause-some c =
    let one = ap (λ (x : Extent). x.members) (c.serve-extent.ensures.extent (λ t. [])) in omega (arith, one)

pub grow-requires-clause-few : goal.grow-requires-clause-few
grow-requires-clause-few c =
    let one = ap (λ (x : Extent). x.members) (c.serve-extent.ensures.extent (λ t. [])) in omega (arith, one)

pub returns-clause-idle : goal.returns-clause-idle
returns-clause-idle c = λ m. (
  (λ h. absurd (true≢false h)),
  λ idle. absurd (not_none m 1 c.args.slots.now c.in-Some-first_in.k c.in-Some-first_in.ensures idle.waits),
)

pub returns-clause-ordered : goal.returns-clause-ordered
returns-clause-ordered c = λ next up.
    let first = c.in-Some-first_in.ensures in
    let is = first.is in
    c.grow.ensures.ordered next
    (rw c.serve-extent.ensures.slots
    (ordered_still next 2 c.args.slots.now c.in-Some-first_in.k first.below (λ h. omega (arith, is, h)) (λ h. omega (arith, h)) up))

pub returns-clause-unknown : goal.returns-clause-unknown
returns-clause-unknown c = λ m state past.
    let first = c.in-Some-first_in.ensures in
    let is = first.is in
    let ss = c.args.slots.now in
    c.grow.ensures.others m state (λ h. omega (arith, past, h)) (λ h. omega (arith, past, h))
    ∙ ap (entries_in m state) c.serve-extent.ensures.slots
    ∙ others_stay m state 2 ss c.in-Some-first_in.k first.below (λ h. omega (arith, is, past, h)) (λ h. omega (arith, past, h))

pub returns-clause-same : goal.returns-clause-same
returns-clause-same c = c.grow.ensures.same ∙ rw c.serve-extent.ensures.slots (same_marked 2 c.args.slots.now c.in-Some-first_in.k)

pub returns-clause-rule : goal.returns-clause-rule
returns-clause-rule c = λ m next ready.
    let first = c.in-Some-first_in.ensures in
    let is = first.is in
    let ss = c.args.slots.now in
    let k = c.in-Some-first_in.k in
    record {
      group = c.grow.ensures.group m next (entries_in m 1 ss)
          (rw c.serve-extent.ensures.slots
          (ordered_still next 2 ss k first.below (λ h. omega (arith, is, h)) (λ h. omega (arith, h)) ready.ordered))
          (rw (c.serve-extent.ensures.slots, c.serve-extent.ensures.extent m) (group_begins m c.args.most ss k first ready.together));
      alone = c.grow.ensures.others m 3 (λ h. omega (arith, h)) (λ h. omega (arith, h))
          ∙ ap (entries_in m 3) c.serve-extent.ensures.slots
          ∙ others_stay m 3 2 ss k first.below (λ h. omega (arith, is, h)) (λ h. omega (arith, h)) ∙ ready.alone;
    }

pub returns-clause-fair : goal.returns-clause-fair
returns-clause-fair c = λ m next ready sound few.
    c.a_group_is_fair.ensures c.args.most (entries_in m 1 c.args.slots.now) (entries_in m 2 c.grow.new.slots) c.grow.result
    (entries_in m 1 c.grow.new.slots) few (ascend_in m 1 0 next c.args.slots.now (λ h. omega (arith, h)) ready.ordered) sound
    (returns-clause-rule c m next ready).group

pub returns-clause-less : goal.returns-clause-less
returns-clause-less c = λ m next up none.
    let nobody = none_in m 3 c.args.slots.now c.in_default.ensures in
    group_less m c.args.most c.args.slots.now c.grow.new.slots c.grow.result none nobody
    (returns-clause-rule c m next (record { together = none; alone = nobody; ordered = up }))

pub returns-clause-alone : goal.returns-clause-alone
returns-clause-alone c = λ m e es none are.
    let nobody = none_in m 3 c.args.slots.now c.in_default.ensures in
    let same : e ∷ es ≡ [] = sym are ∙ nobody in cc
