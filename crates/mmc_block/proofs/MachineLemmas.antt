-- What steps of the sector machine do to its sets.
use Rattle.std.proofs.Common.{◌∙◌, ◌∷◌, ◌≡◌, ◌⊎◌, Bool, List, [], ap, cond, false, inl, inr, refl, subst, sym, true, ℕ}
use Rattle.mmc_card.specs.declared.part.Part.{Part}
use Rattle.mmc_card.specs.Sectors.{IsDecided, Sector, Sets, touches, value_of}
use Rattle.mmc_block.specs.declared.completion.Answer.{Answer}
use Rattle.mmc_block.specs.declared.completion.Answer.TheVariants.{Data, Done, Failed}
use Rattle.mmc_block.specs.declared.completion.Completion.{Completion}
use Rattle.mmc_switch.specs.declared.info.Info.{Info}
use Rattle.mmc_queue.specs.declared.request.Request.{Request}
use Rattle.mmc_block.specs.Answers.{is_failed}
use Rattle.mmc_block.specs.Machine.{Completes, CompletesAll, Decides, IsAnswered, Machine, StartsIfIdle, Turns, Waiting}
use Rattle.mmc_block.specs.MachineLaws.{KeepsValues}
use Rattle.mmc_block.specs.Changes.{change_of}

-- Values of one sector.

one_value : (b : Bool) (x : Sector) (xs : List Sector) → (xs ≡ [] → ⊥) → cond b (x ∷ []) xs ≡ [] → ⊥
one_value true x xs some none = cc
one_value false x xs some none = some none

one_more : (b : Bool) (x : Sector) (xs : List Sector) → (xs ≡ [] → ⊥) → cond b (x ∷ xs) xs ≡ [] → ⊥
one_more true x xs some none = cc
one_more false x xs some none = some none

one_is_decided : (x : Sector) → IsDecided (x ∷ [])
one_is_decided x v w (inl p) (inl q) = p ∙ sym q
one_is_decided x v w (inl p) (inr n) = absurd n
one_is_decided x v w (inr n) q = absurd n

decided_as : (xs ys : List Sector) → xs ≡ ys → IsDecided ys → IsDecided xs
decided_as xs ys e d = subst IsDecided (sym e) d

new_is_decided : (b : Bool) (x : Sector) (xs : List Sector) → IsDecided xs → IsDecided (cond b (x ∷ []) xs)
new_is_decided true x xs d = one_is_decided x
new_is_decided false x xs d = d

still_decided : (b : Bool) (x : Sector) (xs : List Sector) → IsDecided xs → IsDecided (cond b (x ∷ xs) xs) ⊎ (b ≡ true)
still_decided true x xs d = inr refl
still_decided false x xs d = inl d

-- Values stay.

answer_keeps : (info : Info) (request : Request) (others : List Waiting) (old : Sets) (answer : Answer) (new : Sets)
    → IsAnswered info request others old answer new → KeepsValues old new
answer_keeps info request others old Done new a part sector some none =
    one_value (touches (change_of info request) part sector) (value_of (change_of info request) sector)
    (old part sector) some
    (sym (a.1 part sector) ∙ none)
answer_keeps info request others old (Data bytes) new a part sector some none = some (sym (a.1 part sector) ∙ none)
answer_keeps info request others old (Failed cause) new a part sector some none =
    one_more (touches (change_of info request) part sector) (value_of (change_of info request) sector)
    (old part sector) some
    (sym (a part sector) ∙ none)

decision_keeps : (old new : Sets) → Decides old new → KeepsValues old new
decision_keeps old new d part sector some none =
    elim (d part sector) [
      | inl same ↦ some (sym same ∙ none)
      | inr one ↦ absurd cc
    ]

pub completion_keeps : (info : Info) (old : Machine) (completion : Completion) (new : Machine)
    → Completes info old completion new → KeepsValues old.sets new.sets
completion_keeps info old completion new c part sector some =
    answer_keeps info c.w.request _ c.decided completion.answer new.sets c.answered part sector
    (decision_keeps old.sets c.decided c.decides part sector some)

completions_keep : (info : Info) (old : Machine) (completions : List Completion) (new : Machine)
    → CompletesAll info old completions new
    → KeepsValues old.sets new.sets
completions_keep info old [] new same part sector some none =
    some (ap (λ (m : Machine). m.sets part sector) (sym same) ∙ none)
completions_keep info old (c ∷ cs) new steps part sector some none =
    completions_keep info steps.0 cs new steps.2 part sector
    (completion_keeps info old c steps.0 steps.1 part sector some) none

pub start_keeps : (old started : Machine) → StartsIfIdle old started → started.sets ≡ old.sets
start_keeps old started (inl s) = s.sets
start_keeps old started (inr same) = ap (λ (m : Machine). m.sets) same.0

pub turn_keeps : (info : Info) (old : Machine) (completions : List Completion) (new : Machine)
    → Turns info old completions new
    → KeepsValues old.sets new.sets
turn_keeps info old completions new t part sector some =
    completions_keep info t.started completions new t.answers.completes part sector
    (λ none. some (ap (λ (sets : Sets). sets part sector) (sym (start_keeps old t.started t.start)) ∙ none))

-- What is decided stays decided.

answer_stays : (info : Info) (request : Request) (others : List Waiting) (old : Sets) (answer : Answer) (new : Sets)
    → IsAnswered info request others old answer new → (part : Part) (sector : ℕ) → IsDecided (old part sector)
    → IsDecided (new part sector) ⊎ ((is_failed answer ≡ true) × (touches (change_of info request) part sector ≡ true))
answer_stays info request others old Done new a part sector d =
    inl (decided_as _ _ (a.1 part sector)
    (new_is_decided (touches (change_of info request) part sector) (value_of (change_of info request) sector)
    (old part sector) d))
answer_stays info request others old (Data bytes) new a part sector d = inl (decided_as _ _ (a.1 part sector) d)
answer_stays info request others old (Failed cause) new a part sector d =
    elim (still_decided (touches (change_of info request) part sector) (value_of (change_of info request) sector)
    (old part sector) d) [
      | inl k ↦ inl (decided_as _ _ (a part sector) k)
      | inr t ↦ inr (refl, t)
    ]

pub decision_stays : (old new : Sets) → Decides old new → (part : Part) (sector : ℕ) → IsDecided (old part sector)
    → IsDecided (new part sector)
decision_stays old new d part sector decided =
    elim (d part sector) [
      | inl same ↦ decided_as _ _ same decided
      | inr one ↦ decided_as _ _ one.2 (one_is_decided one.0)
    ]

pub completion_stays : (info : Info) (old : Machine) (completion : Completion) (new : Machine)
    (step : Completes info old completion new)
    (part : Part) (sector : ℕ) → IsDecided (old.sets part sector)
    → IsDecided (new.sets part sector) ⊎ ((is_failed completion.answer ≡ true)
    × (touches (change_of info step.w.request) part sector ≡ true))
completion_stays info old completion new step part sector decided =
    answer_stays info step.w.request _ step.decided completion.answer new.sets step.answered part sector
    (decision_stays old.sets step.decided step.decides part sector decided)
