use Rattle.std.proofs.Common.{◌∙◌, refl, subst, sym}
use Rattle.sdhci_model.specs.Moves.{Breaks, Goes}
use Rattle.sdhci_model.specs.declared.state.State.{State}
use Rattle.sdhci_model.proofs.Commanding.{noted_after}
use Rattle.sdhci_model.proofs.Moving.{write_failed, write_waits, write_went}
use Rattle.sdhci_model.proofs.engine.Engine.see_write.Goals as goal

pub returns-then-is_held_back : goal.returns-then-is_held_back
returns-then-is_held_back g c =
    write_waits g.S.HasStory.story c.args.self.now.diary.past c.args.self.now.state c.see_nothing.new.self
    (c.is_held_back.ensures.gone c.if-is_held_back.true) c.see_nothing.ensures

pub returns-in_default : goal.returns-in_default
returns-in_default g c =
    write_waits g.S.HasStory.story c.args.self.now.diary.past c.args.self.now.state c.see_nothing-in_default.new.self
    c.in_default.ensures.none c.see_nothing-in_default.ensures

pub returns-in_default-whole : goal.returns-in_default-whole
returns-in_default-whole g c =
    write_waits g.S.HasStory.story c.args.self.now.diary.past c.args.self.now.state c.see_nothing-in_default-whole.new.self
    c.in_default-whole.ensures.none c.see_nothing-in_default-whole.ensures

pub returns-then-is_accepted : goal.returns-then-is_accepted
returns-then-is_accepted g c =
    write_went g.S.HasStory.story c.args.self.now.diary.past c.note.new.self.diary.past c.args.self.now.state c.go.new.self
    c.in-Some.bits c.in-Some-whole.block c.offer-got.result (sym c.is_accepted.ensures ∙ c.if-is_accepted.true)
    c.in-Some-whole.ensures.whole.0 c.in-Some.ensures.gone
    (subst (λ (x : State). Goes x c.in-Some.bits c.go.new.self) (c.note.ensures.state ∙ c.offer-got.ensures.state) c.go.ensures)
    (noted_after _ _ _ _ _ _ c.note.ensures.past c.offer-got.ensures.past c.offer-got.ensures.state)

pub returns : goal.returns
returns g c =
    write_failed g.S.HasStory.story c.args.self.now.diary.past c.note.new.self.diary.past c.args.self.now.state
    c.break_data.new.self 0x208000 c.in-Some-whole.block c.offer-got.result
    (sym c.is_accepted.ensures ∙ c.if-is_accepted.false) refl c.in-Some-whole.ensures.whole.0 c.in-Some-whole.ensures.whole.1
    (subst (λ (x : State). Breaks x 0x208000 c.break_data.new.self) (c.note.ensures.state ∙ c.offer-got.ensures.state) c.break_data.ensures)
    (noted_after _ _ _ _ _ _ c.note.ensures.past c.offer-got.ensures.past c.offer-got.ensures.state)
