use Rattle.std.proofs.Common.{◌∙◌, ◌∷◌, List, ap, ℕ}
use Rattle.mmc_card.specs.declared.exchange.DataIn.TheVariants as Came
use Rattle.mmc_story.specs.Entry.Event.{Read}
use Rattle.sdhci_model.specs.Shown.{entry_for}
use Rattle.sdhci_model.specs.declared.state.State.{State}
use Rattle.sdhci_model.proofs.Moving.{judged_state, not_good_yet, read_good, read_waits}
use Rattle.sdhci_model.proofs.engine.Engine.see_shown.Goals as goal

pub returns-then-is_held_back : goal.returns-then-is_held_back
returns-then-is_held_back g c =
    read_waits g.S.HasStory.story c.args.self.now.diary.past c.args.self.now.state c.see_nothing.new.self c.args.length
    (not_good_yet g.S.HasStory.story c.args.self.now.diary.past c.args.self.now.state c.requires
    (c.is_held_back.ensures.good c.if-is_held_back.true)) c.see_nothing.ensures

pub returns-in_default : goal.returns-in_default
returns-in_default g c =
    read_waits g.S.HasStory.story c.args.self.now.diary.past c.args.self.now.state c.see_nothing-in_default.new.self c.args.length
    (not_good_yet g.S.HasStory.story c.args.self.now.diary.past c.args.self.now.state c.requires c.in_default.ensures.none)
    c.see_nothing-in_default.ensures

pub returns : goal.returns
returns g c =
    read_good g.S.HasStory.story c.args.self.now.diary.past c.note.new.self.diary.past c.args.self.now.state c.judge.new.self
    c.in-Some.bits c.args.length c.requires c.in-Some.ensures.good
    (c.note.ensures.past ∙ ap (λ (l : List ℕ). entry_for c.args.self.now.state (Read c.args.length Came.Good l) ∷ c.args.self.now.diary.past) (c.as_slice.ensures.value ∙ c.copied-block.ensures))
    (c.judge.ensures ∙ ap (λ (x : State). judged_state x c.in-Some.bits) c.note.ensures.state)
