use Rattle.std.proofs.Common.{[], ◌<◌, ◌∙◌, ◌≤◌, ◌∷◌, ap, arith, refl}
use Rattle.mmc_card.specs.declared.exchange.DataIn.TheVariants as Came
use Rattle.mmc_story.specs.Entry.Event.{Read}
use Rattle.sdhci_model.specs.Shown.{entry_for}
use Rattle.sdhci_model.specs.declared.state.State.{State}
use Rattle.sdhci_model.proofs.Coming.{failed_untold, one_failed}
use Rattle.sdhci_model.proofs.engine.Engine.lose_one.Goals as goal

pub returns-in-Ok-clause-lost : goal.returns-in-Ok-clause-lost
returns-in-Ok-clause-lost g c =
    let few : c.min-some.result < c.args.count = omega arith in
    one_failed g.S.HasStory.story c.args.self.now.diary.past c.fetch_blocks.new.self.diary.past c.lose_next.new.self.diary.past
    c.args.self.now.state c.in-Ok.field-0.items Came.Nothing c.min-some.result c.args.count few refl c.in-Ok.ensures.come
    (c.lose_next.ensures.past
    ∙ ap (λ (x : State). entry_for x (Read 512 Came.Nothing []) ∷ c.fetch_blocks.new.self.diary.past) c.in-Ok.ensures.state)

pub returns-in-Err-clause-lost : goal.returns-in-Err-clause-lost
returns-in-Err-clause-lost g c =
    let few : c.min-some.result ≤ c.args.count = omega arith in
    failed_untold g.S.HasStory.story c.args.self.now.diary.past c.fetch_blocks.new.self.diary.past c.args.self.now.state
    c.min-some.result c.args.count c.in-Err.field-0 few c.in-Err.ensures.bad c.in-Err.ensures.failed
