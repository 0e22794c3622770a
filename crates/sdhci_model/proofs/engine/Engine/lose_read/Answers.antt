use Rattle.std.proofs.Common.{[], ◌∙◌, ◌≡◌, ◌∷◌, ap, sym, ℕ}
use Rattle.mmc_card.specs.declared.exchange.DataIn.TheVariants as Came
use Rattle.mmc_host.specs.declared.data.Data.{Data}
use Rattle.mmc_story.specs.Entry.Event.{Read}
use Rattle.sdhci_model.specs.Shown.{entry_for}
use Rattle.sdhci_model.proofs.engine.Engine.lose_read.Goals as goal

pub returns-clause-past : goal.returns-clause-past
returns-clause-past g c size counted is =
    let same : Data.Read c.args.length c.args.blocks ≡ Data.Read size counted = sym c.requires ∙ is in
    let long : c.args.length ≡ size = cc in
    c.note.ensures.past
    ∙ ap (λ (n : ℕ). entry_for c.args.self.now.state (Read n Came.Nothing []) ∷ c.args.self.now.diary.past) long
