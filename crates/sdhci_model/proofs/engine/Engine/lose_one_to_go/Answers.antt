use Rattle.std.proofs.Common.{◌<◌, ◌∙◌, ◌∷◌, ap, arith, length}
use Rattle.sdhci_model.specs.Moves.{sent_of}
use Rattle.sdhci_model.specs.Shown.{to_go}
use Rattle.sdhci_model.specs.declared.state.State.{State}
use Rattle.sdhci_model.proofs.Going.{one_lost}
use Rattle.sdhci_model.proofs.engine.Engine.lose_one_to_go.Goals as goal

pub returns-in-None-clause-lost : goal.returns-in-None-clause-lost
returns-in-None-clause-lost g c =
    let few : c.min-some.result < length (to_go c.args.self.now.state) = omega (arith, c.requires) in
    one_lost g.S.HasStory.story c.args.self.now.diary.past c.send_first.new.self.diary.past c.lose_at.new.self.diary.past
    c.args.self.now.state c.min-some.result c.lose_at.result few c.lose_at.ensures.lost c.in-None.ensures.gone
    (c.lose_at.ensures.past
    ∙ ap (λ (x : State). sent_of x c.min-some.result c.lose_at.result ∷ c.send_first.new.self.diary.past) c.in-None.ensures.state)
