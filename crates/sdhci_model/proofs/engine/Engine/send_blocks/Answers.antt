use Rattle.std.proofs.Common.{◌-◌, ◌<◌, ◌∙◌, ◌≡◌, ◌∷◌, ap, arith, length, suc}
use Rattle.sdhci_model.specs.Moves.{sent_of}
use Rattle.sdhci_model.specs.Shown.{to_go}
use Rattle.sdhci_model.specs.declared.state.State.{State}
use Rattle.sdhci_model.proofs.Going.{last_sent, one_lost}
use Rattle.sdhci_model.proofs.engine.Engine.send_blocks.Goals as goal

pub returns-in-None-clause-gone : goal.returns-in-None-clause-gone
returns-in-None-clause-gone g c taken =
    let few : c.args.count - 1 < length (to_go c.args.self.now.state) = omega (arith, c.requires.some, c.requires.all) in
    let end : suc (c.args.count - 1) ≡ c.args.count = omega (arith, c.requires.some) in
    last_sent g.S.HasStory.story c.args.self.now.diary.past c.send_first.new.self.diary.past c.send_last.new.self.diary.past
    c.args.self.now.state (c.args.count - 1) c.args.count c.send_last.result few end taken c.in-None.ensures.gone
    (c.send_last.ensures.past
    ∙ ap (λ (x : State). sent_of x (c.args.count - 1) c.send_last.result ∷ c.send_first.new.self.diary.past) c.send_first.ensures.state)

pub returns-in-None-clause-lost : goal.returns-in-None-clause-lost
returns-in-None-clause-lost g c bad =
    let few : c.args.count - 1 < length (to_go c.args.self.now.state) = omega (arith, c.requires.some, c.requires.all) in
    one_lost g.S.HasStory.story c.args.self.now.diary.past c.send_first.new.self.diary.past c.send_last.new.self.diary.past
    c.args.self.now.state (c.args.count - 1) c.send_last.result few bad c.in-None.ensures.gone
    (c.send_last.ensures.past
    ∙ ap (λ (x : State). sent_of x (c.args.count - 1) c.send_last.result ∷ c.send_first.new.self.diary.past) c.send_first.ensures.state)
