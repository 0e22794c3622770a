use Rattle.std.proofs.Common.{◌<◌, ◌∙◌, ◌∷◌, ap, arith, false, length, refl, sym}
use Rattle.mmc_card.specs.declared.exchange.DataOut.TheVariants as Went
use Rattle.mmc_story.specs.Entry.Event.{Looked}
use Rattle.sdhci_model.specs.Moves.{sent_of}
use Rattle.sdhci_model.specs.Shown.{entry_for, to_go}
use Rattle.sdhci_model.specs.declared.state.State.{State}
use Rattle.sdhci_model.proofs.Going.{none_sent, one_lost, one_sent}
use Rattle.sdhci_model.proofs.engine.Engine.send_first.Goals as goal

pub loop-i-init : goal.loop-i-init
loop-i-init g c = record {
  sent = none_sent g.S.HasStory.story c.args.self.now.diary.past c.args.self.now.state;
  state = refl;
}

pub loop-i-preserved : goal.loop-i-preserved
loop-i-preserved g c =
    let i = c.loop-i.invariant in
    let few : c.loop-i.i < length (to_go c.args.self.now.state) = omega (arith, c.requires, c.loop-i-test.true) in
    record {
      sent = one_sent g.S.HasStory.story c.args.self.now.diary.past c.loop-i.self.diary.past c.send_another-got.new.self.diary.past
          c.args.self.now.state c.loop-i.i few i.sent
          (c.send_another-got.ensures.accepted (sym c.is_accepted.ensures ∙ c.if-not-is_accepted.false)
          ∙ ap (λ (x : State). entry_for x (Looked false) ∷ sent_of x c.loop-i.i Went.Accepted ∷ c.loop-i.self.diary.past) i.state);
      state = c.send_another-got.ensures.state ∙ i.state;
    }

pub returns-then-not-is_accepted-clause-lost : goal.returns-then-not-is_accepted-clause-lost
returns-then-not-is_accepted-clause-lost g c =
    let i = c.loop-i.invariant in
    let few : c.loop-i.i < length (to_go c.args.self.now.state) = omega (arith, c.requires, c.loop-i-test.true) in
    let bad = sym c.is_accepted.ensures ∙ c.if-not-is_accepted.true in
    one_lost g.S.HasStory.story c.args.self.now.diary.past c.loop-i.self.diary.past c.send_another-got.new.self.diary.past
    c.args.self.now.state c.loop-i.i c.send_another-got.result few bad i.sent
    (c.send_another-got.ensures.lost bad
    ∙ ap (λ (x : State). sent_of x c.loop-i.i c.send_another-got.result ∷ c.loop-i.self.diary.past) i.state)
