use Rattle.std.proofs.Common.{◌∙◌, ◌∷◌, ap, arith, length, refl, subst, sym}
use Rattle.std.specs.Prelude.{[]}
use Rattle.mmc_card.specs.declared.exchange.DataIn.TheVariants as Came
use Rattle.mmc_story.specs.Entry.Event.{Read}
use Rattle.sdhci_model.specs.Moves.{HaveRead}
use Rattle.sdhci_model.specs.Shown.{entry_for}
use Rattle.sdhci_model.specs.declared.state.State.{State}
use Rattle.sdhci_model.proofs.Coming.{none_read, one_failed, one_read}
use Rattle.sdhci_model.proofs.engine.Engine.fetch_blocks.Goals as goal

pub loop-i-init : goal.loop-i-init
loop-i-init g c = record {
  come = subst (λ xs. HaveRead g.S.HasStory.story c.args.self.now.diary.past c.args.self.now.state xs 0 c.args.self.now.diary.past)
      (sym c.new-blocks.ensures) (none_read g.S.HasStory.story c.args.self.now.diary.past c.args.self.now.state);
  count = ap (λ xs. length xs) c.new-blocks.ensures;
  state = refl;
}

pub loop-i-preserved : goal.loop-i-preserved
loop-i-preserved g c =
    let i = c.loop-i.invariant in
    record {
      come = one_read g.S.HasStory.story c.args.self.now.diary.past c.loop-i.self.diary.past c.fetch_next.new.self.diary.past
          c.args.self.now.state c.loop-i.blocks.items c.push.new.self.items c.in-Ok.block c.loop-i.i (sym i.count) c.push.ensures.items
          c.in-Ok.ensures.long i.come
          (c.in-Ok.ensures.come
          ∙ ap (λ (x : State). entry_for x (Read 512 Came.Good c.in-Ok.block) ∷ c.loop-i.self.diary.past) i.state);
      count = omega (arith, i.count, c.push.ensures.len);
      state = c.fetch_next.ensures.state ∙ i.state;
    }

pub returns-in-Err-clause-failed : goal.returns-in-Err-clause-failed
returns-in-Err-clause-failed g c =
    let i = c.loop-i.invariant in
    one_failed g.S.HasStory.story c.args.self.now.diary.past c.loop-i.self.diary.past c.fetch_next.new.self.diary.past
    c.args.self.now.state c.loop-i.blocks.items c.in-Err.got c.loop-i.i c.args.count c.loop-i-test.true c.in-Err.ensures.bad i.come
    (c.in-Err.ensures.failed
    ∙ ap (λ (x : State). entry_for x (Read 512 c.in-Err.got []) ∷ c.loop-i.self.diary.past) i.state)
