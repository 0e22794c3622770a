use Rattle.std.proofs.Common.{◌∙◌, ap}
use Rattle.mmc_host.specs.HostStates.{sent}
use Rattle.mmc_host.specs.Together.{passed_on}
use Rattle.mmc_host.specs.declared.told.HostState.{HostState}
use Rattle.mmc_story.proofs.TransferLemmas.{before_writes, write_noted}
use Rattle.mmc_story.proofs.host.StoryHostHost.write_with.Goals as goal

pub returns : goal.returns
returns g c =
    write_noted (g.D.Blocks.blocks c.args.blocks.now) g.S.HasStory.story c.args.command c.write_with-heard.result.0
    c.write_with-heard.result.1 _ _ c.write_with-heard.ensures c.args.self.now.diary.past c.note.new.self.diary.past
    c.args.self.now.told.state c.after-self.result.state c.args.self.now.limits c.note.new.self.limits _ c.of.ensures
    c.note.ensures.past
    (c.after-self.ensures
    ∙ ap (passed_on c.write_with-heard.result.1)
    (c.after-sent.ensures ∙ ap (λ (s : HostState). sent s c.args.command c.is_ok-is_answered.result) c.note.ensures.state
    ∙ ap (sent c.args.self.now.told.state c.args.command) c.is_ok-is_answered.ensures.value))
    c.note.ensures.limits

pub invariant_of-self : goal.invariant_of-self
invariant_of-self g c =
    record { unkept = λ kept. c.args.self.now.unkept (before_writes _ c.args.command _ _ _ c.write_with-heard.ensures kept) }
