use Rattle.std.proofs.Common.{refl, rules}
use Rattle.mmc_story.proofs.StoryLemmas.{is_told}
use Rattle.mmc_story.specs.Entry.Event.{Sent}
use Rattle.mmc_story.proofs.host.StoryHostHost.send.Goals as goal

pub returns : goal.returns
returns g c =
    is_told g.S.HasStory.story (Sent c.args.command c.send-heard.result) c.args.self.now.diary.past c.note.new.self.diary.past
    c.args.self.now.told.state c.after-self.result.state _ c.args.self.now.limits c.note.new.self.limits
    c.note.ensures.past (search rules) refl c.note.ensures.limits
