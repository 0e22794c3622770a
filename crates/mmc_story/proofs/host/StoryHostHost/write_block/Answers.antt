use Rattle.std.proofs.Common.{refl, rules}
use Rattle.mmc_story.proofs.StoryLemmas.{is_told}
use Rattle.mmc_story.specs.Entry.Event.{Written}
use Rattle.mmc_story.proofs.host.StoryHostHost.write_block.Goals as goal

pub returns : goal.returns
returns g c =
    is_told g.S.HasStory.story (Written c.args.block.now c.write_block-got.result) c.args.self.now.diary.past
    c.note.new.self.diary.past c.args.self.now.told.state c.after-self.result.state _
    c.args.self.now.limits c.note.new.self.limits c.note.ensures.past (search rules) refl c.note.ensures.limits
