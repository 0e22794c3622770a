use Rattle.std.proofs.Common.{length, refl, rules}
use Rattle.mmc_story.proofs.StoryLemmas.{is_told}
use Rattle.mmc_story.specs.Entry.Event.{Read}
use Rattle.mmc_story.proofs.host.StoryHostHost.read_block.Goals as goal

pub returns : goal.returns
returns g c =
    is_told g.S.HasStory.story (Read (length c.args.block.now) c.read_block-got.result c.read_block-got.new.block)
    c.args.self.now.diary.past c.note.new.self.diary.past c.args.self.now.told.state c.after-self.result.state _
    c.args.self.now.limits c.note.new.self.limits c.note.ensures.past (search rules) refl c.note.ensures.limits
