use Rattle.std.proofs.Common.{[], refl}
use Rattle.sdhci_model.proofs.Accessing.{resets_data}
use Rattle.sdhci_model.proofs.Dropping.{loses_read, loses_write}
use Rattle.sdhci_model.proofs.engine.Engine.drop_data.Goals as goal

pub returns-in-Nothing : goal.returns-in-Nothing
returns-in-Nothing g c =
    resets_data g.S.HasStory.story c.args.self.now.diary.past c.args.self.now.state c.reset_data.new.self 4 refl
    c.in-Nothing.is c.reset_data.ensures.changes

pub returns-in-Read : goal.returns-in-Read
returns-in-Read g c =
    loses_read g.S.HasStory.story c.args.self.now.diary.past c.lose_read.new.self.diary.past c.args.self.now.state c.lose_read.new.self.state
    c.reset_data-in-Read.new.self c.in-Read.length c.in-Read.blocks [] c.requires c.in-Read.is (c.lose_read.ensures.past c.in-Read.length c.in-Read.blocks c.in-Read.is) c.lose_read.ensures.state
    c.reset_data-in-Read.ensures.changes c.reset_data-in-Read.ensures.bus

pub returns-in-Write : goal.returns-in-Write
returns-in-Write g c =
    loses_write g.S.HasStory.story c.args.self.now.diary.past c.lose_block.new.self.diary.past c.args.self.now.state
    c.lose_block.new.self.state c.reset_data-in-Write.new.self c.in-Write.blocks c.lose_block.result.0 c.lose_block.result.1
    c.requires c.in-Write.is c.lose_block.ensures.lost c.lose_block.ensures.past c.lose_block.ensures.state
    c.reset_data-in-Write.ensures.changes c.reset_data-in-Write.ensures.bus
