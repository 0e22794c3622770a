use Rattle.std.proofs.Common.{refl}
use Rattle.sdhci_model.proofs.Accessing.{resets_data}
use Rattle.sdhci_model.proofs.Dropping.{drops_some, loses_read_some, loses_written_some}
use Rattle.sdhci_model.proofs.engine.Engine.drop_moving.Goals as goal

pub returns-in-Nothing : goal.returns-in-Nothing
returns-in-Nothing g c =
    resets_data g.S.HasStory.story c.args.self.now.diary.past c.args.self.now.state c.reset_data.new.self 4 refl
    c.in-Nothing.is c.reset_data.ensures.changes

pub returns-in-Read : goal.returns-in-Read
returns-in-Read g c =
    drops_some g.S.HasStory.story c.args.self.now.diary.past c.lose_one.new.self.diary.past c.args.self.now.state
    c.lose_one.new.self.state c.reset_data-in-Read.new.self c.requires
    (loses_read_some g.S.HasStory.story c.args.self.now.diary.past c.lose_one.new.self.diary.past c.args.self.now.state
    c.in-Read.length c.in-Read.blocks c.in-Read.is c.lose_one.ensures.lost)
    c.lose_one.ensures.state c.reset_data-in-Read.ensures.changes

pub returns-in-Write : goal.returns-in-Write
returns-in-Write g c =
    drops_some g.S.HasStory.story c.args.self.now.diary.past c.lose_one_to_go.new.self.diary.past c.args.self.now.state
    c.lose_one_to_go.new.self.state c.reset_data-in-Write.new.self c.requires
    (loses_written_some g.S.HasStory.story c.args.self.now.diary.past c.lose_one_to_go.new.self.diary.past c.args.self.now.state
    c.in-Write.blocks c.in-Write.is c.lose_one_to_go.ensures.lost)
    c.lose_one_to_go.ensures.state c.reset_data-in-Write.ensures.changes
