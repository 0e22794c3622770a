use Rattle.std.proofs.Common.{arith}
use Rattle.sdhci_model.proofs.Moving.{read_comes}
use Rattle.sdhci_model.proofs.engine.Engine.fetch.Goals as goal

pub returns : goal.returns
returns g c =
    read_comes g.S.HasStory.story c.args.self.now.diary.past c.args.self.now.state c.come.new.self c.args.length _
    c.requires.none c.requires.ready (omega arith) c.come.ensures
