use Rattle.std.proofs.Common.{subst}
use Rattle.mmc_bus.specs.declared.moved.Moved.{Moved}
use Rattle.mmc_bus.specs.declared.moved.Moved.TheVariants as Move
use Rattle.mmc_card.specs.declared.exchange.DataIn.{DataIn}
use Rattle.mmc_host.specs.HostStates.{AreMovable}
use Rattle.mmc_host.specs.declared.data.Data.{Data}
use Rattle.mmc_sdhci.specs.Driver.{told_so}
use Rattle.mmc_sdhci.specs.Finishing.{MovesWith}
use Rattle.mmc_sdhci.proofs.CommandByDma.{writes_by_dma}
use Rattle.mmc_sdhci.proofs.sdhci.Sdhci.write_by_dma.Goals as goal

pub returns-in-Good-clause-writes : goal.returns-in-Good-clause-writes
returns-in-Good-clause-writes g c =
    let asked = c.writes_whole.ensures c.if-not-writes_whole.false in
    let some = (subst (λ (t : Data). AreMovable t) asked c.requires.movable).0 in
    let done = c.in_ok-heard.ensures in
    let moves = subst (λ (m : Moved DataIn). MovesWith (g.R.Registers.view c.lend_blocks.new.self) c.args.command c.in_ok-heard.heard
    c.len-count.result m (g.R.Registers.view c.move_blocks-done.new.self.registers)) c.in-Good.is done.moves in
    rw (done.state, done.told, done.limits) (writes_by_dma (g.D.Blocks.blocks c.args.blocks.now) (g.R.Registers.view c.args.self.now.registers)
    (g.R.Registers.view c.lend_blocks.new.self) (g.R.Registers.view c.move_blocks-done.new.self.registers)
    (g.R.Registers.view c.take_back.new.self) c.in_ok-start.start (told_so c.args.self.now.state c.args.self.now.told) c.args.self.now.limits c.args.command
    c.len-count.result c.args.self.now.lines c.args.self.now.most c.in_ok-start.ensures.lends c.take_back.ensures some
    c.len-count.ensures asked c.requires.response c.in_ok-heard.heard (Move.Good c.in-Good.done) (done.word c.requires.response) moves)

pub returns-in-Failed-clause-writes : goal.returns-in-Failed-clause-writes
returns-in-Failed-clause-writes g c =
    let asked = c.writes_whole.ensures c.if-not-writes_whole.false in
    let some = (subst (λ (t : Data). AreMovable t) asked c.requires.movable).0 in
    let done = c.in_ok-heard.ensures in
    let moves = subst (λ (m : Moved DataIn). MovesWith (g.R.Registers.view c.lend_blocks.new.self) c.args.command c.in_ok-heard.heard
    c.len-count.result m (g.R.Registers.view c.move_blocks-done.new.self.registers)) c.in-Failed.is done.moves in
    rw (done.state, done.told, done.limits) (writes_by_dma (g.D.Blocks.blocks c.args.blocks.now) (g.R.Registers.view c.args.self.now.registers)
    (g.R.Registers.view c.lend_blocks.new.self) (g.R.Registers.view c.move_blocks-done.new.self.registers)
    (g.R.Registers.view c.take_back.new.self) c.in_ok-start.start (told_so c.args.self.now.state c.args.self.now.told) c.args.self.now.limits c.args.command
    c.len-count.result c.args.self.now.lines c.args.self.now.most c.in_ok-start.ensures.lends c.take_back.ensures some
    c.len-count.ensures asked c.requires.response c.in_ok-heard.heard (Move.Failed c.in-Failed.field-0) (done.word c.requires.response) moves)
