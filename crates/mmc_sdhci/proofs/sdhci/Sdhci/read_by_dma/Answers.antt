use Rattle.std.proofs.Common.{subst, sym, ℕ}
use Rattle.mmc_host.specs.HostStates.{AreMovable}
use Rattle.mmc_host.specs.declared.data.Data.{Data}
use Rattle.mmc_sdhci.specs.Driver.{told_so}
use Rattle.mmc_sdhci.specs.Lending.{TakesBack}
use Rattle.mmc_sdhci.proofs.CommandByDma.{reads_by_dma}
use Rattle.mmc_sdhci.proofs.sdhci.Sdhci.read_by_dma.Goals as goal

pub returns-clause-reads : goal.returns-clause-reads
returns-clause-reads g c =
    let asked = c.reads_whole.ensures c.if-not-reads_whole.false in
    let some = (subst (λ (t : Data). AreMovable t) asked c.requires.movable).1.0 in
    let done = c.in-Some.ensures in
    let taken = subst (λ (n : ℕ). TakesBack g.D.BlocksMut.with (g.R.Registers.view c.move_blocks.new.self.registers) c.args.blocks.now
    n c.take_places.new.blocks (g.R.Registers.view c.take_places.new.registers)) (sym c.len-count.ensures) c.take_places.ensures in
    rw (done.state, done.told, done.limits) (reads_by_dma g.D.Blocks.blocks g.D.BlocksMut.with g.met.D.BlocksMut.writes_one c.args.blocks.now
    c.take_places.new.blocks (g.R.Registers.view c.args.self.now.registers) (g.R.Registers.view c.lend_room.new.self)
    (g.R.Registers.view c.move_blocks.new.self.registers) (g.R.Registers.view c.take_places.new.registers) c.in_ok-start.start
    (told_so c.args.self.now.state c.args.self.now.told) c.args.self.now.limits c.args.command c.len-count.result c.args.self.now.lines c.args.self.now.most
    c.in_ok-start.ensures.lends taken some c.len-count.ensures asked c.in-Some.done.0 c.in-Some.done.1 done.moves)
