use Rattle.std.proofs.Common.{◌∙◌, ap, arith, length, refl, subst, sym}
use Rattle.mmc_card.specs.declared.exchange.DataIn.{DataIn}
use Rattle.mmc_host.specs.HostStates.{is_good}
use Rattle.mmc_sdhci.specs.Controller.{Settled}
use Rattle.mmc_sdhci.specs.declared.watching.Sought.TheVariants.{Block}
use Rattle.mmc_sdhci.proofs.Reading.{IsLostRead, coming_reads, lost_is_read, not_good, read_broken, read_lost, read_through, seeks_good, taken}
use Rattle.mmc_sdhci.proofs.data.read_block.Goals as goal

pub returns-in_default-clause-read : goal.returns-in_default-clause-read
returns-in_default-clause-read g c =
    lost_is_read (g.R.Registers.view c.args.registers.now) _ _ _ _ refl
    (read_lost Block (g.R.Registers.view c.args.registers.now) (g.R.Registers.view c.watch.new.registers)
    (g.R.Registers.view c.reset_data.new.registers) _ c.args.block.now c.watch.result c.in_default.not-Some
    (coming_reads (g.R.Registers.view c.args.registers.now) c.args.under_way _ c.requires.rest c.requires.coming)
    c.watch.ensures.watches c.reset_data.ensures)

pub returns-then-is_error-clause-read : goal.returns-then-is_error-clause-read
returns-then-is_error-clause-read g c =
    lost_is_read (g.R.Registers.view c.args.registers.now) _ _ c.came.result _
    (ap (λ (d : DataIn). is_good d) c.came.ensures ∙ not_good c.in-Some.seen.bits)
    (subst (λ (d : DataIn). Settled (g.R.Registers.view c.args.registers.now)
    (IsLostRead (g.R.Registers.view c.args.registers.now) (length c.args.block.now) d c.args.block.now
    (g.R.Registers.view c.reset_data-then-is_error.new.registers)) (g.R.Registers.view c.reset_data-then-is_error.new.registers))
    (sym c.came.ensures)
    (read_broken Block (g.R.Registers.view c.args.registers.now) (g.R.Registers.view c.watch.new.registers)
    (g.R.Registers.view c.reset_data-then-is_error.new.registers) _ c.args.block.now c.watch.result
    c.in-Some.seen c.in-Some.is (sym c.is_error.ensures ∙ c.if-is_error.true)
    (coming_reads (g.R.Registers.view c.args.registers.now) c.args.under_way _ c.requires.rest c.requires.coming)
    c.watch.ensures.watches c.reset_data-then-is_error.ensures))

pub see_good-requires : goal.see_good-requires
see_good-requires g c =
    seeks_good (g.R.Registers.view c.args.registers.now) (g.R.Registers.view c.read_port.new.self) c.args.under_way
    (length c.args.block.now) c.read_port.new.block c.following_of.result c.requires.rest c.requires.coming c.following_of.ensures
    (taken (g.R.Registers.view c.args.registers.now) (g.R.Registers.view c.watch.new.registers)
    (g.R.Registers.view c.read_port.new.self) c.args.under_way (length c.args.block.now) c.read_port.new.block c.watch.result
    c.in-Some.seen c.in-Some.is (sym c.is_error.ensures ∙ c.if-is_error.false) c.requires.rest c.requires.coming
    (omega arith) c.watch.ensures.watches c.read_port.ensures)

pub returns-clause-read : goal.returns-clause-read
returns-clause-read g c =
    read_through (g.R.Registers.view c.args.registers.now) (g.R.Registers.view c.read_port.new.self)
    (g.R.Registers.view c.see_good.new.registers) c.args.under_way (length c.args.block.now) c.read_port.new.block
    c.see_good.result c.requires.coming
    (taken (g.R.Registers.view c.args.registers.now) (g.R.Registers.view c.watch.new.registers)
    (g.R.Registers.view c.read_port.new.self) c.args.under_way (length c.args.block.now) c.read_port.new.block c.watch.result
    c.in-Some.seen c.in-Some.is (sym c.is_error.ensures ∙ c.if-is_error.false) c.requires.rest c.requires.coming
    (omega arith) c.watch.ensures.watches c.read_port.ensures)
    c.see_good.ensures
