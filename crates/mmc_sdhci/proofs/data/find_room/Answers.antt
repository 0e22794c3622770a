use Rattle.std.proofs.Common.{◌∙◌, sym}
use Rattle.mmc_sdhci.proofs.Blocks.{no_room, write_failed_by, write_lost}
use Rattle.mmc_sdhci.specs.declared.watching.Sought.TheVariants.{Room}
use Rattle.mmc_sdhci.proofs.data.find_room.Goals as goal

pub returns-in_default : goal.returns-in_default
returns-in_default g c =
    let v0 = g.R.Registers.view c.args.registers.now in
    no_room v0 _ (λ k. (c.requires k).1.1)
    (write_lost Room v0 (g.R.Registers.view c.watch.new.registers) (g.R.Registers.view c.reset_data.new.registers)
    c.watch.result c.in_default.not-Some (λ k. ((c.requires k).0, (c.requires k).1.0)) c.watch.ensures.watches c.reset_data.ensures)

pub returns-then-is_error : goal.returns-then-is_error
returns-then-is_error g c =
    let v0 = g.R.Registers.view c.args.registers.now in
    no_room v0 _ (λ k. (c.requires k).1.1)
    (write_failed_by Room v0 (g.R.Registers.view c.watch.new.registers)
    (g.R.Registers.view c.reset_data-then-is_error.new.registers) c.watch.result c.in-Some.seen c.in-Some.is
    (sym c.is_error.ensures ∙ c.if-is_error.true) (λ k. ((c.requires k).0, (c.requires k).1.0)) c.watch.ensures.watches
    c.reset_data-then-is_error.ensures)
