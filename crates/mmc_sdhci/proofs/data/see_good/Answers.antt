use Rattle.std.proofs.Common.{◌∙◌, refl, subst, sym}
use Rattle.mmc_card.specs.declared.exchange.DataIn.{DataIn}
use Rattle.mmc_sdhci.specs.Moving.{SeesGood}
use Rattle.mmc_sdhci.specs.declared.watching.Sought.TheVariants.{Good}
use Rattle.mmc_sdhci.proofs.Reading.{not_good, not_seen_good, read_broken, read_lost, seen_good}
use Rattle.mmc_sdhci.proofs.data.see_good.Goals as goal

pub returns-in_default : goal.returns-in_default
returns-in_default g c =
    let v0 = g.R.Registers.view c.args.registers.now in
    let v1 = g.R.Registers.view c.watch.new.registers in
    let v2 = g.R.Registers.view c.reset_data.new.registers in
    not_seen_good c.args.following v0 v1 v2 _ c.watch.result refl c.requires c.watch.ensures.watches c.reset_data.ensures
    (λ size block there. read_lost (Good c.args.following) v0 v1 v2 size block c.watch.result c.in_default.not-Some there
    c.watch.ensures.watches c.reset_data.ensures)

pub returns-then-is_error : goal.returns-then-is_error
returns-then-is_error g c =
    let v0 = g.R.Registers.view c.args.registers.now in
    let v1 = g.R.Registers.view c.watch.new.registers in
    let v2 = g.R.Registers.view c.reset_data-then-is_error.new.registers in
    subst (λ (d : DataIn). SeesGood v0 d v2) (sym c.came.ensures)
    (not_seen_good c.args.following v0 v1 v2 _ c.watch.result (not_good c.in-Some.seen.bits) c.requires c.watch.ensures.watches
    c.reset_data-then-is_error.ensures
    (λ size block there. read_broken (Good c.args.following) v0 v1 v2 size block c.watch.result c.in-Some.seen c.in-Some.is
    (sym c.is_error.ensures ∙ c.if-is_error.true) there c.watch.ensures.watches c.reset_data-then-is_error.ensures))

pub returns : goal.returns
returns g c =
    seen_good c.args.following (g.R.Registers.view c.args.registers.now) (g.R.Registers.view c.watch.new.registers) c.watch.result
    c.in-Some.seen c.in-Some.is (sym c.is_error.ensures ∙ c.if-is_error.false) c.requires c.watch.ensures.watches
