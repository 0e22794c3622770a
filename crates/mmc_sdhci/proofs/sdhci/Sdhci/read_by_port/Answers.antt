use Rattle.std.proofs.Common.{◌<◌, ◌∙◌, ◌≡◌, add-one, ap, arith, length, subst, sym}
use Rattle.std.proofs.lemmas.List.{length-set}
use Rattle.mmc_bus.proofs.TogetherLemmas.{good_lent}
use Rattle.mmc_bus.specs.Lending.{block}
use Rattle.mmc_bus.specs.Together.{AreGood, good_one, none_good, reads, reads_none}
use Rattle.mmc_card.specs.declared.exchange.DataIn.{DataIn}
use Rattle.mmc_host.specs.HostStates.{IsToCome}
use Rattle.mmc_host.specs.Hosts.{ReadsBlock, Where}
use Rattle.mmc_host.specs.Together.{HostRead}
use Rattle.mmc_sdhci.specs.Driver.{host_over, told_so}
use Rattle.mmc_sdhci.proofs.Together.{comes_next, one_fewer, under_way}
use Rattle.mmc_sdhci.proofs.sdhci.Sdhci.read_by_port.Goals as goal

pub returns-then-not-is_ok : goal.returns-then-not-is_ok
returns-then-not-is_ok g c = record {
  between = host_over (g.R.Registers.view c.send-heard.new.self.registers) (told_so c.send-heard.new.self.state c.send-heard.new.self.told) c.send-heard.new.self.limits;
  sent = c.send-heard.ensures;
  read = reads 0 _ _ none_good;
}

pub loop-done-init : goal.loop-done-init
loop-done-init g c = (
  none_good,
  sym c.len-count.ensures,
  under_way (host_over (g.R.Registers.view c.args.self.now.registers) (told_so c.args.self.now.state c.args.self.now.told) c.args.self.now.limits)
      (host_over (g.R.Registers.view c.send-heard.new.self.registers) (told_so c.send-heard.new.self.state c.send-heard.new.self.told) c.send-heard.new.self.limits)
      c.args.command c.send-heard.result c.send-heard.ensures (sym c.is_ok.ensures ∙ c.if-not-is_ok.false),
)

pub block_mut-requires : goal.block_mut-requires
block_mut-requires g c = let same = c.loop-done.invariant.1 in omega (arith, same)

pub read_block-got-requires : goal.read_block-got-requires
read_block-got-requires g c =
    let now = host_over (g.R.Registers.view c.loop-done.self.registers) (told_so c.loop-done.self.state c.loop-done.self.told) c.loop-done.self.limits in
    let size : length c.block_mut.result.now ≡ 512 = omega arith in
    subst (λ n. Where now (IsToCome now.state n)) (sym size)
    (comes_next now c.args.command.transfer (length (g.D.Blocks.blocks c.args.blocks.now)) c.loop-done.done c.requires.to_come
    (let count = c.len-count.ensures in omega (arith, count)) c.loop-done.invariant.2)

pub returns-then-not-is_good : goal.returns-then-not-is_good
returns-then-not-is_good g c =
    let same = c.loop-done.invariant.1 in
    let left = c.read_block-got.new.block in
    let below : c.loop-done.done < length (g.D.Blocks.blocks c.loop-done.blocks) = omega (arith, same) in
    let long : length left ≡ 512 = omega arith in
    let size : length c.block_mut.result.now ≡ 512 = omega arith in
    let after = host_over (g.R.Registers.view c.send-heard.new.self.registers) (told_so c.send-heard.new.self.state c.send-heard.new.self.told)
    c.send-heard.new.self.limits in
    let now = host_over (g.R.Registers.view c.loop-done.self.registers) (told_so c.loop-done.self.state c.loop-done.self.told) c.loop-done.self.limits in
    let new = host_over (g.R.Registers.view c.read_block-got.new.self.registers) (told_so c.read_block-got.new.self.state c.read_block-got.new.self.told)
    c.read_block-got.new.self.limits in
    record {
      between = after;
      sent = c.send-heard.ensures;
      read = reads_none c.loop-done.done now c.loop-done.blocks _ c.read_block-got.result left new
          c.loop-done.invariant.0 below long (λ is. c.is_good.ensures.no c.if-not-is_good.true is)
          (subst (λ n. ReadsBlock now n c.read_block-got.result left new) size c.read_block-got.ensures)
          (block c.loop-done.blocks c.loop-done.done left
          (good_lent after c.args.blocks.now g.met.D.BlocksMut.writes_one c.loop-done.done now c.loop-done.blocks
          c.loop-done.invariant.0) below long);
    }

pub loop-done-preserved : goal.loop-done-preserved
loop-done-preserved g c =
    let same = c.loop-done.invariant.1 in
    let left = c.read_block-got.new.block in
    let below : c.loop-done.done < length (g.D.Blocks.blocks c.loop-done.blocks) = omega (arith, same) in
    let long : length left ≡ 512 = omega arith in
    let size : length c.block_mut.result.now ≡ 512 = omega arith in
    let now = host_over (g.R.Registers.view c.loop-done.self.registers) (told_so c.loop-done.self.state c.loop-done.self.told) c.loop-done.self.limits in
    let new = host_over (g.R.Registers.view c.read_block-got.new.self.registers) (told_so c.read_block-got.new.self.state c.read_block-got.new.self.told)
    c.read_block-got.new.self.limits in
    let good : HostRead now _ left new =
    subst (λ (got : DataIn). HostRead now got left new) (c.is_good.ensures.yes c.if-not-is_good.false)
    (subst (λ n. ReadsBlock now n c.read_block-got.result left new) size c.read_block-got.ensures) in (
      rw add-one (good_one c.loop-done.done now c.loop-done.blocks left new c.loop-done.invariant.0 below long good),
      ap length (g.met.D.BlocksMut.writes_one c.loop-done.blocks c.loop-done.done left below long)
          ∙ length-set (g.D.Blocks.blocks c.loop-done.blocks) c.loop-done.done left ∙ same,
      rw add-one (one_fewer now new left c.args.command.transfer c.loop-done.done good c.loop-done.invariant.2),
    )

pub returns : goal.returns
returns g c =
    let end : c.loop-done.done ≡ c.len-count.result = omega arith in
    let after = host_over (g.R.Registers.view c.send-heard.new.self.registers) (told_so c.send-heard.new.self.state c.send-heard.new.self.told)
    c.send-heard.new.self.limits in
    let now = host_over (g.R.Registers.view c.loop-done.self.registers) (told_so c.loop-done.self.state c.loop-done.self.told) c.loop-done.self.limits in
    record {
      between = after;
      sent = c.send-heard.ensures;
      read = reads _ _ _ (subst (λ n. AreGood HostRead g.D.Blocks.blocks g.D.BlocksMut.with after c.args.blocks.now n now
          c.loop-done.blocks) end c.loop-done.invariant.0);
    }
