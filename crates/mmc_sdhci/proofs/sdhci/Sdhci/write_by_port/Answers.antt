use Rattle.std.proofs.Common.{[], ◌≡◌, List, arith, length, slice_index_or, subst, ℕ}
use Rattle.mmc_card.specs.CardAnswer.{Silent}
use Rattle.mmc_card.specs.declared.exchange.DataOut.{DataOut}
use Rattle.mmc_host.specs.Hosts.{WritesBlock, answer_heard}
use Rattle.mmc_card.specs.declared.response.Response.{Response}
use Rattle.mmc_sdhci.specs.Driver.{host_over, told_so}
use Rattle.mmc_sdhci.proofs.Together.{goes_next, none_went, one_failed, one_went, under_way}
use Rattle.mmc_sdhci.proofs.sdhci.Sdhci.write_by_port.Goals as goal

pub returns-then-not-is_word : goal.returns-then-not-is_word
returns-then-not-is_word g c = none_went _ _ c.args.command (g.D.Blocks.blocks c.args.blocks.now) c.send-heard.result c.send-heard.ensures

pub write_block-got-requires : goal.write_block-got-requires
write_block-got-requires g c =
    let old = host_over (g.R.Registers.view c.args.self.now.registers) (told_so c.args.self.now.state c.args.self.now.told) c.args.self.now.limits in
    let after = host_over (g.R.Registers.view c.send-heard.new.self.registers) (told_so c.send-heard.new.self.state c.send-heard.new.self.told)
    c.send-heard.new.self.limits in
    goes_next after c.args.command.transfer (length (g.D.Blocks.blocks c.args.blocks.now)) c.requires.ahead
    (under_way old after c.args.command c.send-heard.result c.send-heard.ensures (c.is_word.ensures.ok c.if-not-is_word.false))

pub returns-then-not-is_accepted : goal.returns-then-not-is_accepted
returns-then-not-is_accepted g c =
    let after = host_over (g.R.Registers.view c.send-heard.new.self.registers) (told_so c.send-heard.new.self.state c.send-heard.new.self.told)
    c.send-heard.new.self.limits in
    let new = host_over (g.R.Registers.view c.write_block-got.new.self.registers) (told_so c.write_block-got.new.self.state c.write_block-got.new.self.told)
    c.write_block-got.new.self.limits in
    one_failed _ after new c.args.command (g.D.Blocks.blocks c.args.blocks.now) c.send-heard.result c.send-heard.ensures
    (λ silent. c.is_word.ensures.heard c.if-not-is_word.false c.args.command.index
    (subst (λ (r : Response). answer_heard r c.args.command.index c.send-heard.result ≡ Silent) c.requires.response silent))
    (let some = c.if-len-eq0.false in let count = c.len.ensures in omega (arith, some, count)) c.write_block-got.result
    (c.is_accepted.ensures.no c.if-not-is_accepted.true)
    (subst (λ (bytes : List ℕ). WritesBlock after bytes c.write_block-got.result new) c.block.ensures c.write_block-got.ensures)

pub returns : goal.returns
returns g c =
    let after = host_over (g.R.Registers.view c.send-heard.new.self.registers) (told_so c.send-heard.new.self.state c.send-heard.new.self.told)
    c.send-heard.new.self.limits in
    let new = host_over (g.R.Registers.view c.write_block-got.new.self.registers) (told_so c.write_block-got.new.self.state c.write_block-got.new.self.told)
    c.write_block-got.new.self.limits in
    one_went _ after new c.args.command (g.D.Blocks.blocks c.args.blocks.now) c.send-heard.result c.send-heard.ensures
    (λ silent. c.is_word.ensures.heard c.if-not-is_word.false c.args.command.index
    (subst (λ (r : Response). answer_heard r c.args.command.index c.send-heard.result ≡ Silent) c.requires.response silent))
    (let some = c.if-len-eq0.false in let count = c.len.ensures in omega (arith, some, count))
    (subst (λ (got : DataOut). WritesBlock after (slice_index_or (g.D.Blocks.blocks c.args.blocks.now) 0 []) got new) (c.is_accepted.ensures.yes c.if-not-is_accepted.false)
    (subst (λ (bytes : List ℕ). WritesBlock after bytes c.write_block-got.result new) c.block.ensures c.write_block-got.ensures))
