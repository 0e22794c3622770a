use Rattle.std.proofs.Common.{◌+◌, ◌∙◌, ◌≡◌, ap, arith, subst, suc, sym}
use Rattle.mmc_queue.proofs.LentLemmas.{NoneBefore, first_here, none_at_all, none_more}
use Rattle.mmc_queue.specs.LentLaws.{has}
use Rattle.mmc_queue.specs.declared.entry.Entry.{Entry}
use Rattle.mmc_queue.proofs.group.Group.first_for.Goals as goal

pub returns-then-has_block : goal.returns-then-has_block
returns-then-has_block c =
    first_here c.args.held c.args.self.now.members.items c.args.sector c.loop-k.k c.loop-k.invariant (let t = c.loop-k-test.true in omega (arith, t))
    (ap (λ (e : Entry). has c.args.held e c.args.sector) (sym c.member.ensures) ∙ sym c.has_block.ensures ∙ c.if-has_block.true)

pub loop-k-preserved : goal.loop-k-preserved
loop-k-preserved c =
    let next : suc c.loop-k.k ≡ c.loop-k.k + 1 = omega arith in
    subst (NoneBefore c.args.held c.args.self.now.members.items c.args.sector) next
    (none_more c.args.held c.args.self.now.members.items c.args.sector c.loop-k.k c.loop-k.invariant (let t = c.loop-k-test.true in omega (arith, t))
    (ap (λ (e : Entry). has c.args.held e c.args.sector) (sym c.member.ensures) ∙ sym c.has_block.ensures ∙ c.if-has_block.false))

pub returns : goal.returns
returns c =
    none_at_all c.args.held c.args.self.now.members.items c.args.sector c.loop-k.k c.loop-k.invariant (let t = c.loop-k-test.false in omega (arith, t))
