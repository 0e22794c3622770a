-- The first is the last of the list that is turned round.
use Rattle.std.proofs.Common.{◌∙◌, ap, reverse, sym}
use Rattle.mmc_block.proofs.BackLemmas.{taken_first, turned}
use Rattle.mmc_block.proofs.conclude.take_first.Goals as goal

pub returns : goal.returns
returns c =
    let members = c.args.members.now in
    let left = c.pop-first.new.self in
    let back = turned members c.reverse.new.self (c.reverse.ensures.after ∙ ap reverse c.deref_mut.ensures.value) in
    let rest = turned left c.reverse-2.new.self (c.reverse-2.ensures.after ∙ ap reverse c.deref_mut-2.ensures.value) in
    rw rest (taken_first members.items left.items c.pop-first.result (sym back ∙ c.pop-first.ensures.items)
    (λ some. c.pop-first.ensures.variant.1 (rw back some)))
