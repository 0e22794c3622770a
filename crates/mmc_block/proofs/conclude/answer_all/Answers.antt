-- The last of those that are left is answered next.
use Rattle.std.proofs.Common.{◌++◌, ◌∙◌, ◌∷◌, [], ap, append-nil, arith, length, map, reverse, sym}
use Rattle.std.proofs.lemmas.List.{length-append, length-reverse, reverse-reverse}
use Rattle.mmc_block.specs.Entries.{completion_of}
use Rattle.mmc_block.proofs.BackLemmas.{given_more, none_left, turned}
use Rattle.mmc_block.proofs.conclude.answer_all.Goals as goal

pub loop-ticket-init : goal.loop-ticket-init
loop-ticket-init c =
    let members = c.args.members.now in
    let back = turned members c.reverse.new.self (c.reverse.ensures.after ∙ ap reverse c.deref_mut.ensures.value) in
    let few = c.deref_mut.ensures.fits in
    let same = ap length c.deref_mut.ensures.value in
    let long = length-reverse members.items in
    rw (back, c.requires) record {
      told = ap (map completion_of) (reverse-reverse members.items);
      room = omega (arith, few, same, long);
    }

pub loop-ticket-preserved : goal.loop-ticket-preserved
loop-ticket-preserved c =
    let is = rw c.in-Some.is at c.pop.ensures.items in
    let room = c.loop-ticket.invariant.room in
    let fewer = ap length is in
    let more = c.push.ensures.len in
    let parts = length-append c.pop.new.self.items (c.in-Some.field-0 ∷ []) in
    record {
      told = rw (c.push.ensures.items, c.answer.ensures)
          (given_more completion_of c.loop-ticket.members.items c.pop.new.self.items c.in-Some.field-0
          c.loop-ticket.answers.items (map completion_of c.args.members.now.items) is c.loop-ticket.invariant.told);
      room = omega (arith, room, fewer, more, parts);
    }

pub returns : goal.returns
returns c =
    let none = none_left c.loop-ticket.members.items c.pop.new.self.items c.pop.result c.in_default.is
    c.pop.ensures.items c.pop.ensures.variant.1 in
    record {
      answers = sym (append-nil c.loop-ticket.answers.items)
          ∙ sym (ap (λ ms. c.loop-ticket.answers.items ++ map completion_of (reverse ms)) none.0) ∙ c.loop-ticket.invariant.told;
      members = none.1;
    }
