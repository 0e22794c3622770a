-- The last of those that are left is appended next.
use Rattle.std.proofs.Common.{◌++◌, ◌∙◌, ◌∷◌, [], ap, append-nil, append_assoc, arith, length, reverse, sym}
use Rattle.std.proofs.lemmas.List.{length-append, length-reverse, reverse-reverse}
use Rattle.mmc_block.proofs.BackLemmas.{last_first, none_left, turned}
use Rattle.mmc_block.proofs.run.append.Goals as goal

pub loop-completion-init : goal.loop-completion-init
loop-completion-init c =
    let answers = c.args.answers.now in
    let back = turned answers c.reverse.new.self (c.reverse.ensures.after ∙ ap reverse c.deref_mut.ensures.value) in
    let long = length-reverse answers.items in
    let room = c.requires.room in
    rw back record {
      told = ap (λ rs. c.args.all.now.items ++ rs) (reverse-reverse answers.items);
      len = omega (arith, long);
      room = omega (arith, long, room);
      capacity = omega arith;
    }

pub loop-completion-preserved : goal.loop-completion-preserved
loop-completion-preserved c =
    let is = c.in-Some.ensures.items in
    let inv = c.loop-completion.invariant in
    let room = inv.room in
    let len = inv.len in
    let capacity = inv.capacity in
    let fewer = ap length is in
    let parts = length-append c.pop.new.self.items (c.in-Some.completion ∷ []) in
    let more = c.in-Ok.ensures.len in
    let holds = c.in-Ok.ensures.capacity in
    record {
      told = rw c.in-Ok.ensures.items
          (append_assoc c.loop-completion.all.items (c.in-Some.completion ∷ []) (reverse c.pop.new.self.items)
          ∙ sym (ap (λ rs. c.loop-completion.all.items ++ rs)
          (last_first c.loop-completion.answers.items c.pop.new.self.items c.in-Some.completion is)) ∙ inv.told);
      len = omega (arith, len, fewer, parts, more);
      room = omega (arith, room, fewer, parts, more, holds, c.in-Ok.ensures.lower_bound);
      capacity = omega (arith, capacity, holds);
    }

pub returns : goal.returns
returns c =
    let none = none_left c.loop-completion.answers.items c.pop.new.self.items c.pop.result c.in_default.is
    c.pop.ensures.items c.pop.ensures.variant.1 in
    let inv = c.loop-completion.invariant in
    let len = inv.len in
    let empty = ap length none.0 in
    record {
      items = sym (append-nil c.loop-completion.all.items)
          ∙ sym (ap (λ rs. c.loop-completion.all.items ++ reverse rs) none.0) ∙ inv.told;
      len = omega (arith, len, empty);
      capacity = inv.capacity;
      none = none.1;
    }
