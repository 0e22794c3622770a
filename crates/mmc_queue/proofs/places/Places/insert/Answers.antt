use Rattle.std.proofs.Common.{subst, true, false}
use Rattle.std.specs.BTreeSet.{Updates}
use Rattle.mmc_queue.specs.Places.{place_cmp}
use Rattle.mmc_queue.proofs.SetLemmas.{both_in, rolled_back}
use Rattle.mmc_queue.proofs.places.Places.insert.Goals as goal

pub returns-in-Ok-clause-ok : goal.returns-in-Ok-clause-ok
returns-in-Ok-clause-ok c q =
    let old = c.args.self.now.items in
    both_in c.args.entry.now old c.insert.new.self c.insert-2.new.self q
    (subst (λ p. Updates place_cmp old c.insert.new.self p true) c.of-start.ensures c.in_ok-insert.ensures.updates)
    (subst (λ p. Updates place_cmp c.insert.new.self c.insert-2.new.self p true) c.of.ensures c.in-Ok.ensures.updates)

pub returns-in-Err-clause-err : goal.returns-in-Err-clause-err
returns-in-Err-clause-err c q =
    let old = c.args.self.now.items in
    let kept = c.insert-2.new.self in
    rolled_back c.args.entry.now old c.insert.new.self kept c.remove.new.self q (c.requires.absent q)
    (subst (λ p. Updates place_cmp old c.insert.new.self p true) c.of-start.ensures c.in_ok-insert.ensures.updates)
    c.in-Err.ensures.err
    (subst (λ p. Updates place_cmp kept c.remove.new.self p false) c.of-start.ensures c.remove.ensures.updates)
