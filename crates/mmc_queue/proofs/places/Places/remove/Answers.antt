use Rattle.std.proofs.Common.{subst, false}
use Rattle.std.specs.BTreeSet.{Updates}
use Rattle.mmc_queue.specs.Places.{place_cmp}
use Rattle.mmc_queue.proofs.SetLemmas.{both_out}
use Rattle.mmc_queue.proofs.places.Places.remove.Goals as goal

pub returns : goal.returns
returns c q =
    let old = c.args.self.now.items in
    both_out c.args.entry.now old c.remove.new.self c.remove-2.new.self q
    (subst (λ p. Updates place_cmp old c.remove.new.self p false) c.of.ensures c.remove.ensures.updates)
    (subst (λ p. Updates place_cmp c.remove.new.self c.remove-2.new.self p false) c.of-2.ensures c.remove-2.ensures.updates)
