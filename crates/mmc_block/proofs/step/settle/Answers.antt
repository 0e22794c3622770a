use Rattle.std.proofs.Common.{arith, refl, rules}
use Rattle.mmc_block.proofs.StepLemmas.{broken_did, settle_paid, same_lent, ready_did}
use Rattle.mmc_block.proofs.step.settle.Goals as goal

pub returns-in-Ok-clause-advances : goal.returns-in-Ok-clause-advances
returns-in-Ok-clause-advances g c group joined = record {
  lent = same_lent group.members.items;
  extent = refl;
  joined = joined;
  of = tt;
  goes_on = tt;
  info_is = (rw c.in-Ok.is at c.settle_with-settled.ensures.ok).0;
  lowers = search rules;
  bounded = c.settle_with-settled.ensures.bounded;
  paid = (settle_paid c.in-Ok.session c.args.broken group.extent.part (g.B.Bus.view c.args.bus.now) (g.B.Bus.view c.settle_with-settled.new.bus) c.settle_with-settled.ensures.bounded).0;
  kept = c.settle_with-settled.ensures.kept;
  cause = tt;
}

pub returns-in-Err-clause-advances : goal.returns-in-Err-clause-advances
returns-in-Err-clause-advances g c group joined = record {
  lent = same_lent group.members.items;
  extent = refl;
  joined = joined;
  of = tt;
  goes_on = tt;
  info_is = search rules;
  lowers = omega arith;
  bounded = c.settle_with-settled.ensures.bounded;
  paid = (settle_paid c.in-Err.broken.session c.in-Err.broken group.extent.part (g.B.Bus.view c.args.bus.now) (g.B.Bus.view c.settle_with-settled.new.bus) c.settle_with-settled.ensures.bounded).1;
  kept = c.settle_with-settled.ensures.kept;
  cause = search rules;
}

pub returns-in-Ok-clause-did : goal.returns-in-Ok-clause-did
returns-in-Ok-clause-did g c kept is_broken group faults =
    ready_did _ group _ c.in-Ok.session _ _ (c.settle_with-settled.ensures.stays kept)
    (rw c.in-Ok.is at (c.settle_with-settled.ensures.settled kept is_broken))

pub returns-in-Err-clause-did : goal.returns-in-Err-clause-did
returns-in-Err-clause-did g c kept is_broken group faults =
    broken_did _ group _ c.in-Err.broken _ _ (c.settle_with-settled.ensures.stays kept)
    (rw c.in-Err.is at (c.settle_with-settled.ensures.settled kept is_broken))
    (λ made. let fell = c.settle_with-settled.ensures.refused kept is_broken made (rw c.in-Err.is refl) in omega (arith, fell))

pub returns-in-Ok-clause-healed : goal.returns-in-Ok-clause-healed
returns-in-Ok-clause-healed g c = record {
  was_reset = c.settle_with-settled.result.1;
  tells = rw c.in-Ok.is at c.settle_with-settled.ensures.told;
  healed = c.settled.ensures;
}

pub returns-in-Err-clause-healed : goal.returns-in-Err-clause-healed
returns-in-Err-clause-healed g c = record {
  was_reset = c.settle_with-settled.result.1;
  tells = rw c.in-Err.is at c.settle_with-settled.ensures.told;
  healed = c.settled.ensures;
}
