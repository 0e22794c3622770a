use Rattle.std.proofs.Common.{arith, inl, refl}
use Rattle.mmc_switch.proofs.OpeningLemmas.{all_in_vain, at_last, in_vain_again}
use Rattle.mmc_switch.proofs.opening.initialize_in.Goals as goal

pub loop-rounds-init : goal.loop-rounds-init
loop-rounds-init g c = (inl (refl, refl), omega arith)

pub returns-in-Ok-clause-bounded : goal.returns-in-Ok-clause-bounded
returns-in-Ok-clause-bounded g c = omega (arith, c.loop-rounds.invariant.1, c.in-Ok.ensures.bounded, c.loop-rounds-test.true)

pub returns-in-Ok-clause-moves : goal.returns-in-Ok-clause-moves
returns-in-Ok-clause-moves g c kept =
    at_last c.loop-rounds._rounds c.loop-rounds.failed c.in-Ok.session (g.B.Bus.view c.args.bus.now) (g.B.Bus.view c.loop-rounds.bus)
    (g.B.Bus.view c.initialize.new.bus) c.loop-rounds.invariant.0 (c.in-Ok.ensures.moves kept)

pub loop-rounds-preserved : goal.loop-rounds-preserved
loop-rounds-preserved g c = (
  in_vain_again c.loop-rounds._rounds c.loop-rounds.failed c.in-Err.fault (g.B.Bus.view c.args.bus.now)
      (g.B.Bus.view c.loop-rounds.bus) (g.B.Bus.view c.initialize.new.bus) c.loop-rounds.invariant.0 c.in-Err.ensures.moves,
  omega (arith, c.loop-rounds.invariant.1, c.in-Err.ensures.bounded),
)

pub returns-clause-bounded : goal.returns-clause-bounded
returns-clause-bounded g c = omega (arith, c.loop-rounds.invariant.1, c.loop-rounds-test.false, c.loop-rounds.auto._rounds-end)

pub returns-clause-moves : goal.returns-clause-moves
returns-clause-moves g c kept =
    let n = c.loop-rounds-test.false in
    let some = c.requires.some in
    (all_in_vain c.loop-rounds._rounds c.loop-rounds.failed (g.B.Bus.view c.args.bus.now) (g.B.Bus.view c.loop-rounds.bus)
    (omega (arith, n, some)) c.loop-rounds.invariant.0 kept).0

pub returns-clause-refused : goal.returns-clause-refused
returns-clause-refused g c kept profile err =
    let n = c.loop-rounds-test.false in
    let some = c.requires.some in
    let fell = (all_in_vain c.loop-rounds._rounds c.loop-rounds.failed (g.B.Bus.view c.args.bus.now) (g.B.Bus.view c.loop-rounds.bus)
    (omega (arith, n, some)) c.loop-rounds.invariant.0 kept).1 profile in
    omega (arith, fell, n)
