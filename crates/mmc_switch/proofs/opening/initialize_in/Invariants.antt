use Rattle.std.proofs.Common.{◌*◌, ◌+◌, ◌≤◌}
use Rattle.mmc_switch.proofs.OpeningLemmas.{InVain}
use Rattle.mmc_switch.specs.declared.initialization.TheConstants.{EXCHANGES_OF_AN_INITIALIZATION}
use Rattle.mmc_switch.proofs.opening.initialize_in.Given as goal

abbrev pub invariant-loop-rounds : goal.invariant-loop-rounds
invariant-loop-rounds g l =
    let old = g.B.Bus.view l.fn.bus in
    let now = g.B.Bus.view l.bus in
    InVain l._rounds l.failed old now × (now.exchanges ≤ old.exchanges + l._rounds * EXCHANGES_OF_AN_INITIALIZATION)
