use Rattle.std.proofs.Common.{arith, false, subst, sym, ◌≡◌}
use Rattle.std.proofs.lemmas.Bool.{false≢true}
use Rattle.mmc_bus.specs.Exchanges.{Polled}
use Rattle.mmc_card.specs.declared.exchange.Exchange.TheVariants.{Busy}
use Rattle.mmc_card_sim.specs.SimView.{sim_bus_view}
use Rattle.mmc_card_sim.proofs.MovingLemmas.{no_poll_fails, one_of, rests_after, says_no}
use Rattle.mmc_card_sim.proofs.sim_card.SimCard.is_ready_after.Goals as goal

-- what it said
said : (c : goal.After-busy) → c.busy.result ≡ false
said c =
    let (plan, none) = c.is_smooth.ensures c.if-not-is_smooth.false in
    says_no c.args.self.now.delays c.args.self.now.card c.busy.new.self.card c.busy.result none (rw plan at c.busy.ensures.does)

pub returns-clause-rested : goal.returns-clause-rested
returns-clause-rested c = λ rested.
    let old = sim_bus_view c.args.self.now in
    let new = sim_bus_view c.busy.new.self in
    rests_after c.args.done old new (omega arith)
    (one_of old new (Busy false) _ (subst (λ yes. Polled old yes new) (said c) c.busy.ensures.exchanged))

pub returns-clause-none : goal.returns-clause-none
returns-clause-none c = λ waits. absurd (false≢true (sym (rw (said c) at waits)))

pub returns-clause-faults : goal.returns-clause-faults
returns-clause-faults c = λ none. no_poll_fails c.args.self.now.plan _ _ _ _ none c.busy.ensures.counts
