use Rattle.mmc_card.specs.Faults.{PollStep}
use Rattle.mmc_card.specs.declared.exchange.Exchange.TheVariants.{Busy}
use Rattle.card_rules.proofs.RuledLemmas.{exchanged, falls_as}
use Rattle.card_rules.specs.RuledCards.{DoesPoll, IsChosen}
use Rattle.card_rules.specs.declared.moment.Moment.TheVariants.{Poll}
use Rattle.card_rules.proofs.StepLemmas.{poll_seen}
use Rattle.card_rules.proofs.ruled_card.RuledCardBus.busy.Goals as goal

pub returns : goal.returns
returns c =
    let e = c.busy-yes.ensures in
    let prepared = c.prepare-fault.ensures.prepared in
    record {
      exchanged =
          exchanged c.args.self.now c.prepare-fault.new.self c.note.new.self c.busy-yes.new.self (Busy c.busy-yes.result)
          (λ old new. PollStep old c.busy-yes.result new) prepared c.note.ensures.card c.note.ensures.rules
          (λ a b. poll_seen _ _ a b _) e.exchanged;
      falls =
          falls_as c.args.self.now.card c.prepare-fault.new.self.card c.busy-yes.new.self c.note.new.self.card prepared.plans.card
          e.plan c.note.ensures.card (λ f m n. DoesPoll f m c.busy-yes.result n) (λ d. d) (e.does, e.counts);
      chosen =
          falls_as c.args.self.now.card c.prepare-fault.new.self.card c.busy-yes.new.self c.note.new.self.card prepared.plans.card
          e.plan c.note.ensures.card (λ f m n. IsChosen c.args.self.now Poll f) (λ d. d)
          c.prepare-fault.ensures.chosen;
    }
