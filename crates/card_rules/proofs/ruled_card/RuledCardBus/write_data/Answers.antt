use Rattle.mmc_card.specs.Faults.{WriteStep}
use Rattle.mmc_card.specs.declared.exchange.Exchange.TheVariants.{Out}
use Rattle.card_rules.proofs.RuledLemmas.{exchanged, falls_as}
use Rattle.card_rules.specs.RuledCards.{DoesWrite, IsChosen}
use Rattle.card_rules.specs.declared.moment.Moment.TheVariants.{Write}
use Rattle.card_rules.proofs.StepLemmas.{write_seen}
use Rattle.card_rules.proofs.ruled_card.RuledCardBus.write_data.Goals as goal

pub returns : goal.returns
returns c =
    let e = c.write_data-got.ensures in
    let prepared = c.prepare-fault.ensures.prepared in
    record {
      exchanged =
          exchanged c.args.self.now c.prepare-fault.new.self (record c.note.new.self { place = c.after_block-self.result })
          c.write_data-got.new.self (Out c.write_data-got.result)
          (λ old new. WriteStep old c.args.block.now c.write_data-got.result new) prepared c.note.ensures.card
          c.note.ensures.rules (λ a b. write_seen _ _ a b _ _) e.exchanged;
      falls =
          falls_as c.args.self.now.card c.prepare-fault.new.self.card c.write_data-got.new.self c.note.new.self.card prepared.plans.card
          e.plan c.note.ensures.card (λ f m n. DoesWrite f m c.args.block.now c.write_data-got.result n) (λ d. d) (e.does, e.counts);
      chosen =
          falls_as c.args.self.now.card c.prepare-fault.new.self.card c.write_data-got.new.self c.note.new.self.card prepared.plans.card
          e.plan c.note.ensures.card (λ f m n. IsChosen c.args.self.now (Write c.args.self.now.place.next) f) (λ d. d)
          c.prepare-fault.ensures.chosen;
    }
