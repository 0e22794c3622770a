use Rattle.std.proofs.Common.{length}
use Rattle.mmc_card.specs.Faults.{ReadStep}
use Rattle.mmc_card.specs.declared.exchange.Exchange.TheVariants.{In}
use Rattle.card_rules.proofs.RuledLemmas.{exchanged, falls_as}
use Rattle.card_rules.specs.RuledCards.{DoesRead, IsChosen}
use Rattle.card_rules.specs.declared.moment.Moment.TheVariants.{Read}
use Rattle.card_rules.proofs.StepLemmas.{read_seen}
use Rattle.card_rules.proofs.ruled_card.RuledCardBus.read_data.Goals as goal

pub returns : goal.returns
returns c =
    let e = c.read_data-got.ensures in
    let prepared = c.prepare-fault.ensures.prepared in
    record {
      exchanged =
          exchanged c.args.self.now c.prepare-fault.new.self (record c.note.new.self { place = c.after_block-self.result })
          c.read_data-got.new.self (In (length c.args.buffer.now) c.read_data-got.result)
          (λ old new. ReadStep old (length c.args.buffer.now) c.read_data-got.result c.read_data-got.new.buffer new) prepared
          c.note.ensures.card c.note.ensures.rules (λ a b. read_seen _ _ a b _ _ _) e.exchanged;
      falls =
          falls_as c.args.self.now.card c.prepare-fault.new.self.card c.read_data-got.new.self c.note.new.self.card prepared.plans.card
          e.plan c.note.ensures.card (λ f m n. DoesRead f m (length c.args.buffer.now) c.read_data-got.result c.read_data-got.new.buffer n) (λ d. d) (e.does, e.counts);
      chosen =
          falls_as c.args.self.now.card c.prepare-fault.new.self.card c.read_data-got.new.self c.note.new.self.card prepared.plans.card
          e.plan c.note.ensures.card (λ f m n. IsChosen c.args.self.now (Read c.args.self.now.place.next) f) (λ d. d)
          c.prepare-fault.ensures.chosen;
    }
