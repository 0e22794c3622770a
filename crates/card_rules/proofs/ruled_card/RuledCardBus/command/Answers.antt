use Rattle.std.specs.Prelude.{◌%◌, slice_index_or}
use Rattle.mmc_card.specs.Faults.{CommandStep}
use Rattle.mmc_card.specs.declared.exchange.Exchange.TheVariants.{Command}
use Rattle.card_rules.proofs.RuledLemmas.{exchanged, falls_as}
use Rattle.card_rules.specs.RuledCards.{DoesCommand, IsChosen}
use Rattle.card_rules.specs.declared.moment.Moment.TheVariants.{Command as Commands}
use Rattle.card_rules.proofs.StepLemmas.{command_seen}
use Rattle.card_rules.proofs.ruled_card.RuledCardBus.command.Goals as goal

pub returns : goal.returns
returns c =
    let e = c.command-reply.ensures in
    let prepared = c.prepare-fault.ensures.prepared in
    record {
      exchanged =
          exchanged c.args.self.now c.prepare-fault.new.self (record c.note.new.self { place = c.after_command-self.result })
          c.command-reply.new.self (Command c.args.frame c.args.want c.command-reply.result)
          (λ old new. CommandStep old c.args.frame c.command-reply.result new) prepared c.note.ensures.card c.note.ensures.rules
          (λ a b. command_seen _ _ a b _ _) e.exchanged;
      falls =
          falls_as c.args.self.now.card c.prepare-fault.new.self.card c.command-reply.new.self c.note.new.self.card prepared.plans.card
          e.plan c.note.ensures.card (λ f m n. DoesCommand f m c.args.frame c.command-reply.result n) (λ d. d) (e.does, e.counts);
      chosen =
          falls_as c.args.self.now.card c.prepare-fault.new.self.card c.command-reply.new.self c.note.new.self.card prepared.plans.card
          e.plan c.note.ensures.card (λ f m n. IsChosen c.args.self.now (Commands (slice_index_or c.args.frame 0 0 % 64)) f) (λ d. d)
          c.prepare-fault.ensures.chosen;
    }
