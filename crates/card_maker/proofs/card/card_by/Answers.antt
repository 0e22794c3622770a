use Rattle.std.proofs.Common.{subst, sym}
use Rattle.card_maker.specs.Wanted.{HasWanted}
use Rattle.card_maker.proofs.MadeLemmas.{can_be_built}
use Rattle.card_maker.proofs.card.card_by.Goals as goal

pub returns-clause-can_be_built : goal.returns-clause-can_be_built
returns-clause-can_be_built c =
    let wanted = c.args.wanted.now in
    can_be_built wanted c.plain.result (record {
      registers = subst (HasWanted wanted) (sym c.plain.ensures.registers) c.registers.ensures.wanted;
      sectors = c.plain.ensures.sectors;
      plain = c.plain.ensures.plain;
    })
