use Rattle.std.proofs.Common.{refl}
use Rattle.mmc_bus.proofs.WorkLemmas.{moved_by}
use Rattle.mmc_recovery.proofs.order.set_block_length.Goals as goal

pub returns-in-Ok-clause-moves : goal.returns-in-Ok-clause-moves
returns-in-Ok-clause-moves g c kept =
    let old = g.B.Bus.view c.args.bus.now in
    let new = g.B.Bus.view c.ask.new.bus in
    let k = c.in-Ok.ensures.asked.exchanged.kept kept in
    let law = c.cmd16_sets_the_block_length.ensures in
    let facts = k.step.facts in
    moved_by old 16 512 _ new refl k
    (λ ok. (
      k.step.met,
      k.step.passes,
      ((law.does k.step.met new _ facts).there c.in-Ok.field-0 refl, law.answered k.step.met new c.in-Ok.field-0 _ facts refl),
    )) (λ same. tt)

pub returns-in-Err-clause-moves : goal.returns-in-Err-clause-moves
returns-in-Err-clause-moves g c kept =
    let old = g.B.Bus.view c.args.bus.now in
    let new = g.B.Bus.view c.ask.new.bus in
    moved_by old 16 512 _ new refl (c.in-Err.ensures.asked.exchanged.kept kept) (λ never. absurd (cc never)) (λ same. tt)
