use Rattle.std.proofs.Common.{Option, subst}
use Rattle.text_out.specs.Writing.{Writes}
use Rattle.mmc_card_sim.specs.declared.fault.Fault.{Fault as CardFault}
use Rattle.card_check.specs.Notes.{planned_note}
use Rattle.card_check.proofs.fault_notes.put_of_line.Goals as goal

pub returns : goal.returns
returns g c =
    subst (λ (planned : Option CardFault). Writes (g.W.Write.contents c.args.out.now) (g.W.Write.contents c.put_note.new.out)
    c.put_note.result (planned_note c.args.kind c.args.number planned)) c.planned.ensures c.put_note.ensures
