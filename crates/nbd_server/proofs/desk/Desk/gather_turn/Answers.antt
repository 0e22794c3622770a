use Rattle.std.proofs.Common.{arith, refl, sym}
use Rattle.nbd_server.proofs.DeskLemmas.{gathered, turn_numbered}
use Rattle.nbd_server.proofs.desk.Desk.gather_turn.Goals as goal

pub invariant_of-self : goal.invariant_of-self
invariant_of-self g c = record {
  numbered = turn_numbered _ _ _ _ _ _ c.turn_at.ensures.answers c.self.invariant.numbered;
  each = omega (arith, c.turn_at.ensures.leaves, c.self.invariant.each);
  few = c.self.invariant.few;
  none = c.keep_all.ensures.emptied;
}

pub returns-clause-leads : goal.returns-clause-leads
returns-clause-leads g c = (
  c.turn_at.new.given.items,
  rw (sym c.self.view_is) (gathered g.B.Bus.view _ _ _ c.turn_at.new.given.items c.turn_at.ensures refl),
  c.keep_all.ensures.kept,
)
