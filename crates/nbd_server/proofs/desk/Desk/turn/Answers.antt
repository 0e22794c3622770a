use Rattle.std.proofs.Common.{arith, refl, sym}
use Rattle.nbd_server.proofs.DeskLemmas.{turn_does, turn_numbered}
use Rattle.nbd_server.proofs.desk.Desk.turn.Goals as goal

pub invariant_of-self : goal.invariant_of-self
invariant_of-self g c = record {
  numbered = turn_numbered _ _ _ _ _ _ c.turn_at.ensures.answers c.self.invariant.numbered;
  each = omega (arith, c.turn_at.ensures.leaves, c.self.invariant.each);
  few = c.self.invariant.few;
  none = c.clear.ensures;
}

pub returns-clause-does : goal.returns-clause-does
returns-clause-does g c = (
  c.turn_at.new.given.items,
  rw (sym c.self.view_is) (turn_does g.B.Bus.view _ _ _ c.turn_at.new.given.items _ _ _ c.turn_at.ensures refl
      (rw (c.as_slice-2.ensures.value, c.as_slice.ensures.value) at c.put_answers-put.ensures)),
)
