use Rattle.std.proofs.Common.{[], ◌∷◌, ◌++◌, ◌≡◌, length}
use Rattle.card_text.specs.declared.event.ScriptEvent.TheVariants.{Run}
use Rattle.cardtool.proofs.DeviceLemmas.{ServedSoFar}
use Rattle.cardtool.proofs.play.play.Given as goal

abbrev pub invariant-loop-event : goal.invariant-loop-event
invariant-loop-event g l =
    record {
      so_far : ServedSoFar g.B.Bus.view l.fn.device l.device (l.fn.script ++ Run ∷ []) (l.script ++ Run ∷ [])
          (g.W.Write.contents l.fn.out) (g.W.Write.contents l.out) l.bad;
      none : l.given.items ≡ [];
    }

abbrev pub decreases-loop-event : goal.decreases-loop-event
decreases-loop-event g l = length l.script
