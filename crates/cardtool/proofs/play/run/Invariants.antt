use Rattle.std.proofs.Common.{[], ◌∷◌, ◌≡◌}
use Rattle.mmc_block.specs.Device.{work_of}
use Rattle.card_text.specs.declared.event.ScriptEvent.TheVariants.{Run}
use Rattle.cardtool.proofs.DeviceLemmas.{ServedSoFar}
use Rattle.cardtool.proofs.play.run.Given as goal

abbrev pub invariant-loop-device : goal.invariant-loop-device
invariant-loop-device g l =
    record {
      so_far : ServedSoFar g.B.Bus.view l.fn.device l.device (Run ∷ []) (Run ∷ []) (g.W.Write.contents l.fn.out)
          (g.W.Write.contents l.out) l.bad;
      none : l.given.items ≡ [];
    }

abbrev pub decreases-loop-device : goal.decreases-loop-device
decreases-loop-device g l = work_of l.device
