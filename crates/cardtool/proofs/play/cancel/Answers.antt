use Rattle.std.proofs.Common.{subst, sym}
use Rattle.cardtool.specs.Serving.{IsLaterDevice}
use Rattle.cardtool.proofs.DeviceLemmas.{later_cancelled, later_none}
use Rattle.cardtool.proofs.ServingLemmas.{cancelled, uncancelled}
use Rattle.cardtool.proofs.play.cancel.Goals as goal
use Rattle.cardtool.proofs.play.cancel.Goals.{in-Err, in-Ok}

pub returns : goal.returns
returns g c =
    elim c.match-cancel.branch [
      | in-Ok w ↦ record {
        later_device = later_cancelled g.B.Bus.view _ _ c.args.ticket _ w.in-Ok.ensures.cancelled;
        serves = λ kept.
            rw (w.result-is, w.out-is, w.answer.ensures)
            (cancelled g.B.Bus.view c.args.device.now _ c.args.ticket _ _ _ _
            w.in-Ok.ensures.cancelled w.in-Ok.ensures.machine w.put_cancelled-printed.ensures);
      }
      | in-Err w ↦ record {
        later_device = subst (λ d. IsLaterDevice g.B.Bus.view c.args.device.now d) (sym w.in-Err.ensures.refused)
            (later_none g.B.Bus.view c.args.device.now);
        serves = λ kept.
            rw (w.result-is, w.out-is, w.answer-in-Err.ensures)
            (uncancelled g.B.Bus.view c.args.device.now _ c.args.ticket w.in-Err.fault _ _ _
            w.in-Err.ensures.refused w.in-Err.ensures.machine w.put_uncancelled-printed.ensures);
      }
    ]
