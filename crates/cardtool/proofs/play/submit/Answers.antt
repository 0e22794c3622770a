use Rattle.std.proofs.Common.{subst, sym}
use Rattle.cardtool.specs.Serving.{IsLaterDevice}
use Rattle.cardtool.proofs.DeviceLemmas.{later_none, later_queued}
use Rattle.cardtool.proofs.ServingLemmas.{queued, refused}
use Rattle.cardtool.proofs.play.submit.Goals as goal
use Rattle.cardtool.proofs.play.submit.Goals.{in-Err, in-Ok}

pub returns : goal.returns
returns g c =
    elim c.match-submit.branch [
      | in-Ok w ↦ record {
        later_device = later_queued g.B.Bus.view _ _ c.args.client w.in-Ok.ticket c.args.request
            w.in-Ok.ensures.accepted;
        serves = λ kept.
            rw (w.result-is, w.out-is, w.answer.ensures)
            (queued g.B.Bus.view c.args.device.now _ c.args.client w.in-Ok.ticket c.args.request _ _ _
            w.in-Ok.ensures.accepted w.in-Ok.ensures.machine w.put_queued-printed.ensures);
      }
      | in-Err w ↦ record {
        later_device = subst (λ d. IsLaterDevice g.B.Bus.view c.args.device.now d) (sym w.in-Err.ensures.refused)
            (later_none g.B.Bus.view c.args.device.now);
        serves = λ kept.
            rw (w.result-is, w.out-is, w.answer-in-Err.ensures)
            (refused g.B.Bus.view c.args.device.now _ c.args.client c.args.request w.in-Err.refused _ _ _
            w.in-Err.ensures.refused w.in-Err.ensures.machine w.put_refused-printed.ensures);
      }
    ]
