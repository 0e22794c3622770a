use Rattle.std.proofs.Common.{[], ◌∷◌, arith}
use Rattle.card_text.specs.declared.event.ScriptEvent.TheVariants.{Run}
use Rattle.cardtool.proofs.DeviceLemmas.{later_none, later_then, so_far_broken, so_far_none, so_far_then, some_unanswered}
use Rattle.cardtool.proofs.ServingLemmas.{run_idle, run_turn, run_turn_broken}
use Rattle.cardtool.proofs.play.run.Goals as goal

pub loop-device-init : goal.loop-device-init
loop-device-init g c = record {
  so_far = so_far_none g.B.Bus.view c.args.device.now (Run ∷ []) _;
  none = c.requires;
}

pub loop-device-preserved : goal.loop-device-preserved
loop-device-preserved g c = record {
  so_far = so_far_then g.B.Bus.view c.args.device.now c.loop-device.device c.turn.new.device (Run ∷ []) (Run ∷ []) []
      (Run ∷ []) _ (g.W.Write.contents c.loop-device.out) _ _ _ c.loop-device.invariant.so_far
      c.turn.ensures.later_device
      (λ kept. run_turn g.B.Bus.view c.loop-device.device c.turn.new.device _ _ _
      (some_unanswered c.work_left.result _ c.work_left.ensures.none c.loop-device-test.true)
      (c.in_ok-bad.ensures.turns kept));
  none = c.turn.ensures.none;
}

pub returns-in_err-bad-clause-plays : goal.returns-in_err-bad-clause-plays
returns-in_err-bad-clause-plays g c = record {
  serves = so_far_broken g.B.Bus.view c.args.device.now c.loop-device.device c.turn.new.device (Run ∷ []) (Run ∷ [])
      [] _ (g.W.Write.contents c.loop-device.out) _ _ c.from_residual.result c.from_residual.ensures.0
      c.loop-device.invariant.so_far c.turn.ensures.later_device
      (λ kept. run_turn_broken g.B.Bus.view c.loop-device.device c.turn.new.device _ _ _
      (some_unanswered c.work_left.result _ c.work_left.ensures.none c.loop-device-test.true)
      (c.in_err-bad.ensures.turns kept));
  later_device = later_then _ _ _ _ c.loop-device.invariant.so_far.later_device c.turn.ensures.later_device;
}

pub returns-clause-plays : goal.returns-clause-plays
returns-clause-plays g c =
    let ended = so_far_then g.B.Bus.view c.args.device.now c.loop-device.device c.loop-device.device (Run ∷ [])
    (Run ∷ []) [] [] _ (g.W.Write.contents c.loop-device.out) (g.W.Write.contents c.loop-device.out) _ _
    c.loop-device.invariant.so_far (later_none g.B.Bus.view c.loop-device.device)
    (λ kept. run_idle g.B.Bus.view c.loop-device.device _ (c.work_left.ensures.none.0 (omega arith))) in
    record { serves = ended.serves; later_device = ended.later_device }
