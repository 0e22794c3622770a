use Rattle.std.proofs.Common.{[], ◌∷◌, ◌++◌, List, subst}
use Rattle.card_text.specs.declared.event.ScriptEvent.{ScriptEvent}
use Rattle.card_text.specs.declared.event.ScriptEvent.TheVariants.{Run}
use Rattle.cardtool.proofs.DeviceLemmas.{ServedSoFar, later_then, so_far_broken, so_far_none, so_far_then}
use Rattle.cardtool.proofs.play.play.Goals as goal

pub loop-event-init : goal.loop-event-init
loop-event-init g c = record {
  so_far = so_far_none g.B.Bus.view c.args.device.now (c.args.script ++ Run ∷ []) _;
  none = c.new-given.ensures;
}

pub loop-event-preserved : goal.loop-event-preserved
loop-event-preserved g c = record {
  so_far = so_far_then g.B.Bus.view c.args.device.now c.loop-event.device c.play_event.new.device (c.args.script ++ Run ∷ [])
      (c.in-Some.event ∷ []) (c.take_first.new.self ++ Run ∷ []) [] _ (g.W.Write.contents c.loop-event.out) _ _ _
      (subst (λ (s : List ScriptEvent). ServedSoFar g.B.Bus.view c.args.device.now c.loop-event.device
      (c.args.script ++ Run ∷ []) (s ++ Run ∷ []) (g.W.Write.contents c.args.out.now)
      (g.W.Write.contents c.loop-event.out) c.loop-event.bad) c.in-Some.ensures.first c.loop-event.invariant.so_far)
      c.play_event.ensures.plays.later_device c.in_ok-bad.ensures.plays.serves;
  none = c.play_event.ensures.none;
}

pub returns-in_err-bad : goal.returns-in_err-bad
returns-in_err-bad g c = record {
  serves = so_far_broken g.B.Bus.view c.args.device.now c.loop-event.device c.play_event.new.device
      (c.args.script ++ Run ∷ []) (c.in-Some.event ∷ []) (c.take_first.new.self ++ Run ∷ []) _
      (g.W.Write.contents c.loop-event.out) _ _ c.from_residual.result c.from_residual.ensures.0
      (subst (λ (s : List ScriptEvent). ServedSoFar g.B.Bus.view c.args.device.now c.loop-event.device
      (c.args.script ++ Run ∷ []) (s ++ Run ∷ []) (g.W.Write.contents c.args.out.now)
      (g.W.Write.contents c.loop-event.out) c.loop-event.bad) c.in-Some.ensures.first c.loop-event.invariant.so_far)
      c.play_event.ensures.plays.later_device c.in_err-bad.ensures.plays.serves;
  later_device = later_then _ _ _ _ c.loop-event.invariant.so_far.later_device c.play_event.ensures.plays.later_device;
}

pub returns-in_err-run : goal.returns-in_err-run
returns-in_err-run g c = record {
  serves = so_far_broken g.B.Bus.view c.args.device.now c.loop-event.device c.run.new.device
      (c.args.script ++ Run ∷ []) (Run ∷ []) [] _ (g.W.Write.contents c.loop-event.out) _ _
      c.from_residual-in_err-run.result c.from_residual-in_err-run.ensures.0
      (subst (λ (s : List ScriptEvent). ServedSoFar g.B.Bus.view c.args.device.now c.loop-event.device
      (c.args.script ++ Run ∷ []) (s ++ Run ∷ []) (g.W.Write.contents c.args.out.now)
      (g.W.Write.contents c.loop-event.out) c.loop-event.bad) c.in_default.ensures.none c.loop-event.invariant.so_far)
      c.run.ensures.plays.later_device c.in_err-run.ensures.plays.serves;
  later_device = later_then _ _ _ _ c.loop-event.invariant.so_far.later_device c.run.ensures.plays.later_device;
}

pub returns : goal.returns
returns g c =
    let ended = so_far_then g.B.Bus.view c.args.device.now c.loop-event.device c.run.new.device
    (c.args.script ++ Run ∷ []) (Run ∷ []) [] [] _ (g.W.Write.contents c.loop-event.out) _ _ _
    (subst (λ (s : List ScriptEvent). ServedSoFar g.B.Bus.view c.args.device.now c.loop-event.device
    (c.args.script ++ Run ∷ []) (s ++ Run ∷ []) (g.W.Write.contents c.args.out.now)
    (g.W.Write.contents c.loop-event.out) c.loop-event.bad) c.in_default.ensures.none c.loop-event.invariant.so_far)
    c.run.ensures.plays.later_device c.in_ok-run.ensures.plays.serves in
    record { serves = ended.serves; later_device = ended.later_device }
