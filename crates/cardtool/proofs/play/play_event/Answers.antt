use Rattle.std.proofs.Common.{[], ◌∷◌, subst, sym}
use Rattle.card_text.specs.declared.event.ScriptEvent.{ScriptEvent}
use Rattle.cardtool.specs.Serving.{Plays}
use Rattle.cardtool.proofs.ServingLemmas.{one_turn}
use Rattle.cardtool.proofs.play.play_event.Goals as goal

pub returns-in-Turn-clause-plays : goal.returns-in-Turn-clause-plays
returns-in-Turn-clause-plays g c =
    subst (λ (e : ScriptEvent). Plays g.B.Bus.view c.args.device.now c.turn.new.device (e ∷ [])
    (g.W.Write.contents c.args.out.now) (g.W.Write.contents c.turn.new.out) c.turn.result) (sym c.in-Turn.is)
    (record {
      later_device = c.turn.ensures.later_device;
      serves = λ kept. one_turn _ _ _ _ _ _ (c.turn.ensures.turns kept);
    })
