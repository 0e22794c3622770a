use Rattle.std.proofs.Common.{[], ap, arith, sym, ◌++◌, ◌∙◌, ◌∷◌}
use Rattle.mmc_block.specs.Device.{unanswered_of}
use Rattle.nbd_server.specs.Desk.{DeskView}
use Rattle.nbd_server.specs.Acts.Act.{Clears, Turns}
use Rattle.nbd_server.proofs.DeskLemmas.{cleared_does, does_failed, does_none, does_then, no_turns, turns_more}
use Rattle.nbd_server.proofs.desk.Desk.drain.Goals as goal

pub loop-self-init : goal.loop-self-init
loop-self-init g c = record { acts = []; turns = no_turns; does = does_none g.B.Bus.view _ _ tt }

pub loop-self-preserved : goal.loop-self-preserved
loop-self-preserved g c =
    let (given, does) = c.in_ok-turn.ensures.does in
    let so_far = c.loop-self.invariant in
    record {
      acts = so_far.acts ++ Turns given ∷ [];
      turns = turns_more so_far.acts (Turns given) so_far.turns tt;
      does = does_then g.B.Bus.view _ _ _ _ _ _ tt _ so_far.acts (Turns given ∷ []) so_far.does does;
    }

pub returns-in_err-turn-clause-does : goal.returns-in_err-turn-clause-does
returns-in_err-turn-clause-does g c =
    let (given, does) = c.in_err-turn.ensures.does in
    let so_far = c.loop-self.invariant in (
      so_far.acts ++ Turns given ∷ [],
      turns_more so_far.acts (Turns given) so_far.turns tt,
      does_failed g.B.Bus.view _ _ _ _ _ _ _ c.from_residual.ensures.0
          (does_then g.B.Bus.view _ _ _ _ _ _ tt _ so_far.acts (Turns given ∷ []) so_far.does does),
    )

pub returns-clause-does : goal.returns-clause-does
returns-clause-does g c =
    let so_far = c.loop-self.invariant in
    let none = c.work_left.ensures.none.0 (omega arith) in
    let now : DeskView _ = record { device = c.self-2.inside.device; cookies = c.clear.new.self.items } in (
      so_far.acts ++ Clears ∷ [],
      turns_more so_far.acts Clears so_far.turns tt,
      does_then g.B.Bus.view _ c.loop-self.self now _ _ _ tt _ so_far.acts (Clears ∷ []) so_far.does
          (cleared_does g.B.Bus.view c.loop-self.self now _ tt
          (ap (λ (d : DeskView _). unanswered_of d.device) (sym c.self.view_is) ∙ none)
          (ap (λ (d : DeskView _). d.device) c.self-2.view_is) c.clear.ensures),
    )
