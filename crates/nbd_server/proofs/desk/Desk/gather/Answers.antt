use Rattle.std.proofs.Common.{[], ap, arith, sym, ◌++◌, ◌∙◌, ◌∷◌}
use Rattle.mmc_block.specs.Device.{unanswered_of}
use Rattle.nbd_server.specs.Acts.Act.{Clears, Gathers}
use Rattle.nbd_server.specs.Desk.{DeskView}
use Rattle.nbd_server.proofs.DeskLemmas.{cleared, leads_none, leads_then, no_parts, parts_more}
use Rattle.nbd_server.proofs.PartsLemmas.{gathered_cleared, gathered_more, gathered_none}
use Rattle.nbd_server.proofs.desk.Desk.gather.Goals as goal

pub loop-self-init : goal.loop-self-init
loop-self-init g c =
    let waiting = ap (λ (d : DeskView _). unanswered_of d.device) c.self.view_is in
    record {
      acts = [];
      of_parts = no_parts;
      leads = leads_none g.B.Bus.view _;
      all = rw c.new-all.ensures gathered_none;
      room = rw c.new-all.ensures (omega (arith, waiting, c.self.invariant.each, c.self.invariant.few));
    }

pub loop-self-preserved : goal.loop-self-preserved
loop-self-preserved g c =
    let (given, leads, more) = c.gather_turn.ensures.leads in
    let so_far = c.loop-self.invariant in
    record {
      acts = so_far.acts ++ Gathers given ∷ [];
      of_parts = parts_more so_far.acts (Gathers given) so_far.of_parts tt;
      leads = leads_then g.B.Bus.view _ _ _ so_far.acts (Gathers given ∷ []) so_far.leads leads;
      all = gathered_more so_far.acts given _ _ so_far.all more;
      room = omega (arith, so_far.room, c.gather_turn.ensures.leaves);
    }

pub returns-clause-leads : goal.returns-clause-leads
returns-clause-leads g c =
    let so_far = c.loop-self.invariant in
    let none = c.work_left.ensures.none.0 (omega arith) in
    let now : DeskView _ = record { device = c.self-2.inside.device; cookies = c.clear.new.self.items } in (
      so_far.acts ++ Clears ∷ [],
      parts_more so_far.acts Clears so_far.of_parts tt,
      leads_then g.B.Bus.view _ c.loop-self.self now so_far.acts (Clears ∷ []) so_far.leads
          (cleared g.B.Bus.view c.loop-self.self now
          (ap (λ (d : DeskView _). unanswered_of d.device) (sym c.self-in-loop-self.view_is) ∙ none)
          (ap (λ (d : DeskView _). d.device) c.self-2.view_is) c.clear.ensures),
      gathered_cleared so_far.acts _ so_far.all,
    )
