use Rattle.std.specs.Prelude.{reverse}
use Rattle.mmc_block.specs.Clients.Told.{Submitted}
use Rattle.mmc_history.proofs.ServingLemmas.{bus_and_info, continues, goes_on, kept_by, same_by, tells_beside}
use Rattle.mmc_history.proofs.device.Device.submit.Goals as goal

pub invariant_of-self : goal.invariant_of-self
invariant_of-self g c =
    let old = c.self.inside.device in
    let new = c.submit-reply.new.self in
    let e = c.submit-reply.ensures in
    let same = same_by old new c.submit-reply.result e.accepted
    (λ _ given. bus_and_info new _ given.waits)
    e.refused in
    goes_on g.B.Bus.view c.self.inside.opened (Submitted c.args.client c.args.request c.submit-reply.result) old new
    c.self.inside.calls.past c.then-self-inside.result.past (rw c.of-asked.ensures at c.then-self-inside.ensures) same.1
    (kept_by g.B.Bus.view old.bus new.bus same.0) (λ kept. e.machine) c.self.invariant

pub returns : goal.returns
returns g c =
    let old = c.self.inside.device in
    let new = c.submit-reply.new.self in
    let e = c.submit-reply.ensures in
    let same = same_by old new c.submit-reply.result e.accepted
    (λ _ given. bus_and_info new _ given.waits)
    e.refused in
    let laws = c.an_execution_has_its_laws.ensures in
    let see = c.clients_see_no_groups.ensures in
    record {
      continues = continues g.B.Bus.view c.self.inside.opened laws see
          (Submitted c.args.client c.args.request c.submit-reply.result) old new c.self.inside.calls.past
          c.then-self-inside.result.past c.args.self.now c.self.view_is (rw c.of-asked.ensures at c.then-self-inside.ensures)
          same.1 c.nothing_is_left_where_all_is_answered.ensures (invariant_of-self g c);
      beside = λ kept. tells_beside g.B.Bus.view c.self.inside.opened laws see new (reverse c.then-self-inside.result.past)
          (invariant_of-self g c kept);
      handed_back = e.handed_back;
    }
