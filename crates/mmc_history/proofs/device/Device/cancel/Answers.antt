use Rattle.std.specs.Prelude.{reverse}
use Rattle.mmc_block.specs.Clients.Told.{Cancelled}
use Rattle.mmc_history.proofs.ServingLemmas.{bus_and_info, continues, goes_on, kept_by, same_by, tells_beside}
use Rattle.mmc_history.proofs.device.Device.cancel.Goals as goal

pub invariant_of-self : goal.invariant_of-self
invariant_of-self g c =
    let old = c.self.inside.device in
    let new = c.cancel-reply.new.self in
    let e = c.cancel-reply.ensures in
    let same = same_by old new c.cancel-reply.result e.cancelled
    (λ _ given. bus_and_info new _ given.waits)
    e.refused in
    goes_on g.B.Bus.view c.self.inside.opened (Cancelled c.args.ticket c.cancel-reply.result) old new c.self.inside.calls.past
    c.then-self-inside.result.past c.then-self-inside.ensures same.1 (kept_by g.B.Bus.view old.bus new.bus same.0)
    (λ kept. e.machine) c.self.invariant

pub returns : goal.returns
returns g c =
    let old = c.self.inside.device in
    let new = c.cancel-reply.new.self in
    let e = c.cancel-reply.ensures in
    let same = same_by old new c.cancel-reply.result e.cancelled
    (λ _ given. bus_and_info new _ given.waits)
    e.refused in
    let laws = c.an_execution_has_its_laws.ensures in
    let see = c.clients_see_no_groups.ensures in
    record {
      continues = continues g.B.Bus.view c.self.inside.opened laws see (Cancelled c.args.ticket c.cancel-reply.result) old new
          c.self.inside.calls.past c.then-self-inside.result.past c.args.self.now c.self.view_is c.then-self-inside.ensures same.1
          c.nothing_is_left_where_all_is_answered.ensures (invariant_of-self g c);
      beside = λ kept. tells_beside g.B.Bus.view c.self.inside.opened laws see new (reverse c.then-self-inside.result.past)
          (invariant_of-self g c kept);
    }
