use Rattle.std.specs.Prelude.{reverse}
use Rattle.mmc_block.specs.Clients.Told.{Answered}
use Rattle.mmc_history.proofs.ServingLemmas.{continues, goes_on, tells_beside}
use Rattle.mmc_history.proofs.device.Device.turn.Goals as goal

pub invariant_of-self : goal.invariant_of-self
invariant_of-self g c =
    let e = c.turn-answers.ensures in
    goes_on g.B.Bus.view c.self.inside.opened (Answered c.turn-answers.result.items) c.self.inside.device
    c.turn-answers.new.self c.self.inside.calls.past c.then-self-inside.result.past c.then-self-inside.ensures e.same.0 e.kept
    e.machine c.self.invariant

pub returns-clause-continues : goal.returns-clause-continues
returns-clause-continues g c =
    continues g.B.Bus.view c.self.inside.opened c.an_execution_has_its_laws.ensures c.clients_see_no_groups.ensures
    (Answered c.turn-answers.result.items) c.self.inside.device c.turn-answers.new.self c.self.inside.calls.past
    c.then-self-inside.result.past c.args.self.now c.self.view_is c.then-self-inside.ensures c.turn-answers.ensures.same.0
    c.nothing_is_left_where_all_is_answered.ensures (invariant_of-self g c)

pub returns-clause-beside : goal.returns-clause-beside
returns-clause-beside g c kept =
    tells_beside g.B.Bus.view c.self.inside.opened c.an_execution_has_its_laws.ensures c.clients_see_no_groups.ensures
    c.turn-answers.new.self (reverse c.then-self-inside.result.past) (invariant_of-self g c kept)
