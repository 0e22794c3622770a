use Rattle.mmc_block.specs.Device.{work_of}
use Rattle.std.proofs.Common.{subst, sym, true, ◌≡◌}
use Rattle.std.specs.Prelude.{reverse}
use Rattle.mmc_history.specs.Beside.{HoldsBeside}
use Rattle.mmc_history.specs.History.{DeviceHistory, HasServed}
use Rattle.mmc_history.proofs.ServingLemmas.{tells, tells_beside}
use Rattle.mmc_history.proofs.device.Device.close.Goals as goal

pub returns-clause-served : goal.returns-clause-served
returns-clause-served g c kept =
    let device = c.self.inside.device in
    let view = g.B.Bus.view in
    let past = c.self.inside.calls.past in
    let bus = c.close.ensures.bus in
    let told = tells view c.self.inside.opened c.an_execution_has_its_laws.ensures c.clients_see_no_groups.ensures device
    (reverse past) c.nothing_is_left_where_all_is_answered.ensures (c.self.invariant (subst (λ b. (view b).is_kept ≡ true) bus kept)) in
    subst (λ (d : DeviceHistory g.row.B.Denot). HasServed d.info d.opened.card (view c.close.result).card d.calls d.work_left)
    c.self.view_is
    (subst (λ b. HasServed device.info c.self.inside.opened.card (view b).card (reverse past) (work_of device)) (sym bus) told)

pub returns-clause-beside : goal.returns-clause-beside
returns-clause-beside g c kept =
    let device = c.self.inside.device in
    let view = g.B.Bus.view in
    let past = c.self.inside.calls.past in
    let bus = c.close.ensures.bus in
    let told = tells_beside view c.self.inside.opened c.an_execution_has_its_laws.ensures c.clients_see_no_groups.ensures device
    (reverse past) (c.self.invariant (subst (λ b. (view b).is_kept ≡ true) bus kept)) in
    subst (λ (d : DeviceHistory g.row.B.Denot). HoldsBeside d.info d.opened (view c.close.result) d.calls) c.self.view_is
    (subst (λ b. HoldsBeside device.info c.self.inside.opened (view b) (reverse past)) (sym bus) told)
