use Rattle.mmc_identify.proofs.JoinLemmas.{address_fails, describe_fails, registered}
use Rattle.mmc_identify.proofs.identification.register.Goals as goal

pub returns-in_err-rca-clause-moves : goal.returns-in_err-rca-clause-moves
returns-in_err-rca-clause-moves g c kept =
    let q = c.in_err-rca.ensures.moves kept in
    address_fails c.args.kind c.in_ok-cid.cid c.in_err-rca.field-0.0 c.from_residual-in_err-rca.result
    (g.B.Bus.view c.args.bus.now) (g.B.Bus.view c.name.new.bus) (g.B.Bus.view c.address.new.bus)
    c.from_residual-in_err-rca.ensures.0 (c.in_ok-cid.ensures.moves q.was_kept) q

pub returns-in_err-csd-clause-moves : goal.returns-in_err-csd-clause-moves
returns-in_err-csd-clause-moves g c kept =
    let s = c.in_err-csd.ensures.moves kept in
    let q = c.in_ok-rca.ensures.moves s.was_kept in
    describe_fails c.args.kind c.in_ok-cid.cid c.in_ok-rca.rca c.in_err-csd.field-0.0 c.from_residual-in_err-csd.result
    (g.B.Bus.view c.args.bus.now) (g.B.Bus.view c.name.new.bus) (g.B.Bus.view c.address.new.bus)
    (g.B.Bus.view c.describe.new.bus) c.from_residual-in_err-csd.ensures.0 (c.in_ok-cid.ensures.moves q.was_kept) q s

pub returns-clause-moves : goal.returns-clause-moves
returns-clause-moves g c kept =
    let s = c.in_ok-csd.ensures.moves kept in
    let q = c.in_ok-rca.ensures.moves s.was_kept in
    registered c.args.kind c.in_ok-cid.cid c.in_ok-csd.csd c.in_ok-rca.rca (g.B.Bus.view c.args.bus.now)
    (g.B.Bus.view c.name.new.bus) (g.B.Bus.view c.address.new.bus) (g.B.Bus.view c.describe.new.bus)
    (c.in_ok-cid.ensures.moves q.was_kept) q s
