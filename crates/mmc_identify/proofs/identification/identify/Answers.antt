use Rattle.mmc_identify.proofs.FoundLemmas.{identified, refused, register_fails, take_fails}
use Rattle.mmc_identify.proofs.identification.identify.Goals as goal

pub returns-in_err-cid-clause-moves : goal.returns-in_err-cid-clause-moves
returns-in_err-cid-clause-moves g c kept =
    let q = c.in_err-cid.ensures.moves kept in
    register_fails c.in_ok-kind.kind c.in_ok-kind.ocr c.in_err-cid.field-0.0 c.from_residual-in_err-cid.result
    (g.B.Bus.view c.args.bus.now) (g.B.Bus.view c.begin.new.bus) (g.B.Bus.view c.register.new.bus)
    c.from_residual-in_err-cid.ensures.0 (c.in_ok-kind.ensures.moves q.was_kept) q

pub returns-in_err-take-clause-moves : goal.returns-in_err-take-clause-moves
returns-in_err-take-clause-moves g c kept =
    let s = c.in_err-take.ensures.moves kept in
    let q = c.in_ok-cid.ensures.moves s.was_kept in
    take_fails c.in_ok-kind.kind c.in_ok-kind.ocr c.in_ok-cid.field-0 c.in_err-take.field-0.0
    c.from_residual-in_err-take.result (g.B.Bus.view c.args.bus.now) (g.B.Bus.view c.begin.new.bus)
    (g.B.Bus.view c.register.new.bus) (g.B.Bus.view c.take.new.bus) c.from_residual-in_err-take.ensures.0
    (c.in_ok-kind.ensures.moves q.was_kept) q s

pub returns-clause-moves : goal.returns-clause-moves
returns-clause-moves g c kept =
    let s = c.in_ok-take.ensures.moves kept in
    let q = c.in_ok-cid.ensures.moves s.was_kept in
    let taken = c.registers_in_profile_are_taken.ensures in
    identified c.in_ok-kind.kind c.in_ok-kind.ocr c.in_ok-cid.field-0 c.found.result (g.B.Bus.view c.args.bus.now)
    (g.B.Bus.view c.begin.new.bus) (g.B.Bus.view c.register.new.bus) (g.B.Bus.view c.take.new.bus) c.found.ensures.judged
    taken.standard taken.high taken.mmc (c.in_ok-kind.ensures.moves q.was_kept) q s

pub returns-clause-refused : goal.returns-clause-refused
returns-clause-refused g c kept profile err =
    refused c.found.result (g.B.Bus.view c.args.bus.now) (g.B.Bus.view c.take.new.bus) (returns-clause-moves g c kept)
    profile err
