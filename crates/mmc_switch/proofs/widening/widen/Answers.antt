use Rattle.mmc_switch.proofs.WidenLemmas.{length_fails, refused, widened, widened_at_once}
use Rattle.mmc_switch.proofs.widening.widen.Goals as goal

pub returns-in_err-map_err-in-Bytes-clause-moves : goal.returns-in_err-map_err-in-Bytes-clause-moves
returns-in_err-map_err-in-Bytes-clause-moves g c kept =
    length_fails c.args.found c.set_block_length.result c.from_residual.result (g.B.Bus.view c.args.bus.now)
    (g.B.Bus.view c.set_block_length.new.bus) c.from_residual.ensures.0 c.in_err-map_err-in-Bytes.ensures.variant
    (c.set_block_length.ensures.moves kept)

pub returns-in_err-map_err-in-Bytes-clause-refused : goal.returns-in_err-map_err-in-Bytes-clause-refused
returns-in_err-map_err-in-Bytes-clause-refused g c kept profile own left lines err =
    refused c.args.found c.from_residual.result (g.B.Bus.view c.args.bus.now) (g.B.Bus.view c.set_block_length.new.bus)
    (returns-in_err-map_err-in-Bytes-clause-moves g c kept) profile own left lines err

pub returns-in_ok-map_err-in-Bytes-clause-moves : goal.returns-in_ok-map_err-in-Bytes-clause-moves
returns-in_ok-map_err-in-Bytes-clause-moves g c kept =
    let q = c.widen_by_kind.ensures.moves kept in
    widened c.args.found c.set_block_length.result c.widen_by_kind.result (g.B.Bus.view c.args.bus.now)
    (g.B.Bus.view c.set_block_length.new.bus) (g.B.Bus.view c.widen_by_kind.new.bus)
    c.in_ok-map_err-in-Bytes.ensures.variant (c.set_block_length.ensures.moves q.was_kept) q

pub returns-in_ok-map_err-in-Bytes-clause-refused : goal.returns-in_ok-map_err-in-Bytes-clause-refused
returns-in_ok-map_err-in-Bytes-clause-refused g c kept profile own left lines err =
    refused c.args.found c.widen_by_kind.result (g.B.Bus.view c.args.bus.now)
    (g.B.Bus.view c.widen_by_kind.new.bus) (returns-in_ok-map_err-in-Bytes-clause-moves g c kept) profile own left lines
    err

pub returns-in-Sectors-clause-moves : goal.returns-in-Sectors-clause-moves
returns-in-Sectors-clause-moves g c kept =
    widened_at_once c.args.found c.widen_by_kind-in-Sectors.result (g.B.Bus.view c.args.bus.now)
    (g.B.Bus.view c.widen_by_kind-in-Sectors.new.bus) c.in-Sectors.is (c.widen_by_kind-in-Sectors.ensures.moves kept)

pub returns-in-Sectors-clause-refused : goal.returns-in-Sectors-clause-refused
returns-in-Sectors-clause-refused g c kept profile own left lines err =
    refused c.args.found c.widen_by_kind-in-Sectors.result (g.B.Bus.view c.args.bus.now)
    (g.B.Bus.view c.widen_by_kind-in-Sectors.new.bus) (returns-in-Sectors-clause-moves g c kept) profile own left lines
    err
