use Rattle.std.proofs.Common.{◌<◌, length, arith}
use Rattle.card_check.proofs.WrongLineLemmas.{put_broken, put_more, put_none}
use Rattle.card_check.proofs.card.put_found.Goals as goal

pub loop-finding-init : goal.loop-finding-init
loop-finding-init g c = put_none c.args.found.now (g.W.Write.contents c.args.out.now)

pub returns-in_err-put_finding : goal.returns-in_err-put_finding
returns-in_err-put_finding g c =
    let lt : c.loop-finding.finding-index < length c.args.found.now = omega arith in
    put_broken c.args.found.now c.loop-finding.finding-index _ _ _ _ _ lt c.loop-finding.invariant
    c.from_residual.ensures.0 c.in_err-put_finding.ensures

pub loop-finding-preserved : goal.loop-finding-preserved
loop-finding-preserved g c =
    let lt : c.loop-finding.finding-index < length c.args.found.now = omega arith in
    put_more c.args.found.now c.loop-finding.finding-index _ _ _ _ lt c.loop-finding.invariant c.in_ok-put_finding.ensures
