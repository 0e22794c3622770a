use Rattle.std.proofs.Common.{arith, refl, subst, sym}
use Rattle.card_maker.specs.Sizes.{IsCount, IsSizeFault}
use Rattle.card_maker.proofs.CountLemmas.{if_err, least_count, multiples_next, next_by_sectors}
use Rattle.mmc_frame.specs.declared.kind.Kind.TheVariants.{Sd}
use Rattle.card_maker.proofs.sizes.judge_size.Goals as goal

pub returns-then-sectors-lt-LEAST-clause-err : goal.returns-then-sectors-lt-LEAST-clause-err
returns-then-sectors-lt-LEAST-clause-err c = (least_count c.args.kind, omega arith, refl)

pub returns-in-Sd-clause-err : goal.returns-in-Sd-clause-err
returns-in-Sd-clause-err c =
    let n = c.args.sectors in
    let small = c.most_sectors-most.ensures.small in
    if_err c.judge_unit.result c.judge_unit.ensures.err
    (λ fault h. subst (λ k. IsSizeFault (IsCount k) n fault) (sym c.in-Sd.is)
    (multiples_next Sd n 1024 fault (omega arith) (next_by_sectors n (omega arith) (omega arith)) h))
