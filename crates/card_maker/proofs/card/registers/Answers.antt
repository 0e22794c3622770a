use Rattle.std.proofs.Common.{subst}
use Rattle.mmc_frame.specs.declared.kind.Kind.TheVariants.{Sd}
use Rattle.card_maker.specs.Sizes.{IsCount}
use Rattle.card_maker.proofs.MadeLemmas.{in_sectors}
use Rattle.card_maker.proofs.card.registers.Goals as goal

pub sd_by_sectors-requires-clause-count : goal.sd_by_sectors-requires-clause-count
sd_by_sectors-requires-clause-count c =
    let n = c.args.wanted.now.sectors in
    in_sectors Sd n (subst (λ k. IsCount k n) c.in-Sd-kind.is c.requires.count) c.if-wanted-le-MOST_BY_BYTES.false
