use Rattle.std.proofs.Common.{Fits, arith, rules, w8}
use Rattle.std.specs.Prelude.{slice_index}
use Rattle.mmc_card.proofs.ByteLemmas.{bytes_at}
use Rattle.mmc_card_sim.proofs.flip.flip_both.Goals as goal

pub returns-in-Some-clause-bytes : goal.returns-in-Some-clause-bytes
returns-in-Some-clause-bytes c = (
  bytes_at _ (λ i. let fits : Fits w8 (slice_index c.args.frame.now i) = search rules in omega (arith, fits)),
  bytes_at _ (λ i. omega (arith, c.type_inv.frame i)),
)

pub returns-in_default-clause-bytes : goal.returns-in_default-clause-bytes
returns-in_default-clause-bytes c = (
  bytes_at _ (λ i. let fits : Fits w8 (slice_index c.args.frame.now i) = search rules in omega (arith, fits)),
  bytes_at _ (λ i. omega (arith, c.type_inv.frame i)),
)
