use Rattle.std.proofs.Common.{arith}
use Rattle.mmc_card.proofs.ByteLemmas.{bytes_at}
use Rattle.card_maker.proofs.card_file.tell_bytes.Goals as goal

pub returns : goal.returns
returns c = bytes_at c.args.bytes.now (λ i. omega (arith, c.type_inv.bytes i))
