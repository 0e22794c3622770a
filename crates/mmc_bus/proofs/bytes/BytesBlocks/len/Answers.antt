use Rattle.std.proofs.Common.{◌∙◌, ap, length, sym}
use Rattle.std.specs.Prelude.{List, ◌/◌, ℕ}
use Rattle.mmc_bus.specs.BlockLaws.{length_pieces}
use Rattle.mmc_bus.proofs.bytes.BytesBlocks.len.Goals as goal

pub returns : goal.returns
returns c =
    ap (λ n. n / 512) (ap (λ (bytes : List ℕ). length bytes) c.as_slice.ensures)
    ∙ sym (length_pieces (length c.args.self.now / 512) c.args.self.now)
