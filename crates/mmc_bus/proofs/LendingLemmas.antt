-- Bytes that were lent as blocks.
use Rattle.std.proofs.Common.{◌∙◌, ◌≡◌, List, length, refl, ℕ}
use Rattle.mmc_bus.specs.BlockLaws.{length_left}
use Rattle.mmc_bus.specs.Bytes.{blocks_in, with_block}
use Rattle.mmc_bus.specs.Lending.{IsRewritten, block, nothing}

pub length_kept : (old new : List ℕ) → IsRewritten blocks_in with_block old new → length new ≡ length old
length_kept old new nothing = refl
length_kept old new (block now i left before below size) =
    length_left now i left below size ∙ length_kept old now before
