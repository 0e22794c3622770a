-- What a card is that is built with the sectors of a spec.
use Rattle.std.proofs.Common.{◌*◌, ◌<◌, ◌≡◌, ◌∙◌, List, [], arith, length, sym, ℕ}
use Rattle.std.specs.Prelude.{IfSome, Option, slice_index_or}
use Rattle.mmc_frame.specs.Flips.{AreBytes}
use Rattle.mmc_card.specs.Card.{AreBlocks, Card, HasItsSizes, powered_on}
use Rattle.mmc_card.specs.Made.{Made, sectors_in}
use Rattle.mmc_card.specs.Sectors.{part_number}
use Rattle.mmc_card.specs.declared.part.Part.{Part}
use Rattle.mmc_card.proofs.Conditions.{along}
use Rattle.mmc_card_rows.specs.SectorLists.{first_sectors}
use Rattle.mmc_card_rows.specs.Sizes.{total}
use Rattle.mmc_card_rows.specs.Store.{split}
use Rattle.mmc_card_rows.proofs.StoreLemmas.{first_blocks, first_length, number_below, split_blocks}
use Rattle.mmc_card_rows.proofs.StoreLemmas.{split_part_length}

module _ (sizes : List ℕ) (image : Option (List ℕ)) (erased : ℕ) where
  abbrev pub parts : List (List (List ℕ))
  parts = split sizes (first_sectors image (total sizes) erased)

  pub new_blocks : IfSome image AreBytes → IfSome image (λ bytes. length bytes ≡ 512 * total sizes) → erased < 256
      → (p : ℕ) → AreBlocks (slice_index_or parts p [])
  new_blocks bytes whole byte p =
      split_blocks sizes (first_sectors image (total sizes) erased)
      (first_blocks image (total sizes) erased bytes whole byte) p

  new_size : (p : ℕ) → p < length sizes → length (slice_index_or parts p []) ≡ slice_index_or sizes p 0
  new_size p less =
      split_part_length sizes (first_sectors image (total sizes) erased) p less
      (sym (first_length image (total sizes) erased))

  pub has_its_sizes : (made : Made) (card : Card) → card ≡ powered_on made parts → length sizes ≡ 7
      → ((part : Part) → slice_index_or sizes (part_number part) 0 ≡ sectors_in made part) → HasItsSizes card
  has_its_sizes made card is seven exist =
      along HasItsSizes is
      (λ part. new_size (part_number part) (omega (arith, seven, number_below part)) ∙ exist part)
