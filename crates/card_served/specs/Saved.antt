-- What is saved of a card.
use Rattle.std.specs.Prelude.{List, None, Option, Some, [], ◌∷◌, ℕ}
use Rattle.std.specs.List.{flat_map}
use Rattle.mmc_card.specs.Card.{Card, stored}
use Rattle.mmc_card.specs.Sectors.{Sector}
use Rattle.mmc_card.specs.declared.part.Part.{Part}
use Rattle.mmc_card.specs.declared.part.Part.TheVariants.{Boot1, Boot2, Gp1, Gp2, Gp3, Gp4, User}

-- the bytes of these sectors, one after the other
abbrev pub bytes_of : List Sector → List ℕ
bytes_of sectors = flat_map (λ (sector : Sector). sector) sectors

-- the bytes of these partitions, one after the other
abbrev pub bytes_in : Card → List Part → List ℕ
bytes_in card parts = flat_map (λ part. bytes_of (stored card part)) parts

-- the partitions in the order of images
abbrev pub all_parts : List Part
all_parts = User ∷ Boot1 ∷ Boot2 ∷ Gp1 ∷ Gp2 ∷ Gp3 ∷ Gp4 ∷ []

-- the bytes of one partition, or of all
abbrev pub saved : Card → Option Part → List ℕ
saved card (Some part) = bytes_of (stored card part)
saved card None = bytes_in card all_parts
