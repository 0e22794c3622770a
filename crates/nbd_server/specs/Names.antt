-- The names of partitions.
use Rattle.std.specs.Prelude.{List, [], codes, ◌∷◌, ℕ}
use Rattle.mmc_card.specs.declared.part.Part.{Part}
use Rattle.mmc_card.specs.declared.part.Part.TheVariants.{Boot1, Boot2, Gp1, Gp2, Gp3, Gp4, User}

abbrev pub name_of : Part → List ℕ
name_of User = codes "user"
name_of Boot1 = codes "boot1"
name_of Boot2 = codes "boot2"
name_of Gp1 = codes "gp1"
name_of Gp2 = codes "gp2"
name_of Gp3 = codes "gp3"
name_of Gp4 = codes "gp4"

-- all of them, in the order of `Part`
abbrev pub all_parts : List Part
all_parts = User ∷ Boot1 ∷ Boot2 ∷ Gp1 ∷ Gp2 ∷ Gp3 ∷ Gp4 ∷ []
