-- What a host knows of a card by its registers.
use Rattle.std.proofs.Common.{Err, Ok, ◌≡◌, ◌≤◌, ◌∙◌, Bool, List, ap, arith, cond, false, refl, true, ℕ}
use Rattle.std.proofs.lemmas.Bool.{leb-true}
use Rattle.std.specs.Prelude.{nat_le, slice_index_or}
use Rattle.mmc_frame.specs.declared.addressing.Addressing.{Addressing}
use Rattle.mmc_regs.specs.Register.{checked_number, register_number}
use Rattle.mmc_regs.specs.declared.fault.RegFault.{RegFault}
use Rattle.mmc_ext_csd.specs.Partition.{addressable_sectors, existing_sectors}
use Rattle.mmc_card.specs.Limits.{fewer, slower}
use Rattle.mmc_card.specs.Made.{Made, sectors_in}
use Rattle.mmc_card.specs.Sectors.{part_number}
use Rattle.mmc_card.specs.declared.exchange.Timing.{Timing}
use Rattle.mmc_card.specs.declared.exchange.Timing.TheVariants.{Default, High}
use Rattle.mmc_card.specs.declared.exchange.Width.{Width}
use Rattle.mmc_card.specs.declared.exchange.Width.TheVariants.{Eight, Four, One}
use Rattle.mmc_card.specs.declared.part.Part.{Part}
use Rattle.mmc_card.specs.declared.part.Part.TheVariants.{Boot1, Boot2, Gp1, Gp2, Gp3, Gp4, User}
use Rattle.mmc_switch.specs.Sizes.{size_of}
use Rattle.mmc_switch.specs.declared.sizes.Sizes.{Sizes}

exists_within : (size most : ℕ) (fits : Bool) → nat_le size most ≡ fits → cond fits size 0 ≤ most
exists_within size most true e = leb-true size most e
exists_within size most false e = omega arith

-- a size that commands can address
pub existing_fit : (size : ℕ) (addressing : Addressing) → existing_sectors size addressing ≤ addressable_sectors addressing
existing_fit size addressing = exists_within size (addressable_sectors addressing) _ refl

-- the sizes are those of these partitions, as far as commands can address them
pub record AreAddressable (sizes : Sizes) (counts : List ℕ) (addressing : Addressing) : Type 0 where
  pub user : sizes.user ≡ existing_sectors (slice_index_or counts 0 0) addressing
  pub boot : sizes.boot ≡ existing_sectors (slice_index_or counts 1 0) addressing
  pub gp1 : sizes.gp1 ≡ existing_sectors (slice_index_or counts 3 0) addressing
  pub gp2 : sizes.gp2 ≡ existing_sectors (slice_index_or counts 4 0) addressing
  pub gp3 : sizes.gp3 ≡ existing_sectors (slice_index_or counts 5 0) addressing
  pub gp4 : sizes.gp4 ≡ existing_sectors (slice_index_or counts 6 0) addressing

module _ (sizes : Sizes) (counts : List ℕ) (addressing : Addressing) (p : AreAddressable sizes counts addressing) where
  module _ (made : Made) (exist : (part : Part) → slice_index_or counts (part_number part) 0 ≡ sectors_in made part) where
    pub sizes_known : (part : Part) → size_of sizes part ≡ existing_sectors (sectors_in made part) addressing
    sizes_known User = p.user ∙ ap (λ n. existing_sectors n addressing) (exist User)
    sizes_known Boot1 = p.boot ∙ ap (λ n. existing_sectors n addressing) (exist Boot1)
    sizes_known Boot2 = p.boot ∙ ap (λ n. existing_sectors n addressing) (exist Boot1)
    sizes_known Gp1 = p.gp1 ∙ ap (λ n. existing_sectors n addressing) (exist Gp1)
    sizes_known Gp2 = p.gp2 ∙ ap (λ n. existing_sectors n addressing) (exist Gp2)
    sizes_known Gp3 = p.gp3 ∙ ap (λ n. existing_sectors n addressing) (exist Gp3)
    sizes_known Gp4 = p.gp4 ∙ ap (λ n. existing_sectors n addressing) (exist Gp4)

-- a host with one line and default speed uses those
pub one_line : (width : Width) → One ≡ fewer width One
one_line One = refl
one_line Four = refl
one_line Eight = refl

pub default_speed : (timing : Timing) → Default ≡ slower timing Default
default_speed Default = refl
default_speed High = refl

by_check : (checked : Bool) (number cid : ℕ) (fault : RegFault) → Ok cid ≡ cond checked (Ok number) (Err fault) → cid ≡ number
by_check true number cid fault h = cc h
by_check false number cid fault h = cc h

-- a CID that is read
pub cid_read : (register : List ℕ) (cid : ℕ) → Ok cid ≡ checked_number register → cid ≡ register_number register
cid_read register cid h = by_check _ _ _ _ h
