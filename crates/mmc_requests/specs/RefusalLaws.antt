-- What a request may count on that isn't refused.
use Rattle.std.specs.Prelude.{◌&&◌, ◌+◌, ◌==◌, ◌≡◌, ◌≤◌, Bool, IsSome, None, Option, Some, false, nat_lt, not, true, ℕ}
use Rattle.std.proofs.Common.{arith, cond, refl, subst}
use Rattle.std.proofs.lemmas.Bool.Decides.{nat_tests}
use Rattle.mmc_card.specs.Sectors.{is_boot}
use Rattle.mmc_card.specs.declared.part.Part.{Part}
use Rattle.mmc_erase.specs.Job.{suits}
use Rattle.mmc_erase.specs.declared.how.How.{How}
use Rattle.mmc_erase.specs.declared.how.How.TheVariants as how
use Rattle.mmc_switch.specs.Info.{sectors_of}
use Rattle.mmc_switch.specs.Sizes.{size_of}
use Rattle.mmc_switch.specs.declared.info.Info.{Info}
use Rattle.mmc_requests.specs.Kinds.{is_read, kind_of_how, moves_blocks}
use Rattle.mmc_requests.specs.Refusal.{change_refusal, erase_refusal, first_of, refusal_within, refused_unless, sectors_refusal}
use Rattle.mmc_requests.specs.declared.kind.Kind.{Kind}
use Rattle.mmc_requests.specs.declared.refused.Refused.{Refused}

-- The sectors are there: one at least, of blocks so many at most, of a partition that the card has.
pub record AreThere (most : ℕ) (kind : Kind) (info : Info) (part : Part) (start count : ℕ) : Type 0 where
  pub some : 1 ≤ count
  pub few : moves_blocks kind ≡ true → count ≤ most
  pub exists : IsSome (sectors_of info part)
  pub inside : start + count ≤ size_of info.sizes part

-- They may be changed: not on a read-only card, and given up only where they suit that, and not in a boot partition.
pub record MayChange (kind : Kind) (info : Info) (part : Part) (start count : ℕ) : Type 0 where
  pub writable : is_read kind ≡ false → info.read_only ≡ false
  pub erasable : (h : How) → kind ≡ kind_of_how h
      → (is_boot part ≡ false) × (suits h info (size_of info.sizes part) start count ≡ true)

-- where neither of two reasons holds
pub neither : {A : Type 0} (a b : Option A) → first_of a b ≡ None → (a ≡ None) × (b ≡ None)
neither (Some reason) b e = absurd cc
neither None b e = (refl, e)

past : (b : Bool) (why : Refused) (rest : Option Refused) → cond b (Some why) rest ≡ None → (b ≡ false) × (rest ≡ None)
past true why rest e = cc e
past false why rest e = (refl, e)

may_by : (may : Bool) (why : Refused) → cond may None (Some why) ≡ None → may ≡ true
may_by true why e = refl
may_by false why e = cc e

inside_by : (sectors end : ℕ) → nat_lt sectors end ≡ false → end ≤ sectors
inside_by sectors end e = grind (arith, nat_tests)

some_by : (count : ℕ) → (count == 0) ≡ false → 1 ≤ count
some_by count e = grind (arith, nat_tests)

few_by : (moves : Bool) (count most : ℕ) → (moves && nat_lt most count) ≡ false → moves ≡ true → count ≤ most
few_by true count most h is = grind (arith, nat_tests)
few_by false count most h is = absurd cc

may_write : (protected reads : Bool) → (protected && not reads) ≡ false → reads ≡ false → protected ≡ false
may_write true true h other = cc
may_write true false h other = cc
may_write false reads h other = refl

module _ (most : ℕ) (kind : Kind) (info : Info) (part : Part) (start count : ℕ) where
  there_by : (none : Bool) → (size_of info.sizes part == 0) ≡ none
      → refusal_within most kind start count (cond none None (Some (size_of info.sizes part))) ≡ None
      → AreThere most kind info part start count
  there_by true is e = absurd cc
  there_by false is e =
      let some = past (count == 0) _ _ e in
      let few = past (moves_blocks kind && nat_lt most count) _ _ some.1 in
      let inside = past (nat_lt (size_of info.sizes part) (start + count)) _ _ few.1 in
      record {
        some = some_by count some.0;
        few = few_by (moves_blocks kind) count most few.0;
        exists = rw is refl;
        inside = inside_by (size_of info.sizes part) (start + count) inside.0;
      }

  -- sectors are there that aren't refused
  pub are_there : sectors_refusal most kind info part start count ≡ None → AreThere most kind info part start count
  are_there e = there_by (size_of info.sizes part == 0) refl e

unless_refused : (may : Bool) (part : Part) (why : Refused) → refused_unless may part why ≡ None
    → (is_boot part ≡ false) × (may ≡ true)
unless_refused may part why e =
    let other = past (is_boot part) _ _ e in (other.0, may_by may why other.1)

erasable_by : (h : How) (info : Info) (part : Part) (start count : ℕ)
    → erase_refusal (kind_of_how h) info part start count ≡ None
    → (is_boot part ≡ false) × (suits h info (size_of info.sizes part) start count ≡ true)
erasable_by how.Erase info part start count e = unless_refused _ part _ e
erasable_by how.Trim info part start count e = unless_refused _ part _ e

-- and may be changed where that isn't refused
pub may_change : (kind : Kind) (info : Info) (part : Part) (start count : ℕ)
    → change_refusal kind info part start count ≡ None → MayChange kind info part start count
may_change kind info part start count e =
    let writable = past (info.read_only && not (is_read kind)) _ _ e in
    record {
      writable = may_write info.read_only (is_read kind) writable.0;
      erasable = λ h is. erasable_by h info part start count
          (subst (λ (k : Kind). erase_refusal k info part start count ≡ None) is writable.1);
    }
