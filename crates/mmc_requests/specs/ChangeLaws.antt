-- What a request of a kind changes depends on little.
use Rattle.std.specs.Prelude.{◌≡◌, Bool, List, [], false, if◌then◌else◌, true, ℕ}
use Rattle.std.proofs.Common.{ap, refl}
use Rattle.mmc_card.specs.Sectors.{Sector}
use Rattle.mmc_card.specs.declared.part.Part.{Part}
use Rattle.mmc_switch.specs.Info.{lasting}
use Rattle.mmc_switch.specs.declared.info.Info.{Info}
use Rattle.mmc_requests.specs.Changes.{change_by, values_by, written_at}
use Rattle.mmc_requests.specs.Kinds.{is_read, moves_blocks}
use Rattle.mmc_requests.specs.declared.kind.Kind.{Kind}

same_values : (reads moves : Bool) (old new erased : List Sector) → (reads ≡ false → new ≡ old)
    → (if reads then [] else if moves then new else erased) ≡ (if reads then [] else if moves then old else erased)
same_values true moves old new erased same = refl
same_values false moves old new erased same = ap (λ (values : List Sector). if moves then values else erased) (same refl)

-- on the values, where it doesn't read
pub change_by_values : (kind : Kind) (info : Info) (part : Part) (start count : ℕ) (old new : List Sector)
    → (is_read kind ≡ false → new ≡ old)
    → change_by kind info part start count new ≡ change_by kind info part start count old
change_by_values kind info part start count old new same =
    ap (λ values. written_at part start values) (same_values (is_read kind) (moves_blocks kind) old new _ same)

-- and on what is known of the card for good
pub change_by_lasting : (kind : Kind) (now info : Info) (part : Part) (start count : ℕ) (values : List Sector)
    → lasting now ≡ lasting info → change_by kind now part start count values ≡ change_by kind info part start count values
change_by_lasting kind now info part start count values same =
    ap (λ (known : Info). change_by kind known part start count values) same
