-- What is refused depends on what is known of the card for good.
use Rattle.std.proofs.Common.{◌≡◌, subst, sym, ℕ}
use Rattle.std.specs.Prelude.{None}
use Rattle.mmc_card.specs.declared.part.Part.{Part}
use Rattle.mmc_switch.specs.Info.{lasting}
use Rattle.mmc_switch.specs.declared.info.Info.{Info}
use Rattle.mmc_requests.specs.declared.kind.Kind.{Kind}
use Rattle.mmc_requests.specs.declared.kind.Kind.TheVariants.{Erase, Read, Trim, Write}
use Rattle.mmc_direct.specs.Refusal.{refusal, refusal_of}
use Rattle.mmc_requests.specs.declared.asked.Asked.{Asked}

served_of : (kind : Kind) (now info : Info) (part : Part) (start count : ℕ) → lasting now ≡ lasting info
    → refusal kind info part start count ≡ None → refusal kind now part start count ≡ None
served_of Read now info part start count same e =
    subst (λ (i : Info). refusal Read i part start count ≡ None) (sym same) e
served_of Write now info part start count same e =
    subst (λ (i : Info). refusal Write i part start count ≡ None) (sym same) e
served_of Erase now info part start count same e =
    subst (λ (i : Info). refusal Erase i part start count ≡ None) (sym same) e
served_of Trim now info part start count same e =
    subst (λ (i : Info). refusal Trim i part start count ≡ None) (sym same) e

-- So a request that isn't refused stays so once the card was settled.
pub still_served : (asked : Asked) (now info : Info) → lasting now ≡ lasting info → refusal_of info asked ≡ None
    → refusal_of now asked ≡ None
still_served asked now info same e = served_of asked.kind now info asked.part asked.start asked.count same e
