-- Which requests are refused.
use Rattle.std.specs.Prelude.{Option, ℕ}
use Rattle.mmc_card.specs.declared.part.Part.{Part}
use Rattle.mmc_switch.specs.declared.info.Info.{Info}
use Rattle.mmc_transfer.specs.declared.job.TheConstants.{MAX_BLOCKS}
use Rattle.mmc_requests.specs.Refusal.{change_refusal, first_of, sectors_refusal}
use Rattle.mmc_requests.specs.declared.kind.Kind.{Kind}
use Rattle.mmc_requests.specs.declared.refused.Refused.{Refused}
use Rattle.mmc_requests.specs.declared.asked.Asked.{Asked}

-- the first reason to refuse a request for so many sectors, from this one on, of which a run moves so many blocks at most
abbrev pub refusal : Kind → Info → Part → ℕ → ℕ → Option Refused
refusal kind info part start count =
    first_of (sectors_refusal MAX_BLOCKS kind info part start count) (change_refusal kind info part start count)

-- the same of what a request asks for
abbrev pub refusal_of : Info → Asked → Option Refused
refusal_of info asked = refusal asked.kind info asked.part asked.start asked.count
