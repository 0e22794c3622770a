-- Cards that do nothing but what the registers say.
use Rattle.std.specs.Prelude.{◌≡◌, false, true, None}
use Rattle.mmc_card_rows.specs.declared.registers.KindRegisters.{KindRegisters}
use Rattle.mmc_card_rows.specs.declared.registers.KindRegisters.TheVariants.{Mmc, Sd}
use Rattle.mmc_card_sim.specs.declared.spec.CardSpec.{CardSpec}

-- an SD card publishes RCA 1, always
abbrev pub HasFirstRca : KindRegisters → Type 0
HasFirstRca (Sd sd) = (sd.rca ≡ 1) × (sd.rca_changes ≡ false)
HasFirstRca (Mmc mmc) = Unit {0}

-- The card is ready at once, never busy, not locked, waits for the host, and refuses nothing; each sector is erased.
pub record IsPlain (spec : CardSpec) : Type 0 where
  pub ready : spec.ready ≡ 0
  pub busy : spec.busy ≡ 0
  pub early : spec.early ≡ None
  pub keeps_length : spec.keeps_length ≡ true
  pub refusal : spec.refusal ≡ None
  pub stays_busy : spec.stays_busy ≡ false
  pub lagging : spec.lagging ≡ 0
  pub late : spec.late ≡ 0
  pub goes_on : spec.goes_on ≡ false
  pub shows_app_cmd : spec.shows_app_cmd ≡ false
  pub ages : spec.ages ≡ false
  pub image : spec.image ≡ None
  pub unlocked : spec.registers.is_locked ≡ false
  pub rca : HasFirstRca spec.registers.kind
