-- What few planned faults can't do to a card in profile.
use Rattle.std.proofs.Common.{◌≡◌, ◌<◌, ℕ, List, Option, Err, Ok, ap, arith, false, length, refl, subst, sym, true}
use Rattle.mmc_block.specs.Answers.{failures}
use Rattle.mmc_block.specs.InOrder.{answers}
use Rattle.mmc_card.specs.Card.{Card}
use Rattle.mmc_card.specs.Profile.{InProfile}
use Rattle.mmc_card_sim.specs.Registers.{made_of}
use Rattle.mmc_card_sim.specs.declared.spec.CardSpec.{CardSpec}
use Rattle.card_text.specs.Planning.{PlannedFault}
use Rattle.cardtool.specs.Whole.{IsServedOnNewCard, IsServedOnSpec, is_unopened}
use Rattle.card_text.specs.declared.event.ScriptEvent.{ScriptEvent}
use Rattle.card_served.specs.declared.fault.ServeFault.{ServeFault}
use Rattle.card_served.specs.declared.fault.ServeFault.TheVariants.{Locked, NoCard, Unsupported, Voltage}
use Rattle.std.specs.Prelude.{Result}

module _ (spec : CardSpec) (plan : List PlannedFault) (script : List ScriptEvent) (trace : Option ℕ)
    (old new : Option (List ℕ)) where
  -- the card is in profile
  in_profile : {r : Result ℕ ServeFault} → InProfile (made_of spec.registers)
      → (s : IsServedOnNewCard spec plan script trace old new r) → InProfile s.sim.card.made
  in_profile profile s = subst InProfile (sym (ap (λ (c : Card). c.made) s.is_new.card)) profile

  pub few_open : (fault : ServeFault) → InProfile (made_of spec.registers) → length plan < 3
      → IsServedOnSpec spec plan script trace old new (Err fault) → is_unopened fault ≡ false
  few_open NoCard profile few s =
      let three = s.1.served.three_fell (in_profile profile s.1) in
      let most = s.1.few in
      absurd (omega (arith, three, most, few))
  few_open Voltage profile few s =
      let three = s.1.served.three_fell (in_profile profile s.1) in
      let most = s.1.few in
      absurd (omega (arith, three, most, few))
  few_open Unsupported profile few s =
      let three = s.1.served.three_fell (in_profile profile s.1) in
      let most = s.1.few in
      absurd (omega (arith, three, most, few))
  few_open Locked profile few s =
      let three = s.1.served.three_fell (in_profile profile s.1) in
      let most = s.1.few in
      absurd (omega (arith, three, most, few))
  few_open fault profile few s = refl

  pub few_fail_none : (status : ℕ) → InProfile (made_of spec.registers) → length plan < 4
      → (s : IsServedOnSpec spec plan script trace old new (Ok status))
      → failures (answers s.1.served.replies) ≡ 0
  few_fail_none status profile few s =
      let each = (s.1.served.execution true (λ is. in_profile profile s.1)).four_each refl in
      let most = s.1.few in
      omega (arith, each, most, few)
