-- What CMD8, CMD55 and a readiness inquiry tell.
use Rattle.std.proofs.Common.{◌<◌, ◌∙◌, ◌≡◌, ◌⊎◌, Bool, ap, arith, cond, false, inl, inr, refl, subst, sym}
use Rattle.std.proofs.Common.{true, ℕ}
use Rattle.std.proofs.lemmas.Bool.{eq-eqb, eqb-true}
use Rattle.std.specs.Prelude.{◌&&◌, ◌==◌, Err, None, Ok, Option, Result, Some, if◌then◌else◌, not}
use Rattle.mmc_frame.specs.Field.{field}
use Rattle.mmc_frame.specs.declared.card_state.State.TheVariants.{Idle}
use Rattle.mmc_frame.specs.declared.kind.Kind.{Kind}
use Rattle.mmc_frame.specs.declared.kind.Kind.TheVariants.{Mmc, Sd}
use Rattle.mmc_regs.specs.Ocr.{card_capacity_status, power_up_status, window_at_3_3_volts}
use Rattle.mmc_card.specs.BusView.{BusView}
use Rattle.mmc_card.specs.Card.{Card, IsCard, is_identified, patience}
use Rattle.mmc_card.specs.CardAnswer.{done, refused, shown}
use Rattle.mmc_card.specs.Judged.{IsEarlyOcr}
use Rattle.mmc_card.specs.Faults.{NoFault}
use Rattle.mmc_card.specs.Made.{first_rca, is_sd}
use Rattle.mmc_card.specs.Profile.{InProfile}
use Rattle.mmc_card.specs.RowsErase.{forgotten}
use Rattle.mmc_card.specs.RowsIdentify.{is_served}
use Rattle.mmc_bus.specs.CommandLaws.{Does, Inquires, IsUnheard, Names, ShowsDropped, ShowsNoError, TellsReady, TellsWait, Whatever}
use Rattle.mmc_bus.specs.declared.host.Unheard.{Unheard}
use Rattle.mmc_bus.specs.declared.host.Unheard.TheVariants.{Nothing, Unsound}
use Rattle.mmc_identify.specs.Judged as judged
use Rattle.mmc_identify.specs.Stages.{Inquired, IsIdle, echoes, ready_ocr}
use Rattle.mmc_identify.specs.declared.fault.IdentFault.{IdentFault}
use Rattle.mmc_identify.specs.declared.fault.IdentFault.TheVariants.{Voltage}

-- CMD8.

idle_told : (card : Card) → IsIdle false false 0 card → IsIdle true false 0 (record (done card) { accepted_cmd8 = true })
idle_told card idle = record { state = idle.state; told = refl; app = refl; inquiries = idle.inquiries }

idle_refused : (card : Card) → IsIdle false false 0 card → IsIdle false false 0 (refused card)
idle_refused card idle = record { state = idle.state; told = idle.told; app = refl; inquiries = idle.inquiries }

-- a card that knows it repeats it, and of no other anything is heard
abbrev Repeats : BusView → Result ℕ Unheard → BusView → Type 0
Repeats old heard new =
    (old.card.made.kind ≡ Sd
    → Does Whatever ((old.card.state ≡ Idle) × (old.card.made.answers_cmd8 ≡ true)) (λ card told. field 11 0 told ≡ 0x1aa)
    (record (done old.card) { accepted_cmd8 = true }) old heard new)
    × (old.card.made.kind ≡ Sd → old.card.made.answers_cmd8 ≡ false → old.card.state ≡ Idle
    → IsUnheard (refused old.card) old heard new)
    × (old.card.made.kind ≡ Mmc → old.card.state ≡ Idle → IsUnheard (refused old.card) old heard new)

probed_so : (old : BusView) (new : Card) (accepted : Bool) → echoes old.card.made ≡ accepted → IsIdle accepted false 0 new
    → IsIdle (echoes old.card.made) false 0 new
probed_so old new accepted is idle = subst (λ b. IsIdle b false 0 new) (sym is) idle

probed_by : (kind : Kind) (answers : Bool) (old : BusView) (heard : Result ℕ Unheard) (new : BusView)
    → old.card.made.kind ≡ kind → old.card.made.answers_cmd8 ≡ answers → Repeats old heard new → NoFault old new
    → IsIdle false false 0 old.card
    → (judged.echoed heard ≡ Ok (echoes old.card.made)) × IsIdle (echoes old.card.made) false 0 new.card
probed_by Sd true old heard new is knows repeats same idle =
    let f = (repeats.0 is).fine same (idle.state, knows) in
    let told : echoes old.card.made ≡ true = rw (is, knows) refl in
    let again = f.0.2 in
    let repeats_it : judged.echoed (Ok f.0.0) ≡ Ok true = rw again refl in (
      ap judged.echoed f.0.1 ∙ repeats_it ∙ ap Ok (sym told),
      probed_so old new.card true told (subst (IsIdle true false 0) (sym f.1) (idle_told old.card idle)),
    )
probed_by Sd false old heard new is knows repeats same idle =
    let f = repeats.1 is knows idle.state same in
    let told : echoes old.card.made ≡ false = rw (is, knows) refl in (
      ap judged.echoed f.0 ∙ ap Ok (sym told),
      probed_so old new.card false told (subst (IsIdle false false 0) (sym f.1) (idle_refused old.card idle)),
    )
probed_by Mmc answers old heard new is knows repeats same idle =
    let f = repeats.2 is idle.state same in
    let told : echoes old.card.made ≡ false = rw is refl in (
      ap judged.echoed f.0 ∙ ap Ok (sym told),
      probed_so old new.card false told (subst (IsIdle false false 0) (sym f.1) (idle_refused old.card idle)),
    )

pub probed : (old : BusView) (heard : Result ℕ Unheard) (new : BusView) (result : Result Bool IdentFault)
    → result ≡ judged.echoed heard → Repeats old heard new → NoFault old new → IsIdle false false 0 old.card
    → (result ≡ Ok (echoes old.card.made)) × IsIdle (echoes old.card.made) false 0 new.card
probed old heard new result is repeats same idle =
    let p = probed_by old.card.made.kind old.card.made.answers_cmd8 old heard new refl refl repeats same idle in
    (is ∙ p.0, p.1)

-- CMD55.

abbrev Expects : BusView → Result ℕ Unheard → BusView → Type 0
Expects old heard new =
    Does ShowsNoError ((old.card.made.kind ≡ Sd) × ((old.card.state ≡ Idle) ⊎ (is_identified old.card.state ≡ true))
    × Names 0 old.card) ShowsDropped
    (record (shown (forgotten old.card)) { app = true }) old heard new

-- an SD card in idle goes by the RCA 0, and an eMMC device by 1
announced_by : (kind : Kind) (old : BusView) (heard : Result ℕ Unheard) (new : BusView) (accepted : Bool) (times : ℕ)
    → old.card.made.kind ≡ kind → IsCard old.card → Expects old heard new
    → ((Names 0 old.card → ⊥) → IsUnheard old.card old heard new) → NoFault old new
    → IsIdle accepted false times old.card
    → (judged.answered heard ≡ Ok (is_sd kind)) × IsIdle accepted (is_sd kind) times new.card
announced_by Sd old heard new accepted times is card expects other same idle =
    let rca : old.card.rca ≡ 0 = card.rca (ap is_identified idle.state) ∙ ap first_rca is in
    let f = expects.fine same (is, inl idle.state, sym rca) in
    let after : IsIdle accepted true times (record (shown (forgotten old.card)) { app = true }) =
    record { state = idle.state; told = idle.told; app = refl; inquiries = idle.inquiries } in
    (ap judged.answered f.0.1, subst (IsIdle accepted true times) (sym f.1) after)
announced_by Mmc old heard new accepted times is card expects other same idle =
    let rca : old.card.rca ≡ 1 = card.rca (ap is_identified idle.state) ∙ ap first_rca is in
    let f = other (λ mine. (let e : 0 ≡ 1 = mine ∙ rca in cc)) same in
    (ap judged.answered f.0, subst (IsIdle accepted false times) (sym f.1) idle)

pub announced : (old : BusView) (heard : Result ℕ Unheard) (new : BusView) (result : Result Bool IdentFault)
    → result ≡ judged.answered heard → IsCard old.card → Expects old heard new
    → ((Names 0 old.card → ⊥) → IsUnheard old.card old heard new) → NoFault old new → (accepted : Bool) (times : ℕ)
    → IsIdle accepted false times old.card
    → (result ≡ Ok (is_sd old.card.made.kind)) × IsIdle accepted (is_sd old.card.made.kind) times new.card
announced old heard new result is card expects other same accepted times idle =
    let p = announced_by old.card.made.kind old heard new accepted times refl card expects other same idle in
    (is ∙ p.0, p.1)

answered_ok : (heard : Result ℕ Unheard) → judged.answered heard ≡ Ok true → (told : ℕ) × (heard ≡ Ok told)
answered_ok (Ok told) h = (told, refl)
answered_ok (Err Nothing) h = cc
answered_ok (Err Unsound) h = cc

-- whatever fell, only an SD card answers
pub answered_by_sd : (old : BusView) (heard : Result ℕ Unheard) (new : BusView) (result : Result Bool IdentFault)
    → result ≡ judged.answered heard → Expects old heard new → result ≡ Ok true → old.card.made.kind ≡ Sd
answered_by_sd old heard new result is expects ok =
    let told = answered_ok heard (sym is ∙ ok) in (expects.there told.0 told.1).0

-- Inquiries.

inquired_ready : (ocr : ℕ) → (window_at_3_3_volts ocr == 3) ≡ true → (power_up_status ocr == 1) ≡ true
    → judged.inquired (Ok ocr) ≡ Ok (Some ocr)
inquired_ready ocr window ready = rw (ready, window) refl

none_by : (empty : Bool) → let none : Result (Option ℕ) IdentFault = Ok None in (if empty then none else none) ≡ none
none_by true = refl
none_by false = refl

-- not ready, with the window that the card will have, or an empty one
inquired_early : (told ocr : ℕ) → IsEarlyOcr told ocr → window_at_3_3_volts ocr ≡ 3 → judged.inquired (Ok told) ≡ Ok None
inquired_early told ocr early fits =
    let low = early.0 in
    let zero : power_up_status told ≡ 0 = omega (arith, low) in
    let wait : (power_up_status told == 1) ≡ false = rw zero refl in
    elim early.1 [
      | inl empty ↦ rw (wait, eq-eqb (field 23 0 told) 0 empty) refl
      | inr window ↦ rw (wait, eq-eqb (window_at_3_3_volts told) 3 (window ∙ fits)) (none_by (field 23 0 told == 0))
    ]

-- the card is ready, or isn't yet
inquiry_told : (accepted : Bool) (times : ℕ) (old : BusView) (heard : Result ℕ Unheard) (new : BusView) (ocr : ℕ) → IsCard old.card
    → InProfile old.card.made → old.card.inquiries ≡ times → old.card.state ≡ Idle → old.card.accepted_cmd8 ≡ accepted
    → heard ≡ Ok ocr
    → TellsReady old.card ocr new.card ⊎ (TellsWait old.card ocr new.card × (old.card.inquiries < patience))
    → Inquired accepted times old.card.made (judged.inquired heard) new.card
inquiry_told accepted times old heard new ocr card profile asked idle flag is (inl ready) =
    let below = card.registers.ocr in
    let window = profile.window in
    let told = ready.1 in
    subst (λ r. Inquired accepted times old.card.made r new.card)
    (sym (ap judged.inquired is
    ∙ inquired_ready ocr (eq-eqb _ 3 (omega (arith, told, window))) (eq-eqb _ 1 (omega (arith, told, below)))))
    (told, ap (λ (c : Card). c.state) ready.0)
inquiry_told accepted times old heard new ocr card profile asked idle flag is (inr wait) =
    let few = wait.1 in
    subst (λ r. Inquired accepted times old.card.made r new.card)
    (sym (ap judged.inquired is ∙ inquired_early ocr old.card.made.ocr wait.0.1 profile.window)) (
      omega (arith, few, asked),
      record {
        state = ap (λ (c : Card). c.state) wait.0.0 ∙ idle;
        told = ap (λ (c : Card). c.accepted_cmd8) wait.0.0 ∙ flag;
        app = ap (λ (c : Card). c.app) wait.0.0;
        inquiries = ap (λ (c : Card). c.inquiries) wait.0.0 ∙ omega (arith, few, asked);
      },
    )

pub inquiry_fine : {IsThere IsServed : Type 0} (accepted app : Bool) (times : ℕ) (old : BusView) (heard : Result ℕ Unheard)
    (new : BusView) (result : Result (Option ℕ) IdentFault) → result ≡ judged.inquired heard → IsCard old.card
    → Inquires IsThere IsServed old heard new → NoFault old new → IsThere → IsServed → InProfile old.card.made
    → IsIdle accepted app times old.card → Inquired accepted times old.card.made result new.card
inquiry_fine accepted app times old heard new result is card inquires same there served profile idle =
    let f = inquires.fine same there served in
    subst (λ r. Inquired accepted times old.card.made r new.card) (sym is)
    (inquiry_told accepted times old heard new f.0 card profile idle.inquiries idle.state idle.told f.1 f.2)

inquired_at : (empty window ready : Bool) (told ocr : ℕ) → ready ≡ (power_up_status told == 1)
    → let r : Result (Option ℕ) IdentFault = cond (not ready && empty) (Ok None)
    (cond window (cond ready (Ok (Some told)) (Ok None)) (Err Voltage)) in
    r ≡ Ok (Some ocr) → (let x : Result ℕ Unheard = Ok told in x ≡ Ok ocr) × (power_up_status ocr ≡ 1)
inquired_at empty true true told ocr e h =
    let same : told ≡ ocr = cc in
    (ap Ok same, ap power_up_status (sym same) ∙ eqb-true (power_up_status told) 1 (sym e))
inquired_at empty false true told ocr e h = cc
inquired_at true window false told ocr e h = cc
inquired_at false true false told ocr e h = cc
inquired_at false false false told ocr e h = cc

inquired_some : (heard : Result ℕ Unheard) (ocr : ℕ) → judged.inquired heard ≡ Ok (Some ocr)
    → (heard ≡ Ok ocr) × (power_up_status ocr ≡ 1)
inquired_some (Ok told) ocr h =
    inquired_at (field 23 0 told == 0) (window_at_3_3_volts told == 3) (power_up_status told == 1) told ocr refl h
inquired_some (Err unheard) ocr h = cc

-- bit 31 is told by a card that is ready alone
ready_alone : (old : BusView) (ocr : ℕ) (new : BusView) → IsCard old.card → power_up_status ocr ≡ 1
    → TellsReady old.card ocr new.card ⊎ TellsWait old.card ocr new.card → ocr ≡ ready_ocr old.card.made
ready_alone old ocr new card high (inl ready) = ready.1
ready_alone old ocr new card high (inr wait) =
    let early = wait.1.0 in absurd (omega (arith, early, high))

-- whatever fell, the OCR of a card that is ready is its own
pub inquiry_own : {IsThere IsServed : Type 0} (old : BusView) (heard : Result ℕ Unheard) (new : BusView)
    (result : Result (Option ℕ) IdentFault) → result ≡ judged.inquired heard → IsCard old.card
    → Inquires IsThere IsServed old heard new → (ocr : ℕ) → result ≡ Ok (Some ocr)
    → IsThere × (ocr ≡ ready_ocr old.card.made)
inquiry_own old heard new result is card inquires ocr ok =
    let s = inquired_some heard ocr (sym is ∙ ok) in
    let t = inquires.sound ocr s.0 in
    (t.0, ready_alone old ocr new card s.1 t.1)

-- A host that says HCS where it has to.

served_by : (high : Bool) (card : Card) (argument : ℕ) → (card_capacity_status card.made.ocr == 1) ≡ high
    → (high ≡ true → field 30 30 argument ≡ 1) → (high ≡ true → card.accepted_cmd8 ≡ true) → is_served card argument ≡ true
served_by true card argument e says told = rw (e, eq-eqb (field 30 30 argument) 1 (says refl), told refl) refl
served_by false card argument e says told = rw e refl

says_hcs : (hcs : Bool) → hcs ≡ true → field 30 30 (judged.window hcs) ≡ 1
says_hcs true h = refl
says_hcs false h = cc

pub served : (hcs : Bool) (card : Card) (argument : ℕ) → argument ≡ judged.window hcs
    → (card_capacity_status card.made.ocr ≡ 1 → hcs ≡ true) → card.accepted_cmd8 ≡ hcs → is_served card argument ≡ true
served hcs card argument is can told =
    served_by _ card argument refl (λ high. ap (field 30 30) is ∙ says_hcs hcs (can (eqb-true _ 1 high)))
    (λ high. told ∙ can (eqb-true _ 1 high))
