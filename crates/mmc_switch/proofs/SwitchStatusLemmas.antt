-- What an SD card sends after CMD6: its own switch status, or one that refuses to switch.
use Rattle.std.proofs.Common.{◌<◌, ◌∙◌, ◌≡◌, Bool, List, ap, arith, false, length, refl, sym, true, ℕ}
use Rattle.std.proofs.lemmas.Bool.{ne_eqb}
use Rattle.std.proofs.lemmas.List.{get_or-set_other, get_or-set_same, length-set}
use Rattle.std.specs.Prelude.{◌&&◌, ◌*◌, ◌+◌, ◌==◌, if◌then◌else◌, slice_index}
use Rattle.mmc_frame.specs.Field.{field}
use Rattle.mmc_frame.specs.declared.kind.Kind.TheVariants.{Sd}
use Rattle.mmc_regs.specs.SwitchStatus.{access_mode_selected, high_speed_support}
use Rattle.mmc_card.proofs.ByteLemmas.{sent_length as status_length, sent_selects, sent_supports}
use Rattle.mmc_card.proofs.Conditions.{along, by_cond}
use Rattle.mmc_card.specs.Card.{Card, FromBytes, Source}
use Rattle.mmc_card.specs.CardAnswer.{Choice}
use Rattle.mmc_card.specs.Laws.{timing_once_sent}
use Rattle.mmc_card.specs.Made.{HasRegisters, has_high_speed}
use Rattle.mmc_card.specs.RowsSwitch.{is_to_speed_up, refusal, status_sent, timing_after}
use Rattle.mmc_card.specs.declared.exchange.Timing.{Timing}
use Rattle.mmc_card.specs.declared.exchange.Timing.TheVariants.{High}
use Rattle.mmc_bus.proofs.CommandLemmas.{switch_bytes}
use Rattle.mmc_bus.specs.CommandLaws.{IsSwitchSource, bytes_sent}
use Rattle.mmc_switch.specs.declared.sd.TheConstants as Argument

-- what holds of its own status and of a refusal, as they are sent, holds of what was sent
by_status : (P : List ℕ → Timing → Type 0) (card : Card) (argument : ℕ) (status : List ℕ) (timing : Timing)
    → IsSwitchSource card argument (FromBytes status timing)
    → ((choice : Choice) → P (status_sent choice card.made.switch_status) (timing_after card argument))
    → ((choice : Choice) → P (status_sent choice (refusal choice.selects_none card.made.switch_status)) card.timing)
    → P status timing
by_status P card argument status timing sent own refused =
    let Says : Source → Type 0 = λ s. P (bytes_sent s) (timing_once_sent s card.timing) in
    along Says sent.1
    (by_cond Says (is_to_speed_up card argument && sent.0.refuses_speed) (λ _. refused sent.0) (λ _. own sent.0))

pub sent_length : (card : Card) (argument : ℕ) (source : Source) → IsSwitchSource card argument source
    → length card.made.switch_status ≡ 64 → length (bytes_sent source) ≡ 64
sent_length card argument source sent long =
    let bytes = bytes_sent source in
    let timing = timing_once_sent source card.timing in
    by_status (λ bytes t. length bytes ≡ 64) card argument bytes timing
    (sent.0, switch_bytes card.timing card argument source sent ∙ sent.1)
    (λ choice. status_length choice card.made.switch_status ∙ long)
    (λ choice. status_length choice (refusal choice.selects_none card.made.switch_status)
    ∙ length-set card.made.switch_status 16 _ ∙ long)

-- whether the card has high speed, each status says
pub same_support : (card : Card) (argument : ℕ) (status : List ℕ) (timing : Timing)
    → IsSwitchSource card argument (FromBytes status timing)
    → high_speed_support status ≡ high_speed_support card.made.switch_status
same_support card argument status timing sent =
    by_status (λ bytes t. high_speed_support bytes ≡ high_speed_support card.made.switch_status) card argument status
    timing sent (λ choice. ap (field 1 1) (sent_supports choice card.made.switch_status))
    (λ choice. ap (field 1 1) (sent_supports choice (refusal choice.selects_none card.made.switch_status)
    ∙ get_or-set_other card.made.switch_status 16 13 _ 0 (omega arith)))

-- where high speed is only checked, the timing stays
pub checks_only : (card : Card) (status : List ℕ) (timing : Timing)
    → IsSwitchSource card Argument.CHECK_HIGH_SPEED (FromBytes status timing) → timing ≡ card.timing
checks_only card status timing sent =
    by_status (λ bytes t. t ≡ card.timing) card Argument.CHECK_HIGH_SPEED status timing sent (λ choice. refl)
    (λ choice. refl)

selects_own : (has : Bool) (selected : ℕ) (timing : Timing) → selected ≡ (if has then 1 else 15)
    → (if has then High else timing) ≡ (if selected == 1 then High else timing)
selects_own true selected timing e = rw e refl
selects_own false selected timing e = rw e refl

selects_other : (selects_none : Bool) (byte : ℕ)
    → (field 3 0 (16 * field 7 4 byte + (if selects_none then 15 else 0)) == 1) ≡ false
selects_other true byte = ne_eqb _ 1 (λ e. omega (arith, e))
selects_other false byte = ne_eqb _ 1 (λ e. omega (arith, e))

refusal_selects : (selects_none : Bool) (status : List ℕ) → 16 < length status
    → (access_mode_selected (refusal selects_none status) == 1) ≡ false
refusal_selects selects_none status inside =
    ap (λ byte. field 3 0 byte == 1) (get_or-set_same status 16 _ 0 inside)
    ∙ selects_other selects_none (slice_index status 16)

-- what is selected is what the second status says
pub says_timing : (card : Card) (status : List ℕ) (timing : Timing) → HasRegisters card.made → card.made.kind ≡ Sd
    → IsSwitchSource card Argument.SWITCH_TO_HIGH_SPEED (FromBytes status timing)
    → timing ≡ (if access_mode_selected status == 1 then High else card.timing)
says_timing card status timing registers sd sent =
    let inside : 16 < length card.made.switch_status = omega (arith, registers.switch_status sd) in
    by_status (λ bytes t. t ≡ (if access_mode_selected bytes == 1 then High else card.timing)) card
    Argument.SWITCH_TO_HIGH_SPEED status timing sent
    (λ choice. selects_own (has_high_speed card.made) (access_mode_selected (status_sent choice card.made.switch_status)) card.timing
    (sent_selects choice card.made.switch_status inside ∙ registers.selected sd))
    (λ choice. let refused = refusal choice.selects_none card.made.switch_status in
    let same : length refused ≡ length card.made.switch_status = length-set card.made.switch_status 16 _ in
    let long : 16 < length refused = omega (arith, inside, same) in
    sym (ap (λ (is : Bool). if is then High else card.timing)
    (ap (λ n. n == 1) (sent_selects choice refused long)
    ∙ refusal_selects choice.selects_none card.made.switch_status inside)))
