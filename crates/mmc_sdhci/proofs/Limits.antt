-- Lines within Capabilities.
use Rattle.std.proofs.Common.{◌≡◌, ◌≤◌, ◌∙◌, Bool, Some, ap, arith, false, refl, subst, sym, true, ℕ}
use Rattle.std.specs.Prelude.{◌&&◌, ◌==◌, ◌||◌, bit_and, if◌then◌else◌, is_none, not}
use Rattle.std.proofs.lemmas.Bool.{eq-eqb}
use Rattle.mmc_frame.specs.Field.{field}
use Rattle.mmc_card.specs.Limits.{fewer}
use Rattle.mmc_card.specs.declared.exchange.Lines.{Lines}
use Rattle.mmc_card.specs.declared.exchange.Timing.TheVariants.{Default, High}
use Rattle.mmc_card.specs.declared.exchange.Width.{Width}
use Rattle.mmc_card.specs.declared.exchange.Width.TheVariants.{Eight, Four, One}
use Rattle.mmc_host.specs.Hosts.{IsWithin, lines_number}
use Rattle.mmc_host.specs.declared.data.Data.{Data}
use Rattle.mmc_sdhci.specs.Accesses.{is_able, is_at_rest, is_selected, may_write8}
use Rattle.mmc_sdhci.specs.Commands.{selection}
use Rattle.mmc_sdhci.specs.Controller.{Built, ControllerView, has_data, is_settled, is_still, limits_in, limits_of, lines_in}
use Rattle.mmc_sdhci.specs.DataLooks.{is_empty}
use Rattle.mmc_sdhci.specs.Finishing.{Reaches}
use Rattle.mmc_sdhci.specs.declared.dma.Dma.{Dma}
use Rattle.mmc_sdhci.specs.declared.dma.Dma.TheVariants as Way
use Rattle.mmc_sdhci.proofs.Blocks.{both}

or_last : (b : Bool) → (b || true) ≡ true
or_last true = refl
or_last false = refl

width_able : (eight four can was : Bool)
    → lines_number (if eight then Eight else (if four then Four else One)) ≤ lines_number (if can then Eight else Four)
    → (not eight || (can || was)) ≡ true
width_able true four true was few = refl
width_able true four false was few = absurd (omega (arith, few))
width_able false four can was few = refl

timing_able : (high can was : Bool)
    → ((if high then High else Default) ≡ High → (if can then High else Default) ≡ High) → (not high || (can || was)) ≡ true
timing_able true true was fast = refl
timing_able true false was fast = let e = fast refl in cc
timing_able false can was fast = refl

pub able : (control before capabilities : ℕ) → IsWithin (lines_in control) (limits_in capabilities)
    → is_able capabilities before control ≡ true
able control before capabilities within =
    ap (λ (b : Bool). b && (not (field 2 2 control == 1) || ((field 21 21 capabilities == 1) || (field 2 2 before == 1))))
    (width_able (field 5 5 control == 1) (field 1 1 control == 1) (field 18 18 capabilities == 1) (field 5 5 before == 1) within.0)
    ∙ timing_able (field 2 2 control == 1) (field 21 21 capabilities == 1) (field 2 2 before == 1) within.1

-- the lines that are set already
width_again : (eight four was was_four can : Bool)
    → (if eight then Eight else (if four then Four else One)) ≡ (if was then Eight else (if was_four then Four else One))
    → (not eight || (can || was)) ≡ true
width_again false four was was_four can same = refl
width_again true four true was_four can same = or_last can
width_again true four false true can same = cc
width_again true four false false can same = cc

timing_again : (high was can : Bool) → (if high then High else Default) ≡ (if was then High else Default)
    → (not high || (can || was)) ≡ true
timing_again false was can same = refl
timing_again true true can same = or_last can
timing_again true false can same = cc

pub able_again : (control before capabilities : ℕ) → lines_in control ≡ lines_in before → is_able capabilities before control ≡ true
able_again control before capabilities same =
    ap (λ (b : Bool). b && (not (field 2 2 control == 1) || ((field 21 21 capabilities == 1) || (field 2 2 before == 1))))
    (width_again (field 5 5 control == 1) (field 1 1 control == 1) (field 5 5 before == 1) (field 1 1 before == 1)
    (field 18 18 capabilities == 1) (ap (λ (l : Lines). l.width) same))
    ∙ timing_again (field 2 2 control == 1) (field 2 2 before == 1) (field 21 21 capabilities == 1)
    (ap (λ (l : Lines). l.timing) same)

abbrev fits : ControllerView → ℕ → Bool
fits view control =
    (bit_and control 0x3e == control)
    && (is_able view.built.capabilities view.settings.control control && is_selected view.built.capabilities control)

abbrev selected : ℕ → ℕ → ℕ → Bool
selected way adma wide = (way == 0) || ((adma == 1) && ((way == 2) || ((way == 3) && (wide == 1))))

-- the Buffer Data Port is always there
pub selects_port : (capabilities control : ℕ) → field 4 3 control ≡ 0 → is_selected capabilities control ≡ true
selects_port capabilities control none =
    ap (λ n. selected n (field 19 19 capabilities) (field 28 28 capabilities)) none

-- and so is a way that reaches some memory
pub selects_memory : (capabilities control start size : ℕ) (dma : Dma) → field 4 3 control ≡ selection (Some dma)
    → Reaches capabilities dma start size → is_selected capabilities control ≡ true
selects_memory capabilities control start size Way.Sdma is reaches = selects_port capabilities control is
selects_memory capabilities control start size Way.Adma32 is reaches =
    ap (λ n. selected n (field 19 19 capabilities) (field 28 28 capabilities)) is
    ∙ ap (λ n. selected 2 n (field 28 28 capabilities)) reaches.0
selects_memory capabilities control start size Way.Adma64 is reaches =
    ap (λ n. selected n (field 19 19 capabilities) (field 28 28 capabilities)) is
    ∙ (ap (λ n. selected 3 n (field 28 28 capabilities)) reaches.0 ∙ ap (λ n. selected 3 1 n) reaches.1.0)

-- Host Control 1 is written at rest, where no data is under way.
pub may_set : (view : ControllerView) (control : ℕ) → is_at_rest view ≡ true → view.transfer ≡ Data.Nothing
    → bit_and control 0x3e ≡ control → is_able view.built.capabilities view.settings.control control ≡ true
    → is_selected view.built.capabilities control ≡ true → may_write8 view 0x28 control ≡ true
may_set view control rests idle alone able_is selected =
    let r = both (is_none view.running) _ rests in
    let s = both (not view.is_stuck) _ r.1 in
    let t = both (not view.is_stale) _ s.1 in
    let u = both (is_none view.unjudged) _ t.1 in
    let w = both (is_empty view.outgoing) _ u.1 in
    let x = both (is_settled view) _ (both (is_still view) _ w.1).0 in
    ap (λ (b : Bool). (b && not (has_data view.transfer)) && (is_settled view && fits view control)) r.0
    ∙ (ap (λ (d : Data). not (has_data d) && (is_settled view && fits view control)) idle
    ∙ (ap (λ (b : Bool). b && fits view control) x.0
    ∙ (ap (λ (b : Bool). b && (is_able view.built.capabilities view.settings.control control && is_selected view.built.capabilities control)) (eq-eqb _ _ alone)
    ∙ (ap (λ (b : Bool). b && is_selected view.built.capabilities control) able_is ∙ selected))))

few : (a b : Width) → lines_number (fewer a b) ≤ lines_number b
few One One = omega arith
few One Four = omega arith
few One Eight = omega arith
few Four One = omega arith
few Four Four = omega arith
few Four Eight = omega arith
few Eight b = omega arith

-- what is wired is no more than the controller has
had : (built : Built) (lines : Lines) → IsWithin lines (limits_of built) → IsWithin lines (limits_in built.capabilities)
had built lines within =
    let w = within.0 in let f = few built.wired (limits_in built.capabilities).width in (omega (arith, w, f), within.1)

pub within_as : (built : Built) {lines wanted : Lines} → lines ≡ wanted → IsWithin wanted (limits_of built)
    → IsWithin lines (limits_of built)
within_as built {lines} {wanted} same within = subst (λ (l : Lines). IsWithin l (limits_of built)) (sym same) within

-- the lines that a host may be told
pub may_control : (view : ControllerView) (control : ℕ) → is_at_rest view ≡ true → view.transfer ≡ Data.Nothing
    → bit_and control 0x3e ≡ control → field 4 3 control ≡ 0 → IsWithin (lines_in control) (limits_of view.built)
    → may_write8 view 0x28 control ≡ true
may_control view control rests idle alone port within =
    may_set view control rests idle alone
    (able control view.settings.control view.built.capabilities (had view.built (lines_in control) within))
    (selects_port view.built.capabilities control port)

-- those that are set, with DMA
pub may_select : (view : ControllerView) (control start size : ℕ) (dma : Dma) → is_at_rest view ≡ true → view.transfer ≡ Data.Nothing
    → bit_and control 0x3e ≡ control → field 4 3 control ≡ selection (Some dma)
    → Reaches view.built.capabilities dma start size → lines_in control ≡ lines_in view.settings.control
    → may_write8 view 0x28 control ≡ true
may_select view control start size dma rests idle alone moves reaches same =
    may_set view control rests idle alone (able_again control view.settings.control view.built.capabilities same)
    (selects_memory view.built.capabilities control start size dma moves reaches)
