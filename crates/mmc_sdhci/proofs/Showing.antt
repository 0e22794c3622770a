-- Which interrupts are shown.
use Rattle.std.proofs.Common.{None, ◌*◌, ◌+◌, ◌<◌, ◌∙◌, ◌≡◌, ap, arith, bit_and, refl, subst, suc, sym, true, zero, ℕ}
use Rattle.std.specs.Prelude.{Bool, ◌&&◌, ◌==◌, ◌||◌, is_none, not}
use Rattle.std.proofs.lemmas.Bool.{eq-eqb}
use Rattle.mmc_frame.specs.Field.{field}
use Rattle.mmc_host.specs.declared.data.Data.{Data}
use Rattle.mmc_sdhci.specs.Accesses.{IsAllowed, Reads, Writes, Writes8, is_at_rest, is_idle, is_shown_set, of_the_slot}
use Rattle.mmc_sdhci.specs.Controller.{ControllerView, Settled, are_shown, has_data}
use Rattle.mmc_sdhci.specs.Driver.{IsOff, Restarts, showing, started}
use Rattle.mmc_sdhci.specs.Finishing.{IsIdle, ShowsErrors}
use Rattle.mmc_sdhci.specs.Settling.{ResetEnds}
use Rattle.mmc_sdhci.proofs.Blocks.{both}
use Rattle.mmc_sdhci.proofs.Glancing.{or_true}

-- what is shown that may be: the driver's own, or errors of ADMA2 too, and some of the slot's
record MayBeShown (value : ℕ) : Type 0 where
  judged : are_shown value ≡ true
  alone : (bit_and value 0x027f00ff == value) ≡ true

own_shown : (n : ℕ) → n < 4 → MayBeShown (0x007f0033 + 0x40 * n)
own_shown zero few = record { judged = refl; alone = refl }
own_shown (suc zero) few = record { judged = refl; alone = refl }
own_shown (suc (suc zero)) few = record { judged = refl; alone = refl }
own_shown (suc (suc (suc zero))) few = record { judged = refl; alone = refl }
own_shown (suc (suc (suc (suc n)))) few = absurd (omega (arith, few))

errors_shown : (n : ℕ) → n < 4 → MayBeShown (0x027f0033 + 0x40 * n)
errors_shown zero few = record { judged = refl; alone = refl }
errors_shown (suc zero) few = record { judged = refl; alone = refl }
errors_shown (suc (suc zero)) few = record { judged = refl; alone = refl }
errors_shown (suc (suc (suc zero))) few = record { judged = refl; alone = refl }
errors_shown (suc (suc (suc (suc n)))) few = absurd (omega (arith, few))

few_of_the_slot : (bits : ℕ) → of_the_slot bits < 4
few_of_the_slot bits = omega arith

abbrev stays_shown : ControllerView → ℕ → Bool
stays_shown view value = (of_the_slot view.settings.shown == 0) || (of_the_slot value == of_the_slot view.settings.shown)

may_be_set : (view : ControllerView) (value : ℕ) → MayBeShown value → stays_shown view value ≡ true → is_shown_set view value ≡ true
may_be_set view value may stays =
    ap (λ (b : Bool). b && ((bit_and value 0x027f00ff == value) && stays_shown view value)) may.judged
    ∙ (ap (λ (b : Bool). b && stays_shown view value) may.alone ∙ stays)

-- after a reset

is_restarted : (v0 v1 v2 : ControllerView) → Writes8 v0 0x2f 1 v1 → ResetEnds v1 v2 → Settled v0 (v2 ≡ started v0) v2
is_restarted v0 v1 v2 writes ends kept =
    let e = ends kept in
    let w = writes e.0 in
    (w.0, e.1 ∙ ap (λ (v : ControllerView). record v { resetting = None }) (w.1.restart refl refl))

idle_at_rest : (view : ControllerView) → is_at_rest view ≡ true → view.transfer ≡ Data.Nothing → is_idle view ≡ true
idle_at_rest view rests idle =
    ap (λ (b : Bool). b && not (has_data view.transfer)) (both (is_none view.running) _ rests).0
    ∙ ap (λ (t : Data). not (has_data t)) idle

pub may_show_own : (v0 v1 v2 : ControllerView) (kept bits : ℕ) → IsOff v0 → Writes8 v0 0x2f 1 v1 → ResetEnds v1 v2
    → bits ≡ 0x40 * of_the_slot kept → IsAllowed v2 0x34 (0x007f0033 + bits)
may_show_own v0 v1 v2 kept bits off writes ends are said =
    let r = is_restarted v0 v1 v2 writes ends said in
    let o = off r.0 in
    let value = 0x007f0033 + 0x40 * of_the_slot kept in
    ap (λ n. is_idle v2 && is_shown_set v2 (0x007f0033 + n)) are
    ∙ (ap (λ (v : ControllerView). is_idle v && is_shown_set v value) r.1
    ∙ (ap (λ (b : Bool). b && is_shown_set (started v0) value) (idle_at_rest v0 o.0 o.1.0)
    ∙ may_be_set (started v0) value (own_shown (of_the_slot kept) (few_of_the_slot kept)) refl))

pub restarts : (v0 v1 v2 v3 v4 : ControllerView) (kept bits : ℕ) → Writes8 v0 0x2f 1 v1 → ResetEnds v1 v2
    → Writes v2 0x34 (0x007f0033 + bits) v3 → Writes v3 0x38 bits v4 → bits ≡ 0x40 * of_the_slot kept → Restarts kept v0 v4
restarts v0 v1 v2 v3 v4 kept bits writes ends shows signals are said =
    let t = signals said in
    let s = shows t.0 in
    let r = is_restarted v0 v1 v2 writes ends s.0 in
    let value = 0x007f0033 + 0x40 * of_the_slot kept in
    let is : v4 ≡ showing (started v0) value =
    t.1 ∙ (s.1 ∙ (ap (λ (v : ControllerView). showing v (0x007f0033 + bits)) r.1 ∙ ap (λ n. showing (started v0) (0x007f0033 + n)) are)) in
    let shown : value ≡ v4.settings.shown = sym (ap (λ (v : ControllerView). v.settings.shown) is) in
    let slot : of_the_slot value ≡ of_the_slot kept = let few = few_of_the_slot kept in omega (arith, few) in (
      r.0,
      (
        is ∙ ap (λ n. showing (started v0) n) shown,
        subst (λ n. (are_shown n ≡ true) × (of_the_slot n ≡ of_the_slot kept)) shown
            ((own_shown (of_the_slot kept) (few_of_the_slot kept)).judged, slot),
      ),
    )

-- with errors of ADMA2

same_slot : (shown : ℕ) → of_the_slot (0x027f0033 + 0x40 * of_the_slot shown) ≡ of_the_slot shown
same_slot shown = let few = few_of_the_slot shown in omega (arith, few)

pub may_show_errors : (v0 v1 : ControllerView) (shown bits : ℕ) → IsIdle v0 → Reads v0 0x34 shown v1
    → bits ≡ 0x40 * of_the_slot shown → IsAllowed v1 0x34 (0x027f0033 + bits)
may_show_errors v0 v1 shown bits idle reads are said =
    let r = reads said in
    let is = r.1.shown refl in
    let value = 0x027f0033 + 0x40 * of_the_slot shown in
    ap (λ n. is_idle v1 && is_shown_set v1 (0x027f0033 + n)) are
    ∙ (ap (λ (v : ControllerView). is_idle v && is_shown_set v value) is.1
    ∙ (ap (λ (b : Bool). b && is_shown_set v0 value) (idle r.0)
    ∙ may_be_set v0 value (errors_shown (of_the_slot shown) (few_of_the_slot shown))
    (ap (λ n. (of_the_slot v0.settings.shown == 0) || (n == of_the_slot v0.settings.shown))
    (same_slot shown ∙ ap (λ n. of_the_slot n) is.0)
    ∙ (ap (λ (b : Bool). (of_the_slot v0.settings.shown == 0) || b) (eq-eqb (of_the_slot v0.settings.shown) _ refl)
    ∙ or_true (of_the_slot v0.settings.shown == 0)))))

shows : (v0 v1 : ControllerView) (shown : ℕ) → v1 ≡ showing v0 (0x027f0033 + 0x40 * of_the_slot shown)
    → (v1 ≡ showing v0 v1.settings.shown) × ((are_shown v1.settings.shown ≡ true) × (field 25 25 v1.settings.shown ≡ 1))
shows v0 v1 shown is =
    let few = few_of_the_slot shown in
    let so : 0x027f0033 + 0x40 * of_the_slot shown ≡ v1.settings.shown = sym (ap (λ (v : ControllerView). v.settings.shown) is) in
    let error : field 25 25 (0x027f0033 + 0x40 * of_the_slot shown) ≡ 1 = omega (arith, few) in (
      is ∙ ap (λ n. showing v0 n) so,
      subst (λ n. (are_shown n ≡ true) × (field 25 25 n ≡ 1)) so ((errors_shown (of_the_slot shown) few).judged, error),
    )

pub errors_written : (v0 v1 v2 : ControllerView) (shown bits : ℕ) → Reads v0 0x34 shown v1 → Writes v1 0x34 (0x027f0033 + bits) v2
    → bits ≡ 0x40 * of_the_slot shown → ShowsErrors v0 v2
errors_written v0 v1 v2 shown bits reads writes are said =
    let w = writes said in
    let r = reads w.0 in (
      r.0,
      shows v0 v2 shown (w.1 ∙ (ap (λ (v : ControllerView). showing v (0x027f0033 + bits)) (r.1.shown refl).1
          ∙ ap (λ n. showing v0 (0x027f0033 + n)) are)),
    )

pub errors_there : (v0 v1 : ControllerView) (shown bits : ℕ) → Reads v0 0x34 shown v1 → shown ≡ 0x027f0033 + bits
    → bits ≡ 0x40 * of_the_slot shown → ShowsErrors v0 v1
errors_there v0 v1 shown bits reads same are said =
    let r = reads said in
    let is = r.1.shown refl in
    (r.0, shows v0 v1 shown (is.1 ∙ ap (λ n. showing v0 n) (sym is.0 ∙ (same ∙ ap (λ n. 0x027f0033 + n) are))))
