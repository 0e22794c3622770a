-- How the exchanges of widening an SD card join.
use denote.Enum.Bare.{sameb}
use Rattle.std.proofs.Common.{◌∙◌, ◌≡◌, Bool, List, ap, false, inl, inr, refl, subst, sym, true, ℕ}
use Rattle.std.proofs.lemmas.Bool.{eq-eqb, ne_eqb}
use Rattle.std.proofs.lemmas.Result.{IfOk-from_err}
use Rattle.std.specs.Prelude.{◌&&◌, ◌==◌, Err, IfOk, IsErr, IsOk, Ok, Result, if◌then◌else◌, not}
use Rattle.mmc_frame.specs.declared.kind.Kind.{Kind}
use Rattle.mmc_frame.specs.declared.kind.Kind.TheVariants.{Sd}
use Rattle.mmc_regs.specs.Csd.{may_switch}
use Rattle.mmc_regs.specs.Scr.{four_lines, scr_number, sd_spec}
use Rattle.mmc_regs.specs.SwitchStatus.{access_mode_selected, high_speed_support}
use Rattle.mmc_card.specs.Limits.{fewer, slower}
use Rattle.mmc_card.specs.contracts.exchange.Timing.{the_type as timing_type}
use Rattle.mmc_card.specs.contracts.exchange.Width.{the_type as width_type}
use Rattle.mmc_card.specs.declared.exchange.Lines.{Lines}
use Rattle.mmc_card.specs.declared.exchange.Timing.{Timing}
use Rattle.mmc_card.specs.declared.exchange.Timing.TheVariants.{Default, High}
use Rattle.mmc_card.specs.declared.exchange.Width.{Width}
use Rattle.mmc_card.specs.declared.exchange.Width.TheVariants.{Eight, Four, One}
use Rattle.mmc_card.specs.BusView.{BusView}
use Rattle.mmc_card.specs.Card.{Card, FromBytes, IsCard, Source}
use Rattle.mmc_card.specs.Faults.{NoFault}
use Rattle.mmc_card.proofs.Passing.{still}
use Rattle.mmc_card.specs.CardAnswer.{shown}
use Rattle.mmc_card.specs.Laws.{IsStill, Setting, timing_once_sent}
use Rattle.mmc_card.specs.Made.{Made, csd_number_of, has_high_speed, has_switch_function, is_sd}
use Rattle.mmc_bus.specs.CommandLaws.{IsSwitchSource, bytes_sent}
use Rattle.mmc_bus.proofs.CommandLemmas.{switch_bytes}
use Rattle.mmc_bus.specs.declared.cause.Cause.{Cause}
use Rattle.mmc_bus.specs.Learned.{Stays}
use Rattle.mmc_bus.specs.Work.{Moved}
use Rattle.mmc_bus.proofs.ClosingLemmas.{ConfirmsOnce}
use Rattle.mmc_bus.proofs.WorkLemmas.{moved_as, moved_then, quiet_parts, refuted}
use Rattle.mmc_switch.specs.Info.{IsTimingOver, timing_of, timing_over, width_over}
use Rattle.mmc_switch.specs.Stages.{HasSwitched, IsSet, IsSetOver, IsToldOf, first_setting, lines_of, user_setting}
use Rattle.mmc_switch.specs.declared.sd.TheConstants as Argument
use Rattle.mmc_switch.specs.declared.sd.Told.{Told}
use Rattle.mmc_switch.proofs.FetchLemmas.{Fetches}
use Rattle.mmc_switch.proofs.SwitchStatusLemmas.{checks_only, same_support, says_timing}
use Rattle.mmc_switch.proofs.RestLemmas.{moved_on_lines, set_on_lines, set_shown, still_at_rest}
use Rattle.mmc_switch.proofs.UnderWayLemmas.{said_before}

-- the card stays of its kind
sd_then : (a b : BusView) → Stays a b → a.card.made.kind ≡ Sd → b.card.made.kind ≡ Sd
sd_then a b stays sd = ap (λ (m : Made). m.kind) stays.carried.made ∙ sd

-- The SCR.

abbrev pub Announces : ℕ → Result Unit Cause → BusView → BusView → Type 0
Announces rca r a b =
    Moved
    (λ old new. (setting : Setting) → setting.rca ≡ rca → IsSet false setting old → IsOk r → IsSet true setting new)
    (λ old new. (setting : Setting) → setting.rca ≡ rca → old.card.made.kind ≡ Sd → IsSet false setting old → IsOk r)
    a b

abbrev pub SendsScr : Result ℕ Cause → BusView → BusView → Type 0
SendsScr r a b =
    Moved
    (λ old new. (setting : Setting) → IsSet true setting old
    → IfOk r (λ scr. (scr ≡ scr_number old.card.made.scr) × IsSet false setting new))
    (λ old new. (setting : Setting) → old.card.made.kind ≡ Sd → IsSet true setting old → IsOk r) a b

abbrev pub ReadsScr : ℕ → Result ℕ Cause → BusView → BusView → Type 0
ReadsScr rca r a b =
    Moved
    (λ old new. (setting : Setting) → setting.rca ≡ rca → IsSet false setting old
    → IfOk r (λ scr. (scr ≡ scr_number old.card.made.scr) × IsSet false setting new))
    (λ old new. (setting : Setting) → setting.rca ≡ rca → old.card.made.kind ≡ Sd → IsSet false setting old → IsOk r)
    a b

pub scr_sent : (r : Result ℕ Cause) (a b : BusView)
    → Fetches (Unit {0}) (a.card.made.kind ≡ Sd) true a.card.made.scr a.card.timing scr_number r a b → SendsScr r a b
scr_sent r a b p =
    moved_as a b p (λ setting set. p.own setting setting tt set set.is_set)
    (λ same setting sd set. p.fine same setting tt sd set)

pub announce_fails : (rca : ℕ) (cause : Cause) (r : Result ℕ Cause) (a b : BusView) → IsErr r
    → Announces rca (Err cause) a b → ReadsScr rca r a b
announce_fails rca cause r a b err p =
    moved_as a b p (λ setting is set. IfOk-from_err r _ err)
    (λ same setting is sd set. refuted {X = Unit {0}} (Err cause) refl (p.fine same setting is sd set))

pub scr_read : (rca : ℕ) (r : Result ℕ Cause) (a b c : BusView) → Announces rca (Ok tt) a b → SendsScr r b c
    → ReadsScr rca r a c
scr_read rca r a b c p q =
    moved_then a b c p q
    (λ setting is set.
    subst (λ (m : Made). IfOk r (λ scr. (scr ≡ scr_number m.scr) × IsSet false setting c)) p.stays.carried.made
    (q.own setting (p.own setting is set refl)))
    (λ same setting is sd set.
    q.fine (quiet_parts a b c p.stays q.stays same).1 setting (sd_then a b p.stays sd) (p.own setting is set refl))

-- Four lines.

abbrev pub SetsBusWidth : Result Unit Cause → BusView → BusView → Type 0
SetsBusWidth r a b =
    Moved
    (λ old new. (setting : Setting) → old.card.made.kind ≡ Sd → IsSet true setting old → IsOk r
    → IsSetOver (lines_of setting) false (record setting { width = Four }) new)
    (λ old new. (setting : Setting) → old.card.made.kind ≡ Sd → IsSet true setting old → IsOk r) a b

abbrev pub UsesFourLines : ℕ → Result Unit Cause → BusView → BusView → Type 0
UsesFourLines rca r a b =
    Moved
    (λ old new. old.card.made.kind ≡ Sd → IsSet false (user_setting rca One Default 0) old → IsOk r
    → IsSet false (user_setting rca Four Default 0) new)
    (λ old new. old.card.made.kind ≡ Sd → IsSet false (user_setting rca One Default 0) old → IsOk r) a b

pub announce_fails_four : (rca : ℕ) (cause : Cause) (r : Result Unit Cause) (a b : BusView) → IsErr r
    → Announces rca (Err cause) a b → UsesFourLines rca r a b
announce_fails_four rca cause r a b err p =
    moved_as a b p (λ sd set ok. refuted r err ok)
    (λ same sd set.
    refuted {X = Unit {0}} (Err cause) refl (p.fine same (user_setting rca One Default 0) refl sd set))

pub bus_width_fails : (rca : ℕ) (cause : Cause) (r : Result Unit Cause) (a b c : BusView) → IsErr r
    → Announces rca (Ok tt) a b → SetsBusWidth (Err cause) b c → UsesFourLines rca r a c
bus_width_fails rca cause r a b c err p q =
    let setting = user_setting rca One Default 0 in
    moved_then a b c p q (λ sd set ok. refuted r err ok)
    (λ same sd set.
    refuted {X = Unit {0}} (Err cause) refl
    (q.fine (quiet_parts a b c p.stays q.stays same).1 setting (sd_then a b p.stays sd) (p.own setting refl set refl)))

pub four_used : (rca : ℕ) (a b c d : BusView) → (b.is_kept ≡ true → Announces rca (Ok tt) a b)
    → (c.is_kept ≡ true → SetsBusWidth (Ok tt) b c)
    → d ≡ record c { lines = record { width = Four; timing = Default } } → d.is_kept ≡ true
    → UsesFourLines rca (Ok tt) a d
four_used rca a b c d announces widens e kept =
    let setting = user_setting rca One Default 0 in
    let q = moved_on_lines b c d _ e widens kept in
    let p = announces q.was_kept in
    moved_then a b d p q
    (λ sd set ok. set_on_lines false (lines_of setting) (user_setting rca Four Default 0) c d e
    (q.own setting (sd_then a b p.stays sd) (p.own setting refl set refl) refl))
    (λ same sd set. refl)

-- High speed.

abbrev pub Switches : ℕ → Result (List ℕ) Cause → BusView → BusView → Type 0
Switches argument r a b =
    Moved
    (λ old new. (setting : Setting) → old.card.made.kind ≡ Sd → IsSet false setting old
    → IfOk r (λ status. HasSwitched argument setting old.card status new))
    (λ old new. (setting : Setting) → old.card.made.kind ≡ Sd → has_switch_function old.card.made ≡ true
    → IsSet false setting old → IsOk r) a b

-- what came was what the card sent
switched_by : (argument : ℕ) (setting : Setting) (card : Card) (source : Source) (r : Result (List ℕ) Cause)
    (b : BusView) → (IsOk r → IsSwitchSource card argument source)
    → IfOk r (λ status. (status ≡ bytes_sent source)
    × IsSetOver (lines_of setting) false (record setting { timing = timing_once_sent source card.timing }) b)
    → IfOk r (λ status. HasSwitched argument setting card status b)
switched_by argument setting card source (Ok status) b sends own =
    let sent = sends refl in
    let timing = timing_once_sent source card.timing in
    let whole : FromBytes (bytes_sent source) timing ≡ source = switch_bytes card.timing card argument source sent in
    record {
      timing = timing;
      sent = (sent.0, ap (λ (bytes : List ℕ). FromBytes bytes timing) own.0 ∙ whole ∙ sent.1);
      is_set = own.1;
    }
switched_by argument setting card source (Err cause) b sends own = tt

pub status_sent : (argument : ℕ) (r : Result (List ℕ) Cause) (a m b : BusView)
    → (a.card.made.kind ≡ Sd → a.card.app ≡ false → IsStill a.card → IsOk r → IsSwitchSource a.card argument m.card.source)
    → Fetches ((a.card.made.kind ≡ Sd) × (a.card.app ≡ false) × IsStill a.card) (has_switch_function a.card.made ≡ true) false
    (bytes_sent m.card.source) (timing_once_sent m.card.source a.card.timing) (λ bytes. bytes) r a b
    → Switches argument r a b
status_sent argument r a m b sends p =
    let timed : Setting → Setting =
    λ s. record s { timing = timing_once_sent m.card.source a.card.timing } in
    moved_as a b p
    (λ setting sd set.
    let is = still_at_rest a.card set.rest in
    switched_by argument setting a.card m.card.source r b (sends sd set.rest.app is)
    (p.own setting (timed setting) (sd, set.rest.app, is) set (ap timed set.is_set)))
    (λ same setting sd has set. p.fine same setting (sd, set.rest.app, still_at_rest a.card set.rest) has set)

abbrev pub SwitchesToHigh : Width → Result Timing Cause → BusView → BusView → Type 0
SwitchesToHigh width r a b =
    Moved
    (λ old new. (rca : ℕ) → old.card.made.kind ≡ Sd → IsSet false (user_setting rca width Default 0) old
    → IfOk r (λ timing. IsSet false (user_setting rca width timing 0) new))
    (λ old new. (rca : ℕ) → old.card.made.kind ≡ Sd → has_switch_function old.card.made ≡ true
    → IsSet false (user_setting rca width Default 0) old → IsOk r) a b

pub switch_fails : (width : Width) (cause : Cause) (r : Result Timing Cause) (a b : BusView) → IsErr r
    → Switches Argument.SWITCH_TO_HIGH_SPEED (Err cause) a b → SwitchesToHigh width r a b
switch_fails width cause r a b err p =
    moved_as a b p (λ rca sd set. IfOk-from_err r _ err)
    (λ same rca sd has set.
    refuted {X = List ℕ} (Err cause) refl (p.fine same (user_setting rca width Default 0) sd has set))

-- its second status says which timing is selected
selected : (rca : ℕ) (width : Width) (status : List ℕ) (timing : Timing) (a b : BusView) → IsCard a.card
    → a.card.made.kind ≡ Sd → (if access_mode_selected status == 1 then High else Default) ≡ timing
    → IsSet false (user_setting rca width Default 0) a
    → HasSwitched Argument.SWITCH_TO_HIGH_SPEED (user_setting rca width Default 0) a.card status b
    → IsSetOver (lines_of (user_setting rca width Default 0)) false (user_setting rca width timing 0) b
selected rca width status timing a b card sd is set now =
    let was : a.card.timing ≡ Default = ap (λ (s : Setting). s.timing) set.is_set in
    subst (λ t. IsSetOver (lines_of (user_setting rca width Default 0)) false (user_setting rca width t 0) b)
    (says_timing a.card status now.timing card.registers sd now.sent
    ∙ ap (λ (t : Timing). if access_mode_selected status == 1 then High else t) was ∙ is) now.is_set

pub switched : (width : Width) (status : List ℕ) (a b c : BusView) → access_mode_selected status ≡ 1
    → (b.is_kept ≡ true → Switches Argument.SWITCH_TO_HIGH_SPEED (Ok status) a b)
    → c ≡ record b { lines = record { width = width; timing = High } } → c.is_kept ≡ true
    → SwitchesToHigh width (Ok High) a c
switched width status a b c selects switches e kept =
    let q = moved_on_lines a b c _ e switches kept in
    moved_as a c q
    (λ rca sd set.
    let setting = user_setting rca width Default 0 in
    set_on_lines false (lines_of setting) (user_setting rca width High 0) b c e
    (selected rca width status High a b q.was_card sd (rw selects refl) set (q.own setting sd set)))
    (λ same rca sd has set. refl)

-- it refuses
pub not_switched : (width : Width) (status : List ℕ) (a b : BusView) → (access_mode_selected status ≡ 1 → ⊥)
    → Switches Argument.SWITCH_TO_HIGH_SPEED (Ok status) a b → SwitchesToHigh width (Ok Default) a b
not_switched width status a b not p =
    let other = ne_eqb (access_mode_selected status) 1 not in
    moved_as a b p
    (λ rca sd set. selected rca width status Default a b p.was_card sd (rw other refl) set
    (p.own (user_setting rca width Default 0) sd set))
    (λ same rca sd has set. refl)

abbrev pub SpeedsUp : Width → Result Timing Cause → BusView → BusView → Type 0
SpeedsUp width r a b =
    Moved
    (λ old new. (rca : ℕ) → old.limits.timing ≡ High → old.card.made.kind ≡ Sd
    → has_switch_function old.card.made ≡ true → IsSet false (user_setting rca width Default 0) old
    → IfOk r (λ timing. IsTimingOver old.limits old.card.made timing × IsSet false (user_setting rca width timing 0) new))
    (λ old new. (rca : ℕ) → old.card.made.kind ≡ Sd → has_switch_function old.card.made ≡ true
    → IsSet false (user_setting rca width Default 0) old → IsOk r) a b

pub check_fails : (width : Width) (cause : Cause) (r : Result Timing Cause) (a b : BusView) → IsErr r
    → Switches Argument.CHECK_HIGH_SPEED (Err cause) a b → SpeedsUp width r a b
check_fails width cause r a b err p =
    moved_as a b p (λ rca fast sd has set. IfOk-from_err r _ err)
    (λ same rca sd has set.
    refuted {X = List ℕ} (Err cause) refl (p.fine same (user_setting rca width Default 0) sd has set))

-- that high speed is only checked changes nothing
checked_set : (rca : ℕ) (width : Width) (status : List ℕ) (a b : BusView)
    → Switches Argument.CHECK_HIGH_SPEED (Ok status) a b → a.card.made.kind ≡ Sd
    → IsSet false (user_setting rca width Default 0) a → IsSet false (user_setting rca width Default 0) b
checked_set rca width status a b p sd set =
    let setting = user_setting rca width Default 0 in
    let now = p.own setting sd set in
    subst (λ t. IsSetOver (lines_of setting) false (user_setting rca width t 0) b)
    (checks_only a.card status now.timing now.sent ∙ ap (λ (s : Setting). s.timing) set.is_set) now.is_set

timing_by : (kind : Kind) (switches fast has high other : Bool) → kind ≡ Sd → switches ≡ has → fast ≡ high
    → (if (if is_sd kind then switches && fast else other) then High else Default)
    ≡ (if has && high then High else Default)
timing_by kind switches fast has high other sd x y = rw (sd, x, y) refl

-- the timing of an SD card, by whether it has CMD6 and high speed
sd_timing : (made : Made) (has high : Bool) → made.kind ≡ Sd → has_switch_function made ≡ has
    → has_high_speed made ≡ high → timing_of made ≡ (if has && high then High else Default)
sd_timing made has high sd x y =
    timing_by made.kind (has_switch_function made) (has_high_speed made) has high _ sd x y

pub not_supported : (width : Width) (status : List ℕ) (a b : BusView)
    → Switches Argument.CHECK_HIGH_SPEED (Ok status) a b → SpeedsUp width (Ok Default) a b
not_supported width status a b p =
    moved_as a b p (λ rca fast sd has set. (inr (sd, refl), checked_set rca width status a b p sd set))
    (λ same rca sd has set. refl)

-- of a card with high speed, over a host with it, each timing is one that it may have
either_timing : (limits : Lines) (made : Made) (timing : Timing) → made.kind ≡ Sd → timing_over limits made ≡ High
    → IsTimingOver limits made timing
either_timing limits made High sd is = inl (sym is)
either_timing limits made Default sd is = inr (sd, refl)

timing_known : (rca : ℕ) (width : Width) (limits : Lines) (made : Made) (r : Result Timing Cause) (c : BusView)
    → made.kind ≡ Sd → limits.timing ≡ High → timing_of made ≡ High
    → IfOk r (λ t. IsSet false (user_setting rca width t 0) c)
    → IfOk r (λ t. IsTimingOver limits made t × IsSet false (user_setting rca width t 0) c)
timing_known rca width limits made (Ok t) c sd fast is own =
    (either_timing limits made t sd (ap (λ t. slower t limits.timing) is ∙ fast), own)
timing_known rca width limits made (Err cause) c sd fast is own = tt

pub supported : (width : Width) (status : List ℕ) (r : Result Timing Cause) (a b c : BusView)
    → high_speed_support status ≡ 1 → Switches Argument.CHECK_HIGH_SPEED (Ok status) a b → SwitchesToHigh width r b c
    → SpeedsUp width r a c
supported width status r a b c is p q =
    let back = sym p.stays.carried.made in
    moved_then a b c p q
    (λ rca over sd has set.
    let now = p.own (user_setting rca width Default 0) sd set in
    let told = same_support a.card Argument.CHECK_HIGH_SPEED status now.timing now.sent in
    let fast : has_high_speed a.card.made ≡ true =
    eq-eqb (high_speed_support a.card.made.switch_status) 1 (sym told ∙ is) in
    timing_known rca width a.limits a.card.made r c sd over (sd_timing a.card.made true true sd has fast)
    (q.own rca (sd_then a b p.stays sd) (checked_set rca width status a b p sd set)))
    (λ same rca sd has set.
    q.fine (quiet_parts a b c p.stays q.stays same).1 rca (sd_then a b p.stays sd)
    (ap has_switch_function (sym back) ∙ has) (checked_set rca width status a b p sd set))

abbrev pub SetsTiming : Width → Bool → ℕ → Result Timing Cause → BusView → BusView → Type 0
SetsTiming width switches scr r a b =
    Moved
    (λ old new. (rca : ℕ) → old.card.made.kind ≡ Sd → switches ≡ may_switch (csd_number_of old.card.made)
    → scr ≡ scr_number old.card.made.scr → IsSet false (user_setting rca width Default 0) old
    → IfOk r (λ timing. IsTimingOver old.limits old.card.made timing × IsSet false (user_setting rca width timing 0) new))
    (λ old new. (rca : ℕ) → old.card.made.kind ≡ Sd → switches ≡ may_switch (csd_number_of old.card.made)
    → scr ≡ scr_number old.card.made.scr → IsSet false (user_setting rca width Default 0) old → IsOk r)
    a b

pub is_high : (timing : Timing) → sameb timing_type timing High ≡ true → timing ≡ High
is_high High same = refl
is_high Default same = cc same

knows_switch : (switches old : Bool) → switches ≡ true → old ≡ false → (switches && not old) ≡ true
knows_switch true false e f = refl
knows_switch true true e f = cc f
knows_switch false old e f = cc e

pub timing_set : (width : Width) (switches : Bool) (scr : ℕ) (r : Result Timing Cause) (a b : BusView)
    → switches ≡ true → (sd_spec scr ≡ 0 → ⊥) → a.limits.timing ≡ High → SpeedsUp width r a b
    → SetsTiming width switches scr r a b
timing_set width switches scr r a b known not_old fast p =
    let has : switches ≡ may_switch (csd_number_of a.card.made) → scr ≡ scr_number a.card.made.scr
    → has_switch_function a.card.made ≡ true =
    λ class is. knows_switch (may_switch (csd_number_of a.card.made)) (sd_spec (scr_number a.card.made.scr) == 0)
    (sym class ∙ known) (ne_eqb (sd_spec (scr_number a.card.made.scr)) 0 (λ e. not_old (ap sd_spec is ∙ e))) in
    moved_as a b p (λ rca sd class is set. p.own rca fast sd (has class is) set)
    (λ same rca sd class is set. p.fine same rca sd (has class is) set)

-- The exchanges of widening.

abbrev pub SetsWidth : ℕ → ℕ → Result Width Cause → BusView → BusView → Type 0
SetsWidth rca scr r a b =
    Moved
    (λ old new. old.card.made.kind ≡ Sd → scr ≡ scr_number old.card.made.scr → IsSet false (first_setting rca) old
    → IfOk r (λ width. (width ≡ width_over old.limits old.card.made) × IsSet false (user_setting rca width Default 0) new))
    (λ old new. old.card.made.kind ≡ Sd → IsSet false (first_setting rca) old → IsOk r) a b

-- the width of an SD card
sd_width : (limits : Lines) (made : Made) → made.kind ≡ Sd
    → fewer (if four_lines (scr_number made.scr) == 1 then Four else One) limits.width ≡ width_over limits made
sd_width limits made sd = rw sd refl

-- over a host of several lines a card uses its four
four_fits : (width : Width) → not (sameb width_type width One) ≡ true → Four ≡ fewer Four width
four_fits One several = cc several
four_fits Four several = refl
four_fits Eight several = refl

pub four_set : (rca scr : ℕ) (limits : Lines) (a b : BusView) → limits ≡ a.limits → four_lines scr ≡ 1
    → not (sameb width_type limits.width One) ≡ true → UsesFourLines rca (Ok tt) a b → SetsWidth rca scr (Ok Four) a b
four_set rca scr limits a b host four several p =
    let fits : Four ≡ fewer Four a.limits.width = subst (λ (l : Lines). Four ≡ fewer Four l.width) host
    (four_fits limits.width several) in
    moved_as a b p
    (λ sd is set. (
      fits
          ∙ ap (λ n. fewer (if n == 1 then Four else One) a.limits.width) (sym four ∙ ap four_lines is)
          ∙ sd_width a.limits a.card.made sd,
      p.own sd set refl,
    ))
    p.fine

-- the SCR is read, and the width is set or not
abbrev pub HasWidth : ℕ → ℕ → Result Width Cause → BusView → BusView → Type 0
HasWidth rca scr r a b =
    Moved
    (λ old new. old.card.made.kind ≡ Sd → IsSet false (first_setting rca) old
    → (scr ≡ scr_number old.card.made.scr)
    × IfOk r (λ width. (width ≡ width_over old.limits old.card.made) × IsSet false (user_setting rca width Default 0) new))
    (λ old new. old.card.made.kind ≡ Sd → IsSet false (first_setting rca) old → IsOk r) a b

-- and the timing is set or not
abbrev pub HasTiming : ℕ → Bool → ℕ → Width → Result Timing Cause → BusView → BusView → Type 0
HasTiming rca switches scr width r a b =
    Moved
    (λ old new. old.card.made.kind ≡ Sd → switches ≡ may_switch (csd_number_of old.card.made)
    → IsSet false (first_setting rca) old
    → (scr ≡ scr_number old.card.made.scr) × (width ≡ width_over old.limits old.card.made)
    × IfOk r (λ timing. IsTimingOver old.limits old.card.made timing × IsSet false (user_setting rca width timing 0) new))
    (λ old new. old.card.made.kind ≡ Sd → switches ≡ may_switch (csd_number_of old.card.made)
    → IsSet false (first_setting rca) old → IsOk r) a b

abbrev pub SetsUp : ℕ → Bool → Result Told Cause → BusView → BusView → Type 0
SetsUp rca switches r a b =
    Moved
    (λ old new. old.card.made.kind ≡ Sd → switches ≡ may_switch (csd_number_of old.card.made)
    → IsSet false (first_setting rca) old
    → IfOk r (λ told. IsToldOf old.limits old.card.made told × IsSet false (user_setting rca told.width told.timing 0) new))
    (λ old new. old.card.made.kind ≡ Sd → switches ≡ may_switch (csd_number_of old.card.made)
    → IsSet false (first_setting rca) old → IsOk r) a b

pub width_after : (rca scr : ℕ) (r : Result Width Cause) (a b c : BusView) → ReadsScr rca (Ok scr) a b
    → SetsWidth rca scr r b c → HasWidth rca scr r a c
width_after rca scr r a b c p q =
    let made = p.stays.carried.made in
    moved_then a b c p q
    (λ sd set.
    let read = p.own (first_setting rca) refl set in
    let here : scr ≡ scr_number b.card.made.scr = read.0 ∙ ap (λ (m : Made). scr_number m.scr) (sym made) in (
      read.0,
      said_before
          (λ l m. IfOk r (λ width. (width ≡ width_over l m) × IsSet false (user_setting rca width Default 0) c))
          a b p.stays (q.own (sd_then a b p.stays sd) here read.1),
    ))
    (λ same sd set.
    q.fine (quiet_parts a b c p.stays q.stays same).1 (sd_then a b p.stays sd)
    (p.own (first_setting rca) refl set).1)

pub timing_then : (rca : ℕ) (switches : Bool) (scr : ℕ) (width : Width) (r : Result Timing Cause) (a b c : BusView)
    → HasWidth rca scr (Ok width) a b → SetsTiming width switches scr r b c → HasTiming rca switches scr width r a c
timing_then rca switches scr width r a b c p q =
    let made = p.stays.carried.made in
    let still : switches ≡ may_switch (csd_number_of a.card.made) → switches ≡ may_switch (csd_number_of b.card.made) =
    λ class. class ∙ ap (λ (m : Made). may_switch (csd_number_of m)) (sym made) in
    let here : scr ≡ scr_number a.card.made.scr → scr ≡ scr_number b.card.made.scr =
    λ is. is ∙ ap (λ (m : Made). scr_number m.scr) (sym made) in
    moved_then a b c p q
    (λ sd class set.
    let got = p.own sd set in (
      got.0,
      got.1.0,
      said_before (λ l m. IfOk r (λ timing. IsTimingOver l m timing × IsSet false (user_setting rca width timing 0) c))
          a b p.stays (q.own rca (sd_then a b p.stays sd) (still class) (here got.0) got.1.1),
    ))
    (λ same sd class set.
    let got = p.own sd set in
    q.fine (quiet_parts a b c p.stays q.stays same).1 rca (sd_then a b p.stays sd) (still class) (here got.0) got.1.1)

pub scr_fails : (rca : ℕ) (switches : Bool) (cause : Cause) (r : Result Told Cause) (a b : BusView) → IsErr r
    → ReadsScr rca (Err cause) a b → SetsUp rca switches r a b
scr_fails rca switches cause r a b err p =
    moved_as a b p (λ sd class set. IfOk-from_err r _ err)
    (λ same sd class set. refuted {X = ℕ} (Err cause) refl (p.fine same (first_setting rca) refl sd set))

pub width_fails : (rca : ℕ) (switches : Bool) (scr : ℕ) (cause : Cause) (r : Result Told Cause) (a b : BusView)
    → IsErr r → HasWidth rca scr (Err cause) a b → SetsUp rca switches r a b
width_fails rca switches scr cause r a b err p =
    moved_as a b p (λ sd class set. IfOk-from_err r _ err)
    (λ same sd class set. refuted {X = Width} (Err cause) refl (p.fine same sd set))

pub timing_fails : (rca : ℕ) (switches : Bool) (scr : ℕ) (width : Width) (cause : Cause) (r : Result Told Cause)
    (a b : BusView) → IsErr r → HasTiming rca switches scr width (Err cause) a b → SetsUp rca switches r a b
timing_fails rca switches scr width cause r a b err p =
    moved_as a b p (λ sd class set. IfOk-from_err r _ err)
    (λ same sd class set. refuted {X = Timing} (Err cause) refl (p.fine same sd class set))

-- a card at rest is confirmed without a fault
confirmed_fine : (rca : ℕ) (width : Width) (timing : Timing) (r : Result Unit Cause) (a b : BusView)
    → ConfirmsOnce Sd rca r a b → NoFault a b → a.card.made.kind ≡ Sd → IsSet false (user_setting rca width timing 0) a → IsOk r
confirmed_fine rca width timing r a b p same sd set =
    let rest = set.rest in
    p.fine same (
      sd,
      record {
        no_error = record { errors = rest.errors; switch_error = λ judged mmc. rest.switch_error };
        tran = rest.state;
        rests = rest.rests;
      },
    ) rest.app
    (ap (λ (s : Setting). s.rca) set.is_set) rest.up_to_date

pub confirm_fails : (rca : ℕ) (switches : Bool) (scr : ℕ) (width : Width) (timing : Timing) (cause : Cause)
    (r : Result Told Cause) (a b c : BusView) → IsErr r → HasTiming rca switches scr width (Ok timing) a b
    → ConfirmsOnce Sd rca (Err cause) b c → SetsUp rca switches r a c
confirm_fails rca switches scr width timing cause r a b c err p q =
    moved_then a b c p q (λ sd class set. IfOk-from_err r _ err)
    (λ same sd class set.
    refuted {X = Unit {0}} (Err cause) refl
    (confirmed_fine rca width timing (Err cause) b c q (quiet_parts a b c p.stays q.stays same).1
    (sd_then a b p.stays sd) (p.own sd class set).2.1))

pub set_up : (rca : ℕ) (switches : Bool) (scr : ℕ) (width : Width) (timing : Timing) (a b c : BusView)
    → HasTiming rca switches scr width (Ok timing) a b → ConfirmsOnce Sd rca (Ok tt) b c
    → SetsUp rca switches (Ok (record { scr = scr; width = width; timing = timing })) a c
set_up rca switches scr width timing a b c p q =
    moved_then a b c p q
    (λ sd class set.
    let got = p.own sd class set in (
      record { scr = got.0; width = got.1; timing = got.2.0 },
      (let told = q.own refl in
          let same = still b told.0 (still_at_rest b.card got.2.1.rest) told.1 in
          set_shown (user_setting rca width timing 0) b c q.set.lines (told.2.1 ∙ ap (λ (v : BusView). shown v.card) same) got.2.1),
    ))
    (λ same sd class set. refl)
