-- How the parts of widening join.
use Rattle.std.proofs.Common.{◌+◌, ◌<◌, ◌∙◌, ◌≡◌, ◌≤◌, Bool, List, ap, arith, cond, false, inl, inr, length}
use Rattle.std.proofs.Common.{refl, subst, sym, true, ℕ}
use Rattle.std.proofs.lemmas.Bool.{eqb-true, le-ltb, ne_eqb}
use Rattle.std.proofs.lemmas.List.{get_or-set_other, get_or-set_same, length-set}
use Rattle.std.proofs.lemmas.Result.{IfOk-at_ok, IfOk-from_err}
use Rattle.std.specs.Prelude.{◌*◌, ◌==◌, Err, IfOk, IfSome, IsErr, IsOk, IsSome, MatchResult, Ok, Option}
use Rattle.std.specs.Prelude.{Result, Some, if◌then◌else◌, is_ok, is_some, slice_set}
use Rattle.mmc_frame.specs.Field.{field}
use Rattle.mmc_frame.specs.declared.addressing.Addressing.TheVariants.{Bytes, Sectors}
use Rattle.mmc_frame.specs.declared.kind.Kind.{Kind}
use Rattle.mmc_frame.specs.declared.kind.Kind.TheVariants.{Mmc, Sd}
use Rattle.mmc_regs.specs.Csd.{csd_number, may_switch}
use Rattle.mmc_regs.specs.Ocr.{access_mode}
use Rattle.mmc_ext_csd.specs.ExtCsd.{ext_csd_in, ext_csd_rev, hc_erase_grp_size, high_speed_at_52_mhz, partition_config}
use Rattle.mmc_ext_csd.specs.ExtCsd.{sec_count}
use Rattle.mmc_card.specs.BusView.{BusView}
use Rattle.mmc_card.specs.Card.{Card, IsCard, is_writing}
use Rattle.mmc_card.specs.Laws.{Setting}
use Rattle.mmc_card.proofs.ToldLemmas.{told_above, told_registers}
use Rattle.mmc_card.specs.Made.{HasRegisters, Made, addressing_of, as_told, csd_number_of, has_sector_addresses}
use Rattle.mmc_regs.proofs.CsdLemmas.{same_switch}
use Rattle.mmc_card.specs.Made.{named_block_length}
use Rattle.mmc_card.specs.Profile.{InProfile}
use Rattle.mmc_card.specs.RowsSwitch.{IsExtCsdOf, ext_csd_now, partition_config_for, timing_number, width_number}
use Rattle.mmc_card.specs.Limits.{slower}
use Rattle.mmc_card.specs.declared.exchange.Lines.{Lines}
use Rattle.mmc_card.specs.declared.exchange.Timing.{Timing}
use Rattle.mmc_card.specs.declared.exchange.Timing.TheVariants.{Default, High}
use Rattle.mmc_card.specs.declared.exchange.Width.{Width}
use Rattle.mmc_card.specs.declared.part.Part.{Part}
use Rattle.mmc_card.specs.declared.part.Part.TheVariants.{User}
use Rattle.mmc_bus.specs.declared.cause.Cause.{Cause}
use Rattle.mmc_bus.specs.Learned.{Stays}
use Rattle.mmc_bus.specs.Work.{Moved}
use Rattle.mmc_switch.proofs.FetchLemmas.{SendsExtCsd}
use Rattle.mmc_switch.proofs.SdLemmas.{SetsUp as SetsUpSd}
use Rattle.mmc_switch.proofs.SwitchLemmas.{SetsUp as SetsUpMmc}
use Rattle.mmc_switch.proofs.UnderWayLemmas.{knows_then, said_after, uses_all}
use Rattle.mmc_bus.proofs.WorkLemmas.{both, fell, moved_as, refuted}
use Rattle.mmc_identify.specs.Stages.{IsFound, IsLeft}
use Rattle.mmc_identify.specs.declared.found.Found.{Found}
use Rattle.mmc_switch.proofs.InfoLemmas.{byte_told, count_kept, mmc_speed, number_is}
use Rattle.mmc_switch.specs.Info.{IsInfo, erase_group_def_of, has_high_timing, timing_over, width_over}
use Rattle.mmc_switch.specs.Place.{IsInitialized, Knows, setting_in}
use Rattle.mmc_switch.specs.Stages.{IsSet, IsToldOf, first_lines, first_setting, user_setting}
use Rattle.mmc_switch.specs.declared.fault.SwitchFault.{SwitchFault}
use Rattle.mmc_switch.specs.declared.info.Info.{Info}
use Rattle.mmc_switch.specs.declared.sd.Told.{Told}
use Rattle.mmc_switch.specs.declared.session.Session.{Session}

-- What is given on as a success is one, and a failure none.

pub ok_is : {X : Type 0} (r : Result X Cause) (x : X)
    → MatchResult r (λ y. let told : Result X SwitchFault = Ok x in told ≡ Ok y) (λ cause. ⊥) → r ≡ Ok x
ok_is (Ok y) x cases = cc cases
ok_is (Err cause) x cases = absurd cases

failed : {X E P : Type 0} (r : Result X E) → false ≡ is_ok r → IsOk r → P
failed (Ok x) fails ok = cc fails
failed (Err fault) fails ok = cc ok

-- A card that is ready.

-- the session that is opened
abbrev pub first_session : Info → ℕ → Session
first_session info config = record { info = info; partition_config = config; selected = Some User }

ready_set : (session : Session) (rca : ℕ) (width : Width) (timing : Timing) (group : ℕ) (view : BusView)
    → session.info.rca ≡ rca → session.info.width ≡ width → session.info.timing ≡ timing
    → erase_group_def_of session.info.kind ≡ group → IsSet false (user_setting rca width timing group) view
    → IsSet false (setting_in session.info view.card.part) view
ready_set session rca width timing group view r w t e set =
    let user : view.card.part ≡ User = ap (λ (s : Setting). s.part) set.is_set in
    let is : setting_in session.info view.card.part ≡ user_setting rca width timing group =
    rw (user, r, w, t, e) refl in
    subst (λ s. IsSet false s view) (sym is) set

-- what is known of the card before is known of it after
ready : (session : Session) (rca : ℕ) (width : Width) (timing : Timing) (group : ℕ) (a b : BusView) → IsCard b.card
    → Stays a b → IsInfo a.limits a.card.made session.info
    → (a.card.made.kind ≡ Mmc → field 7 3 session.partition_config ≡ field 7 3 (partition_config a.card.made.ext_csd))
    → session.selected ≡ Some User
    → session.info.rca ≡ rca → session.info.width ≡ width → session.info.timing ≡ timing
    → erase_group_def_of a.card.made.kind ≡ group → IsSet false (user_setting rca width timing group) b
    → IsInitialized session b
ready session rca width timing group a b card stays info config selected r w t e set =
    let user : b.card.part ≡ User = ap (λ (s : Setting). s.part) set.is_set in
    let knows : Knows session a = record { info = uses_all a.limits a.card.made session.info info; partition_config = config } in
    record {
      ready = record {
        is_card = card;
        knows = knows_then session a b stays knows;
        set = ready_set session rca width timing group b r w t (ap erase_group_def_of info.kind ∙ e) set;
        part = record { known = λ known is. user ∙ cc (selected, is); sd = λ sd. user };
      };
      selected = selected;
      info = said_after (λ limits made. IsInfo limits made session.info) a b stays info;
    }

-- An SD card.

-- from blocks of 512 bytes on, a card of this kind
abbrev pub WidensKind : Kind → Found → Result Session SwitchFault → BusView → BusView → Type 0
WidensKind kind found r a b =
    Moved (λ old new. old.card.made.kind ≡ kind → IsFound old.card.made found
    → IsSet false (first_setting found.rca) old
    → IfOk r (λ session. IsInitialized session new))
    (λ old new. old.card.made.kind ≡ kind → InProfile old.card.made → IsFound old.card.made found
    → IsSet false (first_setting found.rca) old → IsOk r) a b

-- what its CSD lets an SD card know is what CCC of its register says
class_found : (found : Found) (switches : Bool) (made : Made) → HasRegisters made → IsFound made found
    → switches ≡ may_switch (csd_number found.csd) → switches ≡ may_switch (csd_number_of made)
class_found found switches made registers own says =
    says ∙ ap may_switch (number_is (as_told own.says made) found.csd (told_registers own.says made registers) own.csd)
    ∙ same_switch _ _ (told_above own.says made registers)

pub sd_exchange_fails : (found : Found) (switches : Bool) (told : Result Told Cause) (r : Result Session SwitchFault)
    (a b : BusView) → IsErr r → false ≡ is_ok told → switches ≡ may_switch (csd_number found.csd)
    → SetsUpSd found.rca switches told a b → WidensKind Sd found r a b
sd_exchange_fails found switches told r a b err fails class p =
    moved_as a b p (λ is own set. IfOk-from_err r _ err)
    (λ same is profile own set.
    failed told fails
    (p.fine same is (class_found found switches a.card.made p.was_card.registers own class) set))

pub sd_register_fails : (found : Found) (switches : Bool) (told : Result Told Cause) (info : Option Info)
    (r : Result Session SwitchFault) (a b : BusView) → IsErr r → false ≡ is_some info
    → ((made : Made) → HasRegisters made → made.kind ≡ Sd → IsFound made found → IsSome info)
    → SetsUpSd found.rca switches told a b → WidensKind Sd found r a b
sd_register_fails found switches told info r a b err none taken p =
    moved_as a b p (λ is own set. IfOk-from_err r _ err)
    (λ same is profile own set. cc (none, taken a.card.made p.was_card.registers is own))

pub sd_widened : (found : Found) (switches : Bool) (told : Told) (up : Result Told Cause) (said : Option Info)
    (info : Info) (session : Session) (a b : BusView) → up ≡ Ok told → said ≡ Some info → session ≡ first_session info 0
    → switches ≡ may_switch (csd_number found.csd)
    → ((limits : Lines) (made : Made) → HasRegisters made → made.kind ≡ Sd → IsFound made found
    → IsToldOf limits made told → IfSome said (IsInfo limits made))
    → IfSome said (λ info. info.rca ≡ found.rca)
    → IfSome said (λ info. (info.width ≡ told.width) × (info.timing ≡ told.timing))
    → SetsUpSd found.rca switches up a b → WidensKind Sd found (Ok session) a b
sd_widened found switches told up said info session a b e some opened class says named lines p =
    let made = a.card.made in
    let at = subst (λ (o : Option Info). IfSome o (λ info. (info.width ≡ told.width) × (info.timing ≡ told.timing)))
    some lines in
    subst (λ (s : Session). WidensKind Sd found (Ok s) a b) (sym opened)
    (moved_as a b p
    (λ is own set.
    let done = IfOk-at_ok _ e
    (p.own is (class_found found switches made p.was_card.registers own class) set) in
    ready (first_session info 0) found.rca told.width told.timing 0 a b p.is_card p.stays
    (subst (λ o. IfSome o (IsInfo a.limits made)) some (says a.limits made p.was_card.registers is own done.0))
    (λ mmc. cc (is, mmc)) refl (subst (λ (o : Option Info). IfSome o (λ info. info.rca ≡ found.rca)) some named) at.0 at.1
    (rw is refl) done.1)
    (λ same is profile own set. refl))

-- An eMMC device.

pub mmc_send_fails : (found : Found) (sent : Result (List ℕ) Cause) (r : Result Session SwitchFault) (a b : BusView)
    → IsErr r → false ≡ is_ok sent → SendsExtCsd sent a b → WidensKind Mmc found r a b
mmc_send_fails found sent r a b err fails p =
    moved_as a b p (λ is own set. IfOk-from_err r _ err)
    (λ same is profile own set. failed sent fails (p.fine same (first_setting found.rca) is set))

-- an EXT_CSD is taken by these two bytes
taken_by : (block : List ℕ) → 5 ≤ ext_csd_rev block → (hc_erase_grp_size block ≡ 0 → ⊥) → ext_csd_in block ≡ Ok block
taken_by block revision some = rw (le-ltb (ext_csd_rev block) 5 revision, ne_eqb (hc_erase_grp_size block) 0 some) refl

sent_taken : (card : Card) (block : List ℕ) → IsExtCsdOf card block → InProfile card.made → card.made.kind ≡ Mmc
    → ext_csd_in block ≡ Ok block
sent_taken card block told profile is =
    let mmc = profile.mmc is in
    let revision = byte_told card block 192 told refl (omega arith) (omega arith) (omega arith) (omega arith) in
    let group = byte_told card block 224 told refl (omega arith) (omega arith) (omega arith) (omega arith) in
    taken_by block (subst (λ n. 5 ≤ n) (sym revision) mmc.revision) (λ e. mmc.erase_group (sym group ∙ e))

by_sectors : (high : Bool) → cond high Sectors Bytes ≡ Sectors → high ≡ true
by_sectors true e = refl
by_sectors false e = cc e

-- SEC_COUNT of a device in profile with sector addresses isn't 0
counted : (made : Made) → InProfile made → made.kind ≡ Mmc → addressing_of made ≡ Sectors
    → sec_count made.ext_csd ≡ 0 → ⊥
counted made profile is sectors none =
    let two : (access_mode made.ocr == 2) ≡ true = rw is at (by_sectors (has_sector_addresses made) sectors) in
    elim (profile.mmc is).addresses [
      | inl bytes ↦ cc (bytes.mode, eqb-true (access_mode made.ocr) 2 two)
      | inr by ↦ by.counted none
    ]

pub mmc_judge_fails : (found : Found) (block : List ℕ) (sent : Result (List ℕ) Cause)
    (judged : Result (List ℕ) SwitchFault) (r : Result Session SwitchFault) (a b : BusView) → IsErr r → IsErr judged
    → sent ≡ Ok block
    → (ext_csd_in block ≡ Ok block → (found.addressing ≡ Sectors → sec_count block ≡ 0 → ⊥) → IsOk judged)
    → SendsExtCsd sent a b → WidensKind Mmc found r a b
mmc_judge_fails found block sent judged r a b err refused e all p =
    moved_as a b p (λ is own set. IfOk-from_err r _ err)
    (λ same is profile own set.
    let told = (IfOk-at_ok _ e (p.own (first_setting found.rca) is set)).0 in
    let taken = sent_taken a.card block told profile is in
    refuted judged refused
    (all taken
    (λ sectors none. counted a.card.made profile is (sym own.addressing ∙ sectors)
    (sym (count_kept a.card block told) ∙ none))))

-- high speed is used where the device has it
fast_by : (has : Bool) (limit timing : Timing) → timing ≡ slower (if has then High else Default) limit → timing ≡ High
    → has ≡ true
fast_by true limit timing is fast = refl
fast_by false limit timing is fast = cc (is, fast)

-- the timing that a device with this EXT_CSD has over a host with these limits
abbrev IsTimingBy : List ℕ → Lines → Lines → Type 0
IsTimingBy block lines limits =
    lines.timing ≡ slower (if high_speed_at_52_mhz block == 1 then High else Default) limits.timing

-- what is sent and judged, and what is set up then
mmc_set : (found : Found) (block : List ℕ) (lines : Lines) (sent : Result (List ℕ) Cause) (up : Result Unit Cause)
    (a b c : BusView) → sent ≡ Ok block → IsTimingBy block lines a.limits → SendsExtCsd sent a b
    → SetsUpMmc found.rca lines up b c
    → Moved (λ old new. old.card.made.kind ≡ Mmc → IsSet false (first_setting found.rca) old
    → IsExtCsdOf old.card block × (lines.timing ≡ timing_over old.limits old.card.made)
    × (IsOk up → IsSet false (user_setting found.rca lines.width lines.timing 1) new))
    (λ old new. old.card.made.kind ≡ Mmc → IsSet false (first_setting found.rca) old → IsOk up) a c
mmc_set found block lines sent up a b c e timing p q =
    let pair = both a b c p q in
    let made = p.stays.carried.made in
    let told = λ (is : a.card.made.kind ≡ Mmc) (set : IsSet false (first_setting found.rca) a).
    IfOk-at_ok _ e (p.own (first_setting found.rca) is set) in
    let still : a.card.made.kind ≡ Mmc → b.card.made.kind ≡ Mmc = λ is. ap (λ (m : Made). m.kind) made ∙ is in
    let speed : a.card.made.kind ≡ Mmc → IsExtCsdOf a.card block
    → (high_speed_at_52_mhz block == 1) ≡ has_high_timing a.card.made = λ is by. mmc_speed a.card block is by in
    let may : a.card.made.kind ≡ Mmc → IsExtCsdOf a.card block → lines.timing ≡ High
    → has_high_timing b.card.made ≡ true =
    λ is by fast. ap has_high_timing made ∙ sym (speed is by) ∙ fast_by _ a.limits.timing lines.timing timing fast in
    moved_as a c pair
    (λ is set.
    let t = told is set in (
      t.0,
      timing ∙ ap (λ has. slower (if has then High else Default) a.limits.timing) (speed is t.0),
      q.own (still is) (may is t.0) t.1,
    ))
    (λ same is set. let t = told is set in (pair.fine same).1 (still is) (may is t.0) t.1)

pub mmc_setting_fails : (found : Found) (block : List ℕ) (lines : Lines) (sent : Result (List ℕ) Cause)
    (up : Result Unit Cause) (r : Result Session SwitchFault) (limits : Lines) (a b c : BusView) → IsErr r
    → sent ≡ Ok block → limits ≡ a.limits → IsTimingBy block lines limits → false ≡ is_ok up → SendsExtCsd sent a b → SetsUpMmc found.rca lines up b c → WidensKind Mmc found r a c
mmc_setting_fails found block lines sent up r limits a b c err e host timing fails p q =
    let all = mmc_set found block lines sent up a b c e (subst (IsTimingBy block lines) host timing) p q in
    moved_as a c all (λ is own set. IfOk-from_err r _ err)
    (λ same is profile own set. failed up fails (all.fine same is set))

-- PARTITION_CONFIG as it is sent is that of the partition that is accessed
config_sent : (card : Card) → length card.made.ext_csd ≡ 512
    → partition_config (ext_csd_now card) ≡ partition_config_for card.made card.part
config_sent card long =
    let first = slice_set card.made.ext_csd 175 card.erase_group_def in
    let second = slice_set first 179 (partition_config_for card.made card.part) in
    let third = slice_set second 183 (width_number card.width) in
    let inside : 179 < length first = omega (arith, length-set card.made.ext_csd 175 card.erase_group_def) in
    get_or-set_other third 185 179 (timing_number card.timing) 0 (omega arith)
    ∙ get_or-set_other second 183 179 (width_number card.width) 0 (omega arith)
    ∙ get_or-set_same first 179 (partition_config_for card.made card.part) 0 inside

high_bits : (n config : ℕ) → config ≡ 8 * field 7 3 n + 0 → field 7 3 config ≡ field 7 3 n
high_bits n config e = omega (arith, e)

config_kept : (card : Card) (block : List ℕ) → HasRegisters card.made → card.made.kind ≡ Mmc → card.part ≡ User
    → IsExtCsdOf card block
    → field 7 3 (partition_config block) ≡ field 7 3 (partition_config card.made.ext_csd)
config_kept card block registers is user told =
    high_bits (partition_config card.made.ext_csd) (partition_config block)
    (told.read 179 refl ∙ config_sent card (registers.ext_csd is)
    ∙ ap (λ (part : Part). partition_config_for card.made part) user)

-- a device has eight lines, so that it uses those of the host
width_is : (limits : Lines) (made : Made) → made.kind ≡ Mmc → width_over limits made ≡ limits.width
width_is limits made mmc = rw mmc refl

pub mmc_widened : (found : Found) (block : List ℕ) (lines : Lines) (sent : Result (List ℕ) Cause)
    (up : Result Unit Cause) (info : Info) (config : ℕ) (session : Session) (limits : Lines) (a b c : BusView)
    → sent ≡ Ok block → limits ≡ a.limits → lines.width ≡ limits.width → IsTimingBy block lines limits → true ≡ is_ok up → config ≡ partition_config block → session ≡ first_session info config
    → ((limits : Lines) (card : Card) → HasRegisters card.made → card.made.kind ≡ Mmc → IsFound card.made found
    → IsExtCsdOf card block → lines.width ≡ width_over limits card.made
    → lines.timing ≡ timing_over limits card.made → IsInfo limits card.made info) → info.rca ≡ found.rca
    → (info.width ≡ lines.width) × (info.timing ≡ lines.timing)
    → SendsExtCsd sent a b → SetsUpMmc found.rca lines up b c → WidensKind Mmc found (Ok session) a c
mmc_widened found block lines sent up info config session limits a b c e host width timing done by opened says named shown p q =
    let all = mmc_set found block lines sent up a b c e (subst (IsTimingBy block lines) host timing) p q in
    let made = a.card.made in
    let registers = all.was_card.registers in
    subst (λ (s : Session). WidensKind Mmc found (Ok s) a c) (sym opened)
    (moved_as a c all
    (λ is own set.
    let o = all.own is set in
    let user : a.card.part ≡ User = ap (λ (s : Setting). s.part) set.is_set in
    ready (first_session info config) found.rca lines.width lines.timing 1 a c all.is_card all.stays
    (says a.limits a.card registers is own o.0 (width ∙ ap (λ (l : Lines). l.width) host ∙ sym (width_is a.limits made is)) o.1)
    (λ mmc. ap (field 7 3) by ∙ config_kept a.card block registers is user o.0) refl named shown.0 shown.1 (rw is refl)
    (o.2 (sym done)))
    (λ same is profile own set. refl))

-- A card of any kind.

-- from blocks of 512 bytes on
abbrev pub Widens : Found → Result Session SwitchFault → BusView → BusView → Type 0
Widens found r a b =
    Moved (λ old new. IsFound old.card.made found → IsSet false (first_setting found.rca) old
    → IfOk r (λ session. IsInitialized session new))
    (λ old new. InProfile old.card.made → IsFound old.card.made found → IsSet false (first_setting found.rca) old
    → IsOk r) a b

pub by_kind : (kind : Kind) (found : Found) (r : Result Session SwitchFault) (a b : BusView) → found.kind ≡ kind
    → WidensKind kind found r a b → Widens found r a b
by_kind kind found r a b is p =
    moved_as a b p (λ own set. p.own (sym own.kind ∙ is) own set)
    (λ same profile own set. p.fine same (sym own.kind ∙ is) profile own set)

abbrev pub SetsLength : Kind → Result Unit Cause → BusView → BusView → Type 0
SetsLength kind r a b =
    Moved (λ old new. (rca : ℕ) → IsLeft rca old.card → old.lines ≡ first_lines → IsOk r
    → IsSet false (first_setting rca) new)
    (λ old new. (rca : ℕ) → old.card.made.kind ≡ kind → IsLeft rca old.card → IsOk r) a b

-- from tran as identification leaves it
abbrev pub WidensLeft : Found → Result Session SwitchFault → BusView → BusView → Type 0
WidensLeft found r a b =
    Moved (λ old new. IsFound old.card.made found → IsLeft found.rca old.card
    → old.lines ≡ first_lines
    → IfOk r (λ session. IsInitialized session new))
    (λ old new. InProfile old.card.made → IsFound old.card.made found → IsLeft found.rca old.card
    → old.lines ≡ first_lines → IsOk r) a b

pub length_fails : (found : Found) (length : Result Unit Cause) (r : Result Session SwitchFault) (a b : BusView)
    → IsErr r → false ≡ is_ok length → SetsLength found.kind length a b → WidensLeft found r a b
length_fails found length r a b err fails p =
    moved_as a b p (λ own left lines. IfOk-from_err r _ err)
    (λ same profile own left lines. failed length fails (p.fine same found.rca (sym own.kind) left))

pub widened : (found : Found) (length : Result Unit Cause) (r : Result Session SwitchFault) (a b c : BusView)
    → true ≡ is_ok length → SetsLength found.kind length a b → Widens found r b c → WidensLeft found r a c
widened found length r a b c ok p q =
    let pair = both a b c p q in
    let back = sym p.stays.carried.made in
    let set = λ (left : IsLeft found.rca a.card) (lines : a.lines ≡ first_lines).
    p.own found.rca left lines (sym ok) in
    moved_as a c pair
    (λ own left lines.
    q.own (subst (λ m. IsFound m found) back own) (set left lines))
    (λ same profile own left lines.
    (pair.fine same).1 (subst InProfile back profile) (subst (λ m. IsFound m found) back own) (set left lines))

-- with sector addresses the block length is 512 already
left_set : (rca : ℕ) (view : BusView) → IsCard view.card → IsLeft rca view.card → view.lines ≡ first_lines
    → addressing_of view.card.made ≡ Sectors → IsSet false (first_setting rca) view
left_set rca view card left lines sectors =
    let made = view.card.made in
    let is = left.selected in
    let first : named_block_length made ≡ 512 = rw (by_sectors (has_sector_addresses made) sectors) refl in
    let long : view.card.block_length ≡ 512 = elim card.block_length [ inl e ↦ e | inr e ↦ e ∙ first ] in
    record {
      rest = record {
        state = is.state;
        rests = left.rests;
        app = is.app;
        command_errors = is.command_errors;
        errors = is.errors;
        switch_error = is.switch_error;
        count = is.count;
        erase = is.erase;
        finished = card.finished (ap is_writing is.state);
        up_to_date = left.up_to_date;
      };
      is_set = rw (is.is_rca, is.part, is.width, is.timing, is.erase_group_def, long) refl;
      on_lines = lines;
    }

pub widened_at_once : (found : Found) (r : Result Session SwitchFault) (a b : BusView) → found.addressing ≡ Sectors
    → Widens found r a b → WidensLeft found r a b
widened_at_once found r a b sectors p =
    let set = λ (own : IsFound a.card.made found) (left : IsLeft found.rca a.card) (lines : a.lines ≡ first_lines).
    left_set found.rca a p.was_card left lines (sym own.addressing ∙ sectors) in
    moved_as a b p (λ own left lines. p.own own (set own left lines))
    (λ same profile own left lines. p.fine same profile own (set own left lines))

-- a card in profile is refused only where a fault fell
pub refused : (found : Found) (r : Result Session SwitchFault) (a b : BusView) → WidensLeft found r a b
    → InProfile a.card.made → IsFound a.card.made found → IsLeft found.rca a.card → a.lines ≡ first_lines → IsErr r
    → a.faults < b.faults
refused found r a b p profile own left lines err =
    fell a b p.stays (λ same. refuted r err (p.fine same profile own left lines))
