-- A switch of an eMMC device: CMD6 and the status after it; and the switches of widening, one after the other.
use Rattle.std.proofs.Common.{◌∙◌, ◌≡◌, ◌⊎◌, Bool, ap, false, inl, inr, refl, subst, sym, true, ℕ}
use Rattle.std.specs.Prelude.{◌&&◌, ◌*◌, ◌+◌, ◌==◌, Err, IfSome, IsErr, IsOk, None, Ok, Option, Result, Some}
use Rattle.std.specs.Prelude.{if◌then◌else◌, length}
use Rattle.mmc_frame.specs.Field.{field}
use Rattle.mmc_frame.specs.Status.{error_bits, own_status}
use Rattle.mmc_frame.specs.declared.card_state.State.TheVariants.{Data, Prg}
use Rattle.mmc_frame.specs.declared.kind.Kind.TheVariants.{Mmc}
use Rattle.mmc_ext_csd.specs.ExtCsd.{high_speed_at_52_mhz, partition_config}
use Rattle.mmc_card.specs.declared.exchange.Timing.TheVariants.{Default, High}
use Rattle.mmc_card.specs.declared.exchange.Lines.{Lines}
use Rattle.mmc_card.specs.declared.exchange.Width.{Width}
use Rattle.mmc_card.specs.declared.exchange.Width.TheVariants.{Eight, Four, One}
use Rattle.mmc_card.specs.declared.part.Part.{Part}
use Rattle.mmc_card.proofs.Conditions.{by_cond}
use Rattle.mmc_card.specs.Blocks.{rested}
use Rattle.mmc_card.specs.BusView.{BusView}
use Rattle.mmc_card.specs.Card.{Card, NoAddress, is_in, stored}
use Rattle.mmc_card.specs.CardAnswer.{shown}
use Rattle.mmc_card.specs.CardLaws.{HasNoError, IsInOrder, Tells}
use Rattle.mmc_card.specs.Faults.{NoFault}
use Rattle.mmc_card.specs.Laws.{IsStill, Setting, StandsIn, StillStands, erased_by, setting_of}
use Rattle.mmc_card.specs.Made.{Made}
use Rattle.mmc_card.specs.RowsSwitch.{access_switched, accessed, part_accessed, programs_switch, switched, width_number}
use Rattle.mmc_card.specs.RowsSwitch.{write_byte}
use Rattle.mmc_bus.specs.declared.cause.Cause.{Cause}
use Rattle.mmc_bus.specs.declared.host.Unheard.{Unheard}
use Rattle.mmc_bus.specs.Closings.{WillBeClean}
use Rattle.mmc_bus.specs.CommandLaws.{HasSwitchError, Switches as Written}
use Rattle.mmc_bus.specs.Exchanges.{Kept}
use Rattle.mmc_bus.specs.Heard.{response_of}
use Rattle.mmc_bus.specs.Learned.{CommandMet}
use Rattle.mmc_bus.specs.Work.{Done, Moved, Narrows}
use Rattle.mmc_bus.proofs.ClosingLemmas.{Ended}
use Rattle.mmc_bus.proofs.WorkLemmas.{done_as, done_by, done_then, moved_as, moved_on, moved_then, narrows_then, quiet_parts, refuted}
use Rattle.mmc_switch.specs.Info.{has_high_timing}
use Rattle.mmc_switch.proofs.RestLemmas.{no_error, set_on_lines, still_at_rest}
use Rattle.mmc_switch.specs.Stages.{IsAtRest, IsSet, IsSetOver, MayStandIn, first_setting, lines_of, user_setting}
use Rattle.mmc_card.specs.Judged.{Shows}

-- CMD6.

abbrev pub Requests : ℕ → Result Unit Cause → BusView → BusView → Type 0
Requests argument r =
    Done (MayStandIn argument) Narrows
    (λ old new. (after : Card) → old.card.made.kind ≡ Mmc → IsAtRest false old.card
    → switched old.card argument ≡ Some after → IsOk r
    → (new.card ≡ programs_switch after) ⊎ HasSwitchError new.card)
    (λ old new. (after : Card) → old.card.made.kind ≡ Mmc → IsAtRest false old.card
    → switched old.card argument ≡ Some after → IsOk r × (new.card ≡ programs_switch after))

pub requested : (argument : ℕ) (heard : Result ℕ Unheard) (r : Result Unit Cause) (old new : BusView)
    → erased_by old.card (Some (6, argument)) ≡ None → new.lines ≡ old.lines
    → Kept old (CommandMet (response_of 6) old 6 argument heard new) new
    → (IsStill old.card → (after : Card) → old.card.made.kind ≡ Mmc → old.card.erase ≡ NoAddress → switched old.card argument ≡ Some after
    → Written after old heard new)
    → ((told : ℕ) → Shows old.card told → Tells Mmc old.card (error_bits Mmc told ≡ 0) (HasNoError Mmc old.card))
    → (IsOk r → (told : ℕ) × (heard ≡ Ok told) × (error_bits Mmc (own_status told) ≡ 0))
    → ((told : ℕ) → heard ≡ Ok told → error_bits Mmc told ≡ 0 → IsOk r) → Requests argument r old new
requested argument heard r old new none lines k law clean ok all =
    done_by old new k k.step.stays (record { lines = lines; stands = k.step.switches }) (rw none at k.step.narrows)
    (λ after mmc rest to good.
    let told = ok good in
    ((law (still_at_rest old.card rest) after mmc rest.erase to).sound told.0 told.1 told.2).1)
    (λ same after mmc rest to.
    let does = (law (still_at_rest old.card rest) after mmc rest.erase to).fine same rest.state in
    let told = does.0 in (
      all told.0 told.1 ((clean told.0 told.2).1 mmc (no_error Mmc false old.card rest)),
      does.1,
    ))

-- The status after it.

-- a switch leaves the RCA, and no address is held that wasn't before
abbrev pub Keeps : Card → Card → Type 0
Keeps card after = (after.erase ≡ card.erase) × (after.rca ≡ card.rca)

-- the outcome of tests, one after the other
one_of : (card x : Card) (first : Bool) (rest : Option Card) → Keeps card x → IfSome rest (Keeps card)
    → IfSome (if first then Some x else rest) (Keeps card)
one_of card x true rest p other = p
one_of card x false rest p other = other

accessed_by : (card : Card) (part : Part) (empty : Bool)
    → IfSome (if empty then None else Some (record card { part = part })) (Keeps card)
accessed_by card part true = tt
accessed_by card part false = (refl, refl)

accessed_keeps : (card : Card) (part : Option Part) → IfSome (accessed card part) (Keeps card)
accessed_keeps card (Some part) = accessed_by card part (length (stored card part) == 0)
accessed_keeps card None = tt

access_keeps : (card : Card) (part : Option Part) (is_access : Bool)
    → IfSome (if is_access then accessed card part else None) (Keeps card)
access_keeps card part true = accessed_keeps card part
access_keeps card part false = tt

switched_keeps : (card : Card) (argument : ℕ) → IfSome (switched card argument) (Keeps card)
switched_keeps card argument =
    one_of card (record card { erase_group_def = 1 }) (argument == write_byte 175 1) _ (refl, refl)
    (one_of card (record card { width = Eight }) (argument == write_byte 183 2) _ (refl, refl)
    (one_of card (record card { width = Four }) (argument == write_byte 183 1) _ (refl, refl)
    (one_of card (record card { timing = High })
    ((argument == write_byte 185 1) && (high_speed_at_52_mhz card.made.ext_csd == 1)) _ (refl, refl)
    (access_keeps card (part_accessed (field 10 8 argument))
    (argument == write_byte 179 (8 * field 7 3 (partition_config card.made.ext_csd) + field 10 8 argument))))))

keeps : (card after : Card) (argument : ℕ) → switched card argument ≡ Some after → Keeps card after
keeps card after argument e = subst (λ (o : Option Card). IfSome o (Keeps card)) e (switched_keeps card argument)

stands_on : (part : Part) (a b c : Card) → StandsIn part a b → StillStands b c → StandsIn part a c
stands_on part a b c p q setting s =
    elim (p setting s) [
      | inl old ↦ inl (q setting old)
      | inr new ↦ inr (q (record setting { part = part }) new)
    ]

abbrev pub Switches : ℕ → ℕ → Result Unit Cause → BusView → BusView → Type 0
Switches rca argument r =
    Done (MayStandIn argument) Narrows
    (λ old new. (after : Card) → old.card.made.kind ≡ Mmc → IsAtRest false old.card
    → switched old.card argument ≡ Some after → IsOk r
    → IsAtRest false new.card × (setting_of new.card ≡ setting_of after))
    (λ old new. (after : Card) → old.card.made.kind ≡ Mmc → IsAtRest false old.card → old.card.rca ≡ rca
    → switched old.card argument ≡ Some after → IsOk r)

-- CMD6 fails
pub request_fails : (rca argument : ℕ) (fault : Cause) (r : Result Unit Cause) (a b : BusView) → IsErr r
    → Requests argument (Err fault) a b → Switches rca argument r a b
request_fails rca argument fault r a b err p =
    done_as a b p p.set p.sectors (λ after mmc rest to ok. refuted r err ok)
    (λ same after mmc rest is_rca to. cc (p.fine same after mmc rest to).0)

-- at rest again
rest_again : (old after new : Card) → IsAtRest false old → after.erase ≡ old.erase
    → new ≡ record (shown (rested (programs_switch after))) { polled = new.polled } → IsAtRest false new × (setting_of new ≡ setting_of after)
rest_again old after new rest erase e =
    subst (λ card. IsAtRest false card × (setting_of card ≡ setting_of after)) (sym e) (
      record {
        state = refl;
        rests = refl;
        app = refl;
        command_errors = refl;
        errors = refl;
        switch_error = refl;
        count = refl;
        erase = erase ∙ rest.erase;
        finished = refl;
        up_to_date = refl;
      },
      refl,
    )

ordered : (after : Card) → IsInOrder Mmc (rested (programs_switch after))
ordered after = record {
  no_error = record { errors = refl; switch_error = λ judged mmc. refl };
  tran = refl;
  rests = refl;
}

-- a clean status after the busy time rules SWITCH_ERROR out
unfailed : (card : Card) (X : Type 0) → card.made.kind ≡ Mmc → IsInOrder Mmc (rested card)
    → X ⊎ HasSwitchError card → X
unfailed card X mmc order (inl is) = is
unfailed card X mmc order (inr error) =
    let of : (rested card).made.kind ≡ card.made.kind =
    by_cond (λ (d : Card). d.made.kind ≡ card.made.kind) (is_in card.state Prg) (λ _. refl) (λ _. refl) in
    let stays : (rested card).switch_error ≡ card.switch_error =
    by_cond (λ (d : Card). d.switch_error ≡ card.switch_error) (is_in card.state Prg) (λ _. refl) (λ _. refl) in
    cc (order.no_error.switch_error refl (of ∙ mmc), stays, error.1)

-- it programs then, and sends nothing
programs : (after card : Card) → (card ≡ programs_switch after) ⊎ HasSwitchError card → is_in card.state Data ≡ false
programs after card (inl is) = ap (λ (c : Card). is_in c.state Data) is
programs after card (inr error) = ap (λ s. is_in s Data) error.0

pub switches : (rca argument : ℕ) (request r : Result Unit Cause) (a b c : BusView) → IsOk request
    → Requests argument request a b → Ended Mmc rca r b c → Switches rca argument r a c
switches rca argument request r a b c good p q =
    done_then a b c p q
    (record {
      lines = q.set.lines ∙ p.set.lines;
      stands = λ part to. stands_on part a.card b.card c.card (p.set.stands part to) q.set.stands;
    })
    (narrows_then a b c p.sectors q.sectors)
    (λ after mmc rest to ok.
    let mmc_still = ap (λ (m : Made). m.kind) p.stays.carried.made ∙ mmc in
    let did = p.own after mmc rest to good in
    let ends = q.own ok (programs after b.card did) in
    let is = unfailed b.card (b.card ≡ programs_switch after) mmc_still ends.0 did in
    rest_again a.card after c.card rest (keeps a.card after argument to).0
    (ends.1 ∙ ap (λ card. record (shown (rested card)) { polled = c.card.polled }) is))
    (λ same after mmc rest is_rca to.
    let parts = quiet_parts a b c p.stays q.stays same in
    let back = sym (p.fine parts.0 after mmc rest to).1 in
    let of : after.made.kind ≡ Mmc =
    ap (λ (card : Card). card.made.kind) back ∙ ap (λ (m : Made). m.kind) p.stays.carried.made ∙ mmc in
    q.fine parts.1 (ap (λ (card : Card). card.polled) (sym back)) (subst (λ card. WillBeClean Mmc (rested card)) back
    (of, ordered after)) (ap (λ card. (rested card).app) (sym back))
    (ap (λ card. (rested card).rca) (sym back) ∙ (keeps a.card after argument to).1 ∙ is_rca))

-- Erase groups, width and speed.

abbrev pub Sets : Setting → Setting → Result Unit Cause → BusView → BusView → Type 0
Sets was is r =
    Moved (λ old new. old.card.made.kind ≡ Mmc → IsSet false was old → IsOk r → IsSet false is new)
    (λ old new. old.card.made.kind ≡ Mmc → IsSet false was old → IsOk r)

abbrev pub Speeds : ℕ → Width → Result Unit Cause → BusView → BusView → Type 0
Speeds rca width r =
    Moved
    (λ old new. old.card.made.kind ≡ Mmc → has_high_timing old.card.made ≡ true
    → IsSet false (user_setting rca width Default 1) old → IsOk r → IsSet false (user_setting rca width High 1) new)
    (λ old new. old.card.made.kind ≡ Mmc → has_high_timing old.card.made ≡ true
    → IsSet false (user_setting rca width Default 1) old → IsOk r)

-- the device has the new setting, and the host's lines are as before
set_over : (argument : ℕ) (was is : Setting) (r : Result Unit Cause) (a b : BusView) (after : Card)
    → Switches was.rca argument r a b → switched a.card argument ≡ Some after → setting_of after ≡ is
    → a.card.made.kind ≡ Mmc → IsSet false was a → IsOk r → IsSetOver (lines_of was) false is b
set_over argument was is r a b after p to same mmc at ok =
    let own = p.own after mmc at.rest to ok in
    record { rest = own.0; is_set = own.1 ∙ same; on_lines = p.set.lines ∙ at.on_lines }

-- without a fault a switch that the device knows succeeds
switch_fine : (argument : ℕ) (was : Setting) (r : Result Unit Cause) (a b : BusView) (after : Card)
    → Switches was.rca argument r a b → switched a.card argument ≡ Some after → NoFault a b → a.card.made.kind ≡ Mmc
    → IsSet false was a → IsOk r
switch_fine argument was r a b after p to same mmc at =
    p.fine same after mmc at.rest (ap (λ (s : Setting). s.rca) at.is_set) to

to_groups : (card : Card) (argument : ℕ) → argument ≡ write_byte 175 1
    → switched card argument ≡ Some (record card { erase_group_def = 1 })
to_groups card argument e = ap (switched card) e

to_several : (card : Card) (width : Width) (argument : ℕ) → (width ≡ One → ⊥)
    → argument ≡ write_byte 183 (width_number width) → switched card argument ≡ Some (record card { width = width })
to_several card One argument several e = absurd (several refl)
to_several card Four argument several e = ap (switched card) e
to_several card Eight argument several e = ap (switched card) e

high_by : (made : Made) → made.kind ≡ Mmc → has_high_timing made ≡ true
    → (high_speed_at_52_mhz made.ext_csd == 1) ≡ true
high_by made mmc high = rw mmc at high

to_high : (card : Card) (argument : ℕ) → argument ≡ write_byte 185 1 → card.made.kind ≡ Mmc
    → has_high_timing card.made ≡ true → switched card argument ≡ Some (record card { timing = High })
to_high card argument e mmc high =
    ap (switched card) e
    ∙ ap (λ b. if b then Some (record card { timing = High }) else access_switched card (write_byte 185 1))
    (high_by card.made mmc high)

pub set_groups : (rca argument : ℕ) (r : Result Unit Cause) (a b : BusView) → argument ≡ write_byte 175 1
    → Switches rca argument r a b → Sets (first_setting rca) (user_setting rca One Default 1) r a b
set_groups rca argument r a b e p =
    let was = first_setting rca in
    let is = user_setting rca One Default 1 in
    let after = record a.card { erase_group_def = 1 } in
    let to = to_groups a.card argument e in
    moved_as a b p
    (λ mmc at ok.
    set_over argument was is r a b after p to (ap (λ (s : Setting). record s { erase_group_def = 1 }) at.is_set)
    mmc at ok)
    (λ same mmc at. switch_fine argument was r a b after p to same mmc at)

pub set_several : (rca argument : ℕ) (width : Width) (a b c : BusView) → (width ≡ One → ⊥)
    → argument ≡ write_byte 183 (width_number width) → (b.is_kept ≡ true → Switches rca argument (Ok tt) a b)
    → c ≡ record b { lines = record { width = width; timing = Default } } → c.is_kept ≡ true
    → Sets (user_setting rca One Default 1) (user_setting rca width Default 1) (Ok tt) a c
set_several rca argument width a b c several e works lines kept =
    let was = user_setting rca One Default 1 in
    let is = user_setting rca width Default 1 in
    let after = record a.card { width = width } in
    let to = to_several a.card width argument several e in
    let p = works (ap (λ (v : BusView). v.is_kept) (sym lines) ∙ kept) in
    subst (Sets was is (Ok tt) a) (sym lines)
    (moved_on a b (lines_of is) p
    (λ mmc at ok.
    set_on_lines false (lines_of was) is b (record b { lines = lines_of is }) refl
    (set_over argument was is (Ok tt) a b after p to (ap (λ (s : Setting). record s { width = width }) at.is_set)
    mmc at refl))
    (λ same mmc at. refl))

pub set_high : (rca argument : ℕ) (width : Width) (a b c : BusView) → argument ≡ write_byte 185 1
    → (b.is_kept ≡ true → Switches rca argument (Ok tt) a b)
    → c ≡ record b { lines = record { width = width; timing = High } } → c.is_kept ≡ true
    → Speeds rca width (Ok tt) a c
set_high rca argument width a b c e works lines kept =
    let was = user_setting rca width Default 1 in
    let is = user_setting rca width High 1 in
    let after = record a.card { timing = High } in
    let p = works (ap (λ (v : BusView). v.is_kept) (sym lines) ∙ kept) in
    subst (Speeds rca width (Ok tt) a) (sym lines)
    (moved_on a b (lines_of is) p
    (λ mmc high at ok.
    set_on_lines false (lines_of was) is b (record b { lines = lines_of is }) refl
    (set_over argument was is (Ok tt) a b after p (to_high a.card argument e mmc high)
    (ap (λ (s : Setting). record s { timing = High }) at.is_set) mmc at refl))
    (λ same mmc high at. refl))

pub several_fail : (rca argument : ℕ) (width : Width) (fault : Cause) (r : Result Unit Cause) (a b : BusView) → IsErr r
    → (width ≡ One → ⊥) → argument ≡ write_byte 183 (width_number width) → Switches rca argument (Err fault) a b
    → Sets (user_setting rca One Default 1) (user_setting rca width Default 1) r a b
several_fail rca argument width fault r a b err several e p =
    moved_as a b p (λ mmc at ok. refuted r err ok)
    (λ same mmc at.
    cc (switch_fine argument (user_setting rca One Default 1) (Err fault) a b (record a.card { width = width }) p
    (to_several a.card width argument several e) same mmc at))

pub high_fails : (rca argument : ℕ) (width : Width) (fault : Cause) (r : Result Unit Cause) (a b : BusView) → IsErr r
    → argument ≡ write_byte 185 1 → Switches rca argument (Err fault) a b → Speeds rca width r a b
high_fails rca argument width fault r a b err e p =
    moved_as a b p (λ mmc high at ok. refuted r err ok)
    (λ same mmc high at.
    cc (switch_fine argument (user_setting rca width Default 1) (Err fault) a b (record a.card { timing = High }) p
    (to_high a.card argument e mmc high) same mmc at))

-- All of them.

abbrev pub SetsUp : ℕ → Lines → Result Unit Cause → BusView → BusView → Type 0
SetsUp rca lines r =
    Moved
    (λ old new. old.card.made.kind ≡ Mmc → (lines.timing ≡ High → has_high_timing old.card.made ≡ true)
    → IsSet false (first_setting rca) old → IsOk r → IsSet false (user_setting rca lines.width lines.timing 1) new)
    (λ old new. old.card.made.kind ≡ Mmc → (lines.timing ≡ High → has_high_timing old.card.made ≡ true)
    → IsSet false (first_setting rca) old → IsOk r)

pub groups_fail : (rca : ℕ) (lines : Lines) (fault : Cause) (r : Result Unit Cause) (a b : BusView) → IsErr r
    → Sets (first_setting rca) (user_setting rca One Default 1) (Err fault) a b → SetsUp rca lines r a b
groups_fail rca lines fault r a b err p =
    moved_as a b p (λ mmc may at ok. refuted r err ok) (λ same mmc may at. cc (p.fine same mmc at))

-- two switches, one after the other
sets_then : (was is more : Setting) (r : Result Unit Cause) (a b c : BusView) → Sets was is (Ok tt) a b
    → Sets is more r b c → Sets was more r a c
sets_then was is more r a b c p q =
    let kind : a.card.made.kind ≡ Mmc → b.card.made.kind ≡ Mmc =
    λ mmc. ap (λ (m : Made). m.kind) p.stays.carried.made ∙ mmc in
    moved_then a b c p q (λ mmc at. q.own (kind mmc) (p.own mmc at refl))
    (λ same mmc at. q.fine (quiet_parts a b c p.stays q.stays same).1 (kind mmc) (p.own mmc at refl))

-- all but the speed
to_width : (rca : ℕ) (width : Width) (r : Result Unit Cause) (a b c : BusView)
    → Sets (first_setting rca) (user_setting rca One Default 1) (Ok tt) a b
    → Sets (user_setting rca One Default 1) (user_setting rca width Default 1) r b c
    → Sets (first_setting rca) (user_setting rca width Default 1) r a c
to_width rca width r a b c p q =
    sets_then (first_setting rca) (user_setting rca One Default 1) (user_setting rca width Default 1) r a b c p q

pub width_fails : (rca : ℕ) (lines : Lines) (fault : Cause) (r : Result Unit Cause) (a b c : BusView) → IsErr r
    → Sets (first_setting rca) (user_setting rca One Default 1) (Ok tt) a b
    → Sets (user_setting rca One Default 1) (user_setting rca lines.width Default 1) (Err fault) b c
    → SetsUp rca lines r a c
width_fails rca lines fault r a b c err p q =
    let all = to_width rca lines.width (Err fault) a b c p q in
    moved_as a c all (λ mmc may at ok. refuted r err ok) (λ same mmc may at. cc (all.fine same mmc at))

-- at default speed nothing more is done
pub set_up_plain : (rca : ℕ) (lines : Lines) (a b c : BusView) → lines.timing ≡ Default
    → Sets (first_setting rca) (user_setting rca One Default 1) (Ok tt) a b
    → Sets (user_setting rca One Default 1) (user_setting rca lines.width Default 1) (Ok tt) b c
    → SetsUp rca lines (Ok tt) a c
set_up_plain rca lines a b c slow p q =
    let all = to_width rca lines.width (Ok tt) a b c p q in
    moved_as a c all
    (λ mmc may at ok.
    subst (λ t. IsSet false (user_setting rca lines.width t 1) c) (sym slow) (all.own mmc at refl))
    (λ same mmc may at. refl)

-- and the speed
pub set_up_fast : (rca : ℕ) (lines : Lines) (r : Result Unit Cause) (a b c d : BusView) → lines.timing ≡ High
    → Sets (first_setting rca) (user_setting rca One Default 1) (Ok tt) a b
    → Sets (user_setting rca One Default 1) (user_setting rca lines.width Default 1) (Ok tt) b c
    → Speeds rca lines.width r c d → SetsUp rca lines r a d
set_up_fast rca lines r a b c d fast p q s =
    let pair = to_width rca lines.width (Ok tt) a b c p q in
    let back = sym pair.stays.carried.made in
    let kind : a.card.made.kind ≡ Mmc → c.card.made.kind ≡ Mmc = subst (λ (m : Made). m.kind ≡ Mmc) back in
    let has : (lines.timing ≡ High → has_high_timing a.card.made ≡ true) → has_high_timing c.card.made ≡ true =
    λ may. subst (λ m. has_high_timing m ≡ true) back (may fast) in
    moved_then a c d pair s
    (λ mmc may at ok.
    subst (λ t. IsSet false (user_setting rca lines.width t 1) d) (sym fast)
    (s.own (kind mmc) (has may) (pair.own mmc at refl) ok))
    (λ same mmc may at.
    s.fine (quiet_parts a c d pair.stays s.stays same).1 (kind mmc) (has may) (pair.own mmc at refl))
