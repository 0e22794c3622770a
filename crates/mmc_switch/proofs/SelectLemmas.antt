-- The selection of a partition: where nothing is sent, where the switch succeeds, and where it fails.
use denote.Enum.Bare.{same_true, sameb}
use Rattle.std.proofs.Common.{◌*◌, ◌+◌, ◌<◌, ◌∙◌, ◌≡◌, Bool, ap, arith, eq-eqb, false, inl, inr, refl, rules, subst}
use Rattle.std.proofs.Common.{sym, true, ℕ}
use Rattle.std.proofs.lemmas.Bool.{ne_eqb}
use Rattle.std.specs.Option.{option_eq}
use Rattle.std.specs.Prelude.{◌&&◌, ◌==◌, Err, IsSome, None, Ok, Option, Some, if◌then◌else◌, length}
use Rattle.mmc_frame.specs.Field.{field}
use Rattle.mmc_frame.specs.contracts.kind.Kind.{the_type as kind_type}
use Rattle.mmc_frame.specs.declared.kind.Kind.{Kind}
use Rattle.mmc_frame.specs.declared.kind.Kind.TheVariants.{Mmc, Sd}
use Rattle.mmc_ext_csd.specs.ExtCsd.{high_speed_at_52_mhz, partition_config}
use Rattle.mmc_card.specs.contracts.part.Part.{the_type as part_type}
use Rattle.mmc_card.specs.declared.exchange.Lines.{Lines}
use Rattle.mmc_card.specs.declared.exchange.Timing.TheVariants.{High}
use Rattle.mmc_card.specs.declared.exchange.Width.TheVariants.{Eight, Four}
use Rattle.mmc_card.specs.declared.part.Part.{Part}
use Rattle.mmc_card.specs.declared.part.Part.TheVariants.{Boot1, Boot2, Gp1, Gp2, Gp3, Gp4, User}
use Rattle.mmc_card.specs.BusView.{BusView}
use Rattle.mmc_card.specs.Card.{Card, stored}
use Rattle.mmc_card.specs.Faults.{NoFault}
use Rattle.mmc_card.specs.Laws.{Setting, Stands, setting_of}
use Rattle.mmc_card.specs.Made.{Made, sectors_in}
use Rattle.mmc_card.specs.RowsSwitch.{access_number, access_switched, accessed, part_accessed, partition_config_for}
use Rattle.mmc_card.specs.RowsSwitch.{switched, write_byte}
use Rattle.mmc_bus.specs.declared.cause.Cause.{Cause}
use Rattle.mmc_bus.proofs.WorkLemmas.{fell}
use Rattle.mmc_switch.specs.declared.broken.Broken.{Broken}
use Rattle.mmc_switch.specs.declared.info.Info.{Info}
use Rattle.mmc_switch.specs.declared.session.Session.{Session}
use Rattle.mmc_switch.specs.Info.{IsKnown, sectors_of}
use Rattle.mmc_switch.specs.Place.{IsBroken, IsPartOf, IsReady, Knows, StandsAs, setting_in}
use Rattle.mmc_switch.specs.Sizes.{some_size}
use Rattle.mmc_switch.specs.Stages.{lines_of}
use Rattle.mmc_switch.proofs.SwitchLemmas.{Switches}
use Rattle.mmc_switch.proofs.UnderWayLemmas.{knows_then, ready_stands}

-- A partition that exists.

no_size : (b : Bool) (size : ℕ) → size ≡ 0 → IsSome (some_size (if b then size else 0)) → ⊥
no_size true size none some = cc (rw none at some)
no_size false size none some = cc some

-- it has a sector
has_sectors : (info : Info) (part : Part) (limits : Lines) (made : Made) → IsKnown limits made info
    → IsSome (sectors_of info part) → sectors_in made part ≡ 0 → ⊥
has_sectors info part limits made is some none =
    no_size _ (sectors_in made part) none (subst (λ n. IsSome (some_size n)) (is.sizes part) some)

only_user : (made : Made) (part : Part) → made.kind ≡ Sd → (sectors_in made part ≡ 0 → ⊥) → part ≡ User
only_user made User sd some = refl
only_user made Boot1 sd some = absurd (some (rw sd refl))
only_user made Boot2 sd some = absurd (some (rw sd refl))
only_user made Gp1 sd some = absurd (some (rw sd refl))
only_user made Gp2 sd some = absurd (some (rw sd refl))
only_user made Gp3 sd some = absurd (some (rw sd refl))
only_user made Gp4 sd some = absurd (some (rw sd refl))

-- Nothing is sent.

abbrev pub chosen : Session → Part → Session
chosen session part = record session { selected = Some part }

-- which partition is selected is no matter
knows_still : (session : Session) (selected : Option Part) (view : BusView) → Knows session view
    → Knows (record session { selected = selected }) view
knows_still session selected view k = record { info = k.info; partition_config = k.partition_config }

is_chosen : (session : Session) (is part : Part) → is ≡ part → (session.info.kind ≡ Sd → is ≡ User)
    → IsPartOf (chosen session part) is
is_chosen session is part e sd = record { known = λ other same. e ∙ cc (same); sd = sd }

there : (session : Session) (part : Part) (view : BusView) → view.card.part ≡ part → IsReady session view
    → IsReady (chosen session part) view
there session part view e r = record {
  is_card = r.is_card;
  knows = knows_still session (Some part) view r.knows;
  set = r.set;
  part = is_chosen session view.card.part part e r.part.sd;
}

pub selected_already : (session : Session) (part : Part) (view : BusView) → session.selected ≡ Some part
    → IsReady session view → IsReady (chosen session part) view
selected_already session part view e r = there session part view (r.part.known part e) r

-- the user partition is the only one of an SD card
pub selected_alone : (session : Session) (part : Part) (view : BusView) → session.info.kind ≡ Sd
    → IsSome (sectors_of session.info part) → IsReady session view → IsReady (chosen session part) view
selected_alone session part view sd some r =
    let made = view.card.made in
    let info = r.knows.info in
    let user = only_user made part (sym info.kind ∙ sd) (has_sectors session.info part view.limits made info some) in
    there session part view (r.part.sd sd ∙ sym user) r

-- what its tests say
pub is_selected_part : (selected : Option Part) (part : Part) → option_eq (sameb part_type) selected (Some part) ≡ true
    → selected ≡ Some part
is_selected_part None part same = cc same
is_selected_part (Some other) part same = ap Some (same_true part_type (search rules) other part same)

pub is_sd_kind : (kind : Kind) → sameb kind_type kind Sd ≡ true → kind ≡ Sd
is_sd_kind Sd same = refl
is_sd_kind Mmc same = cc same

pub is_mmc_kind : (kind : Kind) → sameb kind_type kind Sd ≡ false → kind ≡ Mmc
is_mmc_kind Sd other = cc other
is_mmc_kind Mmc other = refl

-- The switch.

part_of_number : (part : Part) → part_accessed (access_number part) ≡ Some part
part_of_number User = refl
part_of_number Boot1 = refl
part_of_number Boot2 = refl
part_of_number Gp1 = refl
part_of_number Gp2 = refl
part_of_number Gp3 = refl
part_of_number Gp4 = refl

small_number : (part : Part) → access_number part < 8
small_number User = omega arith
small_number Boot1 = omega arith
small_number Boot2 = omega arith
small_number Gp1 = omega arith
small_number Gp2 = omega arith
small_number Gp3 = omega arith
small_number Gp4 = omega arith

-- the argument of the switch, with these bits 7 to 3 and this access number
abbrev pub accesses : ℕ → ℕ → ℕ
accesses high access = write_byte 179 (8 * high + access)

access_in : (high access : ℕ) → access < 8 → field 10 8 (accesses high access) ≡ access
access_in high access small = omega arith

-- it writes no other byte
not_other : (high access index value : ℕ) → 179 < index → access < 8 → high < 32
    → accesses high access ≡ write_byte index value → ⊥
not_other high access index value below small bits e = omega arith

not_groups : (high access : ℕ) → accesses high access ≡ write_byte 175 1 → ⊥
not_groups high access e = omega arith

-- the switch that is left once the four others are not meant
left : (first second third fourth : Bool) (w x y z rest : Option Card) → first ≡ false → second ≡ false
    → third ≡ false → fourth ≡ false
    → (if first then w else if second then x else if third then y else if fourth then z else rest) ≡ rest
left first second third fourth w x y z rest p q r s = rw (p, q, r, s) refl

and_not : (a b : Bool) → a ≡ false → (a && b) ≡ false
and_not a b none = rw none refl

-- what switches to a partition, by its bits 10 to 8
abbrev pub access_by : Card → ℕ → ℕ → Option Card
access_by card argument access =
    if argument == accesses (field 7 3 (partition_config card.made.ext_csd)) access
    then accessed card (part_accessed access)
    else None

to_part : (card : Card) (part : Part) → (length (stored card part) ≡ 0 → ⊥)
    → accessed card (Some part) ≡ Some (record card { part = part })
to_part card part some = rw (ne_eqb (length (stored card part)) 0 some) refl

-- the device knows the switch to a partition that has a sector
pub switches_part : (card : Card) (part : Part) (argument : ℕ)
    → argument ≡ write_byte 179 (partition_config_for card.made part) → (length (stored card part) ≡ 0 → ⊥)
    → switched card argument ≡ Some (record card { part = part })
switches_part card part argument e some =
    let high = field 7 3 (partition_config card.made.ext_csd) in
    let access = access_number part in
    let small = small_number part in
    let bits : high < 32 = omega arith in
    let is = accesses high access in
    let number : field 10 8 is ≡ access = access_in high access small in
    ap (switched card) e
    ∙ left (is == write_byte 175 1) (is == write_byte 183 2) (is == write_byte 183 1)
    ((is == write_byte 185 1) && (high_speed_at_52_mhz card.made.ext_csd == 1))
    (Some (record card { erase_group_def = 1 })) (Some (record card { width = Eight }))
    (Some (record card { width = Four })) (Some (record card { timing = High }))
    (access_switched card is) (ne_eqb is (write_byte 175 1) (not_groups high access))
    (ne_eqb is (write_byte 183 2) (not_other high access 183 2 (omega arith) small bits))
    (ne_eqb is (write_byte 183 1) (not_other high access 183 1 (omega arith) small bits))
    (and_not _ _ (ne_eqb is (write_byte 185 1) (not_other high access 185 1 (omega arith) small bits)))
    ∙ ap (access_by card is) number
    ∙ ap (λ b. if b then accessed card (part_accessed access) else None) (eq-eqb is is refl)
    ∙ ap (accessed card) (part_of_number part) ∙ to_part card part some

-- The session's card, and the argument for it.

abbrev pub Asks : Session → Part → ℕ → Type 0
Asks session part argument =
    argument ≡ write_byte 179 (8 * field 7 3 session.partition_config + access_number part)

writes_part : (session : Session) (part : Part) (argument : ℕ) (view : BusView) → Knows session view
    → view.card.made.kind ≡ Mmc → Asks session part argument
    → argument ≡ write_byte 179 (partition_config_for view.card.made part)
writes_part session part argument view k mmc e =
    e ∙ ap (λ n. write_byte 179 (8 * n + access_number part)) (k.partition_config mmc)

known_switch : (session : Session) (part : Part) (argument : ℕ) (view : BusView) → IsReady session view
    → view.card.made.kind ≡ Mmc → Asks session part argument → IsSome (sectors_of session.info part)
    → switched view.card argument ≡ Some (record view.card { part = part })
known_switch session part argument view r mmc e some =
    let made = view.card.made in
    switches_part view.card part argument (writes_part session part argument view r.knows mmc e)
    (λ none. has_sectors session.info part view.limits made r.knows.info some (sym (r.is_card.sizes part) ∙ none))

-- It succeeds.

pub selected_now : (session : Session) (part : Part) (argument : ℕ) (a b : BusView) → session.info.kind ≡ Mmc
    → Asks session part argument → IsSome (sectors_of session.info part)
    → Switches session.info.rca argument (Ok tt) a b
    → IsReady session a → IsReady (chosen session part) b
selected_now session part argument a b mmc e some p r =
    let made = p.stays.carried.made in
    let kind : a.card.made.kind ≡ Mmc = sym r.knows.info.kind ∙ mmc in
    let own = p.own (record a.card { part = part }) kind r.set.rest (known_switch session part argument a r kind e some)
    refl in
    let to : b.card.part ≡ part = ap (λ (s : Setting). s.part) own.1 in
    let setting : setting_of b.card ≡ setting_in session.info part =
    own.1 ∙ ap (λ (s : Setting). record s { part = part }) r.set.is_set in
    record {
      is_card = p.is_card;
      knows = knows_still session (Some part) b (knows_then session a b p.stays r.knows);
      set = record {
        rest = own.0;
        is_set = setting ∙ ap (setting_in session.info) (sym to);
        on_lines = p.set.lines ∙ r.set.on_lines;
      };
      part = is_chosen session b.card.part part to (λ sd. cc (mmc, sd));
    }

-- It fails.

abbrev pub unknown : Session → Session
unknown session = record session { selected = None }

-- where no partition is known, an eMMC device may stand in any
stands_as : (session : Session) (part : Part) (view : BusView) → session.info.kind ≡ Mmc
    → Stands (setting_in session.info part) view.card → view.lines ≡ lines_of (setting_in session.info part)
    → StandsAs (unknown session) view
stands_as session part view mmc stands lines = record {
  part = part;
  is_part = record { known = λ other none. cc none; sd = λ sd. cc (mmc, sd) };
  stands = stands;
  lines = lines;
}

pub select_fails : (session : Session) (part : Part) (argument : ℕ) (fault : Cause) (broken : Broken) (a b : BusView)
    → session.info.kind ≡ Mmc → Asks session part argument → IsSome (sectors_of session.info part)
    → broken ≡ record { session = unknown session; cause = fault; must_reset = false }
    → Switches session.info.rca argument (Err fault) a b
    → IsReady session a → IsBroken broken b × (a.faults < b.faults)
select_fails session part argument fault broken a b mmc e some is p r =
    let kind : a.card.made.kind ≡ Mmc = sym r.knows.info.kind ∙ mmc in
    let made = p.stays.carried.made in
    let lines = p.set.lines ∙ r.set.on_lines in
    let may = p.set.stands part (record {
      mmc = kind;
      switch = refl;
      access = writes_part session part argument a r.knows kind e;
    }) (setting_in session.info a.card.part) (ready_stands session a r) in
    let stands : StandsAs (unknown session) b = elim may [
      | inl old ↦ stands_as session a.card.part b mmc old lines
      | inr new ↦ stands_as session part b mmc new lines
    ] in
    let is_broken : IsBroken (record { session = unknown session; cause = fault; must_reset = false }) b = record {
      is_card = p.is_card;
      knows = knows_still session None b (knows_then session a b p.stays r.knows);
      stands = λ kept. stands;
    } in
    let fine : NoFault a b → ⊥ =
    λ same. cc (p.fine same (record a.card { part = part }) kind r.set.rest (ap (λ (s : Setting). s.rca) r.set.is_set)
    (known_switch session part argument a r kind e some)) in
    (subst (λ x. IsBroken x b) (sym is) is_broken, fell a b p.stays fine)
