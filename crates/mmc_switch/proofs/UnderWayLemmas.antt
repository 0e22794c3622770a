-- A turn of work that takes several: what it makes of where the work is, from what one exchange did.
use Rattle.std.proofs.Common.{◌+◌, ◌-◌, ◌<◌, ◌∙◌, ◌≡◌, ◌≤◌, Bool, ap, arith, eq-eqb, false, refl, subst, suc, sym, true, zero, ℕ}
use Rattle.std.specs.Prelude.{◌&&◌, IsSome, None, Option, Some, if◌then◌else◌, length}
use Rattle.mmc_frame.specs.declared.card_state.State.{State}
use Rattle.mmc_frame.specs.declared.card_state.State.TheVariants.{Data, Tran}
use Rattle.mmc_frame.specs.Field.{field}
use Rattle.mmc_frame.specs.declared.kind.Kind.{Kind}
use Rattle.mmc_frame.specs.declared.kind.Kind.TheVariants.{Mmc}
use Rattle.mmc_ext_csd.specs.ExtCsd.{partition_config}
use Rattle.mmc_card.specs.declared.exchange.Lines.{Lines}
use Rattle.mmc_card.specs.declared.part.Part.{Part}
use Rattle.mmc_card.specs.BusView.{BusView}
use Rattle.mmc_card.specs.Blocks.{lines_fit}
use Rattle.mmc_card.specs.Card.{Card, HasItsSizes, IsCard, NoAddress, is_in, is_selected, stored}
use Rattle.mmc_card.specs.CardLaws.{HasNoError}
use Rattle.mmc_card.specs.Faults.{NoFault}
use Rattle.mmc_card.proofs.Passing.{still_in}
use Rattle.mmc_card.specs.Laws.{IsStill, Setting, Stands, setting_of}
use Rattle.mmc_card.specs.Made.{Made, has_cmd23, sectors_in}
use Rattle.mmc_card.specs.RowsSwitch.{timing_number, width_number}
use Rattle.mmc_bus.specs.Learned.{Stays}
use Rattle.mmc_bus.specs.Work.{StaysSet, Worked}
use Rattle.mmc_switch.specs.Info.{IsInfo, IsInfoWith, IsKnown, trims_of, used_as}
use Rattle.mmc_switch.specs.declared.info.Info.{Info}
use Rattle.mmc_switch.specs.Place.{IsBroken, IsPartOf, IsReady, Knows, StandsAs, setting_in}
use Rattle.mmc_switch.specs.Stages.{lines_of}
use Rattle.mmc_switch.specs.UnderWay.{HasFailed, IsIdle, IsQuiet, IsUnderWay, faults_then, known_part, part_of, room_of}
use Rattle.mmc_switch.specs.declared.broken.Broken.{Broken}
use Rattle.mmc_switch.specs.declared.session.Session.{Session}

-- no fault in all turns is none so far, and none in this one
pub none_so_far : (a b k : ℕ) → a ≤ b → k + (b - a) ≡ 0 → (k ≡ 0) × (b ≡ a)
none_so_far a b k later none = (omega (arith, none), omega (arith, later, none))

pub some_of : (n : ℕ) → (n ≡ 0 → ⊥) → 0 < n
some_of zero none = absurd (none refl)
some_of (suc n) none = omega arith

-- A card that is quiet, by its fields.
pub quiet_by : {place : State} {preset : ℕ} {card : Card} → card.state ≡ place → card.app ≡ false
    → card.command_errors ≡ 0 → card.errors ≡ 0 → card.switch_error ≡ false → card.count ≡ preset
    → card.erase ≡ NoAddress → IsQuiet place preset card
quiet_by state app command_errors errors switch_error count erase = record {
  state = state;
  app = app;
  command_errors = command_errors;
  errors = errors;
  switch_error = switch_error;
  count = count;
  erase = erase;
}

-- A card that is ready stands, so that work can begin.

pub ready_stands : (session : Session) (view : BusView) → IsReady session view
    → Stands (setting_in session.info view.card.part) view.card
ready_stands session view r = record {
  selected = λ up. r.set.is_set;
  sends = λ h. cc (ap (λ (s : State). is_in s Data) r.set.rest.state, h);
  reset = λ down. cc (ap is_selected r.set.rest.state, down);
}

pub begins : (session : Session) (Shown Exact : Card → Type 0) (view : BusView) → IsReady session view
    → Exact view.card → IsUnderWay session Shown Exact 0 view
begins session Shown Exact view r exact = record {
  is_card = r.is_card;
  knows = r.knows;
  stands = record {
    part = view.card.part;
    is_part = r.part;
    stands = ready_stands session view r;
    lines = r.set.on_lines;
  };
  shown = λ s. exact;
  fine = λ none. exact;
}

-- What an exchange leaves as it was.

-- what is said of card and host before is said of them after, and the other way round
pub said_after : (Says : Lines → Made → Type 0) (a b : BusView) → Stays a b → Says a.limits a.card.made
    → Says b.limits b.card.made
said_after Says a b stays says =
    subst (λ l. Says l b.card.made) (sym stays.limits) (subst (Says a.limits) (sym stays.carried.made) says)

pub said_before : (Says : Lines → Made → Type 0) (a b : BusView) → Stays a b → Says b.limits b.card.made
    → Says a.limits a.card.made
said_before Says a b stays says =
    subst (λ l. Says l a.card.made) stays.limits (subst (Says b.limits) stays.carried.made says)

-- with other uses of trims and of CMD23
info_using : (Uses Other : Bool → Bool → Type 0) (limits : Lines) (made : Made) (info : Info) (trims cmd23 : Bool)
    → IsInfoWith Uses limits made info → Other trims (trims_of made) → Other cmd23 (has_cmd23 made)
    → IsInfoWith Other limits made (record info { trims = trims; cmd23 = cmd23 })
info_using Uses Other limits made info trims cmd23 k use_trims use_cmd23 = record {
  kind = k.kind;
  addressing = k.addressing;
  rca = k.rca;
  cid = k.cid;
  says = k.says;
  csd = k.csd;
  sizes = k.sizes;
  read_only = k.read_only;
  erase_unit = k.erase_unit;
  erased_byte = k.erased_byte;
  trims = use_trims;
  cmd23 = use_cmd23;
  width = k.width;
  timing = k.timing;
}

abbrev NoMore : Bool → Bool → Type 0
NoMore used has = used ≡ true → has ≡ true

-- who uses all that a card has uses no more
pub uses_all : (limits : Lines) (made : Made) (info : Info) → IsInfo limits made info → IsKnown limits made info
uses_all limits made info k =
    info_using (λ used has. used ≡ has) NoMore limits made info info.trims info.cmd23 k (λ used. sym k.trims ∙ used)
    (λ used. sym k.cmd23 ∙ used)

pub knows_then : (session : Session) (a b : BusView) → Stays a b → Knows session a → Knows session b
knows_then session a b stays knows = record {
  info = said_after (λ limits made. IsKnown limits made session.info) a b stays knows.info;
  partition_config =
      subst (λ (made : Made). made.kind ≡ Mmc
      → field 7 3 session.partition_config ≡ field 7 3 (partition_config made.ext_csd)) (sym stays.carried.made)
      knows.partition_config;
}

-- who uses less of it is as ready
no_more : (used less has : Bool) → (used ≡ true → has ≡ true) → (used && less) ≡ true → has ≡ true
no_more true less has all some = all refl
no_more false less has all some = cc some

pub ready_using : (session : Session) (trims counts : Bool) (view : BusView) → IsReady session view
    → IsReady (record session { info = record session.info { trims = session.info.trims && trims; cmd23 = session.info.cmd23 && counts } }) view
ready_using session trims counts view r =
    let info = session.info in
    let k = r.knows.info in
    record {
      is_card = r.is_card;
      knows = record {
        info = info_using NoMore NoMore view.limits view.card.made info (info.trims && trims) (info.cmd23 && counts) k
            (no_more info.trims trims _ k.trims) (no_more info.cmd23 counts _ k.cmd23);
        partition_config = r.knows.partition_config;
      };
      set = r.set;
      part = record { known = r.part.known; sd = r.part.sd };
    }

-- and who keeps to what another knows of it
known_as : (limits : Lines) (made : Made) (info other : Info) → IsKnown limits made info → IsKnown limits made other
    → IsKnown limits made (used_as other info)
known_as limits made info other k o = record {
  kind = k.kind;
  addressing = k.addressing;
  rca = k.rca;
  cid = k.cid;
  says = o.says;
  csd = o.csd;
  sizes = k.sizes;
  read_only = o.read_only;
  erase_unit = k.erase_unit;
  erased_byte = k.erased_byte;
  trims = no_more info.trims other.trims _ k.trims;
  cmd23 = no_more info.cmd23 other.cmd23 _ k.cmd23;
  width = k.width;
  timing = k.timing;
}

pub ready_as : (session : Session) (other : Info) (view : BusView) → IsKnown view.limits view.card.made other → IsReady session view
    → IsReady (record session { info = used_as other session.info }) view
ready_as session other view known r = record {
  is_card = r.is_card;
  knows = record {
    info = known_as view.limits view.card.made session.info other r.knows.info known;
    partition_config = r.knows.partition_config;
  };
  set = r.set;
  part = record { known = r.part.known; sd = r.part.sd };
}

pub stands_then : (session : Session) (a b : BusView) → StaysSet a b → StandsAs session a → StandsAs session b
stands_then session a b set stands = record {
  part = stands.part;
  is_part = stands.is_part;
  stands = set.stands (setting_in session.info stands.part) stands.stands;
  lines = set.lines ∙ stands.lines;
}

module _ {Holds Own Fine : BusView → BusView → Type 0} (session : Session) (Shown Exact : Card → Type 0) (faults : ℕ)
    (a b : BusView) (at : IsUnderWay session Shown Exact faults a) (work : Worked Holds Own Fine a b) where
  -- The work goes on.
  pub goes_on : (Shows Comes : Card → Type 0) → (Shows b.card → Shown a.card)
      → (Exact a.card → Shows b.card → Comes b.card) → (Exact a.card → NoFault a b → Comes b.card)
      → IsUnderWay session Shows Comes (faults_then faults a b) b
  goes_on Shows Comes shows comes calm = record {
    is_card = work.is_card;
    knows = knows_then session a b work.stays at.knows;
    stands = stands_then session a b work.set at.stands;
    shown = λ s. comes (at.shown (shows s)) s;
    fine = λ none. let both = none_so_far a.faults b.faults faults work.stays.later none in
        calm (at.fine both.0) both.1;
  }

  -- The card has shown itself sound, and it is exactly there.
  pub goes_there : (Shows Comes : Card → Type 0) → Shown a.card → (Exact a.card → Comes b.card)
      → IsUnderWay session Shows Comes (faults_then faults a b) b
  goes_there Shows Comes shown comes = goes_on Shows Comes (λ s. shown) (λ e s. comes e) (λ e same. comes e)

  -- The work fails, which it can't without a fault.
  pub has_failed : (broken : Broken) → broken.session ≡ session → (Exact a.card → NoFault a b → ⊥)
      → HasFailed broken (faults_then faults a b) b
  has_failed broken same calm =
      record {
        is_broken = (subst (λ s. Knows s b → StandsAs s b → IsBroken broken b) same (λ knows stands. record {
          is_card = work.is_card;
          knows = knows;
          stands = λ no_reset. stands;
        })) (knows_then session a b work.stays at.knows) (stands_then session a b work.set at.stands);
        fell = some_of (faults_then faults a b) (λ none.
            let both = none_so_far a.faults b.faults faults work.stays.later none in calm (at.fine both.0) both.1);
      }

-- What is known of the card.

pub is_known : (selected : Option Part) → IsSome selected → selected ≡ Some (known_part selected)
is_known (Some part) some = refl
is_known None some = cc some

-- it stands with the session's partition
pub stands_in : (session : Session) (view : BusView) → IsSome session.selected → StandsAs session view
    → Stands (setting_in session.info (part_of session)) view.card
    × (view.lines ≡ lines_of (setting_in session.info (part_of session)))
stands_in session view some stands =
    let same : stands.part ≡ part_of session = stands.is_part.known (part_of session) (is_known session.selected some) in (
      subst (λ p. Stands (setting_in session.info p) view.card) same stands.stands,
      subst (λ p. view.lines ≡ lines_of (setting_in session.info p)) same stands.lines,
    )

exists_as : (b : Bool) (size room : ℕ) → room ≡ (if b then size else 0) → 1 ≤ room → size ≡ room
exists_as true size room e some = sym e
exists_as false size room e some = absurd (omega (arith, e, some))

-- a partition with a sector has its size by the session
pub room_is : (session : Session) (view : BusView) → HasItsSizes view.card → Knows session view → 1 ≤ room_of session
    → length (stored view.card (part_of session)) ≡ room_of session
room_is session view sizes knows some =
    sizes (part_of session)
    ∙ exists_as _ (sectors_in view.card.made (part_of session)) (room_of session) (knows.info.sizes (part_of session)) some

-- A card that is selected is set as the session says, and the host's lines are its own.
module _ (session : Session) (view : BusView) (some : IsSome session.selected) (stands : StandsAs session view)
    (selected : is_selected view.card.state ≡ true) where
  pub set_in : setting_of view.card ≡ setting_in session.info (part_of session)
  set_in = (stands_in session view some stands).0.selected selected

  pub part_in : view.card.part ≡ part_of session
  part_in = ap (λ (s : Setting). s.part) set_in

  pub lines_in : lines_fit view.lines view.card ≡ true
  lines_in =
      let lines = (stands_in session view some stands).1 in
      let width = ap (λ (s : Setting). s.width) set_in in
      let timing = ap (λ (s : Setting). s.timing) set_in in
      let same = eq-eqb (width_number session.info.width) (width_number session.info.width) refl in
      let now = eq-eqb (timing_number session.info.timing) (timing_number session.info.timing) refl in
      rw (lines, width, timing, same, now) refl

-- nothing goes on by itself in a card in tran with nothing to do
pub still_idle : (count : ℕ) (card : Card) → IsIdle count card → IsStill card
still_idle count card idle = still_in card Tran idle.quiet.state refl refl idle.rests

pub no_error : (kind : Kind) (count : ℕ) (card : Card) → IsQuiet Tran count card → HasNoError kind card
no_error kind count card quiet =
    record { command_errors = quiet.command_errors; errors = quiet.errors; switch_error = λ judged mmc. quiet.switch_error }

-- A card in tran with nothing to do is ready.
pub ready_again : (session : Session) (view : BusView) → IsCard view.card → Knows session view
    → StandsAs session view → IsQuiet Tran 0 view.card → view.card.is_busy ≡ false → view.card.lags ≡ false
    → IsReady session view
ready_again session view card knows stands quiet rests up_to_date =
    let selected : is_selected view.card.state ≡ true = ap is_selected quiet.state in
    let setting : setting_of view.card ≡ setting_in session.info stands.part = stands.stands.selected selected in
    let part : view.card.part ≡ stands.part = ap (λ (s : Setting). s.part) setting in
    record {
      is_card = card;
      knows = knows;
      set = record {
        rest = record {
          state = quiet.state;
          rests = rests;
          app = quiet.app;
          command_errors = quiet.command_errors;
          errors = quiet.errors;
          switch_error = quiet.switch_error;
          count = quiet.count;
          erase = quiet.erase;
          finished = card.finished (rw quiet.state refl);
          up_to_date = up_to_date;
        };
        is_set = setting ∙ ap (setting_in session.info) (sym part);
        on_lines = stands.lines ∙ ap (λ p. lines_of (setting_in session.info p)) (sym part);
      };
      part = subst (IsPartOf session) (sym part) stands.is_part;
    }
