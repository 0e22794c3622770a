-- What one exchange of identification tells, and where it leaves the card.
use Rattle.std.proofs.Common.{Bool, List, ◌<◌, ◌^◌, ◌∙◌, ◌≡◌, ◌⊎◌, ap, arith, cond, false, inl, inr, refl}
use Rattle.std.proofs.Common.{subst, sym, true, ℕ}
use Rattle.std.specs.Prelude.{Err, IfOk, IsOk, IsOkAnd, Ok, Result, ◌%◌, ◌/◌, ◌==◌, if◌then◌else◌, not}
use Rattle.std.proofs.lemmas.Bool.{eqb-true}
use Rattle.mmc_frame.specs.Field.{field}
use Rattle.mmc_frame.specs.Status.{state_number}
use Rattle.mmc_frame.specs.declared.card_state.State.{State}
use Rattle.mmc_bus.specs.declared.status.Closing.TheVariants.{AtWork, Clean}
use Rattle.mmc_frame.specs.declared.card_state.State.TheVariants.{Data, Dis, Ident, Idle, Prg, Rcv, Ready, Stby, Tran}
use Rattle.mmc_frame.specs.declared.kind.Kind.{Kind}
use Rattle.mmc_card.specs.BusView.{BusView}
use Rattle.mmc_card.proofs.Cards.{in_state}
use Rattle.mmc_card.proofs.Passing.{run_still, unmoved_by_time}
use Rattle.mmc_card.specs.Blocks.{rested}
use Rattle.mmc_card.specs.Card.{Card, IsCard, NoAddress, is_in, is_selected}
use Rattle.mmc_card.specs.declared.exchange.Timing.TheVariants.{Default}
use Rattle.mmc_card.specs.declared.exchange.Width.TheVariants.{One}
use Rattle.mmc_card.specs.declared.part.Part.TheVariants.{User}
use Rattle.mmc_card.specs.CardAnswer.{Choice, bit, busied, done, reset, shown, status}
use Rattle.mmc_card.specs.CardLaws.{IsInOrder}
use Rattle.mmc_card.specs.Faults.{NoFault, Passes, at_once, has_failed, has_fallen_short, has_rested, has_run}
use Rattle.mmc_card.specs.RowsIdentify.{at_work}
use Rattle.mmc_card.specs.Made.{IsToldCsd, Made}
use Rattle.mmc_card.specs.Profile.{InProfile}
use Rattle.mmc_bus.specs.CommandLaws.{Does, IsHeard, Names, ShowsNoError, TellsStatus, Whatever}
use Rattle.mmc_card.specs.Judged.{Shows}
use Rattle.mmc_bus.specs.declared.host.Unheard.{Unheard}
use Rattle.mmc_identify.specs.Judged as judged
use Rattle.mmc_identify.specs.Stages.{IsIdle, IsLeft, IsNamed, IsResting, IsSelected, IsTaken, Looks}
use Rattle.mmc_identify.specs.declared.fault.IdentFault.{IdentFault}
use Rattle.mmc_identify.specs.declared.fault.IdentFault.TheVariants.{Register}
use Rattle.mmc_bus.specs.Closings.{Closes, ClosesSoon, WasAtWork}
use Rattle.mmc_bus.specs.declared.status.Closing.{Closing}
use Rattle.mmc_card.proofs.JudgedLemmas.{less}
use Rattle.mmc_identify.specs.Stages.{LooksAfter, RestsAfter}

-- CMD0.

pub idle_reset : (lands : ℕ → Bool) (keeps : Bool) (old new : Card) → new ≡ reset lands keeps old → IsIdle false false 0 new
idle_reset lands keeps old new e = subst (IsIdle false false 0) (sym e) (record { state = refl; told = refl; app = refl; inquiries = refl })

-- Registers.

-- what is heard of a register is the one that the card tells
pub register_own : {IsThere : Type 0} (Is : Made → List ℕ → Type 0) (after : Card) (old : BusView)
    (heard : Result (List ℕ) Unheard) (new : BusView)
    → Does Whatever IsThere (λ card bytes. Is card.made bytes) after old heard new
    → IfOk (judged.told_register heard) (Is old.card.made)
register_own Is after old (Ok bytes) new does = (does.sound bytes refl tt).0.is
register_own Is after old (Err unheard) new does = tt

-- what is heard where it is determined
heard_is : {X : Type 0} {is : X} {heard : Result X Unheard} → IsHeard (λ x. x ≡ is) heard → heard ≡ Ok is
heard_is h = h.1 ∙ ap (λ x. Ok x) h.2

-- CMD2.

pub named_fine : (old : BusView) (heard : Result (List ℕ) Unheard) (new : BusView)
    → Does Whatever (old.card.state ≡ Ready) (λ card cid. cid ≡ card.made.cid) (record (done old.card) { state = Ident }) old heard new
    → NoFault old new → old.card.state ≡ Ready
    → (judged.told_register heard ≡ Ok old.card.made.cid) × (new.card.state ≡ Ident)
named_fine old heard new does same ready =
    let f = does.fine same ready in
    (ap judged.told_register (heard_is f.0), ap (λ (card : Card). card.state) f.1)

-- CMD3.

named_shown : (rca : ℕ) (old new : Card) → new ≡ record (shown old) { state = Stby; rca = rca } → IsNamed rca new
named_shown rca old new e =
    subst (IsNamed rca) (sym e)
    (record { state = refl; is_rca = refl; app = refl; command_errors = refl; errors = refl; switch_error = refl })

published_by : (is_zero : Bool) (told rca : ℕ) → (field 31 16 told == 0) ≡ is_zero → field 31 16 told ≡ rca
    → (rca ≡ 0 → ⊥)
    → judged.published (Ok told) ≡ Ok rca
published_by true told rca e is some = absurd (some (sym is ∙ eqb-true (field 31 16 told) 0 e))
published_by false told rca e is some = rw e (ap Ok is)

-- CMD3 publishes the RCA by which the card goes then
abbrev pub Publishes : BusView → Result ℕ Unheard → BusView → Type 0
Publishes old heard new =
    Does Whatever ((old.card.state ≡ Ident) ⊎ (old.card.state ≡ Stby)) (λ card told. field 31 16 told ≡ new.card.rca)
    (record (shown old.card) { state = Stby; rca = new.card.rca }) old heard new

pub published_fine : (old : BusView) (heard : Result ℕ Unheard) (new : BusView) (result : Result ℕ IdentFault)
    → result ≡ judged.published heard → Publishes old heard new
    → NoFault old new → old.card.state ≡ Ident → (new.card.rca ≡ 0 → ⊥)
    → IsOkAnd result (λ rca. IsNamed rca new.card)
published_fine old heard new result is does same ident some =
    let rca = new.card.rca in
    let f = does.fine same (inl ident) in
    let judges = published_by _ f.0.0 rca refl f.0.2 some in
    subst (λ (r : Result ℕ IdentFault). IsOkAnd r (λ rca. IsNamed rca new.card))
    (sym (is ∙ ap judged.published f.0.1 ∙ judges)) (named_shown rca old.card new.card f.1)

published_told : (is_zero : Bool) (told : ℕ) → let result : Result ℕ IdentFault = cond is_zero (Err Register)
    (Ok (field 31 16 told)) in IfOk result (λ rca. rca ≡ field 31 16 told)
published_told true told = tt
published_told false told = refl

pub published_own : (old : BusView) (heard : Result ℕ Unheard) (new : BusView) → Publishes old heard new
    → IfOk (judged.published heard) (λ rca. rca ≡ new.card.rca)
published_own old (Ok told) new does =
    subst (λ (known : ℕ). IfOk (judged.published (Ok told)) (λ rca. rca ≡ known))
    (let says = (does.sound told refl tt).0 in says.is) (published_told _ told)
published_own old (Err unheard) new does = tt

pub assigned_fine : (old : BusView) (heard : Result ℕ Unheard) (new : BusView)
    → Does ShowsNoError (old.card.state ≡ Ident) Shows
    (record (shown old.card) { state = Stby; rca = 1 }) old heard new
    → NoFault old new → old.card.state ≡ Ident → (judged.assigned heard ≡ Ok 1) × IsNamed 1 new.card
assigned_fine old heard new does same ident =
    let f = does.fine same ident in
    (ap judged.assigned f.0.1, named_shown 1 old.card new.card f.1)

-- CMD9.

pub described_fine : (rca argument : ℕ) (old : BusView) (heard : Result (List ℕ) Unheard) (new : BusView)
    → field 31 16 argument ≡ rca
    → Does Whatever ((old.card.state ≡ Stby) × Names argument old.card) (λ card csd. IsToldCsd card.made csd) (done old.card) old heard new
    → NoFault old new → IsNamed rca old.card
    → IsOk (judged.told_register heard) × IsNamed rca new.card
described_fine rca argument old heard new is_rca does same named =
    let f = does.fine same (named.state, is_rca ∙ sym named.is_rca) in
    let still : IsNamed rca (done old.card) = record {
      state = named.state;
      is_rca = named.is_rca;
      app = refl;
      command_errors = refl;
      errors = named.errors;
      switch_error = named.switch_error;
    } in
    (subst IsOk (sym (ap judged.told_register f.0.1)) refl, subst (IsNamed rca) (sym f.1) still)

-- CMD7.

-- a card in tran that has just shown what it had to show, busy or not
shown_selected : (rca : ℕ) (old : Card) (state : State) (busy lags : Bool) (polled errors : ℕ) (switch : Bool) → state ≡ Tran
    → old.rca ≡ rca
    → old.part ≡ User → old.width ≡ One → old.timing ≡ Default → old.erase_group_def ≡ 0 → old.erase ≡ NoAddress
    → errors ≡ 0 → switch ≡ false
    → IsSelected rca (record (shown old) {
      state = state;
      is_busy = busy;
      polled = polled;
      lags = lags;
      errors = errors;
      switch_error = switch;
    })
shown_selected rca old state busy lags polled errors switch tran is part width timing erase_group_def erase none unset = record {
  state = tran;
  is_rca = is;
  part = part;
  width = width;
  timing = timing;
  erase_group_def = erase_group_def;
  count = refl;
  app = refl;
  erase = erase;
  command_errors = refl;
  errors = none;
  switch_error = unset;
}

selected_after : (rca : ℕ) (old new : Card) → IsCard old → old.state ≡ Stby → old.rca ≡ rca
    → new ≡ record (busied (shown old)) { state = Tran; lags = true } → IsTaken rca new
selected_after rca old new card stby is e =
    let apart = card.apart (ap is_selected stby) in
    subst (IsTaken rca) (sym e) (record {
      selected = shown_selected rca old Tran true true 0 0 false refl is apart.part apart.width apart.timing apart.erase_group_def
          apart.erase refl refl;
      polled = refl;
    })

bit_below : (b : Bool) → bit b < 2
bit_below true = omega arith
bit_below false = omega arith

-- a card that isn't locked and holds no error shows no lock, in a state with a number of four bits
unlocked : (card : Card) (state : State) → card.state ≡ state → state_number state < 2 ^ 4 → card.command_errors ≡ 0
    → card.errors ≡ 0 → card.made.is_locked ≡ false → status false card / 0x2000000 % 2 ≡ 0
unlocked card state is below command_errors errors lock =
    omega (
      arith,
      ap state_number is,
      below,
      command_errors,
      errors,
      ap bit lock,
      bit_below (not card.is_busy),
      bit_below card.switch_error,
    )

-- what a response says of the lock
abbrev pub LockLaw : Type 0
LockLaw = (told : ℕ) (card : Card) → Shows card told → field 25 25 told ≡ field 25 25 (status false card)

selects : (told : ℕ) → told / 0x2000000 % 2 ≡ 0 → judged.selected (Ok told) ≡ Ok tt
selects told none = rw none refl

pub selected_fine : (rca argument : ℕ) (old : BusView) (heard : Result ℕ Unheard) (new : BusView)
    → field 31 16 argument ≡ rca → LockLaw → IsCard old.card → InProfile old.card.made
    → Does Whatever ((old.card.state ≡ Stby) × Names argument old.card) Shows
    (record (busied (shown old.card)) { state = Tran; lags = true }) old heard new
    → NoFault old new → IsNamed rca old.card → IsOk (judged.selected heard) × IsTaken rca new.card
selected_fine rca argument old heard new is_rca locked card profile does same named =
    let f = does.fine same (named.state, is_rca ∙ sym named.is_rca) in
    let none = unlocked old.card Stby named.state (omega arith) named.command_errors named.errors profile.unlocked in
    let judges = ap judged.selected f.0.1 ∙ selects f.0.0 (locked f.0.0 old.card f.0.2 ∙ none) in
    (subst IsOk (sym judges) refl, selected_after rca old.card new.card card named.state named.is_rca f.1)

selected_ok : (heard : Result ℕ Unheard) → IsOk (judged.selected heard) → (told : ℕ) × (heard ≡ Ok told)
selected_ok (Ok told) ok = (told, refl)
selected_ok (Err unheard) ok = cc

pub selected_own : (rca argument : ℕ) (old : BusView) (heard : Result ℕ Unheard) (new : BusView)
    → field 31 16 argument ≡ rca → IsCard old.card
    → Does Whatever ((old.card.state ≡ Stby) × Names argument old.card) Shows
    (record (busied (shown old.card)) { state = Tran; lags = true }) old heard new
    → IsOk (judged.selected heard) → Looks rca new.card
selected_own rca argument old heard new is_rca card does ok up =
    let t = selected_ok heard ok in
    let there = does.there t.0 t.1 in
    (selected_after rca old.card new.card card there.0 (sym there.1 ∙ is_rca) (does.sound t.0 t.1 tt).1).selected

-- CMD13.

number_below : (s : State) → state_number s < 2 ^ 4
number_below Idle = omega arith
number_below Ready = omega arith
number_below Ident = omega arith
number_below Stby = omega arith
number_below Tran = omega arith
number_below Data = omega arith
number_below Rcv = omega arith
number_below Prg = omega arith
number_below Dis = omega arith

late_seen : (late : Bool) (errors : ℕ) → errors ≡ 0 → (if late then 0 else errors) ≡ 0
late_seen true errors none = refl
late_seen false errors none = none

-- of a card in profile that looks as CMD7 left it no status shows a lock
pub shows_unlocked : (rca told : ℕ) (card : Card) → IsSelected rca card → InProfile card.made → LockLaw → Shows card told
    → field 25 25 told ≡ 0
shows_unlocked rca told card is profile locked shows =
    locked told card shows
    ∙ unlocked card Tran is.state (omega arith) is.command_errors is.errors profile.unlocked

-- a status that lags behind shows the lock as the card has it
lags_unlocked : (rca : ℕ) (choice : Choice) (card : Card) → IsSelected rca card → card.made.is_locked ≡ false
    → status false (at_work choice card) / 0x2000000 % 2 ≡ 0
lags_unlocked rca choice card is lock =
    let seen = at_work choice card in
    unlocked seen seen.state refl (number_below seen.state) is.command_errors (late_seen choice.tells_late card.errors is.errors) lock

pub told_unlocked : (rca told : ℕ) (old new : Card) → IsSelected rca old → InProfile old.made → LockLaw
    → TellsStatus old told new → field 25 25 told ≡ 0
told_unlocked rca told old new is profile locked (inl itself) =
    shows_unlocked rca told old is profile locked (less old.made.kind told _ itself.0.0)
told_unlocked rca told old new is profile locked (inr later) =
    locked told (at_work later.choice old) (less old.made.kind told _ later.told_is.0)
    ∙ lags_unlocked rca later.choice old is profile.unlocked

-- nor does it look otherwise once it isn't busy
rests_selected : (rca : ℕ) (card : Card) → IsSelected rca card → IsSelected rca (rested card)
rests_selected rca card is =
    let rest : rested card ≡ record card { is_busy = false } = rw is.state refl in
    subst (IsSelected rca) (sym rest) (record {
      state = is.state;
      is_rca = is.is_rca;
      part = is.part;
      width = is.width;
      timing = is.timing;
      erase_group_def = is.erase_group_def;
      count = is.count;
      app = is.app;
      erase = is.erase;
      command_errors = is.command_errors;
      errors = is.errors;
      switch_error = is.switch_error;
    })

-- what a clean status leaves
clean_leaves : (rca : ℕ) (kind : Kind) (old new : Card) → Looks rca old → IsInOrder kind old × (new ≡ shown old) → IsLeft rca new
clean_leaves rca kind old new looks says =
    let is = looks (ap is_selected says.0.tran) in
    subst (IsLeft rca) (sym says.1) (record {
      selected = shown_selected rca old old.state old.is_busy false old.polled 0 false is.state is.is_rca is.part is.width is.timing
          is.erase_group_def is.erase refl refl;
      rests = says.0.rests;
      up_to_date = refl;
    })

-- and one that shows it at work
work_leaves : (rca : ℕ) (kind : Kind) (old new : Card) → WasAtWork kind old new → IsSelected rca old → IsSelected rca new
work_leaves rca kind old new was is =
    subst (IsSelected rca) (sym was.shown)
    (shown_selected rca old old.state old.is_busy new.lags new.polled new.errors new.switch_error is.state is.is_rca is.part
    is.width is.timing is.erase_group_def is.erase (was.gets_none is.errors) (was.gets_no_switch_error is.switch_error))

-- a card in tran is nowhere else
elsewhere : {X : Type 0} (card : Card) (state : State) → is_in state Tran ≡ false → card.state ≡ Tran → is_in card.state state ≡ true
    → X
elsewhere card state other tran there =
    cc (other, ap (λ s. is_in s Tran) (sym (in_state card.state state there)), ap (λ s. is_in s Tran) tran)

-- it looks so once time has passed, too
pub looks_in_time : (rca : ℕ) (old met : BusView) → Passes old met → Looks rca old.card → Looks rca met.card
looks_in_time rca old met passes looks up =
    let is = looks (sym (unmoved_by_time old met passes).selected ∙ up) in
    elim passes [
      | at_once e ↦ subst (λ (v : BusView). IsSelected rca v.card) (sym e) is
      | has_rested e ↦ subst (λ (v : BusView). IsSelected rca v.card) (sym e) (rests_selected rca old.card is)
      | has_run choice blocks e ↦ subst (λ (v : BusView). IsSelected rca v.card) (sym e)
          (subst (IsSelected rca) (sym (run_still choice blocks old.card (ap (λ s. is_in s Data) is.state))) is)
      | has_failed lands bits of prg switching e ↦ elsewhere old.card Prg refl is.state prg
      | has_fallen_short lands bits ignores of rcv is_busy e ↦ elsewhere old.card Rcv refl is.state rcv
    ]

pub closing_own : (rca : ℕ) (kind : Kind) (old new : Card) (r : Result Closing IdentFault) → Closes kind r old new
    → Looks rca old → LooksAfter rca r new
closing_own rca kind old new (Ok Clean) closes looks = clean_leaves rca kind old new looks closes
closing_own rca kind old new (Ok AtWork) closes looks = λ up.
    let is = looks (sym (ap (λ (c : Card). is_selected c.state) closes.shown) ∙ up) in
    work_leaves rca kind old new closes is
closing_own rca kind old new (Err fault) closes looks = tt

pub closing_fine : (rca waits : ℕ) (kind : Kind) (old new : Card) (r : Result Closing IdentFault) → Closes kind r old new
    → ClosesSoon r old new → IsResting rca waits old → RestsAfter rca waits r new
closing_fine rca waits kind old new (Ok Clean) closes soon resting = tt
closing_fine rca waits kind old new (Ok AtWork) closes soon resting =
    let before = resting.polled in
    let below = soon.1 in
    let count = soon.0.1 in
    record {
      selected = work_leaves rca kind old new closes resting.selected;
      rests = ap (λ (c : Card). c.is_busy) closes.shown ∙ resting.rests;
      polled = omega (arith, before, below, count);
      few = omega (arith, before, below);
    }
closing_fine rca waits kind old new (Err fault) closes soon resting = soon

-- a card that rests is in order
pub resting_in_order : (rca waits : ℕ) (kind : Kind) (card : Card) → IsResting rca waits card → IsInOrder kind card
resting_in_order rca waits kind card resting = record {
  no_error = record { errors = resting.selected.errors; switch_error = λ judged mmc. resting.selected.switch_error };
  tran = resting.selected.state;
  rests = resting.rests;
}
