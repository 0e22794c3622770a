-- The exchanges of a run, each from what its command did.
use Rattle.std.proofs.Common.{◌+◌, ◌-◌, ◌<◌, ◌∙◌, ◌≡◌, ◌≤◌, ◌||◌, Bool, ap, arith, false, length, refl, subst, sym, true, ℕ}
use Rattle.std.specs.Prelude.{Err, IsErr, IsSomeAnd, MatchOption, None, Ok, Option, Result, Some, nat_le, nat_lt}
use Rattle.std.proofs.lemmas.Bool.Decides.{nat_tests}
use Rattle.mmc_frame.specs.declared.kind.Kind.{Kind}
use Rattle.mmc_card.specs.BusView.{BusView}
use Rattle.mmc_card.specs.Card.{Both, Card, First as FirstHeld, Held, NoAddress, holds, is_selected, stored}
use Rattle.mmc_card.specs.CardAnswer.{shown}
use Rattle.mmc_card.specs.Faults.{NoFault}
use Rattle.mmc_card.proofs.Passing.{still_in}
use Rattle.mmc_card.specs.Laws.{IsStill, erased_by, erased_by_held, maybe_erased}
use Rattle.mmc_frame.specs.declared.card_state.State.TheVariants.{Tran}
use Rattle.mmc_card.specs.Made.{sector_at}
use Rattle.mmc_card.specs.RowsErase.{erases, erasing, is_no_range, is_trim}
use Rattle.mmc_card.specs.Sectors.{Within, is_boot, maybe_changed}
use Rattle.mmc_bus.specs.Work.{Narrows, Worked}
use Rattle.mmc_bus.specs.declared.cause.Cause.{Cause}
use Rattle.mmc_switch.proofs.AddressLemmas.{sector_named}
use Rattle.mmc_switch.proofs.EndingLemmas.{EndingTurned, ProgramLaw, change_ends, ending_turned, for_any_cause, idle_shown}
use Rattle.mmc_switch.proofs.TurnLemmas.{turn_fails, turn_goes_there}
use Rattle.mmc_switch.proofs.UnderWayLemmas.{goes_there as goes_there_by, has_failed, part_in, quiet_by, room_is}
use Rattle.mmc_switch.specs.Ending.{EndingDid, IsEnding}
use Rattle.mmc_switch.specs.UnderWay.{IsCarriedOut, part_of, room_of}
use Rattle.mmc_switch.specs.declared.ending.Ending.{Ending}
use Rattle.mmc_switch.specs.declared.ending.Ending.TheVariants.{Wait}
use Rattle.mmc_erase.proofs.ErasingLemmas.{erasing_is}
use Rattle.mmc_erase.specs.Commands.{CanErase, CanHold, argument_of}
use Rattle.mmc_erase.specs.Running.{Exact, IsHolding, IsIn, Shown, Turned, change_of, first_of, last_of}
use Rattle.mmc_erase.specs.declared.job.Job.{Job}
use Rattle.mmc_erase.specs.declared.phase.Phase.{Phase}
use Rattle.mmc_erase.specs.declared.phase.Phase.TheVariants.{End, Erase, First, Last}

-- A turn, from what its exchange did.
module _ {Own Fine : BusView → BusView → Type 0} (job : Job) (phase : Phase) (faults : ℕ) (a b : BusView)
    (at : IsIn job phase faults a) (work : Worked Narrows Own Fine a b) where
  fails : (result : Result (Option Phase) Cause) → IsErr result → (Exact job phase a.card → NoFault a b → ⊥)
      → Turned job faults a result b
  fails (Ok next) not calm = cc
  fails (Err cause) not calm =
      turn_fails job.session (change_of job) Shown (Exact job) (IsCarriedOut (change_of job)) phase faults a b at work cause
      calm

  goes_there : (next : Phase) → Shown phase a.card → (Exact job phase a.card → Exact job next b.card)
      → Turned job faults a (Ok (Some next)) b
  goes_there next shown comes =
      turn_goes_there job.session (change_of job) Shown (Exact job) (IsCarriedOut (change_of job)) phase faults a b at work
      next shown comes

-- A card that holds what it is to hold.

still_holding : (held : Held) (card : Card) → IsHolding held card → IsStill card
still_holding held card holding = still_in card Tran holding.idle.quiet.state refl refl holding.idle.rests

can_hold : (job : Job) (kind : Kind) (held : Held) (card : Card) → kind ≡ job.session.info.kind
    → job.session.info.kind ≡ card.made.kind → IsHolding held card → CanHold kind held card
can_hold job kind held card named is holding = record {
  is_still = still_holding held card holding;
  is_kind = sym (named ∙ is);
  tran = holding.idle.quiet.state;
  erase = holding.erase;
  no_error = record {
    command_errors = holding.idle.quiet.command_errors;
    errors = holding.idle.quiet.errors;
    switch_error = λ judged mmc. holding.idle.quiet.switch_error;
  };
}

now_holding : (held next : Held) (card : Card) → IsHolding held card → IsHolding next (record (shown card) { erase = next })
now_holding held next card holding = record { idle = idle_shown (record card { erase = NoAddress }) holding.idle; erase = refl }

-- CMD32 or CMD35, and CMD33 or CMD36.

abbrev pub HoldsFirst : Kind → ℕ → Bool → BusView → BusView → Type 0
HoldsFirst kind address ok =
    Worked Narrows
    (λ old new. ok ≡ true → IsStill old.card → old.card.made.kind ≡ kind → old.card.erase ≡ NoAddress
    → new.card ≡ record (shown old.card) { erase = FirstHeld address })
    (λ old new. CanHold kind NoAddress old.card → ok ≡ true)

abbrev pub HoldsLast : Kind → ℕ → Bool → BusView → BusView → Type 0
HoldsLast kind address ok =
    Worked Narrows
    (λ old new. (first : ℕ) → ok ≡ true → IsStill old.card → old.card.made.kind ≡ kind → old.card.erase ≡ FirstHeld first
    → new.card ≡ record (shown old.card) { erase = Both first address })
    (λ old new. (first : ℕ) → CanHold kind (FirstHeld first) old.card → ok ≡ true)

module _ (job : Job) (faults : ℕ) (kind : Kind) (address : ℕ) (a b : BusView) (named : kind ≡ job.session.info.kind)
    (addressed : address ≡ first_of job) (at : IsIn job First faults a) where
  pub first_fails : (result : Result (Option Phase) Cause) → IsErr result → HoldsFirst kind address false a b
      → Turned job faults a result b
  first_fails result err work =
      fails job First faults a b at work result err
      (λ exact same. cc (work.fine same (can_hold job kind NoAddress a.card named at.knows.info.kind exact)))

  pub first_goes_on : HoldsFirst kind address true a b → Turned job faults a (Ok (Some Last)) b
  first_goes_on work =
      goes_there job First faults a b at work Last tt
      (λ exact.
      let is = work.own refl (still_holding NoAddress a.card exact) (sym (named ∙ at.knows.info.kind)) exact.erase in
      subst (IsHolding (FirstHeld (first_of job))) (sym (is ∙ ap (λ n. record (shown a.card) { erase = FirstHeld n }) addressed))
      (now_holding NoAddress (FirstHeld (first_of job)) a.card exact))

module _ (job : Job) (faults : ℕ) (kind : Kind) (address : ℕ) (a b : BusView) (named : kind ≡ job.session.info.kind)
    (addressed : address ≡ last_of job) (at : IsIn job Last faults a) where
  pub last_fails : (result : Result (Option Phase) Cause) → IsErr result → HoldsLast kind address false a b
      → Turned job faults a result b
  last_fails result err work =
      fails job Last faults a b at work result err
      (λ exact same. cc (work.fine same (first_of job)
      (can_hold job kind (FirstHeld (first_of job)) a.card named at.knows.info.kind exact)))

  pub last_goes_on : HoldsLast kind address true a b → Turned job faults a (Ok (Some Erase)) b
  last_goes_on work =
      goes_there job Last faults a b at work Erase tt
      (λ exact.
      let is = work.own (first_of job) refl (still_holding (FirstHeld (first_of job)) a.card exact) (sym (named ∙ at.knows.info.kind)) exact.erase in
      subst (IsHolding (Both (first_of job) (last_of job)))
      (sym (is ∙ ap (λ n. record (shown a.card) { erase = Both (first_of job) n }) addressed))
      (now_holding (FirstHeld (first_of job)) (Both (first_of job) (last_of job)) a.card exact))

-- CMD38.

abbrev pub Erases : Kind → ℕ → Bool → BusView → BusView → Type 0
Erases kind argument ok =
    Worked (λ old new. Within (holds new.card) (maybe_erased (erased_by old.card (Some (38, argument))) (holds old.card)))
    (λ old new. (first last : ℕ) → ok ≡ true → IsStill old.card → old.card.erase ≡ Both first last → is_no_range old.card first last ≡ false
    → new.card ≡ erases (erasing old.card (is_trim old.card argument) first last) old.card)
    (λ old new. (first last : ℕ) → CanErase kind first last old.card → ok ≡ true)

in_order : (first last size : ℕ) (boot : Bool) → boot ≡ false → first ≤ last → last < size
    → (boot || (nat_lt last first || nat_le size last)) ≡ false
in_order first last size true is low high = absurd cc
in_order first last size false is low high = grind (arith, nat_tests, low, high)

module _ (job : Job) (faults : ℕ) (kind : Kind) (argument : ℕ) (a b : BusView) (named : kind ≡ job.session.info.kind)
    (given : argument ≡ argument_of job.how) (at : IsIn job Erase faults a) where
  exact : Exact job Erase a.card
  exact = at.shown tt

  part : a.card.part ≡ part_of job.session
  part = part_in job.session a job.selected at.stands (ap is_selected exact.idle.quiet.state)

  room : length (stored a.card a.card.part) ≡ room_of job.session
  room =
      let some = job.some in
      let fits = job.inside in
      ap (λ p. length (stored a.card p)) part
      ∙ room_is job.session a at.is_card.sizes at.knows (omega (arith, some, fits))

  is_range : is_no_range a.card (first_of job) (last_of job) ≡ false
  is_range =
      let some = job.some in
      let fits = job.inside in
      let first = sector_named job.session a at.knows job.start in
      let last = sector_named job.session a at.knows (job.start + job.count - 1) in
      in_order (sector_at a.card.made (first_of job)) (sector_at a.card.made (last_of job))
      (length (stored a.card a.card.part)) (is_boot a.card.part) (ap is_boot part ∙ job.erasable)
      (omega (arith, first, last, some)) (omega (arith, last, room, some, fits))

  change_is : erasing a.card (is_trim a.card argument) (first_of job) (last_of job) ≡ change_of job
  change_is =
      ap (λ n. erasing a.card (is_trim a.card n) (first_of job) (last_of job)) given
      ∙ erasing_is job a at.knows part room

  -- no other sector may hold more
  erased_within : Within (holds b.card) (maybe_erased (erased_by a.card (Some (38, argument))) (holds a.card))
      → Within (holds b.card) (maybe_changed (change_of job) (holds a.card))
  erased_within within =
      subst (λ change. Within (holds b.card) (maybe_changed change (holds a.card))) change_is
      (subst (λ held. Within (holds b.card) (maybe_erased (erased_by_held a.card argument held) (holds a.card))) exact.erase
      within)

  pub erase_fails : (result : Result (Option Phase) Cause) → IsErr result → Erases kind argument false a b
      → Turned job faults a result b
  erase_fails (Ok next) not work = cc
  erase_fails (Err cause) not work = record {
    stays = work.stays;
    within = erased_within work.sectors;
    left = has_failed job.session (Shown Erase) (Exact job Erase) faults a b at work
        (record { session = job.session; cause = cause; must_reset = false }) refl
        (λ held same. cc (work.fine same (first_of job) (last_of job) (record {
          holds = can_hold job kind _ a.card named at.knows.info.kind held;
          range = is_range;
        })));
  }

  programs : Exact job Erase a.card → Exact job (End (Wait 0)) (erases (change_of job) a.card)
  programs held = (
    record {
      quiet = quiet_by refl refl refl refl refl refl refl;
      start = refl;
      values = refl;
    },
    record { busy = refl; polled = λ few. refl },
  )

  pub erase_goes_on : Erases kind argument true a b → Turned job faults a (Ok (Some (End (Wait 0)))) b
  erase_goes_on work = record {
    stays = work.stays;
    within = erased_within work.sectors;
    left = goes_there_by job.session (Shown Erase) (Exact job Erase) faults a b at work (Shown (End (Wait 0))) (Exact job (End (Wait 0))) tt
        (λ held. subst (Exact job (End (Wait 0)))
        (sym (work.own (first_of job) (last_of job) refl (still_holding _ a.card held) held.erase is_range ∙ ap (λ change. erases change a.card) change_is))
        (programs held));
  }

-- What ends the run.

module _ (job : Job) (faults : ℕ) (ending : Ending) (a b : BusView) (programs : ProgramLaw)
    (at : IsIn job (End ending) faults a) where
  ended : (result : Result (Option Ending) Cause) → EndingDid job.session ending a result b
      → EndingTurned job.session (change_of job) (IsEnding (change_of job)) faults a result b
  ended result did =
      ending_turned job.session (change_of job) (IsEnding (change_of job)) (change_ends job.session (change_of job) refl)
      job.selected faults a b programs ending at result did

  pub end_fails : (cause : Cause) (result : Result (Option Phase) Cause) → IsErr result
      → EndingDid job.session ending a (Err cause) b → Turned job faults a result b
  end_fails cause (Ok next) not did = cc
  end_fails cause (Err other) not did = ended (Err other) (for_any_cause job.session ending a b cause other did)

  pub end_goes_on : (next : Option Ending) (phase : Option Phase)
      → MatchOption next (phase ≡ None) (λ ending. IsSomeAnd phase (λ known. known ≡ End ending))
      → EndingDid job.session ending a (Ok next) b → Turned job faults a (Ok phase) b
  end_goes_on (Some next) (Some phase) is did = rw is (ended (Ok (Some next)) did)
  end_goes_on (Some next) None is did = absurd is
  end_goes_on None phase is did =
      let t = ended (Ok None) did in
      rw is record { stays = t.stays; within = t.within; left = (t.left.0, t.left.1.1) }

-- the phase by its name
pub in_phase : (job : Job) (faults : ℕ) (view : BusView) {phase other : Phase} → phase ≡ other
    → IsIn job phase faults view → IsIn job other faults view
in_phase job faults view is at = subst (λ phase. IsIn job phase faults view) is at
