-- CMD12 after the last block of a run.
use Rattle.std.proofs.Common.{◌+◌, ◌-◌, ◌∙◌, ◌≡◌, ◌⊎◌, Bool, List, ap, arith, false, inl, inr, length, refl, subst, sym, true, ℕ}
use Rattle.std.specs.Prelude.{IsErr, None, Ok, Option, Result, Some, if◌then◌else◌}
use Rattle.mmc_switch.proofs.UnderWayLemmas.{quiet_by}
use Rattle.mmc_frame.specs.declared.card_state.State.{State}
use Rattle.mmc_frame.specs.declared.card_state.State.TheVariants.{Data, Prg, Rcv}
use Rattle.mmc_frame.specs.declared.kind.Kind.{Kind}
use Rattle.mmc_card.proofs.Passing.{EndsNever, RunsOn, runs_on, still, still_in}
use Rattle.mmc_card.specs.Faults.{Passes}
use Rattle.mmc_card.proofs.Conditions.{by_cond}
use Rattle.mmc_card.specs.BusView.{BusView}
use Rattle.mmc_card.specs.Card.{Card, NoAddress, is_in, is_selected}
use Rattle.mmc_card.specs.CardAnswer.{busied, shown}
use Rattle.mmc_card.specs.RowsTransfer.{ended, stopped}
use Rattle.mmc_card.specs.Sectors.{Sector}
use Rattle.mmc_bus.specs.Work.{Narrows, Worked}
use Rattle.mmc_bus.specs.declared.cause.Cause.{Cause}
use Rattle.mmc_switch.specs.UnderWay.{room_of}
use Rattle.mmc_transfer.proofs.StepLemmas.{all_written, each_way, either_way, fails, for_both, goes_there}
use Rattle.mmc_card.specs.Laws.{AfterAnyTime}
use Rattle.mmc_transfer.specs.Commands.{CanStop, EndsIt, may_run_out}
use Rattle.mmc_transfer.specs.Running.{AreStored, Exact, HasStopped, IsIn, IsSending, IsTaking, IsThere, Turned, change_of, is_counted}
use Rattle.mmc_switch.specs.Ending.{IsEnding}
use Rattle.mmc_switch.specs.declared.ending.Ending.TheVariants.{Wait}
use Rattle.mmc_transfer.specs.declared.way.Way.TheVariants.{Write}
use Rattle.mmc_transfer.specs.declared.job.Job.{Job}
use Rattle.mmc_transfer.specs.declared.phase.Phase.{Phase}
use Rattle.mmc_transfer.specs.declared.phase.Phase.TheVariants.{Other}
use Rattle.mmc_transfer.specs.declared.phase.Step.TheVariants.{End, Stop}

-- what the command that ends a transfer does
abbrev pub Stops : Kind → Bool → Bool → BusView → BusView → Type 0
Stops kind at_end ok =
    Worked Narrows
    (λ old new. ok ≡ true → (is_selected old.card.state ≡ true)
    × (old.card.erase ≡ NoAddress → EndsIt old new) × (at_end ≡ false → old.card.errors ≡ 0))
    (λ old new. AfterAnyTime old (CanStop kind at_end) → ok ≡ true)

-- A card that sent blocks, and one that accepted them.

stopped_in : (state : State) (stays_busy : Bool) (card : Card) → card.state ≡ state
    → stopped stays_busy card
    ≡ (if is_in state Rcv then record (busied (shown card)) { state = Prg; is_switching = false }
    else if stays_busy then busied (ended card) else ended card)
stopped_in state stays_busy card is =
    ap (λ now. if is_in now Rcv then record (busied (shown card)) { state = Prg; is_switching = false }
    else if stays_busy then busied (ended card) else ended card) is

-- however far it has come by then, and whether it says so
stopped_reading : (job : Job) (blocks : List Sector) (stays_busy : Bool) (card : Card) (at errors : ℕ)
    → IsSending job.count job blocks card
    → HasStopped (Wait 0) (stopped stays_busy (record card { next = at; errors = errors }))
    × AreStored job.count job blocks (stopped stays_busy (record card { next = at; errors = errors }))
stopped_reading job blocks stays_busy card at errors sending =
    subst (λ next. HasStopped (Wait 0) next × AreStored job.count job blocks next)
    (sym (stopped_in Data stays_busy (record card { next = at; errors = errors }) sending.quiet.state))
    (by_cond (λ next. HasStopped (Wait 0) next × AreStored job.count job blocks next) stays_busy
    (λ busy. (
      (
        quiet_by refl refl refl refl refl refl sending.quiet.erase,
        λ yes. record { busy = refl; polled = λ few. refl },
        λ few. refl,
      ),
      sending.read,
    ))
    (λ rests. (
      (
        quiet_by refl refl refl refl refl refl sending.quiet.erase,
        λ yes. absurd (cc (sending.rests, yes)),
        λ few. refl,
      ),
      sending.read,
    )))

stopped_writing : (job : Job) (blocks : List Sector) (stays_busy : Bool) (card : Card) → length blocks ≡ job.count
    → job.way ≡ Write → IsTaking job.count job blocks card
    → IsEnding (change_of job blocks) (Wait 0) (stopped stays_busy card)
stopped_writing job blocks stays_busy card all writes taking =
    subst (IsEnding (change_of job blocks) (Wait 0)) (sym (stopped_in Rcv stays_busy card taking.quiet.state)) (
      record {
        quiet = quiet_by refl refl refl refl refl refl taking.quiet.erase;
        start = taking.start;
        values = taking.values ∙ all_written job blocks all writes;
      },
      record { busy = refl; polled = λ few. refl },
    )

-- an error that a read may show is that of the partition's end
errors_by : (counted : Bool) (errors room all end : ℕ) → (errors ≡ 0) ⊎ ((counted ≡ false) × (all ≡ room) × (errors ≡ end))
    → (errors ≡ 0) ⊎ (errors ≡ end)
errors_by counted errors room all end (inl none) = inl none
errors_by counted errors room all end (inr last) = inr last.2

-- and shows where it may
shows_by : (at_end : Bool) (errors end : ℕ) → at_end ≡ true → (errors ≡ 0) ⊎ (errors ≡ end)
    → (errors ≡ 0) ⊎ ((at_end ≡ true) × (errors ≡ end))
shows_by at_end errors end may (inl none) = inl none
shows_by at_end errors end may (inr one) = inr (may, one)

-- a card that has sent all that was asked for ends by itself no more
ends_never : (counted : Bool) (count : ℕ) → EndsNever (if counted then Some (count - count) else None)
ends_never true count =
    let none : 0 ≡ count - count = omega arith in
    subst (λ n. EndsNever (Some n)) none (record { not_last = refl; as_many = refl })
ends_never false count = record { not_last = refl; as_many = refl }

module _ (job : Job) (blocks : List Sector) (all : length blocks ≡ job.count) (faults : ℕ) (kind : Kind) (at_end : Bool)
    (a b : BusView) (of_kind : kind ≡ job.session.info.kind)
    (ends : at_end ≡ may_run_out job.way)
    (at : IsIn job blocks (Other Stop) faults a) where
  -- a read goes on until then
  sends_on : IsSending job.count job blocks a.card → (met : BusView) → Passes a met → RunsOn a.card met.card
  sends_on sending met passes =
      runs_on a met sending.quiet.state sending.rests sending.source
      (subst EndsNever (sym sending.left) (ends_never (is_counted job) job.count))
      (errors_by _ a.card.errors (room_of job.session) (job.start + job.count) _ sending.errors) passes

  -- and a write waits for it
  waits_still : IsTaking job.count job blocks a.card → a.card.is_busy ≡ false → (met : BusView) → Passes a met → met ≡ a
  waits_still taking rests met passes = still a met (still_in a.card Rcv taking.quiet.state refl refl rests) passes

  -- the exact card can stop
  can_stop : Exact job blocks (Other Stop) a.card → AfterAnyTime a (CanStop kind at_end)
  can_stop exact met passes =
      either_way job.way
      (λ reads sending.
      let on = sends_on sending met passes in
      subst (CanStop kind at_end) (sym on.2) (record {
        is_kind = sym at.under_way.knows.info.kind ∙ sym of_kind;
        moving = inl sending.quiet.state;
        no_error = record {
          command_errors = sending.quiet.command_errors;
          errors = refl;
          switch_error = λ judged mmc. sending.quiet.switch_error;
        };
        errors = shows_by at_end on.1 _ (ends ∙ ap may_run_out reads) on.3;
      }))
      (λ writes taking.
      subst (λ (v : BusView). CanStop kind at_end v.card) (sym (waits_still taking.0 taking.1 met passes)) (record {
        is_kind = sym at.under_way.knows.info.kind ∙ sym of_kind;
        moving = inr taking.0.quiet.state;
        no_error = record {
          command_errors = taking.0.quiet.command_errors;
          errors = refl;
          switch_error = λ judged mmc. taking.0.quiet.switch_error;
        };
        errors = inl taking.0.quiet.errors;
      })) exact

  pub end_fails : (result : Result (Option Phase) Cause) → IsErr result → Stops kind at_end false a b
      → Turned job blocks faults a result b
  end_fails result err work =
      fails job blocks (Other Stop) faults a b at work result err
      (λ exact same. cc (work.fine same (can_stop exact)))

  -- no address is held
  none_held : Exact job blocks (Other Stop) a.card → a.card.erase ≡ NoAddress
  none_held exact =
      either_way job.way (λ reads sending. sending.quiet.erase) (λ writes taking. taking.0.quiet.erase) exact

  -- a card that ended a transfer was selected, and after a write it held no error
  is_there : is_selected a.card.state ≡ true → (at_end ≡ false → a.card.errors ≡ 0) → IsThere job.way a.card
  is_there selected none =
      each_way job.way (λ reads unit. selected)
      (λ writes unit. (
        selected,
        none (ends ∙ ap may_run_out writes),
      )) (for_both {X = Unit {0}} job.way tt)

  pub end_goes_on : Stops kind at_end true a b → Turned job blocks faults a (Ok (Some (Other (End (Wait 0))))) b
  end_goes_on work =
      let own = work.own refl in
      goes_there job blocks (Other Stop) faults a b at work (Other (End (Wait 0))) (is_there own.0 own.2)
      (λ exact.
      let stop = own.1 (none_held exact) in
      let busy = stop.2.0 in
      subst (Exact job blocks (Other (End (Wait 0)))) (sym stop.2.1)
      (each_way job.way
      (λ reads sending.
      let on = sends_on sending stop.0 stop.1 in
      subst (λ (c : Card). HasStopped (Wait 0) (stopped busy c) × AreStored job.count job blocks (stopped busy c)) (sym on.2)
      (stopped_reading job blocks busy a.card on.0 on.1 sending))
      (λ writes taking.
      subst (λ (v : BusView). IsEnding (change_of job blocks) (Wait 0) (stopped busy v.card))
      (sym (waits_still taking.0 taking.1 stop.0 stop.1))
      (stopped_writing job blocks busy a.card all writes taking.0)) exact)) tt
