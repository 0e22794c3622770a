-- Polls between the blocks of a write.
use Rattle.std.proofs.Common.{◌+◌, ◌∙◌, ◌≡◌, Bool, List, ap, false, refl, subst, sym, true, ℕ}
use Rattle.std.specs.Prelude.{IsErr, Ok, Option, Result, Some}
use Rattle.mmc_switch.proofs.UnderWayLemmas.{quiet_by}
use Rattle.mmc_frame.specs.declared.card_state.State.TheVariants.{Rcv}
use Rattle.mmc_card.specs.Blocks.{rested, waited}
use Rattle.mmc_card.specs.BusView.{BusView}
use Rattle.mmc_card.specs.Card.{Card, is_selected}
use Rattle.mmc_card.specs.Sectors.{Sector}
use Rattle.mmc_bus.specs.Learned.{PollFacts}
use Rattle.mmc_bus.specs.declared.cause.Cause.{Cause}
use Rattle.mmc_bus.specs.declared.wait.TheConstants.{MAX_POLLS}
use Rattle.mmc_switch.proofs.EndingLemmas.{busy_still, none_before, not_so_often, rested_in}
use Rattle.mmc_switch.specs.Ending.{IsSound, Polls}
use Rattle.mmc_switch.specs.UnderWay.{IsBusyAfter}
use Rattle.mmc_transfer.proofs.StepLemmas.{each_way, either_way, fails, goes_on, of_write}
use Rattle.mmc_transfer.specs.Running.{Exact, GoesOnAt, IsIn, IsTaking, IsThere, Turned, by_way}
use Rattle.mmc_transfer.specs.declared.job.Job.{Job}
use Rattle.mmc_transfer.specs.declared.phase.Phase.{Phase}
use Rattle.mmc_transfer.specs.declared.phase.Phase.TheVariants.{Block, Other}
use Rattle.mmc_transfer.specs.declared.phase.Step.TheVariants.{Pause, Stop}
use Rattle.mmc_transfer.specs.declared.way.Way.TheVariants.{Write}

-- a card that says yes stays as it is
taking_still : (done polls : ℕ) (job : Job) (blocks : List Sector) (card : Card)
    → IsTaking done job blocks card × IsBusyAfter polls card
    → IsTaking done job blocks (waited card) × IsBusyAfter (polls + 1) (waited card)
taking_still done polls job blocks card exact = (
  record {
    quiet = quiet_by exact.0.quiet.state exact.0.quiet.app exact.0.quiet.command_errors exact.0.quiet.errors exact.0.quiet.switch_error exact.0.quiet.count exact.0.quiet.erase;
    start = exact.0.start;
    values = exact.0.values;
    left = exact.0.left;
  },
  busy_still polls card exact.1,
)

-- a card that accepts blocks isn't busy after a no
rested_in_rcv : (done : ℕ) (job : Job) (blocks : List Sector) (card : Card) → IsTaking done job blocks card
    → IsTaking done job blocks (rested card) × ((rested card).is_busy ≡ false)
rested_in_rcv done job blocks card taking =
    subst (λ next. IsTaking done job blocks next × (next.is_busy ≡ false))
    (sym (rested_in Rcv card taking.quiet.state)) (
      record {
        quiet = quiet_by taking.quiet.state taking.quiet.app taking.quiet.command_errors taking.quiet.errors taking.quiet.switch_error taking.quiet.count taking.quiet.erase;
        start = taking.start;
        values = taking.values;
        left = taking.left;
      },
      refl,
    )

module _ (job : Job) (blocks : List Sector) (faults done polls : ℕ) (a b : BusView)
    (at : IsIn job blocks (Other (Pause done polls)) faults a) where
  -- yes
  pub pause_fails : (result : Result (Option Phase) Cause) → IsErr result → polls + 1 ≡ MAX_POLLS → Polls true a b
      → Turned job blocks faults a result b
  pause_fails result err last work =
      fails job blocks (Other (Pause done polls)) faults a b at work result err
      (λ exact same. either_way job.way (λ reads none. absurd none)
      (λ writes taking. not_so_often polls a b last work.own taking.1 same) exact)

  -- the next block is for the same sector, whatever was said
  goes_on_there : {said : Bool} → PollFacts a said b → by_way job.way (Unit {0}) (GoesOnAt (job.start + done) b.card)
  goes_on_there facts =
      each_way job.way (λ reads unit. tt)
      (λ writes place rcv. let same = facts.goes_on rcv in same.1 ∙ place same.0) at.placed

  pub pauses_still : (more : ℕ) → more ≡ polls + 1 → Polls true a b
      → Turned job blocks faults a (Ok (Some (Other (Pause done more)))) b
  pauses_still more is work =
      let says : b.card.errors ≡ 0 → b.card ≡ waited a.card = λ none. work.own.shown (λ no. cc no) none in
      let comes : b.card ≡ waited a.card → Exact job blocks (Other (Pause done polls)) a.card
      → Exact job blocks (Other (Pause done (polls + 1))) b.card =
      λ same exact. each_way job.way (λ reads none. none)
      (λ writes taking. subst (λ card. IsTaking done job blocks card × IsBusyAfter (polls + 1) card)
      (sym same) (taking_still done polls job blocks a.card taking)) exact in
      rw is (goes_on job blocks (Other (Pause done polls)) faults a b at work (Other (Pause done (polls + 1)))
      (each_way job.way (λ reads unit. tt) (λ writes none. sym (ap (λ (c : Card). c.errors) (says none)) ∙ none))
      (λ exact shown. comes (says (either_way job.way (λ reads none. absurd none)
      (λ writes taking. of_write job.way (Unit {0}) (b.card.errors ≡ 0) writes shown) exact)) exact)
      (λ exact same. comes (work.own.fine same) exact) (goes_on_there work.own))

  -- no
  accepts_by : b.card ≡ rested a.card → IsTaking done job blocks a.card
      → IsTaking done job blocks b.card × (b.card.is_busy ≡ false)
  accepts_by is taking =
      subst (λ card. IsTaking done job blocks card × (card.is_busy ≡ false)) (sym is)
      (rested_in_rcv done job blocks a.card taking)

  -- a card that shows itself sound had no error to show before
  sound_before : PollFacts a false b → IsThere job.way b.card → by_way job.way (Unit {0}) (a.card.errors ≡ 0)
  sound_before facts there =
      each_way job.way (λ reads selected. tt)
      (λ writes sound. none_before a.card b.card (facts.shown (λ no. sound.0) sound.1) sound.1) there

  still_accepts : PollFacts a false b → job.way ≡ Write → IsThere job.way b.card → IsTaking done job blocks a.card
      → IsTaking done job blocks b.card × (b.card.is_busy ≡ false)
  still_accepts facts writes there taking =
      let sound : IsSound b.card = of_write job.way (is_selected b.card.state ≡ true) (IsSound b.card) writes there in
      accepts_by (facts.shown (λ no. sound.0) sound.1) taking

  pub pause_ends : Polls false a b → Turned job blocks faults a (Ok (Some (Block done))) b
  pause_ends work =
      goes_on job blocks (Other (Pause done polls)) faults a b at work (Block done) (sound_before work.own)
      (λ exact there. each_way job.way (λ reads none. absurd none)
      (λ writes taking. still_accepts work.own writes there taking.0) exact)
      (λ exact same. each_way job.way (λ reads none. absurd none)
      (λ writes taking. accepts_by (work.own.fine same) taking.0) exact)
      (goes_on_there work.own)

  -- after the last block
  all_accepted : done ≡ job.count → IsTaking done job blocks b.card × (b.card.is_busy ≡ false)
      → IsTaking job.count job blocks b.card × (b.card.is_busy ≡ false)
  all_accepted last taking =
      subst (λ n. IsTaking n job blocks b.card × (b.card.is_busy ≡ false)) last taking

  pub pause_stops : done ≡ job.count → Polls false a b → Turned job blocks faults a (Ok (Some (Other Stop))) b
  pause_stops last work =
      goes_on job blocks (Other (Pause done polls)) faults a b at work (Other Stop) (sound_before work.own)
      (λ exact there. each_way job.way (λ reads none. absurd none)
      (λ writes taking. all_accepted last (still_accepts work.own writes there taking.0)) exact)
      (λ exact same. each_way job.way (λ reads none. absurd none)
      (λ writes taking. all_accepted last (accepts_by (work.own.fine same) taking.0)) exact) tt
