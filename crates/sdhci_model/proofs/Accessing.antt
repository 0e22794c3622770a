-- Accesses to single registers.
use Rattle.std.proofs.Common.{◌∙◌, ◌≡◌, Bool, List, None, Option, Some, ap, arith, false, refl, subst, sym, true, ℕ}
use Rattle.std.specs.Prelude.{◌&&◌, if◌then◌else◌, is_none, is_some, length, not}
use Rattle.std.proofs.lemmas.Bool.{false≢true}
use Rattle.mmc_host.specs.declared.data.Data.{Data}
use Rattle.mmc_card.specs.declared.exchange.DataIn.TheVariants as Came
use Rattle.mmc_sdhci.specs.Accesses.{Does8, DropsBy, Shows, is_at_rest}
use Rattle.mmc_sdhci.specs.CommandLooks.{Dropped}
use Rattle.mmc_sdhci.specs.Controller.{ControllerView, Settled, is_still, seen}
use Rattle.mmc_sdhci.specs.DataLooks.{DataDropped, cleared, is_empty}
use Rattle.mmc_sdhci.specs.DmaLooks.{SomeMoved}
use Rattle.mmc_story.specs.Entry.{Entry}
use Rattle.mmc_story.specs.Story.{Outcome, Story}
use Rattle.sdhci_model.specs.Moves.{ChangesTo, PopsFrom}
use Rattle.sdhci_model.specs.Shown.{controller, running_in, shown, unjudged_in}
use Rattle.sdhci_model.specs.declared.commands.Run.{Run}
use Rattle.sdhci_model.specs.declared.state.State.{State}
use Rattle.sdhci_model.proofs.Lengths.{none_left}

pub resets_command : (story : Story) (past : List Entry) (s s' : State) (value : ℕ) → value ≡ 2 → s.running ≡ None
    → ChangesTo s (λ view. record view { resetting = Some 0; is_stuck = false }) s'
    → Settled (controller story past s) (Does8 (controller story past s) 0x2f value (controller story past s')) (controller story past s')
resets_command story past s s' value two none changes kept =
    let old = controller story past s in
    let e = changes (story.outcome past) in (
      sym (ap (λ (v : ControllerView). v.is_kept) e) ∙ kept,
      record {
        control = λ is. absurd (omega (arith, is));
        power = λ is. absurd (omega (arith, is));
        restart = λ is one. absurd (omega (arith, two, one));
        command = λ is yes. (
          record old { resetting = None; is_stuck = false },
          subst (λ (o : Option Run). Dropped old (running_in o) (record old { resetting = None; is_stuck = false })) (sym none) refl,
          e,
        );
        line = λ is four. absurd (omega (arith, two, four));
      },
    )

-- no data is dropped
drops_none : (view : ControllerView) → view.transfer ≡ Data.Nothing → (moves : Bool) → DropsBy moves view (cleared view)
drops_none view none true = (
  subst (λ (t : Data). SomeMoved t view.dma.lent Came.Nothing (seen view) (seen (cleared view))) (sym none) refl,
  refl,
)
drops_none view none false = subst (λ (t : Data). DataDropped view t (cleared view)) (sym none) refl

pub resets_data : (story : Story) (past : List Entry) (s s' : State) (value : ℕ) → value ≡ 4 → s.transfer ≡ Data.Nothing
    → ChangesTo s (λ view. record (cleared view) { resetting = Some 0 }) s'
    → Settled (controller story past s) (Does8 (controller story past s) 0x2f value (controller story past s')) (controller story past s')
resets_data story past s s' value four none changes kept =
    let old = controller story past s in
    let e = changes (story.outcome past) in (
      sym (ap (λ (v : ControllerView). v.is_kept) e) ∙ kept,
      record {
        control = λ is. absurd (omega (arith, is));
        power = λ is. absurd (omega (arith, is));
        restart = λ is one. absurd (omega (arith, four, one));
        command = λ is two. absurd (omega (arith, four, two));
        line = λ is yes. (
          cleared old,
          drops_none old none s.is_moving,
          e,
        );
      },
    )

pub shows_word : (story : Story) (past : List Entry) (s s' : State) (offset value : ℕ) → offset ≡ 0x20 → s'.is_sound ≡ s.is_sound
    → PopsFrom s value s'
    → Settled (controller story past s) (Shows (controller story past s) offset value (controller story past s')) (controller story past s')
shows_word story past s s' offset value port sound pops kept = (
  ap (λ b. if b then (story.outcome past).conformed else false) (sym sound) ∙ kept,
  record {
    interrupts = λ is. absurd (omega (arith, port, is));
    present = λ is. absurd (omega (arith, port, is));
    port = λ is. pops (story.outcome past);
    shown = λ is. absurd (omega (arith, port, is));
    capabilities = λ is. absurd (omega (arith, port, is));
    response = λ i small is. absurd (omega (arith, port, small, is));
  },
)

none_in : (o : Option Run) → is_some o ≡ false → is_none (running_in o) ≡ true
none_in None is = refl
none_in (Some run) is = absurd (false≢true (sym is))

and_true : (b : Bool) → (b && true) ≡ b
and_true true = refl
and_true false = refl

pub rest_of : (outcome : Outcome) (s : State) → is_some s.running ≡ false → s.is_stuck ≡ false → s.is_stale ≡ false
    → s.is_unjudged ≡ false → length s.outgoing.items ≡ 0 → s.is_moving ≡ false
    → is_at_rest (shown outcome s) ≡ is_still (shown outcome s)
rest_of outcome s runs stuck stale unjudged empty moves =
    let still = is_still (shown outcome s) && not s.is_moving in
    ap (λ (b : Bool). b && (not s.is_stuck && (not s.is_stale && (is_none (unjudged_in s.is_unjudged s.block.items) && (is_empty s.outgoing.items && still))))) (none_in s.running runs)
    ∙ (ap (λ (b : Bool). not b && (not s.is_stale && (is_none (unjudged_in s.is_unjudged s.block.items) && (is_empty s.outgoing.items && still)))) stuck
    ∙ (ap (λ (b : Bool). not b && (is_none (unjudged_in s.is_unjudged s.block.items) && (is_empty s.outgoing.items && still))) stale
    ∙ (ap (λ (b : Bool). is_none (unjudged_in b s.block.items) && (is_empty s.outgoing.items && still)) unjudged
    ∙ (ap (λ (b : Bool). b && still) (sym (none_left s.outgoing.items empty))
    ∙ (ap (λ (b : Bool). is_still (shown outcome s) && not b) moves ∙ and_true (is_still (shown outcome s)))))))
