-- What is noted of a call is a step of the card that the registers show.
use Rattle.std.proofs.Common.{◌∙◌, ◌≡◌, ◌∷◌, Bool, List, None, ap, false, refl, subst, sym, true, ℕ}
use Rattle.std.specs.Prelude.{if◌then◌else◌}
use Rattle.std.proofs.lemmas.Bool.{false≢true}
use Rattle.mmc_card.specs.BusView.{BusView}
use Rattle.mmc_bus.specs.Exchanges.{Kept}
use Rattle.mmc_sdhci.specs.Controller.{ControllerView, limits_in, lines_in, seen}
use Rattle.mmc_sdhci.specs.DmaLooks.{StepsAlone}
use Rattle.mmc_story.specs.Entry.{Entry, Event}
use Rattle.mmc_story.specs.Story.{Allows, IsStep, Outcome, Story, bus_at}
use Rattle.sdhci_model.specs.Shown.{controller, entry_for, shown}
use Rattle.sdhci_model.specs.declared.state.State.{State}

pub if_kept : (sound conformed : Bool) → (if sound then conformed else false) ≡ true → (sound ≡ true) × (conformed ≡ true)
if_kept true conformed is = (refl, is)
if_kept false conformed is = absurd (false≢true is)

abbrev bus_with : Outcome → ℕ → ℕ → Bool → BusView
bus_with outcome control capabilities sound =
    record {
      card = outcome.card;
      lines = lines_in control;
      limits = limits_in capabilities;
      last = None;
      exchanges = 0;
      faults = outcome.faults;
      may_fall = None;
      is_kept = if sound then outcome.conformed else false;
    }

bus_seen : (outcome : Outcome) (s : State) (event : Event) → s.is_sound ≡ true → bus_at outcome (entry_for s event) ≡ seen (shown outcome s)
bus_seen outcome s event is = ap (λ (b : Bool). bus_with outcome s.control s.capabilities b) (sym is)

bus_after : (outcome : Outcome) (s after : State) (event : Event) → after.is_sound ≡ true → after.control ≡ s.control
    → after.capabilities ≡ s.capabilities → bus_at outcome (entry_for s event) ≡ seen (shown outcome after)
bus_after outcome s after event is control capabilities =
    ap (λ (b : Bool). bus_with outcome s.control s.capabilities b) (sym is)
    ∙ (ap (λ n. bus_with outcome n s.capabilities after.is_sound) (sym control)
    ∙ ap (λ n. bus_with outcome after.control n after.is_sound) (sym capabilities))

pub told : (story : Story) (past : List Entry) (s after : State) (event : Event) → s.is_sound ≡ true → after.is_sound ≡ true
    → after.control ≡ s.control → after.capabilities ≡ s.capabilities
    → (story.outcome (entry_for s event ∷ past)).conformed ≡ true
    → Kept (seen (controller story past s))
    (Allows (seen (controller story past s)) event (seen (controller story (entry_for s event ∷ past) after)))
    (seen (controller story (entry_for s event ∷ past) after))
told story past s after event sound still control capabilities conformed =
    let step : IsStep (story.outcome past) (entry_for s event) (story.outcome (entry_for s event ∷ past)) =
    story.explains (entry_for s event) past conformed in
    subst (λ (b : BusView). Kept (seen (controller story past s)) (Allows (seen (controller story past s)) event b) b)
    (bus_after (story.outcome (entry_for s event ∷ past)) s after event still control capabilities)
    (subst (λ (b : BusView). Kept b (Allows b event (bus_at (story.outcome (entry_for s event ∷ past)) (entry_for s event)))
    (bus_at (story.outcome (entry_for s event ∷ past)) (entry_for s event)))
    (bus_seen (story.outcome past) s event sound) step)

pub same_kept : (view : ControllerView) (kept : Bool) → view.is_kept ≡ kept → view ≡ record view { is_kept = kept }
same_kept view kept is = ap (λ (b : Bool). record view { is_kept = b }) is

-- A call that is noted is one step, beside which nothing changes.
pub alone : (story : Story) (past : List Entry) (s : State) (event : Event)
    → (controller story (entry_for s event ∷ past) s).is_kept ≡ true
    → StepsAlone (seen (controller story past s))
    (Allows (seen (controller story past s)) event (seen (controller story (entry_for s event ∷ past) s)))
    (seen (controller story (entry_for s event ∷ past) s))
alone story past s event kept =
    let k = if_kept s.is_sound (story.outcome (entry_for s event ∷ past)).conformed kept in
    record { same = refl; kept = told story past s s event k.0 k.0 refl refl k.1 }
