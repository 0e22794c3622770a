-- Blocks of 512 bytes, by CMD16.
use Rattle.std.proofs.Common.{◌∙◌, ◌≡◌, ap, false, refl, subst, sym, ℕ}
use Rattle.std.specs.Prelude.{IsOk, None, Ok, Result, Some}
use Rattle.mmc_frame.specs.Status.{error_bits, own_status}
use Rattle.mmc_frame.specs.declared.card_state.State.TheVariants.{Tran}
use Rattle.mmc_frame.specs.declared.kind.Kind.{Kind}
use Rattle.mmc_card.specs.BusView.{BusView}
use Rattle.mmc_card.specs.Card.{Card, IsCard, is_writing}
use Rattle.mmc_card.specs.CardAnswer.{shown}
use Rattle.mmc_card.specs.CardLaws.{HasNoError, Tells}
use Rattle.mmc_card.proofs.Passing.{still_in}
use Rattle.mmc_card.specs.Laws.{IsStill, erased_by}
use Rattle.mmc_card.specs.RowsErase.{forgotten}
use Rattle.mmc_bus.proofs.WorkLemmas.{moved_by}
use Rattle.mmc_bus.specs.CommandLaws.{Does, ShowsDropped, ShowsNoError}
use Rattle.mmc_bus.specs.Exchanges.{Kept}
use Rattle.mmc_bus.specs.Heard.{response_of}
use Rattle.mmc_bus.specs.Learned.{CommandMet}
use Rattle.mmc_bus.specs.Work.{Moved}
use Rattle.mmc_bus.specs.declared.cause.Cause.{Cause}
use Rattle.mmc_bus.specs.declared.host.Unheard.{Unheard}
use Rattle.mmc_identify.specs.Stages.{IsLeft}
use Rattle.mmc_switch.proofs.RestLemmas.{shows_itself}
use Rattle.mmc_switch.specs.Stages.{IsSet, first_lines, first_setting}
use Rattle.mmc_card.specs.Judged.{Shows}

-- the card after it, as widening finds it
set_after : (rca : ℕ) (old new : BusView) → IsCard old.card → IsLeft rca old.card → old.lines ≡ first_lines
    → new.lines ≡ old.lines → new.card ≡ record (shown (forgotten old.card)) { block_length = 512 }
    → IsSet false (first_setting rca) new
set_after rca old new card left first lines e =
    let is = left.selected in
    subst (λ (c : Card). IsSet false (first_setting rca) (record new { card = c })) (sym e) (record {
      rest = record {
        state = is.state;
        rests = left.rests;
        app = refl;
        command_errors = refl;
        errors = refl;
        switch_error = refl;
        count = refl;
        erase = refl;
        finished = card.finished (ap is_writing is.state);
        up_to_date = refl;
      };
      is_set = rw (is.is_rca, is.part, is.width, is.timing, is.erase_group_def) refl;
      on_lines = lines ∙ first;
    })

-- nothing goes on in it by itself
still_left : (rca : ℕ) (card : Card) → IsLeft rca card → IsStill card
still_left rca card left = still_in card Tran left.selected.state refl refl left.rests

pub length_set : (kind : Kind) (heard : Result ℕ Unheard) (r : Result Unit Cause) (old new : BusView)
    → erased_by old.card (Some (16, 512)) ≡ None → new.lines ≡ old.lines
    → Kept old (CommandMet (response_of 16) old 16 512 heard new) new
    → (IsStill old.card → Does ShowsNoError (old.card.state ≡ Tran) ShowsDropped
    (record (shown (forgotten old.card)) { block_length = 512 }) old heard new)
    → ((told : ℕ) → Shows old.card told → Tells kind old.card (error_bits kind told ≡ 0) (HasNoError kind old.card))
    → (IsOk r → (told : ℕ) × (heard ≡ Ok told) × (error_bits kind (own_status told) ≡ 0))
    → ((told : ℕ) → heard ≡ Ok told → error_bits kind told ≡ 0 → IsOk r)
    → Moved (λ old new. (rca : ℕ) → IsLeft rca old.card → old.lines ≡ first_lines → IsOk r
    → IsSet false (first_setting rca) new)
    (λ old new. (rca : ℕ) → old.card.made.kind ≡ kind → IsLeft rca old.card → IsOk r) old new
length_set kind heard r old new none lines k does clean ok all =
    moved_by old 16 512 heard new none k
    (λ rca left first good.
    let told = ok good in
    set_after rca old new k.was_card left first lines ((does (still_left rca old.card left)).sound told.0 told.1 (kind, told.2)).1)
    (λ same rca of left.
    let is = left.selected in
    let told = ((does (still_left rca old.card left)).fine same is.state).0 in
    all told.0 told.1
    ((clean told.0 (shows_itself old.card told.0 is.erase told.2)).1 of (record {
      command_errors = is.command_errors;
      errors = is.errors;
      switch_error = λ judged mmc. is.switch_error;
    })))
