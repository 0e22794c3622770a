-- What a wire carries, told by command and answer.
use Rattle.std.proofs.Common.{◌∙◌, ◌≡◌, List, Option, Some, refl, subst, sym, ℕ}
use Rattle.mmc_frame.specs.Frame.{command_in}
use Rattle.mmc_card.specs.BusView.{BusView}
use Rattle.mmc_card.specs.CardAnswer.{CardAnswer, Silent, reset}
use Rattle.std.specs.Prelude.{if◌then◌else◌}
use Rattle.mmc_card.specs.Faults.{IsRefused, MeetsCommand, Spells, at_once, brownout, fail_switch, faithful}
use Rattle.mmc_card.specs.Faults.{find_error, flip_command, lose_command, lose_reply}
use Rattle.mmc_card.specs.Faults.{outlive, show_errors, slow_inquiry, slow_status}
use Rattle.mmc_card.specs.Judged.{IsSaid}
use Rattle.mmc_card.specs.Card.{Card}
use Rattle.mmc_card.specs.Rows.{answered}
use Rattle.mmc_card.specs.declared.exchange.Reply.{Reply}
use Rattle.mmc_host.specs.WireLaws.{FaithfulIsHeard, UnsoundIsLost}

pub faithful_is_heard : FaithfulIsHeard
faithful_is_heard choice old new index argument said fine count card is frame reply command spells = record {
  met = old;
  passes = at_once refl;
  meets = faithful choice fine count
      (subst (λ (s : Option (ℕ × ℕ)). new.card ≡ (answered choice old.card s).0) (sym command) card) (
        said,
        subst (λ (s : Option (ℕ × ℕ)). IsSaid old.card.made.kind (answered choice old.card s).1 said) (sym command) is,
        spells,
      );
}

-- silence is no answer that is taken
refused_in_silence : (sent : Option (ℕ × ℕ)) (answer : CardAnswer) (heard : Reply) → Spells Silent heard → IsRefused sent answer heard
refused_in_silence sent answer heard silent = subst (IsRefused sent answer) (sym silent) tt

-- what meets a card and can't be told is lost
unsound_meets : (old new : BusView) (index argument : ℕ) (frame : List ℕ) (reply : Reply)
    → command_in frame ≡ Some (index, argument) → MeetsCommand old frame reply new → ((answer : CardAnswer) → Spells answer reply → ⊥)
    → (other : List ℕ) (heard : Reply) → command_in other ≡ Some (index, argument) → Spells Silent heard
    → MeetsCommand old other heard new
unsound_meets old new index argument frame reply command (faithful choice fine count card spells) unsound =
    absurd (unsound spells.0 spells.2)
unsound_meets old new index argument frame reply command (lose_command count card silent) unsound =
    absurd (unsound Silent silent)
unsound_meets old new index argument frame reply command (flip_command keeps count card silent) unsound =
    absurd (unsound Silent silent)
unsound_meets old new index argument frame reply command (lose_reply choice fine count card answers refused) unsound =
    λ other heard same silent. let e = command ∙ sym same in
    lose_reply choice fine count
    (subst (λ (s : Option (ℕ × ℕ)). new.card ≡ (answered choice old.card s).0) e card)
    (subst (λ (s : Option (ℕ × ℕ)). (answered choice old.card s).1 ≡ Silent → ⊥) e answers)
    (refused_in_silence (command_in other) _ heard silent)
unsound_meets old new index argument frame reply command (slow_inquiry choice slow late inquiry count card spells) unsound =
    absurd (unsound spells.0 spells.2)
unsound_meets old new index argument frame reply command (slow_status choice behind late status count card spells) unsound =
    absurd (unsound spells.0 spells.2)
unsound_meets old new index argument frame reply command (fail_switch choice fails switch count card spells) unsound =
    absurd (unsound spells.0 spells.2)
unsound_meets old new index argument frame reply command (find_error choice finds late may count card spells) unsound =
    absurd (unsound spells.0 spells.2)
unsound_meets old new index argument frame reply command (outlive choice bits other are fine idle count card silent) unsound =
    absurd (unsound Silent silent)
unsound_meets old new index argument frame reply command (show_errors choice left found among errors some cleared fine count card spells) unsound =
    absurd (unsound spells.0 spells.2)
unsound_meets old new index argument frame reply command (brownout choice lands keeps after fine count card refused) unsound =
    λ other heard same silent.
    brownout choice lands keeps after fine count
    (subst (λ (s : Option (ℕ × ℕ)). new.card ≡ reset lands keeps (if after then (answered choice old.card s).0 else old.card))
    (command ∙ sym same) card)
    (refused_in_silence (command_in other) _ heard silent)

pub unsound_is_lost : UnsoundIsLost
unsound_is_lost old new index argument frame reply command step unsound =
    λ other heard same silent. record {
      met = step.met;
      passes = step.passes;
      meets = unsound_meets step.met new index argument frame reply command step.meets unsound other heard same silent;
    }
