use Rattle.std.proofs.Common.{◌∙◌, ◌≡◌, ap, arith, refl, subst, ℕ}
use Rattle.mmc_frame.specs.Field.{field}
use Rattle.mmc_frame.specs.declared.card_state.State.TheVariants.{Idle, Tran}
use Rattle.mmc_bus.proofs.FoundLemmas.{whatever}
use Rattle.mmc_bus.proofs.Readers.{with_errors}
use Rattle.mmc_bus.proofs.CommandLemmas.{checked_told, does_known, low_reached, unheard}
use Rattle.mmc_bus.proofs.identify_laws.cmd8_is_repeated_by_a_card_that_knows_it.Goals as goal
use Rattle.mmc_card.specs.CardAnswer.{CardAnswer, Checked}
use Rattle.mmc_card.specs.Card.{Card, is_in}
use Rattle.mmc_bus.specs.Heard.{response_of}
use Rattle.mmc_card.specs.Rows.{row}
use Rattle.mmc_card.specs.declared.command.Command.TheVariants.{SendExtCsd, SendIfCond}
use Rattle.mmc_frame.specs.declared.card_state.State.{State}
use Rattle.mmc_card.proofs.JudgedLemmas.{same_pattern}
use Rattle.mmc_card.specs.Judged.{Agree, IsSaid, judged}
use Rattle.mmc_bus.specs.CommandLaws.{IsHeard}
use Rattle.mmc_frame.specs.declared.kind.Kind.{Kind}
use Rattle.mmc_frame.specs.declared.kind.Kind.TheVariants.{Sd}

-- what an SD card tells again
repeated : (kind : Kind) (argument : ℕ) (said : CardAnswer) → kind ≡ Sd → IsSaid kind (Checked 8 (field 11 0 argument)) said
    → IsHeard (λ told. field 11 0 told ≡ field 11 0 argument) (response_of 8 said)
repeated kind argument said sd is =
    let t = checked_told kind 8 (field 11 0 argument) said is in
    let bits : judged kind 8 ≡ 0xfff = rw sd refl in
    let same = same_pattern t.0 (field 11 0 argument) (subst (λ b. Agree b t.0 (field 11 0 argument)) bits t.2) in
    (t.0, t.1, omega (arith, same))

pub returns : goal.returns
returns c = record {
  does = λ old new argument heard facts k kind voltage.
      does_known (response_of 8) Idle old.card.made.answers_cmd8 (λ card told. field 11 0 told ≡ field 11 0 argument) _
      (λ choice card. Checked 8 (field 11 0 argument)) SendIfCond old 8 argument heard new
      (whatever (response_of 8) old 8 argument heard new facts (rw kind refl)) (rw kind refl)
      refl refl (λ left errors choice keeps there. ap (λ (c : Card). row choice SendIfCond c 8 argument)
      (low_reached choice SendIfCond (with_errors left errors old.card) Idle k.held there refl)
      ∙ ap (λ n. row choice SendIfCond (with_errors left n old.card) 8 argument) (keeps refl) ∙ rw voltage refl) (λ left errors choice said is. repeated old.card.made.kind argument said kind is);
  unknown = λ old new argument heard facts k kind none idle same.
      unheard (response_of 8) SendIfCond old 8 argument heard new facts (rw kind refl) refl
      (rw (idle, none) refl) (λ choice. low_reached choice SendIfCond old.card Idle k.held idle refl) refl same;
  mmc = λ old new argument heard facts k kind idle same.
      unheard (response_of 8) SendExtCsd old 8 argument heard new facts (rw kind refl) refl
      (ap (λ (s : State). is_in s Tran) idle) (λ choice. low_reached choice SendExtCsd old.card Idle k.held idle refl) refl same;
}
