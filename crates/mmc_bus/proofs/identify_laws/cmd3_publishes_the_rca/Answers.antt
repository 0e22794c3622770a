use Rattle.std.proofs.Common.{◌+◌, ◌<◌, ◌∙◌, ◌≡◌, Bool, ap, arith, false, refl, subst, sym, true, ℕ}
use Rattle.std.specs.Prelude.{◌%◌, if◌then◌else◌}
use Rattle.mmc_frame.specs.declared.card_state.State.TheVariants.{Ident, Stby}
use Rattle.mmc_bus.proofs.FoundLemmas.{whatever}
use Rattle.mmc_bus.proofs.Readers.{with_errors}
use Rattle.mmc_bus.proofs.CommandLemmas.{checked_told, comes, does_either, either_in, low_either, two_tests}
use Rattle.mmc_bus.proofs.identify_laws.cmd3_publishes_the_rca.Goals as goal
use Rattle.mmc_card.specs.CardAnswer.{CardAnswer, Checked, Choice, published, r6_argument, shown}
use Rattle.mmc_bus.specs.Heard.{response_of}
use Rattle.mmc_card.specs.Made.{Made}
use Rattle.mmc_card.specs.declared.command.Command.TheVariants.{SendRelativeAddr}
use Rattle.mmc_card.specs.Card.{Card, is_in}
use Rattle.mmc_card.specs.Rows.{row}
use Rattle.mmc_card.proofs.JudgedLemmas.{same_rca}
use Rattle.mmc_card.specs.Judged.{Agree, IsSaid, judged}
use Rattle.mmc_bus.specs.CommandLaws.{IsHeard}
use Rattle.mmc_frame.specs.Field.{field}
use Rattle.mmc_frame.specs.declared.kind.Kind.{Kind}
use Rattle.mmc_frame.specs.declared.kind.Kind.TheVariants.{Sd}

some_rca : (choice : Choice) (made : Made) → made.is_nameless ≡ false → published choice made ≡ 0 → ⊥
some_rca choice made named zero =
    let rest = choice.rca in
    let is : published choice made ≡ 1 + rest % 65535 = rw named refl in
    omega (arith, is, zero)

published_below : (zero : Bool) (rca : ℕ) → (if zero then 0 else 1 + rca % 65535) < 65536
published_below true rca = omega arith
published_below false rca = omega arith

-- an R6 tells the RCA
publishes : (kind : Kind) (rca : ℕ) (card : Card) (said : CardAnswer) → kind ≡ Sd → rca < 65536
    → IsSaid kind (Checked 3 (r6_argument rca card)) said → IsHeard (λ told. field 31 16 told ≡ rca) (response_of 3 said)
publishes kind rca card said sd below is =
    let t = checked_told kind 3 (r6_argument rca card) said is in
    let bits : judged kind 3 ≡ 0xffff0000 = rw sd refl in
    let same = same_rca t.0 (r6_argument rca card) (subst (λ b. Agree b t.0 (r6_argument rca card)) bits t.2) in
    (t.0, t.1, omega (arith, same, below))

pub returns : goal.returns
returns c = record {
  does = λ old new argument heard facts k kind.
      does_either {N = ℕ} (response_of 3) Ident Stby (λ choice. published choice old.card.made) (λ (card : Card). card.rca)
      (λ rca card told. field 31 16 told ≡ rca) (λ rca. record (shown old.card) { state = Stby; rca = rca })
      (λ choice card. Checked 3 (r6_argument (published choice old.card.made) card)) SendRelativeAddr old 3 argument heard new
      (whatever (response_of 3) old 3 argument heard new facts (rw kind refl)) (rw kind refl)
      refl refl (λ left errors choice keeps there. ap (λ (c : Card). row choice SendRelativeAddr c 3 argument)
      (low_either choice SendRelativeAddr (with_errors left errors old.card) Ident Stby k.held there refl refl))
      (λ left errors choice said is. publishes old.card.made.kind (published choice old.card.made) (with_errors left errors old.card) said kind
      (published_below old.card.made.is_nameless choice.rca) is)
      (λ choice. refl);
  named = λ old new argument heard facts k kind named same there zero.
      let f = facts.fine same in
      let obeys = f.obeys (rw kind refl)
      (rw kind (either_in old.card.state Ident (is_in old.card.state Stby) (two_tests old.card.state Ident Stby there))) in
      let d = comes f.choice SendRelativeAddr old.card 3 argument _ (rw kind refl)
      (ap (λ (c : Card). row f.choice SendRelativeAddr c 3 argument)
      (low_either f.choice SendRelativeAddr old.card Ident Stby k.held there refl refl)) in
      some_rca f.choice old.card.made named
      (sym (ap (λ (card : Card). card.rca) (obeys.0 ∙ ap (λ (x : Card × CardAnswer). x.0) d)) ∙ zero);
}
