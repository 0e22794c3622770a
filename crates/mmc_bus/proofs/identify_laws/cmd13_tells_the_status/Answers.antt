use Rattle.std.proofs.Common.{◌<◌, ◌∙◌, ◌≡◌, Bool, ap, cond, false, inl, inr, not, refl, subst, true, ℕ}
use Rattle.std.specs.Prelude.{◌&&◌, Result}
use Rattle.mmc_bus.specs.declared.host.Unheard.{Unheard}
use Rattle.mmc_bus.proofs.FoundLemmas.{whatever}
use Rattle.mmc_bus.proofs.Readers.{with_errors}
use Rattle.mmc_bus.proofs.CommandLemmas.{does_one, named, not_true, owns, same_heard}
use Rattle.mmc_card.proofs.JudgedLemmas.{Says}
use Rattle.mmc_frame.specs.declared.kind.Kind.{Kind}
use Rattle.mmc_card.proofs.Narrow.{both}
use Rattle.mmc_bus.proofs.identify_laws.cmd13_tells_the_status.Goals as goal
use Rattle.mmc_bus.specs.CommandLaws.{DoesOne, IsHeard, LagsBehind, Names, Responded, TellsStatus}
use Rattle.mmc_bus.specs.Heard.{response_of}
use Rattle.mmc_card.specs.BusView.{BusView}
use Rattle.mmc_card.specs.Card.{Card, is_identified, patience}
use Rattle.mmc_card.specs.CardAnswer.{CardAnswer, Checked, shown, status}
use Rattle.mmc_card.specs.RowsIdentify.{may_lag, send_status}
use Rattle.mmc_card.specs.Judged.{IsSaid}
use Rattle.mmc_card.specs.declared.command.Command.TheVariants.{SendStatus}

-- a status, by what is judged of it
status_told : (kind : Kind) (status : ℕ) (said : CardAnswer) → IsSaid kind (Checked 13 status) said
    → IsHeard (λ told. Says kind told status) (response_of 13 said)
status_told kind status said is = (is.0, ap (response_of 13) is.1 ∙ same_heard 13 is.0, (is.2, is.3 refl))

-- by whether it lags behind
tells_by : (b : Bool) (old x y : Card) (m n : ℕ) (said : CardAnswer)
    → ((told : ℕ) → b ≡ true → Says old.made.kind told m → LagsBehind old told x)
    → (n ≡ status false old) × (y ≡ shown old)
    → IsSaid old.made.kind (cond {A = Card × CardAnswer} b (x, Checked 13 m) (y, Checked 13 n)).1 said
    → IsHeard (λ told. TellsStatus old told (cond {A = Card × CardAnswer} b (x, Checked 13 m) (y, Checked 13 n)).0)
    (response_of 13 said)
tells_by true old x y m n said lags itself is =
    let t = status_told old.made.kind m said is in
    (t.0, t.1, inr (lags t.0 refl t.2))
tells_by false old x y m n said lags itself is =
    let t = status_told old.made.kind n said is in
    (t.0, t.1, inl (subst (Says old.made.kind t.0) itself.0 t.2, itself.1))

-- where no fault falls it lags in time
in_time : (b : Bool) (old x new : Card) (m n : CardAnswer)
    → new ≡ (cond {A = Card × CardAnswer} b (x, m) (shown old, n)).0 → (b ≡ true → old.polled < patience)
    → new.lags ≡ true → old.polled < patience
in_time true old x new m n e few lags = few refl
in_time false old x new m n e few lags = cc (ap (λ (c : Card). c.lags) e, lags)

-- what it tells, and the card after it
outcome : (old new : BusView) (argument : ℕ) (heard : Result ℕ Unheard) → Responded 13 old argument heard new
    → DoesOne ((is_identified old.card.state ≡ true) × (old.card.app ≡ false) × Names argument old.card) TellsStatus old heard new
outcome old new argument heard facts =
    let card = old.card in
    does_one (response_of 13) _ TellsStatus
    (λ choice card. (send_status choice card).0) (λ choice card. (send_status choice card).1) SendStatus old 13 argument heard new
    (whatever (response_of 13) old 13 argument heard new facts refl) refl
    (λ own legal. let h = both (is_identified card.state) (not card.app) legal in
    (h.0, not_true card.app h.1, named argument card own))
    (λ there. (owns argument card there.2, rw (there.0, there.1) refl))
    (λ left errors choice keeps there. refl)
    (λ left errors choice said is. tells_by (may_lag card && choice.is_behind) (with_errors left errors card) _ _ _ _ said
    (λ told lags same. record {
      may = (both (may_lag card) choice.is_behind lags).0;
      choice = choice;
      told_is = same;
      card = refl;
    }) (refl, refl) is)

pub returns : goal.returns
returns c = λ old new argument heard facts.
    let card = old.card in
    let does = outcome old new argument heard facts in
    record {
      sound = does.sound;
      fine = λ same there.
          let told = does.fine same there in
          let f = facts.fine same in
          let obeys = f.obeys (owns argument card there.2) (rw (there.0, there.1) refl) in (
            told.0,
            told.1,
            told.2,
            in_time (may_lag card && f.choice.is_behind) card _ new.card _ _ obeys.0
                (λ lags. f.faultless.0.1 (both (may_lag card) f.choice.is_behind lags).1),
          );
    }
