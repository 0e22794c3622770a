-- To steps that follow each other there is a story: after each beginning of them the card that they led to, and after anything else
-- controller and card have not conformed.
use Rattle.std.proofs.Common.{◌≡◌, ◌≤◌, ◌∷◌, [], Err, List, ap, arith, cond, length, refl, subst, sym, true, ℕ}
use Rattle.std.proofs.lemmas.Bool.{cond_both, false≢true}
use Rattle.mmc_card.specs.Card.{Card}
use Rattle.mmc_card.specs.CardAnswer.{Silent}
use Rattle.mmc_card.specs.BusView.{BusView}
use Rattle.mmc_card.specs.Faults.{CommandStep, OneFault, at_once}
use Rattle.mmc_card.specs.Faults.MeetsCommand.{lose_command}
use Rattle.mmc_card.specs.declared.exchange.Reply.{Reply}
use Rattle.mmc_card.specs.declared.exchange.Reply.TheVariants as Came
use Rattle.mmc_host.specs.Hosts.{answer_heard}
use Rattle.mmc_card.specs.declared.response.Response.{Response}
use Rattle.mmc_host.specs.declared.told.ResponseFault.TheVariants.{Timeout}
use Rattle.mmc_story.proofs.Telling.{are_alike, are_same, are_themselves}
use Rattle.mmc_story.specs.Conforming.{AreSteps, StepsGoOn, conforming}
use Rattle.mmc_story.specs.Entry.{Entry}
use Rattle.mmc_story.specs.Story.{IsStep, IsTrueOf, Outcome, Story}
use Rattle.mmc_story.specs.Untrue.{unknown}

outcome_of : (past : List Entry) (card : Card) (faults : ℕ) → AreSteps past card faults → List Entry → Outcome
outcome_of [] card faults steps es = cond (are_same es []) (conforming card faults) unknown
outcome_of (e ∷ past) card faults s es =
    cond (are_same es (e ∷ past)) (conforming card faults) (outcome_of past s.0 s.1 s.2 es)

-- only a beginning
shorter : (past : List Entry) (card : Card) (faults : ℕ) (s : AreSteps past card faults) (es : List Entry)
    → (outcome_of past card faults s es).conformed ≡ true → length es ≤ length past
unfolding outcome_of
shorter [] card faults s es =
    cond_both (are_same es []) (conforming card faults) unknown (λ o. o.conformed ≡ true → length es ≤ 0)
    (λ p said. rw (are_alike es [] p) (omega arith)) (λ p said. absurd (false≢true said))
shorter (e ∷ past) card faults s es =
    cond_both (are_same es (e ∷ past)) (conforming card faults) (outcome_of past s.0 s.1 s.2 es)
    (λ o. o.conformed ≡ true → length es ≤ length (e ∷ past))
    (λ p said. rw (are_alike es (e ∷ past) p) (omega arith))
    (λ p said. let h = shorter past s.0 s.1 s.2 es said in omega (arith, h))

at_the_end : (past : List Entry) (card : Card) (faults : ℕ) (s : AreSteps past card faults)
    → outcome_of past card faults s past ≡ conforming card faults
unfolding outcome_of
at_the_end [] card faults s = rw (are_themselves []) refl
at_the_end (e ∷ past) card faults s = rw (are_themselves (e ∷ past)) refl

heads : List Entry → Entry → Entry
heads [] e = e
heads (x ∷ xs) e = x

rest : List Entry → List Entry
rest [] = []
rest (x ∷ xs) = xs

explains : (past : List Entry) (card : Card) (faults : ℕ) (s : AreSteps past card faults) (entry : Entry) (es : List Entry)
    → (outcome_of past card faults s (entry ∷ es)).conformed ≡ true
    → IsStep (outcome_of past card faults s es) entry (outcome_of past card faults s (entry ∷ es))
unfolding outcome_of heads rest
explains [] card faults s entry es =
    λ said. let long = shorter [] card faults s (entry ∷ es) said in absurd (omega (arith, long))
explains (e ∷ past) card faults s entry es =
    cond_both (are_same (entry ∷ es) (e ∷ past)) (conforming card faults) (outcome_of past s.0 s.1 s.2 (entry ∷ es))
    (λ o. o.conformed ≡ true → IsStep (outcome_of (e ∷ past) card faults s es) entry o)
    (λ p said. let q = are_alike (entry ∷ es) (e ∷ past) p in
    let is_rest : es ≡ past = ap rest q in
    let is_e : entry ≡ e = ap (λ xs. heads xs entry) q in
    rw is_e (cond_both (are_same es (e ∷ past)) (conforming card faults) (outcome_of past s.0 s.1 s.2 es)
    (λ o. IsStep o e (conforming card faults))
    (λ r. let long = ap length (sym is_rest) in let longer = ap length (are_alike es (e ∷ past) r) in absurd (omega (arith, long, longer)))
    (λ r. rw is_rest (rw (at_the_end past s.0 s.1 s.2) s.3))))
    (λ p said. cond_both (are_same es (e ∷ past)) (conforming card faults) (outcome_of past s.0 s.1 s.2 es)
    (λ o. IsStep o entry (outcome_of past s.0 s.1 s.2 (entry ∷ es)))
    (λ r. let short = shorter past s.0 s.1 s.2 (entry ∷ es) said in
    let longer = ap length (are_alike es (e ∷ past) r) in absurd (omega (arith, short, longer)))
    (λ r. explains past s.0 s.1 s.2 entry es said))

pub story_of : (past : List Entry) (card : Card) (faults : ℕ) → AreSteps past card faults
    → (story : Story) × (story.outcome past ≡ conforming card faults)
story_of past card faults s = (
  record {
    outcome = outcome_of past card faults s;
    explains = λ entry es. explains past card faults s entry es;
  },
  at_the_end past card faults s,
)

-- an outcome that has conformed
is_conforming : (o : Outcome) → o.conformed ≡ true → o ≡ conforming o.card o.faults
is_conforming o p = λ i. record { card = o.card; faults = o.faults; conformed = p i }

pub steps_of : (story : Story) (past : List Entry) → IsTrueOf story past
    → AreSteps past (story.outcome past).card (story.outcome past).faults
steps_of story [] said = tt
steps_of story (entry ∷ past) said =
    let step = story.explains entry past said in (
      (story.outcome past).card,
      (story.outcome past).faults,
      steps_of story past step.was_kept,
      subst (λ o. IsStep o entry (conforming (story.outcome (entry ∷ past)).card (story.outcome (entry ∷ past)).faults))
          (is_conforming (story.outcome past) step.was_kept)
          (subst (λ o. IsStep (story.outcome past) entry o) (is_conforming (story.outcome (entry ∷ past)) said) step),
    )

unheard : (response : Response) (index : ℕ) → answer_heard response index (Err Timeout) ≡ Silent
unheard Response.Nothing index = refl
unheard Response.R1 index = refl
unheard Response.R1b index = refl
unheard Response.R2 index = refl
unheard Response.R3 index = refl
unheard Response.R6 index = refl
unheard Response.R7 index = refl

-- a command is lost at once
loses : (old new : BusView) (frame : List ℕ) (reply : Reply) → OneFault old new → new.card ≡ old.card → reply ≡ Came.Silent
    → CommandStep old frame reply new
loses old new frame reply one card silent = record { met = old; passes = at_once refl; meets = lose_command one card silent }

pub goes_on : StepsGoOn
goes_on past card faults ok steps told limits command = (
  card,
  faults,
  steps,
  record {
    was_kept = refl;
    was_card = ok;
    step = rw (unheard command.response command.index) (λ frame reply is silent. loses _ _ frame reply refl refl silent);
    is_card = ok;
    bounded = λ most none. none;
  },
)
