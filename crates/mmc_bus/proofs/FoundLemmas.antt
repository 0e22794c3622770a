-- A command that finds an error, and one that doesn't.
use Rattle.std.proofs.Common.{◌&&◌, ◌∙◌, ◌≡◌, ◌≤◌, Bool, ap, arith, bit_or, false, inl, inr, refl, subst, sym, true, ℕ}
use Rattle.std.specs.Prelude.{◌==◌, ◌⊎◌, Ok, Result, if◌then◌else◌}
use Rattle.std.proofs.lemmas.Bool.{eq-eqb, eqb-true}
use Rattle.std.proofs.lemmas.Nat.{le_or_r}
use Rattle.mmc_frame.proofs.StatusLemmas.{own_where_clear}
use Rattle.mmc_frame.specs.Status.{error_bits as word_errors, own_status}
use Rattle.mmc_frame.specs.declared.commands.TheConstants as Index
use Rattle.mmc_frame.specs.declared.kind.Kind.{Kind}
use Rattle.mmc_frame.specs.declared.kind.Kind.TheVariants.{Mmc, Sd}
use Rattle.mmc_bus.specs.declared.host.Unheard.{Unheard}
use Rattle.mmc_card.proofs.CardAll.{card_raised, card_reached}
use Rattle.mmc_card.proofs.Cards.{among_wider}
use Rattle.mmc_card.proofs.Conditions.{by_cond}
use Rattle.mmc_card.proofs.JudgedLemmas.{told_none}
use Rattle.mmc_card.proofs.Narrow.{both}
use Rattle.mmc_card.specs.Card.{AreAmong, Card, IsCard}
use Rattle.mmc_card.specs.CardAnswer.{CardAnswer, Checked, Choice, raised, showing, shown, status}
use Rattle.mmc_card.specs.ErrorBits.{erase_reset, error_bits, execution_error_bits}
use Rattle.mmc_card.specs.Judged.{Agree, errors_and_lock, judged}
use Rattle.mmc_card.specs.BusView.{BusView}
use Rattle.mmc_card.specs.Faults.{NoFault}
use Rattle.mmc_card.specs.Rows.{command_of, found, hindered, is_foreign, is_legal, leaves_erase, may_find, reached}
use Rattle.mmc_card.specs.RowsErase.{forgotten, holds_address}
use Rattle.mmc_card.specs.declared.command.Command.{Command}
use Rattle.mmc_bus.specs.CommandLaws.{ShowsNoError, Whatever}
use Rattle.mmc_bus.specs.Heard.{response_of}
use Rattle.mmc_bus.specs.Learned.{CommandFacts, Faithful, HasFound, Hears, Obeyed, meant}

-- What is found.

some_by : (may all : Bool) (bits : ℕ) → ((if may && all then bits else 0) == 0) ≡ false → (may ≡ true) × (all ≡ true)
some_by true true bits some = (refl, refl)
some_by true false bits some = cc
some_by false all bits some = cc

-- a command that finds an error is one that may, and what it finds are error bits
pub found_some : (choice : Choice) (command : Command) → (found choice command == 0) ≡ false
    → (may_find command ≡ true) × AreAmong choice.finds error_bits × (found choice command ≡ choice.finds)
found_some choice command some =
    let all = bit_or choice.finds execution_error_bits == execution_error_bits in
    let h = some_by (may_find command) all choice.finds some in (
      h.0,
      among_wider choice.finds execution_error_bits error_bits (eqb-true _ execution_error_bits h.1) refl,
      rw (h.0, h.1) refl,
    )

none_by : (may all : Bool) (bits : ℕ) → bits ≡ 0 → (if may && all then bits else 0) ≡ 0
none_by true true bits none = none
none_by true false bits none = refl
none_by false all bits none = refl

-- where nothing is to be found nothing is
pub found_none_at_all : (choice : Choice) (command : Command) → choice.finds ≡ 0 → (found choice command == 0) ≡ true
found_none_at_all choice command none =
    eq-eqb (found choice command) 0
    (none_by (may_find command) (bit_or choice.finds execution_error_bits == execution_error_bits) choice.finds none)

-- Its response.

-- The response to such a command is an R1, of which the errors are judged: it is neither CMD3 nor CMD8 of SD, nor CMD13.
judged_found : (kind : Kind) (app : Bool) (index : ℕ) → may_find (command_of kind app index) ≡ true
    → judged kind index ≡ errors_and_lock kind
judged_found Sd app index may =
    let Are : ℕ → Type 0 = λ bits. bits ≡ errors_and_lock Sd in
    let at : (i : ℕ) → (index == i) ≡ true → may_find (command_of Sd app i) ≡ true =
    λ i is. subst (λ n. may_find (command_of Sd app n) ≡ true) (eqb-true index i is) may in
    by_cond Are ((index == Index.SEND_RELATIVE_ADDR) && true) (λ h. cc (at 3 (both (index == 3) true h).0))
    (λ _. by_cond Are ((index == Index.SEND_IF_COND) && true) (λ h. cc (at 8 (both (index == 8) true h).0))
    (λ _. by_cond Are (index == Index.SEND_STATUS) (λ h. cc (at 13 h)) (λ _. refl)))
judged_found Mmc app index may =
    let Are : ℕ → Type 0 = λ bits. bits ≡ errors_and_lock Mmc in
    let at : (i : ℕ) → (index == i) ≡ true → may_find (command_of Mmc app i) ≡ true =
    λ i is. subst (λ n. may_find (command_of Mmc app n) ≡ true) (eqb-true index i is) may in
    by_cond Are ((index == Index.SEND_RELATIVE_ADDR) && false) (λ h. cc (both (index == 3) false h).1)
    (λ _. by_cond Are ((index == Index.SEND_IF_COND) && false) (λ h. cc (both (index == 8) false h).1)
    (λ _. by_cond Are (index == Index.SEND_STATUS) (λ h. cc (at 13 h)) (λ _. refl)))

-- errors that were found show as errors of its own
pub shows_found : (kind : Kind) (bits told : ℕ) (card : Card) → IsCard card → AreAmong bits error_bits → (bits ≡ 0 → ⊥)
    → Agree (errors_and_lock card.made.kind) told (status false (raised bits card))
    → word_errors kind (own_status told) ≡ 0 → ⊥
shows_found kind bits told card k among some shows none =
    let held = told_none kind told (raised bits card) (card_raised bits card among k) shows none in
    some (omega (arith, le_or_r card.errors bits, held))

kind_reached : (choice : Choice) (command : Command) (card : Card) → (reached choice command card).made.kind ≡ card.made.kind
kind_reached choice command card =
    let Same : Card → Type 0 = λ c. c.made.kind ≡ card.made.kind in
    by_cond Same (leaves_erase command) (λ _. refl)
    (λ _. by_cond Same (holds_address card.erase) (λ _. by_cond Same choice.drops_quietly (λ _. refl) (λ _. refl)) (λ _. refl))

-- what is to be shown besides is cleared with it
clear_by : (leaves holds quietly : Bool) (left errors : ℕ) (card : Card) → let met = showing left errors card in
    shown (if leaves then met else if holds then (if quietly then forgotten met else raised erase_reset (forgotten met)) else met)
    ≡ shown (if leaves then card else if holds then (if quietly then forgotten card else raised erase_reset (forgotten card)) else card)
clear_by true holds quietly left errors card = refl
clear_by false true true left errors card = refl
clear_by false true false left errors card = refl
clear_by false false quietly left errors card = refl

pub has_found : {X : Type 0} (answers : CardAnswer → Result X Unheard) (choice : Choice) (left errors : ℕ) (old : Card)
    (index argument : ℕ) (heard : Result X Unheard) (new : Card) → IsCard (showing left errors old)
    → is_foreign (meant old index) old argument ≡ false → is_legal (meant old index) old ≡ true
    → (found choice (meant old index) == 0) ≡ false
    → new ≡ shown (reached choice (meant old index) (showing left errors old))
    → Hears answers old (hindered (found choice (meant old index)) (reached choice (meant old index) (showing left errors old)) index).1
    heard → HasFound answers old index argument heard new
has_found answers choice left errors old index argument heard new k own legal some card answer =
    let command = meant old index in
    let at = reached choice command (showing left errors old) in
    let f = found_some choice command some in
    let bits = found choice command in
    let told = answer.1.0 in
    let agrees : Agree (errors_and_lock at.made.kind) told (status false (raised bits at)) =
    subst (λ (kind : Kind). Agree (errors_and_lock kind) told (status false (raised bits at)))
    (sym (kind_reached choice command (showing left errors old)))
    (subst (λ n. Agree n told (status false (raised bits at))) (judged_found old.made.kind old.app index f.0) answer.1.2) in
    record {
      own = own;
      legal = legal;
      may = f.0;
      told = told;
      heard_is = answer.2 ∙ ap answers answer.1.1;
      shows = λ kind none. shows_found kind bits told at (card_reached choice command (showing left errors old) k)
          (subst (λ n. AreAmong n error_bits) (sym f.2) f.1) (λ zero. cc (eq-eqb bits 0 zero, some)) agrees none;
      card = (
        choice,
        card ∙ clear_by (leaves_erase command) (holds_address old.erase) choice.drops_quietly left errors old,
      );
    }

-- What a host makes of it.

-- a command of which an answer that `FindsNone` says that it was obeyed
pub record Heeds {X : Type 0} (answers : CardAnswer → Result X Unheard) (FindsNone : X → Type 0) (old : BusView)
    (index argument : ℕ) (heard : Result X Unheard) (new : BusView) : Type 0 where
  pub there : (x : X) → heard ≡ Ok x
      → (is_foreign (meant old.card index) old.card argument ≡ false) × (is_legal (meant old.card index) old.card ≡ true)
  pub obeyed : (x : X) → heard ≡ Ok x → FindsNone x → Obeyed answers old.card index argument heard new.card
  pub fine : NoFault old new → Faithful answers old.card index argument heard new.card

there_either : {X : Type 0} {answers : CardAnswer → Result X Unheard} {old : Card} {index argument : ℕ} {heard : Result X Unheard}
    {new : Card} → Obeyed answers old index argument heard new ⊎ HasFound answers old index argument heard new
    → (is_foreign (meant old index) old argument ≡ false) × (is_legal (meant old index) old ≡ true)
there_either (inl o) = (o.own, o.legal)
there_either (inr f) = (f.own, f.legal)

-- one that can't find an error
pub whatever : {X : Type 0} (answers : CardAnswer → Result X Unheard) (old : BusView) (index argument : ℕ)
    (heard : Result X Unheard) (new : BusView) → CommandFacts answers old index argument heard new
    → may_find (meant old.card index) ≡ false → Heeds answers Whatever old index argument heard new
whatever answers old index argument heard new facts never = record {
  there = λ x h. there_either (facts.sound x h);
  obeyed = λ x h _. elim (facts.sound x h) [ inl o ↦ o | inr f ↦ cc (f.may, never) ];
  fine = facts.fine;
}

same_told : (x y : ℕ) → let r : Result ℕ Unheard = Ok x in let s : Result ℕ Unheard = Ok y in r ≡ s → x ≡ y
same_told x y h = cc

heard_back : (index told : ℕ) → response_of index (Checked index told) ≡ Ok told
heard_back index told = rw (eq-eqb index index refl) refl

-- one that is answered by an R1
pub unless_found : (old : BusView) (index argument : ℕ) (heard : Result ℕ Unheard) (new : BusView)
    → CommandFacts (response_of index) old index argument heard new
    → Heeds (response_of index) ShowsNoError old index argument heard new
unless_found old index argument heard new facts = record {
  there = λ x h. there_either (facts.sound x h);
  obeyed = λ x h none. elim (facts.sound x h) [
    | inl o ↦ o
    | inr f ↦ absurd (f.shows none.0
        (subst (λ told. word_errors none.0 (own_status told) ≡ 0)
        (same_told x f.told (sym h ∙ f.heard_is ∙ heard_back index f.told)) none.1))
  ];
  fine = facts.fine;
}

-- no error at all is none of its own
pub none_at_all : (kind : Kind) (told : ℕ) → word_errors kind told ≡ 0 → ShowsNoError told
none_at_all kind told none = (kind, ap (word_errors kind) (own_where_clear kind told none) ∙ none)
