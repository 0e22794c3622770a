-- The commands of a run, each with its R1 judged.
use Rattle.std.proofs.Common.{Bool, ◌^◌, ◌∙◌, ◌≡◌, ◌⊎◌, ap, arith, false, inl, inr, refl}
use Rattle.std.proofs.Common.{subst, sym, true, ℕ}
use Rattle.std.specs.Prelude.{Err, IfErr, None, Ok, Option, Result, Some}
use Rattle.mmc_bus.specs.declared.cause.Cause.{Cause}
use Rattle.mmc_frame.specs.Status.{error_bits}
use Rattle.mmc_frame.specs.declared.card_state.State.TheVariants.{Tran}
use Rattle.mmc_frame.specs.declared.kind.Kind.{Kind}
use Rattle.mmc_card.specs.BusView.{BusView}
use Rattle.mmc_card.specs.Card.{Card, Held, IsCard, NoAddress}
use Rattle.mmc_card.specs.CardLaws.{HasNoError}
use Rattle.mmc_card.specs.ErrorBits.{erase_reset, out_of_range}
use Rattle.mmc_card.specs.Faults.{NoFault}
use Rattle.mmc_card.specs.Laws.{erased_by, is_frame_of_run}
use Rattle.mmc_card.specs.Rows.{without_addresses}
use Rattle.mmc_card.specs.RowsErase.{forgotten, holds_address}
use Rattle.mmc_bus.specs.declared.host.Unheard.{Unheard}
use Rattle.mmc_bus.specs.CommandLaws.{Begins, Responded, ShowsDropped}
use Rattle.mmc_bus.specs.Heard.{response_heard, response_of}
use Rattle.mmc_bus.specs.Learned.{Asked}
use Rattle.mmc_switch.proofs.RestLemmas.{ErrorsLaw, shows_itself}
use Rattle.mmc_transfer.specs.Commands.{CanObey, CanStart, CanStop, index_of, is_write, starts}
use Rattle.mmc_transfer.specs.declared.way.Way.{Way}
use Rattle.mmc_transfer.specs.declared.way.Way.TheVariants.{Read, Write}
use Rattle.mmc_card.specs.Judged.{Shows}
use Rattle.mmc_card.proofs.Conditions.{by_cond}
use Rattle.std.proofs.lemmas.Nat.{le_or_l}

-- A card that can obey: none of its erase addresses is dropped, and its R1 shows no error.

pub forgets_none : (card : Card) → card.erase ≡ NoAddress → forgotten card ≡ card
forgets_none card none = ap (λ (held : Held). record card { erase = held }) (sym none)

pub shows_no_error : (kind : Kind) (card : Card) → ErrorsLaw → IsCard card → CanObey kind card
    → (told : ℕ) → ShowsDropped card told → error_bits kind told ≡ 0
shows_no_error kind card errors k can told shows =
    (errors kind told card k (shows_itself card told can.erase shows)).1 can.is_kind can.no_error

-- Beginning a transfer, whichever way it goes, of one block or of several.

-- a command with a checked response, by its index
abbrev pub AskedOf : BusView → ℕ → Result ℕ Unheard → BusView → ℕ → Type 0
AskedOf old argument heard new index = Asked (response_heard index) (response_of index) old index argument heard new

pub asked_as : {old : BusView} {argument : ℕ} {heard : Result ℕ Unheard} {new : BusView} {index other : ℕ}
    → index ≡ other → AskedOf old argument heard new index → AskedOf old argument heard new other
asked_as {old} {argument} {heard} {new} same asked = subst (AskedOf old argument heard new) same asked

-- what one of the four commands tells
abbrev pub BeginLaw : Way → Bool → Type 0
BeginLaw way is_single =
    (old new : BusView) (address : ℕ) (heard : Result ℕ Unheard)
    → Responded (index_of way is_single) old address heard new → IsCard old.card
    → Begins (is_write way) (starts way is_single (forgotten old.card) address) old address heard new

pub begin_law : BeginLaw Read true → BeginLaw Read false → BeginLaw Write true → BeginLaw Write false → (way : Way)
    (is_single : Bool) → BeginLaw way is_single
begin_law read reads write writes Read true = read
begin_law read reads write writes Read false = reads
begin_law read reads write writes Write true = write
begin_law read reads write writes Write false = writes

pub read_law : BeginLaw Read true → BeginLaw Read false → (is_single : Bool) → BeginLaw Read is_single
read_law one several true = one
read_law one several false = several

pub write_law : BeginLaw Write true → BeginLaw Write false → (is_single : Bool) → BeginLaw Write is_single
write_law one several true = one
write_law one several false = several

pub caused : {X : Type 0} (r : Result X Cause) (why : Cause) (last : Option Cause) → IfErr r (λ cause. cause ≡ why)
    → last ≡ Some why → IfErr r (λ cause. last ≡ Some cause)
caused (Ok x) why last h is = h
caused (Err cause) why last h is = is ∙ sym (ap (λ (c : Cause). Some c) h)

pub erases_nothing : (way : Way) (is_single : Bool) (card : Card) (argument : ℕ)
    → erased_by card (Some (index_of way is_single, argument)) ≡ None
erases_nothing Read true card argument = refl
erases_nothing Read false card argument = refl
erases_nothing Write true card argument = refl
erases_nothing Write false card argument = refl

pub is_of_the_run : (way : Way) (is_single : Bool) (card : Card) (argument : ℕ)
    → is_frame_of_run card (Some (index_of way is_single, argument)) ≡ true
is_of_the_run Read true card argument = refl
is_of_the_run Read false card argument = refl
is_of_the_run Write true card argument = refl
is_of_the_run Write false card argument = refl

module _ (kind : Kind) (way : Way) (is_single : Bool) (old : BusView) (address : ℕ) (heard : Result ℕ Unheard)
    (new : BusView)
    (begins : Begins (is_write way) (starts way is_single (forgotten old.card) address) old address heard new) where
  -- a sound answer without an error says that it has begun
  pub begun_where_answered : (told : ℕ) → heard ≡ Ok told → error_bits kind told ≡ 0 → old.card.erase ≡ NoAddress
      → new.card ≡ starts way is_single old.card address
  begun_where_answered told is no_error none =
      (begins.sound kind told is no_error).1
      ∙ ap (λ card. starts way is_single card address) (forgets_none old.card none)

  -- a sound answer with one says that it has begun, or is in tran still
  pub begun_or_in_tran : (told : ℕ) → heard ≡ Ok told → old.card.erase ≡ NoAddress
      → (new.card ≡ starts way is_single old.card address) ⊎ (new.card.state ≡ Tran)
  begun_or_in_tran told is none =
      elim (begins.answered told is) [
        | inl begun ↦ inl (begun ∙ ap (λ card. starts way is_single card address) (forgets_none old.card none))
        | inr tran ↦ inr tran
      ]

  -- a card that can begin does, where no fault falls
  pub begins_where_it_can : {Done : Type 0} → ErrorsLaw → IsCard old.card
      → ((told : ℕ) → heard ≡ Ok told → error_bits kind told ≡ 0 → Done)
      → NoFault old new → CanStart kind way old.card address → Done
  begins_where_it_can errors k judged same can =
      let obeys = can.obeys in
      let told = (begins.fine same obeys.tran can.allowed).0 in
      judged told.0 told.1 (shows_no_error kind old.card errors k obeys told.0 told.2)

-- it held no error before it dropped its erase addresses
pub held_none : (quietly : Bool) (card : Card) → (without_addresses quietly card).errors ≡ 0 → card.errors ≡ 0
held_none quietly card =
    by_cond (λ (c : Card). c.errors ≡ 0 → card.errors ≡ 0) (holds_address card.erase)
    (λ _. by_cond (λ (c : Card). c.errors ≡ 0 → card.errors ≡ 0) quietly (λ _ none. none)
    (λ _ none. let below = le_or_l card.errors erase_reset in omega (arith, below, none)))
    (λ _ none. none)

-- The status of a card that can be stopped.

abbrev pub EndLaw : Type 0
EndLaw =
    (kind : Kind) (told : ℕ) (card : Card) → IsCard card → card.made.kind ≡ kind → Shows card told
    → HasNoError kind (record card { errors = 0 }) → card.errors ≡ out_of_range → error_bits kind told ≡ 2 ^ 31

-- where OUT_OF_RANGE is an error too, no error is held after a status that is judged good
pub shows_nothing : (kind : Kind) (at_end : Bool) (card : Card) (told : ℕ) → ErrorsLaw → IsCard card
    → Shows card told → at_end ≡ false
    → (error_bits kind told ≡ 0) ⊎ ((at_end ≡ true) × (error_bits kind told ≡ 2 ^ 31)) → card.errors ≡ 0
shows_nothing kind at_end card told errors k is never judged =
    elim judged [
      | inl none ↦ ((errors kind told card k is).0 none).errors
      | inr last ↦ cc (never, last.0)
    ]

-- a card that can be stopped shows no error, or at the end of a partition OUT_OF_RANGE alone
pub shows_it_stops : (kind : Kind) (at_end : Bool) (card : Card) (told : ℕ) → ErrorsLaw → EndLaw → IsCard card
    → Shows card told → CanStop kind at_end card
    → (error_bits kind told ≡ 0) ⊎ ((at_end ≡ true) × (error_bits kind told ≡ 2 ^ 31))
shows_it_stops kind at_end card told errors ends k shows can =
    let none = can.no_error in
    elim can.errors [
      | inl clear ↦ inl ((errors kind told card k shows).1 can.is_kind
          (record { command_errors = none.command_errors; errors = clear; switch_error = none.switch_error }))
      | inr last ↦ inr (last.0, ends kind told card k can.is_kind shows none last.1)
    ]
