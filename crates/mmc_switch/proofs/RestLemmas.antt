-- A card at rest: what a command finds of it, and what it leaves of it.
use Rattle.std.proofs.Common.{◌∙◌, ◌≡◌, Bool, ap, false, refl, subst, sym, true, ℕ}
use Rattle.std.specs.Prelude.{IsOk, Ok, Result}
use Rattle.mmc_frame.specs.Status.{error_bits, own_status}
use Rattle.mmc_frame.specs.declared.card_state.State.{State}
use Rattle.mmc_frame.specs.declared.card_state.State.TheVariants.{Tran}
use Rattle.mmc_frame.specs.declared.kind.Kind.{Kind}
use Rattle.mmc_card.specs.declared.exchange.Lines.{Lines}
use Rattle.mmc_card.specs.declared.exchange.Timing.{Timing}
use Rattle.mmc_card.specs.declared.exchange.Width.{Width}
use Rattle.mmc_card.specs.BusView.{BusView}
use Rattle.mmc_card.specs.Card.{Card, Held, IsCard, NoAddress, Source}
use Rattle.mmc_card.specs.CardAnswer.{shown}
use Rattle.mmc_card.specs.CardLaws.{HasNoError, Tells}
use Rattle.mmc_card.specs.Faults.{NoFault}
use Rattle.mmc_card.proofs.Passing.{still_in}
use Rattle.mmc_card.specs.Laws.{IsStill, Setting, setting_of}
use Rattle.mmc_card.specs.Rows.{without_addresses}
use Rattle.mmc_card.specs.RowsErase.{forgotten}
use Rattle.mmc_bus.specs.CommandLaws.{Does, ShowsDropped, ShowsNoError}
use Rattle.mmc_bus.specs.declared.cause.Cause.{Cause}
use Rattle.mmc_bus.specs.declared.host.Unheard.{Unheard}
use Rattle.mmc_bus.specs.Work.{Moved}
use Rattle.mmc_bus.proofs.WorkLemmas.{moved_on}
use Rattle.mmc_switch.specs.Stages.{IsAtRest, IsSet, IsSetOver, lines_of}
use Rattle.mmc_card.specs.Judged.{Shows}

-- where no erase address is held none is dropped
pub nothing_dropped : (quietly : Bool) (card : Card) → card.erase ≡ NoAddress → without_addresses quietly card ≡ card
nothing_dropped quietly card none = rw none refl

-- and it shows itself
pub shows_itself : (card : Card) (told : ℕ) → card.erase ≡ NoAddress → ShowsDropped card told → Shows card told
shows_itself card told none shows = subst (λ (c : Card). Shows c told) (nothing_dropped shows.0 card none) shows.1

-- nothing goes on in it by itself
pub still_at_rest : {is_app : Bool} (card : Card) → IsAtRest is_app card → IsStill card
still_at_rest card rest = still_in card Tran rest.state refl refl rest.rests

pub no_error : (kind : Kind) (is_app : Bool) (card : Card) → IsAtRest is_app card → HasNoError kind card
no_error kind is_app card rest =
    record { command_errors = rest.command_errors; errors = rest.errors; switch_error = λ judged mmc. rest.switch_error }

-- an R1 without an error comes from where the command is carried out
pub carried_out : {IsThere : Type 0} (kind : Kind) (Tells : Card → ℕ → Type 0) (after : Card) (old : BusView)
    (heard : Result ℕ Unheard) (new : BusView) (r : Result Unit Cause)
    → (IsOk r → (status : ℕ) × (heard ≡ Ok status) × (error_bits kind (own_status status) ≡ 0))
    → Does ShowsNoError IsThere Tells after old heard new → IsOk r → IsThere × (new.card ≡ after)
carried_out kind Tells after old heard new r judged does ok =
    let t = judged ok in
    (does.there t.0 t.1, (does.sound t.0 t.1 (kind, t.2)).1)

-- the error bits of a status tell whether its card holds an error
abbrev pub ErrorsLaw : Type 0
ErrorsLaw =
    (kind : Kind) (told : ℕ) (card : Card) → IsCard card → Shows card told
    → Tells kind card (error_bits kind told ≡ 0) (HasNoError kind card)

-- without a fault a card at rest tells of no error
pub answers_well : {IsThere : Type 0} (kind : Kind) (is_app : Bool) (after : Card) (old : BusView)
    (heard : Result ℕ Unheard) (new : BusView) (r : Result Unit Cause) → ErrorsLaw → IsCard old.card → old.card.made.kind ≡ kind
    → ((status : ℕ) → heard ≡ Ok status → error_bits kind status ≡ 0 → IsOk r)
    → Does ShowsNoError IsThere ShowsDropped after old heard new → NoFault old new
    → IsAtRest is_app old.card → IsThere → IsOk r
answers_well kind is_app after old heard new r errors card of judges does same rest there =
    let told = (does.fine same there).0 in
    let shows = shows_itself old.card told.0 rest.erase told.2 in
    judges told.0 told.1 ((errors kind told.0 old.card card shows).1 of (no_error kind is_app old.card rest))

-- A card that has shown its errors, in this state, with these lines, this timing and this block length.
abbrev pub left_as : Bool → State → Source → Width → Timing → ℕ → Card → Card
left_as is_app state source width timing block_length card =
    record (shown (forgotten card)) {
      app = is_app;
      state = state;
      source = source;
      width = width;
      timing = timing;
      block_length = block_length;
    }

pub rests_as : (is_app was_app : Bool) (state : State) (source : Source) (width : Width) (timing : Timing)
    (block_length : ℕ) (old : Card) → state ≡ Tran → IsAtRest was_app old
    → IsAtRest is_app (left_as is_app state source width timing block_length old)
rests_as is_app was_app state source width timing block_length old tran rest = record {
  state = tran;
  rests = rest.rests;
  app = refl;
  command_errors = refl;
  errors = refl;
  switch_error = refl;
  count = refl;
  erase = refl;
  finished = rest.finished;
  up_to_date = refl;
}

-- it is at rest, on the same lines of the host
pub set_as : (is_app was_app : Bool) (state : State) (source : Source) (width : Width) (timing : Timing)
    (block_length : ℕ) (lines : Lines) (was is : Setting) (old new : BusView) → state ≡ Tran
    → new.lines ≡ old.lines → new.card ≡ left_as is_app state source width timing block_length old.card
    → setting_of (left_as is_app state source width timing block_length old.card) ≡ is
    → IsSetOver lines was_app was old → IsSetOver lines is_app is new
set_as is_app was_app state source width timing block_length lines was is old new tran same e setting set = record {
  rest = subst (IsAtRest is_app) (sym e)
      (rests_as is_app was_app state source width timing block_length old.card tran set.rest);
  is_set = ap setting_of e ∙ setting;
  on_lines = same ∙ set.on_lines;
}

-- a status leaves a card at rest as it is
pub set_shown : (setting : Setting) (old new : BusView) → new.lines ≡ old.lines → new.card ≡ shown old.card
    → IsSet false setting old → IsSet false setting new
set_shown setting old new same e set =
    let card = old.card in
    let none : shown card ≡ shown (forgotten card) =
    ap (λ (held : Held). record (shown card) { erase = held }) set.rest.erase in
    set_as false false card.state card.source card.width card.timing card.block_length (lines_of setting) setting
    setting old new set.rest.state same (e ∙ none) set.is_set set

-- The host sets its lines, which is nothing to the card.

pub moved_on_lines : {Own Fine : BusView → BusView → Type 0} (a b c : BusView) (lines : Lines)
    → c ≡ record b { lines = lines } → (b.is_kept ≡ true → Moved Own Fine a b) → c.is_kept ≡ true
    → Moved (λ old new. Own a b) (λ old new. Fine a b) a c
moved_on_lines {Own} {Fine} a b c lines e p kept =
    subst (λ c. Moved (λ old new. Own a b) (λ old new. Fine a b) a c) (sym e)
    (let q = p (ap (λ (v : BusView). v.is_kept) (sym e) ∙ kept) in moved_on a b lines q q.own q.fine)

pub set_on_lines : (is_app : Bool) (lines : Lines) (setting : Setting) (b c : BusView)
    → c ≡ record b { lines = lines_of setting } → IsSetOver lines is_app setting b → IsSet is_app setting c
set_on_lines is_app lines setting b c e set =
    subst (IsSet is_app setting) (sym e) (record { rest = set.rest; is_set = set.is_set; on_lines = refl })
