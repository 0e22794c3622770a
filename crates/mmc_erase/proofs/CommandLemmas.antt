-- The commands of an erase, each with its R1 judged.
use Rattle.std.proofs.Common.{◌≡◌, Bool, refl, subst, true, ℕ}
use Rattle.std.specs.Prelude.{None, Ok, Result, Some}
use Rattle.mmc_frame.specs.Status.{error_bits}
use Rattle.mmc_frame.specs.declared.kind.Kind.{Kind}
use Rattle.mmc_frame.specs.declared.kind.Kind.TheVariants.{Mmc, Sd}
use Rattle.mmc_card.specs.BusView.{BusView}
use Rattle.mmc_card.specs.Card.{Both, Card, First, Held, IsCard, NoAddress}
use Rattle.mmc_card.specs.CardAnswer.{shown}
use Rattle.mmc_card.specs.Faults.{NoFault}
use Rattle.mmc_card.specs.Laws.{erased_by, erased_by_command, is_frame_of_run, is_of_run}
use Rattle.mmc_card.specs.Rows.{command_of}
use Rattle.mmc_frame.specs.declared.card_state.State.TheVariants.{Tran}
use Rattle.mmc_bus.proofs.FoundLemmas.{none_at_all}
use Rattle.mmc_bus.specs.CommandLaws.{Does, Responded, ShowsNoError}
use Rattle.mmc_bus.specs.Heard.{response_heard, response_of}
use Rattle.mmc_bus.specs.Learned.{Asked}
use Rattle.mmc_bus.specs.declared.host.Unheard.{Unheard}
use Rattle.mmc_switch.proofs.RestLemmas.{ErrorsLaw}
use Rattle.mmc_erase.specs.Commands.{CanHold, first_index, last_index}
use Rattle.mmc_card.specs.Judged.{Shows}

-- a command with a checked response, by its index
abbrev pub AskedOf : BusView → ℕ → Result ℕ Unheard → BusView → ℕ → Type 0
AskedOf old argument heard new index = Asked (response_heard index) (response_of index) old index argument heard new

pub asked_as : {old : BusView} {argument : ℕ} {heard : Result ℕ Unheard} {new : BusView} {index other : ℕ}
    → index ≡ other → AskedOf old argument heard new index → AskedOf old argument heard new other
asked_as {old} {argument} {heard} {new} same asked = subst (AskedOf old argument heard new) same asked

-- Naming a sector erases none, and belongs to a run, whatever kind the card is of.

abbrev pub NamesOnly : (Kind → ℕ) → Type 0
NamesOnly index =
    (host card : Kind) (app : Bool) (c : Card) (argument : ℕ)
    → (erased_by_command (command_of card app (index host)) c argument ≡ None)
    × (is_of_run (command_of card app (index host)) ≡ true)

pub first_names_only : NamesOnly first_index
first_names_only Sd Sd app c argument = (refl, refl)
first_names_only Sd Mmc app c argument = (refl, refl)
first_names_only Mmc Sd app c argument = (refl, refl)
first_names_only Mmc Mmc app c argument = (refl, refl)

pub last_names_only : NamesOnly last_index
last_names_only Sd Sd app c argument = (refl, refl)
last_names_only Sd Mmc app c argument = (refl, refl)
last_names_only Mmc Sd app c argument = (refl, refl)
last_names_only Mmc Mmc app c argument = (refl, refl)

pub erases_nothing : (index : Kind → ℕ) → NamesOnly index → (host : Kind) (card : Card) (argument : ℕ)
    → erased_by card (Some (index host, argument)) ≡ None
erases_nothing index names host card argument = (names host card.made.kind card.app card argument).0

pub is_of_a_run : (index : Kind → ℕ) → NamesOnly index → (host : Kind) (card : Card) (argument : ℕ)
    → is_frame_of_run card (Some (index host, argument)) ≡ true
is_of_a_run index names host card argument = (names host card.made.kind card.app card argument).1

-- What each tells, by the kind.

abbrev pub FirstLaw : Kind → Type 0
FirstLaw kind =
    (old new : BusView) (address : ℕ) (heard : Result ℕ Unheard) → Responded (first_index kind) old address heard new
    → old.card.made.kind ≡ kind → old.card.erase ≡ NoAddress
    → Does ShowsNoError (old.card.state ≡ Tran) Shows (record (shown old.card) { erase = First address }) old heard new

pub first_law : FirstLaw Sd → FirstLaw Mmc → (kind : Kind) → FirstLaw kind
first_law sd mmc Sd = sd
first_law sd mmc Mmc = mmc

abbrev pub LastLaw : Kind → Type 0
LastLaw kind =
    (old new : BusView) (first address : ℕ) (heard : Result ℕ Unheard)
    → Responded (last_index kind) old address heard new → old.card.made.kind ≡ kind → old.card.erase ≡ First first
    → Does ShowsNoError (old.card.state ≡ Tran) Shows (record (shown old.card) { erase = Both first address }) old
    heard new

pub last_law : LastLaw Sd → LastLaw Mmc → (kind : Kind) → LastLaw kind
last_law sd mmc Sd = sd
last_law sd mmc Mmc = mmc

-- a card that can obey shows no error in its R1
pub shows_no_error : (kind : Kind) (held : Held) (card : Card) → ErrorsLaw → IsCard card → CanHold kind held card
    → (told : ℕ) → Shows card told → error_bits kind told ≡ 0
shows_no_error kind held card errors k can told shows = (errors kind told card k shows).1 can.is_kind can.no_error

-- A command that was judged, from what it does.
module _ (kind : Kind) (after : Card) (old : BusView) (heard : Result ℕ Unheard) (new : BusView)
    (does : Does ShowsNoError (old.card.state ≡ Tran) Shows after old heard new) where
  pub done_where_answered : (told : ℕ) → heard ≡ Ok told → error_bits kind told ≡ 0 → new.card ≡ after
  done_where_answered told is none = (does.sound told is (none_at_all kind told none)).1

  pub done_where_it_can : {Judged : Type 0} (held : Held) → ErrorsLaw → IsCard old.card
      → ((told : ℕ) → heard ≡ Ok told → error_bits kind told ≡ 0 → Judged) → NoFault old new → CanHold kind held old.card
      → Judged
  done_where_it_can held errors k judged same can =
      let told = (does.fine same can.tran).0 in
      judged told.0 told.1 (shows_no_error kind held old.card errors k can told.0 told.2)
