-- What a host learns of an exchange over a bus that is kept: what holds whatever fell, what a sound answer tells, fault
-- or not, and what holds where no fault fell.
use Rattle.std.specs.Prelude.{◌&&◌, ◌+◌, ◌<◌, ◌||◌, ◌≡◌, ◌≤◌, ◌⊎◌, Bool, List, Ok, Result, Some, false, not, true, ℕ}
use Rattle.mmc_frame.specs.Frame.{command_in}
use Rattle.mmc_frame.specs.Status.{error_bits as word_errors, own_status}
use Rattle.mmc_frame.specs.declared.card_state.State.TheVariants.{Prg, Rcv}
use Rattle.mmc_frame.specs.declared.kind.Kind.{Kind}
use Rattle.mmc_bus.specs.declared.host.Unheard.{Unheard}
use Rattle.mmc_card.specs.declared.part.Part.{Part}
use Rattle.mmc_card.specs.declared.exchange.DataIn.{DataIn}
use Rattle.mmc_card.specs.declared.exchange.DataOut.{DataOut}
use Rattle.mmc_card.specs.declared.exchange.Reply.{Reply}
use Rattle.mmc_card.specs.declared.exchange.Want.{Want}
use Rattle.mmc_card.specs.CardAnswer.{CardAnswer, Checked, Choice, Silent, refused, showing, shown}
use Rattle.mmc_card.specs.Blocks.{accepted, can_send, can_accept, next_block, next_written, rested, sent, waited}
use Rattle.mmc_card.specs.Card.{AreAmong, Card, IsCard, holds, is_in, is_selected, patience}
use Rattle.mmc_card.specs.ErrorBits.{command_error_bits, error_bits}
use Rattle.mmc_bus.specs.Exchanges.{Exchanged}
use Rattle.mmc_card.specs.Faults.{FallNoMore, IsFaultless, NoFault, Passes}
use Rattle.mmc_bus.specs.Heard.{cause_of, cause_of_command}
use Rattle.mmc_card.specs.Judged.{IsSaid}
use Rattle.mmc_card.specs.Laws.{AfterSomeTime, Carried, IsStill, StandsIn, StillStands, SwitchesTo, WithinOrAccepted, erased_by}
use Rattle.mmc_card.specs.Laws.{is_frame_of_run, maybe_erased}
use Rattle.mmc_card.specs.declared.command.Command.{Command}
use Rattle.mmc_card.specs.Rows.{command_of, is_foreign, is_legal, may_find, reached, row}
use Rattle.mmc_card.specs.Sectors.{Sector, Within}
use Rattle.mmc_card.specs.BusView.{BusView}
use Rattle.mmc_card.specs.Wanted.{response_to}
use Rattle.mmc_card.specs.declared.exchange.DataIn.TheVariants as Received
use Rattle.mmc_card.specs.declared.exchange.DataOut.TheVariants as Sent
use Rattle.mmc_card.specs.declared.exchange.Exchange.TheVariants as Did
use Rattle.std.specs.Prelude.{if◌then◌else◌}

-- What the card is made with stays, and the sizes of its partitions, and what the host can; the count of faults doesn't
-- fall, and no more are to fall than before.
pub record Stays (old new : BusView) : Type 0 where
  pub carried : Carried old.card new.card
  pub later : old.faults ≤ new.faults
  pub bounded : FallNoMore old new
  pub limits : new.limits ≡ old.limits

-- Commands.

-- what this index means to the card
abbrev pub meant : Card → ℕ → Command
meant card index = command_of card.made.kind card.app index

-- what the card does with the command where it is legal
abbrev pub carried_out : Choice → Card → ℕ → ℕ → Card × CardAnswer
carried_out choice card index argument =
    row choice (meant card index) (reached choice (meant card index) card) index argument

-- this is heard of a card's answer, in which what isn't judged is open
abbrev pub Hears : {X : Type 0} → (CardAnswer → X) → Card → CardAnswer → X → Type 0
Hears answers card answer heard = (said : CardAnswer) × IsSaid card.made.kind answer said × (heard ≡ answers said)

-- The card has carried the command out, and this is its answer; in a fault it shows errors besides, of an earlier command, and
-- of its own where the response has a status.
pub record Obeyed {X : Type 0} (answers : CardAnswer → X) (old : Card) (index argument : ℕ) (heard : X)
    (new : Card) : Type 0 where
  pub choice : Choice
  pub left : ℕ
  pub found : ℕ
  pub among : AreAmong left command_error_bits
  pub errors : AreAmong found error_bits
  pub cleared : (found ≡ 0) ⊎ (new.errors ≡ 0)
  pub own : is_foreign (meant old index) old argument ≡ false
  pub legal : is_legal (meant old index) old ≡ true
  pub card : new ≡ (carried_out choice (showing left found old) index argument).0
  pub speaks : (carried_out choice (showing left found old) index argument).1 ≡ Silent → ⊥
  pub answer : Hears answers old (carried_out choice (showing left found old) index argument).1 heard

-- The card has found an error, which its response shows: it hasn't carried the command out, and nothing else came of it.
pub record HasFound {X : Type 0} (answers : CardAnswer → X) (old : Card) (index argument : ℕ) (heard : X)
    (new : Card) : Type 0 where
  pub own : is_foreign (meant old index) old argument ≡ false
  pub legal : is_legal (meant old index) old ≡ true
  pub may : may_find (meant old index) ≡ true
  pub told : ℕ
  pub heard_is : heard ≡ answers (Checked index told)
  pub shows : (kind : Kind) → word_errors kind (own_status told) ≡ 0 → ⊥
  pub card : (choice : Choice) × (new ≡ shown (reached choice (meant old index) old))

-- The card did as the table says, no slower than it may, and all of its answer came.
pub record Faithful {X : Type 0} (answers : CardAnswer → X) (old : Card) (index argument : ℕ) (heard : X)
    (new : Card) : Type 0 where
  pub choice : Choice
  pub faultless : IsFaultless choice old
  pub obeys : is_foreign (meant old index) old argument ≡ false → is_legal (meant old index) old ≡ true
      → (new ≡ (carried_out choice old index argument).0) × Hears answers old (carried_out choice old index argument).1 heard
  pub refuses : is_foreign (meant old index) old argument ≡ false → is_legal (meant old index) old ≡ false
      → (new ≡ refused (reached choice (meant old index) old)) × (heard ≡ answers Silent)
  -- it names another card
  pub passes : is_foreign (meant old index) old argument ≡ true → (new ≡ old) × (heard ≡ answers Silent)

-- What the host learns of the card that the command met.
pub record CommandFacts {X : Type 0} (answers : CardAnswer → Result X Unheard) (old : BusView) (index argument : ℕ)
    (heard : Result X Unheard) (new : BusView) : Type 0 where
  -- a sound answer comes from the card, fault or not
  pub sound : (x : X) → heard ≡ Ok x → Obeyed answers old.card index argument heard new.card
      ⊎ HasFound answers old.card index argument heard new.card
  pub fine : NoFault old new → Faithful answers old.card index argument heard new.card

-- Time passed, and then the command met the card.
pub record CommandMet {X : Type 0} (answers : CardAnswer → Result X Unheard) (old : BusView) (index argument : ℕ)
    (heard : Result X Unheard) (new : BusView) : Type 0 where
  pub stays : Stays old new
  -- no sector may hold more, but what CMD38 erases
  pub narrows : Within (holds new.card) (maybe_erased (erased_by old.card (Some (index, argument))) (holds old.card))
  -- a command of a run, lost or not, leaves the card standing
  pub stands : is_frame_of_run old.card (Some (index, argument)) ≡ true → StillStands old.card new.card
  -- a switch of the partition, lost or not, leaves it standing, in the old partition or in the new one
  pub switches : (part : Part) → SwitchesTo part old.card index argument → StandsIn part old.card new.card
  pub met : BusView
  pub passes : Passes old met
  pub is_card : IsCard met.card
  pub made : met.card.made ≡ old.card.made
  -- no fault fell since the exchange before either
  pub quiet : NoFault old new → NoFault met new
  pub facts : CommandFacts answers met index argument heard new
  -- a card in which nothing went on by itself was met as it was
  pub at_once : IsStill old.card → CommandFacts answers old index argument heard new

-- One exchange: a command with this index and argument, the response that is wanted of it, whichever kind the card is
-- and whether it is an application command or not, and what was heard.
pub record Asked {X : Type 0} (hears : Reply → Result X Unheard) (answers : CardAnswer → Result X Unheard)
    (old : BusView) (index argument : ℕ) (heard : Result X Unheard) (new : BusView) : Type 0 where
  pub frame : List ℕ
  pub want : Want
  pub reply : Reply
  pub command : command_in frame ≡ Some (index, argument)
  pub wanted : (kind : Kind) (app : Bool) → want ≡ response_to (command_of kind app index)
  pub hearing : heard ≡ hears reply
  -- its cause, by the reply alone
  pub cause : cause_of new.last ≡ Some (cause_of_command (Some (index, argument)) reply)
  pub exchanged : Exchanged old (Did.Command frame want reply) (CommandMet answers old index argument heard new) new

-- Polls.

-- programming may fail: that of a write, erase or trim, and in rcv that of an earlier block
abbrev pub may_fail : Card → Bool
may_fail card = is_in card.state Rcv || (is_in card.state Prg && not card.is_switching)

-- a card after a poll that it answered so
abbrev pub polled_to : Bool → Card → Card
polled_to said card = if said then waited card else rested card

-- a card that said no is selected still
abbrev pub IsThereAfter : Bool → Card → Type 0
IsThereAfter said card = said ≡ false → is_selected card.state ≡ true

pub record PollFacts (old : BusView) (said : Bool) (new : BusView) : Type 0 where
  pub stays : Stays old new
  pub narrows : Within (holds new.card) (holds old.card)
  pub stands : StillStands old.card new.card
  -- a card that says yes is busy
  pub busy : said ≡ true → old.card.is_busy ≡ true
  -- what is said is so, fault or not, where the card can't have failed or holds no error
  pub calm : IsThereAfter said new.card → may_fail old.card ≡ false → new.card ≡ polled_to said old.card
  pub shown : IsThereAfter said new.card → new.card.errors ≡ 0 → new.card ≡ polled_to said old.card
  -- in rcv a write goes on where it was, fault or not
  pub goes_on : is_in new.card.state Rcv ≡ true
      → (is_in old.card.state Rcv ≡ true) × (next_written new.card ≡ next_written old.card)
  pub patient : NoFault old new → said ≡ true → old.card.polled < patience
  pub fine : NoFault old new → new.card ≡ polled_to said old.card

-- Blocks.

-- The card has accepted the block as the next one of its write, once it wasn't busy any more, and if it holds no error none before
-- it has failed.
pub record IsAccepted (block : Sector) (old new : BusView) : Type 0 where
  pub could : can_accept old.lines (record old.card { is_busy = false }) ≡ true
  pub goes_on : next_written new.card ≡ next_written old.card + 1
  pub shown : new.card.errors ≡ 0 → new.card ≡ accepted block old.card

pub record WriteFacts (old : BusView) (block : Sector) (got : DataOut) (new : BusView) : Type 0 where
  pub stays : Stays old new
  -- the next sector of the write may hold the block too
  pub widens : WithinOrAccepted old.card block new.card
  pub stands : StillStands old.card new.card
  -- an accepted block was accepted by the card, fault or not
  pub accepts : got ≡ Sent.Accepted → IsAccepted block old new
  pub fine : NoFault old new → can_accept old.lines old.card ≡ true
      → (got ≡ Sent.Accepted) × (new.card ≡ accepted block old.card)
  -- one that couldn't if it weren't busy stays as time has left it
  pub refuses : NoFault old new → can_accept old.lines (record old.card { is_busy = false }) ≡ false
      → (got ≡ Sent.Nothing) × AfterSomeTime old (λ card. new.card ≡ card)

pub record ReadFacts (old : BusView) (size : ℕ) (got : DataIn) (block : List ℕ) (new : BusView) : Type 0 where
  pub stays : Stays old new
  pub narrows : Within (holds new.card) (holds old.card)
  pub stands : StillStands old.card new.card
  -- a good block is the one that the card had to send, fault or not
  pub good : got ≡ Received.Good
      → (can_send old.lines size old.card ≡ true) × (next_block old.card ≡ Some block)
      × ((choice : Choice) × (new.card ≡ sent choice old.card))
  pub fine : NoFault old new → can_send old.lines size old.card ≡ true → old.card.is_busy ≡ false → got ≡ Received.Good
  pub refuses : NoFault old new → can_send old.lines size old.card ≡ false → (got ≡ Received.Nothing)
      × (new.card ≡ old.card)
