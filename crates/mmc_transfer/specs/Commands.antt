-- What the commands of a run do, and where they can be sent.
use Rattle.std.specs.Prelude.{◌≡◌, ◌⊎◌, Bool, IsOk, Result, Some, false, if◌then◌else◌, true, ℕ}
use Rattle.mmc_frame.specs.declared.card_state.State.{State}
use Rattle.mmc_frame.specs.declared.card_state.State.TheVariants.{Data, Rcv, Tran}
use Rattle.mmc_frame.specs.declared.commands.TheConstants as Index
use Rattle.mmc_frame.specs.declared.kind.Kind.{Kind}
use Rattle.mmc_card.specs.BusView.{BusView}
use Rattle.mmc_card.specs.Card.{Card, NoAddress}
use Rattle.mmc_card.specs.CardLaws.{HasNoError}
use Rattle.mmc_card.specs.Laws.{AfterSomeTime, IsStill}
use Rattle.mmc_bus.specs.CommandLaws.{IsStopped}
use Rattle.mmc_card.specs.ErrorBits.{out_of_range}
use Rattle.mmc_card.specs.Made.{has_cmd23}
use Rattle.mmc_card.specs.RowsTransfer.{begun, preset, transfer_errors}
use Rattle.mmc_bus.specs.Work.{Narrows, Works}
use Rattle.mmc_bus.specs.declared.cause.Cause.{Cause}
use Rattle.mmc_transfer.specs.declared.way.Way.{Way}
use Rattle.mmc_transfer.specs.declared.way.Way.TheVariants.{Read, Write}

-- The command that begins a transfer of one block, or of several: CMD17 or CMD18, CMD24 or CMD25.
abbrev pub index_of : Way → Bool → ℕ
index_of Read is_single = if is_single then Index.READ_SINGLE_BLOCK else Index.READ_MULTIPLE_BLOCK
index_of Write is_single = if is_single then Index.WRITE_BLOCK else Index.WRITE_MULTIPLE_BLOCK

abbrev pub is_write : Way → Bool
is_write Read = false
is_write Write = true

-- in data the card sends blocks, in rcv it accepts them
abbrev pub state_of : Way → State
state_of Read = Data
state_of Write = Rcv

-- the card has begun to send the sectors from this address on, or to accept blocks for them
abbrev pub starts : Way → Bool → Card → ℕ → Card
starts way is_single card address =
    begun (state_of way) is_single (if is_single then Some 1 else preset card) card address

-- a card of this kind in tran in which nothing goes on, that holds no erase address and shows no error in its R1
pub record CanObey (kind : Kind) (card : Card) : Type 0 where
  pub is_still : IsStill card
  pub is_kind : card.made.kind ≡ kind
  pub tran : card.state ≡ Tran
  pub erase : card.erase ≡ NoAddress
  pub no_error : HasNoError kind card

-- that knows CMD23
pub record CanPreset (kind : Kind) (card : Card) : Type 0 where
  pub obeys : CanObey kind card
  pub knows : has_cmd23 card.made ≡ true

-- that begins a transfer there
pub record CanStart (kind : Kind) (way : Way) (card : Card) (address : ℕ) : Type 0 where
  pub obeys : CanObey kind card
  pub allowed : transfer_errors (is_write way) card address ≡ 0

-- The command that begins a transfer, judged: its response is good only where it has begun, and is good where it can.
abbrev pub Begins : Kind → Way → Bool → ℕ → BusView → Result Unit Cause → BusView → Type 0
Begins kind way is_single address old started =
    Works Narrows
    (λ old new. IsOk started → IsStill old.card → old.card.erase ≡ NoAddress → new.card ≡ starts way is_single old.card address)
    (λ old new. CanStart kind way old.card address → IsOk started) old

-- A transfer is under way.
abbrev pub IsMoving : Card → Type 0
IsMoving card = (card.state ≡ Data) ⊎ (card.state ≡ Rcv)

-- OUT_OF_RANGE alone is no error of CMD12 after a read: the card goes on sending until CMD12 comes, and may run past the end of the
-- partition. After a write it is one (SD Physical Layer 6.00, section 4.3.3; JESD84-B51, section 6.6.7).
abbrev pub may_run_out : Way → Bool
may_run_out Read = true
may_run_out Write = false

-- CMD12 ended the transfer, as time had left it.
abbrev pub EndsIt : BusView → BusView → Type 0
EndsIt old new = AfterSomeTime old (λ card. IsStopped card new.card)

-- it is of this kind, and ends without an error, or, where it may run out, with OUT_OF_RANGE alone
pub record CanStop (kind : Kind) (runs_out : Bool) (card : Card) : Type 0 where
  pub is_kind : card.made.kind ≡ kind
  pub moving : IsMoving card
  pub no_error : HasNoError kind (record card { errors = 0 })
  pub errors : (card.errors ≡ 0) ⊎ ((runs_out ≡ true) × (card.errors ≡ out_of_range))
