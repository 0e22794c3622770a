-- The phases of a session: identification, transfer, and settling, which is what a host does after an exchange that failed.
use Rattle.std.specs.Prelude.{ℕ, ◌%◌, ◌^◌, ◌||◌, ◌==◌, not, if◌then◌else◌, Bool, false, true, List, [], ◌∷◌, Option, None, Some, Result, Ok, Err}
use Rattle.mmc_frame.specs.Frame.{command_in, response_in}
use Rattle.mmc_frame.specs.RegisterFrame.{register_in}
use Rattle.mmc_frame.specs.Status.{error_bits, own_status}
use Rattle.mmc_frame.specs.declared.commands.TheConstants as Index
use Rattle.mmc_frame.specs.declared.fault.FrameFault.{FrameFault}
use Rattle.mmc_frame.specs.declared.kind.Kind.{Kind}
use Rattle.mmc_card.specs.declared.exchange.DataIn.TheVariants as Received
use Rattle.mmc_card.specs.declared.exchange.DataOut.TheVariants as Sent
use Rattle.mmc_card.specs.declared.exchange.Exchange.{Exchange}
use Rattle.mmc_card.specs.declared.exchange.Exchange.TheVariants.{Busy, Command, In, Out}
use Rattle.mmc_card.specs.declared.exchange.Reply.{Reply}
use Rattle.mmc_card.specs.declared.exchange.Reply.TheVariants.{Long, Short, Silent}
use Rattle.mmc_card.specs.declared.exchange.Want.{Want}
use Rattle.mmc_card.specs.declared.exchange.Want.TheVariants as Wanted
use Rattle.card_explain.specs.Exchanges.{announces}
use Rattle.card_explain.specs.declared.line.Numbered.{Numbered}
use Rattle.card_explain.specs.declared.settling.Phase.{Phase}
use Rattle.card_explain.specs.declared.settling.Phase.TheVariants.{Identification, Settling, Transfer}
use Rattle.card_explain.specs.declared.step.Step.{Step}

abbrev pub is_index : ℕ → Option (ℕ × ℕ) → Bool
is_index index None = false
is_index index (Some (sent, argument)) = sent == index

-- a command with this index
unfoldable pub sends : ℕ → Exchange → Bool
sends index (Command frame want reply) = is_index index (command_in frame)
sends index exchange = false

-- The errors of a status, but for those of an earlier command, and after CMD12 for OUT_OF_RANGE, bit 31, which a read up to the
-- last block may leave (SD Physical Layer 6.00, section 4.3.3).
abbrev pub own_errors : Kind → ℕ → ℕ → ℕ
own_errors kind index status =
    if index == Index.STOP_TRANSMISSION then error_bits kind (own_status status) % 2 ^ 31
    else error_bits kind (own_status status)

-- a response to a command with this index is unsound, or its status reports an error
abbrev pub status_fails : Kind → ℕ → Result ℕ FrameFault → Bool
status_fails kind index (Ok status) = not (own_errors kind index status == 0)
status_fails kind index (Err fault) = true

-- the response to a command with this index and argument
abbrev pub response_fails : Kind → Option (ℕ × ℕ) → List ℕ → Bool
response_fails kind None response = true
response_fails kind (Some (index, argument)) response = status_fails kind index (response_in response index)

abbrev pub register_fails : Result (List ℕ) FrameFault → Bool
register_fails (Ok register) = false
register_fails (Err fault) = true

-- a response is missing, though one is wanted, or fails
abbrev pub reply_fails : Kind → List ℕ → Want → Reply → Bool
reply_fails kind frame want (Short response) = response_fails kind (command_in frame) response
reply_fails kind frame want (Long response) = register_fails (register_in response)
reply_fails kind frame Wanted.Nothing Silent = false
reply_fails kind frame Wanted.Short Silent = true
reply_fails kind frame Wanted.Long Silent = true

-- an exchange fails: its response does, or its block doesn't come, comes with a bad check, or isn't accepted
unfoldable pub fails : Kind → Exchange → Bool
fails kind (Command frame want reply) = reply_fails kind frame want reply
fails kind (In len Received.Good) = false
fails kind (In len Received.Bad) = true
fails kind (In len Received.Nothing) = true
fails kind (Out Sent.Accepted) = false
fails kind (Out Sent.Rejected) = true
fails kind (Out Sent.Nothing) = true
fails kind (Busy said) = false

-- an exchange by which a host settles a card: CMD12, CMD13, CMD16, or a poll
unfoldable pub settles : Exchange → Bool
settles (Busy said) = true
settles exchange =
    sends Index.STOP_TRANSMISSION exchange || (sends Index.SEND_STATUS exchange || sends Index.SET_BLOCKLEN exchange)

abbrev pub phase_within : Phase → Bool → Phase
phase_within Settling false = Transfer
phase_within phase settling = phase

-- The phase of an exchange, by the phase in which those before it leave the card: CMD0 begins identification, and settling goes
-- on as long as the host settles.
unfoldable pub phase_of : Phase → Exchange → Phase
phase_of left exchange =
    if sends Index.GO_IDLE_STATE exchange then Identification else phase_within left (settles exchange)

-- The phase in which an exchange leaves the card, by its own: CMD3 ends identification, in which silence is an answer; later on
-- an exchange that fails begins settling.
unfoldable pub phase_after : Kind → Phase → Exchange → Phase
phase_after kind Identification exchange = if sends Index.SEND_RELATIVE_ADDR exchange then Transfer else Identification
phase_after kind Transfer exchange = if fails kind exchange then Settling else Transfer
phase_after kind Settling exchange = Settling

-- settling has ended between these phases
abbrev pub is_settled : Phase → Phase → Bool
is_settled Settling Transfer = true
is_settled before phase = false

-- each exchange with what those before it say of it
unfoldable pub steps_from : Kind → Bool → Phase → List Numbered → List Step
steps_from kind is_app left [] = []
steps_from kind is_app left (one ∷ others) =
    let phase = phase_of left one.exchange in
    record { numbered = one; is_app = is_app; phase = phase; is_settled = is_settled left phase }
    ∷ steps_from kind (announces one.exchange) (phase_after kind phase one.exchange) others
