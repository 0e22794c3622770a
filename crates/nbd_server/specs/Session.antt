-- A session: which requests were read, and that each was served.
use Rattle.std.specs.Prelude.{Bool, Err, List, Ok, OnOk, Option, Result, Some, [], false, true, ◌++◌, ◌-◌, ◌^◌, ◌≡◌, ◌⊎◌, length, map, ℕ}
use Rattle.std.specs.List.{All, flat_map}
use Rattle.std.specs.Io.KnownBytes.{Appends, Consumes, IsAtEnd}
use Rattle.nbd_messages.specs.declared.command.Command.TheVariants.{Disconnect}
use Rattle.nbd_messages.specs.declared.request.RequestHeader.{RequestHeader}
use Rattle.mmc_card.specs.BusView.{BusView}
use Rattle.mmc_block.specs.Device.{unanswered_of}
use Rattle.nbd_server.specs.Acts.{Act, AreTurns, asked}
use Rattle.nbd_server.specs.Desk.{DeskView, Does}
use Rattle.nbd_server.specs.Exports.{IsExport}
use Rattle.nbd_server.specs.Messages.{IsJunk, IsRequest}
use Rattle.nbd_server.specs.Served.{IsServed, IsServedBy, Served}
use Rattle.nbd_server.specs.declared.export.Export.{Export}
use Rattle.nbd_server.specs.declared.fault.InputFault.{InputFault}
use Rattle.nbd_server.specs.declared.fault.InputFault.TheVariants.{Junk}
use Rattle.nbd_server.specs.declared.fault.OutputFault.{OutputFault}
use Rattle.nbd_server.specs.declared.fault.SessionFault.{SessionFault}
use Rattle.nbd_server.specs.declared.fault.SessionFault.TheVariants.{Input, Output}

-- how something went, whatever came of it
abbrev pub done_of : {X E : Type 0} → Result X E → Result (Unit {0}) E
done_of (Ok x) = Ok tt
done_of (Err e) = Err e

-- a request is served, or it ends the session
abbrev pub IsTakenUp : Export → RequestHeader → Option (List ℕ) → List Act → Bool → Type 0
IsTakenUp export header given acts true = IsServedBy export header given acts
IsTakenUp export header given acts false = (acts ≡ []) × (header.command ≡ Some Disconnect)

-- these bytes end the session: the request that asks for it, or the end of the input
abbrev pub IsEnd : Option (List ℕ) → List ℕ → Type 0
IsEnd left last =
    ((last ≡ []) × IsAtEnd left)
    ⊎ ((header : RequestHeader) × (rest : List ℕ) × (header.command ≡ Some Disconnect) × IsRequest header rest last)

-- These requests were next in the input, and this is left after them: each was served, in their order, and nothing else was done.
pub record AreTakenUp (export : Export) (old left : Option (List ℕ)) (acts : List Act) (served : List Served) : Type 0 where
  pub read : Consumes old left (flat_map (λ (s : Served). s.bytes) served)
  pub each : All (IsServed export) served
  pub cookies : asked acts ≡ map (λ (s : Served). s.header.cookie) served
  pub turns : List Act
  pub are_turns : AreTurns turns
  pub all : acts ≡ flat_map (λ (s : Served). s.acts) served ++ turns

-- the session ends there, or as many requests were served as can be
abbrev pub Ends : Option (List ℕ) → Option (List ℕ) → List Served → Type 0
Ends left new served =
    (last : List ℕ) × Consumes left new last × (IsEnd left last ⊎ (length served ≡ 2 ^ 64 - 1))

-- how the input ended: so, or in a fault, which is junk only where no request stands next
abbrev pub EndsAs : Result (Unit {0}) InputFault → Option (List ℕ) → Option (List ℕ) → List Served → Type 0
EndsAs (Ok done) left new served = Ends left new served
EndsAs (Err Junk) left new served = IsJunk left new
EndsAs (Err fault) left new served = Unit {0}

-- The negotiation.

-- some bytes went out
abbrev pub Grows : Option (List ℕ) → Option (List ℕ) → Type 0
Grows old new = (text : List ℕ) × Appends old new text

-- some bytes were read
abbrev pub Shrinks : Option (List ℕ) → Option (List ℕ) → Type 0
Shrinks old new = (bytes : List ℕ) × Consumes old new bytes

-- The whole session.

-- how the output went: no other fault is one of it
abbrev pub output_of : Result (Unit {0}) SessionFault → Result (Unit {0}) OutputFault
output_of (Err (Output fault)) = Err fault
output_of result = Ok tt

-- how its input ended
abbrev pub input_of : Result (Unit {0}) SessionFault → Result (Unit {0}) InputFault
input_of (Err (Input fault)) = Err fault
input_of result = Ok tt

-- An export was agreed, and then requests were next in the input: each was served once, in their order. Unless the output failed
-- nothing is without an answer at the end.
pub record IsSession {B : Type 0} (view : B → BusView) (old new : DeskView B) (in_old in_new : Option (List ℕ))
    (before after : Option (List ℕ)) (result : Result (Unit {0}) SessionFault) : Type 0 where
  pub export : Export
  pub begins : Option (List ℕ)
  pub begun : Option (List ℕ)
  pub left : Option (List ℕ)
  pub acts : List Act
  pub served : List Served
  pub agreed : IsExport old.device.info export
  pub negotiated : Shrinks in_old begins × Grows before begun
  pub does : Does view old new begun after (output_of result) acts
  pub requests : OnOk (output_of result) (AreTakenUp export begins left acts served)
  pub answered : OnOk (output_of result) (unanswered_of new.device ≡ 0)
  pub ends : OnOk (output_of result) (EndsAs (input_of result) left in_new served)
