-- What is done with a request, from what it comes to until its reply.
use Rattle.std.specs.Prelude.{IfSome, List, None, Option, Some, [], ◌++◌, ◌≡◌, ◌∷◌, ◌⊎◌, ℕ}
use Rattle.mmc_card.specs.declared.part.Part.{Part}
use Rattle.mmc_block.specs.Execution.{Reply}
use Rattle.nbd_messages.specs.declared.error.ReplyError.{ReplyError}
use Rattle.nbd_messages.specs.declared.error.ReplyError.TheVariants.{Failed}
use Rattle.nbd_messages.specs.declared.request.RequestHeader.{RequestHeader}
use Rattle.nbd_server.specs.Acts.{Act, AreOfParts, AreTurns}
use Rattle.nbd_server.specs.Acts.Act.{Asks, Gives, Says}
use Rattle.nbd_server.specs.Messages.{IsRequest}
use Rattle.nbd_server.specs.Parts.{AreRead, AreWindows, AreWritten, HasFailedPart, Window}
use Rattle.nbd_server.specs.Plan.{IsPlan}
use Rattle.nbd_server.specs.declared.export.Export.{Export}
use Rattle.nbd_server.specs.declared.plan.Plan.{Plan}
use Rattle.nbd_server.specs.declared.plan.Plan.TheVariants.{Answer, Ask, Flush, ReadLong, WriteLong}
use Rattle.nbd_server.specs.declared.span.Span.{Span}

-- a long request has an error after some of its parts, which is a failure only where one of them failed
abbrev pub HasFailed : ℕ → List Act → Type 0
HasFailed cookie acts =
    (parts : List Act) × (error : ReplyError) × AreOfParts parts × (acts ≡ parts ++ Says cookie (Some error) ∷ [])
    × (error ≡ Failed → HasFailedPart parts)

-- All of its sectors were read, and these bytes are given.
pub record IsGiven (part : Part) (span : Span) (cookie : ℕ) (acts : List Act) : Type 0 where
  pub parts : List Act
  pub bytes : List ℕ
  pub windows : List Window
  pub of_parts : AreOfParts parts
  pub read : AreRead part span.start windows
  pub are : AreWindows windows span.count parts bytes
  pub done : acts ≡ parts ++ Gives cookie bytes ∷ []

-- All of these bytes were written.
pub record IsKept (part : Part) (span : Span) (bytes : List ℕ) (cookie : ℕ) (acts : List Act) : Type 0 where
  pub parts : List Act
  pub windows : List Window
  pub of_parts : AreOfParts parts
  pub written : AreWritten part span.start windows
  pub are : AreWindows windows span.count parts bytes
  pub done : acts ≡ parts ++ Says cookie None ∷ []

-- these acts are what is done with a request that comes to this
abbrev pub IsDoneAs : Part → ℕ → Plan → List Act → Type 0
IsDoneAs part cookie (Answer error) acts = acts ≡ Says cookie error ∷ []
IsDoneAs part cookie (Ask request) acts = (reply : Reply) × (acts ≡ Asks cookie request reply ∷ [])
IsDoneAs part cookie (ReadLong span) acts = HasFailed cookie acts ⊎ IsGiven part span cookie acts
IsDoneAs part cookie (WriteLong span bytes) acts = HasFailed cookie acts ⊎ IsKept part span bytes cookie acts
IsDoneAs part cookie Flush acts = acts ≡ Says cookie None ∷ []

-- after turns
abbrev pub IsServedAs : Part → ℕ → Plan → List Act → Type 0
IsServedAs part cookie plan acts =
    (turns own : List Act) × AreTurns turns × (acts ≡ turns ++ own) × IsDoneAs part cookie plan own

-- what is done with a request under this header, with these data
abbrev pub IsServedBy : Export → RequestHeader → Option (List ℕ) → List Act → Type 0
IsServedBy export header given acts =
    (plan : Plan) × IsPlan export header given plan × IsServedAs export.part header.cookie plan acts

-- A request of the client: its header, all of its bytes, and what was done with it.
pub record Served : Type 0 where
  pub header : RequestHeader
  pub bytes : List ℕ
  pub acts : List Act

-- it was served as it came; its data, where there was memory for them
abbrev pub IsServed : Export → Served → Type 0
IsServed export s =
    (data_after : List ℕ) × (given : Option (List ℕ)) × IsRequest s.header data_after s.bytes
    × IfSome given (λ bytes. bytes ≡ data_after) × IsServedBy export s.header given s.acts
