-- What a turn does over any bus.
use Rattle.std.specs.Prelude.{◌++◌, ◌*◌, ◌∷◌, ◌≡◌, ◌⊎◌, Bool, List, [], false, length}
use Rattle.mmc_bus.specs.declared.cause.Cause.{Cause}
use Rattle.mmc_queue.specs.declared.request.Request.{Request}
use Rattle.mmc_queue.specs.declared.request.Request.TheVariants.{Read}
use Rattle.mmc_block.specs.Groups.{PassNone}
use Rattle.mmc_block.specs.Machine.{IsMerged, Waiting}
use Rattle.mmc_block.specs.Work.{is_broken}
use Rattle.mmc_block.specs.declared.completion.Answer.{Answer}
use Rattle.mmc_block.specs.declared.completion.Answer.TheVariants.{Data, Done, Failed}
use Rattle.mmc_block.specs.declared.completion.Completion.{Completion}
use Rattle.mmc_block.specs.Service.{Service}
use Rattle.mmc_block.specs.Service.Service.{Idle, Serving, Taken}
use Rattle.mmc_block.specs.declared.service.Stage.TheVariants.{At}

-- Who is answered.

-- an answer of the right kind
abbrev pub Fits : Request → Answer → Type 0
Fits (Read part start count) Done = ⊥
Fits (Read part start count) (Data bytes) = length bytes ≡ 512 * count
Fits (Read part start count) (Failed cause) = Unit {0}
Fits request Done = Unit {0}
Fits request (Data bytes) = ⊥
Fits request (Failed cause) = Unit {0}

-- answers to these, in order, each under its ticket and client
abbrev pub AreFor : List Waiting → List Completion → Type 0
AreFor [] completions = completions ≡ []
AreFor (w ∷ ws) completions =
    (answer : Answer) × (rest : List Completion)
    × (completions ≡ record { ticket = w.ticket; client = w.client; answer = answer } ∷ rest)
    × Fits w.request answer × AreFor ws rest

-- Where nothing is in service some of those that wait go into service. Then the first in service are answered, and the
-- others stay; none that is answered passes an earlier one that conflicts, whether it waits or is in service still.
pub record Answers (waits in_service : List Waiting) (completions : List Completion)
    (waits_new in_service_new : List Waiting) : Type 0 where
  pub started : List Waiting
  pub start : ((started ≡ in_service) × (waits_new ≡ waits)) ⊎ ((in_service ≡ []) × IsMerged waits started waits_new)
  pub answered : List Waiting
  pub served : started ≡ answered ++ in_service_new
  pub named : AreFor answered completions
  pub passes_none : PassNone answered waits_new
  pub passes_none_served : PassNone answered in_service_new

-- Causes.

-- the cause of a failure
abbrev pub IfFailed : Answer → (Cause → Type 0) → Type 0
IfFailed Done P = Unit {0}
IfFailed (Data bytes) P = Unit {0}
IfFailed (Failed cause) P = P cause

abbrev pub IfEachFailed : List Completion → (Cause → Type 0) → Type 0
IfEachFailed [] P = Unit {0}
IfEachFailed (c ∷ cs) P = IfFailed c.answer P × IfEachFailed cs P

-- the card is broken, and is settled before anything else
abbrev pub holds_broken : Service → Bool
holds_broken (Idle stands) = is_broken (At stands)
holds_broken (Serving stage attempt) = is_broken stage
holds_broken Taken = false
