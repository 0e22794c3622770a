-- Headline (docs/AUDIT.md, "What to read").
-- The sector machine with its groups: what may become of sectors and of requests, of which some wait and some are in service. It knows
-- no frame, no state of a card, no attempt and no recovery. What clients see of it stands in Clients. The rules are the project's own.
use Rattle.std.specs.Prelude.{◌*◌, ◌+◌, ◌++◌, ◌<◌, ◌∷◌, ◌≡◌, ◌≤◌, ◌⊎◌, List, [], false, length, true, ℕ}
use Rattle.mmc_card.specs.declared.part.Part.{Part}
use Rattle.mmc_card.specs.Sectors.{AreRead, IsDecided, IsIn, Same, Sector, Sets, changed, maybe_changed, pieces}
use Rattle.mmc_card.specs.Sectors.{touches}
use Rattle.mmc_block.specs.declared.completion.Answer.{Answer}
use Rattle.mmc_block.specs.declared.completion.Answer.TheVariants.{Data, Done, Failed}
use Rattle.mmc_block.specs.declared.completion.Completion.{Completion}
use Rattle.mmc_switch.specs.declared.info.Info.{Info}
use Rattle.mmc_queue.specs.declared.extent.TheConstants.{MAX_GROUP}
use Rattle.mmc_queue.specs.declared.request.Request.{Request}
use Rattle.mmc_block.specs.Changes.{change_of}
use Rattle.mmc_queue.specs.Requests.{Names, conflicts, count_of, is_read, kind_of, part_of, start_of}

-- an accepted request that has no answer yet
pub record Waiting : Type 0 where
  pub ticket : ℕ
  pub client : ℕ
  pub request : Request

-- For each sector the values that it may hold; those that wait and those in service, each by ticket; the next ticket.
pub record Machine : Type 0 where
  pub sets : Sets
  pub waits : List Waiting
  pub in_service : List Waiting
  pub next : ℕ

-- The machine of a card that was just opened: its sectors may hold this, and nothing waits.
abbrev pub opened : Sets → Machine
opened sets = record { sets = sets; waits = []; in_service = []; next = 0 }

-- it is one of these
abbrev pub IsAmong : {A : Type 0} → List A → A → Type 0
IsAmong [] x = ⊥
IsAmong (y ∷ ys) x = (x ≡ y) ⊎ IsAmong ys x

-- Effects.

-- a request that is carried out changes its sectors
abbrev pub effect : Info → Request → Sets → Sets
effect info request sets = changed (change_of info request) sets

-- one that fails leaves each of them old or new
abbrev pub failed_effect : Info → Request → Sets → Sets
failed_effect info request sets = maybe_changed (change_of info request) sets

-- each of these failed
abbrev pub all_failed : Info → List Waiting → Sets → Sets
all_failed info [] sets = sets
all_failed info (w ∷ ws) sets = all_failed info ws (failed_effect info w.request sets)

-- none of these changes the sector
abbrev pub NoneChanges : Info → List Waiting → Part → ℕ → Type 0
NoneChanges info [] part sector = Unit {0}
NoneChanges info (w ∷ ws) part sector = (touches (change_of info w.request) part sector ≡ false)
    × NoneChanges info ws part sector

-- each sector is decided that none of these changes
abbrev pub AreDecidedBut : Info → List Waiting → Sets → Type 0
AreDecidedBut info ws sets = (part : Part) (sector : ℕ) → NoneChanges info ws part sector → IsDecided (sets part sector)

-- each sector that the request names is decided
abbrev pub HasDecided : Request → Sets → Type 0
HasDecided request sets = (part : Part) (sector : ℕ) → Names request part sector → IsDecided (sets part sector)

-- the bytes are the request's sectors, joined
abbrev pub AreJoined : Request → Sets → List ℕ → Type 0
AreJoined request sets bytes =
    (length bytes ≡ 512 * count_of request) × AreRead sets (part_of request) (start_of request)
    (pieces (count_of request) bytes)

-- What an answer means for the sectors, while these others stay in service.
abbrev pub IsAnswered : Info → Request → List Waiting → Sets → Answer → Sets → Type 0
IsAnswered info request others old Done new =
    (is_read request ≡ false) × Same new (effect info request old) × AreDecidedBut info others new
IsAnswered info request others old (Data bytes) new =
    (is_read request ≡ true) × Same new old × AreJoined request old bytes × HasDecided request new
    × AreDecidedBut info others new
IsAnswered info request others old (Failed cause) new = Same new (failed_effect info request old)

-- Steps.

-- decide: of each sector's values all stay, or one of them alone
abbrev pub Decides : Sets → Sets → Type 0
Decides old new =
    (part : Part) (sector : ℕ)
    → (new part sector ≡ old part sector) ⊎ ((value : Sector) × IsIn (old part sector) value
    × (new part sector ≡ value ∷ []))

-- none of these came earlier and conflicts
abbrev pub PassesNone : Waiting → List Waiting → Type 0
PassesNone w [] = Unit {0}
PassesNone w (v ∷ vs) = (v.ticket < w.ticket → conflicts v.request w.request ≡ false) × PassesNone w vs

-- complete: sectors are decided, and then one in service leaves with its answer, and passes no earlier one that
-- conflicts
pub record Completes (info : Info) (old : Machine) (completion : Completion) (new : Machine) : Type 0 where
  pub before : List Waiting
  pub w : Waiting
  pub after : List Waiting
  pub served : old.in_service ≡ before ++ w ∷ after
  pub ticket : completion.ticket ≡ w.ticket
  pub client : completion.client ≡ w.client
  pub passes_none_waiting : PassesNone w old.waits
  pub passes_none_served : PassesNone w old.in_service
  pub decided : Sets
  pub decides : Decides old.sets decided
  pub answered : IsAnswered info w.request (before ++ after) decided completion.answer new.sets
  pub leaves : new.in_service ≡ before ++ after
  pub waits : new.waits ≡ old.waits
  pub next : new.next ≡ old.next

abbrev pub CompletesAll : Info → Machine → List Completion → Machine → Type 0
CompletesAll info old [] new = new ≡ old
CompletesAll info old (c ∷ cs) new = (mid : Machine) × Completes info old c mid × CompletesAll info mid cs new

-- the tickets ascend, from this one on
abbrev pub Ascend : ℕ → List Completion → Type 0
Ascend low [] = Unit {0}
Ascend low (c ∷ cs) = (low ≤ c.ticket) × Ascend (c.ticket + 1) cs

-- the list is two others, each in its own order
abbrev pub IsMerged : List Waiting → List Waiting → List Waiting → Type 0
IsMerged [] xs ys = (xs ≡ []) × (ys ≡ [])
IsMerged (z ∷ zs) xs ys =
    ((rest : List Waiting) × (xs ≡ z ∷ rest) × IsMerged zs rest ys)
    ⊎ ((rest : List Waiting) × (ys ≡ z ∷ rest) × IsMerged zs xs rest)

-- all of one partition and kind
abbrev pub AreAlike : Request → List Waiting → Type 0
AreAlike request [] = Unit {0}
AreAlike request (w ∷ ws) = (part_of w.request ≡ part_of request) × (kind_of w.request ≡ kind_of request)
    × AreAlike request ws

-- start: where nothing is in service, one to sixteen alike go into service, the oldest among them
pub record Starts (old new : Machine) : Type 0 where
  pub oldest : Waiting
  pub others : List Waiting
  pub later : List Waiting
  pub idle : old.in_service ≡ []
  pub group : new.in_service ≡ oldest ∷ others
  pub alike : AreAlike oldest.request others
  pub few : length others < MAX_GROUP
  pub first : old.waits ≡ oldest ∷ later
  pub left : IsMerged later others new.waits
  pub sets : new.sets ≡ old.sets
  pub next : new.next ≡ old.next

-- a start where nothing is in service and something waits
abbrev pub StartsIfIdle : Machine → Machine → Type 0
StartsIfIdle old new = Starts old new ⊎ ((new ≡ old) × (old.in_service ≡ [] → old.waits ≡ []))

-- requests are answered so, in ascending order of ticket
pub record AnswersAll (info : Info) (old : Machine) (completions : List Completion) (new : Machine) : Type 0 where
  pub completes : CompletesAll info old completions new
  pub ascend : Ascend 0 completions

-- a turn: a start if nothing is in service, then answers in ascending order of ticket
pub record Turns (info : Info) (old : Machine) (completions : List Completion) (new : Machine) : Type 0 where
  pub started : Machine
  pub start : StartsIfIdle old started
  pub answers : AnswersAll info started completions new

-- a submission is accepted under the next ticket
pub record Accepts (old : Machine) (client : ℕ) (request : Request) (ticket : ℕ) (new : Machine) : Type 0 where
  pub ticket_is : ticket ≡ old.next
  pub waits : new ≡ record old {
    waits = old.waits ++ record {
      ticket = old.next;
      client = client;
      request = request;
    } ∷ [];
    next = old.next + 1;
  }

-- cancel: a request that waits leaves without effect
pub record GivesBack (old : Machine) (ticket : ℕ) (request : Request) (new : Machine) : Type 0 where
  pub before : List Waiting
  pub w : Waiting
  pub after : List Waiting
  pub waited : old.waits ≡ before ++ w ∷ after
  pub ticket_is : w.ticket ≡ ticket
  pub request_is : request ≡ w.request
  pub leaves : new ≡ record old { waits = before ++ after }

-- the ticket is that of one of these
abbrev pub IsTicketOf : ℕ → List Waiting → Type 0
IsTicketOf ticket [] = ⊥
IsTicketOf ticket (w ∷ ws) = (ticket ≡ w.ticket) ⊎ IsTicketOf ticket ws
