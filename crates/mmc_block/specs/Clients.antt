-- Headline (docs/AUDIT.md, "What to read").
-- The sector machine as clients see it: their calls with the answers, and what each sector may hold. It knows no groups.
use Rattle.std.specs.Prelude.{◌+◌, ◌++◌, ◌∷◌, ◌≡◌, Err, List, Ok, Result, [], false, true, ℕ}
use Rattle.mmc_card.specs.Sectors.{Sets, Within, changed, pieces}
use Rattle.mmc_requests.specs.Changes.{written_at}
use Rattle.mmc_queue.specs.Requests.{count_of, is_read, part_of, start_of}
use Rattle.mmc_queue.specs.declared.request.Request.{Request}
use Rattle.mmc_switch.specs.declared.info.Info.{Info}
use Rattle.mmc_block.specs.Machine.{AreJoined, IsTicketOf, PassesNone, Waiting, effect, failed_effect}
use Rattle.mmc_block.specs.declared.cancel.CancelFault.{CancelFault}
use Rattle.mmc_block.specs.declared.cancel.CancelFault.TheVariants as fault
use Rattle.mmc_block.specs.declared.completion.Answer.{Answer}
use Rattle.mmc_block.specs.declared.completion.Answer.TheVariants.{Data, Done, Failed}
use Rattle.mmc_block.specs.declared.completion.Completion.{Completion}
use Rattle.mmc_block.specs.declared.refused.Refused.{Refused}

-- For each sector the values that it may hold; the requests without an answer, each by ticket; the next ticket.
pub record ClientMachine : Type 0 where
  pub sets : Sets
  pub outstanding : List Waiting
  pub next : ℕ

-- the machine where nothing is without an answer
abbrev pub at_rest : Sets → ℕ → ClientMachine
at_rest sets next = record { sets = sets; outstanding = []; next = next }

-- A call with its reply.
pub data Told : Type 0 where
  -- a client's request: accepted under a ticket, or handed back with the reason
  Submitted : ℕ → Request → Result ℕ (Request × Refused) → Told
  -- the request of a ticket: given back, or not
  Cancelled : ℕ → Result Request CancelFault → Told
  -- a turn, with the answers that came of it
  Answered : List Completion → Told

-- Each of these is such a step, one after the other.
abbrev pub AreSteps : {S A : Type 0} → (S → A → S → Type 0) → S → List A → S → Type 0
AreSteps {S} Step old [] new = new ≡ old
AreSteps {S} Step old (x ∷ xs) new = (mid : S) × Step old x mid × AreSteps Step mid xs new

-- these requests but this one, in their order
pub record IsWithout (w : Waiting) (old new : List Waiting) : Type 0 where
  pub before : List Waiting
  pub after : List Waiting
  pub old_is : old ≡ before ++ w ∷ after
  pub new_is : new ≡ before ++ after

-- What an answer means for what sectors may hold. A request that is done has changed all its sectors, a read shows what they hold,
-- and one that failed leaves each of them old or new. No other sector may hold more than before.
abbrev pub AnswerMeans : Info → Request → Sets → Answer → Sets → Type 0
AnswerMeans info request old Done new = (is_read request ≡ false) × Within new (effect info request old)
AnswerMeans info request old (Data bytes) new =
    (is_read request ≡ true) × AreJoined request old bytes
    × Within new (changed (written_at (part_of request) (start_of request) (pieces (count_of request) bytes)) old)
AnswerMeans info request old (Failed cause) new = Within new (failed_effect info request old)

-- A request is accepted under the next ticket.
pub record Submits (old : ClientMachine) (client : ℕ) (request : Request) (ticket : ℕ) (new : ClientMachine) : Type 0 where
  pub ticket_is : ticket ≡ old.next
  pub becomes : new ≡ record old {
    outstanding = old.outstanding ++ record {
      ticket = old.next;
      client = client;
      request = request;
    } ∷ [];
    next = old.next + 1;
  }

-- It is given back, without effect.
pub record GetsBack (old : ClientMachine) (ticket : ℕ) (request : Request) (new : ClientMachine) : Type 0 where
  pub w : Waiting
  pub ticket_is : w.ticket ≡ ticket
  pub request_is : request ≡ w.request
  pub left : List Waiting
  pub without : IsWithout w old.outstanding left
  pub becomes : new ≡ record old { outstanding = left }

-- It leaves with its answer, whole and at once, and passes no earlier one that conflicts with it.
pub record GetsAnswer (info : Info) (old : ClientMachine) (completion : Completion) (new : ClientMachine) : Type 0 where
  pub w : Waiting
  pub ticket_is : completion.ticket ≡ w.ticket
  pub client_is : completion.client ≡ w.client
  pub without : IsWithout w old.outstanding new.outstanding
  pub passes_none : PassesNone w old.outstanding
  pub means : AnswerMeans info w.request old.sets completion.answer new.sets
  pub next : new.next ≡ old.next

-- A call with its reply is such a step.
abbrev pub ClientStep : Info → ClientMachine → Told → ClientMachine → Type 0
ClientStep info old (Submitted client request (Ok ticket)) new = Submits old client request ticket new
ClientStep info old (Submitted client request (Err refused)) new = new ≡ old
ClientStep info old (Cancelled ticket (Ok request)) new = GetsBack old ticket request new
ClientStep info old (Cancelled ticket (Err fault.InService)) new = IsTicketOf ticket old.outstanding × (new ≡ old)
ClientStep info old (Cancelled ticket (Err fault.Unknown)) new = (IsTicketOf ticket old.outstanding → ⊥) × (new ≡ old)
ClientStep info old (Answered completions) new = AreSteps (GetsAnswer info) old completions new
