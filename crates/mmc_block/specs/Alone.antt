-- A request on a card at which nothing waits: it is submitted, and the turn after it answers it.
use Rattle.std.specs.Prelude.{◌+◌, ◌∷◌, ◌≡◌, [], false, true, ℕ}
use Rattle.mmc_card.specs.Sectors.{Sets, Within}
use Rattle.mmc_queue.specs.Requests.{is_read}
use Rattle.mmc_queue.specs.declared.request.Request.{Request}
use Rattle.mmc_switch.specs.declared.info.Info.{Info}
use Rattle.mmc_block.specs.InOrder.{AreDecided}
use Rattle.mmc_block.specs.Machine.{Accepts, AreJoined, Machine, Turns, effect, failed_effect}
use Rattle.mmc_block.specs.declared.completion.Answer.{Answer}
use Rattle.mmc_block.specs.declared.completion.Answer.TheVariants.{Data, Done, Failed}

-- the machine where nothing waits or is in service
abbrev pub idle : Sets → ℕ → Machine
idle sets next = record { sets = sets; waits = []; in_service = []; next = next }

-- the request is submitted, and answered so by the turn after it
pub record IsServedAlone (info : Info) (old : Machine) (request : Request) (answer : Answer) (new : Machine) : Type 0 where
  pub accepted : Machine
  pub accepts : Accepts old 0 request old.next accepted
  pub turns : Turns info accepted (record { ticket = old.next; client = 0; answer = answer } ∷ []) new

-- What a request that was answered so leaves of what sectors may hold: where it was done its new values, of a read just what it gave,
-- each sector decided; and where it failed old or new ones.
abbrev pub Leaves : Info → Request → Sets → Answer → Sets → Type 0
Leaves info request old Done new = (is_read request ≡ false) × Within new (effect info request old) × AreDecided new
Leaves info request old (Data bytes) new = (is_read request ≡ true) × AreJoined request new bytes × Within new old × AreDecided new
Leaves info request old (Failed cause) new = Within new (failed_effect info request old)

-- A request that leaves sectors so is such a step of the machine, whose sectors may hold no less.
abbrev pub ServesAlone : Type 0
ServesAlone =
    (info : Info) (sets : Sets) (next : ℕ) (request : Request) (answer : Answer) (old now : Sets)
    → Within old sets → Leaves info request old answer now
    → (left : Sets) × IsServedAlone info (idle sets next) request answer (idle left (next + 1)) × Within now left
