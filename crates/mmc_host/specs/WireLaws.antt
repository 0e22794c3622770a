-- What a wire carries, a host can tell.
use Rattle.std.specs.Prelude.{◌≡◌, List, Some, ℕ}
use Rattle.mmc_frame.specs.Frame.{command_in}
use Rattle.mmc_card.specs.BusView.{BusView}
use Rattle.mmc_card.specs.CardAnswer.{CardAnswer, Choice, Silent}
use Rattle.mmc_card.specs.Faults.{CommandStep, IsFaultless, NoFault, Spells}
use Rattle.mmc_card.specs.Judged.{IsSaid}
use Rattle.mmc_card.specs.Rows.{respond}
use Rattle.mmc_card.specs.declared.exchange.Reply.{Reply}
use Rattle.mmc_host.specs.Hosts.{Answers}

-- a faithful answer, in which what isn't judged is open
abbrev pub FaithfulIsHeard : Type 0
FaithfulIsHeard =
    (choice : Choice) (old new : BusView) (index argument : ℕ) (said : CardAnswer) → IsFaultless choice old.card
    → NoFault old new → new.card ≡ (respond choice old.card index argument).0
    → IsSaid old.card.made.kind (respond choice old.card index argument).1 said → Answers old index argument said new

-- A step whose reply spells no answer, of which a bit was flipped, is the same step with its reply lost.
abbrev pub UnsoundIsLost : Type 0
UnsoundIsLost =
    (old new : BusView) (index argument : ℕ) (frame : List ℕ) (reply : Reply) → command_in frame ≡ Some (index, argument)
    → CommandStep old frame reply new → ((answer : CardAnswer) → Spells answer reply → ⊥)
    → Answers old index argument Silent new
