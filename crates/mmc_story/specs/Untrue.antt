-- A story for where none is given.
use Rattle.std.specs.Prelude.{[], false}
use Rattle.std.proofs.lemmas.Bool.{false≢true}
use Rattle.mmc_card.specs.Card.{powered_on}
use Rattle.mmc_bus.specs.Wires.{nothing_made}
use Rattle.mmc_story.specs.Story.{Outcome, Story}

-- of a card of which nothing is known
abbrev pub unknown : Outcome
unknown = record { card = powered_on nothing_made []; faults = 0; conformed = false }

-- the story that is never true
abbrev pub never_true : Story
never_true = record { outcome = λ past. unknown; explains = λ entry past said. absurd (false≢true said) }
