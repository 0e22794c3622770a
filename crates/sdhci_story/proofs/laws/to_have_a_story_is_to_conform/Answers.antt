use Rattle.sdhci_story.proofs.ConformingLemmas.{steps_of, story_of}
use Rattle.sdhci_story.proofs.laws.to_have_a_story_is_to_conform.Goals as goal

pub returns : goal.returns
returns c = record { steps = steps_of; story = story_of }
