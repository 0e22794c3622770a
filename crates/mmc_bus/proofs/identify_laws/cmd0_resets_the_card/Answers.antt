use Rattle.std.proofs.Common.{◌∙◌, refl}
use Rattle.mmc_bus.proofs.InquiryLemmas.{reset_reached}
use Rattle.mmc_bus.proofs.identify_laws.cmd0_resets_the_card.Goals as goal

pub returns : goal.returns
returns c = λ old new argument heard facts same.
    let f = facts.fine same in (
      f.choice.lands,
      f.choice.keeps_length,
      (f.obeys refl refl).0 ∙ reset_reached f.choice.lands f.choice.keeps_length f.choice.drops_quietly old.card,
    )
