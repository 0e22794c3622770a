use Rattle.card_served.proofs.SavedLemmas.{saved_next}
use Rattle.card_served.specs.Saved.{all_parts}
use Rattle.mmc_card.specs.declared.part.Part.TheVariants.{User}
use Rattle.card_served.proofs.saving.save_all.Goals as goal

pub loop-part-preserved : goal.loop-part-preserved
loop-part-preserved g c = saved_next c.args.card.now.card _ _ _ all_parts c.loop-part.part-index User c.loop-part-test.true c.loop-part.invariant c.in_ok-save_part.ensures
