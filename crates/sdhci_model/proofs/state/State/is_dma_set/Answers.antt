use Rattle.std.proofs.lemmas.Bool.{ne_eqb}
use Rattle.mmc_frame.specs.Field.{field}
use Rattle.sdhci_model.proofs.state.State.is_dma_set.Goals as goal

pub returns-then-self-eq0 : goal.returns-then-self-eq0
returns-then-self-eq0 c outcome = rw c.if-self-eq0.true (c.is_sdma_set.ensures outcome)

pub returns-else-self-eq0 : goal.returns-else-self-eq0
returns-else-self-eq0 c outcome =
    rw (ne_eqb (field 4 3 c.args.self.now.control) 0 c.if-self-eq0.false) (c.is_adma_set.ensures outcome)
