use Rattle.sdhci_model.proofs.state.State.may_write8.Goals as goal

pub returns-in-40 : goal.returns-in-40
returns-in-40 c outcome = rw c.in-40.is (c.may_control.ensures outcome)

pub returns-in-41 : goal.returns-in-41
returns-in-41 c outcome = rw c.in-41.is (c.may_power.ensures outcome)

pub returns-in-47 : goal.returns-in-47
returns-in-47 c outcome = rw c.in-47.is (c.may_reset.ensures outcome)
