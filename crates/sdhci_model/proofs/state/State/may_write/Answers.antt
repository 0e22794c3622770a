use Rattle.sdhci_model.proofs.state.State.may_write.Goals as goal

pub returns-in-0 : goal.returns-in-0
returns-in-0 c outcome = rw c.in-0.is (c.is_idle.ensures outcome)

pub returns-in-4 : goal.returns-in-4
returns-in-4 c outcome = rw c.in-4.is (c.may_size.ensures outcome)

pub returns-in-12 : goal.returns-in-12
returns-in-12 c outcome = rw c.in-12.is (c.may_begin.ensures outcome)

pub returns-in-32 : goal.returns-in-32
returns-in-32 c outcome = rw c.in-32.is (c.can_put.ensures outcome)

pub returns-in-44 : goal.returns-in-44
returns-in-44 c outcome = rw c.in-44.is (c.may_clock.ensures outcome)

pub returns-in-48 : goal.returns-in-48
returns-in-48 c outcome = rw c.in-48.is (c.may_clear.ensures outcome)

pub returns-in-52 : goal.returns-in-52
returns-in-52 c outcome = rw c.in-52.is (c.may_show.ensures outcome)

pub returns-in-88 : goal.returns-in-88
returns-in-88 c outcome = rw c.in-88.is (c.is_idle-in-88.ensures outcome)

pub returns-in-92 : goal.returns-in-92
returns-in-92 c outcome = rw c.in-92.is (c.is_idle-in-92.ensures outcome)
