use Rattle.mmc_sdhci.specs.Driver.{told_so}
use Rattle.kelifandro.specs.Done.{done_of, stories_of}
use Rattle.kelifandro.proofs.DoneLemmas.{comes_over}
use Rattle.kelifandro.proofs.hosts.begin.Goals as goal

pub returns-in-Ok-clause-comes : goal.returns-in-Ok-clause-comes
returns-in-Ok-clause-comes g c =
    let driver = c.in-Ok.driver in
    comes_over (stories_of g.S.HasStory.story g.S.HasRegisterStory.story) c.args.way.now (done_of c.args.did.now)
    c.after-registers.result.diary.past driver.registers.diary.past (told_so driver.state driver.told) driver.limits c.in-Registers.ensures.0
    c.after-registers.ensures.past c.in-Ok.ensures.same c.in-Ok.ensures.limits
