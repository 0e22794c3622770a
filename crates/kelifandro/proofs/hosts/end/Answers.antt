use Rattle.std.proofs.Common.{◌∙◌, ◌≡◌, ◌||◌, ◌&&◌, false, not, rules}
use Rattle.mmc_host.specs.Hosts.{HostView, Where}
use Rattle.mmc_sdhci.specs.Driver.{told_so}
use Rattle.kelifandro.specs.Done.{Done, IsLeft, host_after, stories_of}
use Rattle.kelifandro.proofs.DoneLemmas.{in_host, in_registers, left_by_driver, left_by_functions, was_ended, was_left, was_misused}
use Rattle.kelifandro.proofs.hosts.end.Goals as goal
use Rattle.kelifandro.proofs.hosts.end.Goals.{else-is_misused+else-not-has_failed, else-is_misused+then-not-has_failed, then-is_misused}

pub returns-in-Host-clause-left : goal.returns-in-Host-clause-left
returns-in-Host-clause-left g c = λ way.
    let host = c.in-Host.host in
    let stories = stories_of g.S.HasStory.story g.S.HasRegisterStory.story in
    let done : Done = record { calls = c.ended-did.result.past; accesses = c.then-did.result.past } in
    in_host _ _ c.args.host host (λ (left : HostView). Where (host_after stories way done)
    ((c.args.is_misused ≡ false) × IsLeft (c.args.has_failed ≡ false) left (host_after stories way done))) c.in-Host.is
    (left_by_functions stories way c.ended-did.result.past host.diary.past
    c.then-did.result.past c.args.did.now.accesses.past host.told.state host.limits c.args.is_misused
    (λ is. let e = c.ended-did.ensures is in (e.0, search rules)) c.then-did.ensures)

pub returns-after-is_misused-clause-left : goal.returns-after-is_misused-clause-left
returns-after-is_misused-clause-left g c = λ way.
    let driver = c.in-Registers.driver in
    let stories = stories_of g.S.HasStory.story g.S.HasRegisterStory.story in
    let done : Done = record { calls = c.ended-did-in-Registers.result.past; accesses = c.ended-accesses.result.1.past } in
    let misused : (c.args.is_misused || (not c.args.has_failed && c.is_moving-is_moving.result)) ≡ c.if-is_misused.ended =
    elim c.if-is_misused.branch [
      | then-is_misused w ↦ was_misused c.args.is_misused _ _ w.if-is_misused.true w.ended-is
      | else-is_misused+then-not-has_failed w ↦
          was_left c.args.is_misused c.args.has_failed _ _ w.if-is_misused.false w.if-not-has_failed.true w.ended-is
      | else-is_misused+else-not-has_failed w ↦
          was_ended c.args.is_misused c.args.has_failed _ _ w.if-is_misused.false w.if-not-has_failed.false w.ended-is
    ] in
    in_registers _ _ c.args.host driver (λ (left : HostView). Where (host_after stories way done)
    ((c.args.is_misused ≡ false) × IsLeft (c.args.has_failed ≡ false) left (host_after stories way done))) c.in-Registers.is
    (left_by_driver stories way c.ended-did-in-Registers.result.past
    c.args.did.now.calls.past c.ended-accesses.result.1.past driver.registers.diary.past c.end.new.self.registers.diary.past
    (told_so driver.state driver.told) driver.limits c.args.is_misused c.args.has_failed c.is_moving-is_moving.result c.ended-did-in-Registers.ensures
    (λ is. let e = c.ended-accesses.ensures.did is in (misused ∙ e.0, search rules))
    c.is_moving-is_moving.ensures c.end.ensures.lost c.end.ensures.same)
