use Rattle.std.proofs.Common.{◌∙◌, ◌≡◌, Bool, Some, ap, refl, subst, sym}
use Rattle.mmc_host.proofs.TogetherLemmas.{begun_as}
use Rattle.mmc_host.specs.Table.{moves_several}
use Rattle.mmc_host.specs.Hosts.{Does}
use Rattle.mmc_card.specs.Faults.{CommandStep}
use Rattle.mmc_host.proofs.BusLemmas.{does_command}
use Rattle.mmc_host.proofs.host_bus.HostBus.carry.Goals as goal

pub returns-clause-sent : goal.returns-clause-sent
returns-clause-sent g c =
    let v0 = g.H.Host.view c.args.self.now.host in
    let v1 = g.H.Host.view c.send.new.self.host in
    let told = c.command-command.result in
    let same : Some (c.in-Some.index, c.in-Some.argument) ≡ Some (told.index, told.argument) =
    rw (c.command-command.ensures.index, c.command-command.ensures.argument) refl in
    subst (λ (misused : Bool). Does v0 c.args.self.now.wire c.args.self.now.is_misused
    (λ old new. CommandStep old c.args.frame.now c.send.result new) v1 misused) (sym c.send.ensures.misused)
    (does_command v0 v1 c.args.self.now.wire c.args.self.now.is_misused told.index told.argument c.args.frame.now
    c.send.result (sym c.read_command.ensures ∙ (c.in-Some.is ∙ same)) c.send.ensures.sent)

pub returns-clause-counted : goal.returns-clause-counted
returns-clause-counted g c = λ can.
    let told = c.command-command.result in
    let same : Some (c.in-Some.index, c.in-Some.argument) ≡ Some (told.index, told.argument) =
    rw (c.command-command.ensures.index, c.command-command.ensures.argument) refl in
    begun_as c.args.frame.now c.args.self.now.state c.args.moved told c.send.new.self.state
    (sym c.read_command.ensures ∙ (c.in-Some.is ∙ same)) c.send.ensures.data
    (λ several. c.command-command.ensures.counted (ap moves_several (sym c.command-command.ensures.index) ∙ several))
