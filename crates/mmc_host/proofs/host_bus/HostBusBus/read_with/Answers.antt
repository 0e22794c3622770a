use Rattle.std.proofs.Common.{◌∙◌, ap, refl, subst, sym}
use Rattle.mmc_card.specs.declared.exchange.Exchange.TheVariants.{Command}
use Rattle.mmc_bus.specs.Together.{none_good, reads}
use Rattle.mmc_bus.specs.Wires.{Notes}
use Rattle.mmc_bus.specs.declared.wire.Wire.{Wire}
use Rattle.mmc_host.proofs.TogetherLemmas.{moved_ios, over, read_kept}
use Rattle.mmc_host.specs.HostStates.{lines_of, sent}
use Rattle.mmc_host.specs.Hosts.{bus_over}
use Rattle.mmc_host.specs.declared.told.HostState.{HostState}
use Rattle.mmc_host.specs.declared.told.Ios.{Ios}
use Rattle.mmc_host.specs.Together.{CanRead, passed_on}
use Rattle.mmc_host.proofs.host_bus.HostBusBus.read_with.Goals as goal

pub returns-in-Some-clause-read : goal.returns-in-Some-clause-read
returns-in-Some-clause-read g c =
    let v0 = g.H.Host.view c.args.self.now.host in
    let v1 = g.H.Host.view c.reading.new.self.host in
    let new = g.H.Host.view c.read_with-heard.new.self in
    let w0 = c.args.self.now.wire in
    let noted : Notes w0 (Command c.args.frame c.args.want c.spelled-reply.result) c.note.new.self =
    rw c.reading.ensures.wire at c.note.ensures in
    rw (c.reading.ensures.misused, c.note_blocks.ensures)
    (over c.args.blocks.now v0 v1 w0 c.note.new.self c.args.self.now.is_misused c.reading.new.self.state
    c.args.frame c.args.want c.in-Some.command c.len.result c.read_with-heard.result.0 c.spelled-reply.result
    c.read_with-heard.result.1 c.read_with-heard.new.blocks new c.reading.new.self.told c.in-Some.ensures.can c.read_with-heard.ensures
    noted c.reading.ensures.only c.spelled-reply.ensures)

pub returns-in-None-clause-read : goal.returns-in-None-clause-read
returns-in-None-clause-read g c =
    rw (sym (c.in-None.ensures.cannot refl)) (record {
      between = bus_over (g.H.Host.view c.begin.new.self.host) c.begin.new.self.wire c.begin.new.self.is_misused;
      commanded = c.begin.ensures.commanded;
      read = reads 0 _ _ none_good;
    })

pub returns-in-Some-clause-clock : goal.returns-in-Some-clause-clock
returns-in-Some-clause-clock g c = λ can.
    rw (c.in-Some.ensures.can.holds) (ap (λ (ios : Ios). ios.is_identifying)
    (ap (λ (s : HostState). s.ios) c.blocks_passed-self.ensures ∙ moved_ios c.read_with-heard.result.1 c.sent.result
    ∙ ap (λ (s : HostState). s.ios) c.sent.ensures) ∙ c.in-Some.ensures.clock)

pub returns-in-Some-clause-lines : goal.returns-in-Some-clause-lines
returns-in-Some-clause-lines g c = λ can idle within.
    ap lines_of (ap (λ (s : HostState). s.ios) c.blocks_passed-self.ensures ∙ moved_ios c.read_with-heard.result.1 c.sent.result
    ∙ ap (λ (s : HostState). s.ios) c.sent.ensures)
    ∙ c.in-Some.ensures.can.set

pub invariant_of-self : goal.invariant_of-self
invariant_of-self g c =
    let v0 = g.H.Host.view c.args.self.now.host in
    let v1 = g.H.Host.view c.reading.new.self.host in
    let new = g.H.Host.view c.read_with-heard.new.self in
    let w = c.reading.new.self.wire in
    let can : CanRead c.reading.new.self.state c.args.frame c.in-Some.command c.len.result w.lines =
    subst (λ (v : Wire). CanRead c.reading.new.self.state c.args.frame c.in-Some.command c.len.result v.lines)
    (sym c.reading.ensures.wire) c.in-Some.ensures.can in
    let kept = read_kept c.args.blocks.now v0 v1 w c.note.new.self c.args.self.now.is_misused c.reading.new.self.state
    c.args.frame c.args.want c.in-Some.command c.len.result c.read_with-heard.result.0 c.spelled-reply.result
    c.read_with-heard.result.1 c.read_with-heard.new.blocks new c.reading.new.self.told can c.read_with-heard.ensures
    c.note.ensures c.blocks_passed-self.result c.note_blocks.new.wire (c.blocks_passed-self.ensures
    ∙ ap (passed_on c.read_with-heard.result.1)
    (c.sent.ensures ∙ ap (sent c.reading.new.self.state c.in-Some.command) c.is_ok.ensures.value)) c.note_blocks.ensures
    c.reading.new.self.within in
    record { told = kept.0; within = kept.1 }
