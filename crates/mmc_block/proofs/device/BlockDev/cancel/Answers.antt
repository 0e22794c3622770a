-- The request leaves the queue, and the machine gives it back.
use Rattle.std.proofs.Common.{refl}
use Rattle.mmc_block.specs.Service.{service_of}
use Rattle.mmc_block.proofs.CancelLemmas.{gives_back, had_waited, is_unknown, none_waits, taken_ok, withdrawn}
use Rattle.mmc_block.proofs.device.BlockDev.cancel.Goals as goal

pub returns-in_default-clause-machine : goal.returns-in_default-clause-machine
returns-in_default-clause-machine g c =
    let none = c.in_default.ensures.taken in
    rw (← c.self.view_is, none.1) (is_unknown g.B.Bus.view _ c.args.ticket
    (c.if-is_in_service.ensures.no refl)
    (none_waits c.args.ticket c.self.inside.queue none.0))

pub returns-in_default-clause-unknown : goal.returns-in_default-clause-unknown
returns-in_default-clause-unknown g c =
    let none = c.in_default.ensures.taken in
    let waits = none_waits c.args.ticket c.self.inside.queue none.0 in
    let in_service = c.if-is_in_service.ensures.no refl in
    rw (← c.self.view_is) (λ is. (waits, in_service), λ both. refl)

pub invariant_of-self-2 : goal.invariant_of-self-2
invariant_of-self-2 g c = record {
  ok = taken_ok c.self.inside.info c.self.inside.queue c.take.new.self
      (service_of c.self.inside.phase c.self.inside.attempt) c.in-Ok.entry c.self.inside.next c.in-Ok.ensures.taken.2
      c.self.invariant.ok;
  empty = c.self.invariant.empty;
}

pub returns-clause-machine : goal.returns-clause-machine
returns-clause-machine g c =
    let taken = c.in-Ok.ensures.taken in
    rw (← c.self.view_is) (gives_back g.B.Bus.view _ c.self.inside.queue c.take.new.self c.in-Ok.entry c.args.ticket
    refl taken.0 taken.2)

pub returns-clause-cancelled : goal.returns-clause-cancelled
returns-clause-cancelled g c =
    let taken = c.in-Ok.ensures.taken in
    rw (← c.self.view_is)
    (withdrawn _ c.self.inside.queue c.take.new.self c.in-Ok.entry c.args.ticket refl taken.0 taken.2)

pub returns-clause-unknown : goal.returns-clause-unknown
returns-clause-unknown g c =
    let taken = c.in-Ok.ensures.taken in
    let waited = had_waited c.self.inside.queue c.take.new.self c.in-Ok.entry c.args.ticket taken.0 taken.2 in
    rw (← c.self.view_is) (λ is. absurd cc, λ both. absurd (both.0 waited))
