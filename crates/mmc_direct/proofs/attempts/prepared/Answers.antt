use Rattle.std.proofs.Common.{subst, sym}
use Rattle.std.specs.Prelude.{IsSome}
use Rattle.mmc_direct.proofs.AttemptLemmas.{prepared_in_vain, ready_prepared, selected_prepared}
use Rattle.mmc_direct.proofs.CauseLemmas.{caused_by_exchange}
use Rattle.mmc_switch.specs.Info.{sectors_of}
use Rattle.mmc_switch.specs.Stands.{StandsIn, info_of}
use Rattle.mmc_switch.specs.declared.stands.Stands.{Stands}
use Rattle.mmc_direct.proofs.attempts.prepared.Goals as goal

pub returns-in-Ready-clause-prepared : goal.returns-in-Ready-clause-prepared
returns-in-Ready-clause-prepared g c kept at =
    let done = c.select.ensures in
    let session = c.in-Ready.session in
    let a = g.B.Bus.view c.args.bus.now in
    let ready = subst (λ s. StandsIn s a) c.in-Ready.is at in
    selected_prepared session a a c.select.result (g.B.Bus.view c.select.new.bus) (ready_prepared session a ready)
    (done.stays kept ready) (done.ready kept ready) (done.is_broken kept ready)

pub returns-in-Ready-clause-cause : goal.returns-in-Ready-clause-cause
returns-in-Ready-clause-cause g c =
    caused_by_exchange 0 (g.B.Bus.view c.args.bus.now) c.select.result (g.B.Bus.view c.select.new.bus) c.select.ensures.cause

pub returns-in_err-session-in-Broken-clause-prepared : goal.returns-in_err-session-in-Broken-clause-prepared
returns-in_err-session-in-Broken-clause-prepared g c kept at =
    let a = g.B.Bus.view c.args.bus.now in
    prepared_in_vain c.in_err-session-in-Broken.field-0.0 c.from_residual.result a (g.B.Bus.view c.settled.new.bus) c.from_residual.ensures.1
    (c.in_err-session-in-Broken.ensures.prepared kept (subst (λ s. StandsIn s a) c.in-Broken.is at))

pub select-requires-in-Broken : goal.select-requires-in-Broken
select-requires-in-Broken g c = record {
  exists =
      subst (λ i. IsSome (sectors_of i c.args.part)) (sym c.in_ok-session-in-Broken.ensures.info)
      (subst (λ (s : Stands). IsSome (sectors_of (info_of s) c.args.part)) c.in-Broken.is c.requires.exists);
}

pub returns-in_ok-session-in-Broken-clause-prepared : goal.returns-in_ok-session-in-Broken-clause-prepared
returns-in_ok-session-in-Broken-clause-prepared g c kept at =
    let done = c.select-in-Broken.ensures in
    let a = g.B.Bus.view c.args.bus.now in
    let was =
    c.in_ok-session-in-Broken.ensures.prepared (done.kept kept) (subst (λ s. StandsIn s a) c.in-Broken.is at) in
    selected_prepared c.in_ok-session-in-Broken.session a (g.B.Bus.view c.settled.new.bus) c.select-in-Broken.result
    (g.B.Bus.view c.select-in-Broken.new.bus) was (done.stays kept was.stands) (done.ready kept was.stands)
    (done.is_broken kept was.stands)
