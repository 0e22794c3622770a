use Rattle.std.proofs.Common.{◌∙◌, ◌≡◌, None, Some, refl, subst, sym}
use Rattle.mmc_queue.specs.Waiting.{at_ticket}
use Rattle.mmc_queue.proofs.MapLemmas.{same_lookup}
use Rattle.mmc_queue.proofs.queue.Queue.may_join.Goals as goal

pub returns-then-fits : goal.returns-then-fits
returns-then-fits c =
    let there : at_ticket c.args.ticket c.args.self.now ≡ Some c.in-Some.entry.now =
    subst (λ ws. at_ticket c.args.ticket ws ≡ Some c.in-Some.entry.now) c.self.view_is
    (same_lookup c.args.ticket c.self.inside.by_ticket.entries c.self.invariant.keyed ∙ sym c.in-Some.ensures.value) in
    rw (there, sym (c.fits.ensures c.in-Some.entry.now.request c.asked.ensures) ∙ c.if-fits.true) c.passes_none.ensures

pub returns-else-fits : goal.returns-else-fits
returns-else-fits c =
    let there : at_ticket c.args.ticket c.args.self.now ≡ Some c.in-Some.entry.now =
    subst (λ ws. at_ticket c.args.ticket ws ≡ Some c.in-Some.entry.now) c.self.view_is
    (same_lookup c.args.ticket c.self.inside.by_ticket.entries c.self.invariant.keyed ∙ sym c.in-Some.ensures.value) in
    rw (there, sym (c.fits.ensures c.in-Some.entry.now.request c.asked.ensures) ∙ c.if-fits.false) c.if-fits.false

pub returns-in-None : goal.returns-in-None
returns-in-None c =
    let none : at_ticket c.args.ticket c.args.self.now ≡ None =
    subst (λ ws. at_ticket c.args.ticket ws ≡ None) c.self.view_is
    (same_lookup c.args.ticket c.self.inside.by_ticket.entries c.self.invariant.keyed ∙ sym c.in-None.ensures.value) in
    rw none refl
