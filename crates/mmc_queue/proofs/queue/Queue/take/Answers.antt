use Rattle.std.proofs.Common.{◌∙◌, ◌≡◌, None, Some, ap, subst, sym}
use Rattle.std.specs.BTreeMap.{get}
use Rattle.std.specs.Map.{values_of}
use Rattle.std.specs.Ordering.{nat_cmp}
use Rattle.mmc_queue.specs.Waiting.{AreSound, at_ticket}
use Rattle.mmc_queue.proofs.MapLemmas.{found, same_lookup, sound_one}
use Rattle.mmc_queue.proofs.MirrorLemmas.{taken}
use Rattle.mmc_queue.proofs.queue.Queue.take.Goals as goal

pub remove-requires-in-Some : goal.remove-requires-in-Some
remove-requires-in-Some c =
    let old = c.self.invariant in
    let all = found c.args.ticket c.self.inside.by_ticket.entries c.in-Some.entry old.keyed (sym c.remove.ensures.value ∙ c.in-Some.is) in
    (sound_one all.takes.0 c.in-Some.entry all.takes.1 (subst AreSound all.takes.2 old.sound)).inside

pub invariant_of-self : goal.invariant_of-self
invariant_of-self c =
    taken c.self.inside.by_ticket c.remove.new.self c.self.inside.places.items c.remove-in-Some.new.self.items c.in-Some.entry
    c.args.ticket c.self.invariant (sym c.remove.ensures.value ∙ c.in-Some.is) c.remove.ensures.entries c.remove.ensures.updates
    c.remove.ensures.ordered c.remove-in-Some.ensures

pub returns-in-Some-clause-sound : goal.returns-in-Some-clause-sound
returns-in-Some-clause-sound c =
    let old = c.self.invariant in
    let all = found c.args.ticket c.self.inside.by_ticket.entries c.in-Some.entry old.keyed (sym c.remove.ensures.value ∙ c.in-Some.is) in
    sound_one all.takes.0 c.in-Some.entry all.takes.1 (subst AreSound all.takes.2 old.sound)

pub returns-in-Some-clause-taken : goal.returns-in-Some-clause-taken
returns-in-Some-clause-taken c =
    let m = c.self.inside.by_ticket in
    let all = found c.args.ticket m.entries c.in-Some.entry c.self.invariant.keyed (sym c.remove.ensures.value ∙ c.in-Some.is) in (
      all.ticket,
      subst (λ ws. at_ticket c.args.ticket ws ≡ Some c.in-Some.entry) c.self.view_is all.there,
      (all.takes.0, all.takes.1, sym c.self.view_is ∙ all.takes.2, ap values_of c.remove.ensures.entries ∙ all.takes.3),
    )

pub returns-in-None-clause-taken : goal.returns-in-None-clause-taken
returns-in-None-clause-taken c =
    let m = c.self.inside.by_ticket in
    let none : get nat_cmp m c.args.ticket ≡ None = sym c.remove.ensures.value ∙ c.in-None.is in (
      subst (λ ws. at_ticket c.args.ticket ws ≡ None) c.self.view_is (same_lookup c.args.ticket m.entries c.self.invariant.keyed ∙ none),
      ap values_of c.in-None.ensures.unchanged ∙ c.self.view_is,
    )
