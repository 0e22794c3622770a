use Rattle.std.proofs.Common.{◌&&◌, ◌++◌, ◌∙◌, ◌∷◌, ◌≡◌, [], ap, subst, sym}
use Rattle.std.specs.Prelude.{not}
use Rattle.mmc_queue.specs.Places.{is_place_of, shows}
use Rattle.mmc_queue.specs.declared.entry.Entry.{Entry}
use Rattle.mmc_queue.specs.declared.place.Place.{Place}
use Rattle.mmc_queue.specs.Waiting.{AreBelow}
use Rattle.mmc_queue.proofs.MapLemmas.{pushed_values}
use Rattle.mmc_queue.proofs.MirrorLemmas.{not_there, pushed, undone}
use Rattle.mmc_queue.proofs.queue.Queue.push.Goals as goal

pub insert-requires-clause-absent : goal.insert-requires-clause-absent
insert-requires-clause-absent c =
    not_there c.self.inside.by_ticket c.self.inside.places.items c.args.entry c.self.invariant
    (subst (AreBelow c.args.entry.ticket) (sym c.self.view_is) c.requires.last)

pub invariant_of-self-in-Ok-insert : goal.invariant_of-self-in-Ok-insert
invariant_of-self-in-Ok-insert c =
    pushed c.self.inside.by_ticket c.insert-2.new.self c.self.inside.places.items c.insert.new.self.items c.args.entry
    c.self.invariant (subst (AreBelow c.args.entry.ticket) (sym c.self.view_is) c.requires.last) c.requires.sound.ticket c.requires.sound
    c.in-Ok-insert.ensures.entries c.in-Ok-insert.ensures.updates c.in-Ok-insert.ensures.ordered c.in-Ok.ensures.ok

pub returns-in-Ok-insert-clause-pushed : goal.returns-in-Ok-insert-clause-pushed
returns-in-Ok-insert-clause-pushed c =
    pushed_values c.self.inside.by_ticket c.insert-2.new.self c.args.entry c.self.invariant.keyed
    (subst (AreBelow c.args.entry.ticket) (sym c.self.view_is) c.requires.last) c.in-Ok-insert.ensures.entries
    ∙ ap (λ xs. xs ++ c.args.entry ∷ []) c.self.view_is

pub invariant_of-self-in-Err : goal.invariant_of-self-in-Err
invariant_of-self-in-Err c =
    let back : c.in-Err.refused.value.1 ≡ c.args.entry = ap (λ y. y.1) c.in-Err.ensures.value_returned in
    undone c.self.inside.by_ticket c.insert-2.new.self c.self.inside.places.items c.insert.new.self.items
    c.remove.new.self.items c.args.entry c.self.invariant
    (subst (AreBelow c.args.entry.ticket) (sym c.self.view_is) c.requires.last) c.in-Err.ensures.err
    c.insert-2.ensures.ordered c.in-Ok.ensures.ok
    (subst (λ (e : Entry). (q : Place) → shows c.remove.new.self.items q ≡ (not (is_place_of e q) && shows c.insert.new.self.items q)) back c.remove.ensures)
