use Rattle.std.proofs.Common.{◌∙◌, refl, rules, sym, w32}
use Rattle.std.proofs.lemmas.Int.{to_z-of_z}
use Rattle.kelifandro.specs.Done.{done_of, host_after, stories_of}
use Rattle.kelifandro.proofs.DoneLemmas.{fit_closed, limits_stay}
use Rattle.kelifandro.proofs.OpeningLemmas.{closed, ready_by, refused_by, stayed}
use Rattle.kelifandro.proofs.opening.open_once.Goals as goal

pub returns-in-Ok-clause-stays : goal.returns-in-Ok-clause-stays
returns-in-Ok-clause-stays g c = λ is.
    stayed _ (host_after (stories_of g.S.HasStory.story g.S.HasRegisterStory.story) c.args.way.now (done_of c.args.did.now))
    _ _ _ _ _ _ _ _ c.in-Ok.ensures.comes (c.end_over.ensures.left c.args.way.now) _ c.new-bus.ensures.view
    c.open_over-number.ensures.moves is

pub returns-in-Ok-clause-opened : goal.returns-in-Ok-clause-opened
returns-in-Ok-clause-opened g c = λ is zero.
    let stories = stories_of g.S.HasStory.story g.S.HasRegisterStory.story in
    let was = host_after stories c.args.way.now (done_of c.args.did.now) in
    let number = sym (to_z-of_z w32 c.open_over-number.result (search rules)) ∙ zero in
    ready_by _ was _ _ _ _ _ _ _ _ c.in-Ok.ensures.comes (c.end_over.ensures.left c.args.way.now) _ c.new-bus.ensures.view
    c.open_over-number.ensures.moves is (search rules) c.open_over-number.new.card c.new-bus.ensures.limits
    (limits_stay stories c.args.way.now (done_of c.end_over.new.did) (done_of c.args.did.now))
    (λ kept. (c.open_over-number.ensures.moves kept).own number)

pub returns-in-Ok-clause-refused : goal.returns-in-Ok-clause-refused
returns-in-Ok-clause-refused g c = λ is profile not ready.
    let stories = stories_of g.S.HasStory.story g.S.HasRegisterStory.story in
    let was = host_after stories c.args.way.now (done_of c.args.did.now) in
    let number = to_z-of_z w32 c.open_over-number.result (search rules) in
    refused_by _ was _ _ _ _ _ _ _ _ c.in-Ok.ensures.comes (c.end_over.ensures.left c.args.way.now) _ c.new-bus.ensures.view
    c.open_over-number.ensures.moves is profile
    (λ kept made. c.open_over-number.ensures.refused kept made (λ done. not (number ∙ done)))

pub returns-in-Err-clause-fit : goal.returns-in-Err-clause-fit
returns-in-Err-clause-fit g c =
    fit_closed (stories_of g.S.HasStory.story g.S.HasRegisterStory.story) c.args.way.now (done_of c.begin.new.did)
    (record c.args.card.now { state = 0 })
    c.requires.wired c.in-Err.ensures.still_again (closed (record c.args.card.now { state = 0 }) refl)
