use Rattle.std.proofs.Common.{◌∙◌, ◌≡◌, rules, subst, sym, w32}
use Rattle.std.proofs.lemmas.Int.{to_z-of_z}
use Rattle.std.specs.Prelude.{IfSome}
use Rattle.mmc_slots.specs.Accepted.{refusal}
use Rattle.mmc_switch.specs.Stands.{info_of}
use Rattle.kelifandro.specs.Answers.{refused_number}
use Rattle.kelifandro.specs.Asked.{named_by}
use Rattle.kelifandro.proofs.QueueNumbers.{same_some}
use Rattle.kelifandro.proofs.RequestLemmas.{meant_as}
use Rattle.kelifandro.proofs.queue_exports.kelifandro_submit_by.Goals as goal

pub returns-in-Some-Some-clause-refused : goal.returns-in-Some-Some-clause-refused
returns-in-Some-Some-clause-refused c stands says part is =
    let found = c.in-Some-Some in
    let same = same_some c.stands_by.result found.stands stands found.is-1 (c.stands_by.ensures.noted stands says) in
    subst (λ number. IfSome (refusal (info_of stands) (named_by c.args.request.now part)) (λ why. number ≡ refused_number why))
    (sym (to_z-of_z w32 c.submit_to.result (search rules)))
    (subst (λ how. IfSome (refusal (info_of how) (named_by c.args.request.now part)) (λ why. c.submit_to.result ≡ refused_number why)) same
    (subst (λ asked. IfSome (refusal (info_of found.stands) asked) (λ why. c.submit_to.result ≡ refused_number why))
    (meant_as (named_by c.args.request.now) _ found.asked part (sym found.is-0 ∙ c.asked.ensures) is) c.submit_to.ensures.refused))

pub returns-in-Some-Some-clause-free : goal.returns-in-Some-Some-clause-free
returns-in-Some-Some-clause-free c = λ stands says part is accepted small room some.
    let found = c.in-Some-Some in
    let same : found.stands ≡ stands = same_some c.stands_by.result found.stands stands found.is-1 (c.stands_by.ensures.noted stands says) in
    let asked : found.asked ≡ named_by c.args.request.now part =
    meant_as (named_by c.args.request.now) _ found.asked part (sym found.is-0 ∙ c.asked.ensures) is in
    to_z-of_z w32 c.submit_to.result (search rules)
    ∙ c.submit_to.ensures.free (rw (same, asked) accepted) (rw asked small) room some
