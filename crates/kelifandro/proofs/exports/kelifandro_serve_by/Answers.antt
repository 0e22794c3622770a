use Rattle.std.proofs.Common.{◌∙◌, ◌≡◌, ap, refl, rules, subst, sym, w32}
use Rattle.std.proofs.lemmas.Int.{to_z-of_z}
use Rattle.mmc_direct.specs.Refusal.{refusal_of}
use Rattle.mmc_requests.specs.Kinds.{is_read}
use Rattle.mmc_switch.specs.Stands.{info_of}
use Rattle.kelifandro.specs.Asked.{asked_with, attempts_by, kind_with, named_by, wanted_by}
use Rattle.kelifandro.specs.Calls.{TellsCounts, TellsWhy}
use Rattle.kelifandro.specs.declared.asked.Wanted.{Wanted}
use Rattle.kelifandro.proofs.RequestLemmas.{meant_as, meant_so}
use Rattle.kelifandro.proofs.exports.kelifandro_serve_by.Goals as goal

pub returns-in-Some-clause-judged : goal.returns-in-Some-clause-judged
returns-in-Some-clause-judged c = λ opened how says part meant.
    let why = refusal_of (info_of how) (asked_with (named_by c.args.request.now part) c.args.blocks.now) in
    subst (λ number. TellsWhy c.args.way.now.by why number) (sym (to_z-of_z w32 c.serve_told.result (search rules)))
    (subst (λ (wanted : Wanted). TellsWhy c.args.way.now.by (refusal_of (info_of how) (asked_with wanted.asked c.args.blocks.now)) c.serve_told.result)
    (meant_as (wanted_by c.args.request.now) _ c.in-Some.wanted part (sym c.in-Some.is ∙ c.wanted.ensures) meant)
    (c.serve_told.ensures.judged opened how says))

pub returns-in-Some-clause-counted : goal.returns-in-Some-clause-counted
returns-in-Some-clause-counted c = λ how says.
    subst (λ number. TellsCounts (attempts_by c.args.request.now.attempts) how c.args.healed.now number c.serve_told.new.card c.serve_told.new.healed)
    (sym (to_z-of_z w32 c.serve_told.result (search rules)))
    (subst (λ n. TellsCounts (attempts_by n) how c.args.healed.now c.serve_told.result c.serve_told.new.card c.serve_told.new.healed)
    (meant_so (λ (wanted : Wanted). wanted.attempts ≡ c.args.request.now.attempts) (wanted_by c.args.request.now) _ c.in-Some.wanted
    (sym c.in-Some.is ∙ c.wanted.ensures) (λ part. refl)) (c.serve_told.ensures.counted how says))

pub returns-in-Some-clause-kept : goal.returns-in-Some-clause-kept
returns-in-Some-clause-kept c other =
    c.serve_told.ensures.kept
    (ap is_read (meant_so (λ (wanted : Wanted). wanted.asked.kind ≡ kind_with c.args.request.now.kind) (wanted_by c.args.request.now) _
    c.in-Some.wanted (sym c.in-Some.is ∙ c.wanted.ensures) (λ part. refl)) ∙ other)
