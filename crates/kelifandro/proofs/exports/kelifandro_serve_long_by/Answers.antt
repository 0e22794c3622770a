use Rattle.std.proofs.Common.{◌≡◌, ◌∙◌, rules, subst, sym, w32}
use Rattle.std.proofs.lemmas.Int.{to_z-of_z}
use Rattle.std.specs.Prelude.{IfSome}
use Rattle.mmc_switch.specs.Stands.{info_of}
use Rattle.kelifandro.specs.Answers.{refused_number}
use Rattle.kelifandro.specs.Asked.{named_by, wanted_by}
use Rattle.kelifandro.specs.Longs.{long_refusal, whole_of}
use Rattle.kelifandro.specs.declared.asked.Wanted.{Wanted}
use Rattle.kelifandro.proofs.RequestLemmas.{meant_as}
use Rattle.kelifandro.proofs.exports.kelifandro_serve_long_by.Goals as goal

pub returns-in-Some-clause-refused : goal.returns-in-Some-clause-refused
returns-in-Some-clause-refused c = λ opened how says part meant.
    let new = c.serve_long.new in
    let refusal = long_refusal (info_of how) (whole_of (named_by c.args.request.now part) c.args.blocks.now) in
    subst (λ number. IfSome refusal (λ why. (number ≡ refused_number why) × (new.done ≡ 0) × (new.blocks ≡ c.args.blocks.now)
    × (new.healed ≡ c.args.healed.now)))
    (sym (to_z-of_z w32 c.serve_long.result (search rules)))
    (subst (λ (wanted : Wanted). IfSome (long_refusal (info_of how) (whole_of wanted.asked c.args.blocks.now)) (λ why.
    (c.serve_long.result ≡ refused_number why) × (new.done ≡ 0) × (new.blocks ≡ c.args.blocks.now)
    × (new.healed ≡ c.args.healed.now)))
    (meant_as (wanted_by c.args.request.now) _ c.in-Some.wanted part (sym c.in-Some.is ∙ c.wanted.ensures) meant)
    (c.serve_long.ensures.refused opened how says))
