use Rattle.std.proofs.Common.{Err, None, Ok, Some, ap, of_z, refl, rules, subst, sym, to_z, w32, ◌∙◌, ◌≡◌}
use Rattle.std.proofs.lemmas.Int.{to_z-of_z}
use Rattle.std.specs.Prelude.{ℤ}
use Rattle.mmc_switch.specs.Stands.{info_of}
use Rattle.kelifandro.proofs.CallLemmas.{as_noted}
use Rattle.kelifandro.specs.Longs.{begins_by, long_refusal}
use Rattle.kelifandro.proofs.longs.may_begin.Goals as goal

pub returns-in-Some-sectors_refusal-clause-refused : goal.returns-in-Some-sectors_refusal-clause-refused
returns-in-Some-sectors_refusal-clause-refused c = λ opened.
    let is : long_refusal (info_of c.in-Some.stands) c.args.asked.now ≡ Some c.in-Some-sectors_refusal.refused =
    cc (c.in-Some-sectors_refusal.is, c.sectors_refusal.ensures.refusal, c.info.ensures) in
    as_noted c.args.card.now c.in-Some.stands c.in-Some.ensures.stands
    (λ s. Err (to_z w32 (of_z w32 c.refused_number.result)) ≡ begins_by (long_refusal (info_of s) c.args.asked.now))
    (subst (λ r. Err (to_z w32 (of_z w32 c.refused_number.result)) ≡ begins_by r) (sym is)
    (ap (λ (n : ℤ). Err n) (to_z-of_z w32 c.refused_number.result (search rules) ∙ c.refused_number.ensures.number)))

pub returns-in-None-clause-refused : goal.returns-in-None-clause-refused
returns-in-None-clause-refused c = λ opened.
    let is : long_refusal (info_of c.in-Some.stands) c.args.asked.now ≡ None =
    cc (c.in-None.is, c.sectors_refusal.ensures.refusal, c.info.ensures) in
    as_noted c.args.card.now c.in-Some.stands c.in-Some.ensures.stands
    (λ s. Ok tt ≡ begins_by (long_refusal (info_of s) c.args.asked.now)) (subst (λ r. Ok tt ≡ begins_by r) (sym is) refl)
