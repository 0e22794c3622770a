use Rattle.std.proofs.Common.{◌≡◌, rules, subst, sym, w32}
use Rattle.std.proofs.lemmas.Int.{to_z-of_z}
use Rattle.std.specs.Prelude.{IfSome}
use Rattle.mmc_slots.specs.Accepted.{refusal}
use Rattle.mmc_switch.specs.Stands.{info_of}
use Rattle.kelifandro.specs.Answers.{refused_number}
use Rattle.kelifandro.proofs.QueueNumbers.{refused_by}
use Rattle.kelifandro.proofs.queue_exports.submit_to.Goals as goal

pub returns-clause-refused : goal.returns-clause-refused
returns-clause-refused c =
    subst (λ number. IfSome (refusal (info_of c.args.stands.now) c.args.asked.now) (λ why. number ≡ refused_number why))
    (sym (to_z-of_z w32 c.submitted_number.result (search rules)))
    (subst (λ info. IfSome (refusal info c.args.asked.now) (λ why. c.submitted_number.result ≡ refused_number why)) c.info.ensures
    (refused_by (refusal c.info.result.now c.args.asked.now) c.submit.result c.submitted_number.result c.submit.ensures.judged
    c.submitted_number.ensures))
