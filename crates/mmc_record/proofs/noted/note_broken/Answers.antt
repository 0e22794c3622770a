use Rattle.std.specs.Prelude.{◌≡◌, if◌then◌else◌}
use Rattle.std.proofs.Common.{◌∙◌, refl, subst, sym}
use Rattle.mmc_record.specs.Note.{HasChecks, SaysSession}
use Rattle.mmc_record.proofs.NoteLemmas.{card_checks, note_of_broken}
use Rattle.mmc_record.proofs.noted.note_broken.Goals as goal
use Rattle.mmc_record.proofs.noted.note_broken.Goals.{else-must_reset, then-must_reset}

pub returns-clause-checked : goal.returns-clause-checked
returns-clause-checked c checks =
    let broken = c.args.broken.now in
    let says = subst (λ s. HasChecks s.info → SaysSession c.noted.result s) c.session.ensures c.noted.ensures.says checks in
    let state : c.if-must_reset.state ≡ (if broken.must_reset then 3 else 2) = elim c.if-must_reset.branch [
      | then-must_reset w ↦ w.state-is ∙ rw (sym c.must_reset.ensures ∙ w.if-must_reset.true) refl
      | else-must_reset w ↦ w.state-is ∙ rw (sym c.must_reset.ensures ∙ w.if-must_reset.false) refl
    ] in
    note_of_broken c.noted.result broken says (c.noted.ensures.cause ∙ c.cause.ensures) (c.noted.ensures.state ∙ state)

pub returns-clause-of_a_card : goal.returns-clause-of_a_card
returns-clause-of_a_card c limits made registers is =
    returns-clause-checked c (card_checks limits made c.args.broken.now.session.info registers is)
