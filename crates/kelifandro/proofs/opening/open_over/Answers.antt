use Rattle.std.proofs.Common.{◌∙◌, rules, sym, w32}
use Rattle.std.proofs.lemmas.Int.{to_z-of_z}
use Rattle.std.proofs.lemmas.Bool.{false≢true}
use Rattle.kelifandro.proofs.CallLemmas.{ready_again}
use Rattle.kelifandro.proofs.OpeningLemmas.{moves_as, not_zero}
use Rattle.kelifandro.proofs.opening.open_over.Goals as goal

pub returns-in-Ok-clause-moves : goal.returns-in-Ok-clause-moves
returns-in-Ok-clause-moves g c =
    moves_as _ _ (λ own is. ready_again _ _ _ (c.is_noted.ensures.same c.if-is_noted.true) own) c.in-Ok.ensures.moves

pub returns-in-Ok-2-clause-moves : goal.returns-in-Ok-2-clause-moves
returns-in-Ok-2-clause-moves g c = moves_as _ _ (λ own is. absurd (not_zero 20 is)) c.in-Ok.ensures.moves

pub returns-in-Ok-2-clause-refused : goal.returns-in-Ok-2-clause-refused
returns-in-Ok-2-clause-refused g c = λ kept profile not.
    let own = (c.in-Ok.ensures.moves kept).own in
    absurd (false≢true (sym c.if-is_noted.false ∙ c.is_noted.ensures.is _ own.says))

pub returns-in-Err-clause-moves : goal.returns-in-Err-clause-moves
returns-in-Err-clause-moves g c = moves_as _ _ (λ own is.
    absurd (c.unopened_number.ensures.not_done (sym (to_z-of_z w32 c.unopened_number.result (search rules)) ∙ is))) c.in-Err.ensures.moves
