use Rattle.card_served.specs.Inputs.{IsCardRefused}
use Rattle.card_served.proofs.InputLemmas.{bad_card, card_unread, err_is}
use Rattle.card_served.proofs.inputs.card_in.Goals as goal

pub returns-in_err-text-clause-err : goal.returns-in_err-text-clause-err
returns-in_err-text-clause-err g c =
    let file = g.C.Read.remaining c.args.card.now in
    err_is (IsCardRefused file) _ _ c.from_residual.ensures.1
    (card_unread file _ c.in_err-text.ensures.err)

pub returns-in_err-file-clause-err : goal.returns-in_err-file-clause-err
returns-in_err-file-clause-err g c =
    let file = g.C.Read.remaining c.args.card.now in
    err_is (IsCardRefused file) _ _ c.from_residual-in_err-file.ensures.1
    (bad_card file _ _ c.in_ok-text.ensures.ok (rw c.as_slice.ensures.value at c.in_err-file.ensures.err))

pub returns-clause-ok : goal.returns-clause-ok
returns-clause-ok g c = record {
  text = c.in_ok-text.text.items;
  text_is = c.in_ok-text.ensures.ok;
  card_is = rw c.as_slice.ensures.value at c.in_ok-file.ensures.ok;
}
