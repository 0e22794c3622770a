use Rattle.std.proofs.Common.{◌≡◌, ◌∷◌, [], refl, subst}
use Rattle.std.specs.Fmt.{decimal}
use Rattle.text_out.specs.Writing.{Writes}
use Rattle.text_out.specs.Repeats.{repeat_text}
use Rattle.text_out.proofs.WritingLemmas.{appends_none, writes_after, writes_broken}
use Rattle.text_out.proofs.repeats.put_repeat.Goals as goal

pub returns-in_err-put : goal.returns-in_err-put
returns-in_err-put g c =
    let h = c.in_err-put.ensures in
    writes_broken _ _ _ _ [] _ (decimal c.args.count) _ c.from_residual.ensures.0
    (rw (c.digit_of.ensures, c.digit_of-2.ensures) refl) (appends_none (g.W.Write.contents c.args.out.now)) h

pub returns : goal.returns
returns g c =
    let text : c.digit_of.result ∷ c.digit_of-2.result ∷ 42 ∷ decimal c.args.count
    ≡ repeat_text (c.args.byte, c.args.count) = rw (c.digit_of.ensures, c.digit_of-2.ensures) refl in
    subst (λ t. Writes (g.W.Write.contents c.args.out.now) (g.W.Write.contents c.put_number.new.out) c.put_number.result
    t) text (writes_after _ _ _ _ _ _ c.in_ok-put.ensures c.put_number.ensures)
