use Rattle.std.proofs.Common.{◌≡◌, ◌<◌, ◌++◌, ◌∷◌, [], length, drop, get_or, arith, sym, ap, ◌∙◌, append_assoc}
use Rattle.std.proofs.Common.{append-nil, subst, refl}
use Rattle.std.specs.Io.KnownBytes.{Appends}
use Rattle.text_out.specs.Repeats.{repeats_text, repeat_text}
use Rattle.std.proofs.lemmas.Bool.{eqb-true, eqb-false}
use Rattle.text_out.proofs.WritingLemmas.{appends_none, appends_more, front_broken}
use Rattle.text_out.proofs.RepeatLemmas.{first_last, first_more, first_some, first_begins, on_err, text_empty, nothing}
use Rattle.text_out.proofs.RepeatLemmas.{len}
use Rattle.text_out.proofs.repeats.put_first.Goals as goal
use Rattle.text_out.proofs.repeats.put_first.Goals.{then-not-is_empty+in_ok-put, else-not-is_empty}

pub returns-in_err-put_repeat-clause-err : goal.returns-in_err-put_repeat-clause-err
returns-in_err-put_repeat-clause-err g c =
    let n : length c.split_at.result.0.now ≡ len (get_or c.args.bytes.now 0 0) c.args.bytes.now =
    c.split_at.ensures.front_len ∙ c.repeat_len.ensures.count in
    let begins = first_begins c.args.bytes.now _ _ c.requires refl n in
    on_err _ (front_broken _ _ _ [] _ begins.0 _ begins.1
    (appends_none (g.W.Write.contents c.args.out.now)) c.in_err-put_repeat.ensures)

pub returns-in_err-put-clause-err : goal.returns-in_err-put-clause-err
returns-in_err-put-clause-err g c =
    let n : length c.split_at.result.0.now ≡ len (get_or c.args.bytes.now 0 0) c.args.bytes.now =
    c.split_at.ensures.front_len ∙ c.repeat_len.ensures.count in
    let left : drop (length c.split_at.result.0.now) c.args.bytes.now ≡ c.split_at.result.1.now =
    ap (λ k. drop k c.args.bytes.now) c.split_at.ensures.front_len ∙ sym c.split_at.ensures.back in
    let some : length c.split_at.result.1.now ≡ 0
    → ⊥ = eqb-false _ _ (sym c.is_empty.ensures ∙ c.if-not-is_empty.true) in
    let more = first_more c.args.bytes.now _ _ c.requires refl n (λ none. some (ap length (sym left ∙ none))) in
    on_err _ (front_broken _ _ _ _ (44 ∷ []) _ _ more c.in_ok-put_repeat.ensures c.in_err-put.ensures)

pub returns-clause-ok : goal.returns-clause-ok
returns-clause-ok g c =
    let b = get_or c.args.bytes.now 0 0 in
    let k = length c.split_at.result.0.now in
    let n : length c.split_at.result.0.now ≡ len (get_or c.args.bytes.now 0 0) c.args.bytes.now =
    c.split_at.ensures.front_len ∙ c.repeat_len.ensures.count in
    let left : drop (length c.split_at.result.0.now) c.args.bytes.now ≡ c.split_at.result.1.now =
    ap (λ k. drop k c.args.bytes.now) c.split_at.ensures.front_len ∙ sym c.split_at.ensures.back in
    let moves : 0 < length c.split_at.result.0.now = first_some c.args.bytes.now b k c.requires refl n in
    let shorter : length c.split_at.result.1.now < length c.args.bytes.now =
    omega (arith, c.split_at.ensures.back_len, c.split_at.ensures.front_len) in
    elim c.if-not-is_empty.branch [
      | then-not-is_empty+in_ok-put w ↦
          (let some : length c.split_at.result.1.now ≡ 0
          → ⊥ = eqb-false _ _ (sym c.is_empty.ensures ∙ w.if-not-is_empty.true) in
          let more = first_more c.args.bytes.now b k c.requires refl n (λ none. some (ap length (sym left ∙ none))) in (
            shorter,
            repeat_text (b, k) ++ 44 ∷ [],
            more ∙ ap (λ l. repeat_text (b, k) ++ (44 ∷ repeats_text l)) left
                ∙ sym (append_assoc (repeat_text (b, k)) (44 ∷ []) (repeats_text c.split_at.result.1.now)),
            subst (λ o. Appends (g.W.Write.contents c.args.out.now) (g.W.Write.contents o)
                (repeat_text (b, k) ++ 44 ∷ [])) (sym w.out-is)
                (appends_more _ _ _ _ _ c.in_ok-put_repeat.ensures w.in_ok-put.ensures),
          ))
      | else-not-is_empty w ↦
          (let none : length c.split_at.result.1.now ≡ 0 =
          eqb-true _ _ (sym c.is_empty.ensures ∙ w.if-not-is_empty.false) in
          let empty : repeats_text c.split_at.result.1.now ≡ [] = text_empty c.split_at.result.1.now none in (
            shorter,
            repeat_text (b, k),
            first_last c.args.bytes.now b k c.requires refl n (left ∙ nothing c.split_at.result.1.now none)
                ∙ sym (append-nil (repeat_text (b, k))) ∙ ap (λ t. repeat_text (b, k) ++ t) (sym empty),
            subst (λ o. Appends (g.W.Write.contents c.args.out.now) (g.W.Write.contents o) (repeat_text (b, k)))
                (sym w.out-is) c.in_ok-put_repeat.ensures,
          ))
    ]
