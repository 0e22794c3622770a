use Rattle.std.proofs.Common.{◌∙◌, ◌++◌, [], ◌∷◌, codes, subst, sym}
use Rattle.std.specs.List.{list_any}
use Rattle.text_out.specs.Writing.{Writes}
use Rattle.card_text.specs.Script.{lines}
use Rattle.card_check.specs.Keys.{expected_words}
use Rattle.card_check.specs.Missing.{begins_with}
use Rattle.card_check.proofs.PrintLemmas.{nothing_where, written_else}
use Rattle.card_check.proofs.missing.put_if_missing.Goals as goal

pub returns-then-has_key : goal.returns-then-has_key
returns-then-has_key g c =
    nothing_where (g.W.Write.contents c.args.out.now) _ _ (sym c.has_key.ensures ∙ c.if-has_key.true)

pub returns : goal.returns
returns g c =
    written_else (g.W.Write.contents c.args.out.now) (g.W.Write.contents c.put_pieces.new.out) c.put_pieces.result
    (list_any (begins_with c.args.name.now) (lines c.args.text.now))
    (codes "card: a line is missing: " ++ (expected_words c.args.key ++ (10 ∷ [])))
    (sym c.has_key.ensures ∙ c.if-has_key.false)
    (subst (λ words. Writes (g.W.Write.contents c.args.out.now) (g.W.Write.contents c.put_pieces.new.out) c.put_pieces.result
    (codes "card: a line is missing: " ++ (words ++ (10 ∷ [])))) c.expected-expected.ensures c.put_pieces.ensures)
