-- The lines of a trace of which words were written so far, and those that are left.
use Rattle.std.proofs.Common.{ap, append-nil, append_assoc, sym, ◌++◌, ◌∙◌, ◌∷◌, ◌≡◌, List, Option, Some, ℕ}
use Rattle.std.specs.Borrow.{Bor}
use Rattle.mmc_card.specs.declared.exchange.Exchange.{Exchange}
use Rattle.card_text.proofs.PartLemmas.{none_left}
use Rattle.card_text.specs.Parts.{left_parts, parts}
use Rattle.card_trace.specs.ExchangeLines.{exchange_of}
use Rattle.card_trace.specs.TraceText.{read_on, said_from, said_of}
use Rattle.card_trace.specs.declared.lines.Form.{Form}
use Rattle.card_trace.specs.declared.lines.Reading.{Reading}

-- one line more
pub said_step : (form : Form) (reading next : Reading) (all out put line : List ℕ) (left others : List (List ℕ)) (e : Option Exchange)
    → e ≡ exchange_of (parts 32 line) → all ≡ out ++ said_from form reading left → left ≡ line ∷ others
    → put ≡ out ++ said_of form reading line e → next ≡ read_on reading e → all ≡ put ++ said_from form next others
unfolding said_from
said_step form reading next all out put line left others e is before first said after =
    before ∙ ap (λ ls. out ++ said_from form reading ls) first
    ∙ ap (λ (x : Option Exchange). out ++ (said_of form reading line x ++ said_from form (read_on reading x) others)) (sym is)
    ∙ sym (append_assoc out (said_of form reading line e) (said_from form (read_on reading e) others))
    ∙ ap (λ o. o ++ said_from form (read_on reading e) others) (sym said)
    ∙ ap (λ r. put ++ said_from form r others) (sym after)

-- and no line more
pub said_all : (form : Form) (reading : Reading) (all out : List ℕ) (rest : Option (Bor (List ℕ)))
    → ((text : Bor (List ℕ)) → rest ≡ Some text → ⊥) → all ≡ out ++ said_from form reading (left_parts 10 rest) → out ≡ all
unfolding said_from
said_all form reading all out rest none before =
    sym (before ∙ ap (λ ls. out ++ said_from form reading ls) (none_left 10 rest none) ∙ append-nil out)
