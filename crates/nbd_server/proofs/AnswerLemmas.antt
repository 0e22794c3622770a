-- The replies of completions from a place on.
use Rattle.std.proofs.Common.{◌≡◌, ◌<◌, ◌+◌, ℕ, suc, List, ◌++◌, length, drop, get_or, sym, ap, ◌∙◌, drop-cons, add-one}
use Rattle.mmc_block.specs.declared.completion.Completion.{Completion}
use Rattle.nbd_server.specs.Acts.{answer_bytes, answers_bytes, cookie_under}

pub answers_at : (cookies : List ℕ) (cs : List Completion) (i : ℕ) (c : Completion) (cookie : ℕ) → i < length cs
    → c ≡ get_or cs i c → cookie ≡ cookie_under cookies c.client
    → answers_bytes cookies (drop i cs) ≡ answer_bytes cookie c.answer ++ answers_bytes cookies (drop (i + 1) cs)
answers_at cookies cs i c cookie lt is his =
    ap (answers_bytes cookies) (drop-cons cs i c lt)
    ∙ ap (λ (d : Completion). answer_bytes (cookie_under cookies d.client) d.answer ++ answers_bytes cookies (drop (suc i) cs))
    (sym is)
    ∙ ap (λ k. answer_bytes k c.answer ++ answers_bytes cookies (drop (suc i) cs)) (sym his)
    ∙ ap (λ n. answer_bytes cookie c.answer ++ answers_bytes cookies (drop n cs)) (sym (add-one i))
