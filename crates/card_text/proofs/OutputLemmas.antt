-- The lines of completions from a place on.
use Rattle.std.proofs.Common.{◌≡◌, ◌<◌, ◌+◌, ℕ, suc, List, ◌++◌, length, drop, get_or, sym, ap, ◌∙◌, drop-cons, add-one}
use Rattle.mmc_block.specs.declared.completion.Completion.{Completion}
use Rattle.card_text.specs.Output.{completion_text, completions_text}

pub completions_at : (cs : List Completion) (i : ℕ) (c : Completion) → i < length cs → c ≡ get_or cs i c
    → completions_text (drop i cs) ≡ completion_text c ++ completions_text (drop (i + 1) cs)
completions_at cs i c lt is =
    ap completions_text (drop-cons cs i c lt)
    ∙ ap (λ d. completion_text d ++ completions_text (drop (suc i) cs)) (sym is)
    ∙ ap (λ n. completion_text c ++ completions_text (drop n cs)) (sym (add-one i))
