-- The lines of exchanges from a place on.
use Rattle.std.proofs.Common.{◌≡◌, ◌+◌, ℕ, zero, suc, List, [], ◌∷◌, ◌++◌, drop, Some, sym, ap, ◌∙◌, add-one}
use Rattle.std.specs.Prelude.{slice_get}
use Rattle.mmc_card.specs.declared.exchange.Exchange.{Exchange}
use Rattle.mmc_bus.specs.ExchangeText.{exchange_text, lines_text}

from_place : (es : List Exchange) (i : ℕ) (e : Exchange) → Some e ≡ slice_get es i → lines_text (drop i es)
    ≡ exchange_text e ++ lines_text (drop (suc i) es)
from_place [] i e h = absurd cc
from_place (x ∷ es) zero e h = let same : x ≡ e = cc in ap (λ y. exchange_text y ++ lines_text es) same
from_place (x ∷ es) (suc i) e h = from_place es i e h

pub lines_at : (es : List Exchange) (i : ℕ) (e : Exchange) → Some e ≡ slice_get es i → lines_text (drop i es)
    ≡ exchange_text e ++ lines_text (drop (i + 1) es)
lines_at es i e h = from_place es i e h ∙ ap (λ n. exchange_text e ++ lines_text (drop n es)) (sym (add-one i))
