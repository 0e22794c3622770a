-- Blocks that were lent one time after the other.
use Rattle.std.specs.Prelude.{List, ℕ}
use Rattle.mmc_bus.specs.Lending.{IsRewritten, block, nothing}

pub rewritten_then : {S : Type 0} {blocks : S → List (List ℕ)} {leave : S → ℕ → List ℕ → S} (a b c : S)
    → IsRewritten blocks leave a b → IsRewritten blocks leave b c → IsRewritten blocks leave a c
rewritten_then a b c first nothing = first
rewritten_then a b c first (block now i left second below size) =
    block now i left (rewritten_then a b now first second) below size
