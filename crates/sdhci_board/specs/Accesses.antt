-- Accesses to registers by whole words.
use Rattle.std.specs.Prelude.{◌≡◌, List, None, Option, Some, ℕ}

pub data Access : Type 0 where
  WordRead : ℕ → ℕ → Access
  WordWritten : ℕ → ℕ → Access
  Waited : ℕ → Access

-- What a call does with the accesses so far, the last one first. Registers that keep no account of them tell nothing.
abbrev pub Tells : (List Access → List Access → Type 0) → Option (List Access) → Option (List Access) → Type 0
Tells Does old None = Unit {0}
Tells Does old (Some new) = (before : List Access) × (old ≡ Some before) × Does before new
