-- Headline (docs/AUDIT.md, "What to read").
-- Fields of frames and registers, which are whole numbers.
use Rattle.std.specs.Prelude.{ℕ, ◌+◌, ◌-◌, ◌/◌, ◌%◌, ◌^◌}

-- the bits from hi down to lo
abbrev pub field : ℕ → ℕ → ℕ → ℕ
field hi lo n = n / 2 ^ lo % 2 ^ (hi - lo + 1)
