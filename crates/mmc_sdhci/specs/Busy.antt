-- Whether the card is busy.
use Rattle.std.specs.Prelude.{Bool, max, min, ℕ, ◌/◌, ◌==◌}
use Rattle.mmc_frame.specs.Field.{field}
use Rattle.mmc_sdhci.specs.Controller.{ControllerView, Settled}
use Rattle.mmc_sdhci.specs.Accesses.{Polls}

-- one poll, which tells whether the card holds DAT0 low; the registers stay
abbrev pub IsPolled : ControllerView → Bool → ControllerView → Type 0
IsPolled old said new = Settled old (Polls old said new) new

-- Present State shows DAT0 low, in its bit 20
abbrev pub is_low : ℕ → Bool
is_low present = field 20 20 present == 0

-- for how many microseconds nobody looks once it has been waited for so many: a quarter of them, 10 at least and 1,000 at most
abbrev pub time_between : ℕ → ℕ
time_between waited = min (max (waited / 4) 10) 1000
