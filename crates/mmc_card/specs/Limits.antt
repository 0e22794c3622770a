-- What a host can, and what card and host can together.
use Rattle.mmc_card.specs.declared.exchange.Lines.{Lines}
use Rattle.mmc_card.specs.declared.exchange.Timing.{Timing}
use Rattle.mmc_card.specs.declared.exchange.Timing.TheVariants.{Default, High}
use Rattle.mmc_card.specs.declared.exchange.Width.{Width}
use Rattle.mmc_card.specs.declared.exchange.Width.TheVariants.{Eight, Four, One}

-- of a host that limits nothing
abbrev pub all_lines : Lines
all_lines = record { width = Eight; timing = High }

-- the fewer lines of the two
abbrev pub fewer : Width → Width → Width
fewer One other = One
fewer Four One = One
fewer Four Four = Four
fewer Four Eight = Four
fewer Eight other = other

-- the slower timing of the two
abbrev pub slower : Timing → Timing → Timing
slower Default other = Default
slower High other = other
