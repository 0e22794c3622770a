-- Headline (docs/AUDIT.md, "What to read").
-- The view of a bus: what contracts see of it.
use Rattle.std.specs.Prelude.{Bool, Option, ℕ}
use Rattle.mmc_card.specs.declared.exchange.Exchange.{Exchange}
use Rattle.mmc_card.specs.declared.exchange.Lines.{Lines}
use Rattle.mmc_card.specs.Card.{Card}

pub record BusView : Type 0 where
  -- the card, as far as the bus has been kept
  pub card : Card
  -- as last set by the host
  pub lines : Lines
  -- what the host can: the most lines that are wired, and the fastest timing
  pub limits : Lines
  -- the last exchange with its answer, if there was one
  pub last : Option Exchange
  -- how many exchanges there were; at 2^64 - 1 it stays
  pub exchanges : ℕ
  -- how many faults have fallen while the bus was kept
  pub faults : ℕ
  -- how many may still fall at most, where the bus says so
  pub may_fall : Option ℕ
  -- each exchange so far was a step of a card
  pub is_kept : Bool
