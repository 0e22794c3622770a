-- A bus that keeps its last exchanges.
use Rattle.std.specs.Prelude.{◌≡◌, ◌-◌, ℕ, drop, List, [], ◌∷◌, ◌++◌, length}
use Rattle.circular_buffer.specs.Buffer.{keep_last}
use Rattle.mmc_card.specs.declared.exchange.Exchange.{Exchange}
use Rattle.mmc_card.specs.declared.exchange.Exchange.TheVariants.{Busy, Command, In, Out}

-- a command has its six bytes
abbrev pub HasItsFrame : Exchange → Type 0
HasItsFrame (Command frame want reply) = length frame ≡ 6
HasItsFrame (In len got) = Unit {0}
HasItsFrame (Out got) = Unit {0}
HasItsFrame (Busy said) = Unit {0}

-- the last n of these exchanges, or all where there are fewer
abbrev pub last_of : ℕ → List Exchange → List Exchange
last_of n exchanges = drop (length exchanges - n) exchanges

-- the bus inside, the exchanges that are kept, oldest first, and how many there may be
pub record TraceView (B : Type 0) : Type 0 where
  pub bus : B
  pub exchanges : List Exchange
  pub capacity : ℕ

-- this exchange is kept, and the oldest goes where there is no room
pub record Traces {B : Type 0} (old : TraceView B) (exchange : Exchange) (new : TraceView B) : Type 0 where
  pub exchanges : new.exchanges ≡ keep_last old.capacity (old.exchanges ++ exchange ∷ [])
  pub capacity : new.capacity ≡ old.capacity

-- no exchange was made
pub record TracesNothing {B : Type 0} (old new : TraceView B) : Type 0 where
  pub exchanges : new.exchanges ≡ old.exchanges
  pub capacity : new.capacity ≡ old.capacity
