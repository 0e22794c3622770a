-- Blocks that are moved with their command: each exchange is one of several.
use Rattle.std.proofs.Common.{Bool, List, None, [], arith, false, refl, subst, suc, sym, true, zero, ◌+◌, ◌<◌, ◌≡◌, ◌∙◌, ℕ}
use Rattle.std.proofs.lemmas.Bool.{false≢true}
use Rattle.std.specs.Prelude.{◌&&◌, ◌||◌, if◌then◌else◌, nat_lt}
use Rattle.mmc_bus.specs.Exchanges.{DataRead, Exchanged}
use Rattle.mmc_bus.specs.Together.{BlockRead, NotBusy, OneOf, RestsAfter}
use Rattle.mmc_card.specs.BusView.{BusView}
use Rattle.mmc_card.specs.Card.{Card}
use Rattle.mmc_card.specs.declared.exchange.DataIn.{DataIn}
use Rattle.mmc_card.specs.declared.exchange.Lines.{Lines}
use Rattle.mmc_card.specs.declared.exchange.Exchange.{Exchange}
use Rattle.mmc_card.specs.declared.exchange.Exchange.TheVariants.{In}
use Rattle.mmc_card_rows.specs.declared.delays.Delays.{Delays}
use Rattle.mmc_card_sim.specs.FaultyExchanges.{Polls, counted, fits_command, fits_poll, fits_read, fits_time, fits_write}
use Rattle.mmc_card_sim.specs.Plan.{fault_at}
use Rattle.mmc_card_sim.specs.declared.plan.Planned.{Planned}

pub one_of : (old new : BusView) (exchange : Exchange) (Step : Type 0) → Exchanged old exchange Step new
    → OneOf old exchange Step new
one_of old new exchange Step e =
    let count = e.exchanges in
    record { lines = e.lines; limits = e.limits; last = e.last; exchanges = omega (arith, count); kept = e.kept }

not_slow : (is_busy is_slow : Bool) (slow fast : Card × Bool) → is_slow ≡ false → fast.1 ≡ false
    → (if◌then◌else◌ {A = Card × Bool} (is_busy && is_slow) slow fast).1 ≡ false
not_slow true true slow fast is says = absurd (false≢true (sym is))
not_slow true false slow fast is says = says
not_slow false is_slow slow fast is says = says

at_once : (polled busy : ℕ) → busy ≡ 0 → (nat_lt polled busy || false) ≡ false
at_once polled busy none = grind (arith, none)

-- a card without a busy time says no, where no fault is planned
pub says_no : (delays : Delays) (old new : Card) (said : Bool) → delays.busy ≡ 0
    → Polls None delays old said (fits_poll None old) new → said ≡ false
says_no delays old new said none polls = polls.said_is refl ∙ not_slow old.is_busy _ _ _ (at_once old.polled delays.busy none) refl

pub one_read : (old new : BusView) (got : DataIn) (bytes : List ℕ) (size : ℕ) → size ≡ 512 → DataRead old size got bytes new
    → BlockRead old got bytes new
one_read old new got bytes size is read =
    one_of old new (In 512 got) _ (subst (λ n. DataRead old n got bytes new) is read)

none_below : 0 < 0 → ⊥
none_below = omega arith

-- before the next block after some
pub rests_after : (done : ℕ) (old new : BusView) → 0 < done → NotBusy old new → RestsAfter NotBusy done old new
rests_after zero old new some h = absurd (none_below some)
rests_after (suc done) old new some h = h

-- No fault falls where none is planned.

pub no_read_fails : (plan : List Planned) (exchange size old new : ℕ) (card : Card) (lines : Lines) → plan ≡ []
    → new ≡ (if fits_read (fault_at plan exchange) card lines size then old + 1 else old) → new ≡ old
no_read_fails plan exchange size old new card lines none is = rw none at is

pub no_write_fails : (plan : List Planned) (exchange old new : ℕ) (first card : Card) (lines : Lines) → plan ≡ []
    → new ≡ counted (fits_write (fault_at plan exchange) card lines) (counted (fits_time (fault_at plan exchange) first) old) → new ≡ old
no_write_fails plan exchange old new first card lines none is = rw none at is

pub no_poll_fails : (plan : List Planned) (exchange old new : ℕ) (card : Card) → plan ≡ []
    → new ≡ (if fits_poll (fault_at plan exchange) card then old + 1 else old) → new ≡ old
no_poll_fails plan exchange old new card none is = rw none at is

pub no_command_fails : (plan : List Planned) (exchange old new : ℕ) (delays : Delays) (first card : Card) (frame : List ℕ) → plan ≡ []
    → new ≡ counted (fits_command (fault_at plan exchange) delays card frame) (counted (fits_time (fault_at plan exchange) first) old)
    → new ≡ old
no_command_fails plan exchange old new delays first card frame none is = rw none at is
