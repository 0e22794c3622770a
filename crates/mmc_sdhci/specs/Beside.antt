-- What a driver has beside the card: how long it has waited, and what Present State showed it last (SD Host Controller Simplified
-- Specification 3.00, section 2.2.9).
use Rattle.std.specs.Prelude.{Bool, bit_and, if◌then◌else◌, nat_le, true, ℕ, ◌&&◌, ◌*◌, ◌+◌, ◌-◌, ◌==◌, ◌≡◌, ◌≤◌}
use Rattle.mmc_frame.specs.Field.{field}
use Rattle.mmc_sdhci.specs.Controller.{ControllerView}
use Rattle.mmc_sdhci.specs.declared.following.Following.{Following}
use Rattle.mmc_sdhci.specs.declared.following.Following.TheVariants.{Another, End}
use Rattle.mmc_sdhci.specs.declared.watching.Sought.{Sought}
use Rattle.mmc_sdhci.specs.declared.watching.Sought.TheVariants as sought

-- A wait that ends once one of these bits of Interrupt Status (30h) is set, and otherwise after so many microseconds.
pub record Wait : Type 0 where
  pub interrupts : ℕ
  pub micros : ℕ

abbrev pub no_wait : Wait
no_wait = record { interrupts = 0; micros = 0 }

pub record Beside : Type 0 where
  -- for so many microseconds at least
  pub waited : ℕ
  -- Present State (24h), as last read
  pub present : ℕ
  -- the last wait for interrupts, as long as no look at Interrupt Status says how it ended
  pub wait : Wait

-- how long it was: where a look after it shows none of its bits, all of its time
abbrev pub lasted : Wait → ℕ → ℕ
lasted wait bits = if bit_and bits wait.interrupts == 0 then wait.micros else 0

-- a register is read
abbrev pub read_on : Beside → ℕ → ℕ → Beside
read_on old offset value =
    if offset == 0x24 then record old { present = value }
    else (if offset == 0x30 then record old { waited = old.waited + lasted old.wait value; wait = no_wait } else old)

-- one is written, which may clear interrupts: then no look says any more how a wait ended
abbrev pub write_on : Beside → Beside
write_on old = record old { wait = no_wait }

-- time passes
abbrev pub waited_on : Beside → ℕ → Beside
waited_on old micros = record old { waited = old.waited + micros }

-- or is to pass, unless there is an interrupt
abbrev pub wait_on : Beside → ℕ → ℕ → Beside
wait_on old interrupts micros = record old { wait = record { interrupts = interrupts; micros = micros } }

-- Only a kept controller tells.
abbrev pub IsBeside : ControllerView → Beside → Beside → Type 0
IsBeside view expected beside = view.is_kept ≡ true → beside ≡ expected

-- so many microseconds were waited, or more
abbrev pub HasWaited : ControllerView → ℕ → Beside → Beside → Type 0
HasWaited view micros old new = view.is_kept ≡ true → old.waited + micros ≤ new.waited

-- So many microseconds were waited, or one of these bits is set: a look at Interrupt Status that shows none of them says that it was so long.
pub record WaitedFor (interrupts micros : ℕ) (old new : Beside) : Type 0 where
  pub longer : old.waited ≤ new.waited
  pub long : (bits : ℕ) → bit_and bits interrupts ≡ 0 → old.waited + micros ≤ (read_on new 0x30 bits).waited
  pub present : new.present ≡ old.present

abbrev pub WaitsFor : ControllerView → ℕ → ℕ → Beside → Beside → Type 0
WaitsFor view interrupts micros old new = view.is_kept ≡ true → WaitedFor interrupts micros old new

-- Present State: bit 17 says that the controller is sure of bit 16, that a card is inserted
abbrev pub is_sure : ℕ → Bool
is_sure present = field 17 17 present == 1

abbrev pub is_inserted : ℕ → Bool
is_inserted present = is_sure present && (field 16 16 present == 1)

-- and bit 19 is 0 where the switch of the slot protects the card
abbrev pub is_protected : ℕ → Bool
is_protected present = field 19 19 present == 0

-- for how long is looked or waited at least: for a block 100 ms, and for room, or until a block has gone, half a second
abbrev pub time_for : Sought → ℕ
time_for sought.Block = 100000
time_for (sought.Good following) = 100000
time_for sought.Room = 500000
time_for (sought.Gone following) = 500000

-- how often, at least a microsecond apart, and 50 of them from the thousandth on
abbrev pub looks_for : Sought → ℕ
looks_for sought.Block = 2980
looks_for (sought.Good following) = 2980
looks_for sought.Room = 10980
looks_for (sought.Gone following) = 10980

-- so many looks take so long at least
abbrev pub time_of : ℕ → ℕ
time_of looks = if nat_le looks 1000 then looks else 50 * looks - 49000

-- The interrupts that tell of it: bit 5 a block is in the buffer, bit 4 there is room for one, bit 1 all data is over; or an error.
abbrev pub errors : ℕ
errors = 0x007f0000

abbrev pub interrupt_after : ℕ → Following → ℕ
interrupt_after ready End = 0x02
interrupt_after ready Another = ready

abbrev pub interrupts_for : Sought → ℕ
interrupts_for sought.Block = 0x20 + errors
interrupts_for (sought.Good following) = interrupt_after 0x20 following + errors
interrupts_for sought.Room = 0x10 + errors
interrupts_for (sought.Gone following) = interrupt_after 0x10 following + errors

-- where nothing is told
abbrev pub untold : Beside
untold = record { waited = 0; present = 0; wait = no_wait }
