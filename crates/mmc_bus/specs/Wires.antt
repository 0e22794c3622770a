-- What a bus keeps of its exchanges at run time, and the view of a bus that keeps nothing else.
use Rattle.std.specs.Prelude.{◌+◌, ◌-◌, ◌^◌, ◌≡◌, Bool, None, Option, Some, [], false, min, ℕ}
use Rattle.mmc_frame.specs.declared.kind.Kind.TheVariants.{Sd}
use Rattle.mmc_card.specs.declared.exchange.Exchange.{Exchange}
use Rattle.mmc_card.specs.declared.exchange.Timing.TheVariants.{Default}
use Rattle.mmc_card.specs.declared.exchange.Width.TheVariants.{One}
use Rattle.mmc_bus.specs.declared.wire.Wire.{Wire}
use Rattle.mmc_card.specs.Card.{Card, powered_on}
use Rattle.mmc_card.specs.Made.{Made}
use Rattle.mmc_card.specs.BusView.{BusView}
use Rattle.mmc_card.specs.Limits.{all_lines}

-- an exchange is noted
pub record Notes (old : Wire) (exchange : Exchange) (new : Wire) : Type 0 where
  pub lines : new.lines ≡ old.lines
  pub limits : new.limits ≡ old.limits
  pub last : new.last ≡ Some exchange
  pub exchanges : new.exchanges ≡ min (old.exchanges + 1) (2 ^ 64 - 1)

-- the view with this card, on which so many faults have fallen, and so many may still fall
abbrev pub bus_view_with : Card → ℕ → Option ℕ → Bool → Wire → BusView
bus_view_with card faults may_fall is_kept wire =
    record {
      card = card;
      lines = wire.lines;
      limits = wire.limits;
      last = wire.last;
      exchanges = wire.exchanges;
      faults = faults;
      may_fall = may_fall;
      is_kept = is_kept;
    }

abbrev pub nothing_made : Made
nothing_made =
    record {
      kind = Sd;
      ocr = 0;
      cid = [];
      csd = [];
      scr = [];
      switch_status = [];
      ext_csd = [];
      is_nameless = false;
      is_locked = false;
      answers_cmd8 = false;
    }

-- no exchange so far, and no fault, on one line at default speed, of a host that limits nothing
pub record IsUnused (view : BusView) : Type 0 where
  pub lines : view.lines ≡ record { width = One; timing = Default }
  pub limits : view.limits ≡ all_lines
  pub last : view.last ≡ None
  pub exchanges : view.exchanges ≡ 0
  pub faults : view.faults ≡ 0

-- The view of a bus that never is kept: its card says nothing, nor how many faults may fall.
abbrev pub unkept : Wire → BusView
unkept wire = bus_view_with (powered_on nothing_made []) 0 None false wire
