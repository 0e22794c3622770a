-- The numbers that stand for what isn't a number.
use Rattle.std.specs.Prelude.{◌==◌, Bool, None, Option, Some, if◌then◌else◌, not, ℕ}
use Rattle.mmc_frame.specs.declared.addressing.Addressing.{Addressing}
use Rattle.mmc_frame.specs.declared.addressing.Addressing.TheVariants.{Bytes, Sectors}
use Rattle.mmc_frame.specs.declared.kind.Kind.{Kind}
use Rattle.mmc_frame.specs.declared.kind.Kind.TheVariants.{Mmc, Sd}
use Rattle.mmc_card.specs.declared.exchange.Timing.{Timing}
use Rattle.mmc_card.specs.declared.exchange.Timing.TheVariants as At
use Rattle.mmc_card.specs.declared.exchange.Width.{Width}
use Rattle.mmc_card.specs.declared.exchange.Width.TheVariants as Over
use Rattle.mmc_card.specs.declared.part.Part.{Part}
use Rattle.mmc_card.specs.declared.part.Part.TheVariants as In
use Rattle.mmc_bus.specs.declared.cause.Cause.{Cause}
use Rattle.mmc_bus.specs.declared.cause.Cause.TheVariants as Why

abbrev pub part_of : ℕ → Option Part
part_of number =
    if number == 0 then Some In.User
    else (if number == 1 then Some In.Boot1
    else (if number == 2 then Some In.Boot2
    else (if number == 3 then Some In.Gp1
    else (if number == 4 then Some In.Gp2
    else (if number == 5 then Some In.Gp3
    else (if number == 6 then Some In.Gp4 else None))))))

abbrev pub kind_of : ℕ → Kind
kind_of number = if number == 0 then Sd else Mmc

abbrev pub addressing_of : ℕ → Addressing
addressing_of number = if number == 0 then Bytes else Sectors

abbrev pub width_of : ℕ → Width
width_of lines = if lines == 8 then Over.Eight else (if lines == 4 then Over.Four else Over.One)

abbrev pub timing_of : ℕ → Timing
timing_of high_speed = if high_speed == 0 then At.Default else At.High

abbrev pub cause_of : ℕ → Cause
cause_of number =
    if number == 0 then Why.Answer
    else (if number == 1 then Why.Data
    else (if number == 2 then Why.Status
    else (if number == 3 then Why.Busy else Why.Recovery)))

abbrev pub is_set : ℕ → Bool
is_set number = not (number == 0)
