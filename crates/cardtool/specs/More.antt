-- What is shown of the exchanges after the answers.
use Rattle.std.specs.Prelude.{◌≤◌, ℕ, Option, None, Some}
use Rattle.mmc_bus.specs.declared.trace.TheConstants.{MAX_KEPT}
use Rattle.cardtool.specs.declared.more.Shown.{Shown}
use Rattle.cardtool.specs.declared.more.Shown.TheVariants.{Explained, Nothing, Trace}

-- a number of exchanges that a trace may keep
abbrev pub IsShown : Shown → Type 0
IsShown Nothing = Unit {0}
IsShown (Trace n) = (1 ≤ n) × (n ≤ MAX_KEPT)
IsShown (Explained n) = (1 ≤ n) × (n ≤ MAX_KEPT)

-- the trace after the answers: exchanges that are explained are none
abbrev pub trace_of : Shown → Option ℕ
trace_of Nothing = None
trace_of (Trace n) = Some n
trace_of (Explained n) = None
