-- What contracts see in a scripted bus.
use Rattle.std.specs.Prelude.{List}
use Rattle.mmc_card.specs.BusView.{BusView}
use Rattle.mmc_bus.specs.Wires.{unkept}
use Rattle.mmc_bus.specs.declared.scripted.BusAnswer.{BusAnswer}
use Rattle.mmc_bus.specs.declared.scripted.ScriptedBus.{ScriptedBus}

-- the answers to come, the next one first
abbrev pub answers_of : ScriptedBus → List BusAnswer
answers_of bus = bus.answers.items

-- it is never kept
abbrev pub scripted_bus_view : ScriptedBus → BusView
scripted_bus_view bus = unkept bus.wire
