-- Which exchanges a rule is about, and what it plans.
use Rattle.std.specs.Prelude.{◌%◌, ◌&&◌, ◌==◌, ◌≡◌, Bool, None, Option, Some, false, if◌then◌else◌, nat_le, nat_lt, true, ℕ}
use Rattle.mmc_card_sim.specs.declared.fault.Fault.{Fault}
use Rattle.mmc_card_sim.specs.declared.fault.Fault.TheVariants.{BadBlock, Fail, FlipReply, LoseBlock}
use Rattle.mmc_card_sim.specs.declared.fault.Fault.TheVariants.{LoseCommand, LoseReply, LoseStatus, NoBlock, Reject}
use Rattle.card_rules.specs.declared.moment.Moment.{Moment}
use Rattle.card_rules.specs.declared.moment.Moment.TheVariants.{Command, Poll, Read, Write}
use Rattle.card_rules.specs.declared.rule.What.{What}
use Rattle.card_rules.specs.declared.rule.What.TheVariants.{Any, Gone, This}
use Rattle.card_rules.specs.declared.rule.When.{When}
use Rattle.card_rules.specs.declared.rule.When.TheVariants.{After, At, Chance, Each, From, Read as ReadOf, Write as WriteOf}

abbrev pub is_within : Option ℕ → ℕ → ℕ → Bool
is_within None first last = false
is_within (Some sector) first last = nat_le first sector && nat_le sector last

-- the rule is about the exchange with this number, before which so many commands with the rule's index came
abbrev pub is_about : When → ℕ → Moment → ℕ → ℕ → Bool
is_about (At at) number moment before chance = at == number
is_about (From from) number moment before chance = nat_le from number
is_about (Each wanted) number (Command index) before chance = wanted == index
is_about (After wanted some) number (Command index) before chance = (wanted == index) && (some == before)
is_about (ReadOf first last) number (Read sector) before chance = is_within sector first last
is_about (WriteOf first last) number (Write sector) before chance = is_within sector first last
is_about (Chance of out_of) number moment before chance = if out_of == 0 then false else nat_lt (chance % out_of) of
is_about when number moment before chance = false

abbrev pub is_of_command : Fault → Bool
is_of_command LoseCommand = true
is_of_command LoseReply = true
is_of_command (FlipReply flips) = true
is_of_command fault = false

abbrev pub is_of_read : Fault → Bool
is_of_read BadBlock = true
is_of_read NoBlock = true
is_of_read fault = false

abbrev pub is_of_write : Fault → Bool
is_of_write Reject = true
is_of_write LoseBlock = true
is_of_write (LoseStatus outcome) = true
is_of_write fault = false

abbrev pub is_of_poll : Fault → Bool
is_of_poll (Fail outcome) = true
is_of_poll fault = false

-- the fault that a rule names, one that is of such an exchange, or that of a card that is gone
abbrev pub IsPlanned : What → Moment → Fault → Type 0
IsPlanned (This named) moment fault = fault ≡ named
IsPlanned Any (Command index) fault = is_of_command fault ≡ true
IsPlanned Any (Read sector) fault = is_of_read fault ≡ true
IsPlanned Any (Write sector) fault = is_of_write fault ≡ true
IsPlanned Any Poll fault = is_of_poll fault ≡ true
IsPlanned Gone (Read sector) fault = fault ≡ NoBlock
IsPlanned Gone (Write sector) fault = fault ≡ LoseBlock
IsPlanned Gone moment fault = fault ≡ LoseCommand
