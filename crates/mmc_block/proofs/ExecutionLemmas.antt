-- Executions: steps that follow each other.
use Rattle.std.proofs.Common.{◌++◌, ◌∷◌, List, [], ap, subst}
use Rattle.mmc_block.specs.declared.completion.Completion.{Completion}
use Rattle.mmc_switch.specs.declared.info.Info.{Info}
use Rattle.mmc_block.specs.Machine.{Turns}
use Rattle.mmc_block.specs.Execution.{Counted, IsCountedExecution, CountedSteps, CountedTurn, Event, Follow, Reply, IsExecution, Steps}
use Rattle.mmc_block.specs.Execution.Event.{Cancel, Submit, Turn}
use Rattle.mmc_block.specs.Execution.Reply.{Accepted, Answers, GivenBack, InService, RefusedFor, Unknown}

-- steps after others
pub follow_then : {S : Type 0} (Does : S → Event → Reply → S → Type 0) (old : S) (es : List Event) (rs : List Reply)
    (mid : S) (fs : List Event) (ss : List Reply) (new : S)
    → Follow Does old es rs mid → Follow Does mid fs ss new → Follow Does old (es ++ fs) (rs ++ ss) new
follow_then Does old [] [] mid fs ss new first second = subst (λ s. Follow Does s fs ss new) first second
follow_then Does old (e ∷ es) (r ∷ rs) mid fs ss new (next, step, first) second =
    (next, step, follow_then Does next es rs mid fs ss new first second)
follow_then Does old _ _ mid fs ss new first second = absurd first

-- steps of one kind are steps of another
pub follow_as : {S T : Type 0} (Does : S → Event → Reply → S → Type 0) (Other : T → Event → Reply → T → Type 0)
    (seen : S → T)
    → ((old : S) (event : Event) (reply : Reply) (new : S) → Does old event reply new
    → Other (seen old) event reply (seen new))
    → (old : S) (es : List Event) (rs : List Reply) (new : S) → Follow Does old es rs new
    → Follow Other (seen old) es rs (seen new)
follow_as Does Other seen each old [] [] new same = ap seen same
follow_as Does Other seen each old (e ∷ es) (r ∷ rs) new (mid, step, later) =
    (seen mid, each old e r mid step, follow_as Does Other seen each mid es rs new later)
follow_as Does Other seen each old _ _ new run = absurd run

-- Executions with own faults.

counted_turn : (info : Info) (old : Counted) (completions : List Completion) (new : Counted)
    → CountedTurn info old completions new
    → Turns info old.machine completions new.machine
counted_turn info old completions new t = record { started = t.started; start = t.start; answers = t.answers }

pub counted_step : (info : Info) (old : Counted) (event : Event) (reply : Reply) (new : Counted)
    → CountedSteps info old event reply new
    → Steps info old.machine event reply new.machine
counted_step info old (Submit client request) (Accepted ticket) new h = h.0
counted_step info old (Submit client request) (RefusedFor why) new h = h.0
counted_step info old Turn (Answers completions) new h = counted_turn info old completions new h.0
counted_step info old (Cancel ticket) (GivenBack request) new h = h.0
counted_step info old (Cancel ticket) InService new h = h.0
counted_step info old (Cancel ticket) Unknown new h = h.0
counted_step info old _ _ new h = absurd h.0

pub counted_run : (info : Info) (old : Counted) (events : List Event) (replies : List Reply) (new : Counted)
    → IsCountedExecution info old events replies new → IsExecution info old.machine events replies new.machine
counted_run info old events replies new run =
    follow_as (CountedSteps info) (Steps info) (λ (c : Counted). c.machine)
    (counted_step info) old events replies new run
