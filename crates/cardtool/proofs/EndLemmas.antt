-- A script that ends in a `run`: nothing of it is left only where each request has its answer.
use Rattle.std.proofs.Common.{◌≡◌, ◌++◌, ◌∷◌, ℕ, Bool, List, [], cond, false, refl, subst, sym, true}
use Rattle.std.specs.Prelude.{◌==◌}
use Rattle.std.proofs.lemmas.Bool.{eqb-true}
use Rattle.mmc_block.specs.Execution.{Event as MachineEvent, Follow, Reply}
use Rattle.card_text.specs.declared.event.ScriptEvent.{ScriptEvent}
use Rattle.card_text.specs.declared.event.ScriptEvent.TheVariants.{Cancel, Run, Submit, Turn}
use Rattle.cardtool.specs.Serving.{IsNext, Standing, due_events, events_after, standing_of}

-- something comes
abbrev IsMore : List ScriptEvent → Type 0
IsMore script = script ≡ [] → ⊥

-- only a `run` may be the last event
abbrev EndsInRun : List ScriptEvent → Type 0
EndsInRun [] = Unit {0}
EndsInRun (Submit client request ∷ script) = IsMore script × EndsInRun script
EndsInRun (Cancel ticket ∷ script) = IsMore script × EndsInRun script
EndsInRun (Turn ∷ script) = IsMore script × EndsInRun script
EndsInRun (Run ∷ script) = EndsInRun script

more_is_more : (script : List ScriptEvent) (event : ScriptEvent) → IsMore (script ++ event ∷ [])
more_is_more [] event h = absurd cc
more_is_more (e ∷ script) event h = absurd cc

run_at_end : (script : List ScriptEvent) → EndsInRun (script ++ Run ∷ [])
run_at_end [] = tt
run_at_end (Submit c r ∷ script) = (more_is_more script Run, run_at_end script)
run_at_end (Cancel t ∷ script) = (more_is_more script Run, run_at_end script)
run_at_end (Turn ∷ script) = (more_is_more script Run, run_at_end script)
run_at_end (Run ∷ script) = run_at_end script

due_either : (b : Bool) (pending : ℕ) (script : List ScriptEvent) → EndsInRun script → EndsInRun (due_events pending script)
    → EndsInRun (cond b (due_events pending script) (Run ∷ script))
due_either true pending script ends due = due
due_either false pending script ends due = ends

due_ends : (pending : ℕ) (script : List ScriptEvent) → EndsInRun script → EndsInRun (due_events pending script)
due_ends pending [] ends = tt
due_ends pending (Submit c r ∷ script) ends = ends
due_ends pending (Cancel t ∷ script) ends = ends
due_ends pending (Turn ∷ script) ends = ends
due_ends pending (Run ∷ script) ends = due_either (pending == 0) pending script ends (due_ends pending script ends)

run_is_over : (b : Bool) (pending : ℕ) (script : List ScriptEvent) → (pending == 0) ≡ b
    → cond b (due_events pending script) (Run ∷ script) ≡ [] → pending ≡ 0
run_is_over true pending script is none = eqb-true pending 0 is
run_is_over false pending script is none = absurd cc

none_due : (pending : ℕ) (script : List ScriptEvent) → IsMore script → due_events pending script ≡ [] → pending ≡ 0
none_due pending [] more none = absurd (more refl)
none_due pending (Submit c r ∷ script) more none = absurd cc
none_due pending (Cancel t ∷ script) more none = absurd cc
none_due pending (Turn ∷ script) more none = absurd cc
none_due pending (Run ∷ script) more none = run_is_over (pending == 0) pending script refl none

-- a script stands before a `run`, or at its end without a request that has no answer
record IsBeforeRun (now : Standing) : Type 0 where
  ends : EndsInRun now.left
  none_pending : now.left ≡ [] → now.pending ≡ 0

stands_before_run : (pending : ℕ) (script : List ScriptEvent) → IsMore script → EndsInRun script
    → IsBeforeRun (standing_of pending script)
stands_before_run pending script more ends =
    record { ends = due_ends pending script ends; none_pending = none_due pending script more }

after_event : (pending : ℕ) (next : ScriptEvent) (later : List ScriptEvent) → EndsInRun (next ∷ later)
    → IsBeforeRun (standing_of pending (events_after next later))
after_event pending (Submit c r) later (more, ends) = stands_before_run pending later more ends
after_event pending (Cancel t) later (more, ends) = stands_before_run pending later more ends
after_event pending Turn later (more, ends) = stands_before_run pending later more ends
after_event pending Run later ends = stands_before_run pending (Run ∷ later) (λ h. absurd cc) ends

step_before_run : (old : Standing) (e : MachineEvent) (r : Reply) (new : Standing) → IsBeforeRun old
    → IsNext old e r new → IsBeforeRun new
step_before_run old e r new before step =
    subst IsBeforeRun (sym step.new_is) (after_event _ step.next step.later (subst EndsInRun step.first before.ends))

follow_before_run : (old : Standing) (es : List MachineEvent) (rs : List Reply) (new : Standing) → IsBeforeRun old
    → Follow IsNext old es rs new → IsBeforeRun new
follow_before_run old [] [] new before same = subst IsBeforeRun (sym same) before
follow_before_run old (e ∷ es) (r ∷ rs) new before (mid, step, later) =
    follow_before_run mid es rs new (step_before_run old e r mid before step) later
follow_before_run old _ _ new before h = absurd h

-- at the end of such a script no request is without an answer
pub ends_answered : (script : List ScriptEvent) (es : List MachineEvent) (rs : List Reply) (new : Standing)
    → Follow IsNext (standing_of 0 (script ++ Run ∷ [])) es rs new → new.left ≡ [] → new.pending ≡ 0
ends_answered script es rs new h none =
    let start = stands_before_run 0 (script ++ Run ∷ []) (more_is_more script Run) (run_at_end script) in
    (follow_before_run _ es rs new start h).none_pending none
