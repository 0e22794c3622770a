-- A look at the interrupts while a command runs.
use Rattle.std.proofs.Common.{◌%◌, ◌∙◌, ◌≡◌, ◌∷◌, List, None, Option, Some, ap, arith, false, refl, subst, sym, true, ℕ}
use Rattle.std.specs.Prelude.{Err, IfSome, Ok}
use Rattle.mmc_frame.specs.RegisterFrame.{with_check}
use Rattle.mmc_bus.specs.Exchanges.{Kept}
use Rattle.mmc_card.specs.CardAnswer.{CardAnswer, R2, Silent}
use Rattle.mmc_host.specs.Hosts.{Answers, answer_heard}
use Rattle.mmc_host.specs.declared.data.Data.{Data}
use Rattle.mmc_card.specs.declared.response.Response.{Response}
use Rattle.mmc_card.specs.declared.response.Response.TheVariants as To
use Rattle.mmc_host.specs.declared.told.Heard.{Heard}
use Rattle.mmc_host.specs.declared.told.ResponseFault.{ResponseFault}
use Rattle.mmc_host.specs.declared.told.ResponseFault.TheVariants.{Timeout}
use Rattle.mmc_sdhci.specs.CommandLooks.{Dropped, Look, bytes_shown, command_errors, complete, failed, runs}
use Rattle.mmc_sdhci.specs.Accesses.{Does8, Looked}
use Rattle.mmc_sdhci.specs.Commands.{response_flags}
use Rattle.mmc_sdhci.specs.Controller.{ControllerView, Settled, seen}
use Rattle.mmc_story.specs.Entry.{Entry, Event}
use Rattle.mmc_story.specs.Entry.Event.{Sent}
use Rattle.mmc_story.specs.Story.{Story}
use Rattle.sdhci_model.specs.Shown.{Fits, command_of, controller, entry_for, running_in, running_of}
use Rattle.sdhci_model.specs.declared.commands.Run.{Run}
use Rattle.sdhci_model.specs.declared.state.State.{State}
use Rattle.sdhci_model.proofs.Telling.{if_kept, same_kept, told}

silent : (response : Response) (index : ℕ) (fault : ResponseFault) → answer_heard response index (Err fault) ≡ Silent
silent To.Nothing index fault = refl
silent To.R1 index fault = refl
silent To.R1b index fault = refl
silent To.R2 index fault = refl
silent To.R3 index fault = refl
silent To.R6 index fault = refl
silent To.R7 index fault = refl

abbrev failed_state : State → ℕ → State
failed_state s bits = record s { running = None; status = bits; is_stuck = true; transfer = Data.Nothing }

-- it wasn't heard
fails_by : (story : Story) (past : List Entry) (s : State) (run : Run) (response : Response) (fault : ResponseFault) (bits : ℕ)
    → (command_errors bits ≡ 0 → ⊥)
    → Settled (controller story past s)
    (Look (controller story past s) (running_of run) bits
    (controller story (entry_for s (Sent (command_of run response) (Err fault)) ∷ past) (failed_state s bits)))
    (controller story (entry_for s (Sent (command_of run response) (Err fault)) ∷ past) (failed_state s bits))
fails_by story past s run response fault bits some kept =
    let event = Sent (command_of run response) (Err fault) in
    let old = controller story past s in
    let new = controller story (entry_for s event ∷ past) (failed_state s bits) in
    let k = if_kept s.is_sound (story.outcome (entry_for s event ∷ past)).conformed kept in
    let step = told story past s (failed_state s bits) event k.0 k.0 refl refl k.1 in (
      step.was_kept,
      failed some
          (subst (λ (a : CardAnswer). Kept (seen old) (Answers (seen old) run.index run.argument a (seen new)) (seen new))
          (silent response run.index fault) step)
          (same_kept new old.is_kept (kept ∙ sym step.was_kept)),
    )

pub fails : (story : Story) (past after : List Entry) (s s1 s2 : State) (run : Run) (response : Response) (fault : ResponseFault) (bits : ℕ)
    → (command_errors bits ≡ 0 → ⊥) → after ≡ entry_for s (Sent (command_of run response) (Err fault)) ∷ past → s1 ≡ s
    → s2 ≡ failed_state s1 bits
    → Settled (controller story past s) (Look (controller story past s) (running_of run) bits (controller story after s2))
    (controller story after s2)
fails story past after s s1 s2 run response fault bits some noted same is =
    subst (λ (es : List Entry). Settled (controller story past s)
    (Look (controller story past s) (running_of run) bits (controller story es s2)) (controller story es s2)) (sym noted)
    (subst (λ (x : State). Settled (controller story past s)
    (Look (controller story past s) (running_of run) bits
    (controller story (entry_for s (Sent (command_of run response) (Err fault)) ∷ past) x))
    (controller story (entry_for s (Sent (command_of run response) (Err fault)) ∷ past) x))
    (sym (is ∙ ap (λ (x : State). failed_state x bits) same)) (fails_by story past s run response fault bits some))

-- it was heard
abbrev over_state : State → List ℕ → Data → State
over_state s words transfer = record s { running = None; response = words; status = 1; transfer = transfer }

completes_by : (story : Story) (past : List Entry) (s : State) (run : Run) (response : Response) (heard : Heard) (words : List ℕ)
    → run.flags % 32 ≡ response_flags response → Fits response heard words
    → Settled (controller story past s)
    (Look (controller story past s) (running_of run) 1
    (controller story (entry_for s (Sent (command_of run response) (Ok heard)) ∷ past) (over_state s words run.transfer)))
    (controller story (entry_for s (Sent (command_of run response) (Ok heard)) ∷ past) (over_state s words run.transfer))
completes_by story past s run response heard words type fits kept =
    let event = Sent (command_of run response) (Ok heard) in
    let old = controller story past s in
    let new = controller story (entry_for s event ∷ past) (over_state s words run.transfer) in
    let k = if_kept s.is_sound (story.outcome (entry_for s event ∷ past)).conformed kept in
    let step = told story past s (over_state s words run.transfer) event k.0 k.0 refl refl k.1 in (
      step.was_kept,
      complete (answer_heard response run.index (Ok heard)) refl refl step (fits run.flags run.index type)
          (same_kept new old.is_kept (kept ∙ sym step.was_kept)),
    )

pub completes : (story : Story) (past after : List Entry) (s s1 s2 : State) (run : Run) (response : Response) (heard : Heard) (words : List ℕ)
    → run.flags % 32 ≡ response_flags response → Fits response heard words
    → after ≡ entry_for s (Sent (command_of run response) (Ok heard)) ∷ past → s1 ≡ s → s2 ≡ over_state s1 words run.transfer
    → Settled (controller story past s) (Look (controller story past s) (running_of run) 1 (controller story after s2))
    (controller story after s2)
completes story past after s s1 s2 run response heard words type fits noted same is =
    subst (λ (es : List Entry). Settled (controller story past s)
    (Look (controller story past s) (running_of run) 1 (controller story es s2)) (controller story es s2)) (sym noted)
    (subst (λ (x : State). Settled (controller story past s)
    (Look (controller story past s) (running_of run) 1
    (controller story (entry_for s (Sent (command_of run response) (Ok heard)) ∷ past) x))
    (controller story (entry_for s (Sent (command_of run response) (Ok heard)) ∷ past) x))
    (sym (is ∙ ap (λ (x : State). over_state x words run.transfer) same))
    (completes_by story past s run response heard words type fits))

-- What a register shows.
pub register_fits : (bytes words : List ℕ) → bytes_shown words ≡ bytes → Fits To.R2 (Heard.Register bytes) words
register_fits bytes words is flags index type =
    record {
      none = λ e. absurd (omega (arith, e, type));
      checked = λ e. absurd (omega (arith, e, type));
      ocr = λ e. absurd (omega (arith, e, type));
      register = λ e. ap (λ (l : List ℕ). R2 (with_check l)) (sym is);
    }

pub register_shown : (result : Option (List ℕ)) (response : Response) (heard : Heard) (bytes : List ℕ) → response ≡ To.R2
    → heard ≡ Heard.Register bytes → IfSome result (λ words. bytes_shown words ≡ bytes)
    → IfSome result (λ words. Fits response heard words)
register_shown None response heard bytes is told shown = tt
register_shown (Some words) response heard bytes is told shown =
    subst (λ (r : Response). Fits r heard words) (sym is)
    (subst (λ (h : Heard). Fits To.R2 h words) (sym told) (register_fits bytes words shown))

pub looks : (story : Story) (past after : List Entry) (s s' : State) (run : Run) (bits : ℕ) → s.running ≡ Some run
    → Settled (controller story past s) (Look (controller story past s) (running_of run) bits (controller story after s'))
    (controller story after s')
    → Settled (controller story past s)
    (Looked (controller story past s) (running_in s.running) bits (controller story after s')) (controller story after s')
looks story past after s s' run bits is look kept =
    let l = look kept in (
      l.0,
      subst (λ (o : Option Run). Looked (controller story past s) (running_in o) bits (controller story after s')) (sym is) l.1,
    )

-- It still runs.
pub runs_on : (story : Story) (past : List Entry) (s s' : State) (run : Run) → s' ≡ record s { status = 0 }
    → Settled (controller story past s) (Look (controller story past s) (running_of run) 0 (controller story past s'))
    (controller story past s')
runs_on story past s s' run is kept =
    let old = controller story past s in
    let e : controller story past s' ≡ record old { status = 0 } = ap (λ (x : State). controller story past x) is in (
      sym (ap (λ (v : ControllerView). v.is_kept) e) ∙ kept,
      runs refl refl (e ∙ ap (λ n. record old { status = n }) (sym (ap (λ (v : ControllerView). v.status) e))),
    )

-- It is lost by a reset of the command line.
abbrev dropped_state : State → State
dropped_state s =
    record s {
      running = None;
      status = 0xffffffff;
      is_stuck = false;
      transfer = Data.Nothing;
      resetting = Some 0;
    }

abbrev lost_event : Run → Event
lost_event run = Sent (command_of run To.Nothing) (Err Timeout)

drops_by : (story : Story) (past : List Entry) (s : State) (run : Run) → s.running ≡ Some run
    → Settled (controller story past s)
    (Does8 (controller story past s) 0x2f 2 (controller story (entry_for s (lost_event run) ∷ past) (dropped_state s)))
    (controller story (entry_for s (lost_event run) ∷ past) (dropped_state s))
drops_by story past s run is kept =
    let old = controller story past s in
    let new = controller story (entry_for s (lost_event run) ∷ past) (dropped_state s) in
    let after = record new { resetting = None } in
    let k = if_kept s.is_sound (story.outcome (entry_for s (lost_event run) ∷ past)).conformed kept in
    let step = told story past s (dropped_state s) (lost_event run) k.0 k.0 refl refl k.1 in (
      step.was_kept,
      record {
        control = λ at. absurd (omega (arith, at));
        power = λ at. absurd (omega (arith, at));
        restart = λ at one. absurd (omega (arith, one));
        command = λ at two. (
          after,
          subst (λ (o : Option Run). Dropped old (running_in o) after) (sym is)
              (step, same_kept after old.is_kept (kept ∙ sym step.was_kept)),
          refl,
        );
        line = λ at four. absurd (omega (arith, four));
      },
    )

pub drops : (story : Story) (past after : List Entry) (s s1 s2 : State) (run : Run) → s.running ≡ Some run
    → after ≡ entry_for s (lost_event run) ∷ past → s1 ≡ s → s2 ≡ dropped_state s1
    → Settled (controller story past s) (Does8 (controller story past s) 0x2f 2 (controller story after s2)) (controller story after s2)
drops story past after s s1 s2 run is noted same changed =
    subst (λ (es : List Entry). Settled (controller story past s)
    (Does8 (controller story past s) 0x2f 2 (controller story es s2)) (controller story es s2)) (sym noted)
    (subst (λ (x : State). Settled (controller story past s)
    (Does8 (controller story past s) 0x2f 2 (controller story (entry_for s (lost_event run) ∷ past) x))
    (controller story (entry_for s (lost_event run) ∷ past) x))
    (sym (changed ∙ ap (λ (x : State). dropped_state x) same)) (drops_by story past s run is))

-- A note after something that changed neither.
pub noted_after : (e : Event) (past before after : List Entry) (s s1 : State) → after ≡ entry_for s1 e ∷ before → before ≡ past → s1 ≡ s
    → after ≡ entry_for s e ∷ past
noted_after e past before after s s1 is was same =
    is ∙ (ap (λ (x : State). entry_for x e ∷ before) same ∙ ap (λ (l : List Entry). entry_for s e ∷ l) was)
