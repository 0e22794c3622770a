-- A command that is sent.
use Rattle.std.proofs.Common.{◌%◌, ◌/◌, ◌∙◌, ◌≡◌, ◌⊎◌, Bool, Option, ap, arith, false, inl, inr, refl, subst, sym, true, ℕ}
use Rattle.std.specs.Prelude.{Err, None, Ok, ◌||◌}
use Rattle.std.proofs.lemmas.Bool.{false≢true}
use Rattle.mmc_card.specs.BusView.{BusView}
use Rattle.mmc_card.specs.CardAnswer.{CardAnswer, Silent}
use Rattle.mmc_bus.specs.Exchanges.{Kept}
use Rattle.mmc_host.specs.HostStates.{IsFree}
use Rattle.mmc_host.specs.Hosts.{Answers, answer_heard}
use Rattle.mmc_host.specs.declared.data.Data.{Data}
use Rattle.mmc_card.specs.declared.response.Response.{Response}
use Rattle.mmc_card.specs.declared.response.Response.TheVariants as To
use Rattle.mmc_host.specs.declared.told.Heard.{Heard}
use Rattle.mmc_host.specs.declared.told.HostCommand.{HostCommand}
use Rattle.mmc_host.specs.declared.told.ResponseFault.{ResponseFault}
use Rattle.mmc_sdhci.proofs.Beginning.{flags}
use Rattle.mmc_sdhci.specs.Commands.{Begins, CanMoveBy, Ends, IsUnderWay, KeepsLent, Moves, ResetsData, ResetsLine, RestsButMoves, Sends, Tells, begun}
use Rattle.mmc_sdhci.specs.Commands.{is_moved_by, moves, response_flags, run_of, unmoved}
use Rattle.mmc_sdhci.specs.Lent.{Dma}
use Rattle.mmc_sdhci.specs.Controller.{ControllerView, Running, Settings, Settled}
use Rattle.mmc_sdhci.specs.CommandLooks.{Dropped, IsShown, Look}
use Rattle.mmc_sdhci.specs.DataLooks.{cleared}
use Rattle.mmc_sdhci.specs.Moving.{IsClear, WhereKept}
use Rattle.mmc_sdhci.specs.declared.mover.Mover.TheVariants as By
use Rattle.mmc_sdhci.specs.declared.mover.Mover.{Mover}
use Rattle.mmc_sdhci.specs.Accesses.{IsAtRest, is_at_rest}
use Rattle.mmc_sdhci.proofs.Blocks.{all_cleared, clear_at_rest, rests_clear, rests_cleared}
use Rattle.mmc_sdhci.specs.Controller.{has_data, seen}
use Rattle.mmc_sdhci.specs.CommandLooks.{complete, failed, runs}

-- the command is over, or still runs
ended : (v0 v1 v2 : ControllerView) (command : HostCommand) (mover : Mover) (bits : ℕ) → Begins v0 command mover v1 → Ends v1 bits v2
    → Settled v0 (Look (begun v0 v1.status command mover) (run_of command) bits v2) v2
ended v0 v1 v2 command mover bits begins ends kept =
    let e = ends kept in
    let b = begins e.0 in (
      b.0,
      subst (λ (v : ControllerView). Look v (run_of command) bits v2) b.1
          (e.1 (run_of command) (ap (λ (v : ControllerView). v.running) b.1)),
    )

-- one exchange, with this answer
abbrev Exchange : ControllerView → HostCommand → CardAnswer → ControllerView → Type 0
Exchange old command answer new =
    Kept (seen old) (Answers (seen old) command.index command.argument answer (seen new)) (seen new)

silent : (response : Response) (index : ℕ) (fault : ResponseFault) → answer_heard response index (Err fault) ≡ Silent
silent To.Nothing index fault = refl
silent To.R1 index fault = refl
silent To.R1b index fault = refl
silent To.R2 index fault = refl
silent To.R3 index fault = refl
silent To.R6 index fault = refl
silent To.R7 index fault = refl

-- What the reset of the command line leaves of a command that failed or still ran.
record IsLost (old : ControllerView) (command : HostCommand) (mover : Mover) (new : ControllerView) : Type 0 where
  exchange : Exchange old command Silent new
  running : new.running ≡ None
  stuck : new.is_stuck ≡ false
  transfer : new.transfer ≡ Data.Nothing
  settings : new.settings ≡ old.settings
  built : new.built ≡ old.built
  dma : new.dma ≡ record old.dma { sdma_address = None; is_moving = moves mover }

lost_by : (v0 v2 v3 : ControllerView) (status : ℕ) (command : HostCommand) (mover : Mover) (bits : ℕ)
    → (bits % 2 ≡ 0) ⊎ (bits / 0x10000 % 16 ≡ 0 → ⊥) → Look (begun v0 status command mover) (run_of command) bits v2 → Dropped v2 v2.running v3 → IsLost v0 command mover v3
lost_by v0 v2 v3 status command mover bits why (runs zero fine view) dropped =
    let d = subst (λ (v : ControllerView). Dropped v v.running v3) view dropped in
    record {
      exchange = d.0;
      running = ap (λ (v : ControllerView). v.running) d.1;
      stuck = ap (λ (v : ControllerView). v.is_stuck) d.1;
      transfer = ap (λ (v : ControllerView). v.transfer) d.1;
      settings = ap (λ (v : ControllerView). v.settings) d.1;
      built = ap (λ (v : ControllerView). v.built) d.1;
      dma = ap (λ (v : ControllerView). v.dma) d.1;
    }
lost_by v0 v2 v3 status command mover bits (inl none) (complete answer one fine heard shown view) dropped = absurd (omega (arith, none, one))
lost_by v0 v2 v3 status command mover bits (inr error) (complete answer one fine heard shown view) dropped = absurd (error (omega (arith, fine)))
lost_by v0 v2 v3 status command mover bits why (failed error heard view) dropped =
    let d : v3 ≡ record v2 { resetting = None; is_stuck = false } =
    subst (λ (o : Option Running). Dropped v2 o v3) (ap (λ (v : ControllerView). v.running) view) dropped in
    record {
      exchange = subst (λ (b : BusView). Kept (seen v0) (Answers (seen v0) command.index command.argument Silent b) b)
          (sym (ap (λ (v : ControllerView). seen v) d)) heard;
      running = ap (λ (v : ControllerView). v.running) d ∙ ap (λ (v : ControllerView). v.running) view;
      stuck = ap (λ (v : ControllerView). v.is_stuck) d;
      transfer = ap (λ (v : ControllerView). v.transfer) d ∙ ap (λ (v : ControllerView). v.transfer) view;
      settings = ap (λ (v : ControllerView). v.settings) d ∙ ap (λ (v : ControllerView). v.settings) view;
      built = ap (λ (v : ControllerView). v.built) d ∙ ap (λ (v : ControllerView). v.built) view;
      dma = ap (λ (v : ControllerView). v.dma) d ∙ ap (λ (v : ControllerView). v.dma) view;
    }

-- a command that wasn't heard
pub lost : (v0 v1 v2 v3 v4 : ControllerView) (command : HostCommand) (mover : Mover) (bits : ℕ) (fault : ResponseFault)
    → (bits % 2 ≡ 0) ⊎ (bits / 0x10000 % 16 ≡ 0 → ⊥) → Begins v0 command mover v1 → Ends v1 bits v2 → ResetsLine v2 v3
    → ResetsData v3 v4 → Sends v0 command (Err fault) v4
lost v0 v1 v2 v3 v4 command mover bits fault why begins ends resets clears kept =
    let c = clears kept in
    let r = resets c.0 in
    let e = ended v0 v1 v2 command mover bits begins ends r.0 in
    let l = lost_by v0 v2 v3 v1.status command mover bits why e.1 r.1 in
    let d : v4 ≡ cleared v3 = all_cleared v3 v4 l.transfer c.1 in (
      e.0,
      record {
        step = subst (λ (a : CardAnswer). Exchange v0 command a v4) (sym (silent command.response command.index fault))
            (subst (λ (b : BusView). Kept (seen v0) (Answers (seen v0) command.index command.argument Silent b) b)
            (sym (ap (λ (v : ControllerView). seen v) d)) l.exchange);
        transfer = ap (λ (v : ControllerView). v.transfer) d;
        settings = ap (λ (v : ControllerView). v.settings) d ∙ l.settings;
        built = ap (λ (v : ControllerView). v.built) d ∙ l.built;
      },
    )

-- and the controller is at rest
pub lost_rests : (v0 v1 v2 v3 v4 : ControllerView) (command : HostCommand) (mover : Mover) (bits : ℕ)
    → (bits % 2 ≡ 0) ⊎ (bits / 0x10000 % 16 ≡ 0 → ⊥) → IsAtRest v0 → Begins v0 command mover v1 → Ends v1 bits v2 → ResetsLine v2 v3
    → ResetsData v3 v4 → IsAtRest v4
lost_rests v0 v1 v2 v3 v4 command mover bits why rests begins ends resets clears kept =
    let c = clears kept in
    let r = resets c.0 in
    let e = ended v0 v1 v2 command mover bits begins ends r.0 in
    let l = lost_by v0 v2 v3 v1.status command mover bits why e.1 r.1 in
    let d : v4 ≡ cleared v3 = all_cleared v3 v4 l.transfer c.1 in
    let rest = (clear_at_rest v0 (rests e.0)).0 in
    rests_cleared v3 v4 l.running l.stuck (ap (λ (s : Settings). s.stabilizing) l.settings ∙ rest.stabilizing)
    (ap (λ (s : Settings). s.starting) l.settings ∙ rest.starting) d

-- A command that is over without an error.
abbrev Moved : ControllerView → HostCommand → Heard → ControllerView → Type 0
Moved old command heard new =
    Moves old (Answers (seen old) command.index command.argument (answer_heard command.response command.index (Ok heard)) (seen new))
    command.transfer new

heard_by : (v0 v2 v3 : ControllerView) (status : ℕ) (command : HostCommand) (mover : Mover) (bits : ℕ) (heard : Heard) → (bits % 2 ≡ 0 → ⊥)
    → bits / 0x10000 % 16 ≡ 0 → Look (begun v0 status command mover) (run_of command) bits v2 → v3 ≡ v2
    → ((index byte : ℕ) (answer : CardAnswer) → byte % 32 ≡ response_flags command.response
    → IsShown byte index v2.response answer → answer ≡ answer_heard command.response index (Ok heard))
    → Moved v0 command heard v3
heard_by v0 v2 v3 status command mover bits heard over fine (runs zero none view) same tells = absurd (over (omega (arith, zero)))
heard_by v0 v2 v3 status command mover bits heard over fine (failed error lost view) same tells = absurd (error (omega (arith, fine)))
heard_by v0 v2 v3 status command mover bits heard over fine (complete answer one none exchange shown view) same tells =
    let is = tells command.index (run_of command).flags answer (flags command).1.1 shown in
    record {
      step = subst (λ (b : BusView). Kept (seen v0) (Answers (seen v0) command.index command.argument
          (answer_heard command.response command.index (Ok heard)) b) b) (sym (ap (λ (v : ControllerView). seen v) same))
          (subst (λ (a : CardAnswer). Exchange v0 command a v2) is exchange);
      transfer = ap (λ (v : ControllerView). v.transfer) same ∙ ap (λ (v : ControllerView). v.transfer) view;
      settings = ap (λ (v : ControllerView). v.settings) same ∙ ap (λ (v : ControllerView). v.settings) view;
      built = ap (λ (v : ControllerView). v.built) same ∙ ap (λ (v : ControllerView). v.built) view;
    }

pub sent : (v0 v1 v2 v3 : ControllerView) (command : HostCommand) (mover : Mover) (bits : ℕ) (heard : Heard) → (bits % 2 ≡ 0 → ⊥)
    → bits / 0x10000 % 16 ≡ 0 → Begins v0 command mover v1 → Ends v1 bits v2 → Tells v2 command.response heard v3
    → Sends v0 command (Ok heard) v3
sent v0 v1 v2 v3 command mover bits heard over fine begins ends tells kept =
    let t = tells kept in
    let e = ended v0 v1 v2 command mover bits begins ends t.0 in
    (e.0, heard_by v0 v2 v3 v1.status command mover bits heard over fine e.1 t.1.0 t.1.1)

-- no data is asked for while some is under way
none_asked : (under_way : Data) (command : HostCommand) → has_data under_way ≡ true → IsFree under_way command
    → command.transfer ≡ Data.Nothing
none_asked under_way command some (inl none) = none
none_asked under_way command some (inr free) = cc (some, ap (λ (t : Data). has_data t) free)

-- and what was under way is dropped
pub sent_and_dropped : (v0 v1 v2 v3 v4 : ControllerView) (under_way : Data) (command : HostCommand) (mover : Mover) (bits : ℕ) (heard : Heard)
    → (bits % 2 ≡ 0 → ⊥) → bits / 0x10000 % 16 ≡ 0 → has_data under_way ≡ true
    → WhereKept v0 (IsFree under_way command) → Begins v0 command mover v1 → Ends v1 bits v2 → Tells v2 command.response heard v3 → ResetsData v3 v4
    → Sends v0 command (Ok heard) v4
sent_and_dropped v0 v1 v2 v3 v4 under_way command mover bits heard over fine some free begins ends tells clears kept =
    let c = clears kept in
    let s = sent v0 v1 v2 v3 command mover bits heard over fine begins ends tells c.0 in
    let none = none_asked under_way command some (free s.0) in
    let d : v4 ≡ cleared v3 = all_cleared v3 v4 (s.1.transfer ∙ none) c.1 in (
      s.0,
      record {
        step = subst (λ (b : BusView). Kept (seen v0) (Answers (seen v0) command.index command.argument
            (answer_heard command.response command.index (Ok heard)) b) b) (sym (ap (λ (v : ControllerView). seen v) d))
            s.1.step;
        transfer = ap (λ (v : ControllerView). v.transfer) d ∙ sym none;
        settings = ap (λ (v : ControllerView). v.settings) d ∙ s.1.settings;
        built = ap (λ (v : ControllerView). v.built) d ∙ s.1.built;
      },
    )

-- What a command that was heard leaves beside its data.
record IsOver (old : ControllerView) (mover : Mover) (new : ControllerView) : Type 0 where
  running : new.running ≡ None
  stuck : new.is_stuck ≡ old.is_stuck
  stale : new.is_stale ≡ (old.is_stale || has_data old.transfer)
  unjudged : new.unjudged ≡ old.unjudged
  outgoing : new.outgoing ≡ old.outgoing
  resetting : new.resetting ≡ old.resetting
  settings : new.settings ≡ old.settings
  dma : new.dma ≡ record old.dma { sdma_address = None; is_moving = moves mover }

over_by : (v0 v2 v3 : ControllerView) (status : ℕ) (command : HostCommand) (mover : Mover) (bits : ℕ) → (bits % 2 ≡ 0 → ⊥)
    → bits / 0x10000 % 16 ≡ 0 → Look (begun v0 status command mover) (run_of command) bits v2 → v3 ≡ v2 → IsOver v0 mover v3
over_by v0 v2 v3 status command mover bits over fine (runs zero none view) same = absurd (over (omega (arith, zero)))
over_by v0 v2 v3 status command mover bits over fine (failed error lost view) same = absurd (error (omega (arith, fine)))
over_by v0 v2 v3 status command mover bits over fine (complete answer one none exchange shown view) same = record {
  running = ap (λ (v : ControllerView). v.running) same ∙ ap (λ (v : ControllerView). v.running) view;
  stuck = ap (λ (v : ControllerView). v.is_stuck) same ∙ ap (λ (v : ControllerView). v.is_stuck) view;
  stale = ap (λ (v : ControllerView). v.is_stale) same ∙ ap (λ (v : ControllerView). v.is_stale) view;
  unjudged = ap (λ (v : ControllerView). v.unjudged) same ∙ ap (λ (v : ControllerView). v.unjudged) view;
  outgoing = ap (λ (v : ControllerView). v.outgoing) same ∙ ap (λ (v : ControllerView). v.outgoing) view;
  resetting = ap (λ (v : ControllerView). v.resetting) same ∙ ap (λ (v : ControllerView). v.resetting) view;
  settings = ap (λ (v : ControllerView). v.settings) same ∙ ap (λ (v : ControllerView). v.settings) view;
  dma = ap (λ (v : ControllerView). v.dma) same ∙ ap (λ (v : ControllerView). v.dma) view;
}

heard_over : (v0 v1 v2 v3 : ControllerView) (command : HostCommand) (mover : Mover) (bits : ℕ) (heard : Heard) → (bits % 2 ≡ 0 → ⊥)
    → bits / 0x10000 % 16 ≡ 0 → Begins v0 command mover v1 → Ends v1 bits v2 → Tells v2 command.response heard v3
    → Settled v0 (IsOver v0 mover v3) v3
heard_over v0 v1 v2 v3 command mover bits heard over fine begins ends tells kept =
    let t = tells kept in
    let e = ended v0 v1 v2 command mover bits begins ends t.0 in
    (e.0, over_by v0 v2 v3 v1.status command mover bits over fine e.1 t.1.0)

no_data : (stale : Bool) (t under_way : Data) → stale ≡ false → t ≡ under_way → has_data under_way ≡ false
    → (stale || has_data t) ≡ false
no_data stale t under_way fresh is none =
    ap (λ (b : Bool). b || has_data t) fresh ∙ (ap (λ (d : Data). has_data d) is ∙ none)

-- where no data was under way all is at rest but what is moved
clear_over : (v0 v3 : ControllerView) (under_way : Data) (mover : Mover) → IsClear v0 → v0.transfer ≡ under_way
    → has_data under_way ≡ false → IsOver v0 mover v3 → IsClear (unmoved v3)
clear_over v0 v3 under_way mover clear is none over = record {
  running = over.running;
  stuck = over.stuck ∙ clear.stuck;
  stale = over.stale ∙ no_data v0.is_stale v0.transfer under_way clear.stale is none;
  resetting = over.resetting ∙ clear.resetting;
  stabilizing = ap (λ (s : Settings). s.stabilizing) over.settings ∙ clear.stabilizing;
  starting = ap (λ (s : Settings). s.starting) over.settings ∙ clear.starting;
  moving = refl;
}

pub heard_moves : (v0 v1 v2 v3 : ControllerView) (under_way : Data) (command : HostCommand) (mover : Mover) (bits : ℕ) (heard : Heard)
    → (bits % 2 ≡ 0 → ⊥) → bits / 0x10000 % 16 ≡ 0 → IsAtRest v0 → IsUnderWay v0 under_way → has_data under_way ≡ false
    → Begins v0 command mover v1 → Ends v1 bits v2 → Tells v2 command.response heard v3 → RestsButMoves v3
heard_moves v0 v1 v2 v3 under_way command mover bits heard over fine rests is none begins ends tells kept =
    let o = heard_over v0 v1 v2 v3 command mover bits heard over fine begins ends tells kept in
    let c = clear_at_rest v0 (rests o.0) in
    rests_clear (unmoved v3) (clear_over v0 v3 under_way mover c.0 (is o.0) none o.1) (o.1.outgoing ∙ c.1) (o.1.unjudged ∙ c.2)

still_rests : (mover : Mover) (v0 v3 : ControllerView) (heard : Heard) → is_moved_by mover (Ok heard) ≡ false → IsOver v0 mover v3
    → IsClear (unmoved v3) → IsClear v3
still_rests By.Controller v0 v3 heard is over clear = absurd (false≢true (sym is))
still_rests By.Driver v0 v3 heard is over clear = record {
  running = clear.running;
  stuck = clear.stuck;
  stale = clear.stale;
  resetting = clear.resetting;
  stabilizing = clear.stabilizing;
  starting = clear.starting;
  moving = ap (λ (d : Dma). d.is_moving) over.dma;
}

pub heard_rests : (v0 v1 v2 v3 : ControllerView) (under_way : Data) (command : HostCommand) (mover : Mover) (bits : ℕ) (heard : Heard)
    → (bits % 2 ≡ 0 → ⊥) → bits / 0x10000 % 16 ≡ 0 → IsAtRest v0 → IsUnderWay v0 under_way → has_data under_way ≡ false
    → Begins v0 command mover v1 → Ends v1 bits v2 → Tells v2 command.response heard v3
    → is_moved_by mover (Ok heard) ≡ false → IsAtRest v3
heard_rests v0 v1 v2 v3 under_way command mover bits heard over fine rests is none begins ends tells by kept =
    let o = heard_over v0 v1 v2 v3 command mover bits heard over fine begins ends tells kept in
    let c = clear_at_rest v0 (rests o.0) in
    rests_clear v3 (still_rests mover v0 v3 heard by o.1 (clear_over v0 v3 under_way mover c.0 (is o.0) none o.1))
    (o.1.outgoing ∙ c.1) (o.1.unjudged ∙ c.2)

by_mover : (mover : Mover) (heard : Heard) → moves mover ≡ is_moved_by mover (Ok heard)
by_mover By.Driver heard = refl
by_mover By.Controller heard = refl

pub heard_lent : (v0 v1 v2 v3 : ControllerView) (command : HostCommand) (mover : Mover) (bits : ℕ) (heard : Heard)
    → (bits % 2 ≡ 0 → ⊥) → bits / 0x10000 % 16 ≡ 0 → Begins v0 command mover v1 → Ends v1 bits v2
    → Tells v2 command.response heard v3 → KeepsLent v0 (is_moved_by mover (Ok heard)) v3
heard_lent v0 v1 v2 v3 command mover bits heard over fine begins ends tells kept =
    let o = heard_over v0 v1 v2 v3 command mover bits heard over fine begins ends tells kept in
    (o.0, o.1.dma ∙ ap (λ (b : Bool). record v0.dma { sdma_address = None; is_moving = b }) (by_mover mover heard))

-- What was under way is dropped, and all is at rest.
rests_dropped : (v3 v4 : ControllerView) → v4 ≡ cleared v3 → is_at_rest v4 ≡ true → is_at_rest (unmoved v4) ≡ true
rests_dropped v3 v4 d rest =
    ap (λ (v : ControllerView). is_at_rest (unmoved v)) d ∙ (sym (ap (λ (v : ControllerView). is_at_rest v) d) ∙ rest)

pub dropped_rests : (v0 v1 v2 v3 v4 : ControllerView) (under_way : Data) (command : HostCommand) (mover : Mover) (bits : ℕ)
    (heard : Heard) → (bits % 2 ≡ 0 → ⊥) → bits / 0x10000 % 16 ≡ 0 → has_data under_way ≡ true → IsAtRest v0
    → WhereKept v0 (IsFree under_way command) → Begins v0 command mover v1 → Ends v1 bits v2 → Tells v2 command.response heard v3
    → ResetsData v3 v4 → IsAtRest v4 × RestsButMoves v4
dropped_rests v0 v1 v2 v3 v4 under_way command mover bits heard over fine some rests free begins ends tells clears =
    let rest : IsAtRest v4 =
    λ kept.
    let c = clears kept in
    let s = sent v0 v1 v2 v3 command mover bits heard over fine begins ends tells c.0 in
    let o = heard_over v0 v1 v2 v3 command mover bits heard over fine begins ends tells c.0 in
    let a = (clear_at_rest v0 (rests s.0)).0 in
    rests_cleared v3 v4 o.1.running (o.1.stuck ∙ a.stuck) (ap (λ (t : Settings). t.stabilizing) o.1.settings ∙ a.stabilizing)
    (ap (λ (t : Settings). t.starting) o.1.settings ∙ a.starting)
    (all_cleared v3 v4 (s.1.transfer ∙ none_asked under_way command some (free s.0)) c.1) in (
      rest,
      λ kept.
          let c = clears kept in
          let s = sent v0 v1 v2 v3 command mover bits heard over fine begins ends tells c.0 in
          rests_dropped v3 v4 (all_cleared v3 v4 (s.1.transfer ∙ none_asked under_way command some (free s.0)) c.1) (rest kept),
    )

-- no DMA is asked for while data is under way
driver_moves : (mover : Mover) (v0 : ControllerView) (t under_way : Data) (heard : Heard) → v0.is_kept ≡ true → CanMoveBy mover v0 t
    → v0.transfer ≡ under_way → has_data under_way ≡ true → is_moved_by mover (Ok heard) ≡ false
driver_moves By.Driver v0 t under_way heard kept can is some = refl
driver_moves By.Controller v0 t under_way heard kept can is some =
    absurd (false≢true (ap (λ (d : Data). has_data d) (sym (can kept).0 ∙ is) ∙ some))

pub dropped_lent : (v0 v1 v2 v3 v4 : ControllerView) (under_way : Data) (command : HostCommand) (mover : Mover) (bits : ℕ)
    (heard : Heard) → (bits % 2 ≡ 0 → ⊥) → bits / 0x10000 % 16 ≡ 0 → has_data under_way ≡ true → IsUnderWay v0 under_way
    → CanMoveBy mover v0 command.transfer → WhereKept v0 (IsFree under_way command) → Begins v0 command mover v1 → Ends v1 bits v2
    → Tells v2 command.response heard v3 → ResetsData v3 v4 → KeepsLent v0 (is_moved_by mover (Ok heard)) v4
dropped_lent v0 v1 v2 v3 v4 under_way command mover bits heard over fine some is can free begins ends tells clears kept =
    let c = clears kept in
    let s = sent v0 v1 v2 v3 command mover bits heard over fine begins ends tells c.0 in
    let o = heard_over v0 v1 v2 v3 command mover bits heard over fine begins ends tells c.0 in
    let d = all_cleared v3 v4 (s.1.transfer ∙ none_asked under_way command some (free s.0)) c.1 in (
      s.0,
      ap (λ (v : ControllerView). v.dma) d
          ∙ (ap (λ (m : Dma). record m { is_moving = false }) o.1.dma
          ∙ ap (λ (b : Bool). record v0.dma { sdma_address = None; is_moving = b })
          (sym (driver_moves mover v0 command.transfer under_way heard s.0 can (is s.0) some))),
    )

-- the same of a command that wasn't heard
pub lost_moves : (v0 v1 v2 v3 v4 : ControllerView) (command : HostCommand) (mover : Mover) (bits : ℕ)
    → (bits % 2 ≡ 0) ⊎ (bits / 0x10000 % 16 ≡ 0 → ⊥) → IsAtRest v0 → Begins v0 command mover v1 → Ends v1 bits v2
    → ResetsLine v2 v3 → ResetsData v3 v4 → RestsButMoves v4
lost_moves v0 v1 v2 v3 v4 command mover bits why rests begins ends resets clears kept =
    let c = clears kept in
    let r = resets c.0 in
    let e = ended v0 v1 v2 command mover bits begins ends r.0 in
    let l = lost_by v0 v2 v3 v1.status command mover bits why e.1 r.1 in
    rests_dropped v3 v4 (all_cleared v3 v4 l.transfer c.1)
    (lost_rests v0 v1 v2 v3 v4 command mover bits why rests begins ends resets clears kept)

not_moved : (mover : Mover) (fault : ResponseFault) → is_moved_by mover (Err fault) ≡ false
not_moved By.Driver fault = refl
not_moved By.Controller fault = refl

pub lost_lent : (v0 v1 v2 v3 v4 : ControllerView) (command : HostCommand) (mover : Mover) (bits : ℕ) (fault : ResponseFault)
    → (bits % 2 ≡ 0) ⊎ (bits / 0x10000 % 16 ≡ 0 → ⊥) → Begins v0 command mover v1 → Ends v1 bits v2
    → ResetsLine v2 v3 → ResetsData v3 v4 → KeepsLent v0 (is_moved_by mover (Err fault)) v4
lost_lent v0 v1 v2 v3 v4 command mover bits fault why begins ends resets clears kept =
    let c = clears kept in
    let r = resets c.0 in
    let e = ended v0 v1 v2 command mover bits begins ends r.0 in
    let l = lost_by v0 v2 v3 v1.status command mover bits why e.1 r.1 in (
      e.0,
      ap (λ (v : ControllerView). v.dma) (all_cleared v3 v4 l.transfer c.1)
          ∙ (ap (λ (m : Dma). record m { is_moving = false }) l.dma
          ∙ ap (λ (b : Bool). record v0.dma { sdma_address = None; is_moving = b }) (sym (not_moved mover fault))),
    )
