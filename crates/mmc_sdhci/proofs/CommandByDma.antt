-- A command whose blocks the controller moves by itself, as a host tells of it.
use Rattle.std.proofs.Common.{◌∙◌, ◌≡◌, ◌≤◌, Bool, List, None, Option, Some, ap, arith, false, length, refl, subst, sym, true, ℕ}
use Rattle.std.proofs.lemmas.Bool.{false≢true}
use Rattle.std.specs.Prelude.{Err, IfOk, Ok, Result, if◌then◌else◌, is_ok}
use Rattle.mmc_bus.proofs.TogetherLemmas.{WritesOne}
use Rattle.mmc_bus.specs.Lending.{IsRewritten}
use Rattle.mmc_bus.specs.Together.{none_accepted, reads_nothing}
use Rattle.mmc_bus.specs.Together.{writes}
use Rattle.mmc_bus.specs.declared.moved.Moved.{Moved}
use Rattle.mmc_bus.specs.declared.moved.Moved.TheVariants as Move
use Rattle.mmc_card.specs.declared.exchange.DataIn.{DataIn}
use Rattle.mmc_card.specs.declared.exchange.DataIn.TheVariants as Came
use Rattle.mmc_card.specs.declared.exchange.DataOut.{DataOut}
use Rattle.mmc_card.specs.declared.exchange.DataOut.TheVariants as Went
use Rattle.mmc_card.specs.declared.exchange.Lines.{Lines}
use Rattle.mmc_host.specs.HostStates.{lines_of, sent}
use Rattle.mmc_host.specs.Hosts.{Answers, HostView, Sends, Steps as HostSteps, answer_heard, bus_of}
use Rattle.mmc_host.specs.Together.{ReadsWith, WritesWith}
use Rattle.mmc_host.specs.declared.data.Data.{Data}
use Rattle.mmc_card.specs.CardAnswer.{Silent}
use Rattle.mmc_card.specs.declared.response.Response.{Response}
use Rattle.mmc_card.specs.declared.response.Response.TheVariants as To
use Rattle.mmc_host.specs.declared.told.Heard.{Heard}
use Rattle.mmc_host.specs.declared.told.Heard.TheVariants as Hears
use Rattle.mmc_host.specs.declared.told.HostCommand.{HostCommand}
use Rattle.mmc_host.specs.declared.told.HostState.{HostState}
use Rattle.mmc_host.specs.declared.told.ResponseFault.{ResponseFault}
use Rattle.mmc_sdhci.proofs.Hosting.{sent_over}
use Rattle.mmc_sdhci.specs.Commands as Command
use Rattle.mmc_sdhci.specs.Commands.{KeepsLent}
use Rattle.mmc_sdhci.specs.Controller.{Built, ControllerView, Settings, Settled, has_data, limits_of, lines_in}
use Rattle.mmc_sdhci.specs.Driver.{StaysHost, host_over}
use Rattle.mmc_sdhci.specs.Finishing.{Finishes, IsLentFor, IsMoving, MovesAfter, MovesWith, Prepares, ended}
use Rattle.mmc_sdhci.specs.Lending.{Lends, TakesBack, unlent}
use Rattle.mmc_sdhci.specs.Lent.{Come, Dma, Lent, Room, ToGo, blocks_to_go, is_lent_for}
use Rattle.mmc_sdhci.specs.Moving.{WhereKept}
use Rattle.mmc_sdhci.proofs.ByDma.{all_gone, all_read, one_failed, one_is_lost, placed_rewrites}

-- A host to which nothing has happened sends as before.
pub sends_from : (h0 h1 h2 : HostView) (command : HostCommand) (heard : Result Heard ResponseFault) → StaysHost h0 h1
    → Sends h1 command heard h2 → Sends h0 command heard h2
sends_from h0 h1 h2 command heard stays sends kept =
    let s = sends kept in
    let e = stays s.step.was_kept in
    subst (λ (h : HostView). HostSteps h (sent h.state command (is_ok heard))
    (Answers (bus_of h) command.index command.argument (answer_heard command.response command.index heard) (bus_of h2)) h2) e.1 s

-- all is lent and set, and nothing has happened to the host
pub still_there : (v0 v1 v2 : ControllerView) (state : HostState) (limits : Lines) (lent : Lent) (start : ℕ)
    → Lends v0 lent (Some start) v1 → Prepares v1 v2 → StaysHost (host_over v0 state limits) (host_over v2 state limits)
still_there v0 v1 v2 state limits lent start lends prepares kept =
    let p = prepares kept in
    let l = lends p.0 in
    (l.0, ap (λ (v : ControllerView). host_over v state limits) p.1.same ∙ ap (λ (v : ControllerView). host_over v state limits) l.1)

-- nothing happens to the host after a command
pub sends_then : (h0 h1 h2 : HostView) (command : HostCommand) (heard : Result Heard ResponseFault) → Sends h0 command heard h1
    → StaysHost h1 h2 → Sends h0 command heard h2
sends_then h0 h1 h2 command heard sends stays kept =
    let e = stays kept in
    let s = sends e.0 in
    subst (λ (h : HostView). HostSteps h0 (sent h0.state command (is_ok heard))
    (Answers (bus_of h0) command.index command.argument (answer_heard command.response command.index heard) (bus_of h)) h) (sym e.1) s

-- What is so after a command whose blocks the controller moves.
module _ (v0 v1 v2 : ControllerView) (lent : Lent) (start : ℕ) (state : HostState) (limits : Lines) (command : HostCommand)
    (heard : Result Heard ResponseFault) (count : ℕ) (moved : Moved DataIn)
    (lines : WhereKept v0 (lines_in v0.settings.control ≡ lines_of state.ios))
    (most : WhereKept v0 (limits_of v0.built ≡ limits)) (lends : Lends v0 lent (Some start) v1)
    (moves : MovesWith v1 command heard count moved v2) where
  abbrev command_sent : ControllerView
  command_sent = moves.between

  abbrev after_command : HostState
  after_command = sent state command (is_ok heard)

  lined : WhereKept moves.set (lines_in moves.set.settings.control ≡ lines_of state.ios)
  lined kept =
      let p = moves.prepared kept in
      let m = lends p.0 in
      p.1.lines ∙ (ap (λ (v : ControllerView). lines_in v.settings.control) m.1 ∙ lines m.0)

  limited : WhereKept moves.set (limits_of moves.set.built ≡ limits)
  limited kept =
      let p = moves.prepared kept in
      let m = lends p.0 in
      ap (λ (v : ControllerView). limits_of v.built) p.1.same
      ∙ (ap (λ (v : ControllerView). limits_of v.built) m.1 ∙ most m.0)

  pub sent_first : Sends (host_over v0 state limits) command heard (host_over command_sent after_command limits)
  sent_first =
      sends_from (host_over v0 state limits) (host_over moves.set state limits) (host_over command_sent after_command limits) command heard
      (still_there v0 v1 moves.set state limits lent start lends moves.prepared)
      (sent_over moves.set command_sent state after_command limits command heard lined limited refl moves.sent)

  pub lined_after : WhereKept command_sent (lines_in command_sent.settings.control ≡ lines_of after_command.ios)
  lined_after kept =
      let s = moves.sent kept in ap (λ (t : Settings). lines_in t.control) s.1.settings ∙ lined s.0

  pub limited_after : WhereKept command_sent (limits_of command_sent.built ≡ limits)
  limited_after kept = let s = moves.sent kept in ap (λ (b : Built). limits_of b) s.1.built ∙ limited s.0

  pub under_way_after : is_ok heard ≡ true → WhereKept command_sent (command_sent.transfer ≡ command.transfer)
  under_way_after ok kept =
      let s = moves.sent kept in s.1.transfer ∙ ap (λ (b : Bool). if b then command.transfer else Data.Nothing) ok

  pub lent_after : WhereKept command_sent (command_sent.dma.lent ≡ Some lent)
  lent_after kept =
      let k = moves.lent kept in
      let p = moves.prepared k.0 in
      let m = lends p.0 in
      ap (λ (d : Dma). d.lent) k.1 ∙ (p.1.lent ∙ ap (λ (v : ControllerView). v.dma.lent) m.1)

-- what is lent for data serves some
serves_data : (lent : Option Lent) (t : Data) → is_lent_for lent t ≡ true → has_data t ≡ true
serves_data lent (Data.Read size count) serves = refl
serves_data lent (Data.Write count) serves = refl
serves_data None Data.Nothing serves = absurd (false≢true serves)
serves_data (Some (Room room)) Data.Nothing serves = absurd (false≢true serves)
serves_data (Some (Come blocks)) Data.Nothing serves = absurd (false≢true serves)
serves_data (Some (ToGo blocks)) Data.Nothing serves = absurd (false≢true serves)

pub moves_after : (v0 v1 v2 : ControllerView) (command : HostCommand) (heard : Result Heard ResponseFault) → is_ok heard ≡ true
    → IsLentFor v0 command.transfer → Prepares v0 v1 → Command.Sends v1 command heard v2 → KeepsLent v1 (is_ok heard) v2 → IsMoving v2
moves_after v0 v1 v2 command heard ok serves prepared sent lent kept =
    let k = lent kept in
    let s = sent kept in
    let p = prepared k.0 in (
      ap (λ (d : Dma). d.is_moving) k.1 ∙ ok,
      ap (λ (t : Data). has_data t) (s.1.transfer ∙ ap (λ (b : Bool). if b then command.transfer else Data.Nothing) ok)
          ∙ serves_data v0.dma.lent command.transfer (serves p.0),
    )

pub none_moved : (view : ControllerView) (heard : Result Heard ResponseFault) (count : ℕ) → is_ok heard ≡ false
    → MovesAfter view heard count (Move.Good 0) view
none_moved view (Err fault) count unheard = (refl, refl)
none_moved view (Ok heard) count unheard = absurd (false≢true (sym unheard))

pub all_moved : (old new : ControllerView) (heard : Result Heard ResponseFault) (count : ℕ) → is_ok heard ≡ true
    → Finishes old None new → MovesAfter old heard count (Move.Good count) new
all_moved old new (Err fault) count ok finishes = absurd (false≢true ok)
all_moved old new (Ok heard) count ok finishes = (refl, finishes)

pub one_unmoved : (old new : ControllerView) (heard : Result Heard ResponseFault) (count : ℕ) (got : DataIn) → is_ok heard ≡ true
    → (got ≡ Came.Good → ⊥) → Finishes old (Some got) new → MovesAfter old heard count (Move.Failed got) new
one_unmoved old new (Err fault) count got ok bad finishes = absurd (false≢true ok)
one_unmoved old new (Ok heard) count got ok bad finishes = (bad, finishes)

-- a word that was heard is no silence
heard_word : (index : ℕ) (heard : Heard) → Command.IsWord heard → answer_heard To.R1 index (Ok heard) ≡ Silent → ⊥
heard_word index (Hears.Word word) is silent = cc
heard_word index Hears.Nothing is silent = absurd is
heard_word index (Hears.Register bytes) is silent = absurd is

pub word_heard : (response : Response) (index : ℕ) (heard : Result Heard ResponseFault) → response ≡ To.R1 → is_ok heard ≡ true
    → IfOk heard Command.IsWord → answer_heard response index heard ≡ Silent → ⊥
word_heard response index (Err fault) one ok word silent = absurd (false≢true ok)
word_heard response index (Ok heard) one ok word silent =
    heard_word index heard word (subst (λ (r : Response). answer_heard r index (Ok heard) ≡ Silent) one silent)

-- Reads, and writes.

module _ {S : Type 0} (blocks : S → List (List ℕ)) (leave : S → ℕ → List ℕ → S) (one : WritesOne blocks leave) (was now : S)
    (v0 v1 v2 v3 : ControllerView) (start : ℕ) (state : HostState) (limits : Lines) (command : HostCommand) (count : ℕ)
    (lines : WhereKept v0 (lines_in v0.settings.control ≡ lines_of state.ios))
    (most : WhereKept v0 (limits_of v0.built ≡ limits)) (lends : Lends v0 (Room count) (Some start) v1)
    (taken : TakesBack leave v2 was count now v3) (some : 1 ≤ count) (full : count ≡ length (blocks was))
    (asked : command.transfer ≡ Data.Read 512 count) where
  pub reads_by_dma : (heard : Result Heard ResponseFault) (moved : Moved DataIn) → MovesWith v1 command heard count moved v2
      → ReadsWith blocks leave (host_over v0 state limits) command was heard moved now
      (host_over v3 (ended (sent state command (is_ok heard))) limits)
  reads_by_dma (Err fault) moved moves =
      let after = sent state command false in
      let unmoved = moves.moves in
      subst (λ (m : Moved DataIn). ReadsWith blocks leave (host_over v0 state limits) command was (Err fault) m now (host_over v3 after limits))
      (sym unmoved.0)
      (record {
        between = host_over v3 after limits;
        sent = sends_then (host_over v0 state limits) (host_over moves.between after limits) (host_over v3 after limits) command (Err fault)
            (sent_first v0 v1 v2 (Room count) start state limits command (Err fault) count moved lines most lends moves)
            (λ kept. let t = taken.back kept in (
              subst (λ (v : ControllerView). v.is_kept ≡ true) unmoved.1 t.0,
              ap (λ (v : ControllerView). host_over v after limits) t.1.1 ∙ ap (λ (v : ControllerView). host_over v after limits) unmoved.1,
            ));
        read = reads_nothing now (subst (λ (s : S). IsRewritten blocks leave was s) (sym taken.placed)
            (placed_rewrites blocks leave one was taken.blocks count taken.sized (omega (arith, full))).0);
      })
  reads_by_dma (Ok heard) (Move.Good done) moves =
      let after = sent state command true in
      subst (λ (n : ℕ). ReadsWith blocks leave (host_over v0 state limits) command was (Ok heard) (Move.Good n) now (host_over v3 (ended after) limits))
      (sym moves.moves.0)
      (record {
        between = host_over moves.between after limits;
        sent = sent_first v0 v1 v2 (Room count) start state limits command (Ok heard) count (Move.Good done) lines most lends moves;
        read = all_read blocks leave one was now moves.between v2 v3 after limits count some full asked
            (λ kept. under_way_after v0 v1 v2 (Room count) start state limits command (Ok heard) count (Move.Good done) lines most lends moves refl kept ∙ asked)
            (lined_after v0 v1 v2 (Room count) start state limits command (Ok heard) count (Move.Good done) lines most lends moves)
            (limited_after v0 v1 v2 (Room count) start state limits command (Ok heard) count (Move.Good done) lines most lends moves)
            taken moves.moves.1;
      })
  reads_by_dma (Ok heard) (Move.Failed got) moves =
      let after = sent state command true in
      record {
        between = host_over moves.between after limits;
        sent = sent_first v0 v1 v2 (Room count) start state limits command (Ok heard) count (Move.Failed got) lines most lends moves;
        read = one_failed blocks leave one was now moves.between v2 v3 after limits count some full asked
            (λ kept. under_way_after v0 v1 v2 (Room count) start state limits command (Ok heard) count (Move.Failed got) lines most lends moves refl kept ∙ asked)
            (lined_after v0 v1 v2 (Room count) start state limits command (Ok heard) count (Move.Failed got) lines most lends moves)
            (limited_after v0 v1 v2 (Room count) start state limits command (Ok heard) count (Move.Failed got) lines most lends moves)
            taken got moves.moves.0 moves.moves.1;
      }

-- what a host is told of a write
abbrev pub told : Moved DataIn → Moved DataOut
told (Move.Good done) = Move.Good done
told (Move.Failed got) = Move.Failed Went.Nothing

module _ (blocks : List (List ℕ)) (v0 v1 v2 v3 : ControllerView) (start : ℕ) (state : HostState) (limits : Lines) (command : HostCommand)
    (count : ℕ) (lines : WhereKept v0 (lines_in v0.settings.control ≡ lines_of state.ios))
    (most : WhereKept v0 (limits_of v0.built ≡ limits)) (lends : Lends v0 (ToGo blocks) (Some start) v1)
    (back : Settled v2 (v3 ≡ unlent v2) v3) (some : 1 ≤ count) (full : count ≡ length blocks)
    (asked : command.transfer ≡ Data.Write count) (response : command.response ≡ To.R1) where
  pub writes_by_dma : (heard : Result Heard ResponseFault) (moved : Moved DataIn) → IfOk heard Command.IsWord
      → MovesWith v1 command heard count moved v2
      → WritesWith (host_over v0 state limits) command blocks heard (told moved)
      (host_over v3 (ended (sent state command (is_ok heard))) limits)
  writes_by_dma (Err fault) moved word moves =
      let after = sent state command false in
      let unmoved = moves.moves in
      subst (λ (m : Moved DataIn). WritesWith (host_over v0 state limits) command blocks (Err fault) (told m) (host_over v3 after limits))
      (sym unmoved.0)
      (record {
        between = host_over v3 after limits;
        sent = sends_then (host_over v0 state limits) (host_over moves.between after limits) (host_over v3 after limits) command (Err fault)
            (sent_first v0 v1 v2 (ToGo blocks) start state limits command (Err fault) count moved lines most lends moves)
            (λ kept. let t = back kept in (
              subst (λ (v : ControllerView). v.is_kept ≡ true) unmoved.1 t.0,
              ap (λ (v : ControllerView). host_over v after limits) t.1 ∙ ap (λ (v : ControllerView). host_over v after limits) unmoved.1,
            ));
        unheard = λ silent. refl;
        written = writes 0 (host_over v3 after limits) none_accepted;
      })
  writes_by_dma (Ok heard) (Move.Good done) word moves =
      let after = sent state command true in
      subst (λ (n : ℕ). WritesWith (host_over v0 state limits) command blocks (Ok heard) (Move.Good n) (host_over v3 (ended after) limits))
      (sym moves.moves.0)
      (record {
        between = host_over moves.between after limits;
        sent = sent_first v0 v1 v2 (ToGo blocks) start state limits command (Ok heard) count (Move.Good done) lines most lends moves;
        unheard = λ silent. absurd (word_heard command.response command.index (Ok heard) response refl word silent);
        written = all_gone blocks moves.between v2 v3 after limits count some full asked
            (λ kept. under_way_after v0 v1 v2 (ToGo blocks) start state limits command (Ok heard) count (Move.Good done) lines most lends moves refl kept ∙ asked)
            (λ kept. ap blocks_to_go (lent_after v0 v1 v2 (ToGo blocks) start state limits command (Ok heard) count (Move.Good done) lines most lends moves kept))
            (lined_after v0 v1 v2 (ToGo blocks) start state limits command (Ok heard) count (Move.Good done) lines most lends moves)
            (limited_after v0 v1 v2 (ToGo blocks) start state limits command (Ok heard) count (Move.Good done) lines most lends moves)
            back moves.moves.1;
      })
  writes_by_dma (Ok heard) (Move.Failed got) word moves =
      let after = sent state command true in
      record {
        between = host_over moves.between after limits;
        sent = sent_first v0 v1 v2 (ToGo blocks) start state limits command (Ok heard) count (Move.Failed got) lines most lends moves;
        unheard = λ silent. absurd (word_heard command.response command.index (Ok heard) response refl word silent);
        written = one_is_lost blocks moves.between v2 v3 after limits count some full asked
            (λ kept. under_way_after v0 v1 v2 (ToGo blocks) start state limits command (Ok heard) count (Move.Failed got) lines most lends moves refl kept ∙ asked)
            (λ kept. ap blocks_to_go (lent_after v0 v1 v2 (ToGo blocks) start state limits command (Ok heard) count (Move.Failed got) lines most lends moves kept))
            (lined_after v0 v1 v2 (ToGo blocks) start state limits command (Ok heard) count (Move.Failed got) lines most lends moves)
            (limited_after v0 v1 v2 (ToGo blocks) start state limits command (Ok heard) count (Move.Failed got) lines most lends moves)
            back got moves.moves.1;
      }

-- Through the Buffer Data Port, where DMA can't be had.

pub reads_again : {S : Type 0} (blocks : S → List (List ℕ)) (leave : S → ℕ → List ℕ → S) (h0 h1 h2 : HostView)
    (command : HostCommand) (before was : S) (heard : Result Heard ResponseFault) (moved : Moved DataIn) (now : S) → StaysHost h0 h1
    → was ≡ before → ReadsWith blocks leave h1 command was heard moved now h2
    → ReadsWith blocks leave h0 command before heard moved now h2
reads_again blocks leave h0 h1 h2 command before was heard moved now stays same read =
    let r = subst (λ s. ReadsWith blocks leave h1 command s heard moved now h2) same read in
    record { between = r.between; sent = sends_from h0 h1 r.between command heard stays r.sent; read = r.read }

pub writes_again : (h0 h1 h2 : HostView) (command : HostCommand) (blocks : List (List ℕ)) (heard : Result Heard ResponseFault)
    (moved : Moved DataOut) → StaysHost h0 h1 → WritesWith h1 command blocks heard moved h2
    → WritesWith h0 command blocks heard moved h2
writes_again h0 h1 h2 command blocks heard moved stays write = record {
  between = write.between;
  sent = sends_from h0 h1 write.between command heard stays write.sent;
  unheard = write.unheard;
  written = write.written;
}
