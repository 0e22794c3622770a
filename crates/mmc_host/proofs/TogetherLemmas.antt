-- A command with the blocks after it, as exchanges of the bus over a host.
use Rattle.std.proofs.Common.{◌+◌, ◌≤◌, ◌∙◌, ◌≡◌, Bool, List, ap, false, refl, sym, true, ℕ, suc, zero}
use Rattle.std.specs.Prelude.{◌-◌, IfSome, Err, IsErr, Ok, Option, Result, Some, is_ok, slice_index_or}
use Rattle.std.proofs.Common.{[], arith, inl, inr, subst}
use Rattle.mmc_card.specs.CardAnswer.{Silent}
use Rattle.mmc_frame.specs.Frame.{command_in}
use Rattle.mmc_card.specs.Faults.{CommandStep, PollStep, ReadStep, Spells, WriteStep}
use Rattle.mmc_card.specs.declared.exchange.DataOut.{DataOut}
use Rattle.mmc_card.specs.declared.exchange.DataOut.TheVariants.{Accepted}
use Rattle.mmc_card.specs.declared.exchange.DataOut.TheVariants as Went
use Rattle.mmc_card.specs.declared.exchange.DataIn.{DataIn}
use Rattle.mmc_card.specs.declared.exchange.DataIn.TheVariants.{Good}
use Rattle.mmc_card.specs.declared.exchange.DataIn.TheVariants as Received
use Rattle.mmc_card.specs.declared.exchange.Exchange.{Exchange}
use Rattle.mmc_card.specs.declared.exchange.Exchange.TheVariants.{Busy, Command, In, Out}
use Rattle.mmc_card.specs.declared.exchange.Reply.{Reply}
use Rattle.mmc_card.specs.declared.exchange.Want.{Want}
use Rattle.mmc_bus.specs.Exchanges.{Commanded}
use Rattle.mmc_bus.specs.Heard.{or_unsound, response_heard}
use Rattle.mmc_bus.specs.Together.{AreAccepted, AreGood, BlockRead, BlockWritten, NotBusy, OneOf, ReadOn, ReadWith, RestsAfter, WrittenOn, WrittenWith}
use Rattle.mmc_bus.specs.Together.{accepted_one, good_one, none_accepted, none_good, reads, reads_none, reads_nothing, writes, writes_none}
use Rattle.mmc_bus.specs.Wires.{Notes}
use Rattle.mmc_bus.specs.declared.moved.Moved.{Moved}
use Rattle.mmc_bus.specs.declared.moved.Moved.TheVariants as Move
use Rattle.mmc_bus.specs.declared.wire.Wire.{Wire}
use Rattle.mmc_host.proofs.BusLemmas.{does_command, does_poll, does_read, does_write, exchanged, replied}
use Rattle.mmc_host.specs.HostStates.{IsCounted, block_passed, blocks_in, is_accepted, is_good, lines_of, sent}
use Rattle.mmc_card.specs.BusView.{BusView}
use Rattle.mmc_host.specs.Hosts.{Does, HostView, OnlySets, Rests, Sends, Where, WritesBlock, answer_heard, bus_over}
use Rattle.mmc_host.specs.Together.{CanRead, CanWrite, HostRead, IsBegun, IsUnderWay, HostRested, ReadsWith, WritesWith, all_noted, all_writes_noted}
use Rattle.mmc_host.specs.Together.{many_noted, noted, passed, passed_on, writes_noted}
use Rattle.mmc_card.specs.declared.response.Response.TheVariants as To
use Rattle.mmc_host.specs.declared.told.Heard.{Heard}
use Rattle.mmc_host.specs.declared.told.HostCommand.{HostCommand}
use Rattle.mmc_host.specs.declared.told.HostState.{HostState}
use Rattle.mmc_host.specs.declared.told.ResponseFault.{ResponseFault}

pub notes : (exchange : Exchange) (wire : Wire) → Notes wire exchange (noted exchange wire)
notes exchange wire = record { lines = refl; limits = refl; last = refl; exchanges = refl }

-- One of several exchanges, whether it is counted or not.
abbrev Tells : Wire → Exchange → Wire → Type 0
Tells old exchange new =
    (new.lines ≡ old.lines) × (new.limits ≡ old.limits) × (new.last ≡ Some exchange) × (new.exchanges ≤ old.exchanges + 1)

one_told : (old new : HostView) (w v : Wire) (misused : Bool) (exchange : Exchange) (Step : BusView → BusView → Type 0)
    → Does old w misused Step new misused → Tells w exchange v
    → OneOf (bus_over old w misused) exchange (Step (bus_over old w misused) (bus_over new v misused)) (bus_over new v misused)
one_told old new w v misused exchange Step does tells = record {
  lines = tells.0;
  limits = tells.1;
  last = tells.2;
  exchanges = tells.3;
  kept = does v tells.0;
}

noted_tells : (exchange : Exchange) (wire : Wire) → Tells wire exchange (noted exchange wire)
noted_tells exchange wire = (refl, refl, refl, omega arith)

many_tells : (exchange : Exchange) (k : ℕ) (wire : Wire)
    → Tells (many_noted exchange k wire) exchange (many_noted exchange (suc k) wire)
many_tells exchange zero wire = (refl, refl, refl, omega arith)
many_tells exchange (suc k) wire = (refl, refl, refl, omega arith)

lines_of_many : (exchange : Exchange) (k : ℕ) (wire : Wire) → (many_noted exchange k wire).lines ≡ wire.lines
lines_of_many exchange zero wire = refl
lines_of_many exchange (suc k) wire = refl

limits_of_many : (exchange : Exchange) (k : ℕ) (wire : Wire) → (many_noted exchange k wire).limits ≡ wire.limits
limits_of_many exchange zero wire = refl
limits_of_many exchange (suc k) wire = refl

-- a wire on which this came, uncounted
abbrev told : Exchange → Wire → Wire
told exchange wire = record wire { last = Some exchange }

abbrev told_so : Exchange → ℕ → Wire → Wire
told_so exchange zero wire = wire
told_so exchange (suc k) wire = told exchange wire

so_tells : (first exchange : Exchange) (k : ℕ) (wire : Wire) → Tells (told_so first k wire) exchange (told exchange wire)
so_tells first exchange zero wire = (refl, refl, refl, omega arith)
so_tells first exchange (suc k) wire = (refl, refl, refl, omega arith)

so_noted : (first exchange : Exchange) (k : ℕ) (wire : Wire) → Tells (told_so first k wire) exchange (noted exchange wire)
so_noted first exchange zero wire = (refl, refl, refl, omega arith)
so_noted first exchange (suc k) wire = (refl, refl, refl, omega arith)

so_lines : (exchange : Exchange) (k : ℕ) (wire : Wire) → (told_so exchange k wire).lines ≡ wire.lines
so_lines exchange zero wire = refl
so_lines exchange (suc k) wire = refl

-- what a call leaves of a host by the blocks that it moved
abbrev HasMoved : {T : Type 0} → HostView → Moved T → HostView → Type 0
HasMoved between moved new =
    Where new ((between.is_kept ≡ true) × (new.state ≡ passed_on moved between.state) × (new.limits ≡ between.limits))

pub sets_none : (view : HostView) → OnlySets view view
sets_none view kept = (kept, refl)

pub rests : (view : HostView) → Rests view view
rests view kept = (kept, refl)

-- lines and clock stay as the command had them, whatever its blocks did
pub moved_ios : {T : Type 0} (moved : Moved T) (state : HostState) → (passed_on moved state).ios ≡ state.ios
moved_ios (Move.Good good) state = refl
moved_ios (Move.Failed got) state = refl

pub is_other_in : (got : DataIn) → (got ≡ Good → ⊥) → is_good got ≡ false
is_other_in Received.Good not = absurd (not refl)
is_other_in Received.Bad not = refl
is_other_in Received.Nothing not = refl

module _ {S : Type 0} (blocks : S → List (List ℕ)) (leave : S → ℕ → List ℕ → S) (was : S) (between : HostView)
    (wire : Wire) (misused : Bool) (lines : Where between (lines_of between.state.ios ≡ wire.lines)) where
  -- Where it is kept, the lines stay as they were.
  lines_in : (k : ℕ) (view : HostView) (now : S) → AreGood HostRead blocks leave between was k view now
      → Where view (lines_of view.state.ios ≡ wire.lines)
  lines_in k view now none_good kept = lines kept
  lines_in k view now (good_one done from held left next before below long read) kept =
      let s = read kept in
      ap (λ (state : HostState). lines_of state.ios) s.state ∙ lines_in done from held before s.step.was_kept

  -- and it has been told of as many blocks as were good
  state_in : (k : ℕ) (view : HostView) (now : S) → AreGood HostRead blocks leave between was k view now
      → Where view (view.state ≡ passed k between.state)
  state_in k view now none_good kept = refl
  state_in k view now (good_one done from held left next before below long read) kept =
      let s = read kept in
      s.state ∙ ap (λ (state : HostState). block_passed state true) (state_in done from held before s.step.was_kept)

  kept_in : (k : ℕ) (view : HostView) (now : S) → AreGood HostRead blocks leave between was k view now
      → view.is_kept ≡ true → between.is_kept ≡ true
  kept_in k view now none_good kept = kept
  kept_in k view now (good_one done from held left next before below long read) kept =
      kept_in done from held before (read kept).step.was_kept

  limits_in : (k : ℕ) (view : HostView) (now : S) → AreGood HostRead blocks leave between was k view now
      → Where view (view.limits ≡ between.limits)
  limits_in k view now none_good kept = refl
  limits_in k view now (good_one done from held left next before below long read) kept =
      let s = read kept in s.limits ∙ limits_in done from held before s.step.was_kept

  one_read : (from next : HostView) (at then : Wire) (got : DataIn) (left : List ℕ)
      → Where from (lines_of from.state.ios ≡ at.lines) → HostRead from got left next → Tells at (In 512 got) then
      → BlockRead (bus_over from at misused) got left (bus_over next then misused)
  one_read from next at then got left same read tells =
      one_told from next at then misused (In 512 got) (λ old new. ReadStep old 512 got left new)
      (does_read from from next at misused 512 got left same (sets_none from) read) tells

  good_over : (k : ℕ) (view : HostView) (now : S) → AreGood HostRead blocks leave between was k view now
      → AreGood BlockRead blocks leave (bus_over between wire misused) was k
      (bus_over view (many_noted (In 512 Good) k wire) misused) now
  good_over k view now none_good = none_good
  good_over k view now (good_one done from held left next before below long read) =
      good_one done (bus_over from (many_noted (In 512 Good) done wire) misused) held left
      (bus_over next (many_noted (In 512 Good) (suc done) wire) misused) (good_over done from held before) below long
      (one_read from next (many_noted (In 512 Good) done wire) (many_noted (In 512 Good) (suc done) wire) Good left
      (λ kept. lines_in done from held before kept ∙ sym (lines_of_many (In 512 Good) done wire)) read
      (many_tells (In 512 Good) done wire))

  -- uncounted
  lines_so : (k : ℕ) (view : HostView) (now : S) → AreGood HostRead blocks leave between was k view now
      → Where view (lines_of view.state.ios ≡ (told_so (In 512 Good) k wire).lines)
  lines_so k view now all kept =
      lines_in k view now all kept ∙ sym (so_lines (In 512 Good) k wire)

  good_so : (k : ℕ) (view : HostView) (now : S) → AreGood HostRead blocks leave between was k view now
      → AreGood BlockRead blocks leave (bus_over between wire misused) was k
      (bus_over view (told_so (In 512 Good) k wire) misused) now
  good_so k view now none_good = none_good
  good_so k view now (good_one done from held left next before below long read) =
      good_one done (bus_over from (told_so (In 512 Good) done wire) misused) held left
      (bus_over next (told (In 512 Good) wire) misused) (good_so done from held before) below long
      (one_read from next (told_so (In 512 Good) done wire) (told (In 512 Good) wire) Good left
      (lines_so done from held before) read (so_tells (In 512 Good) (In 512 Good) done wire))

  pub read_over : (moved : Moved DataIn) (new : HostView) (now : S)
      → ReadOn HostRead blocks leave between was moved new now
      → ReadOn BlockRead blocks leave (bus_over between wire misused) was moved
      (bus_over new (all_noted moved wire) misused) now
  read_over moved new now (reads good next held all) = reads good _ held (good_over good next held all)
  read_over moved new now (reads_nothing held lent) = reads_nothing held lent
  read_over moved new now (reads_none some view held last got left next all below long not read lent) =
      reads_none some (bus_over view (told_so (In 512 Good) some wire) misused) held last got left
      (bus_over next (noted (In 512 got) wire) misused) (good_so some view held all) below long not
      (one_read view next (told_so (In 512 Good) some wire) (noted (In 512 got) wire) got left (lines_so some view held all)
      read (so_noted (In 512 Good) (In 512 got) some wire)) lent

  pub state_on : (moved : Moved DataIn) (new : HostView) (now : S)
      → ReadOn HostRead blocks leave between was moved new now → HasMoved between moved new
  state_on moved new now (reads good next held all) kept =
      (kept_in good next held all kept, state_in good next held all kept, limits_in good next held all kept)
  state_on moved new now (reads_nothing held lent) kept = (kept, refl, refl)
  state_on moved new now (reads_none some view held last got left next all below long not read lent) kept =
      let s = read kept in
      let was = s.step.was_kept in (
        kept_in some view held all was,
        s.state ∙ ap (block_passed view.state) (is_other_in got not)
            ∙ ap (λ (state : HostState). block_passed state false) (state_in some view held all was),
        s.limits ∙ limits_in some view held all was,
      )

limits_noted : (moved : Moved DataIn) (wire : Wire) → (all_noted moved wire).limits ≡ wire.limits
limits_noted (Move.Good good) wire = limits_of_many (In 512 Good) good wire
limits_noted (Move.Failed got) wire = refl

-- A command with the blocks after it, whichever way they go.
module _ (v0 v1 between : HostView) (w0 w1 : Wire) (state : HostState) (frame : List ℕ) (want : Want)
    (command : HostCommand) (heard : Result Heard ResponseFault) (reply : Reply) (told : Where v1 (v1.state ≡ state))
    (sends : Sends v1 command heard between) (notes_it : Notes w0 (Command frame want reply) w1) where
  lines_after : lines_of state.ios ≡ w0.lines → Where between (lines_of between.state.ios ≡ w1.lines)
  lines_after set kept =
      let s = sends kept in
      ap (λ (x : HostState). lines_of x.ios) s.state
      ∙ ap (λ (x : HostState). lines_of x.ios) (told s.step.was_kept) ∙ set ∙ sym notes_it.lines

  commanded_by : (misused : Bool) → OnlySets v0 v1 → command_in frame ≡ Some (command.index, command.argument)
      → Spells (answer_heard command.response command.index heard) reply
      → Commanded (bus_over v0 w0 misused) frame want reply (bus_over between w1 misused)
  commanded_by misused only holds spells =
      exchanged v0 between w0 w0 w1 misused misused (Command frame want reply) (λ old next. CommandStep old frame reply next)
      (does_command v0 between w0 misused command.index command.argument frame reply holds
      (replied v0 v1 between between command heard reply only sends (rests between) spells)) refl notes_it

  -- a bus that keeps all of it has told its host the same, within the same limits
  kept_by : {T : Type 0} (moved : Moved T) (new : HostView) (after : HostState) (wire : Wire) → HasMoved between moved new
      → after ≡ passed_on moved (sent state command (is_ok heard)) → wire.limits ≡ w1.limits
      → Where v1 (v1.limits ≡ w0.limits) → Where new (new.state ≡ after) × Where new (new.limits ≡ wire.limits)
  kept_by moved new after wire has same limits within = (
    λ kept.
        let all = has kept in
        let s = sends all.0 in
        all.1
        ∙ ap (passed_on moved)
        (s.state ∙ ap (λ (x : HostState). sent x command (is_ok heard)) (told s.step.was_kept)) ∙ sym same,
    λ kept.
        let all = has kept in
        let s = sends all.0 in
        all.2 ∙ s.limits ∙ within s.step.was_kept ∙ sym notes_it.limits ∙ sym limits,
  )

-- Blocks that come after it.
module _ {S : Type 0} {blocks : S → List (List ℕ)} {leave : S → ℕ → List ℕ → S} (was : S) (v0 v1 : HostView)
    (w0 w1 : Wire) (misused : Bool) (state : HostState) (frame : List ℕ) (want : Want) (command : HostCommand)
    (count : ℕ) (heard : Result Heard ResponseFault) (reply : Reply) (moved : Moved DataIn) (now : S) (new : HostView)
    (told : Where v1 (v1.state ≡ state)) (can : CanRead state frame command count w0.lines)
    (read : ReadsWith blocks leave v1 command was heard moved now new)
    (notes_it : Notes w0 (Command frame want reply) w1) where
  lines_read : Where read.between (lines_of read.between.state.ios ≡ w1.lines)
  lines_read = lines_after v0 v1 read.between w0 w1 state frame want command heard reply told read.sent notes_it can.set

  pub over : OnlySets v0 v1 → Spells (answer_heard command.response command.index heard) reply
      → ReadWith blocks leave (bus_over v0 w0 misused) frame want was reply moved now
      (bus_over new (all_noted moved w1) misused)
  over only spells = record {
    between = bus_over read.between w1 misused;
    commanded = commanded_by v0 v1 read.between w0 w1 state frame want command heard reply told read.sent notes_it misused
        only can.holds spells;
    read = read_over blocks leave was read.between w1 misused lines_read moved new now read.read;
  }

  pub read_kept : (after : HostState) (wire : Wire) → after ≡ passed_on moved (sent state command (is_ok heard))
      → wire ≡ all_noted moved w1 → Where v1 (v1.limits ≡ w0.limits)
      → Where new (new.state ≡ after) × Where new (new.limits ≡ wire.limits)
  read_kept after wire same noted =
      kept_by v0 v1 read.between w0 w1 state frame want command heard reply told read.sent notes_it moved new after wire
      (state_on blocks leave was read.between w1 misused lines_read moved new now read.read) same
      (ap (λ (w : Wire). w.limits) noted ∙ limits_noted moved w1)

-- Writes.

-- the poll before a block that isn't the first
abbrev poll_noted : ℕ → Wire → Wire
poll_noted zero wire = wire
poll_noted (suc done) wire = noted (Busy false) wire

lines_polled : (k : ℕ) (wire : Wire) → (poll_noted k wire).lines ≡ wire.lines
lines_polled zero wire = refl
lines_polled (suc k) wire = refl

lines_written : (k : ℕ) (wire : Wire) → (writes_noted k wire).lines ≡ wire.lines
lines_written k wire =
    lines_of_many (Out Accepted) k (many_noted (Busy false) (k - 1) wire) ∙ lines_of_many (Busy false) (k - 1) wire

limits_written : (k : ℕ) (wire : Wire) → (writes_noted k wire).limits ≡ wire.limits
limits_written k wire =
    limits_of_many (Out Accepted) k (many_noted (Busy false) (k - 1) wire) ∙ limits_of_many (Busy false) (k - 1) wire

another_tells : (k polls : ℕ) (wire : Wire)
    → Tells (noted (Busy false) (many_noted (Out Accepted) (suc k) (many_noted (Busy false) polls wire))) (Out Accepted)
    (many_noted (Out Accepted) (suc (suc k)) (many_noted (Busy false) (suc polls) wire))
another_tells k zero wire = (refl, refl, refl, omega arith)
another_tells k (suc polls) wire = (refl, refl, refl, omega arith)

write_tells : (k : ℕ) (wire : Wire) → Tells (poll_noted k (writes_noted k wire)) (Out Accepted) (writes_noted (suc k) wire)
write_tells zero wire = (refl, refl, refl, omega arith)
write_tells (suc k) wire =
    let polls : suc (suc k) - 1 ≡ suc (suc k - 1) = omega arith in rw polls (another_tells k (suc k - 1) wire)

limits_all_written : (moved : Moved DataOut) (wire : Wire)
    → (all_writes_noted moved wire).limits ≡ wire.limits
limits_all_written (Move.Good good) wire = limits_written good wire
limits_all_written (Move.Failed got) wire = refl

-- a poll leaves what it has been told
rested_state : (done : ℕ) (view ready : HostView) → RestsAfter HostRested done view ready
    → Where ready ((view.is_kept ≡ true) × (ready.state ≡ view.state) × (ready.limits ≡ view.limits))
rested_state zero view ready rests kept = (
  subst (λ (v : HostView). v.is_kept ≡ true) rests kept,
  ap (λ (v : HostView). v.state) rests,
  ap (λ (v : HostView). v.limits) rests,
)
rested_state (suc done) view ready rests kept = let s = rests kept in (s.step.was_kept, s.state, s.limits)

pub is_other_out : (got : DataOut) → (got ≡ Accepted → ⊥) → is_accepted got ≡ false
is_other_out Went.Accepted not = absurd (not refl)
is_other_out Went.Rejected not = refl
is_other_out Went.Nothing not = refl

rests_told : (k : ℕ) (view ready : HostView) (at then : Wire) (misused : Bool) → HostRested view ready
    → Tells at (Busy false) then → NotBusy (bus_over view at misused) (bus_over ready then misused)
rests_told k view ready at then misused rests tells =
    one_told view ready at then misused (Busy false) (λ old new. PollStep old false new)
    (does_poll view ready at misused false rests) tells

rests_over : (done : ℕ) (view ready : HostView) (at : Wire) (misused : Bool) → RestsAfter HostRested done view ready
    → RestsAfter NotBusy done (bus_over view at misused) (bus_over ready (poll_noted done at) misused)
rests_over zero view ready at misused rests = ap (λ (v : HostView). bus_over v at misused) rests
rests_over (suc done) view ready at misused rests =
    rests_told done view ready at (noted (Busy false) at) misused rests (noted_tells (Busy false) at)

-- uncounted
rests_so : (k : ℕ) (view ready : HostView) (wire : Wire) (misused : Bool) → RestsAfter HostRested k view ready
    → RestsAfter NotBusy k (bus_over view (told_so (Out Accepted) k wire) misused)
    (bus_over ready (told_so (Busy false) k wire) misused)
rests_so zero view ready wire misused rests = ap (λ (v : HostView). bus_over v wire misused) rests
rests_so (suc k) view ready wire misused rests =
    rests_told k view ready (told (Out Accepted) wire) (told (Busy false) wire) misused rests
    (so_tells (Out Accepted) (Busy false) (suc k) wire)

module _ (blocks : List (List ℕ)) (between : HostView) (wire : Wire) (misused : Bool)
    (lines : Where between (lines_of between.state.ios ≡ wire.lines)) where
  state_out : (k : ℕ) (view : HostView) → AreAccepted WritesBlock HostRested blocks between k view
      → Where view ((between.is_kept ≡ true) × (view.state ≡ passed k between.state) × (view.limits ≡ between.limits))
  state_out k view none_accepted kept = (kept, refl, refl)
  state_out k view (accepted_one done from ready next before rests below written) kept =
      let s = written kept in
      let r = rested_state done from ready rests s.step.was_kept in
      let so_far = state_out done from before r.0 in (
        so_far.0,
        s.state ∙ ap (λ (state : HostState). block_passed state true) (r.1 ∙ so_far.1),
        s.limits ∙ r.2 ∙ so_far.2,
      )

  -- Where it is kept, the lines stay as they were.
  lines_out : (k : ℕ) (view ready : HostView) → AreAccepted WritesBlock HostRested blocks between k view
      → RestsAfter HostRested k view ready
      → Where ready (lines_of ready.state.ios ≡ (poll_noted k (writes_noted k wire)).lines)
  lines_out k view ready all rests kept =
      let r = rested_state k view ready rests kept in
      let so_far = state_out k view all r.0 in
      ap (λ (state : HostState). lines_of state.ios) (r.1 ∙ so_far.1) ∙ lines so_far.0
      ∙ sym (lines_written k wire) ∙ sym (lines_polled k (writes_noted k wire))

  one_written : (ready next : HostView) (at then : Wire) (got : DataOut) (block : List ℕ)
      → Where ready (lines_of ready.state.ios ≡ at.lines) → WritesBlock ready block got next → Tells at (Out got) then
      → BlockWritten (bus_over ready at misused) block got (bus_over next then misused)
  one_written ready next at then got block same written tells =
      one_told ready next at then misused (Out got) (λ old new. WriteStep old block got new)
      (does_write ready ready next at misused block got same (sets_none ready) written) tells

  accepted_over : (k : ℕ) (view : HostView) → AreAccepted WritesBlock HostRested blocks between k view
      → AreAccepted BlockWritten NotBusy blocks (bus_over between wire misused) k (bus_over view (writes_noted k wire) misused)
  accepted_over k view none_accepted = none_accepted
  accepted_over k view (accepted_one done from ready next before rests below written) =
      accepted_one done (bus_over from (writes_noted done wire) misused)
      (bus_over ready (poll_noted done (writes_noted done wire)) misused)
      (bus_over next (writes_noted (suc done) wire) misused) (accepted_over done from before)
      (rests_over done from ready (writes_noted done wire) misused rests) below
      (one_written ready next (poll_noted done (writes_noted done wire)) (writes_noted (suc done) wire) Accepted
      (slice_index_or blocks done []) (lines_out done from ready before rests) written
      (write_tells done wire))

  -- uncounted
  lines_so_out : (k : ℕ) (view ready : HostView) → AreAccepted WritesBlock HostRested blocks between k view
      → RestsAfter HostRested k view ready
      → Where ready (lines_of ready.state.ios ≡ (told_so (Busy false) k wire).lines)
  lines_so_out k view ready all rests kept =
      lines_out k view ready all rests kept ∙ lines_polled k (writes_noted k wire) ∙ lines_written k wire
      ∙ sym (so_lines (Busy false) k wire)

  accepted_so : (k : ℕ) (view : HostView) → AreAccepted WritesBlock HostRested blocks between k view
      → AreAccepted BlockWritten NotBusy blocks (bus_over between wire misused) k
      (bus_over view (told_so (Out Accepted) k wire) misused)
  accepted_so k view none_accepted = none_accepted
  accepted_so k view (accepted_one done from ready next before rests below written) =
      accepted_one done (bus_over from (told_so (Out Accepted) done wire) misused)
      (bus_over ready (told_so (Busy false) done wire) misused) (bus_over next (told (Out Accepted) wire) misused)
      (accepted_so done from before) (rests_so done from ready wire misused rests) below
      (one_written ready next (told_so (Busy false) done wire) (told (Out Accepted) wire) Accepted
      (slice_index_or blocks done []) (lines_so_out done from ready before rests) written
      (so_tells (Busy false) (Out Accepted) done wire))

  pub written_over : (moved : Moved DataOut) (new : HostView)
      → WrittenOn WritesBlock HostRested blocks between moved new
      → WrittenOn BlockWritten NotBusy blocks (bus_over between wire misused) moved
      (bus_over new (all_writes_noted moved wire) misused)
  written_over moved new (writes good next all) = writes good _ (accepted_over good next all)
  written_over moved new (writes_none some view ready got next all rests below not written) =
      writes_none some (bus_over view (told_so (Out Accepted) some wire) misused)
      (bus_over ready (told_so (Busy false) some wire) misused) got (bus_over next (noted (Out got) wire) misused)
      (accepted_so some view all) (rests_so some view ready wire misused rests) below not
      (one_written ready next (told_so (Busy false) some wire) (noted (Out got) wire) got (slice_index_or blocks some [])
      (lines_so_out some view ready all rests) written (so_noted (Busy false) (Out got) some wire))

  pub state_on_out : (moved : Moved DataOut) (new : HostView)
      → WrittenOn WritesBlock HostRested blocks between moved new → HasMoved between moved new
  state_on_out moved new (writes good next all) kept = state_out good next all kept
  state_on_out moved new (writes_none some view ready got next all rests below not written) kept =
      let s = written kept in
      let r = rested_state some view ready rests s.step.was_kept in
      let so_far = state_out some view all r.0 in (
        so_far.0,
        s.state ∙ ap (block_passed ready.state) (is_other_out got not)
            ∙ ap (λ (state : HostState). block_passed state false) (r.1 ∙ so_far.1),
        s.limits ∙ r.2 ∙ so_far.2,
      )

-- a response that is spelled is heard
heard_none : (index : ℕ) (heard : Result Heard ResponseFault) (reply : Reply)
    → Spells (answer_heard To.R1 index heard) reply → IsErr (response_heard index reply)
    → answer_heard To.R1 index heard ≡ Silent
heard_none index (Ok (Heard.Word argument)) reply spells err =
    cc (subst IsErr (ap (response_heard index) spells.1 ∙ ap or_unsound spells.2) err)
heard_none index (Ok Heard.Nothing) reply spells err = refl
heard_none index (Ok (Heard.Register bytes)) reply spells err = refl
heard_none index (Err fault) reply spells err = refl

-- Blocks that go after it.
module _ (blocks : List (List ℕ)) (v0 v1 : HostView)
    (w0 w1 : Wire) (misused : Bool) (state : HostState) (frame : List ℕ) (want : Want) (command : HostCommand)
    (count : ℕ) (heard : Result Heard ResponseFault) (reply : Reply) (moved : Moved DataOut) (new : HostView)
    (told : Where v1 (v1.state ≡ state)) (can : CanWrite state frame command count w0.lines)
    (write : WritesWith v1 command blocks heard moved new)
    (notes_it : Notes w0 (Command frame want reply) w1) where
  lines_written_on : Where write.between (lines_of write.between.state.ios ≡ w1.lines)
  lines_written_on =
      lines_after v0 v1 write.between w0 w1 state frame want command heard reply told write.sent notes_it can.set

  none_unheard : Spells (answer_heard command.response command.index heard) reply → (c : ℕ × ℕ)
      → command_in frame ≡ Some c → IsErr (response_heard c.0 reply) → moved ≡ Move.Good 0
  none_unheard spells c is err =
      let same : Some (command.index, command.argument) ≡ Some c = sym can.holds ∙ is in
      let index : command.index ≡ c.0 = grind (arith, same) in
      write.unheard
      (rw can.response (heard_none command.index heard reply (rw can.response at spells)
      (subst (λ n. IsErr (response_heard n reply)) (sym index) err)))

  pub writes_over : OnlySets v0 v1 → Spells (answer_heard command.response command.index heard) reply
      → WrittenWith (bus_over v0 w0 misused) frame want blocks reply moved
      (bus_over new (all_writes_noted moved w1) misused)
  writes_over only spells = record {
    between = bus_over write.between w1 misused;
    commanded = commanded_by v0 v1 write.between w0 w1 state frame want command heard reply told write.sent notes_it misused
        only can.holds spells;
    unheard = none_unheard spells;
    written = written_over blocks write.between w1 misused lines_written_on moved new write.written;
  }

  pub write_kept : (after : HostState) (wire : Wire) → after ≡ passed_on moved (sent state command (is_ok heard))
      → wire ≡ all_writes_noted moved w1 → Where v1 (v1.limits ≡ w0.limits)
      → Where new (new.state ≡ after) × Where new (new.limits ≡ wire.limits)
  write_kept after wire same noted =
      kept_by v0 v1 write.between w0 w1 state frame want command heard reply told write.sent notes_it moved new after wire
      (state_on_out blocks write.between w1 misused lines_written_on moved new write.written) same
      (ap (λ (w : Wire). w.limits) noted ∙ limits_all_written moved w1)

-- what a command that is under way was told is how it has begun
pub begun_as : (frame : List ℕ) (old : HostState) (moved : ℕ) (command : HostCommand) (new : HostState)
    → command_in frame ≡ Some (command.index, command.argument) → IsUnderWay command new
    → IsCounted old.count moved command.index command.transfer → IsBegun old frame moved new
begun_as frame old moved command new holds (inl none) counted = inl none
begun_as frame old moved command new holds (inr between) counted =
    let is_counted : IsCounted old.count moved command.index new.transfer =
    λ several. ap blocks_in between ∙ counted several in
    inr (subst (λ (o : Option (ℕ × ℕ)). IfSome o (λ told. IsCounted old.count moved told.0 new.transfer)) (sym holds)
    is_counted)
