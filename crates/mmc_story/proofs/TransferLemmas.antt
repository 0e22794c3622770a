-- What was noted of a transfer are the steps of its exchanges, where the story is true of it.
use Rattle.std.proofs.Common.{[], ◌∙◌, ◌<◌, ◌≡◌, ◌∷◌, Bool, List, ap, arith, false, length, refl, subst, suc, sym, true, zero, ℕ}
use Rattle.std.specs.Prelude.{Result, is_ok, slice_index_or, slice_set}
use Rattle.std.proofs.lemmas.Bool.{false≢true}
use Rattle.std.proofs.lemmas.List.{get_or-set_other, get_or-set_same}
use Rattle.mmc_card.specs.BusView.{BusView}
use Rattle.mmc_card.specs.Faults.{PollStep, ReadStep, WriteStep}
use Rattle.mmc_card.specs.declared.exchange.DataIn.{DataIn}
use Rattle.mmc_card.specs.declared.exchange.DataIn.TheVariants.{Good}
use Rattle.mmc_card.specs.declared.exchange.DataOut.{DataOut}
use Rattle.mmc_card.specs.declared.exchange.Lines.{Lines}
use Rattle.mmc_bus.proofs.TogetherLemmas.{WritesOne, good_count, read_count, read_lent}
use Rattle.mmc_bus.specs.Exchanges.{Kept}
use Rattle.mmc_bus.specs.Together.{AreAccepted, AreGood, ReadOn, RestsAfter, WrittenOn, accepted_one, good_one}
use Rattle.mmc_bus.specs.Together.{none_accepted, none_good, reads, reads_none, reads_nothing, writes, writes_none}
use Rattle.mmc_bus.specs.declared.moved.Moved.{Moved}
use Rattle.mmc_bus.specs.declared.moved.Moved.TheVariants as Move
use Rattle.mmc_host.proofs.TogetherLemmas.{is_other_in, is_other_out}
use Rattle.mmc_host.specs.HostStates.{block_passed, is_accepted, is_good, sent}
use Rattle.mmc_host.specs.Hosts.{Answers, HostView, Steps, Where, WritesBlock, answer_heard, bus_of}
use Rattle.mmc_host.specs.Together.{HostRead, HostRested, ReadsWith, WritesWith, passed, passed_on}
use Rattle.mmc_host.specs.declared.told.Heard.{Heard}
use Rattle.mmc_host.specs.declared.told.HostCommand.{HostCommand}
use Rattle.mmc_host.specs.declared.told.HostState.{HostState}
use Rattle.mmc_host.specs.declared.told.ResponseFault.{ResponseFault}
use Rattle.mmc_story.specs.Entry.{Entry}
use Rattle.mmc_story.specs.Entry.Event.{ReadWith, WrittenWith}
use Rattle.mmc_story.specs.Story.{Story, host_with}
use Rattle.mmc_story.specs.Transfers.{BlockRead, BlockWritten, FoundAtRest, OneStep, ReadsTogether, WritesTogether}

-- The host behind a bus that stands so in the middle of a call.
abbrev host_at : BusView → HostState → HostView
host_at bus state =
    record {
      card = bus.card;
      state = state;
      limits = bus.limits;
      faults = bus.faults;
      may_fall = bus.may_fall;
      is_kept = bus.is_kept;
    }

abbrev IsBusIn : HostState → BusView → Type 0
IsBusIn state bus = bus ≡ bus_of (host_at bus state)

stays_bus : (old new : BusView) (state : HostState) → new ≡ record old { card = new.card; faults = new.faults }
    → IsBusIn state old → IsBusIn state new
stays_bus old new state same is =
    subst (λ (b : BusView). IsBusIn state b) (sym same)
    (ap (λ (b : BusView). record b { card = new.card; faults = new.faults }) is)

-- One of its exchanges is a step of the host.
stepped : (Step : BusView → BusView → Type 0) (old new : BusView) (state next told : HostState) → next.ios ≡ state.ios
    → next ≡ told → IsBusIn state old → OneStep old (Step old new) new
    → Where (host_at new next)
    (Steps (host_at old state) told (Step (bus_of (host_at old state)) (bus_of (host_at new next))) (host_at new next))
stepped Step old new state next told lines is_told is s kept =
    let at : IsBusIn state new = stays_bus old new state s.same is in
    let there : new ≡ bus_of (host_at new next) = rw lines at in
    record {
      state = is_told;
      limits = ap (λ (b : BusView). b.limits) s.same;
      step = subst (λ (b : BusView). Kept b (Step b (bus_of (host_at new next))) (bus_of (host_at new next))) is
          (subst (λ (b : BusView). Kept old (Step old b) b) there s.step);
    }

-- Reads.

one_read : (old new : BusView) (state next : HostState) (got : DataIn) (left : List ℕ) → next.ios ≡ state.ios
    → next ≡ block_passed state (is_good got) → IsBusIn state old → BlockRead old got left new
    → HostRead (host_at old state) got left (host_at new next)
one_read old new state next got left lines is_next is read =
    stepped (λ a b. ReadStep a 512 got left b) old new state next (block_passed state (is_good got)) lines is_next is read

-- these are the first so many blocks that came
abbrev AreRead : List (List ℕ) → BusView → ℕ → BusView → Type 0
AreRead blocks between zero view = view ≡ between
AreRead blocks between (suc done) view =
    (before : BusView) × AreRead blocks between done before × BlockRead before Good (slice_index_or blocks done []) view

-- a block that is left is there, and no other has changed
left_there : (before : List (List ℕ)) (done : ℕ) (left : List ℕ) → done < length before
    → slice_index_or (slice_set before done left) done [] ≡ left
left_there before done left below = get_or-set_same before done left [] below

others_there : (before : List (List ℕ)) (done i : ℕ) (left : List ℕ) → i < done
    → slice_index_or (slice_set before done left) i [] ≡ slice_index_or before i []
others_there before done i left less = get_or-set_other before done i left [] (λ same. omega (arith, less, same))

abbrev Agree : ℕ → List (List ℕ) → List (List ℕ) → Type 0
Agree k one other = (i : ℕ) → i < k → slice_index_or one i [] ≡ slice_index_or other i []

agree_before : (done : ℕ) (before now end : List (List ℕ)) (left : List ℕ) → now ≡ slice_set before done left
    → Agree (suc done) now end → Agree done before end
agree_before done before now end left is agree i less =
    sym (others_there before done i left less) ∙ ap (λ xs. slice_index_or xs i []) (sym is) ∙ agree i (omega (arith, less))

agree_at : (done : ℕ) (before now end : List (List ℕ)) (left : List ℕ) → done < length before
    → now ≡ slice_set before done left → Agree (suc done) now end → left ≡ slice_index_or end done []
agree_at done before now end left below is agree =
    sym (left_there before done left below) ∙ ap (λ xs. slice_index_or xs done []) (sym is) ∙ agree done (omega arith)

module _ (between : BusView) (was : List (List ℕ)) where
  are_read : (end : List (List ℕ)) (k : ℕ) (view : BusView) (now : List (List ℕ))
      → AreGood BlockRead (λ places. places) slice_set between was k view now → Agree k now end
      → AreRead end between k view
  are_read end k view now none_good agree = refl
  are_read end k view now (good_one done before held left next all below long read) agree = (
    before,
    are_read end done before held all (agree_before done held (slice_set held done left) end left refl agree),
    subst (λ bytes. BlockRead before Good bytes next)
        (agree_at done held (slice_set held done left) end left below refl agree) read,
  )

module _ (between : BusView) (state : HostState) (is : IsBusIn state between) where
  bus_read : (end : List (List ℕ)) (k : ℕ) (view : BusView) → AreRead end between k view → IsBusIn (passed k state) view
  bus_read end zero view read = subst (λ (b : BusView). IsBusIn state b) (sym read) is
  bus_read end (suc done) view read = stays_bus read.0 view (passed done state) read.2.same (bus_read end done read.0 read.1)

  module _ {S : Type 0} (blocks : S → List (List ℕ)) (leave : S → ℕ → List ℕ → S) (one : WritesOne blocks leave) (was : S) where
    -- Some came, whatever they were.
    record Some (k : ℕ) (view : BusView) : Type 0 where
      now : S
      good : AreGood HostRead blocks leave (host_at between state) was k (host_at view (passed k state)) now
      count : length (blocks now) ≡ length (blocks was)
      bus : IsBusIn (passed k state) view

    some_came : (places : List (List ℕ)) → length places ≡ length (blocks was) → (k : ℕ) (view : BusView)
        (now : List (List ℕ)) → AreGood BlockRead (λ places. places) slice_set between places k view now → Some k view
    some_came places full k view now none_good = record { now = was; good = none_good; count = refl; bus = is }
    some_came places full k view now (good_one done from held left next all below long read) =
        let so_far = some_came places full done from held all in
        let same = good_count between places (λ s i x b l. refl) done from held all in
        let count = so_far.count in
        let inside : done < length (blocks so_far.now) = omega (arith, below, same, full, count) in
        let kept = good_count (host_at between state) was one (suc done) _ _
        (good_one done (host_at from (passed done state)) so_far.now left (host_at next (passed (suc done) state)) so_far.good
        inside long (one_read from next (passed done state) (passed (suc done) state) Good left refl refl so_far.bus read)) in
        record {
          now = leave so_far.now done left;
          good = good_one done (host_at from (passed done state)) so_far.now left (host_at next (passed (suc done) state))
              so_far.good inside long
              (one_read from next (passed done state) (passed (suc done) state) Good left refl refl so_far.bus read);
          count = kept;
          bus = stays_bus from next (passed done state) read.same so_far.bus;
        }

    module _ {V : Type 0} {Drives : V → DataIn → List ℕ → V → Type 0} (first : V) where
      -- The driver has left the blocks that came.
      follows : (end : List (List ℕ)) (k : ℕ) (driver : V) (now : S) → AreGood Drives blocks leave first was k driver now
          → Agree k (blocks now) end → (view : BusView) → AreRead end between k view
          → AreGood HostRead blocks leave (host_at between state) was k (host_at view (passed k state)) now
      follows end k driver now none_good agree view read =
          subst (λ (b : BusView). AreGood HostRead blocks leave (host_at between state) was 0 (host_at b state) was) (sym read)
          none_good
      follows end k driver now (good_one done from held left next all below long drove) agree view read =
          let wrote = one held done left below long in
          good_one done (host_at read.0 (passed done state)) held left (host_at view (passed (suc done) state))
          (follows end done from held all (agree_before done (blocks held) (blocks (leave held done left)) end left wrote agree)
          read.0 read.1) below long
          (one_read read.0 view (passed done state) (passed (suc done) state) Good left refl refl (bus_read end done read.0 read.1)
          (subst (λ bytes. BlockRead read.0 Good bytes view)
          (sym (agree_at done (blocks held) (blocks (leave held done left)) end left below wrote agree)) read.2))

      -- What came is what the driver has left, or none came, and what it has left is open.
      good_read : (places held : List (List ℕ)) (moved : Moved DataIn) (driver : V) (now : S) (good : ℕ) (next : BusView)
          → ReadOn Drives blocks leave first was moved driver now → moved ≡ Move.Good good
          → AreGood BlockRead (λ places. places) slice_set between places good next held → held ≡ blocks now
          → ReadOn HostRead blocks leave (host_at between state) was (Move.Good good) (host_at next (passed good state)) now
      good_read places held moved driver now good next (reads done last left drove) is all same =
          let is_all : AreGood Drives blocks leave first was good last left =
          subst (λ n. AreGood Drives blocks leave first was n last left) (let e : done ≡ good = cc in e) drove in
          reads good (host_at next (passed good state)) left
          (follows held good last left is_all (λ i less. ap (λ xs. slice_index_or xs i []) (sym same)) next
          (are_read between places held good next held all (λ i less. refl)))
      good_read places held moved driver now good next (reads_nothing left lent) is none_good same = reads_nothing left lent
      good_read places held moved driver now good next (reads_nothing left lent) is
          (good_one done from before bytes after all below long read) same =
          cc
      good_read places held moved driver now good next
          (reads_none some at before last got left after all below long not read lent) is came same =
          cc

      pub kept_read : (places : List (List ℕ)) (moved : Moved DataIn) (driver : V) (now : S)
          → ReadOn Drives blocks leave first was moved driver now → (view : BusView) (end : List (List ℕ))
          → ReadOn BlockRead (λ places. places) slice_set between places moved view end → end ≡ blocks now
          → ReadOn HostRead blocks leave (host_at between state) was moved (host_at view (passed_on moved state)) now
      kept_read places moved driver now drove view end (reads good next held all) same =
          good_read places held _ driver now good next drove refl all same
      kept_read places moved driver now drove view end (reads_nothing held lent) same =
          reads_nothing now (read_lent first was one _ driver now drove)
      kept_read places moved driver now drove view end
          (reads_none some at held last got left next all below long not read lent) same =
          let counts = read_count first was one _ driver now drove in
          let counted = read_count between places (λ s i x b l. refl) _ next last
          (reads_none some at held last got left next all below long not read lent) in
          let ends = ap (λ (xs : List (List ℕ)). length xs) same in
          let full : length places ≡ length (blocks was) = omega (arith, counts, counted, ends) in
          let so_far = some_came places full some at held all in
          let held_count = good_count between places (λ s i x b l. refl) some at held all in
          let count = so_far.count in
          reads_none some (host_at at (passed some state)) so_far.now now got left (host_at next (block_passed state false))
          so_far.good (omega (arith, below, held_count, full, count)) long not
          (one_read at next (passed some state) (block_passed state false) got left refl
          (sym (ap (block_passed (passed some state)) (is_other_in got not))) so_far.bus read)
          (read_lent first was one _ driver now drove)

-- Where the story isn't true nothing has to be shown.
module _ (host : HostView) (unkept : host.is_kept ≡ false) where
  nothing : {A : Type 0} → host.is_kept ≡ true → A
  nothing kept = absurd (false≢true (sym unkept ∙ kept))

  any_good : {S V : Type 0} {blocks : S → List (List ℕ)} {leave : S → ℕ → List ℕ → S}
      {Drives : V → DataIn → List ℕ → V → Type 0} (first : V) (was : S) (k : ℕ) (driver : V) (now : S)
      → AreGood Drives blocks leave first was k driver now → AreGood HostRead blocks leave host was k host now
  any_good first was k driver now none_good = none_good
  any_good first was k driver now (good_one done from held left next all below long drove) =
      good_one done host held left host (any_good first was done from held all) below long (λ kept. nothing kept)

  any_read : {S V : Type 0} {blocks : S → List (List ℕ)} {leave : S → ℕ → List ℕ → S}
      {Drives : V → DataIn → List ℕ → V → Type 0} (first : V) (was : S) (moved : Moved DataIn) (driver : V) (now : S)
      → ReadOn Drives blocks leave first was moved driver now → ReadOn HostRead blocks leave host was moved host now
  any_read first was moved driver now (reads good next held all) = reads good host held (any_good first was good next held all)
  any_read first was moved driver now (reads_nothing held lent) = reads_nothing held lent
  any_read first was moved driver now (reads_none some at held last got left next all below long not read lent) =
      reads_none some host held last got left host (any_good first was some at held all) below long not (λ kept. nothing kept)
      lent

  any_rested : (k : ℕ) → RestsAfter HostRested k host host
  any_rested zero = refl
  any_rested (suc k) = λ kept. nothing kept

  any_accepted : {V : Type 0} {Writes : V → List ℕ → DataOut → V → Type 0} {Rests : V → V → Type 0}
      {blocks : List (List ℕ)} (first : V) (k : ℕ) (view : V) → AreAccepted Writes Rests blocks first k view
      → AreAccepted WritesBlock HostRested blocks host k host
  any_accepted first k view none_accepted = none_accepted
  any_accepted first k view (accepted_one done from ready next all rests below written) =
      accepted_one done host host host (any_accepted first done from all) (any_rested done) below
      (λ kept. nothing kept)

  any_written : {V : Type 0} {Writes : V → List ℕ → DataOut → V → Type 0} {Rests : V → V → Type 0}
      {blocks : List (List ℕ)} (first : V) (moved : Moved DataOut) (view : V) → WrittenOn Writes Rests blocks first moved view
      → WrittenOn WritesBlock HostRested blocks host moved host
  any_written first moved view (writes good next all) = writes good host (any_accepted first good next all)
  any_written first moved view (writes_none some at ready got next all rests below not written) =
      writes_none some host host got host (any_accepted first some at all) (any_rested some) below not
      (λ kept. nothing kept)

-- Writes.

module _ (blocks : List (List ℕ)) (between : BusView) (state : HostState) (is : IsBusIn state between) where
  rested : (k : ℕ) (view ready : BusView) → RestsAfter FoundAtRest k view ready → IsBusIn (passed k state) view
      → RestsAfter HostRested k (host_at view (passed k state)) (host_at ready (passed k state))
      × IsBusIn (passed k state) ready
  rested zero view ready rests at = (
    ap (λ (b : BusView). host_at b state) rests,
    subst (λ (b : BusView). IsBusIn state b) (sym rests) at,
  )
  rested (suc k) view ready rests at = (
    stepped (λ a b. PollStep a false b) view ready (passed (suc k) state) (passed (suc k) state) (passed (suc k) state) refl refl
        at rests,
    stays_bus view ready (passed (suc k) state) rests.same at,
  )

  one_written : (old new : BusView) (before next : HostState) (got : DataOut) (bytes : List ℕ) → next.ios ≡ before.ios
      → next ≡ block_passed before (is_accepted got) → IsBusIn before old → BlockWritten old bytes got new
      → WritesBlock (host_at old before) bytes got (host_at new next)
  one_written old new before next got bytes lines is_next at written =
      stepped (λ a b. WriteStep a bytes got b) old new before next (block_passed before (is_accepted got)) lines is_next at
      written

  were_accepted : (k : ℕ) (view : BusView) → AreAccepted BlockWritten FoundAtRest blocks between k view
      → AreAccepted WritesBlock HostRested blocks (host_at between state) k (host_at view (passed k state))
      × IsBusIn (passed k state) view
  were_accepted k view none_accepted = (none_accepted, is)
  were_accepted k view (accepted_one done from ready next all rests below written) =
      let so_far = were_accepted done from all in
      let rest = rested done from ready rests so_far.1 in (
        accepted_one done (host_at from (passed done state)) (host_at ready (passed done state))
            (host_at next (passed (suc done) state)) so_far.0 rest.0 below
            (one_written ready next (passed done state) (passed (suc done) state) _ _ refl refl rest.1 written),
        stays_bus ready next (passed done state) written.same rest.1,
      )

  pub kept_written : (moved : Moved DataOut) (view : BusView) → WrittenOn BlockWritten FoundAtRest blocks between moved view
      → WrittenOn WritesBlock HostRested blocks (host_at between state) moved (host_at view (passed_on moved state))
  kept_written moved view (writes good next all) =
      writes good (host_at next (passed good state)) (were_accepted good next all).0
  kept_written moved view (writes_none some at ready got next all rests below not written) =
      let so_far = were_accepted some at all in
      let rest = rested some at ready rests so_far.1 in
      writes_none some (host_at at (passed some state)) (host_at ready (passed some state)) got
      (host_at next (block_passed state false)) so_far.0 rest.0 below not
      (one_written ready next (passed some state) (block_passed state false) got _ refl
      (sym (ap (block_passed (passed some state)) (is_other_out got not))) rest.1 written)

-- The whole call.

pub reads_told : {S : Type 0} (blocks : S → List (List ℕ)) (leave : S → ℕ → List ℕ → S) (one : WritesOne blocks leave)
    (story : Story) (command : HostCommand) (heard : Result Heard ResponseFault) (moved : Moved DataIn) (was now : S)
    (driver left : HostView) → ReadsWith blocks leave driver command was heard moved now left
    → (past : List Entry) (state : HostState) (limits : Lines) (o : Bool)
    → (story.outcome (record { told = state; limits = limits; event = ReadWith command heard moved (blocks now) } ∷ past)).conformed
    ≡ o
    → ReadsWith blocks leave (host_with (story.outcome past) state limits) command was heard moved now
    (host_with (story.outcome (record { told = state; limits = limits; event = ReadWith command heard moved (blocks now) } ∷ past))
    (passed_on moved (sent state command (is_ok heard))) limits)
reads_told blocks leave one story command heard moved was now driver left drove past state limits false said =
    let entry : Entry = record { told = state; limits = limits; event = ReadWith command heard moved (blocks now) } in
    let new = host_with (story.outcome (entry ∷ past)) (passed_on moved (sent state command (is_ok heard))) limits in
    record {
      between = new;
      sent = λ kept. nothing new said kept;
      read = any_read new said drove.between was moved left now drove.read;
    }
reads_told blocks leave one story command heard moved was now driver left drove past state limits true said =
    let entry : Entry = record { told = state; limits = limits; event = ReadWith command heard moved (blocks now) } in
    let step = story.explains entry past said in
    let t : ReadsTogether (bus_of (host_with (story.outcome past) state limits)) command heard moved (blocks now)
    (bus_of (host_with (story.outcome (entry ∷ past)) state limits)) = step.step in
    let told = sent state command (is_ok heard) in
    let old = bus_of (host_with (story.outcome past) state limits) in
    record {
      between = host_at t.between told;
      sent = stepped (λ a b. Answers a command.index command.argument (answer_heard command.response command.index heard) b)
          old t.between state told told refl refl refl t.answered;
      read = kept_read t.between told (stays_bus old t.between state t.answered.same refl) blocks leave one was drove.between t.was
          moved left now drove.read (bus_of (host_with (story.outcome (entry ∷ past)) state limits)) (blocks now) t.read refl;
    }

pub writes_told : (blocks : List (List ℕ)) (story : Story) (command : HostCommand) (heard : Result Heard ResponseFault)
    (moved : Moved DataOut) (driver left : HostView) → WritesWith driver command blocks heard moved left
    → (past : List Entry) (state : HostState) (limits : Lines) (o : Bool)
    → (story.outcome (record { told = state; limits = limits; event = WrittenWith command heard blocks moved } ∷ past)).conformed
    ≡ o
    → WritesWith (host_with (story.outcome past) state limits) command blocks heard moved
    (host_with (story.outcome (record { told = state; limits = limits; event = WrittenWith command heard blocks moved } ∷ past))
    (passed_on moved (sent state command (is_ok heard))) limits)
writes_told blocks story command heard moved driver left drove past state limits false said =
    let entry : Entry = record { told = state; limits = limits; event = WrittenWith command heard blocks moved } in
    let new = host_with (story.outcome (entry ∷ past)) (passed_on moved (sent state command (is_ok heard))) limits in
    record {
      between = new;
      sent = λ kept. nothing new said kept;
      unheard = drove.unheard;
      written = any_written new said drove.between moved left drove.written;
    }
writes_told blocks story command heard moved driver left drove past state limits true said =
    let entry : Entry = record { told = state; limits = limits; event = WrittenWith command heard blocks moved } in
    let step = story.explains entry past said in
    let t : WritesTogether (bus_of (host_with (story.outcome past) state limits)) command heard blocks moved
    (bus_of (host_with (story.outcome (entry ∷ past)) state limits)) = step.step in
    let told = sent state command (is_ok heard) in
    let old = bus_of (host_with (story.outcome past) state limits) in
    record {
      between = host_at t.between told;
      sent = stepped (λ a b. Answers a command.index command.argument (answer_heard command.response command.index heard) b)
          old t.between state told told refl refl refl t.answered;
      unheard = drove.unheard;
      written = kept_written blocks t.between told (stays_bus old t.between state t.answered.same refl) moved
          (bus_of (host_with (story.outcome (entry ∷ past)) state limits)) t.written;
    }

-- as it was noted
pub read_noted : {S : Type 0} (blocks : S → List (List ℕ)) (leave : S → ℕ → List ℕ → S) (one : WritesOne blocks leave)
    (story : Story) (command : HostCommand) (heard : Result Heard ResponseFault) (moved : Moved DataIn) (was now : S)
    (driver left : HostView) → ReadsWith blocks leave driver command was heard moved now left
    → (past noted : List Entry) (state new : HostState) (limits new_limits : Lines) (seen : List (List ℕ)) → seen ≡ blocks now
    → noted ≡ record { told = state; limits = limits; event = ReadWith command heard moved seen } ∷ past
    → new ≡ passed_on moved (sent state command (is_ok heard)) → new_limits ≡ limits
    → ReadsWith blocks leave (host_with (story.outcome past) state limits) command was heard moved now
    (host_with (story.outcome noted) new new_limits)
read_noted blocks leave one story command heard moved was now driver left drove past noted state new limits new_limits seen s p q l =
    rw p (rw q (rw l (rw s (reads_told blocks leave one story command heard moved was now driver left drove past state limits _ refl))))

pub write_noted : (blocks : List (List ℕ)) (story : Story) (command : HostCommand) (heard : Result Heard ResponseFault)
    (moved : Moved DataOut) (driver left : HostView) → WritesWith driver command blocks heard moved left
    → (past noted : List Entry) (state new : HostState) (limits new_limits : Lines) (seen : List (List ℕ)) → seen ≡ blocks
    → noted ≡ record { told = state; limits = limits; event = WrittenWith command heard seen moved } ∷ past
    → new ≡ passed_on moved (sent state command (is_ok heard)) → new_limits ≡ limits
    → WritesWith (host_with (story.outcome past) state limits) command blocks heard moved
    (host_with (story.outcome noted) new new_limits)
write_noted blocks story command heard moved driver left drove past noted state new limits new_limits seen s p q l =
    rw p (rw q (rw l (rw s (writes_told blocks story command heard moved driver left drove past state limits _ refl))))

-- A driver that is kept was kept before.

back_over : {S : Type 0} {blocks : S → List (List ℕ)} {leave : S → ℕ → List ℕ → S} (between : HostView) (was : S) (k : ℕ)
    (new : HostView) (now : S) → AreGood HostRead blocks leave between was k new now → new.is_kept ≡ true
    → between.is_kept ≡ true
back_over between was k new now none_good kept = kept
back_over between was k new now (good_one done from held left next all below long read) kept =
    back_over between was done from held all (read kept).step.was_kept

after_read : {S : Type 0} {blocks : S → List (List ℕ)} {leave : S → ℕ → List ℕ → S} (between : HostView) (was : S)
    (moved : Moved DataIn) (new : HostView) (now : S) → ReadOn HostRead blocks leave between was moved new now
    → new.is_kept ≡ true → between.is_kept ≡ true
after_read between was moved new now (reads good next held all) kept = back_over between was good next held all kept
after_read between was moved new now (reads_nothing held lent) kept = kept
after_read between was moved new now (reads_none some at held last got left next all below long not read lent) kept =
    back_over between was some at held all (read kept).step.was_kept

pub before_reads : {S : Type 0} {blocks : S → List (List ℕ)} {leave : S → ℕ → List ℕ → S} (old : HostView)
    (command : HostCommand) (was : S) (heard : Result Heard ResponseFault) (moved : Moved DataIn) (now : S) (new : HostView)
    → ReadsWith blocks leave old command was heard moved now new → new.is_kept ≡ true → old.is_kept ≡ true
before_reads old command was heard moved now new r kept =
    (r.sent (after_read r.between was moved new now r.read kept)).step.was_kept

back_rested : (k : ℕ) (view ready : HostView) → RestsAfter HostRested k view ready → ready.is_kept ≡ true
    → view.is_kept ≡ true
back_rested zero view ready rests kept = subst (λ (v : HostView). v.is_kept ≡ true) rests kept
back_rested (suc k) view ready rests kept = (rests kept).step.was_kept

back_accepted : {blocks : List (List ℕ)} (between : HostView) (k : ℕ) (new : HostView)
    → AreAccepted WritesBlock HostRested blocks between k new → new.is_kept ≡ true → between.is_kept ≡ true
back_accepted between k new none_accepted kept = kept
back_accepted between k new (accepted_one done from ready next all rests below written) kept =
    back_accepted between done from all (back_rested done from ready rests (written kept).step.was_kept)

after_written : {blocks : List (List ℕ)} (between : HostView) (moved : Moved DataOut) (new : HostView)
    → WrittenOn WritesBlock HostRested blocks between moved new → new.is_kept ≡ true → between.is_kept ≡ true
after_written between moved new (writes good next all) kept = back_accepted between good next all kept
after_written between moved new (writes_none some at ready got next all rests below not written) kept =
    back_accepted between some at all (back_rested some at ready rests (written kept).step.was_kept)

pub before_writes : {blocks : List (List ℕ)} (old : HostView) (command : HostCommand) (heard : Result Heard ResponseFault)
    (moved : Moved DataOut) (new : HostView) → WritesWith old command blocks heard moved new → new.is_kept ≡ true
    → old.is_kept ≡ true
before_writes old command heard moved new w kept =
    (w.sent (after_written w.between moved new w.written kept)).step.was_kept
