-- A block of a read, received from the card.
use Rattle.std.proofs.Common.{◌&&◌, ◌+◌, ◌-◌, ◌<◌, ◌∙◌, ◌∷◌, ◌≡◌, ◌⊎◌, Bool, List, [], ap, arith, false, inl, inr}
use Rattle.std.proofs.Common.{length, refl, subst, suc, sym, true, zero, ℕ}
use Rattle.std.proofs.lemmas.Bool.{cases_lt, eq-eqb}
use Rattle.std.proofs.lemmas.Bool.Decides.{nat_tests}
use Rattle.std.proofs.lemmas.List.{get_or-set_other, get_or-set_same, length-set}
use Rattle.std.specs.Prelude.{◌==◌, Err, IsErr, IsOk, None, Ok, Option, Result, Some, bit_or, if◌then◌else◌, nat_lt}
use Rattle.std.specs.Prelude.{slice_index_or, slice_set}
use Rattle.mmc_frame.specs.declared.card_state.State.{State}
use Rattle.mmc_frame.specs.declared.card_state.State.TheVariants.{Data, Tran}
use Rattle.mmc_card.proofs.Narrow.{sends_data}
use Rattle.mmc_card.proofs.SectorLemmas.{at_in, cond_in_old, old_maybe}
use Rattle.mmc_card.proofs.Standing.{up_in}
use Rattle.mmc_card.specs.Blocks.{can_send, is_last, is_none, is_of_length, next_block, sent, sent_from}
use Rattle.mmc_card.specs.BusView.{BusView}
use Rattle.mmc_card.specs.Card.{AreBlocks, Card, FromSectors, holds, is_in, is_selected, known, stored, unfinished}
use Rattle.mmc_card.specs.CardAnswer.{Choice}
use Rattle.mmc_card.specs.ErrorBits.{out_of_range}
use Rattle.mmc_card.specs.Sectors.{AreRead, Sector, Within, maybe_changed, touches, value_of}
use Rattle.mmc_bus.specs.declared.cause.Cause.{Cause}
use Rattle.mmc_bus.specs.Work.{Narrows, Worked}
use Rattle.mmc_switch.proofs.UnderWayLemmas.{goes_there, has_failed, knows_then, lines_in, part_in, quiet_by, ready_again}
use Rattle.mmc_switch.proofs.UnderWayLemmas.{room_is, stands_then}
use Rattle.mmc_switch.specs.Place.{IsReady}
use Rattle.mmc_switch.specs.Turns.{LeftIn}
use Rattle.mmc_switch.specs.UnderWay.{IsQuiet, faults_then, part_of, room_of}
use Rattle.mmc_transfer.proofs.GiveLemmas.{below, last_is, left_then}
use Rattle.mmc_transfer.specs.declared.job.Job.{Job}
use Rattle.mmc_transfer.specs.declared.phase.Phase.{Phase}
use Rattle.mmc_transfer.specs.declared.phase.Phase.TheVariants.{Block, Other}
use Rattle.mmc_transfer.specs.declared.phase.Step.TheVariants.{Command, End, Pause, Preset, Stop}
use Rattle.mmc_transfer.specs.declared.way.Way.{Way}
use Rattle.mmc_transfer.specs.declared.way.Way.TheVariants.{Read, Write}
use Rattle.mmc_transfer.specs.Moves.{after_read}
use Rattle.mmc_switch.specs.Ending.{IsSound}
use Rattle.mmc_transfer.specs.Running.{AreStored, Exact, GoesOnAt, HasEffect, IsIn, IsPlaced, IsSending, IsThere}
use Rattle.mmc_transfer.specs.Running.{ReadExact}
use Rattle.mmc_switch.specs.UnderWay.{IsCarriedOut}
use Rattle.mmc_transfer.specs.Running.{Shown, Turned, WriteExact, by_way, change_of, is_counted}

-- what receiving a block of this size does
abbrev pub Received : ℕ → Sector → Result Unit Cause → BusView → BusView → Type 0
Received size bytes r =
    Worked Narrows
    (λ old new. IsOk r → (can_send old.lines size old.card ≡ true) × (next_block old.card ≡ Some bytes)
    × ((choice : Choice) × (new.card ≡ sent choice old.card)))
    (λ old new. can_send old.lines size old.card ≡ true → old.card.is_busy ≡ false → IsOk r)

-- What holds of a read.
of_read : (way : Way) (P Q : Type 0) → way ≡ Read → by_way way P Q → P
of_read Read P Q is h = h
of_read Write P Q is h = cc

to_read : (way : Way) (P Q : Type 0) → way ≡ Read → P → by_way way P Q
to_read Read P Q is h = h
to_read Write P Q is h = cc

-- A stored sector has 512 bytes.
block_size : (xs : List Sector) (i : ℕ) → AreBlocks xs → i < length xs → length (slice_index_or xs i []) ≡ 512
block_size [] i all h = absurd (omega (arith, h))
block_size (x ∷ xs) zero all h = all.0.len
block_size (x ∷ xs) (suc i) all h = block_size xs i all.1 (omega (arith, h))

same_some : {X : Type 0} (x y : X) → Some x ≡ Some y → x ≡ y
same_some x y h = cc

can_by : (state : State) (fit whole : Bool) → state ≡ Data → fit ≡ true → whole ≡ true
    → (is_in state Data && (fit && whole)) ≡ true
can_by state fit whole is fits all = rw (is, fits, all) refl

-- Whether a block was the last one, by the tests that follow it.
none_by : (b : Bool) (n : ℕ) → is_none (if b then Some n else None) ≡ true → b ≡ false
none_by true n h = cc
none_by false n h = refl

some_by : (b : Bool) (n : ℕ) → b ≡ true → is_none (if b then Some n else None) ≡ false
some_by true n is = refl
some_by false n is = cc

not_yet : (n m : ℕ) (b : Bool) → nat_lt n m ≡ true → ((n == m) && b) ≡ false
not_yet n m b less = grind (arith, nat_tests)

at_end : (done count : ℕ) → done < count → nat_lt (done + 1) count ≡ false → done + 1 ≡ count
at_end done count more all = grind (arith, nat_tests)

at_last : (n m : ℕ) (b : Bool) → n ≡ m → b ≡ true → ((n == m) && b) ≡ true
at_last n m b all is = grind (arith, nat_tests)

uncounted : (b c : Bool) → c ≡ false → (b && c) ≡ false
uncounted true c is = is
uncounted false c is = refl

-- Error bits after a block: none, or OUT_OF_RANGE after the last sector of an uncounted read.
errors_by : (none says last counted : Bool) (errors : ℕ) (Ends : Type 0) → errors ≡ 0
    → (none ≡ true → counted ≡ false) → (last ≡ true → Ends)
    → (bit_or errors (if none && (says && last) then out_of_range else 0) ≡ 0)
    ⊎ ((counted ≡ false) × Ends × (bit_or errors (if none && (says && last) then out_of_range else 0) ≡ out_of_range))
errors_by true true true counted errors Ends clear f g = inr (f refl, g refl, rw clear refl)
errors_by true true false counted errors Ends clear f g = inl (rw clear refl)
errors_by true false last counted errors Ends clear f g = inl (rw clear refl)
errors_by false says last counted errors Ends clear f g = inl (rw clear refl)

no_errors : (none b : Bool) (errors : ℕ) → errors ≡ 0 → none ≡ false
    → bit_or errors (if none && b then out_of_range else 0) ≡ 0
no_errors none b errors clear is = rw (clear, is) refl

module _ (job : Job) (blocks news : List Sector) (done faults : ℕ) (bytes : Sector) (way : job.way ≡ Read)
    (more : done < job.count) (full : length blocks ≡ job.count) (long : length bytes ≡ 512)
    (sets : done < length blocks → length bytes ≡ 512 → news ≡ slice_set blocks done bytes) where
  -- The buffer with the block in it.
  within_blocks : done < length blocks
  within_blocks = omega (arith, more, full)

  is_set : news ≡ slice_set blocks done bytes
  is_set = sets within_blocks long

  news_length : length news ≡ job.count
  news_length = ap length is_set ∙ length-set blocks done bytes ∙ full

  -- it has one block more of those that are stored
  stored_next : (card after : Card) → stored after (part_of job.session) ≡ stored card (part_of job.session)
      → bytes ≡ slice_index_or (stored card (part_of job.session)) (job.start + done) []
      → AreStored done job blocks card → AreStored (done + 1) job news after
  stored_next card after same came read i h =
      ap (λ xs. slice_index_or xs i []) is_set
      ∙ elim (cases_lt i done) [
        | inl less ↦ get_or-set_other blocks done i bytes [] (omega (arith, less)) ∙ read i less
        | inr least ↦
            (let last : i ≡ done = omega (arith, least, h) in
            ap (λ j. slice_index_or (slice_set blocks done bytes) j []) last
            ∙ get_or-set_same blocks done bytes [] within_blocks ∙ came
            ∙ ap (λ j. slice_index_or (stored card (part_of job.session)) (job.start + j) []) (sym last))
      ]
      ∙ ap (λ xs. slice_index_or xs (job.start + i) []) (sym same)

  -- The card that has sent it.
  module _ (card : Card) (choice : Choice) (x : IsSending done job blocks card)
      (size : length (stored card card.part) ≡ room_of job.session)
      (came : bytes ≡ slice_index_or (stored card (part_of job.session)) (job.start + done) []) where
    -- so far it had no error to show, since blocks were to come
    clear : card.errors ≡ 0
    clear =
        let inside = job.inside in
        elim x.errors [
          | inl none ↦ none
          | inr ends ↦ (let place = ends.1 in absurd (omega (arith, place, inside, more)))
        ]

    abbrev after : Card
    after = sent_from FromSectors choice card

    is_after : sent choice card ≡ after
    is_after = ap (λ source. sent_from source choice card) x.source

    read_after : AreStored (done + 1) job news after
    read_after = stored_next card after refl came x.read

    -- it sends on
    sends_on : is_last card.left ≡ false → IsSending (done + 1) job news (sent choice card)
    sends_on last =
        let next = x.next in
        subst (IsSending (done + 1) job news) (sym is_after) (record {
          quiet = quiet_by (ap (λ b. if b then Tran else Data) last) x.quiet.app x.quiet.command_errors refl x.quiet.switch_error x.quiet.count x.quiet.erase;
          rests = x.rests;
          up_to_date = x.up_to_date;
          errors = errors_by (is_none card.left) choice.says_end (card.next + 1 == length (stored card card.part))
              (is_counted job) card.errors (job.start + (done + 1) ≡ room_of job.session) clear
              (λ none. none_by (is_counted job) (job.count - done) (sym (ap is_none x.left) ∙ none))
              (λ test. let place : card.next + 1 ≡ length (stored card card.part) = grind (arith, nat_tests) in
              omega (arith, place, next, size));
          source = x.source;
          next = omega (arith, next);
          left = left_then job done card.left x.left;
          read = read_after;
        })

    -- it is in tran, and the read is done
    has_sent : is_last card.left ≡ true → is_counted job ≡ true
        → IsQuiet Tran 0 (sent choice card) × ((sent choice card).is_busy ≡ false) × ((sent choice card).lags ≡ false)
        × AreStored (done + 1) job news (sent choice card)
    has_sent last counted =
        subst (λ c. IsQuiet Tran 0 c × (c.is_busy ≡ false) × (c.lags ≡ false) × AreStored (done + 1) job news c)
        (sym is_after) (
          quiet_by (ap (λ b. if b then Tran else Data) last) x.quiet.app x.quiet.command_errors (no_errors (is_none card.left) _ card.errors clear
              (ap is_none x.left ∙ some_by (is_counted job) (job.count - done) counted)) x.quiet.switch_error x.quiet.count x.quiet.erase,
          x.rests,
          x.up_to_date,
          read_after,
        )

  -- What is stored there is what may be read.
  are_read : (card : Card) → length (stored card (part_of job.session)) ≡ room_of job.session
      → AreStored job.count job news card → AreRead (holds card) (part_of job.session) job.start news
  are_read card size read i h =
      let part = part_of job.session in
      let whole = news_length in
      let inside = job.inside in
      cond_in_old (touches (unfinished card) part (job.start + i)) (value_of (unfinished card) (job.start + i))
      (known card part (job.start + i)) (slice_index_or news i [])
      (at_in (stored card part) (job.start + i) (slice_index_or news i []) (omega (arith, h, whole, inside, size))
      (read i (omega (arith, h, whole))))

  module _ (a b : BusView) (at : IsIn job blocks (Block done) faults a) where
    exactly : Exact job blocks (Block done) a.card → IsSending done job blocks a.card
    exactly exact = of_read job.way (ReadExact job blocks (Block done) a.card)
        (WriteExact job blocks (Block done) a.card) way exact

    size_in : length (stored a.card (part_of job.session)) ≡ room_of job.session
    size_in =
        let inside = job.inside in room_is job.session a at.under_way.is_card.sizes at.under_way.knows (omega (arith, inside, more))

    module _ (selected : is_selected a.card.state ≡ true) (x : IsSending done job blocks a.card) where
      here : a.card.part ≡ part_of job.session
      here = part_in job.session a job.selected at.under_way.stands selected

      inside_part : job.start + done < length (stored a.card (part_of job.session))
      inside_part = let inside = job.inside in let size = size_in in omega (arith, inside, size, more)

      -- what it has to send is the next sector
      comes_next : next_block a.card
          ≡ Some (slice_index_or (stored a.card (part_of job.session)) (job.start + done) [])
      comes_next =
          let source = x.source in
          let next = x.next in
          let part = here in
          let room = below _ _ inside_part in
          rw (source, next, part, room) refl

      -- and it can send it
      sends : can_send a.lines 512 a.card ≡ true
      sends =
          let state = x.quiet.state in
          let fit = lines_in job.session a job.selected at.under_way.stands selected in
          let block = comes_next in
          let whole = eq-eqb (length (slice_index_or (stored a.card (part_of job.session)) (job.start + done) [])) 512
          (block_size (stored a.card (part_of job.session)) (job.start + done)
          (at.under_way.is_card.blocks (part_of job.session)) inside_part) in
          can_by a.card.state _ _ state fit (ap (is_of_length 512) block ∙ whole)

    -- a read has no next sector to write
    read_anywhere : (phase : Phase) (card : Card) → IsPlaced job phase card
    read_anywhere (Block n) card = to_read job.way (Unit {0}) (GoesOnAt (job.start + n) card) way tt
    read_anywhere (Other Preset) card = tt
    read_anywhere (Other Command) card = tt
    read_anywhere (Other (Pause n polls)) card = to_read job.way (Unit {0}) (GoesOnAt (job.start + n) card) way tt
    read_anywhere (Other Stop) card = tt
    read_anywhere (Other (End ending)) card = tt

    -- no sector may hold more
    within : Narrows a b → Within (holds b.card) (maybe_changed (change_of job news) (holds a.card))
    within narrows part s value h = old_maybe (change_of job news) (holds a.card) part s value (narrows part s value h)

    -- The block doesn't come.
    pub take_fails : (size : ℕ) (cause : Cause) (r : Result (Option Phase) Cause) → size ≡ 512 → IsErr r
        → Received size bytes (Err cause) a b → Turned job news faults a r b
    take_fails size cause (Ok next) short err work = cc
    take_fails size cause (Err why) short err work = record {
      stays = work.stays;
      within = within work.sectors;
      left = has_failed job.session (Shown job.way (Block done)) (Exact job blocks (Block done)) faults a b at.under_way
          work
          (record { session = job.session; cause = why; must_reset = false }) refl
          (λ exact same.
          let x = exactly exact in
          cc (work.fine same (subst (λ n. can_send a.lines n a.card ≡ true) (sym short)
          (sends (ap is_selected x.quiet.state) x)) x.rests));
    }

    -- It comes, so the card is selected, and where the blocks have come to.
    module _ (size : ℕ) (work : Received size bytes (Ok tt) a b) where
      selected : is_selected a.card.state ≡ true
      selected = up_in a.card Data (sends_data a.lines size a.card (work.own refl).0) refl

      there : IsThere job.way a.card
      there = to_read job.way (is_selected a.card.state ≡ true) (IsSound a.card) way selected

      sending : IsSending done job blocks a.card
      sending = exactly (at.under_way.shown there)

      came : bytes ≡ slice_index_or (stored a.card (part_of job.session)) (job.start + done) []
      came = same_some bytes _ (sym (work.own refl).1 ∙ comes_next selected sending)

      size_here : length (stored a.card a.card.part) ≡ room_of job.session
      size_here = ap (λ p. length (stored a.card p)) (here selected sending) ∙ size_in

      last_as : (b : Bool) → ((done + 1 == job.count) && is_counted job) ≡ b → is_last a.card.left ≡ b
      last_as b test = last_is job done a.card.left more sending.left ∙ test

      sent_on : (done + 1 == job.count) && is_counted job ≡ false → IsSending (done + 1) job news b.card
      sent_on test =
          subst (IsSending (done + 1) job news) (sym (work.own refl).2.1)
          (sends_on a.card (work.own refl).2.0 sending size_here came (last_as false test))

      -- the run goes on in a phase in which the card is so
      on : (phase : Phase) → ReadExact job news phase b.card → IsIn job news phase (faults_then faults a b) b
      on phase exact = record {
        under_way = goes_there job.session (Shown job.way (Block done)) (Exact job blocks (Block done)) faults a b
            at.under_way work (Shown job.way phase) (Exact job news phase) there
            (λ was. to_read job.way (ReadExact job news phase b.card) (WriteExact job news phase b.card) way exact);
        placed = read_anywhere phase b.card;
      }

      -- or it is done
      all_read : done + 1 ≡ job.count → is_counted job ≡ true → IsReady job.session b × HasEffect job news b.card
      all_read all counted =
          let sent_all = has_sent a.card (work.own refl).2.0 sending size_here came
          (last_as true (at_last (done + 1) job.count (is_counted job) all counted)) counted in
          let is = (work.own refl).2.1 in
          let knows = knows_then job.session a b work.stays at.under_way.knows in
          let inside = job.inside in (
            ready_again job.session b work.is_card knows (stands_then job.session a b work.set at.under_way.stands)
                (subst (IsQuiet Tran 0) (sym is) sent_all.0) (ap (λ (c : Card). c.is_busy) is ∙ sent_all.1)
                (ap (λ (c : Card). c.lags) is ∙ sent_all.2),
            to_read job.way (AreRead (holds b.card) (part_of job.session) job.start news) (IsCarriedOut (change_of job news) b.card)
                way
                (are_read b.card (room_is job.session b work.is_card.sizes knows (omega (arith, inside, more)))
                (subst (λ n. AreStored n job news b.card) all
                (subst (AreStored (done + 1) job news) (sym is) sent_all.3))),
          )

      left_by : (next counted : Bool) → nat_lt (done + 1) job.count ≡ next → is_counted job ≡ counted
          → LeftIn job.session (IsIn job news) (HasEffect job news)
          (Ok (if next then Some (Block (done + 1)) else if counted then None else Some (Other Stop)))
          (faults_then faults a b) b
      left_by true counted test is =
          on (Block (done + 1)) (sent_on (not_yet (done + 1) job.count (is_counted job) test))
      left_by false true test is = all_read (at_end done job.count more test) is
      left_by false false test is =
          on (Other Stop)
          (subst (λ n. IsSending n job news b.card) (at_end done job.count more test)
          (sent_on (uncounted (done + 1 == job.count) (is_counted job) is)))

      pub take_ends : (next : Option Phase) → next ≡ after_read job (done + 1) → Turned job news faults a (Ok next) b
      take_ends next to = record {
        stays = work.stays;
        within = within work.sectors;
        left = subst (λ n. LeftIn job.session (IsIn job news) (HasEffect job news) (Ok n) (faults_then faults a b) b) (sym to)
            (left_by (nat_lt (done + 1) job.count) (is_counted job) refl refl);
      }
