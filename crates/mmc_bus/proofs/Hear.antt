-- What a host learns, from the step that its exchange was.
use Rattle.std.proofs.Common.{◌&&◌, ◌+◌, ◌<◌, ◌∙◌, ◌≡◌, ◌≤◌, Bool, List, ap, arith, bit_or, cond, false, inl, inr, not, refl}
use Rattle.std.proofs.Common.{subst, sym, true, ℕ}
use Rattle.std.specs.Prelude.{◌==◌, ◌⊎◌, Ok, Option, Result, Some}
use Rattle.std.proofs.lemmas.Nat.{le_or_r}
use Rattle.std.specs.Int.Bits.{or_zero_r}
use Rattle.mmc_frame.specs.Frame.{command_in}
use Rattle.mmc_frame.specs.declared.card_state.State.{State}
use Rattle.mmc_frame.specs.declared.card_state.State.TheVariants.{Data, Idle, Prg, Rcv}
use Rattle.mmc_card.specs.declared.exchange.DataIn.{DataIn}
use Rattle.mmc_card.specs.declared.exchange.DataOut.{DataOut}
use Rattle.mmc_card.specs.declared.exchange.Exchange.{Exchange}
use Rattle.mmc_card.specs.declared.exchange.Exchange.TheVariants.{Command}
use Rattle.mmc_card.specs.declared.exchange.Lines.{Lines}
use Rattle.mmc_card.specs.declared.exchange.Reply.{Reply}
use Rattle.mmc_card.specs.declared.exchange.Want.{Want}
use Rattle.mmc_card.specs.Wanted.{response_to}
use Rattle.mmc_frame.specs.declared.kind.Kind.{Kind}
use Rattle.mmc_bus.specs.declared.host.Unheard.{Unheard}
use Rattle.mmc_card.proofs.CardAll.{card_showing}
use Rattle.mmc_card.proofs.Cards.{among_wider, in_state}
use Rattle.mmc_card.proofs.Conditions.{by_cond}
use Rattle.mmc_card.proofs.Steps.{after_poll, after_time}
use Rattle.mmc_card.proofs.FaultCount.{command_counts, poll_counts, read_counts, write_counts}
use Rattle.mmc_card.proofs.Narrow.{accepts_in_rcv, both}
use Rattle.mmc_card.proofs.NarrowSteps.{poll_keeps, read_keeps}
use Rattle.mmc_card.proofs.Passing.{GoesOn, accepted_before, accepts_at_rest, accepts_when_free, beside_card, block_adds, block_counts}
use Rattle.mmc_card.proofs.Passing.{block_stands, card_in_time, counts_in_time, goes_on_in_time, ignores_all, not_sent, run_in_rcv, step_counts}
use Rattle.mmc_card.proofs.Passing.{step_stands, step_switches, step_widens, still, still_in, unmoved_by_time}
use Rattle.mmc_bus.proofs.FoundLemmas.{found_none_at_all, has_found}
use Rattle.mmc_bus.proofs.Readers.{Reads, with_errors}
use Rattle.mmc_card.proofs.Standing.{poll_stands, read_stands}
use Rattle.mmc_card.specs.CardAnswer.{CardAnswer, Choice, Silent, refused, showing}
use Rattle.mmc_card.proofs.Landing.{snoc_length}
use Rattle.mmc_card.specs.Blocks.{accepted, can_send, can_accept, fallen_short, next_block, next_written, rested, sent}
use Rattle.mmc_card.specs.Blocks.{ignoring, waited, will_send}
use Rattle.mmc_card.specs.Card.{AreAmong, Card, IsCard, holds, is_in, is_selected, patience}
use Rattle.mmc_card.specs.ErrorBits.{command_error_bits, error_bits, execution_error_bits}
use Rattle.mmc_bus.specs.Exchanges.{Exchanged}
use Rattle.mmc_card.specs.Faults.{CommandStep, FallNoMore, IsFaultless, MeetsBlock, MeetsCommand, NoFault, OneFault, Passes, Replies}
use Rattle.mmc_card.specs.Faults.{WriteStep, at_once, has_failed, has_fallen_short, has_rested, has_run, outlive}
use Rattle.mmc_card.specs.Faults.{PollStep, ReadStep, brownout, fail, fail_early, faithful, fall_short}
use Rattle.mmc_card.specs.Faults.{IsRefused, busy, fail_switch, find_error, flip_command, lose_command, lose_reply}
use Rattle.mmc_card.specs.Faults.{show_errors}
use Rattle.mmc_card.specs.Faults.{lose_block, lose_status, reject, slow_inquiry, slow_status, spoil, turn_out}
use Rattle.mmc_bus.specs.Heard.{cause_of, cause_of_command}
use Rattle.mmc_card.specs.Laws.{CountsAtMost, IsStill, erased_by, is_frame_of_run, maybe_erased}
use Rattle.mmc_bus.specs.Learned.{Asked, CommandFacts, CommandMet, Faithful, HasFound, Hears, IsAccepted, Obeyed, PollFacts, ReadFacts, WriteFacts, carried_out}
use Rattle.mmc_bus.specs.Learned.{IsThereAfter, may_fail, meant, polled_to}
use Rattle.mmc_card.specs.declared.command.Command.{Command as Meaning}
use Rattle.mmc_card.specs.declared.command.Command.TheVariants.{GoIdleState}
use Rattle.mmc_card.specs.Rows.{answered, command_of, found as found_by, hindered, is_foreign, is_legal, reached, respond}
use Rattle.mmc_card.specs.Sectors.{Sector, Within}
use Rattle.mmc_card.specs.BusView.{BusView}
use Rattle.mmc_card.specs.declared.exchange.DataIn.TheVariants as Received
use Rattle.mmc_card.specs.declared.exchange.DataOut.TheVariants as Sent

-- Faults.

-- no fault in the whole is none in its parts
quiet_then : (old met new : BusView) → Passes old met → CountsAtMost 1 met new → NoFault old new → NoFault met new
quiet_then old met new passes after same =
    let before = counts_in_time old met passes in
    omega (arith, before.0, after.0, same)

-- where a fault fell, none didn't
fell : {X : Type 0} (old new : BusView) → OneFault old new → NoFault old new → X
fell old new more same = absurd (omega (arith, more, same))

-- Commands.

-- what is to be shown changes nothing of where a command is carried out
legal_showing : (left found : ℕ) (command : Meaning) (card : Card)
    → is_legal command (showing left found card) ≡ is_legal command card
legal_showing left found GoIdleState card = refl
legal_showing left found _ card = refl

-- silence is silence
silence : {X : Type 0} (answers : CardAnswer → X) (card : Card) (heard : X) → Hears answers card Silent heard
    → heard ≡ answers Silent
silence answers card heard h = h.2 ∙ ap answers h.1

-- the card that carries the command out, with what it shows besides, or finds an error
obeyed_by : {X : Type 0} (answers : CardAnswer → Result X Unheard) (choice : Choice) (left found : ℕ) (old : Card)
    (index argument : ℕ) (heard : Result X Unheard) (new : Card)
    (foreign legal none : Bool) → foreign ≡ is_foreign (meant old index) old argument
    → legal ≡ is_legal (meant old index) (showing left found old) → none ≡ (found_by choice (meant old index) == 0)
    → IsCard (showing left found old)
    → AreAmong left command_error_bits → AreAmong found error_bits → (found ≡ 0) ⊎ (new.errors ≡ 0)
    → ((x : X) → answers Silent ≡ Ok x → ⊥)
    → new ≡ (cond foreign (showing left found old, Silent)
    (cond legal (cond none (carried_out choice (showing left found old) index argument)
    (hindered (found_by choice (meant old index)) (reached choice (meant old index) (showing left found old)) index))
    (refused (reached choice (meant old index) (showing left found old)), Silent))).0
    → Hears answers old (cond foreign (showing left found old, Silent)
    (cond legal (cond none (carried_out choice (showing left found old) index argument)
    (hindered (found_by choice (meant old index)) (reached choice (meant old index) (showing left found old)) index))
    (refused (reached choice (meant old index) (showing left found old)), Silent))).1 heard
    → (x : X) → heard ≡ Ok x → Obeyed answers old index argument heard new ⊎ HasFound answers old index argument heard new
obeyed_by answers choice left found old index argument heard new true legal none f l n k among errors cleared mute card answer x h =
    absurd (mute x (sym (silence answers old heard answer) ∙ h))
obeyed_by answers choice left found old index argument heard new false true true f l n k among errors cleared mute card answer x h =
    inl (record {
      choice = choice;
      left = left;
      found = found;
      among = among;
      errors = errors;
      cleared = cleared;
      speaks = λ silent. mute x (sym (silence answers old heard (subst (λ (a : CardAnswer). Hears answers old a heard) silent answer)) ∙ h);
      own = sym f;
      legal = sym (l ∙ legal_showing left found (meant old index) old);
      card = card;
      answer = answer;
    })
obeyed_by answers choice left found old index argument heard new false true false f l n k among errors cleared mute card answer x h =
    inr (has_found answers choice left found old index argument heard new k (sym f)
    (sym (l ∙ legal_showing left found (meant old index) old)) (sym n) card answer)
obeyed_by answers choice left found old index argument heard new false false none f l n k among errors cleared mute card answer x h =
    absurd (mute x (sym (silence answers old heard answer) ∙ h))

obeyed_showing : {X : Type 0} (answers : CardAnswer → Result X Unheard) (choice : Choice) (left found : ℕ) (old : Card)
    (index argument : ℕ) (heard : Result X Unheard) (new : Card) → IsCard old → AreAmong left command_error_bits
    → AreAmong found error_bits
    → (found ≡ 0) ⊎ (new.errors ≡ 0)
    → ((x : X) → answers Silent ≡ Ok x → ⊥) → new ≡ (respond choice (showing left found old) index argument).0
    → Hears answers old (respond choice (showing left found old) index argument).1 heard
    → (x : X) → heard ≡ Ok x → Obeyed answers old index argument heard new ⊎ HasFound answers old index argument heard new
obeyed_showing answers choice left found old index argument heard new k among errors cleared mute card answer x h =
    obeyed_by answers choice left found old index argument heard new (is_foreign (meant old index) old argument)
    (is_legal (meant old index) (showing left found old)) (found_by choice (meant old index) == 0)
    refl refl refl (card_showing left found old among errors k) among errors cleared mute card answer x h

-- where nothing more is to be shown
showing_none : (card : Card) → showing 0 0 card ≡ card
showing_none card =
    ap (λ (n : ℕ). record card { command_errors = n; errors = bit_or card.errors 0 }) (or_zero_r card.command_errors)
    ∙ ap (λ (n : ℕ). record card { errors = n }) (or_zero_r card.errors)

obeyed : {X : Type 0} (answers : CardAnswer → Result X Unheard) (choice : Choice) (old : Card) (index argument : ℕ)
    (heard : Result X Unheard) (new : Card) → IsCard old
    → ((x : X) → answers Silent ≡ Ok x → ⊥) → new ≡ (respond choice old index argument).0
    → Hears answers old (respond choice old index argument).1 heard
    → (x : X) → heard ≡ Ok x → Obeyed answers old index argument heard new ⊎ HasFound answers old index argument heard new
obeyed answers choice old index argument heard new k mute card answer x h =
    let none = sym (showing_none old) in
    obeyed_showing answers choice 0 0 old index argument heard new k refl refl (inl refl) mute
    (card ∙ ap (λ (c : Card). (respond choice c index argument).0) none)
    (subst (λ (c : Card). Hears answers old (respond choice c index argument).1 heard) none answer) x h

faithfully : {X : Type 0} (answers : CardAnswer → X) (choice : Choice) (old : Card) (index argument : ℕ) (heard : X)
    (new : Card)
    → IsFaultless choice old → new ≡ (respond choice old index argument).0
    → Hears answers old (respond choice old index argument).1 heard
    → Faithful answers old index argument heard new
faithfully answers choice old index argument heard new faultless card answer =
    let obeys : (own : is_foreign (meant old index) old argument ≡ false)
    (legal : is_legal (meant old index) old ≡ true)
    → respond choice old index argument ≡ carried_out choice old index argument =
    λ own legal. rw (own, legal, found_none_at_all choice (meant old index) faultless.2) refl in
    let passes : (foreign : is_foreign (meant old index) old argument ≡ true) → respond choice old index argument
    ≡ (old, Silent) = λ foreign. rw foreign refl in
    let refuses : (own : is_foreign (meant old index) old argument ≡ false)
    (legal : is_legal (meant old index) old ≡ false)
    → respond choice old index argument ≡ (refused (reached choice (meant old index) old), Silent) =
    λ own legal. rw (own, legal) refl in
    record {
      choice = choice;
      faultless = faultless;
      obeys = λ own legal. (
        card ∙ ap (λ (x : Card × CardAnswer). x.0) (obeys own legal),
        subst (λ (x : Card × CardAnswer). Hears answers old x.1 heard) (obeys own legal) answer,
      );
      refuses = λ own legal. (
        card ∙ ap (λ (x : Card × CardAnswer). x.0) (refuses own legal),
        silence answers old heard (subst (λ (x : Card × CardAnswer). Hears answers old x.1 heard) (refuses own legal) answer),
      );
      passes = λ foreign. (
        card ∙ ap (λ (x : Card × CardAnswer). x.0) (passes foreign),
        silence answers old heard (subst (λ (x : Card × CardAnswer). Hears answers old x.1 heard) (passes foreign) answer),
      );
    }

-- the command that a frame is
card_at : (choice : Choice) (old new : Card) (frame : List ℕ) (index argument : ℕ)
    → command_in frame ≡ Some (index, argument)
    → new ≡ (answered choice old (command_in frame)).0 → new ≡ (respond choice old index argument).0
card_at choice old new frame index argument command card = card ∙ ap (λ s. (answered choice old s).0) command

heard_at : {X : Type 0} (Fits : CardAnswer → Type 0) (hears : Reply → Result X Unheard)
    (answers : CardAnswer → Result X Unheard)
    (choice : Choice) (owner old : Card) (frame : List ℕ) (index argument : ℕ) (reply : Reply) → Reads (index, argument) Fits hears answers
    → Fits (respond choice old index argument).1 → command_in frame ≡ Some (index, argument)
    → Replies owner (answered choice old (command_in frame)).1 reply
    → Hears answers owner (respond choice old index argument).1 (hears reply)
heard_at Fits hears answers choice owner old frame index argument reply reads fits command replies =
    let r = subst (λ s. Replies owner (answered choice old s).1 reply) command replies in
    (r.0, r.1, reads.whole r.0 reply (reads.said owner.made.kind _ r.0 r.1 fits) r.2)

-- of an answer that is refused nothing is heard
unheard_at : {X : Type 0} (Fits : CardAnswer → Type 0) (hears : Reply → Result X Unheard)
    (answers : CardAnswer → Result X Unheard) (choice : Choice) (old : Card) (frame : List ℕ) (index argument : ℕ) (reply : Reply)
    → Reads (index, argument) Fits hears answers → Fits (respond choice old index argument).1
    → command_in frame ≡ Some (index, argument)
    → IsRefused (command_in frame) (answered choice old (command_in frame)).1 reply → (x : X) → hears reply ≡ Ok x → ⊥
unheard_at Fits hears answers choice old frame index argument reply reads fits command refused =
    reads.refused (respond choice old index argument).1 reply fits
    (subst (λ (s : Option (ℕ × ℕ)). IsRefused s (answered choice old s).1 reply) command refused)

command_sound : {X : Type 0} (Fits : CardAnswer → Type 0) (hears : Reply → Result X Unheard)
    (answers : CardAnswer → Result X Unheard)
    (old : BusView) (frame : List ℕ) (index argument : ℕ) (reply : Reply) (new : BusView)
    → Reads (index, argument) Fits hears answers → ((left errors : ℕ) (choice : Choice) → Fits (respond choice (with_errors left errors old.card) index argument).1)
    → command_in frame ≡ Some (index, argument) → MeetsCommand old frame reply new
    → IsCard old.card → (x : X) → hears reply ≡ Ok x
    → Obeyed answers old.card index argument (hears reply) new.card ⊎ HasFound answers old.card index argument (hears reply) new.card
command_sound Fits hears answers old frame index argument reply new reads fits command
    (faithful choice patient count card spells) k x h =
    obeyed answers choice old.card index argument (hears reply) new.card k reads.mute
    (card_at choice old.card new.card frame index argument command card)
    (heard_at Fits hears answers choice old.card old.card frame index argument reply reads (fits _ _ choice) command spells) x h
command_sound Fits hears answers old frame index argument reply new reads fits command
    (lose_command count card silent) k x h =
    absurd (reads.silent x (ap hears (sym silent) ∙ h))
command_sound Fits hears answers old frame index argument reply new reads fits command
    (flip_command keeps_count count card silent) k x h =
    absurd (reads.silent x (ap hears (sym silent) ∙ h))
command_sound Fits hears answers old frame index argument reply new reads fits command
    (lose_reply choice patient count card answers_it refused) k x h =
    absurd (unheard_at Fits hears answers choice old.card frame index argument reply reads (fits _ _ choice) command refused x h)
command_sound Fits hears answers old frame index argument reply new reads fits command
    (slow_inquiry choice slow late inquiry count card spells) k x h =
    obeyed answers choice old.card index argument (hears reply) new.card k reads.mute
    (card_at choice old.card new.card frame index argument command card)
    (heard_at Fits hears answers choice old.card old.card frame index argument reply reads (fits _ _ choice) command spells) x h
command_sound Fits hears answers old frame index argument reply new reads fits command
    (slow_status choice behind late status count card spells) k x h =
    obeyed answers choice old.card index argument (hears reply) new.card k reads.mute
    (card_at choice old.card new.card frame index argument command card)
    (heard_at Fits hears answers choice old.card old.card frame index argument reply reads (fits _ _ choice) command spells) x h
command_sound Fits hears answers old frame index argument reply new reads fits command
    (fail_switch choice fails switch count card spells) k x h =
    obeyed answers choice old.card index argument (hears reply) new.card k reads.mute
    (card_at choice old.card new.card frame index argument command card)
    (heard_at Fits hears answers choice old.card old.card frame index argument reply reads (fits _ _ choice) command spells) x h
command_sound Fits hears answers old frame index argument reply new reads fits command
    (find_error choice finds patient may count card spells) k x h =
    obeyed answers choice old.card index argument (hears reply) new.card k reads.mute
    (card_at choice old.card new.card frame index argument command card)
    (heard_at Fits hears answers choice old.card old.card frame index argument reply reads (fits _ _ choice) command spells) x h
command_sound Fits hears answers old frame index argument reply new reads fits command
    (outlive choice bits resets among patient is_reset count card silent) k x h =
    absurd (reads.silent x (ap hears (sym silent) ∙ h))
command_sound Fits hears answers old frame index argument reply new reads fits command
    (show_errors choice left found among errors some cleared patient count card spells) k x h =
    obeyed_showing answers choice left found old.card index argument (hears reply) new.card k among
    (among_wider found execution_error_bits error_bits errors refl)
    cleared reads.mute
    (card_at choice (showing left found old.card) new.card frame index argument command card)
    (heard_at Fits hears answers choice old.card (showing left found old.card) frame index argument reply reads (fits _ _ choice)
    command spells) x h
command_sound Fits hears answers old frame index argument reply new reads fits command
    (brownout choice lands keeps_length after patient count card refused) k x h =
    absurd (unheard_at Fits hears answers choice old.card frame index argument reply reads (fits _ _ choice) command refused x h)

command_fine : {X : Type 0} (Fits : CardAnswer → Type 0) (hears : Reply → Result X Unheard)
    (answers : CardAnswer → Result X Unheard)
    (old : BusView) (frame : List ℕ) (index argument : ℕ) (reply : Reply) (new : BusView)
    → Reads (index, argument) Fits hears answers → ((left errors : ℕ) (choice : Choice) → Fits (respond choice (with_errors left errors old.card) index argument).1)
    → command_in frame ≡ Some (index, argument) → MeetsCommand old frame reply new
    → NoFault old new → Faithful answers old.card index argument (hears reply) new.card
command_fine Fits hears answers old frame index argument reply new reads fits command
    (faithful choice patient count card spells) same =
    faithfully answers choice old.card index argument (hears reply) new.card patient
    (card_at choice old.card new.card frame index argument command card)
    (heard_at Fits hears answers choice old.card old.card frame index argument reply reads (fits _ _ choice) command spells)
command_fine Fits hears answers old frame index argument reply new reads fits command
    (lose_command count card silent) same = fell old new count same
command_fine Fits hears answers old frame index argument reply new reads fits command
    (flip_command keeps_count count card silent) same = fell old new count same
command_fine Fits hears answers old frame index argument reply new reads fits command
    (lose_reply choice patient count card answers_it refused) same = fell old new count same
command_fine Fits hears answers old frame index argument reply new reads fits command
    (slow_inquiry choice slow late inquiry count card spells) same = fell old new count same
command_fine Fits hears answers old frame index argument reply new reads fits command
    (slow_status choice behind late status count card spells) same = fell old new count same
command_fine Fits hears answers old frame index argument reply new reads fits command
    (fail_switch choice fails switch count card spells) same = fell old new count same
command_fine Fits hears answers old frame index argument reply new reads fits command
    (find_error choice finds patient may count card spells) same = fell old new count same
command_fine Fits hears answers old frame index argument reply new reads fits command
    (outlive choice bits resets among patient is_reset count card silent) same = fell old new count same
command_fine Fits hears answers old frame index argument reply new reads fits command
    (show_errors choice left found among errors some cleared patient count card spells) same = fell old new count same
command_fine Fits hears answers old frame index argument reply new reads fits command
    (brownout choice lands keeps_length after patient count card refused) same = fell old new count same

-- what holds of the card that the command met, holds for each of them
abbrev pub FitsEach : {X : Type 0} → (BusView → CardAnswer → Type 0) → ℕ → ℕ → X → Type 0
FitsEach Fits index argument heard =
    (met : BusView) → IsCard met.card → (left errors : ℕ) (choice : Choice)
    → Fits met (respond choice (with_errors left errors met.card) index argument).1

pub command_facts : {X : Type 0} (Fits : BusView → CardAnswer → Type 0) (hears : Reply → Result X Unheard)
    (answers : CardAnswer → Result X Unheard)
    (old : BusView) (frame : List ℕ) (index argument : ℕ) (reply : Reply) (new : BusView)
    → ((met : BusView) → Reads (index, argument) (Fits met) hears answers) → FitsEach Fits index argument reply
    → command_in frame ≡ Some (index, argument) → IsCard old.card → new.limits ≡ old.limits → FallNoMore old new
    → CommandStep old frame reply new → CommandMet answers old index argument (hears reply) new
command_facts Fits hears answers old frame index argument reply new reads fits command k limits bounded step =
    let widens = step_widens old frame reply new step in
    let met = step.met in
    let is = card_in_time old met step.passes k in
    let facts : CommandFacts answers met index argument (hears reply) new =
    record {
      sound = command_sound (Fits met) hears answers met frame index argument reply new (reads met) (fits met is) command step.meets is;
      fine = command_fine (Fits met) hears answers met frame index argument reply new (reads met) (fits met is) command step.meets;
    } in
    record {
      stays = record {
        carried = widens.carried;
        later = (step_counts old frame reply new step).0;
        bounded = bounded;
        limits = limits;
      };
      narrows = subst (λ s. Within (holds new.card) (maybe_erased (erased_by old.card s) (holds old.card))) command
          widens.widens;
      stands = λ run. step_stands old frame reply new (ap (is_frame_of_run old.card) command ∙ run) step;
      switches = λ part switch. step_switches part old frame index argument reply new switch command step;
      met = met;
      passes = step.passes;
      quiet = λ same. quiet_then old met new step.passes (command_counts met frame reply new step.meets) same;
      is_card = is;
      made = (unmoved_by_time old met step.passes).made;
      facts = facts;
      at_once = λ rests.
          subst (λ (v : BusView). CommandFacts answers v index argument (hears reply) new) (still old met rests step.passes) facts;
    }

-- Polls.

-- failed programming leaves its sign
signed : (errors bits : ℕ) → (bits ≡ 0 → ⊥) → bit_or errors bits ≡ 0 → ⊥
signed errors bits some h = let below = le_or_r errors bits in some (omega (arith, below, h))

-- in idle it isn't selected
down : {X : Type 0} (state : State) → state ≡ Idle → is_selected state ≡ true → X
down state idle up = cc (ap is_selected idle, up)

fails : (card : Card) → is_in card.state Prg ≡ true → card.is_switching ≡ false → may_fail card ≡ true
fails card prg switching = let state = in_state card.state Prg prg in rw (state, switching) refl

falls_short : (card : Card) → is_in card.state Rcv ≡ true → may_fail card ≡ true
falls_short card rcv = rw rcv refl

-- in rcv a write goes on where it was
goes_on : (old : BusView) (said : Bool) (new : BusView) → PollStep old said new → GoesOn old.card new.card
goes_on old said new step =
    after_poll (GoesOn old.card) old said new (λ h. (h, refl))
    (by_cond (GoesOn old.card) (is_in old.card.state Prg) (λ _ h. cc) (λ _ h. (h, refl))) (λ _ h. (h, refl))
    (λ lands prg h. cc) (λ lands prg h. cc (in_state old.card.state Prg prg, h)) (λ lands rcv h. (h, omega arith))
    (λ ignores card k. by_cond (GoesOn old.card) ignores (λ _ h. k h) (λ _. k)) (λ bits card _ k. k)
    (λ lands keeps card _ h. cc) step

-- what the answer of a poll tells
record PollWays (old : BusView) (said : Bool) (new : BusView) : Type 0 where
  busy : said ≡ true → old.card.is_busy ≡ true
  calm : IsThereAfter said new.card → may_fail old.card ≡ false → new.card ≡ polled_to said old.card
  shown : IsThereAfter said new.card → new.card.errors ≡ 0 → new.card ≡ polled_to said old.card
  patient : NoFault old new → said ≡ true → old.card.polled < patience
  fine : NoFault old new → new.card ≡ polled_to said old.card

-- where programming fails, error bits tell it
unprogrammed : (old : BusView) (said : Bool) (new : BusView) (bits : ℕ) → (bits ≡ 0 → ⊥)
    → (said ≡ true → old.card.is_busy ≡ true)
    → may_fail old.card ≡ true → OneFault old new → new.card.errors ≡ bit_or old.card.errors bits
    → PollWays old said new
unprogrammed old said new bits some was_busy may count errors =
    record {
      busy = was_busy;
      calm = λ there quiet. cc (may, quiet);
      shown = λ there none. absurd (signed old.card.errors bits some (sym errors ∙ none));
      patient = λ same h. fell old new count same;
      fine = λ same. fell old new count same;
    }

-- ignoring further blocks raises no error
ignoring_errors : (ignores : Bool) (card : Card) → (ignoring ignores card).errors ≡ card.errors
ignoring_errors true card = refl
ignoring_errors false card = refl

faithful_poll : (choice : Choice) (old : Card) (b said : Bool) (new : Card) → b ≡ (old.is_busy && choice.is_slow)
    → new ≡ (cond {A = Card × Bool} b (waited old, true) (rested old, false)).0
    → said ≡ (cond {A = Card × Bool} b (waited old, true) (rested old, false)).1
    → (said ≡ true → (old.is_busy ≡ true) × (choice.is_slow ≡ true)) × (new ≡ polled_to said old)
faithful_poll choice old true said new e card answer =
    (λ h. both old.is_busy choice.is_slow (sym e), card ∙ ap (λ s. polled_to s old) (sym answer))
faithful_poll choice old false said new e card answer =
    (λ h. cc, card ∙ ap (λ s. polled_to s old) (sym answer))

poll_ways : (old : BusView) (said : Bool) (new : BusView) → PollStep old said new → PollWays old said new
poll_ways old said new (faithful choice patient count card answer) =
    let ways = faithful_poll choice old.card (old.card.is_busy && choice.is_slow) said new.card refl card answer in
    record {
      busy = λ h. (ways.0 h).0;
      calm = λ there quiet. ways.1;
      shown = λ there none. ways.1;
      patient = λ same h. patient (ways.0 h).1;
      fine = λ same. ways.1;
    }
poll_ways old said new (busy is_busy late count card answer) =
    let is : new.card ≡ polled_to said old.card = card ∙ ap (λ s. polled_to s old.card) (sym answer) in
    record {
      busy = λ h. is_busy;
      calm = λ there quiet. is;
      shown = λ there none. is;
      patient = λ same h. fell old new count same;
      fine = λ same. fell old new count same;
    }
poll_ways old said new (fail lands bits of prg switching count card answer) =
    unprogrammed old said new bits of.1 (λ h. cc (answer, h)) (fails old.card prg switching) count
    (ap (λ (c : Card). c.errors) card)
poll_ways old said new (fail_early lands bits of prg switching is_busy count card answer) =
    unprogrammed old said new bits of.1 (λ h. is_busy) (fails old.card prg switching) count
    (ap (λ (c : Card). c.errors) card)
poll_ways old said new (fall_short lands bits ignores of rcv is_busy count card answer) =
    unprogrammed old said new bits of.1 (λ h. cc (answer, h)) (falls_short old.card rcv) count
    (ap (λ (c : Card). c.errors) card ∙ ap (λ n. bit_or n bits) (ignoring_errors ignores (fallen_short lands old.card)))
poll_ways old said new (brownout choice lands keeps_length after patient count card answer) =
    let idle : new.card.state ≡ Idle = ap (λ (c : Card). c.state) card in
    record {
      busy = λ h. cc;
      calm = λ there quiet. down new.card.state idle (there answer);
      shown = λ there none. down new.card.state idle (there answer);
      patient = λ same h. fell old new count same;
      fine = λ same. fell old new count same;
    }

pub poll_facts : (old : BusView) (said : Bool) (new : BusView) → new.limits ≡ old.limits → FallNoMore old new
    → PollStep old said new
    → PollFacts old said new
poll_facts old said new limits bounded step =
    let keeps = poll_keeps old said new step in
    let ways = poll_ways old said new step in
    record {
      stays = record {
        carried = keeps.carried;
        later = (poll_counts old said new step).0;
        bounded = bounded;
        limits = limits;
      };
      narrows = keeps.narrows;
      stands = poll_stands old said new step;
      busy = ways.busy;
      calm = ways.calm;
      shown = ways.shown;
      goes_on = goes_on old said new step;
      patient = ways.patient;
      fine = ways.fine;
    }

-- Blocks.

by_offer : (b : Bool) (x y new : Card) (got : DataOut) → new ≡ cond b x y → got ≡ cond b Sent.Accepted Sent.Nothing
    → (got ≡ Sent.Accepted → (b ≡ true) × (new ≡ x)) × (b ≡ true → (got ≡ Sent.Accepted) × (new ≡ x))
    × (b ≡ false → (got ≡ Sent.Nothing) × (new ≡ y))
by_offer true x y new got card answer = (λ h. (refl, card), λ t. (answer, card), λ f. cc)
by_offer false x y new got card answer = (λ h. cc, λ t. cc, λ f. (answer, card))

-- The card that met the block has accepted it as the next one.
record HasAccepted (block : Sector) (met new : BusView) : Type 0 where
  could : can_accept met.lines met.card ≡ true
  goes_on : next_written new.card ≡ next_written met.card + 1
  shown : new.card.errors ≡ 0 → new.card ≡ accepted block met.card

-- what the answer to a block that is offered tells
record WriteWays (old : BusView) (block : Sector) (got : DataOut) (new : BusView) : Type 0 where
  accepts : got ≡ Sent.Accepted → HasAccepted block old new
  fine : NoFault old new → can_accept old.lines old.card ≡ true
      → (got ≡ Sent.Accepted) × (new.card ≡ accepted block old.card)
  refuses : NoFault old new → can_accept old.lines old.card ≡ false → (got ≡ Sent.Nothing) × (new.card ≡ old.card)

-- the block after an accepted one is for the next sector
one_further : (card : Card) (block : Sector) → next_written (accepted block card) ≡ next_written card + 1
one_further card block = let long = snoc_length card.values block in omega (arith, long)

between : (lands : ℕ → Bool) (card : Card) → next_written (fallen_short lands card) + 1 ≡ next_written card + 1
between lands card = omega arith

ignoring_next : (ignores : Bool) (card : Card) → next_written (ignoring ignores card) ≡ next_written card
ignoring_next true card = refl
ignoring_next false card = refl

-- with a fault it isn't accepted
unaccepted : (old : BusView) (block : Sector) (got : DataOut) (new : BusView) → OneFault old new
    → (got ≡ Sent.Accepted → ⊥) → WriteWays old block got new
unaccepted old block got new count none =
    record {
      accepts = λ h. absurd (none h);
      fine = λ same t. fell old new count same;
      refuses = λ same t. fell old new count same;
    }

not_nothing : (got : DataOut) → got ≡ Sent.Nothing → got ≡ Sent.Accepted → ⊥
not_nothing got e h = cc

not_rejected : (got : DataOut) → got ≡ Sent.Rejected → got ≡ Sent.Accepted → ⊥
not_rejected got e h = cc

write_ways : (old : BusView) (block : Sector) (got : DataOut) (new : BusView) → MeetsBlock old block got new
    → WriteWays old block got new
write_ways old block got new (faithful count card answer) =
    let ways = by_offer (can_accept old.lines old.card) (accepted block old.card) old.card new.card got card answer in
    record {
      accepts = λ h. let w = ways.0 h in record {
        could = w.0;
        goes_on = ap next_written w.1 ∙ one_further old.card block;
        shown = λ none. w.1;
      };
      fine = λ same t. ways.1 t;
      refuses = λ same f. ways.2 f;
    }
write_ways old block got new (fall_short lands bits ignores of can count card answer) =
    record {
      accepts = λ h. record {
        could = can;
        goes_on = ap next_written card ∙ ignoring_next ignores (accepted block (fallen_short lands old.card))
            ∙ one_further (fallen_short lands old.card) block ∙ between lands old.card;
        shown = λ none. absurd (signed old.card.errors bits of.1
            (sym (ap (λ (c : Card). c.errors) card
            ∙ ap (λ n. bit_or n bits) (ignoring_errors ignores (accepted block (fallen_short lands old.card)))) ∙ none));
      };
      fine = λ same t. fell old new count same;
      refuses = λ same f. fell old new count same;
    }
write_ways old block got new (lose_block can count card answer) = unaccepted old block got new count
    (not_nothing got answer)
write_ways old block got new (reject bits ignores is_busy among can count card answer) = unaccepted old block got new count
    (not_rejected got answer)
write_ways old block got new (lose_status bits is_accepted ignores is_busy among can count card answer) = unaccepted old block got new count
    (not_nothing got answer)
write_ways old block got new (turn_out lands several can count card answer) = unaccepted old block got new count
    (not_nothing got answer)
write_ways old block got new (brownout lands keeps_length after count card answer) =
    unaccepted old block got new count
    (not_nothing got answer)

-- Time that passed before the block changes nothing of where it goes, and what the card holds if no error shows.

accepts_in_time : (old met : BusView) → Passes old met → (lines : Lines) → can_accept lines met.card ≡ true
    → can_accept lines (record old.card { is_busy = false }) ≡ true
accepts_in_time old met passes lines =
    let c = old.card in
    let Accepts : Card → Type 0 = λ d. can_accept lines d ≡ true → can_accept lines (record c { is_busy = false }) ≡ true in
    after_time Accepts old met (accepts_at_rest lines c)
    (by_cond Accepts (is_in c.state Prg) (λ _ h. cc) (λ _ h. h))
    (λ choice d _ k h. not_sent lines d.source choice d h) (λ lands prg h. cc) (λ lands rcv h. accepted_before lands lines c h)
    (λ ignores d k. by_cond Accepts ignores (λ _ h. ignores_all lines d h) (λ _. k)) (λ bits d _ k. k) passes

shown_in_time : (old met : BusView) (block : Sector) → Passes old met → is_in met.card.state Rcv ≡ true → met.card.errors ≡ 0
    → accepted block met.card ≡ accepted block old.card
shown_in_time old met block passes rcv none =
    let c = old.card in
    let is : (d : Card) → met.card ≡ d → (is_in d.state Rcv ≡ true → d.errors ≡ 0 → accepted block d ≡ accepted block c)
    → accepted block met.card ≡ accepted block c =
    λ d e h. ap (λ (x : Card). accepted block x) e
    ∙ h (ap (λ (x : Card). is_in x.state Rcv) (sym e) ∙ rcv) (ap (λ (x : Card). x.errors) (sym e) ∙ none) in
    elim passes [
      | at_once e ↦ ap (λ (v : BusView). accepted block v.card) e
      | has_rested e ↦ is _ (ap (λ (v : BusView). v.card) e)
          (by_cond (λ (d : Card). is_in d.state Rcv ≡ true → d.errors ≡ 0 → accepted block d ≡ accepted block c)
          (is_in c.state Prg) (λ _ there clear. cc (there)) (λ _ there clear. refl))
      | has_run choice blocks e ↦ is _ (ap (λ (v : BusView). v.card) e)
          (λ there clear. ap (accepted block) (run_in_rcv choice blocks c there))
      | has_failed lands bits of prg switching e ↦ is _ (ap (λ (v : BusView). v.card) e) (λ there clear. cc (there))
      | has_fallen_short lands bits ignores of there is_busy e ↦ is _ (ap (λ (v : BusView). v.card) e)
          (λ there clear. absurd (signed _ bits of.1 clear))
    ]

-- a card that can accept a block waits for nothing
accepts_at_once : (old met : BusView) → can_accept old.lines old.card ≡ true → Passes old met → met ≡ old
accepts_at_once old met can passes =
    let rcv = in_state old.card.state Rcv (accepts_in_rcv old.lines old.card can) in
    still old met (still_in old.card Rcv rcv refl refl (accepts_when_free old.lines old.card can)) passes

else_false : (b : Bool) → (b ≡ true → ⊥) → b ≡ false
else_false true never = absurd (never refl)
else_false false never = refl

pub write_facts : (old : BusView) (block : Sector) (got : DataOut) (new : BusView) → new.limits ≡ old.limits
    → FallNoMore old new
    → WriteStep old block got new → WriteFacts old block got new
write_facts old block got new limits bounded step =
    let adds = block_adds old block got new step in
    let met = step.met in
    let ways = write_ways met block got new step.meets in
    let lines = beside_card old met step.passes (λ (v : BusView). v.lines) (λ card faults. refl) in
    record {
      stays = record {
        carried = adds.carried;
        later = (block_counts old block got new step).0;
        bounded = bounded;
        limits = limits;
      };
      widens = adds.adds;
      stands = block_stands old block got new step;
      accepts = λ h.
          let a = ways.accepts h in
          let could = subst (λ l. can_accept l met.card ≡ true) lines a.could in
          let rcv = accepts_in_rcv old.lines met.card could in
          let on = (goes_on_in_time old met step.passes rcv).1 in
          record {
            could = accepts_in_time old met step.passes old.lines could;
            goes_on = a.goes_on ∙ ap (λ n. n + 1) on;
            shown = λ none.
                let taken = a.shown none in
                taken ∙ shown_in_time old met block step.passes rcv (sym (ap (λ (c : Card). c.errors) taken) ∙ none);
          };
      fine = λ same can.
          let e = accepts_at_once old met can step.passes in
          let fine = ways.fine (same ∙ ap (λ (v : BusView). v.faults) (sym e)) in
          subst (λ (v : BusView). can_accept v.lines v.card ≡ true → (got ≡ Sent.Accepted) × (new.card ≡ accepted block v.card)) e
          (λ could. fine could) can;
      refuses = λ same cannot.
          let counts = write_counts met block got new step.meets in
          let nothing = ways.refuses (quiet_then old met new step.passes counts same)
          (subst (λ l. can_accept l met.card ≡ false) (sym lines)
          (else_false (can_accept old.lines met.card) (λ can. cc (accepts_in_time old met step.passes old.lines can, cannot)))) in
          (nothing.0, (met, step.passes, nothing.1));
    }

by_ask : (b : Bool) (x y new : Card) (got : DataIn) → new ≡ cond b x y → got ≡ cond b Received.Good Received.Nothing
    → (got ≡ Received.Good → (b ≡ true) × (new ≡ x)) × (b ≡ true → got ≡ Received.Good)
    × (b ≡ false → (got ≡ Received.Nothing) × (new ≡ y))
by_ask true x y new got card answer = (λ h. (refl, card), λ t. answer, λ f. cc)
by_ask false x y new got card answer = (λ h. cc, λ t. cc, λ f. (answer, card))

-- what the answer to a block that is asked for tells
record ReadWays (old : BusView) (size : ℕ) (got : DataIn) (block : List ℕ) (new : BusView) : Type 0 where
  good : got ≡ Received.Good
      → (can_send old.lines size old.card ≡ true) × (next_block old.card ≡ Some block)
      × ((choice : Choice) × (new.card ≡ sent choice old.card))
  fine : NoFault old new → can_send old.lines size old.card ≡ true → old.card.is_busy ≡ false → got ≡ Received.Good
  refuses : NoFault old new → can_send old.lines size old.card ≡ false → (got ≡ Received.Nothing)
      × (new.card ≡ old.card)

-- with a fault it isn't good
not_good : (old : BusView) (size : ℕ) (got : DataIn) (block : List ℕ) (new : BusView) → OneFault old new
    → (got ≡ Received.Good → ⊥) → ReadWays old size got block new
not_good old size got block new count none =
    record {
      good = λ h. absurd (none h);
      fine = λ same t rests. fell old new count same;
      refuses = λ same t. fell old new count same;
    }

bad_or_nothing : (comes : Bool) (got : DataIn) → got ≡ cond comes Received.Bad Received.Nothing → got ≡ Received.Good
    → ⊥
bad_or_nothing true got e h = cc
bad_or_nothing false got e h = cc

-- a card that isn't busy sends what it can
at_rest : (slow holds_on can : Bool) → holds_on ≡ false → can ≡ true → (not (slow && holds_on) && can) ≡ true
at_rest true holds_on can rests h = rw rests h
at_rest false holds_on can rests h = h

sends_not : (b can : Bool) → can ≡ false → (b && can) ≡ false
sends_not true can h = h
sends_not false can h = refl

read_ways : (old : BusView) (size : ℕ) (got : DataIn) (block : List ℕ) (new : BusView) → ReadStep old size got block new
    → ReadWays old size got block new
read_ways old size got block new (faithful choice count card answer is) =
    let ways = by_ask (will_send choice old.lines size old.card) (sent choice old.card) old.card new.card got card answer in
    let can = can_send old.lines size old.card in
    record {
      good = λ h. let w = ways.0 h in ((both (not (choice.is_slow && old.card.is_busy)) can w.0).1, is h, (choice, w.1));
      fine = λ same t rests. ways.1 (at_rest choice.is_slow old.card.is_busy can rests t);
      refuses = λ same f. ways.2 (sends_not (not (choice.is_slow && old.card.is_busy)) can f);
    }
read_ways old size got block new (spoil choice bits goes_on comes among sends count card answer) =
    not_good old size got block new count (bad_or_nothing comes got answer)
read_ways old size got block new (brownout choice lands keeps_length after count card answer) = not_good old size got block new count
    (bad_or_nothing false got answer)

pub read_facts : (old : BusView) (size : ℕ) (got : DataIn) (block : List ℕ) (new : BusView)
    → new.limits ≡ old.limits → FallNoMore old new → ReadStep old size got block new → ReadFacts old size got block new
read_facts old size got block new limits bounded step =
    let keeps = read_keeps old size got block new step in
    let ways = read_ways old size got block new step in
    record {
      stays = record {
        carried = keeps.carried;
        later = (read_counts old size got block new step).0;
        bounded = bounded;
        limits = limits;
      };
      narrows = keeps.narrows;
      stands = read_stands old size got block new step;
      good = ways.good;
      fine = ways.fine;
      refuses = ways.refuses;
    }

-- Exchanges.

-- what is known of a step is known of the exchange
pub with_facts : {Step Facts : Type 0} (old : BusView) (exchange : Exchange) (new : BusView)
    → Exchanged old exchange Step new → (IsCard old.card → new.limits ≡ old.limits → FallNoMore old new → Step → Facts)
    → Exchanged old exchange Facts new
with_facts old exchange new e facts = record {
  lines = e.lines;
  limits = e.limits;
  last = e.last;
  exchanges = e.exchanges;
  kept = λ k. let s = e.kept k in record {
    was_kept = s.was_kept;
    was_card = s.was_card;
    step = facts s.was_card e.limits s.bounded s.step;
    is_card = s.is_card;
    bounded = s.bounded;
  };
}

pub asked : {X : Type 0} (Fits : BusView → CardAnswer → Type 0) (hears : Reply → Result X Unheard)
    (answers : CardAnswer → Result X Unheard)
    (old : BusView) (frame : List ℕ) (index argument : ℕ) (want : Want) (reply : Reply) (heard : Result X Unheard)
    (new : BusView) → ((met : BusView) → Reads (index, argument) (Fits met) hears answers) → FitsEach Fits index argument reply
    → command_in frame ≡ Some (index, argument)
    → ((kind : Kind) (app : Bool) → want ≡ response_to (command_of kind app index)) → heard ≡ hears reply
    → Exchanged old (Command frame want reply) (CommandStep old frame reply new) new
    → Asked hears answers old index argument heard new
asked Fits hears answers old frame index argument want reply heard new reads fits command wanted hearing e = record {
  frame = frame;
  want = want;
  reply = reply;
  command = command;
  wanted = wanted;
  hearing = hearing;
  cause = ap cause_of e.last ∙ ap (λ s. Some (cause_of_command s reply)) command;
  exchanged = with_facts old (Command frame want reply) new e
      (λ k limits bounded step. subst (λ x. CommandMet answers old index argument x new) (sym hearing)
      (command_facts Fits hears answers old frame index argument reply new reads fits command k limits bounded step));
}
