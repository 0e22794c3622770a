-- What time leaves as it is, and what a step is once time has passed before it.
use Rattle.std.proofs.Common.{◌+◌, ◌&&◌, ◌∙◌, ◌≡◌, ◌≤◌, ◌⊎◌, Bool, List, ap, arith, false, inl, inr, length, refl, subst, suc, sym, true, zero}
use Rattle.std.proofs.Common.{ℕ}
use Rattle.std.specs.Prelude.{◌==◌, None, Option, bit_or, Some, if◌then◌else◌, nat_lt, not, replicate, ◌-◌}
use Rattle.std.proofs.lemmas.Bool.{ltb-true}
use Rattle.std.proofs.lemmas.Nat.{le_or_l}
use Rattle.mmc_frame.specs.Frame.{command_in}
use Rattle.mmc_frame.specs.declared.card_state.State.TheVariants.{Data, Prg, Rcv, Tran}
use Rattle.mmc_frame.specs.declared.card_state.State.{State}
use Rattle.mmc_card.specs.declared.exchange.DataOut.{DataOut}
use Rattle.mmc_card.specs.declared.exchange.Lines.{Lines}
use Rattle.mmc_card.specs.declared.exchange.Reply.{Reply}
use Rattle.mmc_card.specs.declared.part.Part.{Part}
use Rattle.mmc_card.specs.declared.command.Command.{Command}
use Rattle.mmc_card.specs.declared.command.Command.TheVariants.{Erase}
use Rattle.mmc_card.proofs.CardAll.{basic, command_leaves_card, ordered, sending, settled, sizes_then, whole}
use Rattle.mmc_card.proofs.CardAll.{write_leaves_card}
use Rattle.mmc_card.proofs.CardRows.{card_ignoring, card_sent_from, up_if}
use Rattle.mmc_card.proofs.Cards.{IsBasic, card_fallen_short, card_programmed, card_raised, card_rested, in_state}
use Rattle.mmc_card.proofs.Conditions.{by_cond}
use Rattle.mmc_card.proofs.FaultCount.{command_counts, write_counts}
use Rattle.mmc_card.proofs.Narrow.{Keeps, Widens, carried_then, keeps_fallen_short, keeps_ignoring, keeps_programmed, keeps_raised}
use Rattle.mmc_card.proofs.Landing.{landed_size}
use Rattle.mmc_card.proofs.Narrow.{both, keeps_rested, keeps_same, keeps_sent_from, keeps_then, wide_then}
use Rattle.mmc_card.proofs.NarrowSteps.{Adds, command_widens, write_adds}
use Rattle.mmc_card.proofs.Ordered.{IsOrdered, ordered_fallen_short, ordered_ignoring, ordered_programmed, ordered_raised}
use Rattle.mmc_card.proofs.Ordered.{ordered_rested, ordered_sent_from}
use Rattle.mmc_card.proofs.Sending.{IsSending, sending_fallen_short, sending_ignoring, sending_programmed, sending_raised}
use Rattle.mmc_card.proofs.Sending.{sending_rested, sending_sent_from}
use Rattle.mmc_card.proofs.Settled.{IsSettled, above_of, settled_fallen_short, settled_ignoring, settled_programmed, settled_raised}
use Rattle.mmc_card.proofs.Settled.{settled_rested, settled_sent_from}
use Rattle.mmc_card.proofs.Standing.{command_stands, stands_fallen_short, stands_ignoring, stands_programmed, stands_raised}
use Rattle.mmc_card.proofs.Standing.{stands_rested, stands_sent_from, up_in, write_stands}
use Rattle.mmc_card.proofs.Steps.{after_time}
use Rattle.mmc_card.proofs.Switching.{command_switches}
use Rattle.mmc_card.specs.Blocks.{awaits, can_accept, fallen_short, ignoring, is_last, is_none, one_less, lines_fit, next_written, programmed, rested}
use Rattle.mmc_card.specs.Blocks.{run_on, run_past, sent_from}
use Rattle.mmc_card.specs.BusView.{BusView}
use Rattle.mmc_card.specs.Card.{Both, Card, FromBytes, FromSectors, Held, IsBlock, IsCard, Source, is_in, is_selected, stored}
use Rattle.mmc_card.specs.CardAnswer.{Choice, raised}
use Rattle.mmc_card.specs.ErrorBits.{out_of_range}
use Rattle.mmc_card.specs.Faults.{CommandStep, Passes, WriteStep, at_once, has_failed, has_fallen_short, has_rested, has_run}
use Rattle.mmc_card.specs.Laws.{Carried, CountsAtMost, IsNextWritten, Stands, StandsIn, StillStands, SwitchesTo}
use Rattle.mmc_card.specs.Laws.{IsStill, erased_by}
use Rattle.mmc_card.specs.Laws.{erased_by_command, erased_by_held, is_frame_of_run, is_of_run}
use Rattle.mmc_card.specs.Made.{Made, erased_sector, is_mmc, sector_at}
use Rattle.mmc_card.specs.Rows.{command_of}
use Rattle.mmc_card.specs.RowsSwitch.{partition_config_for, write_byte}
use Rattle.mmc_card.specs.RowsErase.{erased_from, erased_to, erasing, is_trim}
use Rattle.mmc_card.specs.Sectors.{Change, Sector}

-- What time leaves as it is.

pub record Unmoved (c d : Card) : Type 0 where
  pub made : d.made ≡ c.made
  pub app : d.app ≡ c.app
  pub rca : d.rca ≡ c.rca
  pub part : d.part ≡ c.part
  pub erase : d.erase ≡ c.erase
  -- error bits are raised, and none is cleared
  pub errors : d.errors ≡ 0 → c.errors ≡ 0
  pub selected : is_selected d.state ≡ is_selected c.state

unmoved_then : (a b c : Card) → Unmoved a b → Unmoved b c → Unmoved a c
unmoved_then a b c p q = record {
  made = q.made ∙ p.made;
  app = q.app ∙ p.app;
  rca = q.rca ∙ p.rca;
  part = q.part ∙ p.part;
  erase = q.erase ∙ p.erase;
  errors = λ none. p.errors (q.errors none);
  selected = q.selected ∙ p.selected;
}

-- all but the state, and error bits
unmoved : (c d : Card) → d.made ≡ c.made → d.app ≡ c.app → d.rca ≡ c.rca → d.part ≡ c.part → d.erase ≡ c.erase
    → (d.errors ≡ 0 → c.errors ≡ 0) → is_selected d.state ≡ is_selected c.state → Unmoved c d
unmoved c d made app rca part erase errors selected = record {
  made = made;
  app = app;
  rca = rca;
  part = part;
  erase = erase;
  errors = errors;
  selected = selected;
}

unmoved_programmed : (lands : ℕ → Bool) (c : Card) → is_in c.state Prg ≡ true → Unmoved c (programmed lands c)
unmoved_programmed lands c prg =
    unmoved c _ refl refl refl refl refl (λ none. none) (sym (up_in c Prg prg refl))

unmoved_rested : (c : Card) → Unmoved c (rested c)
unmoved_rested c =
    by_cond (Unmoved c) (is_in c.state Prg) (λ prg. unmoved_programmed (λ i. true) c prg)
    (λ _. unmoved c _ refl refl refl refl refl (λ none. none) refl)

unmoved_raised : (bits : ℕ) (c : Card) → Unmoved c (raised bits c)
unmoved_raised bits c =
    unmoved c _ refl refl refl refl refl (λ none. let below = le_or_l c.errors bits in omega (arith, below, none)) refl

unmoved_sent : (source : Source) (choice : Choice) (c : Card) → is_in c.state Data ≡ true → Unmoved c (sent_from source choice c)
unmoved_sent FromSectors choice c here =
    unmoved c _ refl refl refl refl refl (λ none. (unmoved_raised _ c).errors none)
    (up_if (is_last c.left) Tran Data refl refl ∙ sym (up_in c Data here refl))
unmoved_sent (FromBytes bytes timing) choice c here =
    unmoved c _ refl refl refl refl refl (λ none. none) (sym (up_in c Data here refl))

unmoved_ignoring : (ignores : Bool) (c : Card) → Unmoved c (ignoring ignores c)
unmoved_ignoring ignores c =
    by_cond (Unmoved c) ignores (λ _. unmoved c _ refl refl refl refl refl (λ none. none) refl)
    (λ _. unmoved c _ refl refl refl refl refl (λ none. none) refl)

pub unmoved_by_time : (old met : BusView) → Passes old met → Unmoved old.card met.card
unmoved_by_time old met passes =
    let c = old.card in
    after_time (Unmoved c) old met (unmoved c c refl refl refl refl refl (λ none. none) refl) (unmoved_rested c)
    (λ choice d here k. unmoved_then c d _ k (unmoved_sent d.source choice d here))
    (λ lands prg. unmoved_programmed lands c prg)
    (λ lands rcv. unmoved c _ refl refl refl refl refl (λ none. none) refl)
    (λ ignores d k. unmoved_then c d _ k (unmoved_ignoring ignores d))
    (λ bits d _ k. unmoved_then c d _ k (unmoved_raised bits d)) passes

pub keeps_in_time : (old met : BusView) → Passes old met → Keeps old.card met.card
keeps_in_time old met passes =
    let c = old.card in
    after_time (Keeps c) old met (keeps_same c) (keeps_rested c)
    (λ choice d _ k. keeps_then k (keeps_sent_from d.source choice d)) (λ lands _. keeps_programmed lands c)
    (λ lands _. keeps_fallen_short lands c) (λ ignores d k. keeps_then k (keeps_ignoring ignores d))
    (λ bits d _ k. keeps_then k (keeps_raised bits d)) passes

pub stands_in_time : (old met : BusView) → Passes old met → StillStands old.card met.card
stands_in_time old met passes s h =
    after_time (Stands s) old met h (stands_rested s old.card h)
    (λ choice d here k. stands_sent_from s d.source choice d here (k.sends here) k)
    (λ lands prg. stands_programmed s lands old.card prg h) (λ lands rcv. stands_fallen_short s lands old.card rcv h)
    (λ ignores d k. stands_ignoring s ignores d k) (λ bits d _ k. stands_raised s bits d k) passes

pub card_in_time : (old met : BusView) → Passes old met → IsCard old.card → IsCard met.card
card_in_time old met passes k =
    let c = old.card in
    let b = basic c k in
    let o = ordered c k in
    let s = settled c k in
    let g = sending c k in
    whole met.card (sizes_then c met.card (keeps_in_time old met passes).carried k)
    (after_time IsBasic old met b (card_rested c b) (λ choice d here h. card_sent_from d.source choice d (in_state d.state Data here) h)
    (λ lands _. card_programmed lands c b) (λ lands rcv. card_fallen_short lands c rcv b) card_ignoring card_raised passes)
    (after_time IsOrdered old met o (ordered_rested c o) (λ choice d here h. ordered_sent_from d.source choice d here h)
    (λ lands prg. ordered_programmed lands c prg o) (λ lands rcv. ordered_fallen_short lands c rcv o) ordered_ignoring
    (λ bits d _ h. ordered_raised bits d h) passes)
    (after_time IsSettled old met s (settled_rested c s) (λ choice d _ h. settled_sent_from d.source choice d refl h)
    (λ lands prg. settled_programmed lands c prg s) (λ lands _. settled_fallen_short lands c s) settled_ignoring
    (λ bits d _ h. settled_raised bits d h) passes)
    (after_time IsSending old met g (sending_rested c g) (λ choice d _ h. sending_sent_from d.source choice d h)
    (λ lands _. sending_programmed lands c g) (λ lands _. sending_fallen_short lands c g) sending_ignoring
    (λ bits d _ h. sending_raised bits d h) passes)

-- In rcv a write goes on where it was.
abbrev pub GoesOn : Card → Card → Type 0
GoesOn old new =
    is_in new.state Rcv ≡ true → (is_in old.state Rcv ≡ true) × (next_written new ≡ next_written old)

not_rcv : {X : Type 0} (last : Bool) → is_in (if last then Tran else Data) Rcv ≡ true → X
not_rcv true h = cc
not_rcv false h = cc

sent_not_rcv : (old : Card) (source : Source) (choice : Choice) (c : Card) → GoesOn old (sent_from source choice c)
sent_not_rcv old FromSectors choice c h = not_rcv (is_last c.left) h
sent_not_rcv old (FromBytes bytes timing) choice c h = cc

pub goes_on_in_time : (old met : BusView) → Passes old met → GoesOn old.card met.card
goes_on_in_time old met passes =
    let c = old.card in
    after_time (GoesOn c) old met (λ h. (h, refl))
    (by_cond (GoesOn c) (is_in c.state Prg) (λ _ h. cc) (λ _ h. (h, refl)))
    (λ choice d _ k. sent_not_rcv c d.source choice d) (λ lands prg h. cc) (λ lands rcv h. (rcv, omega arith))
    (λ ignores d k. by_cond (GoesOn c) ignores (λ _ h. k h) (λ _. k)) (λ bits d _ k. k) passes

-- faults, if any, are counted
pub counts_in_time : (old met : BusView) → Passes old met → CountsAtMost 1 old met
counts_in_time old met passes =
    let count : (n : ℕ) → met.faults ≡ n → (old.faults ≤ n) × (n ≤ old.faults + 1) → CountsAtMost 1 old met =
    λ n e both. (omega (arith, e, both.0), omega (arith, e, both.1)) in
    elim passes [
      | at_once e ↦ count old.faults (ap (λ (v : BusView). v.faults) e) (omega arith, omega arith)
      | has_rested e ↦ count old.faults (ap (λ (v : BusView). v.faults) e) (omega arith, omega arith)
      | has_run choice blocks e ↦ count old.faults (ap (λ (v : BusView). v.faults) e) (omega arith, omega arith)
      | has_failed lands bits of prg switching e ↦ count (old.faults + 1) (ap (λ (v : BusView). v.faults) e) (omega arith, omega arith)
      | has_fallen_short lands bits ignores of rcv is_busy e ↦ count (old.faults + 1) (ap (λ (v : BusView). v.faults) e) (omega arith, omega arith)
    ]

-- A card at rest.

pub run_still : (choice : Choice) (blocks : ℕ) (c : Card) → is_in c.state Data ≡ false → run_past choice blocks c ≡ c
run_still choice zero c quiet = refl
run_still choice (suc blocks) c quiet = ap (run_on choice) (run_still choice blocks c quiet) ∙ rw quiet refl

pub rest_still : (c : Card) → is_in c.state Prg ≡ false → c.is_busy ≡ false → rested c ≡ c
rest_still c quiet rest = rw quiet (ap (λ (b : Bool). record c { is_busy = b }) (sym rest))

pub still_in : (card : Card) (state : State) → card.state ≡ state → is_in state Data ≡ false → is_in state Prg ≡ false
    → card.is_busy ≡ false → IsStill card
still_in card state is quiet done rest = record {
  rests = rest;
  programs_nothing = ap (λ s. is_in s Prg) is ∙ done;
  sends_nothing = ap (λ s. is_in s Data) is ∙ quiet;
}

apart_quiet : (state : State) → is_selected state ≡ false → (is_in state Data ≡ false) × (is_in state Prg ≡ false)
apart_quiet Data down = absurd cc
apart_quiet Prg down = absurd cc
apart_quiet _ down = (refl, refl)

-- where it isn't selected nothing goes on in it
pub still_apart : (card : Card) (state : State) → IsCard card → card.state ≡ state → is_selected state ≡ false → IsStill card
still_apart card state k is down =
    let quiet = apart_quiet state down in
    still_in card state is quiet.0 quiet.1 (k.apart (ap is_selected is ∙ down)).is_busy

-- once it has rested, unless it sends
pub still_rested : (card : Card) → is_in card.state Data ≡ false → IsStill (rested card)
still_rested card quiet =
    by_cond IsStill (is_in card.state Prg) (λ _. record { rests = refl; programs_nothing = refl; sends_nothing = refl })
    (λ done. record { rests = refl; programs_nothing = done; sends_nothing = quiet })

-- nothing happens to such a card
pub still : (old met : BusView) → IsStill old.card → Passes old met → met ≡ old
still old met is passes =
    let quiet = is.sends_nothing in
    let done = is.programs_nothing in
    let rest = is.rests in
    elim passes [
      | at_once e ↦ e
      | has_rested e ↦ e ∙ ap (λ (c : Card). record old { card = c }) (rest_still old.card done rest)
      | has_run choice blocks e ↦ e ∙ ap (λ (c : Card). record old { card = c }) (run_still choice blocks old.card quiet)
      | has_failed lands bits of prg switching e ↦ cc (prg, done)
      | has_fallen_short lands bits ignores of rcv is_busy e ↦ cc (is_busy, rest)
    ]

-- What a command erases.

erased_range : Made → Part → ℕ → Bool → ℕ → ℕ → Change
erased_range made part size trims first last =
    record {
      part = part;
      start = erased_from made trims (sector_at made first);
      values = replicate
          (erased_to made trims size (sector_at made last) - erased_from made trims (sector_at made first))
          (erased_sector made);
    }

module _ (c d : Card) (same : Unmoved c d) (carried : Carried c d) where
  range_same : (argument first last : ℕ)
      → erasing d (is_trim d argument) first last ≡ erasing c (is_trim c argument) first last
  unfolding erased_range
  range_same argument first last =
      ap (λ (m : Made). erased_range m d.part (length (stored d d.part)) (is_mmc m.kind && (argument == 1)) first last) same.made
      ∙ ap (λ (p : Part). erased_range c.made p (length (stored d p)) (is_trim c argument) first last) same.part
      ∙ ap (λ n. erased_range c.made c.part n (is_trim c argument) first last) (carried.sizes c.part)

  held_same : (argument : ℕ) (held : Held) → erased_by_held d argument held ≡ erased_by_held c argument held
  held_same argument (Both first last) = ap Some (range_same argument first last)
  held_same argument _ = refl

  command_same : (command : Command) (argument : ℕ)
      → erased_by_command command d argument ≡ erased_by_command command c argument
  command_same Erase argument = ap (erased_by_held d argument) same.erase ∙ held_same argument c.erase
  command_same _ argument = refl

  meant_same : (index : ℕ) → command_of d.made.kind d.app index ≡ command_of c.made.kind c.app index
  meant_same index =
      ap (λ (m : Made). command_of m.kind d.app index) same.made ∙ ap (λ app. command_of c.made.kind app index) same.app

  erased_same : (sent : Option (ℕ × ℕ)) → erased_by d sent ≡ erased_by c sent
  erased_same (Some command) =
      ap (λ k. erased_by_command k d command.1) (meant_same command.0) ∙ command_same (command_of c.made.kind c.app command.0) command.1
  erased_same None = refl

  of_run_same : (sent : Option (ℕ × ℕ)) → is_frame_of_run d sent ≡ is_frame_of_run c sent
  of_run_same (Some command) = ap is_of_run (meant_same command.0)
  of_run_same None = refl

pub erased_in_time : (old met : BusView) → Passes old met → (sent : Option (ℕ × ℕ))
    → erased_by met.card sent ≡ erased_by old.card sent
erased_in_time old met passes =
    erased_same old.card met.card (unmoved_by_time old met passes) (keeps_in_time old met passes).carried

pub of_run_in_time : (old met : BusView) → Passes old met → (sent : Option (ℕ × ℕ))
    → is_frame_of_run met.card sent ≡ is_frame_of_run old.card sent
of_run_in_time old met passes =
    of_run_same old.card met.card (unmoved_by_time old met passes) (keeps_in_time old met passes).carried

-- Steps.

pub step_widens : (old : BusView) (frame : List ℕ) (reply : Reply) (new : BusView) → CommandStep old frame reply new
    → Widens (erased_by old.card (command_in frame)) old.card new.card
step_widens old frame reply new step =
    let erased = erased_in_time old step.met step.passes (command_in frame) in
    wide_then _ old.card step.met.card new.card (keeps_in_time old step.met step.passes)
    (subst (λ t. Widens t step.met.card new.card) erased (command_widens step.met frame reply new step.meets))

pub step_leaves_card : (old : BusView) (frame : List ℕ) (reply : Reply) (new : BusView)
    → CommandStep old frame reply new → IsCard old.card → IsCard new.card
step_leaves_card old frame reply new step k =
    command_leaves_card step.met frame reply new step.meets (card_in_time old step.met step.passes k)

pub step_stands : (old : BusView) (frame : List ℕ) (reply : Reply) (new : BusView)
    → is_frame_of_run old.card (command_in frame) ≡ true → CommandStep old frame reply new
    → StillStands old.card new.card
step_stands old frame reply new run step s h =
    command_stands step.met frame reply new (of_run_in_time old step.met step.passes (command_in frame) ∙ run) step.meets s
    (stands_in_time old step.met step.passes s h)

-- a switch of the partition means the same to the card that it meets
pub switches_in_time : (part : Part) (old met : BusView) (index argument : ℕ) → Passes old met
    → SwitchesTo part old.card index argument → SwitchesTo part met.card index argument
switches_in_time part old met index argument passes switch =
    let made = (unmoved_by_time old met passes).made in
    record {
      mmc = ap (λ (m : Made). m.kind) made ∙ switch.mmc;
      switch = switch.switch;
      access = switch.access ∙ ap (λ (m : Made). write_byte 179 (partition_config_for m part)) (sym made);
    }

pub step_switches : (part : Part) (old : BusView) (frame : List ℕ) (index argument : ℕ) (reply : Reply)
    (new : BusView) → SwitchesTo part old.card index argument → command_in frame ≡ Some (index, argument)
    → CommandStep old frame reply new → StandsIn part old.card new.card
step_switches part old frame index argument reply new switch command step s h =
    command_switches part step.met frame index argument reply new
    (switches_in_time part old step.met index argument step.passes switch) command step.meets s
    (stands_in_time old step.met step.passes s h)

-- what is counted before the exchange, and in it
counts : (old met new : BusView) → Passes old met → CountsAtMost 1 met new → CountsAtMost 2 old new
counts old met new passes after =
    let before = counts_in_time old met passes in
    (omega (arith, before.0, after.0), omega (arith, before.1, after.1))

pub step_counts : (old : BusView) (frame : List ℕ) (reply : Reply) (new : BusView) → CommandStep old frame reply new
    → CountsAtMost 2 old new
step_counts old frame reply new step =
    counts old step.met new step.passes (command_counts step.met frame reply new step.meets)

-- the sector that comes next is the one that came next
next_before : (old met : BusView) → Passes old met → (p : Part) (s : ℕ) (block v : Sector)
    → IsNextWritten met.card p s block v → IsNextWritten old.card p s block v
next_before old met passes p s block v next =
    let on = goes_on_in_time old met passes next.receives in record {
      receives = on.0;
      here = sym (unmoved_by_time old met passes).part ∙ next.here;
      next = next.next ∙ on.1;
      offered = next.offered;
    }

-- what a block adds to the sectors, it adds to those of the card before time passed
pub block_adds : (old : BusView) (block : Sector) (got : DataOut) (new : BusView) → WriteStep old block got new
    → Adds block old.card new.card
block_adds old block got new step =
    let met = step.met in
    let before = keeps_in_time old met step.passes in
    let w = write_adds met block got new step.meets in
    record {
      carried = carried_then before.carried w.carried;
      adds = λ p s v h. elim (w.adds p s v h) [
        | inl was ↦ inl (before.narrows p s v was)
        | inr next ↦ inr (next_before old met step.passes p s block v next)
      ];
    }

pub block_leaves_card : (old : BusView) (block : Sector) (got : DataOut) (new : BusView) → IsBlock block
    → WriteStep old block got new → IsCard old.card → IsCard new.card
block_leaves_card old block got new h step k =
    write_leaves_card step.met block got new h step.meets (card_in_time old step.met step.passes k)

pub block_stands : (old : BusView) (block : Sector) (got : DataOut) (new : BusView) → WriteStep old block got new
    → StillStands old.card new.card
block_stands old block got new step s h =
    write_stands step.met block got new step.meets s (stands_in_time old step.met step.passes s h)

pub block_counts : (old : BusView) (block : Sector) (got : DataOut) (new : BusView) → WriteStep old block got new
    → CountsAtMost 2 old new
block_counts old block got new step =
    counts old step.met new step.passes (write_counts step.met block got new step.meets)

-- A read that goes on until CMD12.

-- it may have come further, and may have OUT_OF_RANGE to show
abbrev pub RunsOn : Card → Card → Type 0
RunsOn old new =
    (next errors : ℕ) × (new ≡ record old { next = next; errors = errors }) × ((errors ≡ 0) ⊎ (errors ≡ out_of_range))

-- no block is its last
pub record EndsNever (left : Option ℕ) : Type 0 where
  pub not_last : is_last left ≡ false
  pub as_many : one_less left ≡ left

more_errors : (said : Bool) (errors : ℕ) → (errors ≡ 0) ⊎ (errors ≡ out_of_range)
    → (bit_or errors (if said then out_of_range else 0) ≡ 0) ⊎ (bit_or errors (if said then out_of_range else 0) ≡ out_of_range)
more_errors true errors (inl none) = inr (ap (λ n. bit_or n out_of_range) none)
more_errors true errors (inr one) = inr (ap (λ n. bit_or n out_of_range) one)
more_errors false errors (inl none) = inl (ap (λ n. bit_or n 0) none)
more_errors false errors (inr one) = inr (ap (λ n. bit_or n 0) one)

run_once : (choice : Choice) (old : Card) → old.state ≡ Data → old.source ≡ FromSectors → EndsNever old.left → (next errors : ℕ)
    → (errors ≡ 0) ⊎ (errors ≡ out_of_range)
    → RunsOn old (run_on choice (record old { next = next; errors = errors }))
run_once choice old here source never next errors few =
    let card = record old { next = next; errors = errors } in
    let said = is_none old.left && (choice.says_end && (next + 1 == length (stored old old.part))) in
    let more : ℕ = bit_or errors (if said then out_of_range else 0) in
    let going : run_on choice card ≡ sent_from old.source choice card = rw here refl in
    let goes : sent_from FromSectors choice card ≡ record card { next = next + 1; errors = more; left = old.left; state = Data } =
    rw (never.not_last, never.as_many) refl in
    let stays : record card { next = next + 1; errors = more; left = old.left; state = Data }
    ≡ record old { next = next + 1; errors = more } =
    ap (λ (s : State). record old { next = next + 1; errors = more; state = s }) (sym here) in (
      next + 1,
      more,
      going ∙ ap (λ (x : Source). sent_from x choice card) source ∙ goes ∙ stays,
      more_errors said errors few,
    )

runs_further : (choice : Choice) (old : Card) → old.state ≡ Data → old.source ≡ FromSectors → EndsNever old.left
    → (old.errors ≡ 0) ⊎ (old.errors ≡ out_of_range) → (blocks : ℕ) → RunsOn old (run_past choice blocks old)
runs_further choice old here source never few zero = (old.next, old.errors, refl, few)
runs_further choice old here source never few (suc blocks) =
    let before = runs_further choice old here source never few blocks in
    subst (λ (c : Card). RunsOn old (run_on choice c)) (sym before.2)
    (run_once choice old here source never before.0 before.1 before.3)

pub runs_on : (old met : BusView) → old.card.state ≡ Data → old.card.is_busy ≡ false → old.card.source ≡ FromSectors
    → EndsNever old.card.left → (old.card.errors ≡ 0) ⊎ (old.card.errors ≡ out_of_range) → Passes old met
    → RunsOn old.card met.card
runs_on old met here rest source never few passes =
    let c = old.card in
    let stays : RunsOn c c = (c.next, c.errors, refl, few) in
    elim passes [
      | at_once e ↦ subst (λ (v : BusView). RunsOn c v.card) (sym e) stays
      | has_rested e ↦ subst (λ (v : BusView). RunsOn c v.card) (sym e)
          (subst (RunsOn c) (sym (rest_still c (ap (λ s. is_in s Prg) here) rest)) stays)
      | has_run choice blocks e ↦ subst (λ (v : BusView). RunsOn c v.card) (sym e)
          (runs_further choice c here source never few blocks)
      | has_failed lands bits of prg switching e ↦ absurd (cc (ap (λ s. is_in s Prg) here, prg))
      | has_fallen_short lands bits ignores of rcv is_busy e ↦ absurd (cc (ap (λ s. is_in s Rcv) here, rcv))
    ]

-- Blocks that are written.

-- what a view says beside its card and its faults stays
pub beside_card : {X : Type 0} (old met : BusView) → Passes old met → (f : BusView → X)
    → ((card : Card) (faults : ℕ) → f (record old { card = card; faults = faults }) ≡ f old) → f met ≡ f old
beside_card old met passes f same =
    elim passes [
      | at_once e ↦ ap f e
      | has_rested e ↦ ap f e ∙ same _ old.faults
      | has_run choice blocks e ↦ ap f e ∙ same _ old.faults
      | has_failed lands bits of prg switching e ↦ ap f e ∙ same _ (old.faults + 1)
      | has_fallen_short lands bits ignores of rcv is_busy e ↦ ap f e ∙ same _ (old.faults + 1)
    ]

-- a card in rcv has sent nothing
sent_in_rcv : {X : Type 0} (source : Source) (choice : Choice) (c : Card)
    → is_in (sent_from source choice c).state Rcv ≡ true → X
sent_in_rcv FromSectors choice c h = not_rcv (is_last c.left) h
sent_in_rcv (FromBytes bytes timing) choice c h = cc

pub run_in_rcv : (choice : Choice) (blocks : ℕ) (c : Card) → is_in (run_past choice blocks c).state Rcv ≡ true
    → run_past choice blocks c ≡ c
run_in_rcv choice zero c rcv = refl
run_in_rcv choice (suc blocks) c rcv =
    let before = run_past choice blocks c in
    by_cond (λ d. is_in d.state Rcv ≡ true → d ≡ c) (is_in before.state Data)
    (λ here there. sent_in_rcv before.source choice before there)
    (λ _ there. run_in_rcv choice blocks c there) rcv

not_busy : (b : Bool) → not b ≡ true → b ≡ false
not_busy true h = cc
not_busy false h = refl

pub accepts_when_free : (lines : Lines) (c : Card) → can_accept lines c ≡ true → c.is_busy ≡ false
accepts_when_free lines c h =
    not_busy c.is_busy (both (not c.is_busy) _ (both (is_in c.state Rcv) _ h).1).0

pub accepts_at_rest : (lines : Lines) (c : Card) → can_accept lines c ≡ true
    → can_accept lines (record c { is_busy = false }) ≡ true
accepts_at_rest lines c h =
    let rcv = both (is_in c.state Rcv) _ h in
    let rest = both (not c.is_busy) _ rcv.1 in
    rw (rcv.0, rest.1) refl

pub not_sent : {X : Type 0} (lines : Lines) (source : Source) (choice : Choice) (c : Card)
    → can_accept lines (sent_from source choice c) ≡ true → X
not_sent lines FromSectors choice c h = not_rcv (is_last c.left) (both (is_in (if is_last c.left then Tran else Data) Rcv) _ h).0
not_sent lines (FromBytes bytes timing) choice c h = cc

pub ignores_all : {X : Type 0} (lines : Lines) (c : Card) → can_accept lines (ignoring true c) ≡ true → X
ignores_all lines c h =
    let free = both (not c.is_busy) _ (both (is_in c.state Rcv) _ h).1 in
    cc (both (lines_fit lines c) _ free.1).1

pub accepted_before : (lands : ℕ → Bool) (lines : Lines) (c : Card) → can_accept lines (fallen_short lands c) ≡ true
    → can_accept lines (record c { is_busy = false }) ≡ true
accepted_before lands lines c h =
    let rcv = both (is_in c.state Rcv) _ h in
    let fit = both (lines_fit lines c) _ (both true _ rcv.1).1 in
    let awaited = both (awaits c.left) _ fit.1 in
    let below = ltb-true _ _ awaited.1 in
    let same = landed_size c lands c.part in
    let inside : nat_lt (next_written c) (length (stored c c.part)) ≡ true = above_of _ _ (omega (arith, below, same)) in
    rw (rcv.0, fit.0, awaited.0, inside) refl
