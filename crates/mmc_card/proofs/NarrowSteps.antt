-- The law of narrowing, step by step.
use Rattle.std.proofs.Common.{Bool, List, ℕ, ◌≡◌, arith, false, inl, inr, true}
use Rattle.std.specs.Prelude.{Option}
use Rattle.mmc_frame.specs.Frame.{command_in}
use Rattle.mmc_card.specs.declared.exchange.DataIn.{DataIn}
use Rattle.mmc_card.specs.declared.exchange.DataOut.{DataOut}
use Rattle.mmc_card.specs.declared.exchange.Lines.{Lines}
use Rattle.mmc_card.specs.declared.exchange.Reply.{Reply}
use Rattle.mmc_card.proofs.Narrow.{Keeps, Widens, accepted_adds, carried_accepted, carried_then, keeps_fallen_early, keeps_fallen_short}
use Rattle.mmc_card.proofs.Narrow.{keeps_ignoring}
use Rattle.mmc_card.proofs.Narrow.{keeps_garbled, keeps_programmed, keeps_raised, keeps_rejected, keeps_reset, keeps_rested, keeps_same}
use Rattle.mmc_card.proofs.Narrow.{keeps_sent_from, keeps_slow, keeps_then, accepts_in_rcv, wide, widens_answered, widens_showing}
use Rattle.mmc_card.proofs.Steps.{after_command, after_write, after_poll, after_read}
use Rattle.mmc_card.specs.Blocks.{accepted, can_accept, fallen_short}
use Rattle.mmc_card.specs.Card.{Card}
use Rattle.mmc_card.specs.Faults.{MeetsBlock, MeetsCommand, PollStep, ReadStep}
use Rattle.mmc_card.specs.Laws.{Carried, WithinOrAccepted, erased_by}
use Rattle.mmc_card.specs.Sectors.{Change, Sector}
use Rattle.mmc_card.specs.BusView.{BusView}

-- what a write may add
pub record Adds (block : Sector) (old new : Card) : Type 0 where
  pub carried : Carried old new
  pub adds : WithinOrAccepted old block new

-- nothing is added
adds_none : (block : Sector) (c d : Card) → Keeps c d → Adds block c d
adds_none block c d k = record { carried = k.carried; adds = λ p s v h. inl (k.narrows p s v h) }

-- what was added is settled after it
pub adds_then : (block : Sector) (a b c : Card) → Adds block a b → Keeps b c → Adds block a c
adds_then block a b c p q = record {
  carried = carried_then p.carried q.carried;
  adds = λ i s v h. p.adds i s v (q.narrows i s v h);
}

adds_accepted : (block : Sector) (lines : Lines) (c : Card) → can_accept lines c ≡ true
    → Adds block c (accepted block c)
adds_accepted block lines c t = record {
  carried = carried_accepted block c;
  adds = accepted_adds block c (accepts_in_rcv lines c t);
}

-- or what has come so far is settled, and the block is the next one
adds_after : (block : Sector) (lands : ℕ → Bool) (lines : Lines) (c : Card) → can_accept lines c ≡ true
    → Adds block c (accepted block (fallen_short lands c))
adds_after block lands lines c t =
    let before = keeps_fallen_short lands c in
    let rcv = accepts_in_rcv lines c t in
    record {
      carried = carried_then before.carried (carried_accepted block (fallen_short lands c));
      adds = λ p s v h. elim (accepted_adds block (fallen_short lands c) rcv p s v h) [
        | inl old ↦ inl (before.narrows p s v old)
        | inr new ↦ inr (record {
          receives = rcv;
          here = new.here;
          next = (let n = new.next in omega (arith, n));
          offered = new.offered;
        })
      ];
    }

pub wide_after : (change : Option Change) (a b c : Card) → Widens change a b → Keeps b c → Widens change a c
wide_after change a b c p q = record {
  carried = carried_then p.carried q.carried;
  widens = λ i s v h. p.widens i s v (q.narrows i s v h);
}

pub command_widens : (old : BusView) (frame : List ℕ) (reply : Reply) (new : BusView) → MeetsCommand old frame reply new
    → Widens (erased_by old.card (command_in frame)) old.card new.card
command_widens old frame reply new step =
    let change = erased_by old.card (command_in frame) in
    after_command (Widens change old.card) old frame reply new (wide change old.card _ (keeps_same old.card))
    (λ choice. widens_answered choice old.card (command_in frame))
    (λ choice left found _ _. widens_showing choice left found old.card (command_in frame))
    (λ keeps. wide change old.card _ (keeps_garbled keeps old.card))
    (λ bits card _ w. wide_after change old.card card _ w (keeps_raised bits card))
    (λ lands keeps card w. wide_after change old.card card _ w (keeps_reset lands keeps card)) step

pub poll_keeps : (old : BusView) (said : Bool) (new : BusView) → PollStep old said new → Keeps old.card new.card
poll_keeps old said new step =
    after_poll (Keeps old.card) old said new (keeps_same old.card) (keeps_rested old.card) (λ _. keeps_slow old.card)
    (λ lands _. keeps_programmed lands old.card) (λ lands _. keeps_fallen_early lands old.card)
    (λ lands _. keeps_fallen_short lands old.card) (λ ignores card k. keeps_then k (keeps_ignoring ignores card))
    (λ bits card _ k. keeps_then k (keeps_raised bits card)) (λ lands keeps card k. keeps_then k (keeps_reset lands keeps card)) step

pub write_adds : (old : BusView) (block : Sector) (got : DataOut) (new : BusView) → MeetsBlock old block got new
    → Adds block old.card new.card
write_adds old block got new step =
    after_write (Adds block old.card) old block got new (adds_none block old.card _ (keeps_same old.card))
    (λ accepts. adds_accepted block old.lines old.card accepts)
    (λ ignores is_busy _. adds_none block old.card _ (keeps_rejected ignores is_busy old.card))
    (λ lands accepts. adds_after block lands old.lines old.card accepts)
    (λ lands _. adds_none block old.card _
    (keeps_then (keeps_fallen_short lands old.card) (keeps_rejected true false (fallen_short lands old.card))))
    (λ ignores card a. adds_then block old.card card _ a (keeps_ignoring ignores card))
    (λ bits card _ a. adds_then block old.card card _ a (keeps_raised bits card))
    (λ lands keeps card a. adds_then block old.card card _ a (keeps_reset lands keeps card)) step

pub read_keeps : (old : BusView) (size : ℕ) (got : DataIn) (block : Sector) (new : BusView)
    → ReadStep old size got block new → Keeps old.card new.card
read_keeps old size got block new step =
    after_read (Keeps old.card) old size got block new (keeps_same old.card)
    (λ choice _. keeps_sent_from old.card.source choice old.card) (λ bits card _ k. keeps_then k (keeps_raised bits card))
    (λ lands keeps card k. keeps_then k (keeps_reset lands keeps card)) step
