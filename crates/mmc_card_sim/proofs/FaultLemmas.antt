-- What comes of a block that is sent in an exchange for which a fault is planned.
use Rattle.std.proofs.Common.{◌∙◌, ◌≡◌, Bool, List, ap, false, refl, sym, true, ℕ}
use Rattle.std.specs.Prelude.{Option, if◌then◌else◌}
use Rattle.mmc_card.specs.Blocks.{can_accept, can_send, offered, sent}
use Rattle.mmc_card.specs.Card.{Card}
use Rattle.mmc_card.specs.declared.exchange.DataIn.{DataIn}
use Rattle.mmc_card.specs.declared.exchange.DataIn.TheVariants.{Good, Nothing}
use Rattle.mmc_card.specs.declared.exchange.DataOut.{DataOut}
use Rattle.mmc_card.specs.declared.exchange.DataOut.TheVariants as Sent
use Rattle.mmc_card.specs.declared.exchange.Lines.{Lines}
use Rattle.mmc_card_rows.specs.Chip.{Sends, choice_of}
use Rattle.mmc_card_sim.specs.FaultyExchanges.{Spoils, Writes, fits_write}
use Rattle.mmc_card_rows.specs.declared.delays.Delays.{Delays}
use Rattle.mmc_card_sim.specs.declared.fault.Fault.{Fault}

sends_good : (can : Bool) → Good ≡ (if can then Good else Nothing) → can ≡ true
sends_good true h = refl
sends_good false h = cc

sends_none : (can : Bool) (got : DataIn) → got ≡ (if can then Good else Nothing) → (got ≡ Good → ⊥) → can ≡ false
sends_none true got h none = absurd (none h)
sends_none false got h none = refl

module _ (comes : DataIn) (old new : Card) (lines : Lines) (size : ℕ) (block : List ℕ) where
  -- the block that was sent comes otherwise
  pub spoiled : Sends lines old new size Good block → Spoils comes old lines size comes block true new
  spoiled sends =
      let can : can_send lines size old ≡ true = sends_good (can_send lines size old) sends.got_is in
      record {
        fell_is = sym can;
        fault_card = λ fell. sends.card ∙ ap (λ b. if b then sent (choice_of false) old else old) can;
        fault_got = λ fell. refl;
        sends = λ none. cc;
      }

  -- none was sent
  pub unspoiled : (got : DataIn) → (got ≡ Good → ⊥) → Sends lines old new size got block
      → Spoils comes old lines size got block false new
  unspoiled got none sends = record {
    fell_is = sym (sends_none (can_send lines size old) got sends.got_is none);
    fault_card = λ fell. cc;
    fault_got = λ fell. cc;
    sends = λ no. sends;
  }

-- a block that is written, where no fault falls
pub unfit : (fault : Option Fault) (delays : Delays) (old new : Card) (lines : Lines) (block : List ℕ) (got : DataOut)
    → fits_write fault old lines ≡ false → new ≡ offered lines block old
    → got ≡ (if can_accept lines old then Sent.Accepted else Sent.Nothing)
    → Writes fault delays old lines block got false new
unfit fault delays old new lines block got fits card got_is = record {
  fell_is = sym fits;
  fault_card = λ fell. cc;
  fault_got = λ fell. cc;
  card = λ none. card;
  got_is = λ none. got_is;
}
