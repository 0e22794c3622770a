-- What comes of a sector that is written and read back.
use Rattle.std.specs.Prelude.{◌++◌, ◌∷◌, ◌≡◌, [], List, length, pos}
use Rattle.mmc_card.specs.Card.{Card}
use Rattle.mmc_card.specs.declared.exchange.Lines.{Lines}
use Rattle.mmc_requests.specs.declared.kind.Kind.TheVariants.{Read, Write}
use Rattle.kelifandro.specs.Asked.{AreWhole}
use Rattle.kelifandro.specs.History.{Call, HasServed, Told}
use Rattle.kelifandro.specs.History.Call.{Closed, Opened, Served}

-- the card was only opened and closed
abbrev pub AreOpenings : List Call → Type 0
AreOpenings [] = Unit {0}
AreOpenings (Opened number ∷ calls) = AreOpenings calls
AreOpenings (Served told ∷ calls) = ⊥
AreOpenings (Closed ∷ calls) = AreOpenings calls

-- The one reads the sectors that the other writes, and both are done, with memory of whole sectors.
pub record ReadsBack (wrote read : Told) : Type 0 where
  pub writes : wrote.asked.kind ≡ Write
  pub reads : read.asked.kind ≡ Read
  pub part : read.asked.part ≡ wrote.asked.part
  pub start : read.asked.start ≡ wrote.asked.start
  pub length : length read.before ≡ length wrote.before
  pub write_done : wrote.number ≡ pos 0
  pub read_done : read.number ≡ pos 0
  pub whole_before : AreWhole wrote.before
  pub whole_after : AreWhole read.after

-- What was written and is read back, with nothing but openings between, is what was written.
abbrev pub WrittenIsReadBack : Type 0
WrittenIsReadBack =
    (limits : Lines) (start now : Card) (wrote read : Told) (between earlier : List Call)
    → HasServed limits start now (Served read ∷ (between ++ Served wrote ∷ earlier)) → AreOpenings between → ReadsBack wrote read
    → read.after ≡ wrote.before
