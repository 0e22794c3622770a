use Rattle.std.proofs.Common.{take}
use Rattle.std.specs.Io.KnownBytes.{Appends}
use Rattle.mmc_card.specs.Card.{stored}
use Rattle.card_served.specs.Saved.{bytes_of}
use Rattle.card_served.proofs.saving.save_part.Given as goal

abbrev pub invariant-loop-i : goal.invariant-loop-i
invariant-loop-i g l =
    Appends (g.W.Write.contents l.fn.out) (g.W.Write.contents l.out) (bytes_of (take l.i (stored l.card.card l.part)))
