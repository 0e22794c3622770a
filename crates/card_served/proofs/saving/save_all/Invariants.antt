use Rattle.std.proofs.Common.{take}
use Rattle.std.specs.Io.KnownBytes.{Appends}
use Rattle.card_served.specs.Saved.{all_parts, bytes_in}
use Rattle.card_served.proofs.saving.save_all.Given as goal

abbrev pub invariant-loop-part : goal.invariant-loop-part
invariant-loop-part g l =
    Appends (g.W.Write.contents l.fn.out) (g.W.Write.contents l.out) (bytes_in l.card.card (take l.part-index all_parts))
