use Rattle.std.proofs.Common.{◌<◌, ◌≢◌, ℕ}
use Rattle.std.specs.Prelude.{get_or}
use Rattle.mmc_card.specs.declared.part.Part.{Part}
use Rattle.nbd_server.specs.Names.{all_parts, name_of}
use Rattle.nbd_server.proofs.names.part_by.Given as goal

abbrev pub invariant-loop-part : goal.invariant-loop-part
invariant-loop-part l = (k : ℕ) → k < l.part-index → (d : Part) → name_of (get_or all_parts k d) ≢ l.name
