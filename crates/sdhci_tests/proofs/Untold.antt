-- A controller over a story that is never true is never kept.
use Rattle.std.proofs.Common.{◌≡◌, Bool, false, true}
use Rattle.std.specs.Prelude.{if◌then◌else◌}
use Rattle.std.proofs.lemmas.Bool.{false≢true}

pub never_kept : (sound : Bool) → (if sound then false else false) ≡ true → ⊥
never_kept true kept = false≢true kept
never_kept false kept = false≢true kept
