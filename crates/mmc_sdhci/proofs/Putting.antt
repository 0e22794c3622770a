-- A block that is written to the buffer, a word at a time.
use Rattle.std.proofs.Common.{◌*◌, ◌<◌, ◌≡◌, List, false, take, true, ℕ}
use Rattle.mmc_sdhci.specs.Controller.{ControllerView}

-- so many words of it are there
pub record ArePut (old : ControllerView) (words : ℕ) (block : List ℕ) (new : ControllerView) : Type 0 where
  pub same : new ≡ record old { outgoing = new.outgoing; is_ready = new.is_ready }
  pub bytes : new.outgoing ≡ take (4 * words) block
  pub first : words ≡ 0 → new.is_ready ≡ true
  pub then_on : 0 < words → new.is_ready ≡ false
