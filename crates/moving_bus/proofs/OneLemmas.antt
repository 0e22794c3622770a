-- An exchange is one of several.
use Rattle.std.proofs.Common.{◌≡◌, List, arith, subst, ℕ}
use Rattle.mmc_card.specs.BusView.{BusView}
use Rattle.mmc_card.specs.declared.exchange.DataIn.{DataIn}
use Rattle.mmc_bus.specs.Exchanges.{DataRead}
use Rattle.mmc_bus.specs.Together.{BlockRead}

pub one_read : (a b : BusView) (got : DataIn) (bytes : List ℕ) (size : ℕ) → size ≡ 512 → DataRead a size got bytes b
    → BlockRead a got bytes b
one_read a b got bytes size is read =
    let e = subst (λ n. DataRead a n got bytes b) is read in
    let count = e.exchanges in
    record {
      lines = e.lines;
      limits = e.limits;
      last = e.last;
      exchanges = omega (arith, count);
      kept = e.kept;
    }
