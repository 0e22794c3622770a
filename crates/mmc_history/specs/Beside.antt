-- Headline (docs/AUDIT.md, "What to read").
-- What holds of a device's calls beside the headline: a page each.
use Rattle.std.specs.Prelude.{List}
use Rattle.mmc_card.specs.BusView.{BusView}
use Rattle.mmc_switch.specs.declared.info.Info.{Info}
use Rattle.mmc_block.specs.Clients.{Told}
use Rattle.mmc_block.specs.Machine.{Machine}
use Rattle.mmc_history.specs.Failures.{FailuresTakeFaults}
use Rattle.mmc_history.specs.Groups.{AreGrouped}
use Rattle.mmc_history.specs.Order.{AreInOrder}
use Rattle.mmc_history.specs.Refusals.{AreRefusedFirst}

pub record HoldsBeside (info : Info) (opened now : BusView) (calls : List Told) : Type 0 where
  pub failures : FailuresTakeFaults opened now calls
  pub refusals : AreRefusedFirst info opened.card calls
  pub machine : Machine
  pub groups : AreGrouped info opened.card now.card calls machine
  pub in_order : AreInOrder info opened.card now.card calls machine
