use Rattle.std.specs.Prelude.{Err}
use Rattle.mmc_direct.specs.Attempts.{Tries, exchanges_of}
use Rattle.mmc_direct.specs.Healing.{Heals}
use Rattle.mmc_switch.specs.Stands.{info_of}
use Rattle.mmc_switch.specs.declared.stands.Stands.TheVariants as Stands
use Rattle.mmc_direct.proofs.retries.keep_trying.Given as goal

abbrev pub invariant-loop-failed : goal.invariant-loop-failed
invariant-loop-failed g l = record {
  tries : Tries l._failed (exchanges_of (g.R.Request.asked l.fn.request)) (g.R.Request.change (info_of l.fn.stands) l.fn.request)
      l.fn.stands (g.B.Bus.view l.fn.bus) (Err l.broken) (g.B.Bus.view l.bus);
  leaves : g.R.Request.leaves l.fn.request l.request;
  heals : Heals l.fn.stands l.fn.healed l._failed (Stands.Broken l.broken) l.healed;
}
