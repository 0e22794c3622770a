use Rattle.std.proofs.Common.{ap, arith, false, refl}
use Rattle.mmc_switch.specs.declared.mmc.TheConstants.{EXCHANGES_OF_A_SWITCH}
use Rattle.mmc_block.specs.Work.{most_ready}
use Rattle.mmc_block.specs.declared.service.Stage.TheVariants.{At}
use Rattle.mmc_block.proofs.StepLemmas.{advances_within, broken_turned, select_most, ready_turned}
use Rattle.mmc_block.proofs.step.settle_or_select.Goals as goal

pub returns-in-Ready : goal.returns-in-Ready
returns-in-Ready g c = record {
  stepped = λ pace. record {
    advances = rw c.in-Ready.is (advances_within _ _ EXCHANGES_OF_A_SWITCH (most_ready pace) _ _ c.args.group.now c.args.group.now _ _ _
        refl (select_most pace) (omega arith) c.select_partition.ensures.advances);
    servable = c.requires.servable;
    did = λ kept faults at.
        ready_turned (At c.args.stands) c.in-Ready.session c.args.group.now c.args.group.now faults (g.B.Bus.view c.args.bus.now)
        (g.B.Bus.view c.select_partition.new.bus) c.select_partition.result (ap At c.in-Ready.is) (λ ready. c.select_partition.ensures.did kept ready) at;
  };
  healed = rw c.in-Ready.is (record { was_reset = false; tells = tt; healed = refl });
}

pub returns-in-Broken : goal.returns-in-Broken
returns-in-Broken g c = record {
  stepped = λ pace. record {
    advances = rw c.in-Broken.is (c.settle.ensures.advances c.args.group.now c.requires.joined);
    servable = c.requires.servable;
    did = λ kept faults at.
        broken_turned (At c.args.stands) c.in-Broken.broken c.args.group.now c.args.group.now faults (g.B.Bus.view c.args.bus.now)
        (g.B.Bus.view c.settle.new.bus) c.settle.result (ap At c.in-Broken.is)
        (λ is_broken. c.settle.ensures.did kept is_broken c.args.group.now faults) at;
  };
  healed = rw c.in-Broken.is c.settle.ensures.healed;
}
