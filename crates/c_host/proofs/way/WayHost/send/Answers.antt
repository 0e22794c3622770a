use Rattle.std.proofs.Common.{subst, sym}
use Rattle.mmc_host.specs.Hosts.{Sends}
use Rattle.c_host.specs.Ways.{view_by}
use Rattle.c_host.proofs.way.WayHost.send.Goals as goal

-- src/way.rt:36:5
pub returns-in-Host : goal.returns-in-Host
returns-in-Host g c =
    subst
    (λ w. Sends (view_by g.F.Host.view g.H.Host.view w) c.args.command c.send.result (g.F.Host.view c.send.new.self))
    (sym c.in-Host.is) c.send.ensures

-- src/way.rt:36:5
pub returns-in-Registers : goal.returns-in-Registers
returns-in-Registers g c =
    subst
    (λ w. Sends (view_by g.F.Host.view g.H.Host.view w) c.args.command c.send-in-Registers.result
    (g.H.Host.view c.send-in-Registers.new.self))
    (sym c.in-Registers.is) c.send-in-Registers.ensures
