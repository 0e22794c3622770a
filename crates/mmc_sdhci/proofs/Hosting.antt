-- The driver as a host: the bus that its registers drive is the bus of the host.
use Rattle.std.proofs.Common.{◌∙◌, ◌≡◌, ap, refl, subst, sym}
use Rattle.std.specs.Prelude.{None, Result, is_ok}
use Rattle.mmc_card.specs.BusView.{BusView}
use Rattle.mmc_card.specs.declared.exchange.Lines.{Lines}
use Rattle.mmc_bus.specs.Exchanges.{Kept}
use Rattle.mmc_host.specs.HostStates.{lines_of, sent}
use Rattle.mmc_host.specs.Hosts.{Answers, Sends as HostSends, answer_heard, bus_of}
use Rattle.mmc_host.specs.declared.told.Heard.{Heard}
use Rattle.mmc_host.specs.declared.told.HostCommand.{HostCommand}
use Rattle.mmc_host.specs.declared.told.HostState.{HostState}
use Rattle.mmc_host.specs.declared.told.ResponseFault.{ResponseFault}
use Rattle.mmc_sdhci.specs.Commands.{Sends}
use Rattle.mmc_sdhci.specs.Controller.{Built, ControllerView, Settings, limits_of, lines_in, seen}
use Rattle.mmc_sdhci.specs.Driver.{host_over}
use Rattle.mmc_sdhci.specs.Moving.{WhereKept}

abbrev over_lines : ControllerView → Lines → Lines → BusView
over_lines view lines limits =
    record {
      card = view.card;
      lines = lines;
      limits = limits;
      last = None;
      exchanges = 0;
      faults = view.faults;
      may_fall = view.may_fall;
      is_kept = view.is_kept;
    }

pub same_bus : (view : ControllerView) (state : HostState) (limits : Lines)
    → lines_in view.settings.control ≡ lines_of state.ios → limits_of view.built ≡ limits
    → seen view ≡ bus_of (host_over view state limits)
same_bus view state limits lines most =
    ap (λ (l : Lines). over_lines view l (limits_of view.built)) lines
    ∙ ap (λ (l : Lines). over_lines view (lines_of state.ios) l) most

pub sent_over : (v0 v1 : ControllerView) (state after : HostState) (limits : Lines) (command : HostCommand)
    (heard : Result Heard ResponseFault) → WhereKept v0 (lines_in v0.settings.control ≡ lines_of state.ios)
    → WhereKept v0 (limits_of v0.built ≡ limits) → after ≡ sent state command (is_ok heard) → Sends v0 command heard v1
    → HostSends (host_over v0 state limits) command heard (host_over v1 after limits)
sent_over v0 v1 state after limits command heard lines most is sends kept =
    let s = sends kept in
    let before : seen v0 ≡ bus_of (host_over v0 state limits) = same_bus v0 state limits (lines s.0) (most s.0) in
    let now : seen v1 ≡ bus_of (host_over v1 after limits) =
    same_bus v1 after limits
    (ap (λ (t : Settings). lines_in t.control) s.1.settings
    ∙ (lines s.0 ∙ sym (ap (λ (t : HostState). lines_of t.ios) is)))
    (ap (λ (b : Built). limits_of b) s.1.built ∙ most s.0) in
    record {
      state = is;
      limits = refl;
      step = subst (λ (b : BusView). Kept (bus_of (host_over v0 state limits))
          (Answers (bus_of (host_over v0 state limits)) command.index command.argument
          (answer_heard command.response command.index heard) b) b) now
          (subst (λ (b : BusView). Kept b (Answers b command.index command.argument
          (answer_heard command.response command.index heard) (seen v1)) (seen v1)) before s.1.step);
    }
