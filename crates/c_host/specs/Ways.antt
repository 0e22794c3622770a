-- A host of either kind is what the one is that is there.
use Rattle.mmc_host.specs.Hosts.{HostView}
use Rattle.mmc_host.specs.declared.told.Ios.{Ios}
use Rattle.c_host.specs.declared.way.Way.{Way}
use Rattle.c_host.specs.declared.way.Way.TheVariants.{Host, Registers}

abbrev pub view_by : {F H : Type 0} → (F → HostView) → (H → HostView) → Way F H → HostView
view_by functions registers (Host host) = functions host
view_by functions registers (Registers driver) = registers driver

abbrev pub has_told_by : {F H : Type 0} → (F → Ios → Type 0) → (H → Ios → Type 0) → Way F H → Ios → Type 0
has_told_by functions registers (Host host) ios = functions host ios
has_told_by functions registers (Registers driver) ios = registers driver ios
