use Rattle.mmc_host.proofs.WireLemmas.{faithful_is_heard, unsound_is_lost}
use Rattle.mmc_host.proofs.laws.a_host_can_tell_what_a_wire_carries.Goals as goal

pub returns : goal.returns
returns c = record { faithful = faithful_is_heard; unsound = unsound_is_lost }
