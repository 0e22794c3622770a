-- What was noted is a step, where the story is true of it.
use Rattle.std.proofs.Common.{◌≡◌, ◌∷◌, List, refl}
use Rattle.mmc_card.specs.declared.exchange.Lines.{Lines}
use Rattle.mmc_host.specs.Hosts.{Steps, Where, bus_of}
use Rattle.mmc_host.specs.declared.told.HostState.{HostState}
use Rattle.mmc_story.specs.Entry.{Entry, Event}
use Rattle.mmc_story.specs.Story.{Allows, Story, host_with}

pub is_told : (story : Story) (event : Event) (past now : List Entry) (state new told : HostState) (limits new_limits : Lines)
    → now ≡ record { told = state; limits = limits; event = event } ∷ past → new ≡ told → told.ios ≡ state.ios → new_limits ≡ limits
    → Where (host_with (story.outcome now) new new_limits)
    (Steps (host_with (story.outcome past) state limits) told
    (Allows (bus_of (host_with (story.outcome past) state limits)) event (bus_of (host_with (story.outcome now) new new_limits)))
    (host_with (story.outcome now) new new_limits))
is_told story event past now state new told limits new_limits p q r l =
    rw p (rw q (rw l (λ said. record {
      state = refl;
      limits = refl;
      step = rw r (story.explains (record { told = state; limits = limits; event = event }) past said);
    })))
