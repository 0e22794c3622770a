-- Identification, and then width and speed.
use Rattle.std.proofs.Common.{◌≡◌, false, refl, subst, sym, true}
use Rattle.std.specs.Prelude.{Err, IfOk, IsOk, Ok, Result}
use Rattle.mmc_card.specs.BusView.{BusView}
use Rattle.mmc_card.specs.Profile.{InProfile}
use Rattle.mmc_bus.proofs.WorkLemmas.{moved_then, quiet_parts}
use Rattle.mmc_bus.specs.Work.{Moved}
use Rattle.mmc_identify.specs.Stages.{IsFound, IsLeft}
use Rattle.mmc_identify.specs.declared.found.Found.{Found}
use Rattle.mmc_switch.specs.Place.{IsInitialized}
use Rattle.mmc_switch.specs.Stages.{first_lines}
use Rattle.mmc_switch.specs.declared.initialization.InitializationFault.{InitializationFault}
use Rattle.mmc_switch.specs.declared.session.Session.{Session}

-- what this result says of it
abbrev pub Initializes : Result Session InitializationFault → BusView → BusView → Type 0
Initializes r =
    Moved (λ old new. IfOk r (λ session. IsInitialized session new))
    (λ old new. InProfile old.card.made → IsOk r)

-- what identification does that finds this
abbrev pub Finds : Found → BusView → BusView → Type 0
Finds found =
    Moved (λ old new. IsFound old.card.made found × IsLeft found.rca new.card)
    (λ old new. InProfile old.card.made → true ≡ true)

module _ (found : Found) (a b c : BusView) (lines : b.lines ≡ first_lines) (p : Finds found a b) where
  own : IsFound b.card.made found
  own = subst (λ m. IsFound m found) (sym p.stays.carried.made) p.own.0

  -- What was found isn't widened.
  pub widens_none : (fault : InitializationFault)
      → Moved (λ old new. IsFound old.card.made found → IsLeft found.rca old.card
      → old.lines ≡ first_lines → Unit {0})
      (λ old new. InProfile old.card.made → IsFound old.card.made found → IsLeft found.rca old.card
      → old.lines ≡ first_lines → false ≡ true) b c → Initializes (Err fault) a c
  widens_none fault q =
      moved_then a b c p q tt
      (λ same profile. cc (q.fine (quiet_parts a b c p.stays q.stays same).1
      (subst InProfile (sym p.stays.carried.made) profile) own p.own.1 lines))

  -- It is widened.
  pub widens_so : (session : Session)
      → Moved (λ old new. IsFound old.card.made found → IsLeft found.rca old.card
      → old.lines ≡ first_lines → IsInitialized session new)
      (λ old new. InProfile old.card.made → IsFound old.card.made found → IsLeft found.rca old.card
      → old.lines ≡ first_lines → true ≡ true) b c → Initializes (Ok session) a c
  widens_so session q =
      moved_then a b c p q
      (q.own own p.own.1 lines)
      (λ same profile. refl)
