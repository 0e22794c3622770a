-- Settling: a reset at once, or after the card couldn't be restored where it stands.
use Rattle.std.proofs.Common.{◌<◌, ◌≡◌, false, refl, subst, sym}
use Rattle.std.specs.Prelude.{IsErr, Ok, Result}
use Rattle.mmc_card.specs.BusView.{BusView}
use Rattle.mmc_card.specs.Profile.{InProfile}
use Rattle.mmc_bus.proofs.WorkLemmas.{fell, moved_then, quiet_parts, refuted}
use Rattle.mmc_bus.specs.Learned.{Stays}
use Rattle.mmc_bus.specs.Work.{Moved, Narrows}
use Rattle.mmc_switch.specs.Place.{IsBroken, IsReady, Knows}
use Rattle.mmc_switch.specs.declared.broken.Broken.{Broken}
use Rattle.mmc_switch.specs.declared.info.Info.{Info}
use Rattle.mmc_switch.specs.declared.session.Session.{Session}
use Rattle.mmc_switch.proofs.UnderWayLemmas.{knows_then}
use Rattle.mmc_recovery.proofs.OrderLemmas.{Restored}
use Rattle.mmc_recovery.proofs.ReopenLemmas.{Resets}

-- What stays, and what sectors may hold.
pub resets_stays : (broken : Broken) (r : Result Session Broken) (a b : BusView) → Resets broken r a b
    → Stays a b × Narrows a b
resets_stays broken r a b p = (p.stays, p.sectors)

-- A reset after anything else.
pub resets_then : {Own Fine : BusView → BusView → Type 0} (broken : Broken) (r : Result Session Broken)
    (a b c : BusView) → Moved Own Fine a b → Resets broken r b c → Resets broken r a c
resets_then broken r a b c p q =
    let still = knows_then broken.session a b p.stays in
    moved_then a b c p q (λ knows. q.own (still knows))
    (λ same profile knows. q.fine (quiet_parts a b c p.stays q.stays same).1
    (subst InProfile (sym p.stays.carried.made) profile) (still knows))

-- a fault fell in a reset that failed
pub resets_fell : (broken : Broken) (r : Result Session Broken) (a b : BusView) → Resets broken r a b
    → Knows broken.session a → InProfile a.card.made → IsErr r → a.faults < b.faults
resets_fell broken r a b p knows profile err =
    fell a b p.stays (λ same. refuted r err (p.fine same profile knows))

-- The card is restored where it stands, and ready for its session.
pub restored_ready : (broken : Broken) (session : Session) (info : Info) (a b : BusView) → broken.must_reset ≡ false
    → info ≡ broken.session.info → session ≡ broken.session → Restored info (Ok tt) a b → IsBroken broken a
    → IsReady session b
restored_ready broken session info a b none is e p is_broken =
    subst (λ s. IsReady s b) (sym e) ((p.own broken.session (sym is) is_broken.knows (is_broken.stands none)).0 refl)
