-- Attempts one after the other, over any bus.
use Rattle.std.proofs.Common.{◌*◌, ◌+◌, ◌-◌, ◌∙◌, ◌≡◌, ◌≤◌, arith, subst, true, ℕ}
use Rattle.std.specs.Prelude.{Err, IfErr, Ok, Result}
use Rattle.mmc_card.specs.BusView.{BusView}
use Rattle.mmc_card.specs.Sectors.{Change}
use Rattle.mmc_switch.specs.Info.{lasting}
use Rattle.mmc_switch.specs.Place.{IsBroken}
use Rattle.mmc_switch.specs.declared.broken.Broken.{Broken}
use Rattle.mmc_switch.specs.declared.session.Session.{Session}
use Rattle.mmc_direct.specs.Attempts.{HasTried, Tries}
use Rattle.mmc_direct.specs.Served.{IsCausedIn}
use Rattle.mmc_switch.specs.Stands.{StandsIn, info_of, stands_of}
use Rattle.mmc_switch.specs.declared.stands.Stands.{Stands}
use Rattle.mmc_direct.proofs.AttemptLemmas.{tried_again, tried_enough}

-- a cause after so many exchanges more
caused_later : (less more : ℕ) (a b : BusView) (result : Result Session Broken) (c : BusView)
    → b.exchanges + less ≤ a.exchanges + more → IfErr result (λ broken. IsCausedIn less broken b c)
    → IfErr result (λ broken. IsCausedIn more broken a c)
caused_later less more a b (Ok session) c later cause = tt
caused_later less more a b (Err broken) c later cause = record {
  heard = cause.heard;
  unsettled = cause.unsettled;
  settles = λ is. let l = cause.settles is in omega (arith, l, later);
}

-- what one attempt does
pub one_try : (each : ℕ) (change : Change) (stands : Stands) (a : BusView) (result : Result Session Broken) (b : BusView)
    → lasting (info_of (stands_of result)) ≡ lasting (info_of stands) → b.exchanges ≤ a.exchanges + each
    → (b.is_kept ≡ true → a.is_kept ≡ true) → IfErr result (λ broken. IsCausedIn 0 broken a b)
    → (b.is_kept ≡ true → StandsIn stands a → HasTried 1 change a result b) → Tries 1 each change stands a result b
one_try each change stands a result b info bounded kept cause tried =
    record {
      info = info;
      bounded = omega (arith, bounded);
      kept = kept;
      cause = caused_later 0 ((1 - 1) * each) a a result b (omega arith) cause;
      tried = tried;
    }

-- one more, where all before it have failed
tries_again : (attempts most : ℕ) (change : Change) (stands : Stands) (broken : Broken) (a b : BusView)
    (result : Result Session Broken) (c : BusView)
    → Tries attempts most change stands a (Err broken) b → Tries 1 most change (Stands.Broken broken) b result c
    → Tries (attempts + 1) most change stands a result c
tries_again attempts most change stands broken a b result c p q = record {
  info = q.info ∙ p.info;
  bounded = let l = p.bounded in let m = q.bounded in omega (arith, l, m);
  kept = λ kept. p.kept (q.kept kept);
  cause =
      let l = p.bounded in
      let same : attempts ≡ attempts + 1 - 1 = omega arith in
      let later : b.exchanges + (1 - 1) * most ≤ a.exchanges + attempts * most = omega (arith, l) in
      caused_later ((1 - 1) * most) ((attempts + 1 - 1) * most) a b result c
      (subst (λ n. b.exchanges + (1 - 1) * most ≤ a.exchanges + n * most) same later) q.cause;
  tried = λ kept at.
      let was = p.tried (q.kept kept) at in
      tried_again attempts change broken a b result c was (q.tried kept was.stands);
}

-- the same of one more at what is left of a request, which asks for the same and changes the same
pub tries_once_more : (attempts each now : ℕ) (change again : Change) (stands : Stands) (broken : Broken) (a b : BusView)
    (result : Result Session Broken) (c : BusView)
    → now ≡ each → again ≡ change → Tries attempts each change stands a (Err broken) b
    → lasting (info_of (stands_of result)) ≡ lasting broken.session.info → c.exchanges ≤ b.exchanges + now
    → (c.is_kept ≡ true → b.is_kept ≡ true) → IfErr result (λ left. IsCausedIn 0 left b c)
    → (c.is_kept ≡ true → IsBroken broken b → HasTried 1 again b result c) → Tries (attempts + 1) each change stands a result c
tries_once_more attempts each now change again stands broken a b result c count same so_far info bounded kept cause tried =
    tries_again attempts each change stands broken a b result c so_far
    (subst (λ n. Tries 1 n change (Stands.Broken broken) b result c) count
    (subst (λ (made : Change). Tries 1 now made (Stands.Broken broken) b result c) same
    (one_try now again (Stands.Broken broken) b result c info bounded kept cause tried)))

-- done, before all were used up
pub tries_enough : (attempts most each : ℕ) (change : Change) (stands : Stands) (session : Session) (a b : BusView)
    → attempts ≤ most → Tries attempts each change stands a (Ok session) b → Tries most each change stands a (Ok session) b
tries_enough attempts most each change stands session a b few p = record {
  info = p.info;
  bounded =
      let l = p.bounded in
      let m : attempts * each ≤ most * each = grind (arith, few) in
      omega (arith, l, m);
  kept = p.kept;
  cause = tt;
  tried = λ kept at. tried_enough attempts most change session a b (p.tried kept at);
}

-- failed, once all were used up
pub tries_all : (attempts most each : ℕ) (change : Change) (stands : Stands) (result : Result Session Broken) (a b : BusView)
    → most ≤ attempts → attempts ≤ most → Tries attempts each change stands a result b
    → Tries most each change stands a result b
tries_all attempts most each change stands result a b least few p =
    let all : attempts ≡ most = omega (arith, least, few) in
    subst (λ n. Tries n each change stands a result b) all p
