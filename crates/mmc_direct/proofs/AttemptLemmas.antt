-- What an attempt does, from its parts, and several attempts together.
use Rattle.std.proofs.Common.{◌+◌, ◌-◌, ◌<◌, ◌∙◌, ◌∷◌, ◌≡◌, Bool, List, [], ap, arith, cond, false, inl, inr}
use Rattle.std.proofs.Common.{refl, subst, sym, true, ℕ}
use Rattle.std.specs.Prelude.{Err, IfErr, IfOk, IsErr, IsErrAnd, Ok, Result, Some}
use Rattle.mmc_bus.proofs.WorkLemmas.{narrows_then, stays_same, stays_then}
use Rattle.mmc_bus.specs.Learned.{Stays}
use Rattle.mmc_bus.specs.Work.{Narrows}
use Rattle.mmc_card.proofs.SectorLemmas.{maybe_within, old_maybe}
use Rattle.mmc_card.specs.BusView.{BusView}
use Rattle.mmc_card.specs.Card.{holds}
use Rattle.mmc_card.specs.Profile.{InProfile}
use Rattle.mmc_card.specs.Sectors.{AreRead, Change, IsIn, Same, Sector, Sets, Within, changed, maybe_changed, touches, value_of}
use Rattle.mmc_card.specs.declared.part.Part.{Part}
use Rattle.mmc_erase.specs.Job.{erased}
use Rattle.mmc_erase.specs.Whole.{HasErased}
use Rattle.mmc_recovery.specs.Settled.{Leaves}
use Rattle.mmc_switch.specs.Place.{IsBroken, IsReady}
use Rattle.mmc_switch.specs.UnderWay.{known_part}
use Rattle.mmc_switch.specs.declared.broken.Broken.{Broken}
use Rattle.mmc_switch.specs.declared.session.Session.{Session}
use Rattle.mmc_transfer.specs.Running.{change_for}
use Rattle.mmc_transfer.specs.Whole.{HasRun}
use Rattle.mmc_transfer.specs.declared.way.Way.{Way}
use Rattle.mmc_transfer.specs.declared.way.Way.TheVariants.{Read, Write}
use Rattle.mmc_direct.specs.Attempts.{HasPrepared, HasTried}
use Rattle.mmc_direct.specs.Runs.{HasMade}
use Rattle.mmc_requests.specs.Changes.{TakesEffect, erased_at, written_at}
use Rattle.mmc_switch.specs.Stands.{StandsIn, stands_of}

-- Settling and selecting.

pub left_settled : (result : Result Session Broken) (view : BusView) → Leaves result view → StandsIn (stands_of result) view
left_settled (Ok session) view leaves = leaves
left_settled (Err broken) view leaves = leaves

-- a card that is ready already
pub ready_prepared : (session : Session) (view : BusView) → IsReady session view → HasPrepared view (Ok session) view
ready_prepared session view ready = record {
  stays = stays_same view view.lines;
  narrows = λ part sector value h. h;
  stands = ready;
  fell = tt;
}

pub settled_prepared : (old : BusView) (broken : Broken) (result : Result Session Broken) (new : BusView)
    → Stays old new × Narrows old new → Leaves result new
    → (InProfile old.card.made → IsErr result → old.faults < new.faults) → HasPrepared old result new
settled_prepared old broken (Ok session) new stays leaves refused =
    record { stays = stays.0; narrows = stays.1; stands = leaves; fell = tt }
settled_prepared old broken (Err left) new stays leaves refused =
    record { stays = stays.0; narrows = stays.1; stands = leaves; fell = λ profile. refused profile refl }

-- one that couldn't be settled
pub prepared_in_vain : (broken : Broken) (result : Result Session Broken) (a b : BusView)
    → IsErrAnd result (λ left. left ≡ broken) → HasPrepared a (Err broken) b → HasPrepared a result b
prepared_in_vain broken (Ok session) a b is p = absurd is
prepared_in_vain broken (Err left) a b is p = subst (λ (x : Broken). HasPrepared a (Err x) b) (sym is) p

-- the card of a later view is made as that of an earlier one
profile_then : (a b : BusView) → Stays a b → InProfile a.card.made → InProfile b.card.made
profile_then a b stays profile = subst InProfile (sym stays.carried.made) profile

pub selected_prepared : (session : Session) (a b : BusView) (result : Result Session Broken) (c : BusView)
    → HasPrepared a (Ok session) b → Stays b c × Narrows b c → IfOk result (λ ready. IsReady ready c)
    → IfErr result (λ broken. IsBroken broken c × (b.faults < c.faults)) → HasPrepared a result c
selected_prepared session a b (Ok ready) c was stays is is_broken = record {
  stays = stays_then a b c was.stays stays.0;
  narrows = narrows_then a b c was.narrows stays.1;
  stands = is;
  fell = tt;
}
selected_prepared session a b (Err broken) c was stays is is_broken = record {
  stays = stays_then a b c was.stays stays.0;
  narrows = narrows_then a b c was.narrows stays.1;
  stands = is_broken.0;
  fell = λ profile. let l = was.stays.later in let m = is_broken.1 in omega (arith, l, m);
}

-- Sets.

-- a change of what holds no more
changed_at : (b : Bool) (x v : Sector) (now old : List Sector) → (IsIn now v → IsIn old v) → IsIn (cond b (x ∷ []) now) v
    → IsIn (cond b (x ∷ []) old) v
changed_at true x v now old within h = h
changed_at false x v now old within h = within h

-- a change that is carried out after it may have been
changed_again : (b : Bool) (x v : Sector) (now old : List Sector) → (IsIn now v → IsIn (cond b (x ∷ old) old) v)
    → IsIn (cond b (x ∷ []) now) v → IsIn (cond b (x ∷ []) old) v
changed_again true x v now old within h = h
changed_again false x v now old within h = within h

-- a change that may be carried out after it may have been
maybe_again : (b : Bool) (x v : Sector) (now old : List Sector) → (IsIn now v → IsIn (cond b (x ∷ old) old) v)
    → IsIn (cond b (x ∷ now) now) v → IsIn (cond b (x ∷ old) old) v
maybe_again true x v now old within (inl e) = inl e
maybe_again true x v now old within (inr h) = within h
maybe_again false x v now old within h = within h

carried : (change : Change) (old mid new : Sets) → Within mid old → Same new (changed change mid)
    → TakesEffect change old new
carried change old mid new within same = record {
  alone = λ part sector touched.
      same part sector ∙ ap (λ b. cond b (value_of change sector ∷ []) (mid part sector)) touched;
  within = λ part sector value h.
      changed_at (touches change part sector) (value_of change sector) value (mid part sector) (old part sector)
      (within part sector value) (subst (λ xs. IsIn xs value) (same part sector) h);
}

carried_again : (change : Change) (old mid new : Sets) → Within mid (maybe_changed change old) → TakesEffect change mid new
    → TakesEffect change old new
carried_again change old mid new within done = record {
  alone = done.alone;
  within = λ part sector value h.
      changed_again (touches change part sector) (value_of change sector) value (mid part sector) (old part sector)
      (within part sector value) (done.within part sector value h);
}

-- Runs.

fell_by : (old new : ℕ) → 0 < new - old → old < new
fell_by old new h = omega (arith, h)

moved : (session : Session) (start : ℕ) (way : Way) (blocks : List Sector) (old : BusView) (result : Result Session Broken)
    (new : BusView)
    → HasRun session start way blocks old result new → HasMade (change_for session start way blocks) old result new
moved session start way blocks old (Ok ready) new run =
    record { stays = run.stays; within = run.within; done = (run.leaves.0, run.leaves.1); failed = tt }
moved session start way blocks old (Err broken) new run =
    record {
      stays = run.stays;
      within = run.within;
      done = tt;
      failed = (run.leaves.is_broken, fell_by old.faults new.faults run.leaves.fell);
    }

pub made_write : (session : Session) (part : Part) (start : ℕ) (blocks : List Sector) (old : BusView)
    (result : Result Session Broken) (new : BusView) → session.selected ≡ Some part
    → HasRun session start Write blocks old result new → HasMade (written_at part start blocks) old result new
made_write session part start blocks old result new selected run =
    subst (λ p. HasMade (written_at (known_part p) start blocks) old result new) selected
    (moved session start Write blocks old result new run)

pub made_read : (session : Session) (part : Part) (start : ℕ) (blocks : List Sector) (old : BusView)
    (result : Result Session Broken) (new : BusView) → session.selected ≡ Some part
    → HasRun session start Read blocks old result new → HasMade (written_at part start []) old result new
made_read session part start blocks old result new selected run =
    subst (λ p. HasMade (written_at (known_part p) start []) old result new) selected
    (moved session start Read blocks old result new run)

pub was_read : (session : Session) (part : Part) (start : ℕ) (blocks : List Sector) (old : BusView)
    (result : Result Session Broken) (new : BusView) → session.selected ≡ Some part
    → HasRun session start Read blocks old result new
    → IfOk result (λ ready. AreRead (holds new.card) part start blocks)
was_read session part start blocks old (Ok ready) new selected run =
    subst (λ p. AreRead (holds new.card) (known_part p) start blocks) selected run.leaves.2
was_read session part start blocks old (Err broken) new selected run = tt

made_erased : (session : Session) (start count : ℕ) (old : BusView) (result : Result Session Broken) (new : BusView)
    → HasErased session start count old result new → HasMade (erased session start count) old result new
made_erased session start count old (Ok ready) new run =
    record { stays = run.stays; within = run.within; done = (run.leaves.0, run.leaves.1); failed = tt }
made_erased session start count old (Err broken) new run =
    record {
      stays = run.stays;
      within = run.within;
      done = tt;
      failed = (run.leaves.is_broken, fell_by old.faults new.faults run.leaves.fell);
    }

pub made_erase : (session : Session) (part : Part) (start count : ℕ) (old : BusView) (result : Result Session Broken)
    (new : BusView) → session.selected ≡ Some part
    → HasErased session start count old result new → HasMade (erased_at session.info part start count) old result new
made_erase session part start count old result new selected run =
    subst (λ p. HasMade (erased_at session.info (known_part p) start count) old result new) selected
    (made_erased session start count old result new run)

-- Attempts.

-- one that came to no run
in_vain : (change : Change) (broken : Broken) (a b : BusView) → HasPrepared a (Err broken) b
    → HasTried 1 change a (Err broken) b
in_vain change broken a b p = record {
  stays = p.stays;
  stands = p.stands;
  within = λ part sector value h.
      old_maybe change (holds a.card) part sector value (p.narrows part sector value h);
  done = tt;
  fell = λ profile. let l = p.fell profile in omega (arith, l);
}

pub tried_in_vain : (change : Change) (broken : Broken) (result : Result Session Broken) (a b : BusView)
    → IsErrAnd result (λ left. left ≡ broken) → HasPrepared a (Err broken) b → HasTried 1 change a result b
tried_in_vain change broken (Ok session) a b is p = absurd is
tried_in_vain change broken (Err left) a b is p =
    subst (λ (x : Broken). HasTried 1 change a (Err x) b) (sym is) (in_vain change broken a b p)

-- one that came to a run
pub tried : (change : Change) (session : Session) (a b : BusView) (result : Result Session Broken) (c : BusView)
    → HasPrepared a (Ok session) b → HasMade change b result c → HasTried 1 change a result c
tried change session a b (Ok ready) c p made = record {
  stays = stays_then a b c p.stays made.stays;
  stands = made.done.0;
  within = λ part sector value h.
      maybe_within change (holds b.card) (holds a.card) p.narrows part sector value (made.within part sector value h);
  done = carried change (holds a.card) (holds b.card) (holds c.card) p.narrows made.done.1;
  fell = tt;
}
tried change session a b (Err broken) c p made = record {
  stays = stays_then a b c p.stays made.stays;
  stands = made.failed.0;
  within = λ part sector value h.
      maybe_within change (holds b.card) (holds a.card) p.narrows part sector value (made.within part sector value h);
  done = tt;
  fell = λ profile. let l = p.stays.later in let m = made.failed.1 in omega (arith, l, m);
}

-- One more attempt.
within_again : (change : Change) (a b c : BusView) → Within (holds b.card) (maybe_changed change (holds a.card))
    → Within (holds c.card) (maybe_changed change (holds b.card))
    → Within (holds c.card) (maybe_changed change (holds a.card))
within_again change a b c first second part sector value h =
    maybe_again (touches change part sector) (value_of change sector) value (holds b.card part sector)
    (holds a.card part sector) (first part sector value) (second part sector value h)

pub tried_again : (attempts : ℕ) (change : Change) (broken : Broken) (a b : BusView) (result : Result Session Broken)
    (c : BusView)
    → HasTried attempts change a (Err broken) b → HasTried 1 change b result c → HasTried (attempts + 1) change a result c
tried_again attempts change broken a b (Ok session) c p q = record {
  stays = stays_then a b c p.stays q.stays;
  stands = q.stands;
  within = within_again change a b c p.within q.within;
  done = carried_again change (holds a.card) (holds b.card) (holds c.card) p.within q.done;
  fell = tt;
}
tried_again attempts change broken a b (Err left) c p q = record {
  stays = stays_then a b c p.stays q.stays;
  stands = q.stands;
  within = within_again change a b c p.within q.within;
  done = tt;
  fell = λ profile.
      let l = p.fell profile in
      let m = q.fell (profile_then a b p.stays profile) in
      omega (arith, l, m);
}

-- how many there were says nothing of those that were done
pub tried_enough : (attempts most : ℕ) (change : Change) (session : Session) (a b : BusView)
    → HasTried attempts change a (Ok session) b → HasTried most change a (Ok session) b
tried_enough attempts most change session a b p =
    record { stays = p.stays; stands = p.stands; within = p.within; done = p.done; fell = tt }
