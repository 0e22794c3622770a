-- Rounds of opening a card.
use Rattle.std.proofs.Common.{◌+◌, ◌<◌, ◌≡◌, ◌≤◌, ◌⊎◌, arith, inl, inr, refl, subst, sym, true, ℕ}
use Rattle.std.specs.Prelude.{Err, IsErr, Ok, Result}
use Rattle.mmc_card.specs.BusView.{BusView}
use Rattle.mmc_card.specs.Profile.{InProfile}
use Rattle.mmc_bus.proofs.WorkLemmas.{fell, moved_then, quiet_parts}
use Rattle.mmc_switch.proofs.InitializeLemmas.{Initializes}
use Rattle.mmc_switch.specs.declared.initialization.InitializationFault.{InitializationFault}
use Rattle.mmc_switch.specs.declared.session.Session.{Session}

-- a round, and another one
again : (first r : Result Session InitializationFault) (a b c : BusView) → Initializes first a b → Initializes r b c → Initializes r a c
again first r a b c p q =
    moved_then a b c p q q.own
    (λ same profile. q.fine (quiet_parts a b c p.stays q.stays same).1
    (subst InProfile (sym p.stays.carried.made) profile))

profile_then : (r : Result Session InitializationFault) (a b : BusView) → Initializes r a b → InProfile a.card.made
    → InProfile b.card.made
profile_then r a b p profile = subst InProfile (sym p.stays.carried.made) profile

-- a fault fell in a round that failed
fell_in : (r : Result Session InitializationFault) (a b : BusView) → IsErr r → Initializes r a b → InProfile a.card.made
    → a.faults < b.faults
fell_in (Ok session) a b err p profile = cc err
fell_in (Err fault) a b err p profile = fell a b p.stays (λ same. cc (p.fine same profile))

-- so many rounds have failed, the last one by this
abbrev pub HasFailed : ℕ → InitializationFault → BusView → BusView → Type 0
HasFailed rounds fault a b = Initializes (Err fault) a b × (InProfile a.card.made → a.faults + rounds ≤ b.faults)

failed_once : (fault : InitializationFault) (a b : BusView) → Initializes (Err fault) a b → HasFailed 1 fault a b
failed_once fault a b p = (p, λ profile. let fell = fell_in (Err fault) a b refl p profile in omega (arith, fell))

failed_again : (rounds : ℕ) (first fault : InitializationFault) (a b c : BusView) → HasFailed rounds first a b
    → Initializes (Err fault) b c → HasFailed (rounds + 1) fault a c
failed_again rounds first fault a b c failed q = (
  again (Err first) (Err fault) a b c failed.0 q,
  λ profile.
      let before = failed.1 profile in
      let fell = fell_in (Err fault) b c refl q (profile_then (Err first) a b failed.0 profile) in
      omega (arith, before, fell),
)

-- no round was made yet, or so many have failed
abbrev pub InVain : ℕ → InitializationFault → BusView → BusView → Type 0
InVain rounds fault a b = ((rounds ≡ 0) × (b ≡ a)) ⊎ (b.is_kept ≡ true → HasFailed rounds fault a b)

pub in_vain_again : (rounds : ℕ) (first fault : InitializationFault) (a b c : BusView) → InVain rounds first a b
    → (c.is_kept ≡ true → Initializes (Err fault) b c) → InVain (rounds + 1) fault a c
in_vain_again rounds first fault a b c (inl none) round =
    inr (λ kept.
    let failed = failed_once fault a c (subst (λ (v : BusView). Initializes (Err fault) v c) none.1 (round kept)) in
    let n = none.0 in
    (failed.0, λ profile. let fell = failed.1 profile in omega (arith, fell, n)))
in_vain_again rounds first fault a b c (inr failed) round =
    inr (λ kept. let q = round kept in failed_again rounds first fault a b c (failed q.was_kept) q)

-- after rounds in vain one succeeds
pub at_last : (rounds : ℕ) (first : InitializationFault) (session : Session) (a b c : BusView) → InVain rounds first a b
    → Initializes (Ok session) b c → Initializes (Ok session) a c
at_last rounds first session a b c (inl none) q = subst (λ (v : BusView). Initializes (Ok session) v c) none.1 q
at_last rounds first session a b c (inr failed) q = again (Err first) (Ok session) a b c (failed q.was_kept).0 q

pub all_in_vain : (rounds : ℕ) (fault : InitializationFault) (a b : BusView) → 0 < rounds → InVain rounds fault a b
    → b.is_kept ≡ true → HasFailed rounds fault a b
all_in_vain rounds fault a b some (inl none) kept = let n = none.0 in absurd (omega (arith, n, some))
all_in_vain rounds fault a b some (inr failed) kept = failed kept
