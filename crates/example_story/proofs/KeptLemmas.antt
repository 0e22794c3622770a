-- A bus is kept whose host is kept, and which wasn't misused.
use Rattle.std.proofs.Common.{◌&&◌, ◌+◌, ◌≡◌, ◌≤◌, Bool, Err, IfErr, IfOk, Ok, Result, false, not, refl, subst, sym, true, ℕ}
use Rattle.mmc_card.specs.Card.{Card}
use Rattle.mmc_card.specs.Profile.{InProfile}

pub is_kept : (host misused : Bool) → host ≡ true → misused ≡ false → (host && not misused) ≡ true
is_kept host misused p q = rw p (rw q refl)

pub mapped : {T E : Type 0} {P Q : T → Type 0} (result : Result T E) → ((x : T) → P x → Q x) → IfOk result P → IfOk result Q
mapped (Ok x) f p = f x p
mapped (Err e) f p = tt

pub mapped_err : {T E : Type 0} {P Q : E → Type 0} (result : Result T E) → ((e : E) → P e → Q e) → IfErr result P → IfErr result Q
mapped_err (Ok x) f p = tt
mapped_err (Err e) f p = f e p

-- of the same card, on which as many faults have fallen
pub the_same : {card other : Card} {fell same now : ℕ} → card ≡ other → fell ≡ same
    → (InProfile card.made → fell + 3 ≤ now) → InProfile other.made → same + 3 ≤ now
the_same {now = now} p q f ok = subst (λ n. n + 3 ≤ now) q (f (subst (λ c. InProfile c.made) (sym p) ok))
