-- What holds of both branches holds of the conditional, and what holds of a value holds of one that equals it.
use Rattle.std.proofs.Common.{◌||◌, ◌≡◌, Bool, cond, false, not, refl, subst, sym, true}
use Rattle.std.proofs.lemmas.Bool.{cond_both}

pub by_cond : {X : Type 0} (P : X → Type 0) (b : Bool) {x y : X} → (b ≡ true → P x) → (b ≡ false → P y) → P (cond b x y)
by_cond P b p q = cond_both b _ _ P p q

-- of a pair's first part
pub first_by_cond : {X Y : Type 0} (P : X → Type 0) (b : Bool) (x y : X × Y) → (b ≡ true → P x.0) → (b ≡ false → P y.0)
    → P (cond b x y).0
first_by_cond P b x y p q = by_cond {X = _ × _} (λ r. P r.0) b p q

pub along : {X : Type 0} (P : X → Type 0) {x y : X} → y ≡ x → P x → P y
along P e h = subst P (sym e) h

-- of a condition and the negation of another one holds
pub neither : (a b : Bool) → (a || not b) ≡ true → a ≡ false → b ≡ false
neither a false h n = refl
neither a true h n = cc
