-- How often a cookie is due.
use Rattle.std.proofs.Common.{[], inl, inr, arith, length-append, refl, ◌+◌, ◌++◌, ◌∷◌, ◌≡◌, List, ℕ}
use Rattle.std.proofs.lemmas.List.{get_or_append_left}
use Rattle.std.specs.Prelude.{map}
use Rattle.mmc_block.specs.Any.{AreFor}
use Rattle.mmc_block.specs.Machine.{IsMerged, Waiting}
use Rattle.mmc_block.specs.declared.completion.Completion.{Completion}
use Rattle.nbd_server.specs.Acts.{cookie_under, cookies_of, times}
use Rattle.nbd_server.specs.Desk.{AreNumbered}

-- how often it is among these
pub times_then : (x : ℕ) (cs ds : List ℕ) → times x (cs ++ ds) ≡ times x cs + times x ds
unfolding times
times_then x [] ds = omega arith
times_then x (c ∷ cs) ds = let h = times_then x cs ds in omega (arith, h)

pub no_times : (x : ℕ) → times x [] ≡ 0
unfolding times
no_times x = refl

-- how often it is the cookie of one of these
abbrev pub load : List ℕ → ℕ → List Waiting → ℕ
load cookies x ws = times x (map (λ (w : Waiting). cookie_under cookies w.client) ws)

pub load_then : (cookies : List ℕ) (x : ℕ) (ws vs : List Waiting)
    → load cookies x (ws ++ vs) ≡ load cookies x ws + load cookies x vs
unfolding times
load_then cookies x [] vs = omega arith
load_then cookies x (w ∷ ws) vs = let h = load_then cookies x ws vs in omega (arith, h)

pub load_merged : (cookies : List ℕ) (x : ℕ) (zs xs ys : List Waiting) → IsMerged zs xs ys
    → load cookies x zs ≡ load cookies x xs + load cookies x ys
unfolding times
load_merged cookies x [] xs ys (no_xs, no_ys) = rw (no_xs, no_ys) refl
load_merged cookies x (z ∷ zs) xs ys (inl (rest, is, more)) =
    let h = load_merged cookies x zs rest ys more in rw is (omega (arith, h))
load_merged cookies x (z ∷ zs) xs ys (inr (rest, is, more)) =
    let h = load_merged cookies x zs xs rest more in rw is (omega (arith, h))

-- answers are under the cookies of whom they answer
pub load_answered : (cookies : List ℕ) (x : ℕ) (ws : List Waiting) (given : List Completion) → AreFor ws given
    → times x (cookies_of cookies given) ≡ load cookies x ws
unfolding times
load_answered cookies x [] given none = rw none refl
load_answered cookies x (w ∷ ws) given (answer, rest, is, fits, more) =
    let h = load_answered cookies x ws rest more in rw is (omega (arith, h))

-- another cookie after them changes nothing
pub load_more : (cookies : List ℕ) (cookie x : ℕ) (ws : List Waiting) → AreNumbered cookies ws
    → load (cookies ++ cookie ∷ []) x ws ≡ load cookies x ws
unfolding times
load_more cookies cookie x [] h = refl
load_more cookies cookie x (w ∷ ws) h =
    let same = get_or_append_left cookies (cookie ∷ []) 0 w.client h.0 in
    let rest = load_more cookies cookie x ws h.1 in
    rw same (omega (arith, rest))

-- Numbers.

pub numbered_then : (cookies : List ℕ) (ws vs : List Waiting) → AreNumbered cookies ws → AreNumbered cookies vs
    → AreNumbered cookies (ws ++ vs)
numbered_then cookies [] vs p q = q
numbered_then cookies (w ∷ ws) vs p q = (p.0, numbered_then cookies ws vs p.1 q)

pub numbered_front : (cookies : List ℕ) (ws vs : List Waiting) → AreNumbered cookies (ws ++ vs) → AreNumbered cookies ws
numbered_front cookies [] vs h = tt
numbered_front cookies (w ∷ ws) vs h = (h.0, numbered_front cookies ws vs h.1)

pub numbered_after : (cookies : List ℕ) (ws vs : List Waiting) → AreNumbered cookies (ws ++ vs)
    → AreNumbered cookies vs
numbered_after cookies [] vs h = h
numbered_after cookies (w ∷ ws) vs h = numbered_after cookies ws vs h.1

pub numbered_merged : (cookies : List ℕ) (zs xs ys : List Waiting) → IsMerged zs xs ys → AreNumbered cookies zs
    → AreNumbered cookies xs × AreNumbered cookies ys
numbered_merged cookies [] xs ys (no_xs, no_ys) h = rw (no_xs, no_ys) (tt, tt)
numbered_merged cookies (z ∷ zs) xs ys (inl (rest, is, more)) h =
    let (p, q) = numbered_merged cookies zs rest ys more h.1 in rw is ((h.0, p), q)
numbered_merged cookies (z ∷ zs) xs ys (inr (rest, is, more)) h =
    let (p, q) = numbered_merged cookies zs xs rest more h.1 in rw is (p, (h.0, q))

pub numbered_more : (cookies : List ℕ) (cookie : ℕ) (ws : List Waiting) → AreNumbered cookies ws
    → AreNumbered (cookies ++ cookie ∷ []) ws
numbered_more cookies cookie [] h = tt
numbered_more cookies cookie (w ∷ ws) h =
    let longer = length-append cookies (cookie ∷ []) in
    let below = h.0 in (omega (arith, below, longer), numbered_more cookies cookie ws h.1)
