-- A list of entries is told from each other one by its code, a tree of numbers.
use Rattle.std.proofs.Common.{◌&&◌, ◌==◌, ◌≡◌, Bool, List, ap, false, refl, true}
use Rattle.std.proofs.lemmas.Bool.{eq-eqb, eqb-true, false≢true}
use base.Stored.{Coded, Gv, coded_list, gcons, gnil, gnum}
use denote.Struct.Codes.{codes}
use Rattle.mmc_story.specs.Entry.{Entry}

pub same : Gv → Gv → Bool
same gnil gnil = true
same (gnum a) (gnum b) = a == b
same (gcons a b) (gcons c d) = same a c && same b d
same _ _ = false

both : (a b : Bool) → (a && b) ≡ true → (a ≡ true) × (b ≡ true)
both true b p = (refl, p)
both false b p = absurd (false≢true p)

pub alike : (a b : Gv) → same a b ≡ true → a ≡ b
unfolding same
alike gnil gnil p = refl
alike (gnum a) (gnum b) p = ap gnum (eqb-true a b p)
alike (gcons a b) (gcons c d) p =
    let q = both (same a c) (same b d) p in λ i. gcons (alike a c q.0 i) (alike b d q.1 i)
alike gnil (gnum b) p = absurd (false≢true p)
alike gnil (gcons c d) p = absurd (false≢true p)
alike (gnum a) gnil p = absurd (false≢true p)
alike (gnum a) (gcons c d) p = absurd (false≢true p)
alike (gcons a b) gnil p = absurd (false≢true p)
alike (gcons a b) (gnum d) p = absurd (false≢true p)

pub itself : (a : Gv) → same a a ≡ true
unfolding same
itself gnil = refl
itself (gnum a) = eq-eqb a a refl
itself (gcons a b) = rw (itself a) (rw (itself b) refl)

entries : Coded (List Entry)
entries = coded_list (hlevel codes)

pub are_same : List Entry → List Entry → Bool
are_same a b = same (entries.code a) (entries.code b)

pub are_alike : (a b : List Entry) → are_same a b ≡ true → a ≡ b
unfolding are_same
are_alike a b p = entries.inj a b (alike (entries.code a) (entries.code b) p)

pub are_themselves : (a : List Entry) → are_same a a ≡ true
unfolding are_same
are_themselves a = itself (entries.code a)
