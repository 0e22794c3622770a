-- Both places of an entry, put into a set of places or taken out.
use Rattle.std.proofs.Common.{◌&&◌, ◌∙◌, ◌≡◌, Bool, ap, cond, false, refl, sym, true}
use Rattle.std.specs.Prelude.{◌||◌, not}
use Rattle.std.specs.List.{list_any}
use Rattle.std.specs.BTreeMap.{is_at}
use Rattle.std.specs.BTreeSet.{BTreeSet, IsUnchanged, Updates}
use Rattle.mmc_queue.specs.Places.{is_place_of, place_cmp, place_of, shows}
use Rattle.mmc_queue.specs.declared.entry.Entry.{Entry}
use Rattle.mmc_queue.specs.declared.place.Edge.TheVariants.{End, Start}
use Rattle.mmc_queue.specs.declared.place.Place.{Place}
use Rattle.mmc_queue.proofs.PlaceLemmas.{two_places}

two_in : (a b o : Bool) → cond b true (cond a true o) ≡ ((a || b) || o)
two_in true true o = refl
two_in true false o = refl
two_in false true o = refl
two_in false false o = refl

two_out : (a b o : Bool) → cond b false (cond a false o) ≡ (not (a || b) && o)
two_out true true o = refl
two_out true false o = refl
two_out false true o = refl
two_out false false o = refl

in_and_out : (a b o : Bool) → ((a || b) ≡ true → o ≡ false) → cond a false (cond a true o) ≡ o
in_and_out true b o absent = sym (absent refl)
in_and_out false b o absent = refl

pub both_in : (e : Entry) (old mid new : BTreeSet Place) (q : Place)
    → Updates place_cmp old mid (place_of Start e) true → Updates place_cmp mid new (place_of End e) true
    → shows new q ≡ (is_place_of e q || shows old q)
both_in e old mid new q first second =
    rw (second.0 q, first.0 q, two_places e q)
    (two_in (is_at (place_cmp (place_of Start e)) q) (is_at (place_cmp (place_of End e)) q) (shows old q))

pub both_out : (e : Entry) (old mid new : BTreeSet Place) (q : Place)
    → Updates place_cmp old mid (place_of Start e) false → Updates place_cmp mid new (place_of End e) false
    → shows new q ≡ (not (is_place_of e q) && shows old q)
both_out e old mid new q first second =
    rw (second.0 q, first.0 q, two_places e q)
    (two_out (is_at (place_cmp (place_of Start e)) q) (is_at (place_cmp (place_of End e)) q) (shows old q))

-- where there was no memory for the second place
pub rolled_back : (e : Entry) (old mid kept new : BTreeSet Place) (q : Place)
    → (is_place_of e q ≡ true → shows old q ≡ false) → Updates place_cmp old mid (place_of Start e) true
    → IsUnchanged mid kept → Updates place_cmp kept new (place_of Start e) false
    → shows new q ≡ shows old q
rolled_back e old mid kept new q absent first same back =
    let still : shows kept q ≡ shows mid q = ap (λ keys. list_any (is_at (place_cmp q)) keys) same in
    rw (back.0 q, still, first.0 q)
    (in_and_out (is_at (place_cmp (place_of Start e)) q) (is_at (place_cmp (place_of End e)) q) (shows old q)
    (λ h. absent (two_places e q ∙ h)))
