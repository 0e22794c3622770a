-- Both orders of a queue, while entries come and go.
use Rattle.std.proofs.Common.{◌&&◌, ◌<◌, ◌^◌, ◌∙◌, ◌≡◌, Bool, None, Option, Some, ap, arith, cond, false, refl, subst, sym}
use Rattle.std.proofs.Common.{true, ℕ}
use Rattle.std.specs.Prelude.{◌==◌, ◌||◌, not}
use Rattle.std.specs.BTreeMap.{BTreeMap, IsOrdered, Updates, get, insert_entry, is_at, values}
use Rattle.std.specs.BTreeSet.{BTreeSet}
use Rattle.std.specs.Map.{lookup, remove_entry, values_of}
use Rattle.std.specs.Ordering.{nat_cmp}
use Rattle.std.proofs.lemmas.Bool.{true≢false}
use Rattle.std.proofs.lemmas.Bool.Decides.{nat_tests}
use Rattle.mmc_queue.specs.Mirror.{AreKeyed, Mirrors}
use Rattle.mmc_queue.specs.Places.{is_place_of, shows, stands_at}
use Rattle.mmc_queue.specs.Waiting.{AreBelow, AreSound, IsSound}
use Rattle.mmc_queue.specs.declared.entry.Entry.{Entry}
use Rattle.mmc_queue.specs.declared.place.Place.{Place}
use Rattle.mmc_queue.proofs.MapLemmas.{absent, found, insert_last, is_same, keyed_push, keyed_remove, pushed_values}
use Rattle.mmc_queue.proofs.MapLemmas.{sound_push, sound_without}
use Rattle.mmc_queue.proofs.PlaceLemmas.{place_has_its_ticket}

get_same : (m : BTreeMap ℕ Entry) (o : Option Entry) (t u : ℕ) → get nat_cmp m t ≡ o → t ≡ u → get nat_cmp m u ≡ o
get_same m o t u is same = subst (λ k. get nat_cmp m k ≡ o) same is

same_ticket : (t u : ℕ) → (t == u) ≡ true → t ≡ u
same_ticket t u h = grind (arith, nat_tests)

-- the places of an entry with a new ticket are not there
pub not_there : (m : BTreeMap ℕ Entry) (places : BTreeSet Place) (v : Entry) → Mirrors m places → AreBelow v.ticket (values m)
    → (q : Place) → is_place_of v q ≡ true → shows places q ≡ false
not_there m places v old below q is =
    let none = get_same m None v.ticket q.ticket (absent m.entries v.ticket old.keyed below) (place_has_its_ticket v q is) in
    old.mirrored q ∙ ap (λ (o : Option Entry). stands_at o q) none

-- its places have its ticket
elsewhere : (v : Entry) (q : Place) (b : Bool) → is_place_of v q ≡ b → (v.ticket == q.ticket) ≡ false → b ≡ false
elsewhere v q true is other =
    let same : v.ticket ≡ q.ticket = place_has_its_ticket v q is in
    let yes : (v.ticket == q.ticket) ≡ true = grind (arith, nat_tests) in absurd (true≢false (sym yes ∙ other))
elsewhere v q false is other = refl

comes : (v : Entry) (q : Place) (t : Bool) (o : Option Entry) → (v.ticket == q.ticket) ≡ t → (t ≡ true → o ≡ None)
    → (is_place_of v q || stands_at o q) ≡ stands_at (cond t (Some v) o) q
comes v q true o is none = rw (none refl) (or_nothing (is_place_of v q))
  where
    or_nothing : (b : Bool) → (b || false) ≡ b
    or_nothing true = refl
    or_nothing false = refl
comes v q false o is none = rw (elsewhere v q (is_place_of v q) refl is) refl

goes : (v : Entry) (q : Place) (t : Bool) (o : Option Entry) → (v.ticket == q.ticket) ≡ t → (t ≡ true → o ≡ Some v)
    → (not (is_place_of v q) && stands_at o q) ≡ stands_at (cond t None o) q
goes v q true o is some = rw (some refl) (not_both (is_place_of v q))
  where
    not_both : (b : Bool) → (not b && b) ≡ false
    not_both true = refl
    not_both false = refl
goes v q false o is some = rw (elsewhere v q (is_place_of v q) refl is) refl

pub pushed : (m n : BTreeMap ℕ Entry) (old_places new_places : BTreeSet Place) (v : Entry) → Mirrors m old_places
    → AreBelow v.ticket (values m) → v.ticket < 2 ^ 64 → IsSound v → n.entries ≡ insert_entry nat_cmp m.entries v.ticket v
    → Updates nat_cmp m n v.ticket (Some v) → IsOrdered nat_cmp n
    → ((q : Place) → shows new_places q ≡ (is_place_of v q || shows old_places q))
    → Mirrors n new_places
pushed m n old_places new_places v old below small sound is tickets ordered places = record {
  keyed = subst AreKeyed (sym (is ∙ insert_last m.entries v.ticket v old.keyed below)) (keyed_push m.entries v old.keyed small);
  ordered = ordered;
  sound = subst AreSound (sym (pushed_values m n v old.keyed below is)) (sound_push (values m) v old.sound sound);
  mirrored = λ q.
      let none : get nat_cmp m v.ticket ≡ None = absent m.entries v.ticket old.keyed below in
      let now : get nat_cmp n q.ticket ≡ cond (v.ticket == q.ticket) (Some v) (get nat_cmp m q.ticket) =
      tickets.0 q.ticket ∙ ap (λ b. cond b (Some v) (get nat_cmp m q.ticket)) (is_same v.ticket q.ticket) in
      rw (places q, old.mirrored q, now)
      (comes v q (v.ticket == q.ticket) (get nat_cmp m q.ticket) refl
      (λ h. get_same m None v.ticket q.ticket none (same_ticket v.ticket q.ticket h)));
}

pub taken : (m n : BTreeMap ℕ Entry) (old_places new_places : BTreeSet Place) (v : Entry) (t : ℕ) → Mirrors m old_places
    → get nat_cmp m t ≡ Some v → n.entries ≡ remove_entry (is_at (nat_cmp t)) m.entries → Updates nat_cmp m n t None
    → IsOrdered nat_cmp n → ((q : Place) → shows new_places q ≡ (not (is_place_of v q) && shows old_places q))
    → Mirrors n new_places
taken m n old_places new_places v t old there is tickets ordered places =
    let all = found t m.entries v old.keyed there in
    record {
      keyed = subst AreKeyed (sym is) (keyed_remove (is_at (nat_cmp t)) m.entries old.keyed);
      ordered = ordered;
      sound = subst AreSound (sym (ap values_of is ∙ all.takes.3))
          (sound_without all.takes.0 v all.takes.1 (subst AreSound all.takes.2 old.sound));
      mirrored = λ q.
          let now : get nat_cmp n q.ticket ≡ cond (v.ticket == q.ticket) None (get nat_cmp m q.ticket) =
          tickets.0 q.ticket ∙ ap (λ b. cond b None (get nat_cmp m q.ticket)) (is_same t q.ticket ∙ ap (λ k. k == q.ticket) (sym all.ticket)) in
          rw (places q, old.mirrored q, now)
          (goes v q (v.ticket == q.ticket) (get nat_cmp m q.ticket) refl
          (λ h. get_same m (Some v) t q.ticket there (sym all.ticket ∙ same_ticket v.ticket q.ticket h)));
    }

put_back : (b o : Bool) → (b ≡ true → o ≡ false) → (not b && (b || o)) ≡ o
put_back true o h = sym (h refl)
put_back false o h = refl

-- where there was no memory for the entry
pub undone : (m n : BTreeMap ℕ Entry) (old_places mid new_places : BTreeSet Place) (v : Entry) → Mirrors m old_places
    → AreBelow v.ticket (values m) → n.entries ≡ m.entries → IsOrdered nat_cmp n
    → ((q : Place) → shows mid q ≡ (is_place_of v q || shows old_places q))
    → ((q : Place) → shows new_places q ≡ (not (is_place_of v q) && shows mid q))
    → Mirrors n new_places
undone m n old_places mid new_places v old below same ordered into out = record {
  keyed = subst AreKeyed (sym same) old.keyed;
  ordered = ordered;
  sound = subst AreSound (sym (ap values_of same)) old.sound;
  mirrored = λ q.
      let now : get nat_cmp n q.ticket ≡ get nat_cmp m q.ticket = ap (lookup (is_at (nat_cmp q.ticket))) same in
      rw (out q, into q, now)
      (put_back (is_place_of v q) (shows old_places q) (not_there m old_places v old below q) ∙ old.mirrored q);
}
