-- What requests that are joined are as an extent.
use Rattle.std.proofs.Common.{◌&&◌, ◌+◌, ◌-◌, ◌<◌, ◌^◌, ◌∙◌, ◌∷◌, ◌≡◌, ◌≤◌, Bool, List, [], ap, arith, false}
use Rattle.std.proofs.Common.{inl, inr, length, refl, subst, sym, true, ℕ}
use Rattle.std.specs.Prelude.{◌||◌, ◌↔◌, nat_le, nat_lt}
use Rattle.std.proofs.lemmas.Bool.{true≢false}
use Rattle.std.proofs.lemmas.Bool.Decides.{nat_tests}
use Rattle.mmc_queue.specs.Group.{AreAlike, IsJoined, IsOneOf, SomeNames, any_has, has_sector}
use Rattle.mmc_queue.specs.Requests.{count_of, end_of, kind_of, part_of, start_of}
use Rattle.mmc_queue.specs.Waiting.{AreSound, IsSound}
use Rattle.mmc_queue.specs.declared.entry.Entry.{Entry}
use Rattle.mmc_queue.specs.declared.request.Request.{Request}
use Rattle.mmc_queue.specs.declared.extent.Extent.{Extent}

-- Of a list.

or_left : (a b : Bool) → a ≡ true → (a || b) ≡ true
or_left true b h = refl
or_left false b h = absurd (true≢false (sym h))

or_right : (a b : Bool) → b ≡ true → (a || b) ≡ true
or_right true b h = refl
or_right false b h = h

pub has_any : (es : List Entry) (e : Entry) (s : ℕ) → IsOneOf es e → has_sector e.request s ≡ true → any_has es s ≡ true
has_any [] e s m h = absurd m
has_any (v ∷ es) e s (inl is) h =
    or_left (has_sector v.request s) (any_has es s) (ap (λ (x : Entry). has_sector x.request s) is ∙ h)
has_any (v ∷ es) e s (inr m) h = or_right (has_sector v.request s) (any_has es s) (has_any es e s m h)

-- one of these names the sector, whatever the partition
abbrev SomeHas : List Entry → ℕ → Type 0
SomeHas es s = (e : Entry) × IsOneOf es e × (has_sector e.request s ≡ true)

some_has_by : (e : Entry) (es : List Entry) (s : ℕ) (b : Bool)
    → has_sector e.request s ≡ b → (b || any_has es s) ≡ true
    → (any_has es s ≡ true → SomeHas es s)
    → SomeHas (e ∷ es) s
some_has_by e es s true is h rest = (e, inl refl, is)
some_has_by e es s false is h rest = let k = rest h in (k.0, inr k.1, k.2)

some_has : (es : List Entry) (s : ℕ) → any_has es s ≡ true → SomeHas es s
some_has [] s h = absurd (true≢false (sym h))
some_has (e ∷ es) s h = some_has_by e es s (has_sector e.request s) refl h (λ k. some_has es s k)

first_of : (es : List Entry) → 0 < length es → (e : Entry) × IsOneOf es e
first_of [] h = absurd (omega (arith, h))
first_of (e ∷ es) h = (e, inl refl)

-- the entry is of the extent's partition and kind
abbrev IsAlike : Extent → Entry → Type 0
IsAlike extent e = (part_of e.request ≡ extent.part) × (kind_of e.request ≡ extent.kind)

one_alike : (extent : Extent) (es : List Entry) (e : Entry) → AreAlike extent es → IsOneOf es e → IsAlike extent e
one_alike extent [] e all m = absurd m
one_alike extent (v ∷ es) e all (inl is) = subst (IsAlike extent) is (all.0, all.1)
one_alike extent (v ∷ es) e all (inr m) = one_alike extent es e all.2 m

one_sound : (es : List Entry) (e : Entry) → AreSound es → IsOneOf es e → IsSound e
one_sound [] e all m = absurd m
one_sound (v ∷ es) e all (inl is) = subst IsSound is all.0
one_sound (v ∷ es) e all (inr m) = one_sound es e all.1 m

-- Of an extent.

lies : (start end s : ℕ) → (nat_le start s && nat_lt s end) ≡ true → (start ≤ s) × (s < end)
lies start end s h = (grind (arith, nat_tests), grind (arith, nat_tests))

pub lies_in : (start end s : ℕ) → start ≤ s → s < end → (nat_le start s && nat_lt s end) ≡ true
lies_in start end s p q = grind (arith, nat_tests)

-- a sector that a member names is of the extent
in_extent : (members : List Entry) (extent : Extent) → IsJoined members extent → (e : Entry) (s : ℕ) → IsOneOf members e
    → start_of e.request ≤ s → s < end_of e.request
    → (extent.start ≤ s) × (s < extent.end)
in_extent members extent j e s m p q =
    lies extent.start extent.end s
    (sym (j.one_extent s) ∙ has_any members e s m (lies_in (start_of e.request) (end_of e.request) s p q))

-- a sector of the extent is named by a member
named : (members : List Entry) (extent : Extent) → IsJoined members extent → (s : ℕ) → extent.start ≤ s → s < extent.end
    → SomeHas members s
named members extent j s p q = some_has members s (j.one_extent s ∙ lies_in extent.start extent.end s p q)

pub some_sector : (members : List Entry) (extent : Extent) → IsJoined members extent → extent.start < extent.end
some_sector members extent j =
    let first = first_of members j.some in
    let r : Request = first.0.request in
    let some = (one_sound members first.0 j.sound first.1).some in
    let there = in_extent members extent j first.0 (start_of r) first.1 (omega arith) (omega (arith, some)) in
    let a = there.0 in let b = there.1 in omega (arith, a, b)

pub member_within : (members : List Entry) (extent : Extent) → IsJoined members extent → (e : Entry) → IsOneOf members e
    → (extent.start ≤ start_of e.request) × (end_of e.request ≤ extent.end)
member_within members extent j e m =
    let r : Request = e.request in
    let some = (one_sound members e j.sound m).some in
    let last : ℕ = start_of r + count_of r - 1 in
    let front = in_extent members extent j e (start_of r) m (omega arith) (omega (arith, some)) in
    let back = in_extent members extent j e last m (omega (arith, some)) (omega (arith, some)) in
    let b = back.1 in
    (front.0, omega (arith, b, some))

pub member_alike : (members : List Entry) (extent : Extent) → IsJoined members extent → (e : Entry) → IsOneOf members e
    → (part_of e.request ≡ extent.part) × (kind_of e.request ≡ extent.kind)
member_alike members extent j e m = one_alike extent members e j.alike m

pub member_sound : (members : List Entry) (extent : Extent) → IsJoined members extent → (e : Entry) → IsOneOf members e
    → IsSound e
member_sound members extent j e m = one_sound members e j.sound m

pub last_member : (members : List Entry) (extent : Extent) → IsJoined members extent
    → (e : Entry) × IsOneOf members e × (end_of e.request ≡ extent.end)
last_member members extent j =
    let some = some_sector members extent j in
    let n = named members extent j (extent.end - 1) (omega (arith, some)) (omega (arith, some)) in
    let e : Entry = n.0 in
    let past = (lies (start_of e.request) (end_of e.request) (extent.end - 1) n.2).1 in
    let end = (member_within members extent j e n.1).1 in
    (e, n.1, omega (arith, some, past, end))

pub extent_inside : (members : List Entry) (extent : Extent) → IsJoined members extent → extent.end ≤ 2 ^ 32
extent_inside members extent j =
    let l = last_member members extent j in
    subst (λ n. n ≤ 2 ^ 32) l.2 (one_sound members l.0 j.sound l.1).inside

pub just_named : (members : List Entry) (extent : Extent) → IsJoined members extent
    → (sector : ℕ) → ((extent.start ≤ sector) × (sector < extent.end)) ↔ SomeNames members extent.part sector
just_named members extent j s = (
  (λ h.
      let n = named members extent j s h.0 h.1 in
      let e : Entry = n.0 in
      let there = lies (start_of e.request) (end_of e.request) s n.2 in
      (e, n.1, record { part_is = (one_alike extent members e j.alike n.1).0; from = there.0; to = there.1 })),
  (λ h. in_extent members extent j h.0 s h.1 h.2.from h.2.to),
)
