-- The search for the lowest ticket that may join.
use Rattle.std.proofs.Common.{◌&&◌, ◌∙◌, ◌∷◌, ◌≡◌, ◌⊎◌, Bool, List, None, Option, Some, [], ap, arith, cond}
use Rattle.std.proofs.Common.{false, inl, inr, refl, subst, sym, true, ℕ}
use Rattle.std.specs.Prelude.{◌-◌, ◌==◌, ◌^◌, ◌||◌, filter, nat_lt, not}
use Rattle.std.specs.BTreeMap.{BTreeMap, get, is_at, values}
use Rattle.std.specs.BTreeMap.Range.{entries_between, is_past_end, range_contains}
use Rattle.std.specs.BTreeSet.{BTreeSet, keys_between}
use Rattle.std.specs.List.{list_any}
use Rattle.std.specs.Map.{values_of}
use Rattle.std.specs.Ordering.{is_le, nat_cmp}
use Rattle.std.specs.declared.cmp.Ordering.TheVariants.{Equal, Greater, Less}
use Rattle.std.specs.declared.ops.Bound.TheVariants.{Excluded, Included, Unbounded}
use Rattle.std.proofs.lemmas.Bool.{and_parts, true≢false}
use Rattle.std.proofs.lemmas.Bool.Decides.{nat_tests}
use Rattle.mmc_queue.specs.Mirror.{AreKeyed, Mirrors}
use Rattle.mmc_queue.specs.Places.{is_place_of, place_cmp, place_of, shows, stands_at}
use Rattle.mmc_queue.specs.Requests.{conflicts}
use Rattle.mmc_queue.specs.Rule.{passes_none}
use Rattle.mmc_queue.specs.Search.{NotAbove, StandsAlike, is_better, is_lower, may_join_at}
use Rattle.mmc_queue.specs.declared.entry.Entry.{Entry}
use Rattle.mmc_queue.specs.declared.place.Edge.{Edge}
use Rattle.mmc_queue.specs.declared.place.Place.{Place}
use Rattle.mmc_queue.specs.declared.extent.Extent.{Extent}
use Rattle.mmc_queue.proofs.MapLemmas.{same_lookup, small_ticket}
use Rattle.mmc_queue.proofs.PlaceLemmas.{between_tickets, is_its_own_place, same_place}

-- some of these places has the ticket
abbrev pub HasTicket : ℕ → List Place → Type 0
HasTicket t [] = ⊥
HasTicket t (p ∷ ps) = (p.ticket ≡ t) ⊎ HasTicket t ps

-- What the range holds.

in_cond : (t : ℕ) (k : Place) (rest : List Place) (c : Bool) → HasTicket t rest → HasTicket t (cond c (k ∷ rest) rest)
in_cond t k rest true h = inr h
in_cond t k rest false h = h

first_in_cond : (t : ℕ) (k : Place) (rest : List Place) (c : Bool) → c ≡ true → k.ticket ≡ t → HasTicket t (cond c (k ∷ rest) rest)
first_in_cond t k rest true is h = inl h
first_in_cond t k rest false is h = absurd (true≢false (sym is))

in_filter_by : (test : Place → Bool) (p k : Place) (ks : List Place) (b : Bool) → is_at (place_cmp p) k ≡ b → test p ≡ true
    → (b || list_any (is_at (place_cmp p)) ks) ≡ true → (list_any (is_at (place_cmp p)) ks ≡ true → HasTicket p.ticket (filter test ks))
    → HasTicket p.ticket (cond (test k) (k ∷ filter test ks) (filter test ks))
in_filter_by test p k ks true same passes h rest =
    let is : p ≡ k = same_place p k same in
    first_in_cond p.ticket k (filter test ks) (test k) (ap test (sym is) ∙ passes) (ap (λ (q : Place). q.ticket) (sym is))
in_filter_by test p k ks false same passes h rest = in_cond p.ticket k (filter test ks) (test k) (rest h)

in_filter : (test : Place → Bool) (p : Place) (ks : List Place) → list_any (is_at (place_cmp p)) ks ≡ true → test p ≡ true
    → HasTicket p.ticket (filter test ks)
in_filter test p [] h passes = absurd (true≢false (sym h))
in_filter test p (k ∷ ks) h passes =
    in_filter_by test p k ks (is_at (place_cmp p) k) refl passes h (λ r. in_filter test p ks r passes)

-- each entry that stands there has its place in the range
pub in_range : (m : BTreeMap ℕ Entry) (places : BTreeSet Place) (extent : Extent) (edge : Edge) (sector : ℕ) (first : Place) (t : ℕ)
    → Mirrors m places → first ≡ record { part = extent.part; kind = extent.kind; edge = edge; sector = sector; ticket = 0 }
    → StandsAlike extent (values m) edge sector t
    → HasTicket t (keys_between place_cmp (Included (record first { ticket = 0 })) (Included (record first { ticket = 2 ^ 64 - 1 })) places)
in_range m places extent edge sector first t old is s =
    let p : Place = record first { ticket = t } in
    let small = small_ticket t m.entries s.0 old.keyed s.1 in
    let there : get nat_cmp m t ≡ Some s.0 = sym (same_lookup t m.entries old.keyed) ∙ s.1 in
    let same : place_of edge s.0 ≡ p = s.2 ∙ ap (λ (q : Place). record q { ticket = t }) (sym is) in
    let own : is_place_of s.0 p ≡ true = subst (λ q. is_place_of s.0 q ≡ true) same (is_its_own_place s.0 edge) in
    let shown : shows places p ≡ true = old.mirrored p ∙ ap (λ (o : Option Entry). stands_at o p) there ∙ own in
    in_filter (range_contains place_cmp (Included (record first { ticket = 0 })) (Included (record first { ticket = 2 ^ 64 - 1 }))) p places.keys
    shown (between_tickets first 0 t (2 ^ 64 - 1) (omega arith) (omega (arith, small)))

-- One more that was looked at.

pub lower_still : (best : Option ℕ) (t u : ℕ) → is_lower t best ≡ true → NotAbove best u → NotAbove (Some t) u
lower_still None t u is h = absurd h
lower_still (Some b) t u is h = grind (arith, nat_tests, h)

not_lower : (best : Option ℕ) (t : ℕ) → is_lower t best ≡ false → NotAbove best t
not_lower None t is = absurd (true≢false is)
not_lower (Some b) t is = grind (arith, nat_tests)

pub better_parts : (extent : Extent) (ws : List Entry) (t : ℕ) (best : Option ℕ) → is_better extent ws t best ≡ true
    → (is_lower t best ≡ true) × (may_join_at extent ws t ≡ true)
better_parts extent ws t best h = and_parts (is_lower t best) (may_join_at extent ws t) h

not_better_by : (best : Option ℕ) (t : ℕ) (a b : Bool) → is_lower t best ≡ a → (a && b) ≡ false → b ≡ true → NotAbove best t
not_better_by best t true b low h may = absurd (true≢false (sym may ∙ h))
not_better_by best t false b low h may = not_lower best t low

pub not_better : (extent : Extent) (ws : List Entry) (t : ℕ) (best : Option ℕ) → is_better extent ws t best ≡ false
    → may_join_at extent ws t ≡ true
    → NotAbove best t
not_better extent ws t best h may = not_better_by best t (is_lower t best) (may_join_at extent ws t) refl h may

-- where what is left to look at has the ticket
abbrev pub Covers : Option ℕ → List Place → ℕ → Type 0
Covers best left t = NotAbove best t ⊎ HasTicket t left

pub covers_taken : (best : Option ℕ) (p : Place) (ps : List Place) (t : ℕ) → is_lower p.ticket best ≡ true → Covers best (p ∷ ps) t
    → Covers (Some p.ticket) ps t
covers_taken best p ps t low (inl h) = inl (lower_still best p.ticket t low h)
covers_taken best p ps t low (inr (inl h)) = inl (omega (arith, h))
covers_taken best p ps t low (inr (inr h)) = inr h

pub covers_passed : (extent : Extent) (ws : List Entry) (best : Option ℕ) (p : Place) (ps : List Place) (t : ℕ)
    → is_better extent ws p.ticket best ≡ false → may_join_at extent ws t ≡ true → Covers best (p ∷ ps) t
    → Covers best ps t
covers_passed extent ws best p ps t not may (inl h) = inl h
covers_passed extent ws best p ps t not may (inr (inl h)) =
    inl (subst (NotAbove best) h (not_better extent ws p.ticket best not (subst (λ u. may_join_at extent ws u ≡ true) (sym h) may)))
covers_passed extent ws best p ps t not may (inr (inr h)) = inr h

pub covers_all : (best : Option ℕ) (t : ℕ) → Covers best [] t → NotAbove best t
covers_all best t (inl h) = h
covers_all best t (inr h) = absurd h

-- Those that came before.

below_by : (l e b : Bool) → (l ≡ true → b ≡ false) → (e ≡ true → b ≡ false) → (l ≡ false → e ≡ false → b ≡ true)
    → not (is_le (cond l Less (cond e Equal Greater))) ≡ b
below_by true e b p q r = sym (p refl)
below_by false true b p q r = sym (q refl)
below_by false false b p q r = sym (r refl refl)

is_below : (t k : ℕ) → not (is_past_end nat_cmp (Excluded t) k) ≡ nat_lt k t
is_below t k =
    below_by (nat_lt t k) (t == k) (nat_lt k t)
    (λ h. grind (arith, nat_tests)) (λ h. grind (arith, nat_tests)) (λ h g. grind (arith, nat_tests))

passes_by : (e : Entry) (x : ℕ × Entry) (below es : List (ℕ × Entry)) (b : Bool) → nat_lt x.1.ticket e.ticket ≡ b
    → passes_none e (values_of below) ≡ passes_none e (values_of es)
    → passes_none e (values_of (cond b (x ∷ below) below))
    ≡ (not (b && conflicts x.1.request e.request) && passes_none e (values_of es))
passes_by e x below es true is rest =
    ap (λ b. not (b && conflicts x.1.request e.request) && passes_none e (values_of below)) is
    ∙ ap (λ p. not (conflicts x.1.request e.request) && p) rest
passes_by e x below es false is rest = rest

-- the others don't count
pub passes_below : (e : Entry) (es : List (ℕ × Entry)) → AreKeyed es
    → passes_none e (values_of (entries_between nat_cmp Unbounded (Excluded e.ticket) es)) ≡ passes_none e (values_of es)
passes_below e [] keyed = refl
passes_below e (x ∷ es) keyed =
    let below : List (ℕ × Entry) = entries_between nat_cmp Unbounded (Excluded e.ticket) es in
    let same : not (is_past_end nat_cmp (Excluded e.ticket) x.0) ≡ nat_lt x.1.ticket e.ticket =
    is_below e.ticket x.0 ∙ ap (λ k. nat_lt k e.ticket) keyed.0 in
    ap (λ b. passes_none e (values_of (cond b (x ∷ below) below))) same
    ∙ passes_by e x below es (nat_lt x.1.ticket e.ticket) refl (passes_below e es keyed.2)
