-- The order of places.
use Rattle.std.proofs.Common.{◌≡◌, ◌≤◌, ◌∙◌, Bool, ap, arith, false, refl, sym, true, ℕ}
use Rattle.std.specs.Prelude.{◌||◌}
use Rattle.std.specs.BTreeMap.{is_at}
use Rattle.std.specs.BTreeMap.Range.{range_contains}
use Rattle.std.specs.Ordering.{is_eq, is_gt, nat_cmp, ordering_then}
use Rattle.std.specs.declared.cmp.Ordering.{Ordering}
use Rattle.std.specs.declared.cmp.Ordering.TheVariants.{Equal, Greater, Less}
use Rattle.std.specs.declared.ops.Bound.TheVariants.{Included}
use Rattle.std.proofs.lemmas.Bool.Decides.{nat_tests}
use Rattle.std.proofs.lemmas.Map.Lookups.{CmpEqualImpliesEq, exact_unsigned}
use Rattle.mmc_card.specs.declared.part.Part.{Part}
use Rattle.mmc_card.specs.contracts.part.PartOrd.TheImpl.{cmp-value as part_order}
use Rattle.mmc_requests.specs.contracts.kind.KindOrd.TheImpl.{cmp-value as kind_order}
use Rattle.mmc_queue.specs.contracts.place.EdgeOrd.TheImpl.{cmp-value as edge_order}
use Rattle.mmc_queue.specs.declared.entry.Entry.{Entry}
use Rattle.mmc_requests.specs.declared.kind.Kind.{Kind}
use Rattle.mmc_queue.specs.declared.place.Edge.{Edge}
use Rattle.mmc_queue.specs.declared.place.Edge.TheVariants.{End, Start}
use Rattle.mmc_queue.specs.declared.place.Place.{Place}
use Rattle.mmc_queue.specs.Places.{is_place_of, place_cmp, place_of}

part_exact : CmpEqualImpliesEq part_order.it
part_exact a b h = grind arith

kind_exact : CmpEqualImpliesEq kind_order.it
kind_exact a b h = grind arith

edge_exact : CmpEqualImpliesEq edge_order.it
edge_exact a b h = grind arith

part_itself : (a : Part) → part_order.it a a ≡ Equal
part_itself a = grind arith

kind_itself : (a : Kind) → kind_order.it a a ≡ Equal
kind_itself a = grind arith

edge_itself : (a : Edge) → edge_order.it a a ≡ Equal
edge_itself a = grind arith

number_itself : (n : ℕ) → nat_cmp n n ≡ Equal
number_itself n = grind (arith, nat_tests)

then_equal : (o r : Ordering) → ordering_then o r ≡ Equal → (o ≡ Equal) × (r ≡ Equal)
then_equal Less r h = cc
then_equal Equal r h = (refl, h)
then_equal Greater r h = cc

abbrev made : Part → Kind → Edge → ℕ → ℕ → Place
made part kind edge sector ticket =
    record { part = part; kind = kind; edge = edge; sector = sector; ticket = ticket }

start_is_not_end : Start ≡ End → ⊥
start_is_not_end h = cc

same_made : (a b : Part) (c d : Kind) (e f : Edge) (m n t u : ℕ) → a ≡ b → c ≡ d → e ≡ f → m ≡ n → t ≡ u
    → made a c e m t ≡ made b d f n u
same_made a b c d e f m n t u one two three four five = cc

-- the order tells all places apart
pub place_exact : CmpEqualImpliesEq place_cmp
place_exact p q h =
    let by_sector : Ordering = ordering_then (nat_cmp p.sector q.sector) (nat_cmp p.ticket q.ticket) in
    let by_edge : Ordering = ordering_then (edge_order.it p.edge q.edge) by_sector in
    let one = then_equal (part_order.it p.part q.part) (ordering_then (kind_order.it p.kind q.kind) by_edge) h in
    let two = then_equal (kind_order.it p.kind q.kind) by_edge one.1 in
    let three = then_equal (edge_order.it p.edge q.edge) by_sector two.1 in
    let four = then_equal (nat_cmp p.sector q.sector) (nat_cmp p.ticket q.ticket) three.1 in
    same_made p.part q.part p.kind q.kind p.edge q.edge p.sector q.sector p.ticket q.ticket
    (part_exact p.part q.part one.0) (kind_exact p.kind q.kind two.0) (edge_exact p.edge q.edge three.0)
    (exact_unsigned p.sector q.sector four.0) (exact_unsigned p.ticket q.ticket four.1)

is_equal : (o : Ordering) → is_eq o ≡ true → o ≡ Equal
is_equal Less h = cc
is_equal Equal h = refl
is_equal Greater h = cc

pub same_place : (p q : Place) → is_at (place_cmp p) q ≡ true → p ≡ q
same_place p q h = place_exact p q (is_equal (place_cmp p q) h)

-- two places of which only the tickets may differ
by_tickets : (p : Place) (t u : ℕ) → place_cmp (record p { ticket = t }) (record p { ticket = u }) ≡ nat_cmp t u
by_tickets p t u =
    rw (part_itself p.part, kind_itself p.kind, edge_itself p.edge, number_itself p.sector) refl

-- an entry's place has its ticket
pub place_has_its_ticket : (e : Entry) (q : Place) → is_place_of e q ≡ true → e.ticket ≡ q.ticket
place_has_its_ticket e q h =
    ap (λ (p : Place). p.ticket) (place_exact (place_of q.edge e) q (is_equal (place_cmp (place_of q.edge e) q) h))

pub is_its_own_place : (e : Entry) (edge : Edge) → is_place_of e (place_of edge e) ≡ true
is_its_own_place e edge = ap is_eq (by_tickets (place_of edge e) e.ticket e.ticket ∙ number_itself e.ticket)

-- The two places of an entry.

not_true : (b : Bool) → (b ≡ true → ⊥) → b ≡ false
not_true true h = absurd (h refl)
not_true false h = refl

no_other_edge : (e : Entry) (edge : Edge) (q : Place) → (edge ≡ q.edge → ⊥) → is_at (place_cmp (place_of edge e)) q ≡ false
no_other_edge e edge q apart =
    not_true (is_eq (place_cmp (place_of edge e) q))
    (λ h. apart (ap (λ (p : Place). p.edge) (place_exact (place_of edge e) q (is_equal (place_cmp (place_of edge e) q) h))))

or_false : (b : Bool) → b ≡ (b || false)
or_false true = refl
or_false false = refl

by_edge : (e : Entry) (edge : Edge) (q : Place) → edge ≡ q.edge
    → is_eq (place_cmp (place_of edge e) q)
    ≡ (is_at (place_cmp (place_of Start e)) q || is_at (place_cmp (place_of End e)) q)
by_edge e Start q is =
    rw (no_other_edge e End q (λ h. start_is_not_end (is ∙ sym h))) (or_false (is_eq (place_cmp (place_of Start e) q)))
by_edge e End q is = rw (no_other_edge e Start q (λ h. start_is_not_end (h ∙ sym is))) refl

pub two_places : (e : Entry) (q : Place)
    → is_place_of e q ≡ (is_at (place_cmp (place_of Start e)) q || is_at (place_cmp (place_of End e)) q)
two_places e q = by_edge e q.edge q refl

-- a place lies between the first and the last that differ from it by the ticket alone
pub between_tickets : (p : Place) (low t high : ℕ) → low ≤ t → t ≤ high
    → range_contains place_cmp (Included (record p { ticket = low })) (Included (record p { ticket = high }))
    (record p { ticket = t })
    ≡ true
between_tickets p low t high from to =
    rw (by_tickets p low t, by_tickets p high t) (grind (arith, nat_tests))

-- so a search from the first to the last is one that goes forward
pub goes_forward : (p : Place) (low high : ℕ) → low ≤ high
    → is_gt (place_cmp (record p { ticket = low }) (record p { ticket = high })) ≡ false
goes_forward p low high less = rw (by_tickets p low high) (grind (arith, nat_tests))
