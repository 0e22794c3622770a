-- What was found at both ends of an extent is the lowest ticket of all that may join.
use Rattle.std.proofs.Common.{◌&&◌, ◌++◌, ◌∙◌, ◌∷◌, ◌≡◌, ◌≤◌, ◌⊎◌, Bool, List, None, Option, Some, [], ap, arith, false, inl, inr}
use Rattle.std.proofs.Common.{refl, subst, sym, true, ℕ}
use Rattle.std.specs.Prelude.{◌==◌, ◌||◌, MatchOption}
use Rattle.std.proofs.lemmas.Bool.{and_parts, true≢false}
use Rattle.std.proofs.lemmas.Bool.Decides.{nat_tests}
use Rattle.std.proofs.lemmas.List.{append_assoc}
use Rattle.mmc_card.specs.Sectors.{part_number}
use Rattle.mmc_card.proofs.SectorLemmas.{same_part}
use Rattle.mmc_queue.specs.Requests.{can_merge, end_of, kind_number, kind_of, part_of, start_of}
use Rattle.mmc_queue.specs.Rule.{NoneLower, NoneMay, fits, has_room, is_alike, is_beside, may_join, passes_none}
use Rattle.mmc_queue.specs.Search.{BestMay, IsLowest, NotAbove, StandsAlike, may_join_at, may_join_if}
use Rattle.mmc_queue.specs.Waiting.{Ascend, at_ticket}
use Rattle.mmc_queue.specs.declared.entry.Entry.{Entry}
use Rattle.mmc_requests.specs.declared.kind.Kind.{Kind}
use Rattle.mmc_requests.specs.declared.limits.TheConstants.{MAX_COUNT}
use Rattle.mmc_queue.specs.declared.place.Edge.TheVariants.{End, Start}
use Rattle.mmc_queue.specs.declared.request.Request.{Request}
use Rattle.mmc_queue.specs.declared.extent.Extent.{Extent}
use Rattle.mmc_queue.proofs.OrderLemmas.{at_own_ticket}

same_kind : (a b : Kind) → kind_number a ≡ kind_number b → a ≡ b
same_kind a b h = grind arith

pub same_number : (m n : ℕ) → (m == n) ≡ true → m ≡ n
same_number m n h = grind (arith, nat_tests)

-- The parts of a test.
pub record Fits (most : ℕ) (extent : Extent) (r : Request) : Type 0 where
  pub part_is : part_of r ≡ extent.part
  pub kind_is : kind_of r ≡ extent.kind
  pub merges : can_merge extent.kind ≡ true
  pub beside : (start_of r ≡ extent.end) ⊎ (end_of r ≡ extent.start)
  pub room : has_room most extent r ≡ true

either : (a b c d : ℕ) → ((a == b) || (c == d)) ≡ true → (a ≡ b) ⊎ (c ≡ d)
either a b c d h = either_by (a == b) refl h
  where
    either_by : (t : Bool) → (a == b) ≡ t → (t || (c == d)) ≡ true → (a ≡ b) ⊎ (c ≡ d)
    either_by true is h = inl (same_number a b is)
    either_by false is h = inr (same_number c d h)

pub fits_parts : (most : ℕ) (extent : Extent) (r : Request) → fits most extent r ≡ true → Fits most extent r
fits_parts most extent r h =
    let alike : Bool = is_alike extent r in
    let all = and_parts (alike && can_merge extent.kind) (is_beside extent r && has_room most extent r) h in
    let one = and_parts alike (can_merge extent.kind) all.0 in
    let two = and_parts (is_beside extent r) (has_room most extent r) all.1 in
    let three =
    and_parts (part_number (part_of r) == part_number extent.part) (kind_number (kind_of r) == kind_number extent.kind) one.0 in
    record {
      part_is = same_part (part_of r) extent.part (same_number (part_number (part_of r)) (part_number extent.part) three.0);
      kind_is = same_kind (kind_of r) extent.kind (same_number (kind_number (kind_of r)) (kind_number extent.kind) three.1);
      merges = one.1;
      beside = either (start_of r) extent.end (end_of r) extent.start two.0;
      room = two.1;
    }

-- one that may join stands at an end of the extent
stands : (extent : Extent) (ws : List Entry) (best : Option ℕ) (e : Entry) → at_ticket e.ticket ws ≡ Some e
    → may_join MAX_COUNT extent ws e ≡ true
    → ((t : ℕ) → StandsAlike extent ws Start extent.end t → may_join_at extent ws t ≡ true → NotAbove best t)
    → ((t : ℕ) → StandsAlike extent ws End extent.start t → may_join_at extent ws t ≡ true → NotAbove best t)
    → NotAbove best e.ticket
stands extent ws best e there may at_end at_start =
    let f = fits_parts MAX_COUNT extent e.request (and_parts (fits MAX_COUNT extent e.request) (passes_none e ws) may).0 in
    let so : may_join_at extent ws e.ticket ≡ true = ap (may_join_if extent ws) there ∙ may in
    elim f.beside [
      | inl is ↦ at_end e.ticket (e, there, rw (f.part_is, f.kind_is, is) refl) so
      | inr is ↦ at_start e.ticket (e, there, rw (f.part_is, f.kind_is, is) refl) so
    ]

none_by : (extent : Extent) (ws : List Entry) (e : Entry) (b : Bool) → may_join MAX_COUNT extent ws e ≡ b
    → (may_join MAX_COUNT extent ws e ≡ true → ⊥) → b ≡ false
none_by extent ws e true is h = absurd (h is)
none_by extent ws e false is h = refl

none : (extent : Extent) (ws before es : List Entry) → Ascend 0 ws → ws ≡ before ++ es
    → ((e : Entry) → at_ticket e.ticket ws ≡ Some e → may_join MAX_COUNT extent ws e ≡ true → ⊥)
    → NoneMay MAX_COUNT extent ws es
none extent ws before [] up is h = tt
none extent ws before (e ∷ es) up is h =
    let there : at_ticket e.ticket ws ≡ Some e =
    subst (λ vs. at_ticket e.ticket vs ≡ Some e) (sym is) (at_own_ticket 0 before e es (subst (Ascend 0) is up)) in (
      none_by extent ws e (may_join MAX_COUNT extent ws e) refl (h e there),
      none extent ws (before ++ e ∷ []) es up (is ∙ sym (append_assoc before (e ∷ []) es)) h,
    )

lowest : (extent : Extent) (ws before es : List Entry) (t : ℕ) → Ascend 0 ws → ws ≡ before ++ es
    → ((e : Entry) → at_ticket e.ticket ws ≡ Some e → may_join MAX_COUNT extent ws e ≡ true → t ≤ e.ticket)
    → NoneLower MAX_COUNT extent ws t es
lowest extent ws before [] t up is h = tt
lowest extent ws before (e ∷ es) t up is h =
    let there : at_ticket e.ticket ws ≡ Some e =
    subst (λ vs. at_ticket e.ticket vs ≡ Some e) (sym is) (at_own_ticket 0 before e es (subst (Ascend 0) is up)) in (
      h e there,
      lowest extent ws (before ++ e ∷ []) es t up (is ∙ sym (append_assoc before (e ∷ []) es)) h,
    )

is_one : (extent : Extent) (ws : List Entry) (t : ℕ) (o : Option Entry) → at_ticket t ws ≡ o → may_join_if extent ws o ≡ true
    → NoneLower MAX_COUNT extent ws t ws
    → IsLowest extent ws t
is_one extent ws t None is may low = absurd (true≢false (sym may))
is_one extent ws t (Some e) is may low = record { e = e; there = is; may = may; lowest = low }

pub found : (extent : Extent) (ws : List Entry) (best : Option ℕ) → Ascend 0 ws → BestMay extent ws best
    → ((t : ℕ) → StandsAlike extent ws Start extent.end t → may_join_at extent ws t ≡ true → NotAbove best t)
    → ((t : ℕ) → StandsAlike extent ws End extent.start t → may_join_at extent ws t ≡ true → NotAbove best t)
    → MatchOption best (NoneMay MAX_COUNT extent ws ws) (λ t. IsLowest extent ws t)
found extent ws None up may at_end at_start =
    none extent ws [] ws up refl (λ e there so. stands extent ws None e there so at_end at_start)
found extent ws (Some t) up may at_end at_start =
    is_one extent ws t (at_ticket t ws) refl may
    (lowest extent ws [] ws t up refl (λ e there so. stands extent ws (Some t) e there so at_end at_start))
