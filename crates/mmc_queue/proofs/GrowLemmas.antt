-- A group that grows by one.
use Rattle.std.proofs.Common.{◌+◌, ◌<◌, ◌∙◌, ◌≡◌, Bool, List, None, Option, Some, ap, arith, false, refl, subst, sym, true, ℕ}
use Rattle.std.specs.Prelude.{◌==◌, if◌then◌else◌, nat_le, nat_lt}
use Rattle.std.proofs.lemmas.Bool.{and_parts}
use Rattle.std.proofs.lemmas.Bool.Decides.{nat_tests}
use Rattle.std.proofs.lemmas.Option.{none-some}
use Rattle.mmc_queue.specs.Requests.{count_of, end_of, start_of}
use Rattle.mmc_queue.specs.Rule.{Grows, NoneLower, fits, joins, may_join, passes_none, widened, with_member}
use Rattle.mmc_queue.specs.Search.{IsLowest}
use Rattle.mmc_queue.specs.Waiting.{Takes, at_ticket}
use Rattle.mmc_queue.specs.declared.entry.Entry.{Entry}
use Rattle.mmc_queue.specs.declared.request.Request.{Request}
use Rattle.mmc_queue.specs.declared.extent.Extent.{Extent}
use Rattle.mmc_requests.specs.declared.limits.TheConstants.{MAX_COUNT}
use Rattle.mmc_queue.proofs.FindLemmas.{fits_parts}

less_is : (a b : ℕ) → nat_lt a b ≡ true → a < b
less_is a b h = grind (arith, nat_tests)

-- where one may join there are fewer members than may be
pub few_members : (extent : Extent) (ws : List Entry) (t : ℕ) → IsLowest extent ws t → extent.members < 16
few_members extent ws t l =
    let r : Request = l.e.request in
    let f = fits_parts MAX_COUNT extent r (and_parts (fits MAX_COUNT extent r) (passes_none l.e ws) l.may).0 in
    less_is extent.members 16
    (and_parts (nat_lt extent.members 16) (nat_le (extent.end + count_of r) (extent.start + MAX_COUNT)) f.room).0

pub not_absent : (extent : Extent) (ws : List Entry) (t : ℕ) → IsLowest extent ws t → at_ticket t ws ≡ None → ⊥
not_absent extent ws t l none = none-some l.e (sym none ∙ l.there)

widened_by : (extent : Extent) (r : Request) (b : Bool)
    → (if b then record extent { end = end_of r; members = extent.members + 1 } else record extent { start = start_of r; members = extent.members + 1 }).members
    ≡ extent.members + 1
widened_by extent r true = refl
widened_by extent r false = refl

pub widened_members : (extent : Extent) (r : Request) → (widened extent r).members ≡ extent.members + 1
widened_members extent r = widened_by extent r (start_of r == extent.end)

abbrev or_else : Entry → Option Entry → Entry
or_else d None = d
or_else d (Some x) = x

pub joins_next : (waits members : List Entry) (extent : Extent) (left : List Entry) (t : ℕ) (e : Entry) (rest : List Entry)
    → IsLowest extent left t → e.ticket ≡ t → at_ticket t left ≡ Some e → Takes left e rest → Grows MAX_COUNT waits members extent left
    → Grows MAX_COUNT waits (with_member members e) (widened extent e.request) rest
joins_next waits members extent left t e rest l is there leaves g =
    let both : Some l.e ≡ Some e = sym l.there ∙ there in
    let same : l.e ≡ e = ap (or_else e) both in
    joins members extent left e rest g
    (record {
      may = subst (λ x. may_join MAX_COUNT extent left x ≡ true) same l.may;
      lowest = subst (λ k. NoneLower MAX_COUNT extent left k left) (sym is) l.lowest;
      leaves = leaves;
    })
