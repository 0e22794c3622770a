-- What clients see of an execution of the sector machine.
use Rattle.std.proofs.Common.{◌++◌, ◌+◌, ◌-◌, ◌∙◌, ◌∷◌, ◌≡◌, ◌⊎◌, Bool, List, None, [], ap, arith, cond, false, inl, inr}
use Rattle.std.proofs.Common.{length, refl, slice_index_or, subst, sym, true, ℕ}
use Rattle.std.specs.Prelude.{Err, Ok}
use Rattle.mmc_card.specs.declared.part.Part.{Part}
use Rattle.mmc_card.specs.Sectors.{Change, IsIn, Same, Sector, Sets, Within, changed, part_number, pieces, touches}
use Rattle.mmc_card.specs.Sectors.{value_of}
use Rattle.mmc_card.proofs.SectorLemmas.{by_touch, maybe_within, old_maybe, same_part, within_same}
use Rattle.mmc_requests.specs.Changes.{written_at}
use Rattle.mmc_queue.specs.Requests.{count_of, part_of, start_of}
use Rattle.mmc_queue.specs.declared.request.Request.{Request}
use Rattle.mmc_switch.specs.declared.info.Info.{Info}
use Rattle.mmc_block.specs.Alone.{idle}
use Rattle.mmc_block.specs.Changes.{change_of}
use Rattle.mmc_block.specs.ClientLaws.{ClientsSee, ClientsSeeAlone, ClientsSeeEach, NoneIsLost, RefusingStep, accepted_in, ended_in, event_of, events, seen_as}
use Rattle.mmc_block.specs.ClientLaws.{replies, reply_of}
use Rattle.mmc_block.specs.Clients.{AnswerMeans, AreSteps, ClientMachine, ClientStep, GetsAnswer, IsWithout, Submits, Told}
use Rattle.mmc_block.specs.Clients.{at_rest}
use Rattle.mmc_block.specs.Clients.Told.{Answered, Cancelled, Submitted}
use Rattle.mmc_block.specs.Execution.{IsExecution, Steps}
use Rattle.mmc_block.specs.Machine.{Accepts, AreJoined, IsAmong, Completes, CompletesAll, Decides, HasDecided, IsAnswered, IsMerged, IsTicketOf}
use Rattle.mmc_block.specs.Machine.{Machine, PassesNone, StartsIfIdle, Turns, Waiting, all_failed, effect, failed_effect, opened}
use Rattle.mmc_block.specs.MachineLaws.{accepted_by, answered_by, ended_by}
use Rattle.mmc_block.specs.Refusal.{IsFirst, first_refusal}
use Rattle.mmc_block.specs.declared.cancel.CancelFault.TheVariants as fault
use Rattle.mmc_block.specs.declared.completion.Answer.{Answer}
use Rattle.mmc_block.specs.declared.completion.Answer.TheVariants.{Data, Done, Failed}
use Rattle.mmc_block.specs.declared.completion.Completion.{Completion}
use Rattle.mmc_block.proofs.CancelLemmas.{ticket-left, ticket-right}
use Rattle.mmc_block.proofs.GroupLemmas.{in_as}
use Rattle.mmc_block.proofs.OrderLemmas.{among_back, among_front, length_pieces}
use Rattle.mmc_block.proofs.ServiceLemmas.{merged_length}

-- Lists that are two others.

pub merged_none : (zs ys : List Waiting) → IsMerged zs [] ys → zs ≡ ys
merged_none [] ys m = sym m.1
merged_none (z ∷ zs) ys (inl m) = cc
merged_none (z ∷ zs) ys (inr m) = ap (λ ws. z ∷ ws) (merged_none zs m.0 m.2) ∙ sym m.1

pub merged_swap : (zs xs ys : List Waiting) → IsMerged zs xs ys → IsMerged zs ys xs
merged_swap [] xs ys m = (m.1, m.0)
merged_swap (z ∷ zs) xs ys (inl m) = inr (m.0, m.1, merged_swap zs m.0 ys m.2)
merged_swap (z ∷ zs) xs ys (inr m) = inl (m.0, m.1, merged_swap zs xs m.0 m.2)

-- one more at the end
pub merged_more : (zs xs ys : List Waiting) (w : Waiting) → IsMerged zs xs ys → IsMerged (zs ++ w ∷ []) xs (ys ++ w ∷ [])
merged_more [] xs ys w m = inr ([], ap (λ ws. ws ++ w ∷ []) m.1, (m.0, refl))
merged_more (z ∷ zs) xs ys w (inl m) = inl (m.0, m.1, merged_more zs m.0 ys w m.2)
merged_more (z ∷ zs) xs ys w (inr m) =
    inr (m.0 ++ w ∷ [], ap (λ ws. ws ++ w ∷ []) m.1, merged_more zs xs m.0 w m.2)

-- one of the first list leaves
pub record Left (zs : List Waiting) (w : Waiting) (xs ys : List Waiting) : Type 0 where
  pub left : List Waiting
  pub without : IsWithout w zs left
  pub merged : IsMerged left xs ys

head_same : (x y : Waiting) (xs ys : List Waiting) → x ∷ xs ≡ y ∷ ys → x ≡ y
head_same x y xs ys e = cc

tail_same : (x y : Waiting) (xs ys : List Waiting) → x ∷ xs ≡ y ∷ ys → xs ≡ ys
tail_same x y xs ys e = cc

none_empty : (before : List Waiting) (w : Waiting) (after : List Waiting) → before ++ w ∷ after ≡ [] → ⊥
none_empty [] w after e = cc
none_empty (b ∷ before) w after e = cc

-- one in front of them stays
stays : (z w : Waiting) (zs left : List Waiting) → IsWithout w zs left → IsWithout w (z ∷ zs) (z ∷ left)
stays z w zs left i = record {
  before = z ∷ i.before;
  after = i.after;
  old_is = ap (λ ws. z ∷ ws) i.old_is;
  new_is = ap (λ ws. z ∷ ws) i.new_is;
}

pub merged_left : (zs before : List Waiting) (w : Waiting) (after ys : List Waiting) → IsMerged zs (before ++ w ∷ after) ys
    → Left zs w (before ++ after) ys
merged_left [] before w after ys m = absurd (none_empty before w after m.0)
merged_left (z ∷ zs) [] w after ys (inl m) = record {
  left = zs;
  without = record {
    before = [];
    after = zs;
    old_is = ap (λ v. v ∷ zs) (sym (head_same w z after m.0 m.1));
    new_is = refl;
  };
  merged = subst (λ ws. IsMerged zs ws ys) (sym (tail_same w z after m.0 m.1)) m.2;
}
merged_left (z ∷ zs) (b ∷ before) w after ys (inl m) =
    let rest = tail_same b z (before ++ w ∷ after) m.0 m.1 in
    let l = merged_left zs before w after ys (subst (λ ws. IsMerged zs ws ys) (sym rest) m.2) in
    record {
      left = z ∷ l.left;
      without = stays z w zs l.left l.without;
      merged = inl (before ++ after, ap (λ v. v ∷ (before ++ after)) (head_same b z (before ++ w ∷ after) m.0 m.1), l.merged);
    }
merged_left (z ∷ zs) before w after ys (inr m) =
    let l = merged_left zs before w after m.0 m.2 in
    record { left = z ∷ l.left; without = stays z w zs l.left l.without; merged = inr (m.0, m.1, l.merged) }

-- what holds of the tickets of both holds of theirs
pub merged_passes : (w : Waiting) (zs xs ys : List Waiting) → IsMerged zs xs ys → PassesNone w xs → PassesNone w ys → PassesNone w zs
merged_passes w [] xs ys m p q = tt
merged_passes w (z ∷ zs) xs ys (inl m) p q =
    let k = subst (PassesNone w) m.1 p in (k.0, merged_passes w zs m.0 ys m.2 k.1 q)
merged_passes w (z ∷ zs) xs ys (inr m) p q =
    let k = subst (PassesNone w) m.1 q in (k.0, merged_passes w zs xs m.0 m.2 p k.1)

pub merged_has : (t : ℕ) (zs xs ys : List Waiting) → IsMerged zs xs ys → IsTicketOf t xs → IsTicketOf t zs
merged_has t [] xs ys m h = subst (IsTicketOf t) m.0 h
merged_has t (z ∷ zs) xs ys (inl m) h =
    elim (subst (IsTicketOf t) m.1 h) [ inl e ↦ inl e | inr k ↦ inr (merged_has t zs m.0 ys m.2 k) ]
merged_has t (z ∷ zs) xs ys (inr m) h = inr (merged_has t zs xs m.0 m.2 h)

pub merged_has_none : (t : ℕ) (zs xs ys : List Waiting) → IsMerged zs xs ys → (IsTicketOf t xs → ⊥) → (IsTicketOf t ys → ⊥)
    → IsTicketOf t zs → ⊥
merged_has_none t [] xs ys m p q h = h
merged_has_none t (z ∷ zs) xs ys (inl m) p q (inl e) = p (subst (IsTicketOf t) (sym m.1) (inl e))
merged_has_none t (z ∷ zs) xs ys (inl m) p q (inr k) =
    merged_has_none t zs m.0 ys m.2 (λ h. p (subst (IsTicketOf t) (sym m.1) (inr h))) q k
merged_has_none t (z ∷ zs) xs ys (inr m) p q (inl e) = q (subst (IsTicketOf t) (sym m.1) (inl e))
merged_has_none t (z ∷ zs) xs ys (inr m) p q (inr k) =
    merged_has_none t zs xs m.0 m.2 p (λ h. q (subst (IsTicketOf t) (sym m.1) (inr h))) k

-- What sectors may hold.

same_within : (new old : Sets) → Same new old → Within new old
same_within new old same part sector value h = in_as value (same part sector) h

one_in : (xs : List Sector) (x v : Sector) → IsIn xs x → IsIn (x ∷ []) v → IsIn xs v
one_in xs x v h (inl e) = subst (IsIn xs) (sym e) h
one_in xs x v h (inr n) = absurd n

decides_within : (old new : Sets) → Decides old new → Within new old
decides_within old new d part sector value h =
    elim (d part sector) [
      | inl same ↦ in_as value same h
      | inr one ↦ one_in (old part sector) one.0 value one.1 (in_as value one.2 h)
    ]

-- where a change touches the sector its value, and elsewhere what might be there before
one_or_old : (b : Bool) (x : Sector) (new old : List Sector) (v : Sector) → (b ≡ true → v ≡ x) → (IsIn new v → IsIn old v) → IsIn new v
    → IsIn (cond b (x ∷ []) old) v
one_or_old true x new old v is from h = inl (is refl)
one_or_old false x new old v is from h = from h

cond_within : (b : Bool) (x : Sector) (new old : List Sector) (v : Sector) → (IsIn new v → IsIn old v) → IsIn (cond b (x ∷ []) new) v
    → IsIn (cond b (x ∷ []) old) v
cond_within true x new old v from h = h
cond_within false x new old v from h = from h

changed_within : (change : Change) (new old : Sets) → Within new old → Within (changed change new) (changed change old)
changed_within change new old within part sector value h =
    cond_within (touches change part sector) (value_of change sector) (new part sector) (old part sector) value (within part sector value)
    h

-- a read shows what its sectors hold
abbrev shown : Request → List ℕ → Change
shown request bytes = written_at (part_of request) (start_of request) (pieces (count_of request) bytes)

is_shown : (request : Request) (old new : Sets) (bytes : List ℕ) → Same new old → AreJoined request old bytes → HasDecided request new
    → (part : Part) (sector : ℕ) (value : Sector) → IsIn (new part sector) value → touches (shown request bytes) part sector ≡ true
    → value ≡ value_of (shown request bytes) sector
is_shown request old new bytes same joined decided part sector value h t =
    let vs = pieces (count_of request) bytes in
    let at = by_touch (part_number (part_of request)) (part_number part) (start_of request) sector (length vs) t in
    let n = length_pieces (count_of request) bytes in
    let its_part = same_part (part_of request) part at.0 in
    let place : start_of request + (sector - start_of request) ≡ sector = omega (arith, at.1) in
    let read = joined.1 (sector - start_of request) (omega (arith, at.1, at.2)) in
    let here = subst (λ s. IsIn (old (part_of request) s) (slice_index_or vs (sector - start_of request) [])) place read in
    let there = subst (λ p. IsIn (old p sector) (slice_index_or vs (sector - start_of request) [])) its_part here in
    decided part sector (record { part_is = its_part; from = at.1; to = omega (arith, at.2, n) }) value
    (slice_index_or vs (sector - start_of request) []) h (in_as _ (sym (same part sector)) there)

joined_within : (request : Request) (new old : Sets) (bytes : List ℕ) → Within new old → AreJoined request new bytes
    → AreJoined request old bytes
joined_within request new old bytes within joined = (joined.0, λ i less. within _ _ _ (joined.1 i less))

means : (info : Info) (request : Request) (others : List Waiting) (old decided new : Sets) (answer : Answer) → Decides old decided
    → IsAnswered info request others decided answer new → AnswerMeans info request old answer new
means info request others old decided new Done d a =
    let within = changed_within (change_of info request) decided old (decides_within old decided d) in
    (a.0, λ p s v h. within p s v (same_within new (effect info request decided) a.1 p s v h))
means info request others old decided new (Data bytes) d a =
    let narrow = decides_within old decided d in (
      a.0,
      joined_within request decided old bytes narrow a.2,
      λ p s v h. one_or_old (touches (shown request bytes) p s) (value_of (shown request bytes) s) (new p s) (old p s) v
          (is_shown request decided new bytes a.1 a.2 a.3 p s v h) (λ k. narrow p s v (same_within new decided a.1 p s v k)) h,
    )
means info request others old decided new (Failed cause) d a =
    let within = maybe_within (change_of info request) decided old (decides_within old decided d) in
    λ p s v h. within p s v (same_within new _ a p s v h)

-- some of these fail, and all of these, from where a sector may hold more
pub failed_within : (info : Info) (zs xs ys : List Waiting) (new old : Sets) → IsMerged zs xs ys → Within new old
    → Within (all_failed info xs new) (all_failed info zs old)
failed_within info [] xs ys new old m h = subst (λ ws. Within (all_failed info ws new) old) (sym m.0) h
failed_within info (z ∷ zs) xs ys new old (inl m) h =
    subst (λ ws. Within (all_failed info ws new) (all_failed info (z ∷ zs) old)) (sym m.1)
    (failed_within info zs m.0 ys (failed_effect info z.request new) (failed_effect info z.request old) m.2
    (maybe_within (change_of info z.request) new old h))
failed_within info (z ∷ zs) xs ys new old (inr m) h =
    failed_within info zs xs m.0 new (failed_effect info z.request old) m.2
    (λ p s v i. old_maybe (change_of info z.request) old p s v (h p s v i))

-- Steps.

abbrev pub seen_by : Sets → ℕ → List Waiting → ClientMachine
seen_by sets next zs = record { sets = sets; outstanding = zs; next = next }

-- these steps lead from one to the other, as clients see them
pub record Sees (Steps : ClientMachine → ClientMachine → Type 0) (old : Machine) (zs : List Waiting) (new : Machine) : Type 0 where
  pub left : List Waiting
  pub merged : IsMerged left new.in_service new.waits
  pub steps : Steps (seen_as old zs) (seen_as new left)

module _ (info : Info) where
  answer_seen : (old : Machine) (zs : List Waiting) (c : Completion) (new : Machine) → IsMerged zs old.in_service old.waits
      → Completes info old c new → Sees (λ s t. GetsAnswer info s c t) old zs new
  answer_seen old zs c new m h =
      let l = merged_left zs h.before h.w h.after old.waits (subst (λ ws. IsMerged zs ws old.waits) h.served m) in
      record {
        left = l.left;
        merged = subst (λ ws. IsMerged l.left ws new.waits) (sym h.leaves)
            (subst (λ ws. IsMerged l.left (h.before ++ h.after) ws) (sym h.waits) l.merged);
        steps = record {
          w = h.w;
          ticket_is = h.ticket;
          client_is = h.client;
          without = l.without;
          passes_none = merged_passes h.w zs old.in_service old.waits m h.passes_none_served h.passes_none_waiting;
          means = means info h.w.request (h.before ++ h.after) old.sets h.decided new.sets c.answer h.decides h.answered;
          next = h.next;
        };
      }

  answers_seen : (cs : List Completion) (old : Machine) (zs : List Waiting) (new : Machine) → IsMerged zs old.in_service old.waits
      → CompletesAll info old cs new → Sees (λ s t. AreSteps (GetsAnswer info) s cs t) old zs new
  answers_seen [] old zs new m same =
      subst (λ n. Sees (λ s t. AreSteps (GetsAnswer info) s [] t) old zs n) (sym same) (record {
        left = zs;
        merged = m;
        steps = refl;
      })
  answers_seen (c ∷ cs) old zs new m (mid, first, rest) =
      let one = answer_seen old zs c mid m first in
      let more = answers_seen cs mid one.left new one.merged rest in
      record { left = more.left; merged = more.merged; steps = (seen_as mid one.left, one.steps, more.steps) }

  start_seen : (old started : Machine) (zs : List Waiting) → IsMerged zs old.in_service old.waits → StartsIfIdle old started
      → IsMerged zs started.in_service started.waits × (started.sets ≡ old.sets) × (started.next ≡ old.next)
  start_seen old started zs m (inl s) =
      let all : zs ≡ s.oldest ∷ s.later =
      merged_none zs old.waits (subst (λ ws. IsMerged zs ws old.waits) s.idle m) ∙ s.first in (
        subst (λ ws. IsMerged ws started.in_service started.waits) (sym all)
            (subst (λ ws. IsMerged (s.oldest ∷ s.later) ws started.waits) (sym s.group) (inl (s.others, refl, s.left))),
        s.sets,
        s.next,
      )
  start_seen old started zs m (inr same) = (
    subst (λ (n : Machine). IsMerged zs n.in_service n.waits) (sym same.0) m,
    ap (λ (n : Machine). n.sets) same.0,
    ap (λ (n : Machine). n.next) same.0,
  )

  seen_same : (a b : Machine) (zs : List Waiting) → a.sets ≡ b.sets → a.next ≡ b.next → seen_as a zs ≡ seen_as b zs
  seen_same a b zs sets next = ap (λ s. seen_by s a.next zs) sets ∙ ap (λ n. seen_by b.sets n zs) next

  turn_seen : (old : Machine) (zs : List Waiting) (cs : List Completion) (new : Machine) → IsMerged zs old.in_service old.waits
      → Turns info old cs new → Sees (λ s t. AreSteps (GetsAnswer info) s cs t) old zs new
  turn_seen old zs cs new m t =
      let begun = start_seen old t.started zs m t.start in
      let done = answers_seen cs t.started zs new begun.0 t.answers.completes in
      record {
        left = done.left;
        merged = done.merged;
        steps = subst (λ s. AreSteps (GetsAnswer info) s cs (seen_as new done.left)) (seen_same t.started old zs begun.1 begun.2) done.steps;
      }

  -- so many have no answer
  count_seen : (old : Machine) (zs : List Waiting) → IsMerged zs old.in_service old.waits
      → length old.waits + length old.in_service ≡ length zs
  count_seen old zs m = let n = merged_length zs old.in_service old.waits m in omega (arith, n)

  -- one more is accepted
  accept_seen : (old : Machine) (zs : List Waiting) (client : ℕ) (request : Request) (ticket : ℕ) (new : Machine)
      → IsMerged zs old.in_service old.waits → Accepts old client request ticket new
      → Sees (λ s t. Submits s client request ticket t) old zs new
  accept_seen old zs client request ticket new m h =
      let w : Waiting = record { ticket = old.next; client = client; request = request } in
      subst (Sees (λ s t. Submits s client request ticket t) old zs) (sym h.waits) (record {
        left = zs ++ w ∷ [];
        merged = merged_more zs old.in_service old.waits w m;
        steps = record { ticket_is = h.ticket_is; becomes = refl };
      })

  abbrev Seen : Machine → List Waiting → Told → Machine → Type 0
  Seen old zs call new = Sees (λ s t. RefusingStep info s call t) old zs new

  same_seen : (old : Machine) (zs : List Waiting) (call : Told) (new : Machine) → IsMerged zs old.in_service old.waits → new ≡ old
      → RefusingStep info (seen_as old zs) call (seen_as old zs) → Seen old zs call new
  same_seen old zs call new m same step =
      subst (Seen old zs call) (sym same) (record { left = zs; merged = m; steps = step })

  step_seen : (old : Machine) (zs : List Waiting) (call : Told) (new : Machine) → IsMerged zs old.in_service old.waits
      → Steps info old (event_of call) (reply_of call) new → Seen old zs call new
  step_seen old zs (Submitted client request (Ok ticket)) new m h =
      let taken = accept_seen old zs client request ticket new m h.1 in
      record {
        left = taken.left;
        merged = taken.merged;
        steps = (taken.steps, subst (λ n. first_refusal info n old.next request ≡ None) (count_seen old zs m) h.0);
      }
  step_seen old zs (Submitted client request (Err refused)) new m h =
      same_seen old zs (Submitted client request (Err refused)) new m h.1
      (refl, subst (λ n. IsFirst (first_refusal info n old.next request) refused.1) (count_seen old zs m) h.0)
  step_seen old zs (Cancelled ticket (Ok request)) new m h =
      let l = merged_left zs h.before h.w h.after old.in_service
      (subst (λ ws. IsMerged zs ws old.in_service) h.waited (merged_swap zs old.in_service old.waits m)) in
      subst (Seen old zs (Cancelled ticket (Ok request))) (sym h.leaves) (record {
        left = l.left;
        merged = merged_swap l.left (h.before ++ h.after) old.in_service l.merged;
        steps = (
          record {
            w = h.w;
            ticket_is = h.ticket_is;
            request_is = h.request_is;
            left = l.left;
            without = l.without;
            becomes = refl;
          },
          tt,
        );
      })
  step_seen old zs (Cancelled ticket (Err fault.InService)) new m h =
      same_seen old zs (Cancelled ticket (Err fault.InService)) new m h.1
      ((merged_has ticket zs old.in_service old.waits m h.0, refl), tt)
  step_seen old zs (Cancelled ticket (Err fault.Unknown)) new m h =
      same_seen old zs (Cancelled ticket (Err fault.Unknown)) new m h.2
      ((merged_has_none ticket zs old.in_service old.waits m h.0 h.1, refl), tt)
  step_seen old zs (Answered completions) new m h =
      let turned = turn_seen old zs completions new m h in
      record { left = turned.left; merged = turned.merged; steps = (turned.steps, tt) }

  run_seen : (calls : List Told) (old : Machine) (zs : List Waiting) (new : Machine) → IsMerged zs old.in_service old.waits
      → IsExecution info old (events calls) (replies calls) new → Sees (λ s t. AreSteps (RefusingStep info) s calls t) old zs new
  run_seen [] old zs new m same =
      subst (λ n. Sees (λ s t. AreSteps (RefusingStep info) s [] t) old zs n) (sym same) (record {
        left = zs;
        merged = m;
        steps = refl;
      })
  run_seen (call ∷ calls) old zs new m (mid, first, rest) =
      let one = step_seen old zs call mid m first in
      let more = run_seen calls mid one.left new one.merged rest in
      record { left = more.left; merged = more.merged; steps = (seen_as mid one.left, one.steps, more.steps) }

  -- which refusal comes first apart
  steps_alone : (calls : List Told) (old new : ClientMachine) → AreSteps (RefusingStep info) old calls new
      → AreSteps (ClientStep info) old calls new
  steps_alone [] old new same = same
  steps_alone (call ∷ calls) old new (mid, first, rest) = (mid, first.0, steps_alone calls mid new rest)

pub clients_see : ClientsSee
clients_see info start calls machine run =
    let all = run_seen info calls (opened start) [] machine (refl, refl) run in
    record {
      seen = seen_as machine all.left;
      executed = steps_alone info calls (at_rest start 0) (seen_as machine all.left) all.steps;
      refusing = all.steps;
      sets = refl;
      outstanding = all.merged;
      next = refl;
      contents = failed_within info all.left machine.in_service machine.waits machine.sets machine.sets all.merged
          (within_same machine.sets);
    }

pub clients_see_each : ClientsSeeEach
clients_see_each info old zs call new m step = let seen = step_seen info old zs call new m step in (seen.left, seen.merged, seen.steps.0)

pub clients_see_alone : ClientsSeeAlone
clients_see_alone info sets left next request answer served =
    let taken = accept_seen info (idle sets next) [] 0 request next served.accepted (refl, refl) served.accepts in
    let cs : List Completion = record { ticket = next; client = 0; answer = answer } ∷ [] in
    let turned = turn_seen info served.accepted taken.left cs (idle left (next + 1)) taken.merged served.turns in
    let none = merged_none turned.left [] turned.merged in (
      seen_as served.accepted taken.left,
      taken.steps,
      (seen_as (idle left (next + 1)) turned.left, turned.steps, ap (λ ws. seen_by left (next + 1) ws) (sym none)),
    )

-- No request is lost.

among_either : (xs ys : List ℕ) (t : ℕ) → IsAmong (xs ++ ys) t → IsAmong xs t ⊎ IsAmong ys t
among_either [] ys t h = inr h
among_either (x ∷ xs) ys t (inl e) = inl (inl e)
among_either (x ∷ xs) ys t (inr h) = elim (among_either xs ys t h) [ inl k ↦ inl (inr k) | inr k ↦ inr k ]

-- who has a ticket has it without one other
left_or_same : (t : ℕ) (before : List Waiting) (w : Waiting) (after : List Waiting) → IsTicketOf t (before ++ w ∷ after)
    → (t ≡ w.ticket) ⊎ IsTicketOf t (before ++ after)
left_or_same t [] w after h = h
left_or_same t (b ∷ before) w after (inl e) = inr (inl e)
left_or_same t (b ∷ before) w after (inr h) = elim (left_or_same t before w after h) [ inl e ↦ inl e | inr k ↦ inr (inr k) ]

stays_without : (t : ℕ) (w : Waiting) (old new : List Waiting) → IsWithout w old new → IsTicketOf t old
    → (t ≡ w.ticket) ⊎ IsTicketOf t new
stays_without t w old new i h =
    elim (left_or_same t i.before w i.after (subst (IsTicketOf t) i.old_is h)) [
      | inl e ↦ inl e
      | inr k ↦ inr (subst (IsTicketOf t) (sym i.new_is) k)
    ]

module _ (info : Info) (t : ℕ) where
  answers_keep : (cs : List Completion) (old new : ClientMachine) → AreSteps (GetsAnswer info) old cs new
      → IsTicketOf t old.outstanding → IsAmong (answered_by cs) t ⊎ IsTicketOf t new.outstanding
  answers_keep [] old new same h = inr (subst (λ (m : ClientMachine). IsTicketOf t m.outstanding) (sym same) h)
  answers_keep (c ∷ cs) old new (mid, first, rest) h =
      elim (stays_without t first.w old.outstanding mid.outstanding first.without h) [
        | inl e ↦ inl (inl (e ∙ sym first.ticket_is))
        | inr k ↦ elim (answers_keep cs mid new rest k) [ inl a ↦ inl (inr a) | inr o ↦ inr o ]
      ]

  same_keeps : (old new : ClientMachine) → new ≡ old → IsTicketOf t old.outstanding → IsTicketOf t new.outstanding
  same_keeps old new same h = subst (λ (m : ClientMachine). IsTicketOf t m.outstanding) (sym same) h

  step_keeps : (call : Told) (old new : ClientMachine) → ClientStep info old call new → IsTicketOf t old.outstanding
      → IsAmong (ended_by (event_of call) (reply_of call)) t ⊎ IsTicketOf t new.outstanding
  step_keeps (Submitted client request (Ok ticket)) old new step h =
      inr (subst (λ (m : ClientMachine). IsTicketOf t m.outstanding) (sym step.becomes) (ticket-left t old.outstanding _ h))
  step_keeps (Submitted client request (Err refused)) old new step h = inr (same_keeps old new step h)
  step_keeps (Cancelled ticket (Ok request)) old new step h =
      elim (stays_without t step.w old.outstanding step.left step.without h) [
        | inl e ↦ inl (inl (e ∙ step.ticket_is))
        | inr k ↦ inr (subst (λ (m : ClientMachine). IsTicketOf t m.outstanding) (sym step.becomes) k)
      ]
  step_keeps (Cancelled ticket (Err fault.InService)) old new step h = inr (same_keeps old new step.1 h)
  step_keeps (Cancelled ticket (Err fault.Unknown)) old new step h = inr (same_keeps old new step.1 h)
  step_keeps (Answered completions) old new step h = answers_keep completions old new step h

  -- what has ended in later calls has ended in all
  later : (call : Told) (calls : List Told) (new : ClientMachine) → IsAmong (ended_in calls) t ⊎ IsTicketOf t new.outstanding
      → IsAmong (ended_in (call ∷ calls)) t ⊎ IsTicketOf t new.outstanding
  later call calls new (inl e) = inl (among_back (ended_by (event_of call) (reply_of call)) (ended_in calls) t e)
  later call calls new (inr o) = inr o

  steps_keep : (calls : List Told) (old new : ClientMachine) → AreSteps (ClientStep info) old calls new
      → IsTicketOf t old.outstanding → IsAmong (ended_in calls) t ⊎ IsTicketOf t new.outstanding
  steps_keep [] old new same h = inr (same_keeps old new same h)
  steps_keep (call ∷ calls) old new (mid, first, rest) h =
      elim (step_keeps call old mid first h) [
        | inl e ↦ inl (among_front (ended_by (event_of call) (reply_of call)) (ended_in calls) t e)
        | inr k ↦ later call calls new (steps_keep calls mid new rest k)
      ]

  -- who is accepted is without an answer
  taken : (call : Told) (old new : ClientMachine) → ClientStep info old call new → IsAmong (accepted_by (reply_of call)) t
      → IsTicketOf t new.outstanding
  taken (Submitted client request (Ok ticket)) old new step (inl e) =
      subst (λ (m : ClientMachine). IsTicketOf t m.outstanding) (sym step.becomes)
      (ticket-right t old.outstanding _ (inl (e ∙ step.ticket_is)))
  taken (Submitted client request (Ok ticket)) old new step (inr n) = absurd n
  taken (Submitted client request (Err refused)) old new step h = absurd h
  taken (Cancelled ticket (Ok request)) old new step h = absurd h
  taken (Cancelled ticket (Err fault.InService)) old new step h = absurd h
  taken (Cancelled ticket (Err fault.Unknown)) old new step h = absurd h
  taken (Answered completions) old new step h = absurd h

  ends_or_stays : (calls : List Told) (old new : ClientMachine) → AreSteps (ClientStep info) old calls new
      → IsAmong (accepted_in calls) t → IsAmong (ended_in calls) t ⊎ IsTicketOf t new.outstanding
  ends_or_stays [] old new same h = absurd h
  ends_or_stays (call ∷ calls) old new (mid, first, rest) h =
      elim (among_either (accepted_by (reply_of call)) (accepted_in calls) t h) [
        | inl a ↦ later call calls new (steps_keep calls mid new rest (taken call old mid first a))
        | inr k ↦ later call calls new (ends_or_stays calls mid new rest k)
      ]

pub none_is_lost : NoneIsLost
none_is_lost info start next calls machine run ticket accepted =
    ends_or_stays info ticket calls (at_rest start next) machine run accepted
