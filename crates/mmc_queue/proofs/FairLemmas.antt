-- What the rule makes of a group, step by step.
use Rattle.std.proofs.Common.{◌&&◌, ◌++◌, ◌+◌, ◌<◌, ◌∙◌, ◌∷◌, ◌≡◌, ◌≤◌, ◌⊎◌, Bool, List, [], ap, arith, false, inl, inr, length, refl}
use Rattle.std.proofs.Common.{subst, suc, sym, true, ℕ}
use Rattle.std.specs.Prelude.{◌==◌, ◌||◌, if◌then◌else◌, nat_le, nat_lt, not}
use Rattle.std.proofs.lemmas.Bool.{and_parts, true≢false}
use Rattle.std.proofs.lemmas.Bool.Decides.{nat_tests}
use Rattle.mmc_queue.specs.Group.{AreAlike, AreApart, IsFair, IsJoined, IsMerged, PassNone, any_has, has_sector}
use Rattle.mmc_queue.specs.Requests.{can_merge, count_of, end_of, kind_of, part_of, start_of}
use Rattle.mmc_queue.specs.Rule.{Grows, Joins, begins, comes_first, fits, joins, passes_none, extent_of, widened, with_member}
use Rattle.mmc_queue.specs.Waiting.{AreSound, Ascend, IsSound, Takes}
use Rattle.mmc_queue.specs.declared.entry.Entry.{Entry}
use Rattle.mmc_queue.specs.declared.request.Request.{Request}
use Rattle.mmc_queue.specs.declared.extent.Extent.{Extent}
use Rattle.mmc_requests.specs.declared.limits.TheConstants.{MAX_COUNT}
use Rattle.mmc_queue.proofs.FindLemmas.{fits_parts}
use Rattle.mmc_queue.proofs.GrowLemmas.{widened_members}
use Rattle.mmc_queue.proofs.MapLemmas.{sound_one, sound_without}

-- Order.

abbrev head_or : Entry → List Entry → Entry
head_or d [] = d
head_or d (x ∷ xs) = x

abbrev tail_of : List Entry → List Entry
tail_of [] = []
tail_of (x ∷ xs) = xs

not_nil : (before : List Entry) (e : Entry) (after : List Entry) → [] ≡ before ++ e ∷ after → ⊥
not_nil [] e after h = cc
not_nil (b ∷ before) e after h = cc

-- what is left lies in the list that ascends
left_above : (low : ℕ) (zs xs ys before : List Entry) (e : Entry) (after : List Entry) → Ascend low zs → IsMerged zs xs ys
    → ys ≡ before ++ e ∷ after
    → low ≤ e.ticket
left_above low [] xs ys before e after up m is = absurd (not_nil before e after (sym m.1 ∙ is))
left_above low (z ∷ zs) xs ys before e after up (inl m) is =
    let h = left_above (z.ticket + 1) zs m.0 ys before e after up.1 m.2 is in let g = up.0 in omega (arith, h, g)
left_above low (z ∷ zs) xs ys [] e after up (inr m) is =
    let same : z ≡ e = ap (head_or z) (sym m.1 ∙ is) in
    let t : z.ticket ≡ e.ticket = ap (λ (x : Entry). x.ticket) same in let g = up.0 in omega (arith, g, t)
left_above low (z ∷ zs) xs ys (b ∷ before) e after up (inr m) is =
    let rest : m.0 ≡ before ++ e ∷ after = ap tail_of (sym m.1 ∙ is) in
    let h = left_above (z.ticket + 1) zs xs m.0 before e after up.1 m.2 rest in let g = up.0 in omega (arith, h, g)

-- so does the first member
member_above : (low : ℕ) (zs : List Entry) (x : Entry) (xs ys : List Entry) → Ascend low zs → IsMerged zs (x ∷ xs) ys
    → low ≤ x.ticket
member_above low [] x xs ys up m = let h = m.0 in cc
member_above low (z ∷ zs) x xs ys up (inl m) =
    let same : x ≡ z = ap (head_or x) m.1 in
    let t : x.ticket ≡ z.ticket = ap (λ (v : Entry). v.ticket) same in let g = up.0 in omega (arith, g, t)
member_above low (z ∷ zs) x xs ys up (inr m) =
    let h = member_above (z.ticket + 1) zs x xs m.0 up.1 m.2 in let g = up.0 in omega (arith, h, g)

first_goes : (xs : List Entry) (e : Entry) (zs ys : List Entry) → Ascend (e.ticket + 1) zs → IsMerged zs xs ys
    → with_member xs e ≡ e ∷ xs
first_goes [] e zs ys up m = refl
first_goes (x ∷ xs) e zs ys up m =
    let h = member_above (e.ticket + 1) zs x xs ys up m in
    let yes : nat_lt e.ticket x.ticket ≡ true = grind (arith, nat_tests, h) in rw yes refl

passed_by : (m e : Entry) (ms : List Entry) → m.ticket + 1 ≤ e.ticket → with_member (m ∷ ms) e ≡ m ∷ with_member ms e
passed_by m e ms h = let no : nat_lt e.ticket m.ticket ≡ false = grind (arith, nat_tests, h) in rw no refl

-- one that is left becomes a member, in its place
member_merged : (low : ℕ) (zs xs ys before : List Entry) (e : Entry) (after : List Entry) → Ascend low zs → IsMerged zs xs ys
    → ys ≡ before ++ e ∷ after
    → IsMerged zs (with_member xs e) (before ++ after)
member_merged low [] xs ys before e after up m is = absurd (not_nil before e after (sym m.1 ∙ is))
member_merged low (z ∷ zs) xs ys before e after up (inl m) is =
    let h = left_above (z.ticket + 1) zs m.0 ys before e after up.1 m.2 is in
    inl (
      with_member m.0 e,
      ap (λ vs. with_member vs e) m.1 ∙ passed_by z e m.0 h,
      member_merged (z.ticket + 1) zs m.0 ys before e after up.1 m.2 is,
    )
member_merged low (z ∷ zs) xs ys [] e after up (inr m) is =
    let same : z ≡ e = ap (head_or z) (sym m.1 ∙ is) in
    let rest : m.0 ≡ after = ap tail_of (sym m.1 ∙ is) in
    let up' : Ascend (e.ticket + 1) zs = subst (λ (v : Entry). Ascend (v.ticket + 1) zs) same up.1 in
    inl (xs, first_goes xs e zs m.0 up' m.2 ∙ ap (λ v. v ∷ xs) (sym same), subst (λ vs. IsMerged zs xs vs) rest m.2)
member_merged low (z ∷ zs) xs ys (b ∷ before) e after up (inr m) is =
    let same : z ≡ b = ap (head_or z) (sym m.1 ∙ is) in
    let rest : m.0 ≡ before ++ e ∷ after = ap tail_of (sym m.1 ∙ is) in
    inr (
      before ++ after,
      ap (λ v. v ∷ (before ++ after)) (sym same),
      member_merged (z.ticket + 1) zs xs m.0 before e after up.1 m.2 rest,
    )

-- Sectors.

or_swap : (a b c : Bool) → (a || (b || c)) ≡ (b || (a || c))
or_swap true true c = refl
or_swap true false c = refl
or_swap false b c = refl

any_by : (e m : Entry) (ms : List Entry) (s : ℕ) (b : Bool)
    → (any_has (with_member ms e) s ≡ (has_sector e.request s || any_has ms s))
    → any_has (if b then (e ∷ m ∷ ms) else (m ∷ with_member ms e)) s
    ≡ (has_sector e.request s || (has_sector m.request s || any_has ms s))
any_by e m ms s true h = refl
any_by e m ms s false h =
    ap (λ (b : Bool). has_sector m.request s || b) h
    ∙ or_swap (has_sector m.request s) (has_sector e.request s) (any_has ms s)

any_with : (ms : List Entry) (e : Entry) (s : ℕ) → any_has (with_member ms e) s ≡ (has_sector e.request s || any_has ms s)
any_with [] e s = refl
any_with (m ∷ ms) e s = any_by e m ms s (nat_lt e.ticket m.ticket) (any_with ms e s)

or_false : (a b : Bool) → (a || b) ≡ false → (a ≡ false) × (b ≡ false)
or_false true b h = absurd (true≢false h)
or_false false b h = (refl, h)

or_none : (a b : Bool) → a ≡ false → b ≡ false → (a || b) ≡ false
or_none true b p q = absurd (true≢false p)
or_none false b p q = q

pub not_both : (b c : Bool) → (b ≡ true → c ≡ false) → c ≡ true → b ≡ false
not_both true c h k = absurd (true≢false (sym k ∙ h refl))
not_both false c h k = refl

apart_by : (e m : Entry) (ms : List Entry) (b : Bool)
    → ((s : ℕ) → has_sector e.request s ≡ true → (has_sector m.request s || any_has ms s) ≡ false) → AreApart (m ∷ ms)
    → AreApart (with_member ms e)
    → AreApart (if b then (e ∷ m ∷ ms) else (m ∷ with_member ms e))
apart_by e m ms true h a rest = (h, a)
apart_by e m ms false h a rest = (
  (λ s t.
      any_with ms e s
      ∙ or_none (has_sector e.request s) (any_has ms s)
      (not_both (has_sector e.request s) (has_sector m.request s) (λ u. (or_false (has_sector m.request s) (any_has ms s) (h s u)).0) t)
      (a.0 s t)),
  rest,
)

apart_with : (ms : List Entry) (e : Entry) → ((s : ℕ) → has_sector e.request s ≡ true → any_has ms s ≡ false) → AreApart ms
    → AreApart (with_member ms e)
apart_with [] e h a = ((λ s t. refl), tt)
apart_with (m ∷ ms) e h a =
    apart_by e m ms (nat_lt e.ticket m.ticket) h a
    (apart_with ms e (λ s u. (or_false (has_sector m.request s) (any_has ms s) (h s u)).1) a.1)

outside : (start end first last s : ℕ) → (first ≡ end) ⊎ (last ≡ start) → (nat_le first s && nat_lt s last) ≡ true
    → (nat_le start s && nat_lt s end) ≡ false
outside start end first last s (inl h) t = grind (arith, nat_tests)
outside start end first last s (inr h) t = grind (arith, nat_tests)

at_end : (start end first last s : ℕ) → first ≡ end → start ≤ end → first ≤ last
    → ((nat_le first s && nat_lt s last) || (nat_le start s && nat_lt s end)) ≡ (nat_le start s && nat_lt s last)
at_end start end first last s h p q = grind (arith, nat_tests)

at_start : (start end first last s : ℕ) → last ≡ start → start ≤ end → first ≤ last
    → ((nat_le first s && nat_lt s last) || (nat_le start s && nat_lt s end)) ≡ (nat_le first s && nat_lt s end)
at_start start end first last s h p q = grind (arith, nat_tests)

-- The extent, and one more at one of its ends.

abbrev Side : Extent → Request → Extent → Type 0
Side extent r new =
    ((new ≡ record extent { end = end_of r; members = extent.members + 1 }) × (start_of r ≡ extent.end))
    ⊎ ((new ≡ record extent { start = start_of r; members = extent.members + 1 }) × (end_of r ≡ extent.start))

side_by : (extent : Extent) (r : Request) (b : Bool) → (start_of r == extent.end) ≡ b → (start_of r ≡ extent.end) ⊎ (end_of r ≡ extent.start)
    → Side extent r (if b then record extent { end = end_of r; members = extent.members + 1 } else record extent { start = start_of r; members = extent.members + 1 })
side_by extent r true is beside = inl (refl, (grind (arith, nat_tests, is)))
side_by extent r false is (inr h) = inr (refl, h)
side_by extent r false is (inl h) = let yes : (start_of r == extent.end) ≡ true = grind (arith, nat_tests, h) in absurd (true≢false (sym yes ∙ is))

side : (extent : Extent) (r : Request) → (start_of r ≡ extent.end) ⊎ (end_of r ≡ extent.start) → Side extent r (widened extent r)
side extent r beside = side_by extent r (start_of r == extent.end) refl beside

same_part : (extent : Extent) (r : Request) (new : Extent) → Side extent r new → new.part ≡ extent.part
same_part extent r new (inl h) = ap (λ (x : Extent). x.part) h.0
same_part extent r new (inr h) = ap (λ (x : Extent). x.part) h.0

same_kind : (extent : Extent) (r : Request) (new : Extent) → Side extent r new → new.kind ≡ extent.kind
same_kind extent r new (inl h) = ap (λ (x : Extent). x.kind) h.0
same_kind extent r new (inr h) = ap (λ (x : Extent). x.kind) h.0

forward : (extent : Extent) (r : Request) (new : Extent) → Side extent r new → extent.start ≤ extent.end → new.start ≤ new.end
forward extent r new (inl h) up =
    let s = ap (λ (x : Extent). x.start) h.0 in let e = ap (λ (x : Extent). x.end) h.0 in let k = h.1 in omega (arith, s, e, k, up)
forward extent r new (inr h) up =
    let s = ap (λ (x : Extent). x.start) h.0 in let e = ap (λ (x : Extent). x.end) h.0 in let k = h.1 in omega (arith, s, e, k, up)

short_by : (most : ℕ) (extent : Extent) (r : Request) (new : Extent) → most ≤ MAX_COUNT → Side extent r new
    → extent.end + count_of r ≤ extent.start + most
    → new.end ≤ new.start + MAX_COUNT
short_by most extent r new limit (inl h) room =
    let s = ap (λ (x : Extent). x.start) h.0 in let e = ap (λ (x : Extent). x.end) h.0 in let k = h.1 in omega (arith, s, e, k, room, limit)
short_by most extent r new limit (inr h) room =
    let s = ap (λ (x : Extent). x.start) h.0 in let e = ap (λ (x : Extent). x.end) h.0 in let k = h.1 in omega (arith, s, e, k, room, limit)

covers : (extent : Extent) (r : Request) (new : Extent) (s : ℕ) → Side extent r new → extent.start ≤ extent.end
    → (has_sector r s || (nat_le extent.start s && nat_lt s extent.end)) ≡ (nat_le new.start s && nat_lt s new.end)
covers extent r new s (inl h) up =
    rw h.0 (at_end extent.start extent.end (start_of r) (end_of r) s h.1 up (omega arith))
covers extent r new s (inr h) up =
    rw h.0 (at_start extent.start extent.end (start_of r) (end_of r) s h.1 up (omega arith))

alike_by : (new : Extent) (e m : Entry) (ms : List Entry) (b : Bool) → AreAlike new (e ∷ m ∷ ms) → AreAlike new (with_member ms e)
    → AreAlike new (if b then (e ∷ m ∷ ms) else (m ∷ with_member ms e))
alike_by new e m ms true all rest = all
alike_by new e m ms false all rest = (all.2.0, all.2.1, rest)

alike_with : (new : Extent) (e : Entry) (ms : List Entry) → part_of e.request ≡ new.part → kind_of e.request ≡ new.kind → AreAlike new ms
    → AreAlike new (with_member ms e)
alike_with new e [] p k all = (p, k, tt)
alike_with new e (m ∷ ms) p k all =
    alike_by new e m ms (nat_lt e.ticket m.ticket) (p, k, all) (alike_with new e ms p k all.2)

alike_still : (extent new : Extent) (ms : List Entry) → new.part ≡ extent.part → new.kind ≡ extent.kind → AreAlike extent ms → AreAlike new ms
alike_still extent new [] p k all = tt
alike_still extent new (m ∷ ms) p k all = (all.0 ∙ sym p, all.1 ∙ sym k, alike_still extent new ms p k all.2)

length_by : (e m : Entry) (ms : List Entry) (b : Bool) → length (with_member ms e) ≡ suc (length ms)
    → length (if b then (e ∷ m ∷ ms) else (m ∷ with_member ms e)) ≡ suc (suc (length ms))
length_by e m ms true h = refl
length_by e m ms false h = ap suc h

length_with : (ms : List Entry) (e : Entry) → length (with_member ms e) ≡ suc (length ms)
length_with [] e = refl
length_with (m ∷ ms) e = length_by e m ms (nat_lt e.ticket m.ticket) (length_with ms e)

-- No earlier conflict is passed.

both_true : (a b : Bool) → a ≡ true → b ≡ true → (a && b) ≡ true
both_true true b h k = k
both_true false b h k = absurd (true≢false (sym h))

passes_still : (v : Entry) (before : List Entry) (e : Entry) (after : List Entry) → passes_none v (before ++ e ∷ after) ≡ true
    → passes_none v (before ++ after) ≡ true
passes_still v [] e after h = (and_parts (not (comes_first e v)) (passes_none v after) h).1
passes_still v (b ∷ before) e after h =
    let k = and_parts (not (comes_first b v)) (passes_none v (before ++ e ∷ after)) h in
    both_true (not (comes_first b v)) (passes_none v (before ++ after)) k.0 (passes_still v before e after k.1)

passes_less : (v : Entry) (left : List Entry) (e : Entry) (rest : List Entry) → Takes left e rest → passes_none v left ≡ true
    → passes_none v rest ≡ true
passes_less v left e rest t h =
    subst (λ ws. passes_none v ws ≡ true) (sym t.3)
    (passes_still v t.0 e t.1 (subst (λ ws. passes_none v ws ≡ true) t.2 h))

all_pass : (ms : List Entry) (left : List Entry) (e : Entry) (rest : List Entry) → Takes left e rest → PassNone ms left → PassNone ms rest
all_pass [] left e rest t h = tt
all_pass (m ∷ ms) left e rest t h = (passes_less m left e rest t h.0, all_pass ms left e rest t h.1)

pass_by : (rest : List Entry) (e m : Entry) (ms : List Entry) (b : Bool) → PassNone (e ∷ m ∷ ms) rest → PassNone (with_member ms e) rest
    → PassNone (if b then (e ∷ m ∷ ms) else (m ∷ with_member ms e)) rest
pass_by rest e m ms true all more = all
pass_by rest e m ms false all more = (all.1.0, more)

pass_with : (rest : List Entry) (e : Entry) (ms : List Entry) → passes_none e rest ≡ true → PassNone ms rest → PassNone (with_member ms e) rest
pass_with rest e [] h all = (h, tt)
pass_with rest e (m ∷ ms) h all = pass_by rest e m ms (nat_lt e.ticket m.ticket) (h, all) (pass_with rest e ms h all.1)

-- All are sound.

sound_by : (e m : Entry) (ms : List Entry) (b : Bool) → IsSound e → AreSound (m ∷ ms) → AreSound (with_member ms e)
    → AreSound (if b then (e ∷ m ∷ ms) else (m ∷ with_member ms e))
sound_by e m ms true one all more = (one, all)
sound_by e m ms false one all more = (all.0, more)

sound_with : (ms : List Entry) (e : Entry) → IsSound e → AreSound ms → AreSound (with_member ms e)
sound_with [] e one all = (one, tt)
sound_with (m ∷ ms) e one all = sound_by e m ms (nat_lt e.ticket m.ticket) one all (sound_with ms e one all.1)

-- A step, and the whole.

at_most : (a b : ℕ) → nat_le a b ≡ true → a ≤ b
at_most a b h = grind (arith, nat_tests)

less_than : (a b : ℕ) → nat_lt a b ≡ true → a < b
less_than a b h = grind (arith, nat_tests)

step : (most : ℕ) (waits members : List Entry) (extent : Extent) (left : List Entry) (e : Entry) (rest : List Entry)
    → most ≤ MAX_COUNT → Ascend 0 waits
    → IsFair waits members extent left × (extent.start ≤ extent.end) × AreSound left → Joins most extent left e rest
    → IsFair waits (with_member members e) (widened extent e.request) rest
    × ((widened extent e.request).start ≤ (widened extent e.request).end) × AreSound rest
step most waits members extent left e rest limit up old j =
    let f = old.0 in
    let g = f.joined in
    let r = e.request in
    let may = and_parts (fits most extent r) (passes_none e left) j.may in
    let fit = fits_parts most extent r may.0 in
    let at = side extent r fit.beside in
    let new = widened extent r in
    let room = and_parts (nat_lt extent.members 16) (nat_le (extent.end + count_of r) (extent.start + most)) fit.room in
    let t = j.leaves in
    let later_up : Ascend (f.oldest.ticket + 1) f.later = (subst (Ascend 0) f.waits_are up).1 in
    let above = left_above (f.oldest.ticket + 1) f.later f.others left t.0 e t.1 later_up f.parts t.2 in
    let part = same_part extent r new at in
    let kind = same_kind extent r new at in
    let long = length_with members e in
    let more = widened_members extent r in
    let few = less_than extent.members 16 room.0 in
    let counted = g.counted in
    let sounds = subst AreSound t.2 old.2 in (
      record {
        oldest = f.oldest;
        others = with_member f.others e;
        later = f.later;
        members_are = ap (λ vs. with_member vs e) f.members_are ∙ passed_by f.oldest e f.others above;
        waits_are = f.waits_are;
        parts = subst (λ vs. IsMerged f.later (with_member f.others e) vs) (sym t.3)
            (member_merged (f.oldest.ticket + 1) f.later f.others left t.0 e t.1 later_up f.parts t.2);
        joined = record {
          alike = alike_with new e members (fit.part_is ∙ sym part) (fit.kind_is ∙ sym kind) (alike_still extent new members part kind g.alike);
          one_extent = λ s.
              any_with members e s ∙ (ap (λ b. has_sector r s || b) (g.one_extent s) ∙ covers extent r new s at old.1);
          apart = apart_with members e
              (λ s h. g.one_extent s ∙ outside extent.start extent.end (start_of r) (end_of r) s (fit.beside) h) g.apart;
          counted = omega (arith, long, more, counted);
          some = omega (arith, long);
          few = omega (arith, long, few, counted);
          short = λ m. short_by most extent r new limit at (at_most (extent.end + count_of r) (extent.start + most) room.1);
          alone = λ no. absurd (true≢false (sym fit.merges ∙ (ap can_merge (sym kind) ∙ no)));
          sound = sound_with members e (sound_one t.0 e t.1 sounds) g.sound;
        };
        pass_none = pass_with rest e members (passes_less e left e rest t may.1) (all_pass members left e rest t f.pass_none);
      },
      forward extent r new at old.1,
      subst AreSound (sym t.3) (sound_without t.0 e t.1 sounds),
    )

all_left : (zs : List Entry) → IsMerged zs [] zs
all_left [] = (refl, refl)
all_left (z ∷ zs) = inr (zs, refl, all_left zs)

pass_later : (e : Entry) (low : ℕ) (es : List Entry) → e.ticket < low → Ascend low es → passes_none e es ≡ true
pass_later e low [] less up = refl
pass_later e low (x ∷ es) less up =
    let k = up.0 in
    let no : nat_lt x.ticket e.ticket ≡ false = grind (arith, nat_tests, k, less) in
    rw no (pass_later e (x.ticket + 1) es (omega (arith, k, less)) up.1)

one_sector : (a b : Bool) → ((a && b) || false) ≡ (a && b)
one_sector true true = refl
one_sector true false = refl
one_sector false b = refl

-- a request is served alone
pub one_joined : (e : Entry) → IsSound e → IsJoined (e ∷ []) (extent_of e.request)
one_joined e one = record {
  alike = (refl, refl, tt);
  one_extent = λ s. one_sector (nat_le (start_of e.request) s) (nat_lt s (end_of e.request));
  apart = ((λ s h. refl), tt);
  counted = refl;
  some = omega arith;
  few = omega arith;
  short = λ m. let k = one.few m in omega (arith, k);
  alone = λ no. refl;
  sound = (one, tt);
}

pub fair : (most : ℕ) (waits members : List Entry) (extent : Extent) (left : List Entry) → most ≤ MAX_COUNT → Ascend 0 waits
    → AreSound waits → Grows most waits members extent left
    → IsFair waits members extent left × (extent.start ≤ extent.end) × AreSound left
fair most waits members extent left limit up sound (begins oldest later is) =
    let one : IsSound oldest = (subst AreSound is sound).0 in
    let more : Ascend (oldest.ticket + 1) later = (subst (Ascend 0) is up).1 in (
      record {
        oldest = oldest;
        others = [];
        later = later;
        members_are = refl;
        waits_are = is;
        parts = all_left later;
        joined = one_joined oldest one;
        pass_none = (pass_later oldest (oldest.ticket + 1) later (omega arith) more, tt);
      },
      omega arith,
      (subst AreSound is sound).1,
    )
fair most waits members extent left limit up sound (joins old_members old_extent old_left e rest g j) =
    step most waits old_members old_extent old_left e rest limit up
    (fair most waits old_members old_extent old_left limit up sound g) j
