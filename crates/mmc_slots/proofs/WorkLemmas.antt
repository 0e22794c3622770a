-- How much is left to do, by how many there are.
use Rattle.std.proofs.Common.{◌*◌, ◌+◌, ◌<◌, ◌∙◌, ◌≡◌, ◌≢◌, ◌++◌, ◌∷◌, Bool, List, [], ap, arith, false, length, length-append, refl, sym, true, ℕ}
use Rattle.std.proofs.lemmas.List.{length-map}
use Rattle.std.specs.Prelude.{◌==◌, filter, if◌then◌else◌, nat_le, nat_lt}
use Rattle.mmc_queue.specs.Rule.{Grows, begins, joins, with_member}
use Rattle.mmc_queue.specs.Waiting.{Takes}
use Rattle.mmc_queue.specs.declared.entry.Entry.{Entry}
use Rattle.mmc_queue.specs.declared.extent.Extent.{Extent}
use Rattle.mmc_slots.specs.Served.{IsAnswered, IsSplit}
use Rattle.mmc_slots.specs.Slots.{Memory, entries_in, entry_of}
use Rattle.mmc_slots.specs.Started.{StartsAlone, StartsGroup}
use Rattle.mmc_slots.specs.Work.{count_in, work_left, work_of_service}
use Rattle.mmc_slots.specs.declared.slot.Slot.{Slot}

one_more : (e : Entry) (es : List Entry) → length (e ∷ es) ≡ length es + 1
one_more e es = omega arith

-- one is taken of these
taken_one : (xs : List Entry) (e : Entry) (ys : List Entry) → Takes xs e ys → length xs ≡ length ys + 1
taken_one xs e ys t =
    let a : length xs ≡ length t.0 + length (e ∷ t.1) = ap length t.2 ∙ length-append t.0 (e ∷ t.1) in
    let b : length ys ≡ length t.0 + length t.1 = ap length t.3 ∙ length-append t.0 t.1 in
    let c = one_more e t.1 in
    omega (arith, a, b, c)

-- and one more comes
of_either : (first : Bool) (xs ys : List Entry) (n : ℕ) → length xs ≡ n → length ys ≡ n → length (if first then xs else ys) ≡ n
of_either true xs ys n a b = a
of_either false xs ys n a b = b

one_member : (ms : List Entry) (e : Entry) → length (with_member ms e) ≡ length ms + 1
one_member [] e = one_more e []
one_member (m ∷ ms) e =
    let again = one_member ms e in
    let a = one_more m ms in
    let b = one_more e (m ∷ ms) in
    let c = one_more m (with_member ms e) in
    of_either (nat_lt e.ticket m.ticket) (e ∷ m ∷ ms) (m ∷ with_member ms e) (length (m ∷ ms) + 1) b (omega (arith, again, a, c))

-- a group has at least one member, and its members waited
grown : (most : ℕ) (waits members : List Entry) (extent : Extent) (left : List Entry) → Grows most waits members extent left
    → (0 < length members) × (length waits ≡ length members + length left)
grown most waits members extent left (begins oldest later is) =
    let a = one_more oldest [] in
    let b = one_more oldest later in
    let c : length waits ≡ length (oldest ∷ later) = ap length is in
    (omega (arith, a), omega (arith, a, b, c))
grown most waits members extent left (joins old_members old_extent old_left e rest g j) =
    let before = grown most waits old_members old_extent old_left g in
    let a = one_member old_members e in
    let b = taken_one old_left e rest j.leaves in
    let some = before.0 in
    let all = before.1 in
    (omega (arith, a, some), omega (arith, a, b, all))

-- so many in service want less than if they waited
several : (is : Bool) (n : ℕ) → nat_lt 1 n ≡ is → 0 < n → (if is then 2 * n + 1 else n) < 3 * n
several true n is some = let more : 1 < n = grind (arith, is) in omega (arith, more)
several false n is some = omega (arith, some)

service_less : (n : ℕ) → 0 < n → work_of_service n < 3 * n
service_less n some = several (nat_lt 1 n) n refl some

-- those of a state are as many as its slots, whatever lies in their memory
pub counted : (m : Memory) (state : ℕ) (slots : List Slot) → length (entries_in m state slots) ≡ count_in state slots
counted m state slots = length-map (filter (λ s. s.state == state) slots) (entry_of m)

-- of so many that wait, that are in service, and that are to be served alone
abbrev work_of : ℕ → ℕ → ℕ → ℕ
work_of waits together alone = 3 * waits + (2 * alone + work_of_service together)

work_is : (m : Memory) (slots : List Slot) (waits together alone : ℕ) → length (entries_in m 1 slots) ≡ waits
    → length (entries_in m 2 slots) ≡ together → length (entries_in m 3 slots) ≡ alone
    → work_left slots ≡ work_of waits together alone
work_is m slots waits together alone w t a =
    let ws : count_in 1 slots ≡ waits = sym (counted m 1 slots) ∙ w in
    let ts : count_in 2 slots ≡ together = sym (counted m 2 slots) ∙ t in
    let as_ : count_in 3 slots ≡ alone = sym (counted m 3 slots) ∙ a in
    rw (ws, ts, as_) refl

-- where all others stay
others_same : (old new : List Slot) (m : Memory) (state : ℕ) → entries_in m state new ≡ entries_in m state old
    → count_in state new ≡ count_in state old
others_same old new m state same = sym (counted m state new) ∙ ap length same ∙ counted m state old

pub one_waits : (m : Memory) (e : Entry) (old new : List Slot) → entries_in m 1 new ≡ entries_in m 1 old ++ e ∷ []
    → ((state : ℕ) → state ≢ 0 → state ≢ 1 → entries_in m state new ≡ entries_in m state old) → work_left new ≡ work_left old + 3
one_waits m e old new waits others =
    let more : length (entries_in m 1 new) ≡ length (entries_in m 1 old) + length (e ∷ []) =
    ap length waits ∙ length-append (entries_in m 1 old) (e ∷ []) in
    let one = one_more e [] in
    let was = counted m 1 old in
    let is = counted m 1 new in
    let apart = others_same old new m 2 (others 2 (λ h. omega (arith, h)) (λ h. omega (arith, h))) in
    let alone = others_same old new m 3 (others 3 (λ h. omega (arith, h)) (λ h. omega (arith, h))) in
    let waiting : count_in 1 new ≡ count_in 1 old + 1 = omega (arith, more, one, was, is) in
    rw (waiting, apart, alone) (omega arith)

pub one_given_back : (m : Memory) (e : Entry) (old new : List Slot) → Takes (entries_in m 1 old) e (entries_in m 1 new)
    → ((state : ℕ) → state ≢ 0 → state ≢ 1 → entries_in m state new ≡ entries_in m state old) → work_left new + 3 ≡ work_left old
one_given_back m e old new taken others =
    let less = taken_one (entries_in m 1 old) e (entries_in m 1 new) taken in
    let was = counted m 1 old in
    let is = counted m 1 new in
    let apart = others_same old new m 2 (others 2 (λ h. omega (arith, h)) (λ h. omega (arith, h))) in
    let alone = others_same old new m 3 (others 3 (λ h. omega (arith, h)) (λ h. omega (arith, h))) in
    let waiting : count_in 1 old ≡ count_in 1 new + 1 = omega (arith, less, was, is) in
    rw (waiting, apart, alone) (omega arith)

pub group_less : (m : Memory) (most : ℕ) (old new : List Slot) (extent : Extent) → entries_in m 2 old ≡ [] → entries_in m 3 old ≡ []
    → StartsGroup m most old new extent → work_left new < work_left old
group_less m most old new extent none nobody s =
    let g = grown most (entries_in m 1 old) (entries_in m 2 new) extent (entries_in m 1 new) s.group.grown in
    let all = g.1 in
    let less = service_less (length (entries_in m 2 new)) g.0 in
    let was = work_is m old (length (entries_in m 1 old)) 0 0 refl (ap length none) (ap length nobody) in
    let is = work_is m new (length (entries_in m 1 new)) (length (entries_in m 2 new)) 0 refl refl (ap length s.alone) in
    omega (arith, all, less, was, is)

alone_less : (m : Memory) (e : Entry) (es : List Entry) (old new : List Slot) (extent : Extent) → entries_in m 2 old ≡ []
    → entries_in m 3 old ≡ e ∷ es → StartsAlone m e es old new extent → work_left new < work_left old
alone_less m e es old new extent none are s =
    let was = work_is m old (length (entries_in m 1 old)) 0 (length es + 1) refl (ap length none) (ap length are ∙ one_more e es) in
    let is = work_is m new (length (entries_in m 1 old)) 1 (length es) (ap length s.waits) (ap length s.together) (ap length s.alone) in
    omega (arith, was, is)

-- where some are to be served alone, one of them is
pub some_alone : (m : Memory) (alone : List Entry) (old new : List Slot) (extent : Extent) → (entries_in m 3 old ≡ [] → ⊥)
    → entries_in m 3 old ≡ alone → entries_in m 2 old ≡ []
    → ((e : Entry) (es : List Entry) → entries_in m 3 old ≡ e ∷ es → StartsAlone m e es old new extent)
    → work_left new < work_left old
some_alone m [] old new extent some are none starts = absurd (some are)
some_alone m (e ∷ es) old new extent some are none starts = alone_less m e es old new extent none are (starts e es are)

some_of : (es : List Entry) → es ≢ [] → 0 < length es
some_of [] some = absurd (some refl)
some_of (e ∷ es) some = let a = one_more e es in omega (arith, a)

-- those in service want something
wanted : (is : Bool) (n : ℕ) → 0 < n → 0 < (if is then 2 * n + 1 else n)
wanted true n some = omega arith
wanted false n some = some

pub answered_less : (m : Memory) (old new : List Slot) → entries_in m 2 old ≢ [] → IsAnswered m old new
    → work_left new < work_left old
answered_less m old new some a =
    let n = length (entries_in m 2 old) in
    let more : 0 < work_of_service n = wanted (nat_lt 1 n) n (some_of (entries_in m 2 old) some) in
    let was = work_is m old (length (entries_in m 1 old)) n (length (entries_in m 3 old)) refl refl refl in
    let is = work_is m new (length (entries_in m 1 old)) 0 (length (entries_in m 3 old)) (ap length a.waits) (ap length a.none) (ap length a.alone) in
    omega (arith, more, was, is)

-- several want more than each of them alone
more_together : (is : Bool) (n : ℕ) → is ≡ true → 2 * n < (if is then 2 * n + 1 else n)
more_together true n is = omega arith
more_together false n is = absurd cc

pub not_few : (n : ℕ) → nat_le n 1 ≡ false → nat_lt 1 n ≡ true
not_few n many = grind (arith, many)

pub split_less : (m : Memory) (old new : List Slot) → nat_lt 1 (length (entries_in m 2 old)) ≡ true → entries_in m 3 old ≡ []
    → IsSplit m old new → work_left new < work_left old
split_less m old new several none a =
    let n = length (entries_in m 2 old) in
    let more = more_together (nat_lt 1 n) n several in
    let was = work_is m old (length (entries_in m 1 old)) n 0 refl refl (ap length none) in
    let is = work_is m new (length (entries_in m 1 old)) 0 n (ap length a.waits) (ap length a.none) (ap length a.alone) in
    omega (arith, more, was, is)
