-- The parts of a long request, by their numbers.
use Rattle.std.proofs.Common.{[], Err, Ok, Result, ap, append-nil, append_assoc, arith, drop, inl, inr, length, refl, subst, sym, take, ◌*◌, ◌+◌, ◌++◌, ◌-◌, ◌<◌, ◌∙◌, ◌≡◌, ◌≤◌, ◌∷◌, ◌⊎◌, List, suc, zero, ℕ}
use Rattle.std.proofs.Math.Numerals.{suc-eq-add-one}
use Rattle.std.proofs.Math.Seq.{drop-append_seam, take-add}
use Rattle.std.proofs.lemmas.List.{drop-append-le, drop-take, drop_all, length-append, length-drop, take-append-le, take-take, take_all, take_min}
use Rattle.std.proofs.lemmas.Grind.{div_ceil_times, flat_map-append}
use Rattle.std.specs.Int.{div_ceil}
use Rattle.std.proofs.lemmas.List.Sums.{sum_by-append, sum_by-cons}
use Rattle.std.proofs.lemmas.List.Sorted.{Contains-permutation, IsPermutation-append, IsPermutation-refl, IsPermutation-sym, IsPermutation-trans}
use Rattle.std.proofs.lemmas.List.{get_or_append_left, get_or_push}
use Rattle.std.specs.List.{sum_by}
use Rattle.std.specs.Prelude.{◌≢◌, IfErr, IfOk, IsErrAnd, IsPermutation, get_or, min}
use Rattle.mmc_block.specs.declared.completion.Answer.TheVariants.{Data, Done}
use Rattle.mmc_block.specs.declared.completion.Answer.{Answer}
use Rattle.mmc_block.specs.declared.completion.Completion.{Completion}
use Rattle.mmc_queue.specs.declared.request.Request.{Request}
use Rattle.mmc_queue.specs.declared.request.Request.TheVariants.{Read, Write}
use Rattle.mmc_card.specs.declared.part.Part.{Part}
use Rattle.mmc_block.specs.Execution.{Reply}
use Rattle.mmc_block.specs.Execution.Reply.{Accepted}
use Rattle.mmc_block.specs.declared.refused.Refused.{Refused}
use Rattle.mmc_block.specs.declared.refused.Refused.TheVariants.{Empty, Full, NoMemory, NoSuchPartition, NoTrim, NotInPartition, OutOfRange, ReadOnly, TooLong, Unaligned, WrongLength}
use Rattle.nbd_messages.specs.declared.error.ReplyError.TheVariants.{Failed}
use Rattle.nbd_server.specs.Acts.{Act, error_of}
use Rattle.nbd_server.specs.Acts.Act.{AsksPart, Clears, Gathers}
use Rattle.nbd_server.specs.Parts.{AreAll, AreAnswered, AreGathered, AreWindows, HasFailedPart, InTurn, IsWanted, Lacks, firsts, IsRead, IsWritten, Window, accepted, accepted_by, gathered, gathered_by, reads, writes, Has, bytes_of_part, sectors_of}

less_or_same : (n k : ℕ) → n < k + 1 → (n < k) ⊎ (n ≡ k)
less_or_same n k lt = grind (arith, lt)

by_place : (P : ℕ → Type 0) (k n : ℕ) → ((n : ℕ) → n < k → P n) → P k → (n < k) ⊎ (n ≡ k) → P n
by_place P k n below at (inl less) = below n less
by_place P k n below at (inr same) = subst P (sym same) at

-- what holds below a number and at it holds below the next one
pub below_next : (P : ℕ → Type 0) (k : ℕ) → ((n : ℕ) → n < k → P n) → P k → (n : ℕ) → n < k + 1 → P n
below_next P k below at n lt = by_place P k n below at (less_or_same n k lt)

-- bytes that are there stay where they are
pub slice_stays : (a d : ℕ) (xs ys : List ℕ) → d + a ≤ length xs → take a (drop d (xs ++ ys)) ≡ take a (drop d xs)
slice_stays a d xs ys le =
    ap (take a) (drop-append-le d xs ys (omega (arith, le)))
    ∙ take-append-le a (drop d xs) ys (omega (arith, le, length-drop d xs))

-- what is put after is found there
pub slice_after : (a d : ℕ) (xs ys : List ℕ) → length xs ≡ d → length ys ≡ a → take a (drop d (xs ++ ys)) ≡ ys
slice_after a d xs ys at long =
    ap (take a) (ap (λ k. drop k (xs ++ ys)) (sym at) ∙ drop-append_seam xs ys) ∙ take_all a ys (omega (arith, long))

-- Bytes of parts that are joined one after the other.

earlier_end : (count parts k n : ℕ) → 16 * parts < count + 16 → k < parts → n < k
    → 8192 * n + 512 * sectors_of count n ≤ 512 * min count (16 * k)
earlier_end count parts k n all lt less = omega (arith, all, lt, less)

begins_there : (count parts k : ℕ) → 16 * parts < count + 16 → k < parts → 512 * min count (16 * k) ≡ 8192 * k
begins_there count parts k all lt = omega (arith, all, lt)

ends_there : (count parts k : ℕ) → 16 * parts < count + 16 → k < parts
    → 512 * min count (16 * k) + 512 * sectors_of count k ≡ 512 * min count (16 * (k + 1))
ends_there count parts k all lt = omega (arith, all, lt)

pub joined_long : (count parts k : ℕ) (bytes piece : List ℕ) → 16 * parts < count + 16 → k < parts
    → length bytes ≡ 512 * min count (16 * k) → length piece ≡ 512 * sectors_of count k
    → length (bytes ++ piece) ≡ 512 * min count (16 * (k + 1))
joined_long count parts k bytes piece all lt long one =
    omega (arith, length-append bytes piece, long, one, ends_there count parts k all lt)

pub joined : (given : List Completion) (count parts k : ℕ) (bytes piece : List ℕ) → 16 * parts < count + 16 → k < parts
    → length bytes ≡ 512 * min count (16 * k) → length piece ≡ 512 * sectors_of count k → AreAnswered given count k bytes
    → Has given k (Data piece) → AreAnswered given count (k + 1) (bytes ++ piece)
joined given count parts k bytes piece all lt long one before now =
    below_next (λ n. Has given n (Data (bytes_of_part (bytes ++ piece) count n))) k
    (λ n less. let (c, among, client, answer) = before n less in (
      c,
      among,
      client,
      answer ∙ ap Data (sym (slice_stays (512 * sectors_of count n) (8192 * n) bytes piece
          (omega (arith, long, earlier_end count parts k n all lt less)))),
    ))
    (let (c, among, client, answer) = now in (
      c,
      among,
      client,
      answer ∙ ap Data (sym (slice_after (512 * sectors_of count k) (8192 * k) bytes piece
          (long ∙ begins_there count parts k all lt) one)),
    ))

-- Acts one after the other.

pub accepted_then : (xs ys : List Act) → accepted (xs ++ ys) ≡ accepted xs ++ accepted ys
unfolding accepted
accepted_then xs ys = flat_map-append accepted_by xs ys

pub gathered_then : (xs ys : List Act) → gathered (xs ++ ys) ≡ gathered xs ++ gathered ys
unfolding gathered
gathered_then xs ys = flat_map-append gathered_by xs ys

pub gathered_none : AreGathered [] []
unfolding accepted gathered
gathered_none = (refl, IsPermutation-refl [])

pub gathered_more : (acts : List Act) (given all new : List Completion) → AreGathered acts all
    → IsPermutation (all ++ given) new → AreGathered (acts ++ Gathers given ∷ []) new
unfolding accepted gathered
gathered_more acts given all new (none, kept) more = (
  accepted_then acts (Gathers given ∷ []) ∙ ap (λ xs. xs ++ []) none,
  rw (gathered_then acts (Gathers given ∷ [])) (rw (append-nil given)
      (IsPermutation-trans (gathered acts ++ given) (all ++ given) new
      (IsPermutation-append (gathered acts) all given given kept (IsPermutation-refl given)) more)),
)

pub gathered_cleared : (acts : List Act) (all : List Completion) → AreGathered acts all → AreGathered (acts ++ Clears ∷ []) all
unfolding accepted gathered
gathered_cleared acts all (none, kept) = (
  accepted_then acts (Clears ∷ []) ∙ ap (λ xs. xs ++ []) none,
  rw (gathered_then acts (Clears ∷ [])) (rw (append-nil (gathered acts)) kept),
)

-- One part that is asked for.

pub part_gathers_nothing : (request : Request) (reply : Reply) → gathered (AsksPart request reply ∷ []) ≡ []
unfolding gathered
part_gathers_nothing request reply = refl

pub part_accepted : (ticket : ℕ) (request : Request) → accepted (AsksPart request (Accepted ticket) ∷ []) ≡ request ∷ []
unfolding accepted
part_accepted ticket request = refl

pub nothing_gathered : gathered [] ≡ []
unfolding gathered
nothing_gathered = refl

-- Requests by the numbers of their parts.

pub none_asked : (each : ℕ → Request) → accepted [] ≡ firsts each 0
unfolding accepted firsts
none_asked each = refl

firsts_next : (each : ℕ → Request) (n : ℕ) → firsts each (n + 1) ≡ firsts each n ++ each n ∷ []
unfolding firsts
firsts_next each n = ap (firsts each) (sym (suc-eq-add-one n))

-- one more was accepted
pub asked_more : (each : ℕ → Request) (n : ℕ) (request : Request) (before acts : List Act) → accepted before ≡ firsts each n
    → accepted acts ≡ request ∷ [] → request ≡ each n → accepted (before ++ acts) ≡ firsts each (n + 1)
asked_more each n request before acts so_far one is =
    accepted_then before acts
    ∙ ap (λ xs. xs ++ accepted acts) so_far
    ∙ ap (λ xs. firsts each n ++ xs) (one ∙ ap (λ r. r ∷ []) is)
    ∙ sym (firsts_next each n)

-- what is asked for is the part with this number
pub read_is : (part : Part) (start count n first sectors : ℕ) → first ≡ start + 16 * n → sectors ≡ sectors_of count n
    → Read part first sectors ≡ Read part (start + 16 * n) (sectors_of count n)
read_is part start count n first sectors there same =
    ap (λ k. Read part k sectors) there ∙ ap (λ m. Read part (start + 16 * n) m) same

pub write_is : (part : Part) (start count n first sectors : ℕ) (bytes piece : List ℕ) → first ≡ start + 16 * n
    → sectors ≡ sectors_of count n → piece ≡ bytes_of_part bytes count n
    → Write part first sectors piece ≡ Write part (start + 16 * n) (sectors_of count n) (bytes_of_part bytes count n)
write_is part start count n first sectors bytes piece there same its =
    ap (λ k. Write part k sectors piece) there
    ∙ ap (λ m. Write part (start + 16 * n) m piece) same
    ∙ ap (λ xs. Write part (start + 16 * n) (sectors_of count n) xs) its

length_firsts : (each : ℕ → Request) (n : ℕ) → length (firsts each n) ≡ n
unfolding firsts
length_firsts each zero = refl
length_firsts each (suc n) = omega (arith, length-append (firsts each n) (each n ∷ []), length_firsts each n)

by_number : (each : ℕ → Request) (n k : ℕ) (d : Request) → (k < n → get_or (firsts each n) k d ≡ each k)
    → (k < n) ⊎ (k ≡ n) → get_or (firsts each n ++ each n ∷ []) k d ≡ each k
by_number each n k d before (inl less) =
    get_or_append_left (firsts each n) (each n ∷ []) d k (omega (arith, less, length_firsts each n)) ∙ before less
by_number each n k d before (inr same) =
    get_or_push (firsts each n) (each n) d k (length_firsts each n ∙ sym same) ∙ ap each (sym same)

firsts_at : (each : ℕ → Request) (n k : ℕ) (d : Request) → k < n → get_or (firsts each n) k d ≡ each k
unfolding firsts
firsts_at each zero k d less = absurd (omega (arith, less))
firsts_at each (suc n) k d less =
    by_number each n k d (firsts_at each n k d) (less_or_same k n (omega (arith, less)))

-- A window: what was asked for, and then what was answered.

has_moved : (given all : List Completion) (n : ℕ) (answer : Answer) → IsPermutation given all → Has given n answer
    → Has all n answer
has_moved given all n answer moved (one, among, client, is) =
    (one, Contains-permutation given all one moved among, client, is)

lacks_moved : (Wanted : Answer → Type 0) (given all : List Completion) (n : ℕ) → IsPermutation given all
    → Lacks Wanted all n → Lacks Wanted given n
lacks_moved Wanted given all n moved (inl none) = inl (λ answer has. none answer (has_moved given all n answer moved has))
lacks_moved Wanted given all n moved (inr (answer, has, other)) =
    inr (answer, has_moved all given n answer (IsPermutation-sym given all moved) has, other)

gathered_after : (xs ys : List Act) → gathered xs ≡ [] → gathered (xs ++ ys) ≡ gathered ys
gathered_after xs ys none = gathered_then xs ys ∙ ap (λ zs. zs ++ gathered ys) none

accepted_before : (xs ys : List Act) → accepted ys ≡ [] → accepted (xs ++ ys) ≡ accepted xs
accepted_before xs ys none = accepted_then xs ys ∙ ap (λ zs. accepted xs ++ zs) none ∙ append-nil (accepted xs)

pub window_read : (part : Part) (start count parts : ℕ) (xs ys : List Act) (all : List Completion) (bytes : List ℕ)
    → gathered xs ≡ [] → AreAll parts count → accepted xs ≡ reads part start count parts → AreGathered ys all
    → length bytes ≡ 512 * min count (16 * parts) → AreAnswered all count parts bytes → IsRead part start count (xs ++ ys) bytes
window_read part start count parts xs ys all bytes none whole asked (nothing, kept) long answered = record {
  parts = parts;
  all = whole;
  asked = accepted_before xs ys nothing ∙ asked;
  long = omega (arith, long, whole.0);
  answered = λ n less. subst (λ given. Has given n (Data (bytes_of_part bytes count n))) (sym (gathered_after xs ys none))
      (has_moved all (gathered ys) n (Data (bytes_of_part bytes count n)) (IsPermutation-sym (gathered ys) all kept) (answered n less));
}

pub window_written : (part : Part) (start count parts : ℕ) (xs ys : List Act) (all : List Completion) (bytes : List ℕ)
    → gathered xs ≡ [] → AreAll parts count → accepted xs ≡ writes part start count bytes parts → AreGathered ys all
    → ((n : ℕ) → n < parts → Has all n Done) → IsWritten part start count (xs ++ ys) bytes
window_written part start count parts xs ys all bytes none whole asked (nothing, kept) done = record {
  parts = parts;
  all = whole;
  asked = accepted_before xs ys nothing ∙ asked;
  done = λ n less. subst (λ given. Has given n Done) (sym (gathered_after xs ys none)) (has_moved all (gathered ys) n Done (IsPermutation-sym (gathered ys) all kept) (done n less));
}

-- a part of it failed
pub window_failed : (each : ℕ → Request) (parts : ℕ) (xs ys : List Act) (all : List Completion) (n : ℕ) → gathered xs ≡ []
    → accepted xs ≡ firsts each parts → AreGathered ys all → n < parts → Lacks (IsWanted (each n)) all n
    → HasFailedPart (xs ++ ys)
window_failed each parts xs ys all n none asked (nothing, kept) less lacks =
    let same = accepted_before xs ys nothing ∙ asked in
    record {
      before = [];
      window = xs ++ ys;
      all = refl;
      number = n;
      request = each n;
      some = rw same (rw (length_firsts each parts) less);
      asked = rw same (firsts_at each parts n (each n) less);
      lacks = rw (gathered_after xs ys none) (lacks_moved (IsWanted (each n)) (gathered ys) all n kept lacks);
    }

-- after others
pub failed_later : (xs ys : List Act) → HasFailedPart ys → HasFailedPart (xs ++ ys)
failed_later xs ys h = record {
  before = xs ++ h.before;
  window = h.window;
  all = ap (λ zs. xs ++ zs) h.all ∙ sym (append_assoc xs h.before h.window);
  number = h.number;
  request = h.request;
  some = h.some;
  asked = h.asked;
  lacks = h.lacks;
}

pub never_failed : (why : Refused) → error_of why ≢ Failed
never_failed NoSuchPartition h = absurd cc
never_failed Empty h = absurd cc
never_failed TooLong h = absurd cc
never_failed OutOfRange h = absurd cc
never_failed WrongLength h = absurd cc
never_failed ReadOnly h = absurd cc
never_failed NotInPartition h = absurd cc
never_failed NoTrim h = absurd cc
never_failed Unaligned h = absurd cc
never_failed Full h = absurd cc
never_failed NoMemory h = absurd cc

-- an error that is passed on
pub if_err_passed : {X E : Type 0} (r : Result X E) (e : E) (P : E → Type 0) → IsErrAnd r (λ d. d ≡ e) → P e → IfErr r P
if_err_passed (Ok x) e P same h = tt
if_err_passed (Err d) e P same h = subst P (sym same) h

pub if_err_then : {X E : Type 0} (r : Result X E) (P Q : E → Type 0) → ((e : E) → P e → Q e) → IfErr r P → IfErr r Q
if_err_then (Ok x) P Q f h = tt
if_err_then (Err e) P Q f h = f e h

-- what follows from what holds of the value follows where there is one
pub if_ok_then : {X E : Type 0} (r : Result X E) (P Q : X → Type 0) → ((x : X) → P x → Q x) → IfOk r P → IfOk r Q
if_ok_then (Ok x) P Q f h = f x h
if_ok_then (Err e) P Q f h = tt

-- One window more.

pub in_turn_then : (Served : ℕ → Window → Type 0) (start : ℕ) (windows : List Window) (w : Window) → InTurn Served start windows
    → Served (start + sum_by (λ (w : Window). w.count) windows) w → InTurn Served start (windows ++ w ∷ [])
unfolding InTurn
in_turn_then Served start [] w before one = (subst (λ k. Served k w) (omega arith) one, tt)
in_turn_then Served start (v ∷ windows) w (first, before) one = (
  first,
  in_turn_then Served (start + v.count) windows w before
      (subst (λ k. Served k w) (omega (arith, sum_by-cons (λ (w : Window). w.count) v windows)) one),
)

pub none_in_turn : (Served : ℕ → Window → Type 0) (start : ℕ) → InTurn Served start []
unfolding InTurn
none_in_turn Served start = tt

pub no_windows : AreWindows [] 0 [] []
no_windows = record { sectors = refl; of_acts = refl; of_bytes = refl }

pub window_more : (windows : List Window) (count n : ℕ) (acts more : List Act) (bytes piece : List ℕ) → AreWindows windows count acts bytes
    → AreWindows (windows ++ record { count = n; acts = more; bytes = piece } ∷ []) (count + n) (acts ++ more) (bytes ++ piece)
window_more windows count n acts more bytes piece h = record {
  sectors = sum_by-append (λ (w : Window). w.count) windows (record { count = n; acts = more; bytes = piece } ∷ []) ∙ omega (arith, h.sectors);
  of_acts = flat_map-append (λ (w : Window). w.acts) windows (record { count = n; acts = more; bytes = piece } ∷ [])
      ∙ ap (λ xs. xs ++ (more ++ [])) h.of_acts ∙ ap (λ xs. acts ++ xs) (append-nil more);
  of_bytes = flat_map-append (λ (w : Window). w.bytes) windows (record { count = n; acts = more; bytes = piece } ∷ [])
      ∙ ap (λ xs. xs ++ (piece ++ [])) h.of_bytes ∙ ap (λ xs. bytes ++ xs) (append-nil piece);
}

-- the first bytes, and then those of the next window
pub bytes_next : (done n : ℕ) (bytes : List ℕ)
    → take (512 * (done + n)) bytes ≡ take (512 * done) bytes ++ take (512 * n) (drop (512 * done) bytes)
bytes_next done n bytes = ap (λ k. take k bytes) (omega arith) ∙ take-add (512 * done) (512 * n) bytes

-- Bytes that are taken out part by part, of a whole window or of all that are left.

long_enough : (count n long : ℕ) → 512 * count ≤ long → 16 * n < count → (long ≡ 512 * count) ⊎ (count ≡ 4096)
    → min 8192 (long - 8192 * n) ≡ 512 * sectors_of count n
long_enough count n long some more (inl same) = omega (arith, some, more, same)
long_enough count n long some more (inr same) = omega (arith, some, more, same)

window_or_rest : (count long : ℕ) → (count < 4096) ⊎ (count ≡ 4096) → (count < 4096 → long ≡ 512 * count)
    → (long ≡ 512 * count) ⊎ (count ≡ 4096)
window_or_rest count long (inl less) rest = inl (rest less)
window_or_rest count long (inr same) rest = inr same

pub whole_or_rest : (count long : ℕ) → count ≤ 4096 → (count < 4096 → long ≡ 512 * count)
    → (long ≡ 512 * count) ⊎ (count ≡ 4096)
whole_or_rest count long few rest = window_or_rest count long (less_or_same count 4096 (omega (arith, few))) rest

-- the next piece is the next part
pub next_part : (bytes : List ℕ) (count n : ℕ) → 512 * count ≤ length bytes → 16 * n < count
    → (length bytes ≡ 512 * count) ⊎ (count ≡ 4096)
    → take 8192 (drop (8192 * n) bytes) ≡ bytes_of_part (take (512 * count) bytes) count n
next_part bytes count n some more which =
    let left = drop (8192 * n) bytes in
    let long = length-drop (8192 * n) bytes in
    let room : ℕ = 512 * count - 8192 * n in
    sym (take_min 8192 left)
    ∙ ap (λ k. take k left) (ap (min 8192) long ∙ long_enough count n (length bytes) some more which)
    ∙ sym (take-take (512 * sectors_of count n) room left (omega (arith, more)))
    ∙ ap (take (512 * sectors_of count n)) (sym (drop-take (8192 * n) room bytes)
    ∙ ap (λ k. drop (8192 * n) (take k bytes)) (omega (arith, more)))

-- as many parts as there are
pub all_of : (count parts : ℕ) → parts ≡ div_ceil count 16 → AreAll parts count
all_of count parts is = let (above, below) = div_ceil_times count 16 (omega arith) in (omega (arith, is, above), omega (arith, is, below))

-- after all parts the rest is left
pub rest_left : (bytes : List ℕ) (count parts : ℕ) → AreAll parts count → (length bytes ≡ 512 * count) ⊎ (count ≡ 4096)
    → drop (8192 * parts) bytes ≡ drop (512 * count) bytes
rest_left bytes count parts (all, few) (inl same) =
    drop_all (8192 * parts) bytes (omega (arith, all, same)) ∙ sym (drop_all (512 * count) bytes (omega (arith, same)))
rest_left bytes count parts (all, few) (inr same) = ap (λ k. drop k bytes) (omega (arith, all, few, same))
