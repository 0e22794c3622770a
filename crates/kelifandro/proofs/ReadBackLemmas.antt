-- What was written is read back.
use Rattle.std.proofs.Common.{◌∙◌, ◌≡◌, ◌∷◌, ◌++◌, ◌+◌, ◌*◌, ◌-◌, ◌<◌, [], Bool, List, ap, arith, inl, inr, length, refl, subst, sym, true, ℕ, ℤ}
use Rattle.std.proofs.lemmas.Bool.{eq-eqb, false≢true, le-leb, lt-ltb}
use Rattle.std.proofs.lemmas.List.{ext_get_or}
use Rattle.std.specs.Prelude.{if◌then◌else◌, pos, slice_index_or}
use Rattle.mmc_bus.specs.declared.cause.Cause.{Cause}
use Rattle.mmc_bus.specs.declared.cause.Cause.TheVariants as cause
use Rattle.mmc_card.specs.Card.{Card}
use Rattle.mmc_card.specs.Made.{Made}
use Rattle.mmc_card.specs.Sectors.{AreRead, Change, IsIn, Sector, Sets, changed, part_number, pieces, touches, value_of}
use Rattle.mmc_card.specs.declared.exchange.Lines.{Lines}
use Rattle.mmc_card.specs.declared.part.Part.{Part}
use Rattle.mmc_block.specs.Alone.{IsServedAlone, idle}
use Rattle.mmc_block.specs.Machine.{Completes, Decides, IsAnswered as Means, IsMerged, Machine, Starts, Waiting}
use Rattle.mmc_block.specs.declared.completion.Answer.{Answer}
use Rattle.mmc_block.specs.declared.completion.Answer.TheVariants as Gave
use Rattle.mmc_queue.specs.declared.request.Request.{Request}
use Rattle.mmc_requests.specs.Changes.{written_at}
use Rattle.mmc_requests.specs.declared.kind.Kind.{Kind}
use Rattle.mmc_requests.specs.declared.kind.Kind.TheVariants as to
use Rattle.mmc_switch.specs.declared.info.Info.{Info}
use Rattle.kelifandro.specs.Answers.{cause_number}
use Rattle.kelifandro.specs.Calls.{is_attempted}
use Rattle.kelifandro.specs.History.{AreSteps, Call, HasServed, IsAnswered, IsStep, TellsAnswer, Told, joined, request_by}
use Rattle.kelifandro.specs.History.Call.{Closed, Opened, Served}
use Rattle.kelifandro.specs.ReadBack.{AreOpenings, ReadsBack, WrittenIsReadBack}
use Rattle.kelifandro.proofs.HistoryLemmas.{AreSectors, are_sectors, length-joined, pieces-joined, same_change}

-- Lists.

no_end : {A : Type 0} (xs : List A) (x : A) → xs ++ x ∷ [] ≡ [] → ⊥
no_end [] x is = absurd (cc)
no_end (y ∷ xs) x is = absurd (cc)

both_empty : {A : Type 0} (xs ys : List A) → xs ++ ys ≡ [] → (xs ≡ []) × (ys ≡ [])
both_empty [] ys is = (refl, is)
both_empty (x ∷ xs) ys is = absurd (cc)

one_alone : {A : Type 0} (before after : List A) (x : A) → before ≡ [] → after ≡ [] → before ++ x ∷ after ≡ x ∷ []
one_alone before after x first last = ap (λ xs. xs ++ x ∷ after) first ∙ ap (λ ys. x ∷ ys) last

heads : {A : Type 0} → List A → A → A
heads [] other = other
heads (x ∷ xs) other = x

rest : {A : Type 0} → List A → List A
rest [] = []
rest (x ∷ xs) = xs

one_end : {A : Type 0} (xs : List A) (x y : A) → xs ++ x ∷ [] ≡ y ∷ [] → (xs ≡ []) × (x ≡ y)
unfolding heads rest
one_end [] x y is = (refl, ap (λ l. heads l x) is)
one_end (z ∷ xs) x y is = absurd (no_end xs x (ap rest is))

first_of : {A : Type 0} (x y : A) (xs ys : List A) → x ∷ xs ≡ y ∷ ys → (x ≡ y) × (xs ≡ ys)
unfolding heads rest
first_of x y xs ys is = (ap (λ l. heads l x) is, ap rest is)

merged_none : (later : List Waiting) → IsMerged later [] [] → later ≡ []
merged_none [] merged = refl
merged_none (w ∷ later) (inl left) = absurd (cc)
merged_none (w ∷ later) (inr right) = absurd (cc)

-- A request that is served alone, after which nothing waits, was the only one.
record IsOnly (info : Info) (old : Machine) (request : Request) (answer : Answer) (new : Machine) : Type 0 where
  was : old ≡ idle old.sets old.next
  decided : Sets
  decides : Decides old.sets decided
  means : Means info request [] decided answer new.sets

module _ (info : Info) (old new : Machine) (request : Request) (answer : Answer) (alone : IsServedAlone info old request answer new)
    (rests : new ≡ idle new.sets new.next) where
  abbrev step : Completes info alone.turns.started (record { ticket = old.next; client = 0; answer = answer }) alone.turns.answers.completes.0
  step = alone.turns.answers.completes.1

  abbrev started : Machine
  started = alone.turns.started

  abbrev own : Waiting
  own = record { ticket = old.next; client = 0; request = request }

  in_end : alone.turns.answers.completes.0 ≡ idle new.sets new.next
  in_end = sym alone.turns.answers.completes.2 ∙ rests

  none_beside : (step.before ≡ []) × (step.after ≡ [])
  none_beside = both_empty step.before step.after (sym step.leaves ∙ ap (λ (m : Machine). m.in_service) in_end)

  none_waits : started.waits ≡ []
  none_waits = sym step.waits ∙ ap (λ (m : Machine). m.waits) in_end

  in_service : started.in_service ≡ step.w ∷ []
  in_service = step.served ∙ one_alone step.before step.after step.w none_beside.0 none_beside.1

  waits_were : alone.accepted.waits ≡ old.waits ++ own ∷ []
  waits_were = ap (λ (m : Machine). m.waits) alone.accepts.waits

  means_so : Means info step.w.request [] step.decided answer new.sets
  means_so =
      subst (λ (m : Machine). Means info step.w.request [] step.decided answer m.sets) (sym alone.turns.answers.completes.2)
      (subst (λ (xs : List Waiting). Means info step.w.request xs step.decided answer alone.turns.answers.completes.0.sets)
      (ap (λ xs. xs ++ step.after) none_beside.0 ∙ none_beside.1) step.answered)

  by_start : Starts alone.accepted started → IsOnly info old request answer new
  by_start starts =
      let group = first_of starts.oldest step.w starts.others [] (sym starts.group ∙ in_service) in
      let merged = subst (λ xs. IsMerged starts.later xs started.waits) group.1 starts.left in
      let later = merged_none starts.later (subst (λ xs. IsMerged starts.later [] xs) none_waits merged) in
      let one = one_end old.waits own starts.oldest (sym waits_were ∙ starts.first ∙ ap (λ xs. starts.oldest ∷ xs) later) in
      let served : old.in_service ≡ [] = sym (ap (λ (m : Machine). m.in_service) alone.accepts.waits) ∙ starts.idle in
      let same : started.sets ≡ old.sets = starts.sets ∙ ap (λ (m : Machine). m.sets) alone.accepts.waits in
      let asked : step.w.request ≡ request = sym (ap (λ (w : Waiting). w.request) (one.1 ∙ group.0)) in
      record {
        was = λ i. record { sets = old.sets; waits = one.0 i; in_service = served i; next = old.next };
        decided = step.decided;
        decides = subst (λ (s : Sets). Decides s step.decided) same step.decides;
        means = subst (λ (r : Request). Means info r [] step.decided answer new.sets) asked means_so;
      }

  only_one : IsOnly info old request answer new
  only_one =
      elim alone.turns.start as (λ w. IsOnly info old request answer new) [
        | inl starts ↦ by_start starts
        | inr stays ↦ absurd (no_end old.waits own
            (sym waits_were ∙ ap (λ (m : Machine). m.waits) (sym stays.0) ∙ none_waits))
      ]

-- What a request that was done means.

failed_not : (why : Cause) → pos 0 ≡ cause_number why → ⊥
failed_not cause.Answer is = absurd (cc)
failed_not cause.Data is = absurd (cc)
failed_not cause.Status is = absurd (cc)
failed_not cause.Busy is = absurd (cc)
failed_not cause.Recovery is = absurd (cc)

within_decided : (old decided : Sets) → Decides old decided → (p : Part) (s : ℕ) (v : Sector) → IsIn (decided p s) v → IsIn (old p s) v
within_decided old decided decides p s v is =
    elim (decides p s) as (λ w. IsIn (old p s) v) [
      | inl same ↦ subst (λ values. IsIn values v) same is
      | inr one ↦ subst (λ value. IsIn (old p s) value) (sym (of_one one.0 (subst (λ values. IsIn values v) one.2 is))) one.1
    ]
  where
    of_one : (value : Sector) → IsIn (value ∷ []) v → v ≡ value
    of_one value (inl is) = is
    of_one value (inr none) = elim none [ ]

-- what a read that is done left in memory its sectors may hold
reads_in : (info : Info) (old new : Machine) (part : Part) (start count : ℕ) (before after : List Sector) (number : ℤ) (answer : Answer)
    → number ≡ pos 0 → TellsAnswer number after answer → IsOnly info old (request_by to.Read part start count before) answer new
    → AreSectors after → (length after ≡ length before) × AreRead old.sets part start after
reads_in info old new part start count before after number Gave.Done zero tells only are = absurd (false≢true (sym only.means.0))
reads_in info old new part start count before after number (Gave.Data bytes) zero tells only are =
    let join = only.means.2 in
    let long : 512 * length after ≡ 512 * length before = sym (length-joined after are) ∙ ap length (sym tells.1) ∙ join.0 in
    let same : length after ≡ length before = omega (arith, long) in
    let read : AreRead only.decided part start after =
    subst (λ values. AreRead only.decided part start values) (pieces-joined after are)
    (subst (λ n. AreRead only.decided part start (pieces n (joined after))) (sym same)
    (subst (λ bs. AreRead only.decided part start (pieces (length before) bs)) tells.1 join.1)) in
    (same, λ i less. within_decided old.sets only.decided only.decides part (start + i) _ (read i less))
reads_in info old new part start count before after number (Gave.Failed why) zero tells only are =
    absurd (failed_not why (sym zero ∙ tells))

touched : (part : Part) (start i : ℕ) (values : List Sector) → i < length values
    → touches (written_at part start values) part (start + i) ≡ true
touched part start i values less =
    rw (eq-eqb (part_number part) (part_number part) refl)
    (rw (le-leb start (start + i) (omega arith)) (lt-ltb (start + i) (start + length values) (omega (arith, less))))

changed_at : (change : Change) (sets : Sets) (part : Part) (sector : ℕ) → touches change part sector ≡ true
    → changed change sets part sector ≡ value_of change sector ∷ []
changed_at change sets part sector is = ap (λ (b : Bool). if b then (value_of change sector ∷ []) else sets part sector) is

back : (start i : ℕ) → start + i - start ≡ i
back start i = omega arith

-- what a write that is done leaves in its sectors
wrote_in : (info : Info) (old new : Machine) (part : Part) (start count : ℕ) (before after : List Sector) (number : ℤ) (answer : Answer)
    → number ≡ pos 0 → TellsAnswer number after answer → IsOnly info old (request_by to.Write part start count before) answer new
    → AreSectors before → (i : ℕ) → i < length before → new.sets part (start + i) ≡ slice_index_or before i [] ∷ []
wrote_in info old new part start count before after number Gave.Done zero tells only are i less =
    only.means.1 part (start + i)
    ∙ ap (λ (change : Change). changed change only.decided part (start + i)) (same_change to.Write info part start count before are)
    ∙ changed_at (written_at part start before) only.decided part (start + i) (touched part start i before less)
    ∙ ap (λ n. slice_index_or before n [] ∷ []) (back start i)
wrote_in info old new part start count before after number (Gave.Data bytes) zero tells only are i less =
    absurd (false≢true only.means.0)
wrote_in info old new part start count before after number (Gave.Failed why) zero tells only are i less =
    absurd (failed_not why (sym zero ∙ tells))

-- Histories.

back_over : (limits : Lines) (made : Made) (start m : Machine) (between calls : List Call) → AreOpenings between
    → AreSteps limits made start (between ++ calls) m → AreSteps limits made start calls m
back_over limits made start m [] calls openings steps = steps
back_over limits made start m (Opened number ∷ between) calls openings steps =
    subst (λ n. AreSteps limits made start calls n) (sym steps.2)
    (back_over limits made start steps.0 between calls openings steps.1)
back_over limits made start m (Served told ∷ between) calls openings steps = absurd openings
back_over limits made start m (Closed ∷ between) calls openings steps =
    subst (λ n. AreSteps limits made start calls n) (sym steps.2)
    (back_over limits made start steps.0 between calls openings steps.1)

attempted : (limits : Lines) (made : Made) (old : Machine) (told : Told) (new : Machine) → told.number ≡ pos 0
    → IsStep limits made old (Served told) new → IsAnswered limits made old told new
attempted limits made old told new zero (inl unmade) =
    absurd (false≢true (sym unmade.number ∙ ap (λ (n : ℤ). is_attempted n) zero))
attempted limits made old told new zero (inr answered) = answered

same_kind : (info : Info) (old new : Machine) (kind wanted : Kind) (part : Part) (start count : ℕ) (before : List Sector) (answer : Answer)
    → kind ≡ wanted → IsOnly info old (request_by kind part start count before) answer new
    → IsOnly info old (request_by wanted part start count before) answer new
same_kind info old new kind wanted part start count before answer is only =
    subst (λ (k : Kind). IsOnly info old (request_by k part start count before) answer new) is only

is_one : (value other : Sector) → IsIn (value ∷ []) other → other ≡ value
is_one value other (inl is) = is
is_one value other (inr none) = elim none [ ]

pub read_back : (limits : Lines) (start now : Card) (wrote read : Told) (between earlier : List Call)
    → HasServed limits start now (Served read ∷ (between ++ Served wrote ∷ earlier)) → AreOpenings between → ReadsBack wrote read
    → read.after ≡ wrote.before
read_back limits start now wrote read between earlier h openings b =
    let middle = h.executed.0 in
    let answered = attempted limits start.made middle read h.machine b.read_done h.executed.2 in
    let only = only_one answered.info middle h.machine _ answered.answer answered.served h.answered in
    let gives =
    reads_in answered.info middle h.machine read.asked.part read.asked.start read.asked.count read.before read.after read.number
    answered.answer b.read_done answered.tells
    (same_kind answered.info middle h.machine read.asked.kind to.Read read.asked.part read.asked.start read.asked.count read.before
    answered.answer b.reads only) (are_sectors read.after b.whole_after) in
    let steps = back_over limits start.made _ middle between (Served wrote ∷ earlier) openings h.executed.1 in
    let done = attempted limits start.made steps.0 wrote middle b.write_done steps.2 in
    let alone = only_one done.info steps.0 middle _ done.answer done.served only.was in
    let left =
    wrote_in done.info steps.0 middle wrote.asked.part wrote.asked.start wrote.asked.count wrote.before wrote.after wrote.number
    done.answer b.write_done done.tells
    (same_kind done.info steps.0 middle wrote.asked.kind to.Write wrote.asked.part wrote.asked.start wrote.asked.count wrote.before
    done.answer b.writes alone) (are_sectors wrote.before b.whole_before) in
    let long : length read.after ≡ length wrote.before = gives.0 ∙ b.length in
    ext_get_or [] read.after wrote.before long
    (λ i less. is_one (slice_index_or wrote.before i []) (slice_index_or read.after i [])
    (subst (λ values. IsIn values (slice_index_or read.after i [])) (left i (omega (arith, less, long)))
    (subst (λ n. IsIn (middle.sets wrote.asked.part (n + i)) (slice_index_or read.after i [])) b.start
    (subst (λ (p : Part). IsIn (middle.sets p (read.asked.start + i)) (slice_index_or read.after i [])) b.part (gives.1 i less)))))

-- What is read back after a closing and an opening.
pub read_after : {limits : Lines} {start now : Card} {earlier after_write closed opened calls : List Call} (wrote read : Told) (number : ℤ)
    → WrittenIsReadBack → HasServed limits start now calls → after_write ≡ Served wrote ∷ earlier → closed ≡ Closed ∷ after_write
    → opened ≡ Opened number ∷ closed → calls ≡ Served read ∷ opened → ReadsBack wrote read → read.after ≡ wrote.before
read_after {limits} {start} {now} {earlier} {after_write} {closed} {opened} {calls} wrote read number law has writes closes opens reads =
    law limits start now wrote read (Opened number ∷ Closed ∷ []) earlier (subst (HasServed limits start now) (reads
    ∙ ap (λ calls. Served read ∷ calls) (opens ∙ ap (λ calls. Opened number ∷ calls) (closes ∙ ap (λ calls. Closed ∷ calls) writes))) has)
    tt
