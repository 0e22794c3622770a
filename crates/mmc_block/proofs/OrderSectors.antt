-- In order: how the values that a sector may hold came about.
use Rattle.std.proofs.Common.{◌+◌, ◌++◌, ◌<◌, ◌∙◌, ◌∷◌, ◌≡◌, ◌⊎◌, Bool, List, None, Option, Some, [], ap, arith, cond}
use Rattle.std.proofs.Common.{false, inl, inr, refl, subst, sym, true, ℕ}
use Rattle.std.specs.Prelude.{◌==◌, slice_index_or}
use Rattle.std.proofs.lemmas.Bool.{cases_eq, cases_lt, eq-eqb, ne_eqb}
use Rattle.mmc_card.specs.declared.part.Part.{Part}
use Rattle.mmc_card.specs.Sectors.{AreRead, IsDecided, IsIn, Sector, Sets, pieces, touches, value_of}
use Rattle.mmc_card.proofs.SectorLemmas.{in_cond}
use Rattle.mmc_block.specs.declared.completion.Answer.{Answer}
use Rattle.mmc_block.specs.declared.completion.Answer.TheVariants.{Data, Done, Failed}
use Rattle.mmc_block.specs.declared.completion.Completion.{Completion}
use Rattle.mmc_switch.specs.declared.info.Info.{Info}
use Rattle.mmc_block.specs.InOrder.{below, effect_at, in_turn, settled}
use Rattle.mmc_block.specs.Machine.{Completes, HasDecided, IsAmong, IsAnswered, Machine, Waiting}
use Rattle.mmc_block.specs.Changes.{change_of}
use Rattle.mmc_queue.specs.Requests.{Names, conflicts, count_of, is_read, part_of, start_of}
use Rattle.mmc_queue.proofs.ConflictLemmas.{conflict_at}
use Rattle.mmc_block.proofs.OrderBooks.{Books, Pends, completed_pended}
use Rattle.mmc_block.proofs.OrderLemmas.{among_last, below_idle, below_no, below_same, below_yes, effect_same}
use Rattle.mmc_block.proofs.OrderLemmas.{effect_touched, effect_unanswered, effect_untouched, length_pieces, one_ticket}
use Rattle.mmc_block.proofs.OrderLemmas.{read_untouched, touched_names, turn_append, turn_last, turn_same}

-- what the requests leave in a sector that held this
abbrev pub whole : Info → Part → ℕ → Sector → List Waiting → (ℕ → Option Answer) → (ℕ → Bool) → Sector
whole info part sector start ws answer is_new = in_turn (effect_at info part sector answer is_new) ws start

-- what those below a ticket leave in it
abbrev pub whole_below : Info → Part → ℕ → Sector → List Waiting → (ℕ → Option Answer) → (ℕ → Bool) → ℕ → Sector
whole_below info part sector start ws answer is_new n =
    in_turn (below n (effect_at info part sector answer is_new)) ws start

-- where a request names the sector, as its piece i, these bytes give it so
abbrev pub Reads : Info → Part → ℕ → Sector → List Waiting → (ℕ → Option Answer) → (ℕ → Bool) → Waiting → List ℕ
    → Type 0
Reads info part sector start ws answer is_new w bytes =
    (i : ℕ) → i < count_of w.request → part_of w.request ≡ part → start_of w.request + i ≡ sector
    → slice_index_or (pieces (count_of w.request) bytes) i []
    ≡ whole_below info part sector start ws answer is_new w.ticket

-- by these choices each answer with data gave the sector's ordered value
abbrev pub ReadsRight : Info → Part → ℕ → Sector → List Waiting → (ℕ → Option Answer) → (ℕ → Bool) → Type 0
ReadsRight info part sector start ws answer is_new =
    (w : Waiting) (bytes : List ℕ) → IsAmong ws w → answer w.ticket ≡ Some (Data bytes)
    → Reads info part sector start ws answer is_new w bytes

-- Some choices make each answer with data right; and for each value that the sector may hold some make the sector it,
-- too.
pub record Explained (info : Info) (part : Part) (sector : ℕ) (start : Sector) (ws : List Waiting)
    (answer : ℕ → Option Answer) (values : List Sector) : Type 0 where
  pub some : (is_new : ℕ → Bool) × ReadsRight info part sector start ws answer is_new
  pub each : (v : Sector) → IsIn values v → (is_new : ℕ → Bool) × ReadsRight info part sector start ws answer is_new
      × (whole info part sector start ws answer is_new ≡ v)

-- Fewer values.

pub fewer_explained : (info : Info) (part : Part) (sector : ℕ) (start : Sector) (ws : List Waiting)
    (answer : ℕ → Option Answer) (old new : List Sector)
    → ((v : Sector) → IsIn new v → IsIn old v) → Explained info part sector start ws answer old
    → Explained info part sector start ws answer new
fewer_explained info part sector start ws answer old new within e =
    record { some = e.some; each = λ v h. e.each v (within v h) }

-- Submit.

module _ (info : Info) (part : Part) (sector : ℕ) (start : Sector) (ws : List Waiting) (answer : ℕ → Option Answer)
    (w : Waiting) (no_answer : answer w.ticket ≡ None) where
  queued_whole : (is_new : ℕ → Bool) → whole info part sector start (ws ++ w ∷ []) answer is_new
      ≡ whole info part sector start ws answer is_new
  queued_whole is_new =
      turn_append (effect_at info part sector answer is_new) ws (w ∷ []) start
      ∙ effect_unanswered info part sector answer is_new w (whole info part sector start ws answer is_new) no_answer

  queued_below : (is_new : ℕ → Bool) (n : ℕ) → whole_below info part sector start (ws ++ w ∷ []) answer is_new n
      ≡ whole_below info part sector start ws answer is_new n
  queued_below is_new n =
      turn_append (below n (effect_at info part sector answer is_new)) ws (w ∷ []) start
      ∙ below_idle n (effect_at info part sector answer is_new) w
      (whole_below info part sector start ws answer is_new n)
      (effect_unanswered info part sector answer is_new w
      (whole_below info part sector start ws answer is_new n) no_answer)

  queued_reads : (is_new : ℕ → Bool) → ReadsRight info part sector start ws answer is_new
      → ReadsRight info part sector start (ws ++ w ∷ []) answer is_new
  queued_reads is_new right v bytes h a i l p q =
      elim (among_last ws w v h) [
        | inl k ↦ right v bytes k a i l p q ∙ sym (queued_below is_new v.ticket)
        | inr e ↦ (let none : answer v.ticket ≡ None = ap (λ (z : Waiting). answer z.ticket) e ∙ no_answer in
            absurd cc)
      ]

  pub queued_explained : (values : List Sector) → Explained info part sector start ws answer values
      → Explained info part sector start (ws ++ w ∷ []) answer values
  queued_explained values e = record {
    some = (e.some.0, queued_reads e.some.0 e.some.1);
    each = λ v h. (let q = e.each v h in (q.0, queued_reads q.0 q.1, queued_whole q.0 ∙ q.2));
  }

-- Complete.

no_or_yes : (b : Bool) → (b ≡ false) ⊎ (b ≡ true)
no_or_yes true = inr refl
no_or_yes false = inl refl

not_both : (b : Bool) → b ≡ true → b ≡ false → ⊥
not_both b p q = cc

-- the choices with another for one ticket
abbrev chosen : ℕ → Bool → (ℕ → Bool) → ℕ → Bool
chosen ticket is old t = cond (t == ticket) is (old t)

chosen_here : (ticket : ℕ) (is : Bool) (old : ℕ → Bool) → chosen ticket is old ticket ≡ is
chosen_here ticket is old = ap (λ b. cond b is (old ticket)) (eq-eqb ticket ticket refl)

chosen_other : (ticket : ℕ) (is : Bool) (old : ℕ → Bool) (t : ℕ) → (t ≡ ticket → ⊥) → chosen ticket is old t ≡ old t
chosen_other ticket is old t n = ap (λ b. cond b is (old t)) (ne_eqb t ticket n)

module _ (info : Info) (part : Part) (sector : ℕ) (start : Sector) (ws : List Waiting)
    (answer answer_now : ℕ → Option Answer)
    (m : Machine) (at : Waiting) (given : Answer) (books : Books ws answer m) (was : Pends m at)
    (now : answer_now at.ticket ≡ Some given) (others : (t : ℕ) → (t ≡ at.ticket → ⊥) → answer_now t ≡ answer t) where
  -- an earlier effect stays, where choices differ for this request at most
  other_effect : (old new : ℕ → Bool) → ((t : ℕ) → (t ≡ at.ticket → ⊥) → new t ≡ old t) → (x : Waiting)
      → (x.ticket ≡ at.ticket → ⊥) → (v : Sector)
      → effect_at info part sector answer_now new x v ≡ effect_at info part sector answer old x v
  other_effect old new differ x n v = effect_same info part sector answer answer_now new old x v (others x.ticket n)
      (differ x.ticket n)

  -- A later one that has its answer doesn't touch the sector, where this request conflicts with what does.
  later_untouched : Names at.request part sector → (x : Waiting) → IsAmong ws x → at.ticket < x.ticket
      → (answer x.ticket ≡ None) ⊎ (touches (change_of info x.request) part sector ≡ false)
  later_untouched names x h l =
      elim (books.passed at x was h l) [
        | inl none ↦ inl none
        | inr apart ↦ elim (no_or_yes (touches (change_of info x.request) part sector)) [
          | inl misses ↦ inr misses
          | inr hits ↦ (let k = touched_names info x.request part sector hits in
              absurd (not_both (conflicts at.request x.request)
              (conflict_at at.request x.request part sector names k.0 (inr k.1)) apart))
        ]
      ]

  later_idle : Names at.request part sector → (is_new : ℕ → Bool) (x : Waiting) → IsAmong ws x → at.ticket < x.ticket
      → (v : Sector)
      → effect_at info part sector answer is_new x v ≡ v
  later_idle names is_new x h l v =
      elim (later_untouched names x h l) [
        | inl none ↦ effect_unanswered info part sector answer is_new x v none
        | inr misses ↦ effect_untouched info part sector answer is_new x v misses
      ]

  is_it : (x : Waiting) → IsAmong ws x → x.ticket ≡ at.ticket → x ≡ at
  is_it x h e = one_ticket ws x at books.ascending h (books.known at was) e

  -- the same where it doesn't touch the sector
  untouched_effect : touches (change_of info at.request) part sector ≡ false → (old new : ℕ → Bool)
      → ((t : ℕ) → (t ≡ at.ticket → ⊥) → new t ≡ old t)
      → (x : Waiting) → IsAmong ws x → (v : Sector) → effect_at info part sector answer_now new x v
      ≡ effect_at info part sector answer old x v
  untouched_effect misses old new differ x h v =
      elim (cases_eq x.ticket at.ticket) [
        | inr n ↦ other_effect old new differ x n v
        | inl e ↦ (let t : touches (change_of info x.request) part sector ≡ false =
            ap (λ (z : Waiting). touches (change_of info z.request) part sector) (is_it x h e) ∙ misses in
            effect_untouched info part sector answer_now new x v t
            ∙ sym (effect_untouched info part sector answer old x v t))
      ]

  untouched_whole : touches (change_of info at.request) part sector ≡ false → (old new : ℕ → Bool)
      → ((t : ℕ) → (t ≡ at.ticket → ⊥) → new t ≡ old t)
      → whole info part sector start ws answer_now new ≡ whole info part sector start ws answer old
  untouched_whole misses old new differ =
      turn_same (effect_at info part sector answer_now new) (effect_at info part sector answer old) ws
      (untouched_effect misses old new differ) start

  -- where it touches the sector it comes last
  touched_whole : touches (change_of info at.request) part sector ≡ true → (old new : ℕ → Bool)
      → ((t : ℕ) → (t ≡ at.ticket → ⊥) → new t ≡ old t)
      → whole info part sector start ws answer_now new
      ≡ settled (Some given) (new at.ticket) (value_of (change_of info at.request) sector)
      (whole info part sector start ws answer old)
  touched_whole hits old new differ =
      let names = (touched_names info at.request part sector hits).0 in
      turn_last (effect_at info part sector answer old)
      (effect_at info part sector answer_now new) at ws books.ascending (books.known at was)
      (λ x h l v. other_effect old new differ x (λ e. omega (arith, e, l)) v)
      (λ x h l v. elim (cases_eq x.ticket at.ticket) [
        | inl e ↦ effect_unanswered info part sector answer old x v (ap answer e ∙ books.no_answer at was)
        | inr n ↦ later_idle names old x h (omega (arith, n, l)) v
      ])
      (λ x h l v. other_effect old new differ x (λ e. omega (arith, e, l)) v ∙ later_idle names old x h l v)
      start
      ∙ effect_touched info part sector answer_now new at given (whole info part sector start ws answer old) hits now

  -- what an earlier answer with data was given stays right
  other_below : (old new : ℕ → Bool) → ((t : ℕ) → (t ≡ at.ticket → ⊥) → new t ≡ old t) → (w : Waiting) (a : Answer)
      → IsAmong ws w → answer w.ticket ≡ Some a
      → Names w.request part sector → whole_below info part sector start ws answer_now new w.ticket
      ≡ whole_below info part sector start ws answer old w.ticket
  other_below old new differ w a k settled_so names =
      turn_same (below w.ticket (effect_at info part sector answer_now new))
      (below w.ticket (effect_at info part sector answer old)) ws (λ x h v.
      elim (cases_eq x.ticket at.ticket) [
        | inr n ↦ below_same w.ticket (effect_at info part sector answer_now new)
            (effect_at info part sector answer old) x v (other_effect old new differ x n v)
        | inl e ↦ elim (cases_lt x.ticket w.ticket) [
          | inr l ↦ below_no w.ticket (effect_at info part sector answer_now new) x v l
              ∙ sym (below_no w.ticket (effect_at info part sector answer old) x v l)
          | inl l ↦ below_same w.ticket (effect_at info part sector answer_now new)
              (effect_at info part sector answer old) x v
              (untouched_effect (elim (books.passed at w was k (omega (arith, e, l))) [
                | inl none ↦ absurd cc
                | inr apart ↦ elim (no_or_yes (touches (change_of info at.request) part sector)) [
                  | inl misses ↦ misses
                  | inr hits ↦ (let q = touched_names info at.request part sector hits in
                      absurd (not_both (conflicts at.request w.request)
                      (conflict_at at.request w.request part sector q.0 names (inl q.1)) apart))
                ]
              ]) old new differ x h v)
        ]
      ]) start

  -- choices make each answer right, if they did before and make this one right
  now_right : (old new : ℕ → Bool) → ((t : ℕ) → (t ≡ at.ticket → ⊥) → new t ≡ old t)
      → ReadsRight info part sector start ws answer old
      → ((bytes : List ℕ) → given ≡ Data bytes → Reads info part sector start ws answer_now new at bytes)
      → ReadsRight info part sector start ws answer_now new
  now_right old new differ right this w bytes h a i l p q =
      elim (cases_eq w.ticket at.ticket) [
        | inl e ↦ (let same = is_it w h e in
            let gave : Some given ≡ Some (Data bytes) = sym now ∙ ap answer_now (sym e) ∙ a in
            subst (λ (z : Waiting). Reads info part sector start ws answer_now new z bytes) (sym same)
            (this bytes cc) i l p q)
        | inr n ↦ (let before : answer w.ticket ≡ Some (Data bytes) = sym (others w.ticket n) ∙ a in
            right w bytes h before i l p q
            ∙ sym (other_below old new differ w (Data bytes) h before
            (record { part_is = p; from = omega (arith, q); to = omega (arith, q, l) })))
      ]

some_value : (values : List Sector) → ((v : Sector) × IsIn values v) ⊎ (values ≡ [])
some_value [] = inr refl
some_value (x ∷ xs) = inl (x, inl refl)

set_values : (b : Bool) (x : Sector) (xs : List Sector) (v : Sector) → b ≡ true → IsIn (cond b (x ∷ []) xs) v → x ≡ v
set_values true x xs v t (inl e) = sym e
set_values true x xs v t (inr n) = absurd n
set_values false x xs v t h = absurd cc

kept_values : (b : Bool) (ys xs : List Sector) → b ≡ false → cond b ys xs ≡ xs
kept_values true ys xs f = absurd cc
kept_values false ys xs f = refl

if_new : (b : Bool) (cause : _) (x y : Sector) → b ≡ true → settled (Some (Failed cause)) b x y ≡ x
if_new true cause x y t = refl
if_new false cause x y t = absurd cc

if_old : (b : Bool) (cause : _) (x y : Sector) → b ≡ false → settled (Some (Failed cause)) b x y ≡ y
if_old true cause x y t = absurd cc
if_old false cause x y t = refl

module _ (info : Info) (part : Part) (sector : ℕ) (start : Sector) (ws : List Waiting)
    (answer answer_now : ℕ → Option Answer)
    (m : Machine) (at : Waiting) (books : Books ws answer m) (was : Pends m at)
    (others : (t : ℕ) → (t ≡ at.ticket → ⊥) → answer_now t ≡ answer t) where
  -- the request doesn't touch the sector, and no data was read
  missed_explained : (given : Answer) → answer_now at.ticket ≡ Some given → ((bytes : List ℕ) → given ≡ Data bytes → ⊥)
      → (values : List Sector)
      → touches (change_of info at.request) part sector ≡ false
      → Explained info part sector start ws answer values → Explained info part sector start ws answer_now values
  missed_explained given now none values misses e =
      let right = now_right info part sector start ws answer answer_now m at given books was now others in
      record {
        some = (e.some.0, right e.some.0 e.some.0 (λ t n. refl) e.some.1 (λ bytes d. absurd (none bytes d)));
        each = λ v h. (let q = e.each v h in (
          q.0,
          right q.0 q.0 (λ t n. refl) q.1 (λ bytes d. absurd (none bytes d)),
          untouched_whole info part sector start ws answer answer_now m at given books was now others misses q.0 q.0
              (λ t n. refl) ∙ q.2,
        ));
      }

  done_explained : answer_now at.ticket ≡ Some Done → (values values_now : List Sector)
      → values_now ≡ cond (touches (change_of info at.request) part sector)
      (value_of (change_of info at.request) sector ∷ []) values
      → Explained info part sector start ws answer values → Explained info part sector start ws answer_now values_now
  done_explained now values values_now sets e =
      let right = now_right info part sector start ws answer answer_now m at Done books was now others in
      let none : (bytes : List ℕ) → Done ≡ Data bytes → ⊥ = λ bytes d. cc in
      elim (no_or_yes (touches (change_of info at.request) part sector)) [
        | inl misses ↦ subst (Explained info part sector start ws answer_now)
            (sym (sets ∙ kept_values _ _ values misses))
            (missed_explained Done now none values misses e)
        | inr hits ↦ record {
          some = (e.some.0, right e.some.0 e.some.0 (λ t n. refl) e.some.1 (λ bytes d. absurd (none bytes d)));
          each = λ v h. (
            e.some.0,
            right e.some.0 e.some.0 (λ t n. refl) e.some.1 (λ bytes d. absurd (none bytes d)),
            touched_whole info part sector start ws answer answer_now m at Done books was now others hits e.some.0
                e.some.0 (λ t n. refl)
                ∙ set_values (touches (change_of info at.request) part sector)
                (value_of (change_of info at.request) sector) values v hits
                (subst (λ xs. IsIn xs v) sets h),
          );
        }
      ]

  failed_explained : (cause : _) → answer_now at.ticket ≡ Some (Failed cause) → (values values_now : List Sector)
      → values_now ≡ cond (touches (change_of info at.request) part sector)
      (value_of (change_of info at.request) sector ∷ values) values
      → Explained info part sector start ws answer values → Explained info part sector start ws answer_now values_now
  failed_explained cause now values values_now sets e =
      let right = now_right info part sector start ws answer answer_now m at (Failed cause) books was now others in
      let last = touched_whole info part sector start ws answer answer_now m at (Failed cause) books was now others in
      let none : (bytes : List ℕ) → Failed cause ≡ Data bytes → ⊥ = λ bytes d. cc in
      let t = at.ticket in
      elim (no_or_yes (touches (change_of info at.request) part sector)) [
        | inl misses ↦ subst (Explained info part sector start ws answer_now)
            (sym (sets ∙ kept_values _ _ values misses))
            (missed_explained (Failed cause) now none values misses e)
        | inr hits ↦ record {
          some = (e.some.0, right e.some.0 e.some.0 (λ t n. refl) e.some.1 (λ bytes d. absurd (none bytes d)));
          each = λ v h. elim (in_cond (touches (change_of info at.request) part sector)
              (value_of (change_of info at.request) sector) values v (subst (λ xs. IsIn xs v) sets h)) [
                | inl new ↦ (
                  chosen t true e.some.0,
                  right e.some.0 (chosen t true e.some.0) (chosen_other t true e.some.0) e.some.1
                      (λ bytes d. absurd (none bytes d)),
                  last hits e.some.0 (chosen t true e.some.0) (chosen_other t true e.some.0)
                      ∙ if_new (chosen t true e.some.0 t) cause _ _ (chosen_here t true e.some.0) ∙ sym new.1,
                )
                | inr old ↦ (let q = e.each v old in (
                  chosen t false q.0,
                  right q.0 (chosen t false q.0) (chosen_other t false q.0) q.1 (λ bytes d. absurd (none bytes d)),
                  last hits q.0 (chosen t false q.0) (chosen_other t false q.0)
                      ∙ if_old (chosen t false q.0 t) cause _ _ (chosen_here t false q.0) ∙ q.2,
                ))
              ];
        }
      ]

  -- a read takes the sector as it is
  read_whole : (given : Answer) → answer_now at.ticket ≡ Some given → is_read at.request ≡ true
      → Names at.request part sector → (is_new : ℕ → Bool)
      → whole_below info part sector start ws answer_now is_new at.ticket
      ≡ whole info part sector start ws answer is_new
  read_whole given now reads names is_new =
      let misses = read_untouched info at.request part sector reads in
      let same = untouched_effect info part sector start ws answer answer_now m at given books was now others misses
      is_new is_new (λ t n. refl) in
      let now_effect = effect_at info part sector answer_now is_new in
      turn_same (below at.ticket now_effect) (effect_at info part sector answer is_new) ws (λ x h v.
      elim (cases_lt x.ticket at.ticket) [
        | inl l ↦ below_yes at.ticket now_effect x v l ∙ same x h v
        | inr l ↦ below_no at.ticket now_effect x v l ∙ sym (elim (cases_eq x.ticket at.ticket) [
          | inl e ↦ effect_unanswered info part sector answer is_new x v (ap answer e ∙ books.no_answer at was)
          | inr n ↦ later_idle info part sector start ws answer answer_now m at given books was now others names is_new
              x h (omega (arith, n, l)) v
        ])
      ]) start

  data_explained : (bytes : List ℕ) → answer_now at.ticket ≡ Some (Data bytes) → is_read at.request ≡ true
      → (sets : Sets)
      → AreRead sets (part_of at.request) (start_of at.request) (pieces (count_of at.request) bytes)
      → HasDecided at.request sets → (values_now : List Sector)
      → values_now ≡ sets part sector
      → Explained info part sector start ws answer (sets part sector)
      → Explained info part sector start ws answer_now values_now
  data_explained bytes now reads sets read decided values_now same e =
      let right = now_right info part sector start ws answer answer_now m at (Data bytes) books was now others in
      let misses = read_untouched info at.request part sector reads in
      -- what is read is one of the sector's values
      let is_value : (got : List ℕ) (i : ℕ) → Data bytes ≡ Data got → i < count_of at.request → part_of at.request
      ≡ part → start_of at.request + i ≡ sector
      → IsIn (sets part sector) (slice_index_or (pieces (count_of at.request) got) i []) = λ got i d l p q.
      subst (λ b. IsIn (sets part sector) (slice_index_or (pieces (count_of at.request) b) i []))
      (let k : bytes ≡ got = cc in k)
      (subst (λ s. IsIn (sets part s) (slice_index_or (pieces (count_of at.request) bytes) i [])) q
      (subst (λ r. IsIn (sets r (start_of at.request + i)) (slice_index_or (pieces (count_of at.request) bytes) i [])) p
      (read i (let n = length_pieces (count_of at.request) bytes in omega (arith, n, l))))) in
      let this : (v : Sector) → IsIn (sets part sector) v → (is_new : ℕ → Bool)
      → whole info part sector start ws answer is_new ≡ v
      → (got : List ℕ) → Data bytes ≡ Data got → Reads info part sector start ws answer_now is_new at got =
      λ v h is_new e got d i l p q.
      let names : Names at.request part sector =
      record { part_is = p; from = omega (arith, q); to = omega (arith, q, l) } in
      decided part sector names _ v (is_value got i d l p q) h ∙ sym e
      ∙ sym (read_whole (Data bytes) now reads names is_new) in
      record {
        some = elim (some_value (sets part sector)) [
          | inl one ↦ (let q = e.each one.0 one.1 in (q.0, right q.0 q.0 (λ t n. refl) q.1 (this one.0 one.1 q.0 q.2)))
          | inr none ↦ (
            e.some.0,
            right e.some.0 e.some.0 (λ t n. refl) e.some.1
                (λ got d i l p q. absurd (subst (λ xs. IsIn xs (slice_index_or (pieces (count_of at.request) got) i []))
                none (is_value got i d l p q))),
          )
        ];
        each = λ v h. (let k = subst (λ xs. IsIn xs v) same h in let q = e.each v k in (
          q.0,
          right q.0 q.0 (λ t n. refl) q.1 (this v k q.0 q.2),
          untouched_whole info part sector start ws answer answer_now m at (Data bytes) books was now others misses q.0
              q.0 (λ t n. refl) ∙ q.2,
        ));
      }

answered_explained : (info : Info) (part : Part) (sector : ℕ) (start : Sector) (ws : List Waiting)
    (answer answer_now : ℕ → Option Answer)
    (m : Machine) (at : Waiting) (rest : List Waiting) (sets new : Sets) (given : Answer) → Books ws answer m
    → Pends m at
    → ((t : ℕ) → (t ≡ at.ticket → ⊥) → answer_now t ≡ answer t) → answer_now at.ticket ≡ Some given
    → IsAnswered info at.request rest sets given new
    → Explained info part sector start ws answer (sets part sector) → Explained info part sector start ws answer_now
    (new part sector)
answered_explained info part sector start ws answer answer_now m at rest sets new Done books was others now a e =
    done_explained info part sector start ws answer answer_now m at books was others now (sets part sector)
    (new part sector) (a.1 part sector) e
answered_explained info part sector start ws answer answer_now m at rest sets new
    (Data bytes) books was others now a e =
    data_explained info part sector start ws answer answer_now m at books was others bytes now a.0 sets a.2.1
    (λ p s names. subst IsDecided (a.1 p s) (a.3 p s names)) (new part sector) (a.1 part sector) e
answered_explained info part sector start ws answer answer_now m at rest sets new
    (Failed cause) books was others now a e =
    failed_explained info part sector start ws answer answer_now m at books was others cause now (sets part sector)
    (new part sector) (a part sector) e

decided_within : (values values_now : List Sector) → (values_now ≡ values)
    ⊎ ((value : Sector) × IsIn values value × (values_now ≡ value ∷ []))
    → (v : Sector) → IsIn values_now v → IsIn values v
decided_within values values_now (inl same) v h = subst (λ xs. IsIn xs v) same h
decided_within values values_now (inr (value, is, one)) v h =
    elim (subst (λ xs. IsIn xs v) one h) [ inl e ↦ subst (IsIn values) (sym e) is | inr n ↦ absurd n ]

pub completed_explained : (info : Info) (part : Part) (sector : ℕ) (start : Sector) (ws : List Waiting)
    (answer answer_now : ℕ → Option Answer)
    (old : Machine) (completion : Completion) (new : Machine) (c : Completes info old completion new)
    → Books ws answer old
    → ((t : ℕ) → (t ≡ c.w.ticket → ⊥) → answer_now t ≡ answer t) → answer_now c.w.ticket ≡ Some completion.answer
    → Explained info part sector start ws answer (old.sets part sector) → Explained info part sector start ws answer_now
    (new.sets part sector)
completed_explained info part sector start ws answer answer_now old completion new c books others now e =
    let was = completed_pended info old completion new c in
    answered_explained info part sector start ws answer answer_now old c.w
    (c.before ++ c.after) c.decided new.sets completion.answer books (inr was) others now
    c.answered
    (fewer_explained info part sector start ws answer (old.sets part sector) (c.decided part sector)
    (decided_within (old.sets part sector) (c.decided part sector) (c.decides part sector)) e)
