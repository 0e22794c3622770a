-- Blocks that the controller reads by itself.
use Rattle.std.proofs.Common.{[], ◌+◌, ◌++◌, ◌<◌, ◌∙◌, ◌≡◌, ◌≤◌, ◌∷◌, Bool, List, Some, add-one, ap, arith, false, length, refl, subst, suc, sym, true, ℕ}
use Rattle.std.proofs.Math.ListN.{get_or-append}
use Rattle.std.proofs.Math.Seq.{get_or-append_seam}
use Rattle.std.specs.Prelude.{if◌then◌else◌, slice_index_or}
use Rattle.std.proofs.lemmas.Bool.{false≢true}
use Rattle.arrayvec.specs.ArrayVec.{ArrayVec}
use Rattle.mmc_frame.specs.Field.{field}
use Rattle.mmc_bus.specs.Exchanges.{Kept}
use Rattle.mmc_card.specs.BusView.{BusView}
use Rattle.mmc_card.specs.Faults.{ReadStep}
use Rattle.mmc_card.specs.Faults.ReadStep.{brownout, faithful, spoil}
use Rattle.mmc_card.specs.declared.exchange.DataIn.{DataIn}
use Rattle.mmc_card.specs.declared.exchange.DataIn.TheVariants as Came
use Rattle.mmc_host.specs.HostStates.{is_good}
use Rattle.mmc_host.specs.declared.data.Data.{Data}
use Rattle.mmc_sdhci.specs.Controller.{Settled, seen}
use Rattle.mmc_sdhci.specs.DataLooks.{came}
use Rattle.mmc_sdhci.specs.DmaLooks.{AllMoved, BlockComes, HaveCome, MovingLook, MovingLooked, SomeMoved, none_came, one_came}
use Rattle.mmc_sdhci.specs.DmaLooks.MovingLook.{ends, fails, waits}
use Rattle.mmc_sdhci.specs.Lent.{Come}
use Rattle.mmc_story.specs.Entry.{Entry}
use Rattle.mmc_story.specs.Entry.Event.{Read}
use Rattle.mmc_story.specs.Story.{Story}
use Rattle.sdhci_model.specs.Moves.{Breaks, HaveRead, OneHasFailed}
use Rattle.sdhci_model.specs.Shown.{controller, entry_for}
use Rattle.sdhci_model.specs.declared.lent.Loan.{Loan}
use Rattle.sdhci_model.specs.declared.state.State.{State}
use Rattle.sdhci_model.proofs.Moving.{broken_state, kept_any}
use Rattle.sdhci_model.proofs.Telling.{alone, same_kept}

-- Those that have come are the first ones of more.
more_come : (xs ys : List (List ℕ)) (old new : BusView) (k : ℕ) → k ≤ length xs → HaveCome xs old k new → HaveCome (xs ++ ys) old k new
more_come xs ys old new k few none_came = none_came
more_come xs ys old new k few (one_came done before next have long step) =
    let same : slice_index_or (xs ++ ys) done [] ≡ slice_index_or xs done [] = get_or-append xs ys [] done (omega (arith, few)) in
    one_came done before next (more_come xs ys old before done (omega (arith, few)) have)
    (subst (λ (l : List ℕ). length l ≡ 512) (sym same) long)
    (subst (λ (l : List ℕ). BlockComes before Came.Good l next) (sym same) step)

one_more : (xs : List (List ℕ)) (block : List ℕ) (old before new : BusView) → HaveCome xs old (length xs) before → length block ≡ 512
    → BlockComes before Came.Good block new → HaveCome (xs ++ block ∷ []) old (suc (length xs)) new
one_more xs block old before new have long step =
    let same : slice_index_or (xs ++ block ∷ []) (length xs) [] ≡ block = get_or-append_seam xs block [] [] in
    one_came (length xs) before new (more_come xs (block ∷ []) old before (length xs) (omega arith) have)
    (subst (λ (l : List ℕ). length l ≡ 512) (sym same) long)
    (subst (λ (l : List ℕ). BlockComes before Came.Good l new) (sym same) step)

pub none_read : (story : Story) (past : List Entry) (s : State) → HaveRead story past s [] 0 past
none_read story past s kept = (kept, none_came)

one_read_by : (story : Story) (past before : List Entry) (s : State) (xs : List (List ℕ)) (block : List ℕ) → length block ≡ 512
    → HaveRead story past s xs (length xs) before
    → HaveRead story past s (xs ++ block ∷ []) (suc (length xs)) (entry_for s (Read 512 Came.Good block) ∷ before)
one_read_by story past before s xs block long have kept =
    let step = alone story before s (Read 512 Came.Good block) kept in
    let so_far = have step.kept.was_kept in (
      so_far.0,
      one_more xs block (seen (controller story past s)) (seen (controller story before s))
          (seen (controller story (entry_for s (Read 512 Came.Good block) ∷ before) s)) so_far.1 long step,
    )

pub one_read : (story : Story) (past before after : List Entry) (s : State) (xs ys : List (List ℕ)) (block : List ℕ) (k : ℕ)
    → k ≡ length xs → ys ≡ xs ++ block ∷ [] → length block ≡ 512 → HaveRead story past s xs k before
    → after ≡ entry_for s (Read 512 Came.Good block) ∷ before → HaveRead story past s ys (k + 1) after
one_read story past before after s xs ys block k count is long have noted =
    subst (λ (es : List Entry). HaveRead story past s ys (k + 1) es) (sym noted)
    (subst (λ (l : List (List ℕ)). HaveRead story past s l (k + 1) (entry_for s (Read 512 Came.Good block) ∷ before)) (sym is)
    (subst (λ (n : ℕ). HaveRead story past s (xs ++ block ∷ []) n (entry_for s (Read 512 Came.Good block) ∷ before))
    (sym (add-one k ∙ ap (λ (n : ℕ). suc n) count))
    (one_read_by story past before s xs block long
    (subst (λ (n : ℕ). HaveRead story past s xs n before) count have))))

one_failed_by : (story : Story) (past before : List Entry) (s : State) (xs : List (List ℕ)) (got : DataIn) (k count : ℕ) → k < count
    → is_good got ≡ false → HaveRead story past s xs k before
    → OneHasFailed story past s count got (entry_for s (Read 512 got []) ∷ before)
one_failed_by story past before s xs got k count few bad have kept =
    let old = controller story before s in
    let new = controller story (entry_for s (Read 512 got []) ∷ before) s in
    let step = alone story before s (Read 512 got []) kept in
    let so_far = have step.kept.was_kept in (
      so_far.0,
      record {
        blocks = xs;
        some = k;
        fewer = few;
        before = seen old;
        come = so_far.1;
        fails = λ other. record { same = refl; kept = kept_any (seen old) (seen new) 512 got [] other bad step.kept };
      },
    )

pub one_failed : (story : Story) (past before after : List Entry) (s : State) (xs : List (List ℕ)) (got : DataIn) (k count : ℕ)
    → k < count → is_good got ≡ false → HaveRead story past s xs k before → after ≡ entry_for s (Read 512 got []) ∷ before
    → OneHasFailed story past s count got after
one_failed story past before after s xs got k count few bad have noted =
    subst (λ (es : List Entry). OneHasFailed story past s count got es) (sym noted)
    (one_failed_by story past before s xs got k count few bad have)

-- A bad block of which nobody is told is one that didn't come.
not_bad : (sends : Bool) (got : DataIn) → got ≡ Came.Bad → got ≡ (if sends then Came.Good else Came.Nothing) → ⊥
not_bad true got is said = cc
not_bad false got is said = cc

bad_by : (old new : BusView) (size : ℕ) (got : DataIn) (block : List ℕ) → got ≡ Came.Bad → ReadStep old size got block new
    → ReadStep old size Came.Nothing block new
bad_by old new size got block is (faithful choice unharmed card said fits) = absurd (not_bad _ got is said)
bad_by old new size got block is (spoil choice bits goes_on comes among can one card said) =
    spoil choice bits goes_on false among can one card refl
bad_by old new size got block is (brownout choice lands keeps late one card said) =
    brownout choice lands keeps late one card refl

none_for : (old new : BusView) (size : ℕ) (got : DataIn) (block : List ℕ) → is_good got ≡ false → ReadStep old size got block new
    → ReadStep old size Came.Nothing block new
none_for old new size Came.Nothing block bad step = step
none_for old new size Came.Bad block bad step = bad_by old new size Came.Bad block refl step
none_for old new size Came.Good block bad step = absurd (false≢true (sym bad))

kept_none : (old new : BusView) (size : ℕ) (got : DataIn) (block : List ℕ) → is_good got ≡ false
    → Kept old (ReadStep old size got block new) new → Kept old (ReadStep old size Came.Nothing block new) new
kept_none old new size got block bad step =
    record {
      was_kept = step.was_kept;
      was_card = step.was_card;
      step = none_for old new size got block bad step.step;
      is_card = step.is_card;
      bounded = step.bounded;
    }

pub failed_untold : (story : Story) (past after : List Entry) (s : State) (some count : ℕ) (got : DataIn) → some ≤ count
    → is_good got ≡ false → OneHasFailed story past s some got after → OneHasFailed story past s count Came.Nothing after
failed_untold story past after s some count got few bad failed kept =
    let h = failed kept in
    let f = h.1 in
    let fewer : f.some < some = f.fewer in (
      h.0,
      record {
        blocks = f.blocks;
        some = f.some;
        fewer = omega (arith, few, fewer);
        before = f.before;
        come = f.come;
        fails = λ block.
            let step = f.fails block in
            record { same = step.same; kept = kept_none f.before (seen (controller story after s)) 512 got block bad step.kept };
      },
    )

-- The looks.
abbrev pub LooksMoving : Story → List Entry → State → ℕ → List Entry → State → Type 0
LooksMoving story past s bits after s' =
    Settled (controller story past s) (MovingLook (controller story past s) bits (controller story after s')) (controller story after s')

pub moving_waits : (story : Story) (past : List Entry) (s s' : State) → s' ≡ record s { status = 0 } → LooksMoving story past s 0 past s'
moving_waits story past s s' is kept = (
  sym (ap (λ (x : State). (controller story past x).is_kept) is) ∙ kept,
  waits refl refl (ap (λ (x : State). controller story past x) is),
)

abbrev read_state : State → ArrayVec (List ℕ) → State
read_state s blocks = record s { status = 2; transfer = Data.Nothing; loan = Loan.Come blocks; is_moving = false }

reads_end_by : (story : Story) (past after : List Entry) (s : State) (size count : ℕ) (blocks : ArrayVec (List ℕ))
    → s.transfer ≡ Data.Read size count → length blocks.items ≡ count → HaveRead story past s blocks.items count after
    → LooksMoving story past s 2 after (read_state s blocks)
reads_end_by story past after s size count blocks is full have kept =
    let old = controller story past s in
    let new = controller story after (read_state s blocks) in
    let h = have kept in (
      h.0,
      ends (Some (Come blocks.items)) refl refl
          (subst (λ (t : Data). AllMoved t old.dma.lent (seen old) (Some (Come blocks.items)) (seen new)) (sym is)
          (blocks.items, (refl, (full, h.1))))
          (same_kept new old.is_kept (kept ∙ sym h.0)),
    )

pub reads_end : (story : Story) (past after : List Entry) (s s1 s2 : State) (size count : ℕ) (blocks : ArrayVec (List ℕ))
    → s.transfer ≡ Data.Read size count → length blocks.items ≡ count → HaveRead story past s blocks.items count after → s1 ≡ s
    → s2 ≡ read_state s1 blocks → LooksMoving story past s 2 after s2
reads_end story past after s s1 s2 size count blocks is full have same changed =
    subst (λ (x : State). LooksMoving story past s 2 after x) (sym (changed ∙ ap (λ (x : State). read_state x blocks) same))
    (reads_end_by story past after s size count blocks is full have)

reads_fail_by : (story : Story) (past after : List Entry) (s s' : State) (size count bits : ℕ) (got : DataIn)
    → s.transfer ≡ Data.Read size count → field 15 15 bits ≡ 1 → came bits ≡ got → OneHasFailed story past s count got after
    → Breaks s bits s' → LooksMoving story past s bits after s'
reads_fail_by story past after s s' size count bits got is error said failed breaks kept =
    let old = controller story past s in
    let new = controller story after s' in
    let same_bus : seen new ≡ seen (controller story after s) = ap (λ (x : State). seen (controller story after x)) breaks.same in
    let h = failed (sym (ap (λ (b : BusView). b.is_kept) same_bus) ∙ kept) in (
      h.0,
      fails error
          (subst (λ (t : Data). SomeMoved t old.dma.lent (came bits) (seen old) (seen new)) (sym is)
          (subst (λ (b : BusView). SomeMoved (Data.Read size count) old.dma.lent (came bits) (seen old) b) (sym same_bus)
          (subst (λ (d : DataIn). SomeMoved (Data.Read size count) old.dma.lent d (seen old) (seen (controller story after s))) (sym said)
          h.1)))
          (same_kept new old.is_kept (kept ∙ sym h.0)
          ∙ (ap (λ (x : State). record (controller story after x) { is_kept = old.is_kept }) breaks.same
          ∙ ap (λ (l : List ℕ). record (controller story after (broken_state s bits s')) { is_kept = old.is_kept; outgoing = l }) breaks.items)),
    )

pub reads_fail : (story : Story) (past after : List Entry) (s s1 s2 : State) (size count bits : ℕ) (got : DataIn)
    → s.transfer ≡ Data.Read size count → field 15 15 bits ≡ 1 → came bits ≡ got → OneHasFailed story past s count got after
    → s1 ≡ s → Breaks s1 bits s2 → LooksMoving story past s bits after s2
reads_fail story past after s s1 s2 size count bits got is error said failed same breaks =
    reads_fail_by story past after s s2 size count bits got is error said failed
    (subst (λ (x : State). Breaks x bits s2) same breaks)

-- With the data that is moved.
abbrev pub LooksMovingAll : Story → List Entry → State → ℕ → List Entry → State → Type 0
LooksMovingAll story past s bits after s' =
    Settled (controller story past s) (MovingLooked (controller story past s) s.transfer bits (controller story after s'))
    (controller story after s')

pub nothing_moved : (story : Story) (past : List Entry) (s : State) → s.transfer ≡ Data.Nothing → LooksMovingAll story past s s.status past s
nothing_moved story past s is kept =
    (kept, subst (λ (t : Data). MovingLooked (controller story past s) t s.status (controller story past s)) (sym is) refl)

pub reads_moved : (story : Story) (past after : List Entry) (s s' : State) (bits size count : ℕ) → s.transfer ≡ Data.Read size count
    → LooksMoving story past s bits after s' → LooksMovingAll story past s bits after s'
reads_moved story past after s s' bits size count is look kept =
    let l = look kept in
    (l.0, subst (λ (t : Data). MovingLooked (controller story past s) t bits (controller story after s')) (sym is) l.1)
