-- Blocks that the controller writes by itself.
use Rattle.std.proofs.Common.{[], ◌+◌, ◌<◌, ◌∙◌, ◌≡◌, ◌∷◌, List, add-one, ap, false, length, refl, subst, suc, sym, true, ℕ}
use Rattle.std.specs.Prelude.{slice_index_or}
use Rattle.std.proofs.lemmas.Bool.{false≢true}
use Rattle.mmc_frame.specs.Field.{field}
use Rattle.mmc_bus.specs.Together.{accepted_one, none_accepted, writes_none}
use Rattle.mmc_card.specs.BusView.{BusView}
use Rattle.mmc_card.specs.declared.exchange.DataOut.{DataOut}
use Rattle.mmc_card.specs.declared.exchange.DataOut.TheVariants as Went
use Rattle.mmc_host.specs.HostStates.{is_accepted}
use Rattle.mmc_host.specs.declared.data.Data.{Data}
use Rattle.mmc_sdhci.specs.Controller.{seen}
use Rattle.mmc_sdhci.specs.DataLooks.{came}
use Rattle.mmc_sdhci.specs.DmaLooks.{AllMoved, MovingLooked, SomeMoved}
use Rattle.mmc_sdhci.specs.DmaLooks.MovingLook.{ends, fails}
use Rattle.mmc_story.specs.Entry.{Entry}
use Rattle.mmc_story.specs.Entry.Event.{Looked, Written}
use Rattle.mmc_story.specs.Story.{Story}
use Rattle.sdhci_model.specs.Moves.{Breaks, GoesOn, HaveSent, OneWasLost, sent_of}
use Rattle.sdhci_model.specs.Shown.{controller, entry_for, lent_in, to_go}
use Rattle.sdhci_model.specs.declared.state.State.{State}
use Rattle.sdhci_model.proofs.Coming.{LooksMoving, LooksMovingAll}
use Rattle.sdhci_model.proofs.Moving.{broken_state, is_none_accepted, kept_untold}
use Rattle.sdhci_model.proofs.Telling.{alone, same_kept}

pub none_sent : (story : Story) (past : List Entry) (s : State) → GoesOn story past s 0 past
none_sent story past s kept =
    (kept, record { view = seen (controller story past s); gone = none_accepted; rests = refl })

-- One goes, and then the card is no longer busy.
one_sent_by : (story : Story) (past before : List Entry) (s : State) (k : ℕ) → k < length (to_go s) → GoesOn story past s k before
    → GoesOn story past s (suc k) (entry_for s (Looked false) ∷ sent_of s k Went.Accepted ∷ before)
one_sent_by story past before s k few so_far kept =
    let rests = alone story (sent_of s k Went.Accepted ∷ before) s (Looked false) kept in
    let goes = alone story before s (Written (slice_index_or (to_go s) k []) Went.Accepted) rests.kept.was_kept in
    let h = so_far goes.kept.was_kept in (
      h.0,
      record {
        view = seen (controller story (sent_of s k Went.Accepted ∷ before) s);
        gone = accepted_one k h.1.view (seen (controller story before s))
            (seen (controller story (sent_of s k Went.Accepted ∷ before) s)) h.1.gone h.1.rests few goes;
        rests = rests;
      },
    )

pub one_sent : (story : Story) (past before after : List Entry) (s : State) (k : ℕ) → k < length (to_go s) → GoesOn story past s k before
    → after ≡ entry_for s (Looked false) ∷ sent_of s k Went.Accepted ∷ before → GoesOn story past s (k + 1) after
one_sent story past before after s k few so_far noted =
    subst (λ (es : List Entry). GoesOn story past s (k + 1) es) (sym noted)
    (subst (λ (n : ℕ). GoesOn story past s n (entry_for s (Looked false) ∷ sent_of s k Went.Accepted ∷ before)) (sym (add-one k))
    (one_sent_by story past before s k few so_far))

-- The last one goes.
last_sent_by : (story : Story) (past before : List Entry) (s : State) (k : ℕ) → k < length (to_go s) → GoesOn story past s k before
    → HaveSent story past s (suc k) (sent_of s k Went.Accepted ∷ before)
last_sent_by story past before s k few so_far kept =
    let goes = alone story before s (Written (slice_index_or (to_go s) k []) Went.Accepted) kept in
    let h = so_far goes.kept.was_kept in (
      h.0,
      accepted_one k h.1.view (seen (controller story before s)) (seen (controller story (sent_of s k Went.Accepted ∷ before) s))
          h.1.gone h.1.rests few goes,
    )

pub last_sent : (story : Story) (past before after : List Entry) (s : State) (k count : ℕ) (got : DataOut) → k < length (to_go s)
    → suc k ≡ count → is_accepted got ≡ true → GoesOn story past s k before → after ≡ sent_of s k got ∷ before
    → HaveSent story past s count after
last_sent story past before after s k count Went.Accepted few is taken so_far noted =
    subst (λ (es : List Entry). HaveSent story past s count es) (sym noted)
    (subst (λ (n : ℕ). HaveSent story past s n (sent_of s k Went.Accepted ∷ before)) is (last_sent_by story past before s k few so_far))
last_sent story past before after s k count Went.Rejected few is taken so_far noted = absurd (false≢true taken)
last_sent story past before after s k count Went.Nothing few is taken so_far noted = absurd (false≢true taken)

-- One is lost.
one_lost_by : (story : Story) (past before : List Entry) (s : State) (k : ℕ) (got : DataOut) → k < length (to_go s)
    → is_accepted got ≡ false → GoesOn story past s k before → OneWasLost story past s (sent_of s k got ∷ before)
one_lost_by story past before s k got few bad so_far kept =
    let block = slice_index_or (to_go s) k [] in
    let old = seen (controller story before s) in
    let new = seen (controller story (sent_of s k got ∷ before) s) in
    let goes = alone story before s (Written block got) kept in
    let h = so_far goes.kept.was_kept in (
      h.0,
      writes_none k h.1.view old Went.Nothing new h.1.gone h.1.rests few is_none_accepted
          (record { same = refl; kept = kept_untold old new block got bad goes.kept }),
    )

pub one_lost : (story : Story) (past before after : List Entry) (s : State) (k : ℕ) (got : DataOut) → k < length (to_go s)
    → is_accepted got ≡ false → GoesOn story past s k before → after ≡ sent_of s k got ∷ before → OneWasLost story past s after
one_lost story past before after s k got few bad so_far noted =
    subst (λ (es : List Entry). OneWasLost story past s es) (sym noted) (one_lost_by story past before s k got few bad so_far)

-- The looks.
abbrev written_state : State → State
written_state s = record s { status = 2; transfer = Data.Nothing; is_moving = false }

writes_end_by : (story : Story) (past after : List Entry) (s : State) (count : ℕ) → s.transfer ≡ Data.Write count
    → HaveSent story past s count after → LooksMoving story past s 2 after (written_state s)
writes_end_by story past after s count is have kept =
    let old = controller story past s in
    let new = controller story after (written_state s) in
    let h = have kept in (
      h.0,
      ends (lent_in s.loan) refl refl
          (subst (λ (t : Data). AllMoved t old.dma.lent (seen old) (lent_in s.loan) (seen new)) (sym is) (refl, h.1))
          (same_kept new old.is_kept (kept ∙ sym h.0)),
    )

pub writes_end : (story : Story) (past after : List Entry) (s s1 s2 : State) (count : ℕ) → s.transfer ≡ Data.Write count
    → HaveSent story past s count after → s1 ≡ s → s2 ≡ written_state s1 → LooksMoving story past s 2 after s2
writes_end story past after s s1 s2 count is have same changed =
    subst (λ (x : State). LooksMoving story past s 2 after x) (sym (changed ∙ ap (λ (x : State). written_state x) same))
    (writes_end_by story past after s count is have)

writes_fail_by : (story : Story) (past after : List Entry) (s s' : State) (count bits : ℕ) → s.transfer ≡ Data.Write count
    → field 15 15 bits ≡ 1 → OneWasLost story past s after → Breaks s bits s' → LooksMoving story past s bits after s'
writes_fail_by story past after s s' count bits is error lost breaks kept =
    let old = controller story past s in
    let new = controller story after s' in
    let same_bus : seen new ≡ seen (controller story after s) = ap (λ (x : State). seen (controller story after x)) breaks.same in
    let h = lost (sym (ap (λ (b : BusView). b.is_kept) same_bus) ∙ kept) in (
      h.0,
      fails error
          (subst (λ (t : Data). SomeMoved t old.dma.lent (came bits) (seen old) (seen new)) (sym is)
          (subst (λ (b : BusView). SomeMoved (Data.Write count) old.dma.lent (came bits) (seen old) b) (sym same_bus) h.1))
          (same_kept new old.is_kept (kept ∙ sym h.0)
          ∙ (ap (λ (x : State). record (controller story after x) { is_kept = old.is_kept }) breaks.same
          ∙ ap (λ (l : List ℕ). record (controller story after (broken_state s bits s')) { is_kept = old.is_kept; outgoing = l }) breaks.items)),
    )

pub writes_fail : (story : Story) (past after : List Entry) (s s1 s2 : State) (count bits : ℕ) → s.transfer ≡ Data.Write count
    → field 15 15 bits ≡ 1 → OneWasLost story past s after → s1 ≡ s → Breaks s1 bits s2 → LooksMoving story past s bits after s2
writes_fail story past after s s1 s2 count bits is error lost same breaks =
    writes_fail_by story past after s s2 count bits is error lost (subst (λ (x : State). Breaks x bits s2) same breaks)

pub writes_moved : (story : Story) (past after : List Entry) (s s' : State) (bits count : ℕ) → s.transfer ≡ Data.Write count
    → LooksMoving story past s bits after s' → LooksMovingAll story past s bits after s'
writes_moved story past after s s' bits count is look kept =
    let l = look kept in
    (l.0, subst (λ (t : Data). MovingLooked (controller story past s) t bits (controller story after s')) (sym is) l.1)
