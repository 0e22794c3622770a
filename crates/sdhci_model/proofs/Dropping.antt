-- Blocks that are lost by a reset of the data line.
use Rattle.std.proofs.Common.{◌∙◌, ◌≡◌, ◌∷◌, Bool, List, None, Option, Some, ap, arith, false, length, refl, subst, sym, true, ℕ}
use Rattle.mmc_bus.specs.Exchanges.{Kept}
use Rattle.mmc_card.specs.BusView.{BusView}
use Rattle.mmc_card.specs.Faults.{MeetsBlock, ReadStep, WriteStep}
use Rattle.mmc_card.specs.Faults.MeetsBlock.{brownout, faithful, fall_short, lose_block, lose_status, reject, turn_out}
use Rattle.mmc_card.specs.declared.exchange.DataIn.TheVariants as Came
use Rattle.mmc_card.specs.declared.exchange.DataOut.{DataOut}
use Rattle.mmc_card.specs.declared.exchange.DataOut.TheVariants as Went
use Rattle.mmc_host.specs.declared.data.Data.{Data}
use Rattle.mmc_sdhci.specs.Accesses.{Does8, Drops, DropsBy}
use Rattle.mmc_sdhci.specs.Controller.{ControllerView, Settled, moved, seen}
use Rattle.mmc_sdhci.specs.DataLooks.{DataDropped, IsOffered, cleared}
use Rattle.mmc_sdhci.specs.DmaLooks.{SomeMoved}
use Rattle.mmc_story.specs.Entry.{Entry, Event}
use Rattle.mmc_story.specs.Entry.Event.{Read, Written}
use Rattle.mmc_story.specs.Story.{Allows, Outcome, Story}
use Rattle.sdhci_model.specs.Moves.{ChangesTo, HasSameBus, IsLostAs, OneHasFailed, OneWasLost}
use Rattle.sdhci_model.specs.Shown.{controller, entry_for, lent_in, shown}
use Rattle.sdhci_model.specs.declared.state.State.{State}
use Rattle.sdhci_model.proofs.Moving.{kept_any, lost_by, rejected_is, rejected_is_none, some_bytes}
use Rattle.sdhci_model.proofs.Telling.{if_kept, told}

abbrev reset_from : ControllerView → ControllerView
reset_from view = record (cleared view) { resetting = Some 0 }

-- What the registers show after the reset, by what they showed before it.
cleared_after : (outcome : Outcome) (s : State) (old new : ControllerView) → new ≡ reset_from (shown outcome s)
    → (shown outcome s).is_kept ≡ old.is_kept
    → record new { resetting = None } ≡ cleared (record (shown outcome s) { is_kept = old.is_kept })
cleared_after outcome s old new is kept =
    ap (λ (v : ControllerView). record v { resetting = None }) is
    ∙ ap (λ (b : Bool). cleared (record (shown outcome s) { is_kept = b })) kept

-- Where the step is one that loses the block, the reset does as the definition says.
drops_data : (story : Story) (past : List Entry) (s s' : State) (event : Event)
    → ChangesTo s reset_from s' → HasSameBus s s'
    → (Kept (seen (controller story past s))
    (Allows (seen (controller story past s)) event (seen (controller story (entry_for s event ∷ past) s')))
    (seen (controller story (entry_for s event ∷ past) s'))
    → (after : ControllerView) → seen after ≡ seen (controller story (entry_for s event ∷ past) s')
    → after ≡ cleared (moved (controller story past s) after)
    → Drops (controller story past s) after)
    → Settled (controller story past s)
    (Does8 (controller story past s) 0x2f 4 (controller story (entry_for s event ∷ past) s'))
    (controller story (entry_for s event ∷ past) s')
drops_data story past s s' event changes same drops kept =
    let old = controller story past s in
    let outcome = story.outcome (entry_for s event ∷ past) in
    let new = controller story (entry_for s event ∷ past) s' in
    let after = record new { resetting = None } in
    let k = if_kept s'.is_sound outcome.conformed kept in
    let step = told story past s s' event (sym same.sound ∙ k.0) k.0 same.control same.capabilities k.1 in
    let e : new ≡ reset_from (shown outcome s) = changes outcome in
    let was : (shown outcome s).is_kept ≡ old.is_kept =
    sym (ap (λ (v : ControllerView). v.is_kept) e) ∙ (kept ∙ sym step.was_kept) in (
      step.was_kept,
      record {
        control = λ at. absurd (omega (arith, at));
        power = λ at. absurd (omega (arith, at));
        restart = λ at one. absurd (omega (arith, one));
        command = λ at two. absurd (omega (arith, two));
        line = λ at four. (
          after,
          drops step after refl (cleared_after outcome s old new e was),
          ap (λ (o : Option ℕ). record new { resetting = o }) (ap (λ (v : ControllerView). v.resetting) e),
        );
      },
    )

drops_unmoved : (old new : ControllerView) → old.dma.is_moving ≡ false → DataDropped old old.transfer new → Drops old new
drops_unmoved old new still drops = subst (λ (b : Bool). DropsBy b old new) (sym still) drops

-- No block came.
pub loses_read : (story : Story) (past after : List Entry) (s s1 s2 : State) (size : ℕ) (blocks : ℕ) (block : List ℕ)
    → s.is_moving ≡ false → s.transfer ≡ Data.Read size blocks → after ≡ entry_for s (Read size Came.Nothing block) ∷ past → s1 ≡ s
    → ChangesTo s1 reset_from s2 → HasSameBus s1 s2
    → Settled (controller story past s) (Does8 (controller story past s) 0x2f 4 (controller story after s2)) (controller story after s2)
loses_read story past after s s1 s2 size blocks block still is noted same changes bus =
    let event = Read size Came.Nothing block in
    let old = controller story past s in
    subst (λ (es : List Entry). Settled (controller story past s)
    (Does8 (controller story past s) 0x2f 4 (controller story es s2)) (controller story es s2)) (sym noted)
    (drops_data story past s s2 event
    (subst (λ (x : State). ChangesTo x reset_from s2) same changes)
    (subst (λ (x : State). HasSameBus x s2) same bus)
    (λ step v sees clear. drops_unmoved old v still (subst (λ (t : Data). DataDropped old t v) (sym is) (
      λ other. subst (λ (b : BusView). Kept (seen old) (ReadStep (seen old) size Came.Nothing other b) b) (sym sees)
          (kept_any (seen old) (seen (controller story (entry_for s event ∷ past) s2)) size Came.Nothing block other refl step),
      clear,
    ))))

-- A block that was rejected may be any whose status didn't come.
any_rejected : (old new : BusView) (block other : List ℕ) (got : DataOut) → got ≡ Went.Rejected → MeetsBlock old block got new
    → MeetsBlock old other Went.Nothing new
any_rejected old new block other got is (faithful unharmed card told_so) = absurd (lost_by _ got is told_so)
any_rejected old new block other got is (lose_block can one card said) = absurd (rejected_is_none (sym is ∙ said))
any_rejected old new block other got is (reject bits ignores is_busy among can one card said) =
    lose_status bits false ignores is_busy among can one card refl
any_rejected old new block other got is (lose_status bits was ignores is_busy among can one card said) =
    absurd (rejected_is_none (sym is ∙ said))
any_rejected old new block other got is (fall_short lands bits ignores are can one card said) =
    absurd (rejected_is (sym is ∙ said))
any_rejected old new block other got is (turn_out lands several can one card said) = absurd (rejected_is_none (sym is ∙ said))
any_rejected old new block other got is (brownout lands keeps late one card said) = absurd (rejected_is_none (sym is ∙ said))

any_lost : (old new : BusView) (outgoing block other : List ℕ) (got : DataOut) → IsLostAs outgoing block got
    → IsOffered outgoing other → WriteStep old block got new → WriteStep old other Went.Nothing new
any_lost old new outgoing block other Went.Rejected lost offered step = record {
  met = step.met;
  passes = step.passes;
  meets = any_rejected step.met new block other Went.Rejected refl step.meets;
}
any_lost old new outgoing block other Went.Nothing lost offered step =
    subst (λ (l : List ℕ). WriteStep old l Went.Nothing new) (lost.0 ∙ offered lost.1) step
any_lost old new outgoing block other Went.Accepted lost offered step = absurd lost

kept_lost : (old new : BusView) (outgoing block other : List ℕ) (got : DataOut) → IsLostAs outgoing block got
    → IsOffered outgoing other → Kept old (WriteStep old block got new) new → Kept old (WriteStep old other Went.Nothing new) new
kept_lost old new outgoing block other got lost offered step =
    record {
      was_kept = step.was_kept;
      was_card = step.was_card;
      step = any_lost old new outgoing block other got lost offered step.step;
      is_card = step.is_card;
      bounded = step.bounded;
    }

-- The block didn't go.
pub loses_write : (story : Story) (past after : List Entry) (s s1 s2 : State) (blocks : ℕ) (block : List ℕ) (got : DataOut)
    → s.is_moving ≡ false → s.transfer ≡ Data.Write blocks → IsLostAs s.outgoing.items block got → after ≡ entry_for s (Written block got) ∷ past → s1 ≡ s
    → ChangesTo s1 reset_from s2 → HasSameBus s1 s2
    → Settled (controller story past s) (Does8 (controller story past s) 0x2f 4 (controller story after s2)) (controller story after s2)
loses_write story past after s s1 s2 blocks block got still is lost noted same changes bus =
    let event = Written block got in
    let old = controller story past s in
    subst (λ (es : List Entry). Settled (controller story past s)
    (Does8 (controller story past s) 0x2f 4 (controller story es s2)) (controller story es s2)) (sym noted)
    (drops_data story past s s2 event
    (subst (λ (x : State). ChangesTo x reset_from s2) same changes)
    (subst (λ (x : State). HasSameBus x s2) same bus)
    (λ step v sees clear. drops_unmoved old v still (subst (λ (t : Data). DataDropped old t v) (sym is) (
      λ other offered. subst (λ (b : BusView). Kept (seen old) (WriteStep (seen old) other Went.Nothing b) b) (sym sees)
          (kept_lost (seen old) (seen (controller story (entry_for s event ∷ past) s2)) s.outgoing.items block other got lost offered step),
      clear,
    ))))

-- All of it was in the buffer, and its status is lost.
pub lost_whole : (outgoing block : List ℕ) → block ≡ outgoing → length outgoing ≡ 512 → IsLostAs outgoing block Went.Nothing
lost_whole outgoing block is long = (is, some_bytes outgoing long)

-- Data that the controller moves by itself: some of it was, and a block was lost.
abbrev pub LosesSome : Story → List Entry → State → List Entry → Type 0
LosesSome story past s after =
    Settled (controller story past s)
    (SomeMoved s.transfer (lent_in s.loan) Came.Nothing (seen (controller story past s)) (seen (controller story after s)))
    (controller story after s)

drops_some_by : (story : Story) (past after : List Entry) (s s' : State) → s.is_moving ≡ true → LosesSome story past s after
    → ChangesTo s reset_from s'
    → Settled (controller story past s) (Does8 (controller story past s) 0x2f 4 (controller story after s')) (controller story after s')
drops_some_by story past after s s' moves lost changes kept =
    let old = controller story past s in
    let outcome = story.outcome after in
    let new = controller story after s' in
    let dropped = record new { resetting = None } in
    let e : new ≡ reset_from (shown outcome s) = changes outcome in
    let still : (shown outcome s).is_kept ≡ true = sym (ap (λ (v : ControllerView). v.is_kept) e) ∙ kept in
    let h = lost still in
    let same_bus : seen dropped ≡ seen (shown outcome s) = ap (λ (v : ControllerView). seen v) e in (
      h.0,
      record {
        control = λ at. absurd (omega (arith, at));
        power = λ at. absurd (omega (arith, at));
        restart = λ at one. absurd (omega (arith, one));
        command = λ at two. absurd (omega (arith, two));
        line = λ at four. (
          dropped,
          subst (λ (b : Bool). DropsBy b old dropped) (sym moves) (
            subst (λ (b : BusView). SomeMoved s.transfer (lent_in s.loan) Came.Nothing (seen old) b) (sym same_bus) h.1,
            cleared_after outcome s old new e (still ∙ sym h.0),
          ),
          ap (λ (o : Option ℕ). record new { resetting = o }) (ap (λ (v : ControllerView). v.resetting) e),
        );
      },
    )

pub drops_some : (story : Story) (past after : List Entry) (s s1 s2 : State) → s.is_moving ≡ true → LosesSome story past s after
    → s1 ≡ s → ChangesTo s1 reset_from s2
    → Settled (controller story past s) (Does8 (controller story past s) 0x2f 4 (controller story after s2)) (controller story after s2)
drops_some story past after s s1 s2 moves lost same changes =
    drops_some_by story past after s s2 moves lost (subst (λ (x : State). ChangesTo x reset_from s2) same changes)

pub loses_read_some : (story : Story) (past after : List Entry) (s : State) (size count : ℕ) → s.transfer ≡ Data.Read size count
    → OneHasFailed story past s count Came.Nothing after → LosesSome story past s after
loses_read_some story past after s size count is failed kept =
    let h = failed kept in (
      h.0,
      subst (λ (t : Data). SomeMoved t (lent_in s.loan) Came.Nothing (seen (controller story past s)) (seen (controller story after s)))
          (sym is) h.1,
    )

pub loses_written_some : (story : Story) (past after : List Entry) (s : State) (count : ℕ) → s.transfer ≡ Data.Write count
    → OneWasLost story past s after → LosesSome story past s after
loses_written_some story past after s count is lost kept =
    let h = lost kept in (
      h.0,
      subst (λ (t : Data). SomeMoved t (lent_in s.loan) Came.Nothing (seen (controller story past s)) (seen (controller story after s)))
          (sym is) h.1,
    )
