-- Looks at the interrupts while blocks are moved.
use Rattle.std.proofs.Common.{◌∙◌, ◌≡◌, ◌∷◌, Bool, List, Some, ap, arith, drop, false, length, refl, subst, sym, true, ℕ}
use Rattle.std.specs.Prelude.{[], if◌then◌else◌}
use Rattle.std.proofs.lemmas.Bool.{false≢true}
use Rattle.mmc_frame.specs.Field.{field}
use Rattle.mmc_bus.specs.Exchanges.{Kept}
use Rattle.mmc_card.specs.BusView.{BusView}
use Rattle.mmc_card.specs.Faults.{MeetsBlock, ReadStep, WriteStep}
use Rattle.mmc_card.specs.Faults.ReadStep.{brownout as read_brownout, faithful as read_faithful, spoil}
use Rattle.mmc_card.specs.Faults.MeetsBlock.{brownout as write_brownout, faithful as write_faithful, fall_short, lose_block}
use Rattle.mmc_card.specs.Faults.MeetsBlock.{lose_status, reject, turn_out}
use Rattle.mmc_card.specs.declared.exchange.DataIn.{DataIn}
use Rattle.mmc_card.specs.declared.exchange.DataIn.TheVariants as Came
use Rattle.mmc_card.specs.declared.exchange.DataOut.{DataOut}
use Rattle.mmc_card.specs.declared.exchange.DataOut.TheVariants as Went
use Rattle.mmc_host.specs.HostStates.{is_accepted, is_good, less_one}
use Rattle.mmc_host.specs.declared.data.Data.{Data}
use Rattle.mmc_sdhci.specs.Controller.{ControllerView, Settled, seen}
use Rattle.mmc_sdhci.specs.DataLooks.{DataLooked, ReadLook, WriteLook, came, has_news, is_empty}
use Rattle.mmc_sdhci.specs.DataLooks.ReadLook.{comes, failed, good, waits}
use Rattle.mmc_sdhci.specs.DataLooks.WriteLook.{accepted, failed as lost, waits as stays}
use Rattle.mmc_story.specs.Entry.{Entry}
use Rattle.mmc_story.specs.Entry.Event.{Read, Written}
use Rattle.mmc_story.specs.Story.{Story}
use Rattle.sdhci_model.specs.Moves.{AwaitsGone, AwaitsGood, Breaks, Comes, Goes, TellsGone, TellsGood}
use Rattle.sdhci_model.specs.Shown.{controller, entry_for, unjudged_in}
use Rattle.sdhci_model.specs.declared.state.State.{State}
use Rattle.sdhci_model.proofs.Telling.{if_kept, same_kept, told}

abbrev Looks : Story → List Entry → State → ℕ → List Entry → State → Type 0
Looks story past s bits after s' =
    Settled (controller story past s) (DataLooked (controller story past s) s.transfer bits (controller story after s'))
    (controller story after s')

pub reads : (story : Story) (past after : List Entry) (s s' : State) (bits size : ℕ) (blocks : ℕ)
    → s.transfer ≡ Data.Read size blocks
    → Settled (controller story past s) (ReadLook (controller story past s) size bits (controller story after s')) (controller story after s')
    → Looks story past s bits after s'
reads story past after s s' bits size blocks is look kept =
    let l = look kept in
    (l.0, subst (λ (t : Data). DataLooked (controller story past s) t bits (controller story after s')) (sym is) l.1)

pub writes : (story : Story) (past after : List Entry) (s s' : State) (bits : ℕ) (blocks : ℕ)
    → s.transfer ≡ Data.Write blocks
    → Settled (controller story past s) (WriteLook (controller story past s) bits (controller story after s')) (controller story after s')
    → Looks story past s bits after s'
writes story past after s s' bits blocks is look kept =
    let l = look kept in
    (l.0, subst (λ (t : Data). DataLooked (controller story past s) t bits (controller story after s')) (sym is) l.1)

-- No data.
pub none_moves : (story : Story) (past : List Entry) (s : State) → s.transfer ≡ Data.Nothing → Looks story past s s.status past s
none_moves story past s is kept =
    (kept, subst (λ (t : Data). DataLooked (controller story past s) t s.status (controller story past s)) (sym is) refl)

-- Nothing new.
pub read_waits : (story : Story) (past : List Entry) (s s' : State) (size : ℕ)
    → has_news (controller story past s) (controller story past s).unjudged 0 ≡ false → s' ≡ record s { status = 0 }
    → Settled (controller story past s) (ReadLook (controller story past s) size 0 (controller story past s')) (controller story past s')
read_waits story past s s' size none is kept = (
  sym (ap (λ (x : State). (controller story past x).is_kept) is) ∙ kept,
  waits refl none (ap (λ (x : State). controller story past x) is),
)

pub not_ready : (story : Story) (past : List Entry) (s : State) → s.is_unjudged ≡ false → s.is_ready ≡ false
    → has_news (controller story past s) (controller story past s).unjudged 0 ≡ false
not_ready story past s none is =
    ap (λ (b : Bool). has_news (controller story past s) (unjudged_in b s.block.items) 0) none ∙ is

pub not_good_yet : (story : Story) (past : List Entry) (s : State) → s.is_unjudged ≡ true → AwaitsGood s
    → has_news (controller story past s) (controller story past s).unjudged 0 ≡ false
not_good_yet story past s some awaits =
    ap (λ (b : Bool). has_news (controller story past s) (unjudged_in b s.block.items) 0) some ∙ awaits (story.outcome past)

-- A block comes.
abbrev came_with : ControllerView → List ℕ → List ℕ → ControllerView
came_with view left block =
    record view { status = 0x20; is_ready = false; incoming = left; unjudged = Some block }

pub read_comes : (story : Story) (past : List Entry) (s s' : State) (size : ℕ) (block : List ℕ) → s.is_unjudged ≡ false
    → s.is_ready ≡ true → length block ≡ size → Comes s block s'
    → Settled (controller story past s) (ReadLook (controller story past s) size 0x20 (controller story past s')) (controller story past s')
read_comes story past s s' size block none ready len is kept = (
  sym (ap (λ (x : State). (controller story past x).is_kept) is.same) ∙ kept,
  comes block refl (ap (λ (b : Bool). unjudged_in b s.block.items) none) ready len
      (ap (λ (x : State). controller story past x) is.same
      ∙ ap (λ (l : List ℕ). came_with (controller story past s) (drop 0 l) l) is.items),
)

-- It is good.
abbrev pub judged_state : State → ℕ → State
judged_state s bits =
    record s { status = bits; transfer = less_one s.transfer; is_ready = false; is_unjudged = false }

read_good_by : (story : Story) (past : List Entry) (s : State) (bits size : ℕ) → s.is_unjudged ≡ true → TellsGood s bits
    → Settled (controller story past s)
    (ReadLook (controller story past s) size bits
    (controller story (entry_for s (Read size Came.Good s.block.items) ∷ past) (judged_state s bits)))
    (controller story (entry_for s (Read size Came.Good s.block.items) ∷ past) (judged_state s bits))
read_good_by story past s bits size some tells kept =
    let event = Read size Came.Good s.block.items in
    let old = controller story past s in
    let new = controller story (entry_for s event ∷ past) (judged_state s bits) in
    let k = if_kept s.is_sound (story.outcome (entry_for s event ∷ past)).conformed kept in
    let step = told story past s (judged_state s bits) event k.0 k.0 refl refl k.1 in (
      step.was_kept,
      good s.block.items tells.0 (ap (λ (b : Bool). unjudged_in b s.block.items) some) (tells.1 (story.outcome past)) step
          (same_kept new old.is_kept (kept ∙ sym step.was_kept)),
    )

pub read_good : (story : Story) (past after : List Entry) (s s' : State) (bits size : ℕ) → s.is_unjudged ≡ true → TellsGood s bits
    → after ≡ entry_for s (Read size Came.Good s.block.items) ∷ past → s' ≡ judged_state s bits
    → Settled (controller story past s) (ReadLook (controller story past s) size bits (controller story after s')) (controller story after s')
read_good story past after s s' bits size some tells noted is =
    subst (λ (es : List Entry). Settled (controller story past s)
    (ReadLook (controller story past s) size bits (controller story es s')) (controller story es s')) (sym noted)
    (subst (λ (x : State). Settled (controller story past s)
    (ReadLook (controller story past s) size bits
    (controller story (entry_for s (Read size Came.Good s.block.items) ∷ past) x))
    (controller story (entry_for s (Read size Came.Good s.block.items) ∷ past) x)) (sym is)
    (read_good_by story past s bits size some tells))

-- None comes, or a bad one.
is_no_good : (got : DataIn) → is_good got ≡ false → got ≡ Came.Good → ⊥
is_no_good got bad is = false≢true (sym bad ∙ ap (λ (d : DataIn). is_good d) is)

any_block : (old new : BusView) (size : ℕ) (got : DataIn) (block other : List ℕ) → is_good got ≡ false
    → ReadStep old size got block new → ReadStep old size got other new
any_block old new size got block other bad (read_faithful choice unharmed card is fits) =
    read_faithful choice unharmed card is (λ g. absurd (is_no_good got bad g))
any_block old new size got block other bad (spoil choice bits goes_on any among can one card is) =
    spoil choice bits goes_on any among can one card is
any_block old new size got block other bad (read_brownout choice lands keeps late one card is) =
    read_brownout choice lands keeps late one card is

abbrev pub broken_state : State → ℕ → State → State
broken_state s bits s' =
    record s {
      outgoing = s'.outgoing;
      status = bits;
      transfer = Data.Nothing;
      is_stale = true;
      is_ready = false;
      is_unjudged = false;
    }

pub kept_any : (old new : BusView) (size : ℕ) (got : DataIn) (block other : List ℕ) → is_good got ≡ false
    → Kept old (ReadStep old size got block new) new → Kept old (ReadStep old size got other new) new
kept_any old new size got block other bad step =
    record {
      was_kept = step.was_kept;
      was_card = step.was_card;
      step = any_block old new size got block other bad step.step;
      is_card = step.is_card;
      bounded = step.bounded;
    }

read_failed_by : (story : Story) (past : List Entry) (s s' : State) (bits size : ℕ) (got : DataIn) (block : List ℕ)
    → is_good got ≡ false → field 15 15 bits ≡ 1 → came bits ≡ got → Breaks s bits s'
    → Settled (controller story past s)
    (ReadLook (controller story past s) size bits (controller story (entry_for s (Read size got block) ∷ past) s'))
    (controller story (entry_for s (Read size got block) ∷ past) s')
read_failed_by story past s s' bits size got block bad error is breaks kept =
    let event = Read size got block in
    let old = controller story past s in
    let new = controller story (entry_for s event ∷ past) s' in
    let sound : s'.is_sound ≡ s.is_sound = ap (λ (x : State). x.is_sound) breaks.same in
    let k = if_kept s'.is_sound (story.outcome (entry_for s event ∷ past)).conformed kept in
    let step = told story past s s' event (sym sound ∙ k.0) k.0 (ap (λ (x : State). x.control) breaks.same)
    (ap (λ (x : State). x.capabilities) breaks.same) k.1 in (
      step.was_kept,
      failed error
          (λ other. subst (λ (d : DataIn). Kept (seen old) (ReadStep (seen old) size d other (seen new)) (seen new)) (sym is)
          (kept_any (seen old) (seen new) size got block other bad step))
          (same_kept new old.is_kept (kept ∙ sym step.was_kept)
          ∙ (ap (λ (x : State). record (controller story (entry_for s event ∷ past) x) { is_kept = old.is_kept }) breaks.same
          ∙ ap (λ (l : List ℕ). record (controller story (entry_for s event ∷ past) (broken_state s bits s')) { is_kept = old.is_kept; outgoing = l }) breaks.items)),
    )

pub read_failed : (story : Story) (past after : List Entry) (s s' : State) (bits size : ℕ) (got : DataIn) (block : List ℕ)
    → is_good got ≡ false → field 15 15 bits ≡ 1 → came bits ≡ got → Breaks s bits s'
    → after ≡ entry_for s (Read size got block) ∷ past
    → Settled (controller story past s) (ReadLook (controller story past s) size bits (controller story after s')) (controller story after s')
read_failed story past after s s' bits size got block bad error is breaks noted =
    subst (λ (es : List Entry). Settled (controller story past s)
    (ReadLook (controller story past s) size bits (controller story es s')) (controller story es s')) (sym noted)
    (read_failed_by story past s s' bits size got block bad error is breaks)

-- Writing.
pub write_waits : (story : Story) (past : List Entry) (s s' : State) → AwaitsGone s → s' ≡ record s { status = 0 }
    → Settled (controller story past s) (WriteLook (controller story past s) 0 (controller story past s')) (controller story past s')
write_waits story past s s' awaits is kept = (
  sym (ap (λ (x : State). (controller story past x).is_kept) is) ∙ kept,
  stays refl (awaits (story.outcome past)) (ap (λ (x : State). controller story past x) is),
)

abbrev gone_state : State → ℕ → State → State
gone_state s bits s' =
    record s { outgoing = s'.outgoing; status = bits; transfer = less_one s.transfer; is_ready = false }

write_accepted_by : (story : Story) (past : List Entry) (s s' : State) (bits : ℕ) → TellsGone s bits → Goes s bits s'
    → Settled (controller story past s)
    (WriteLook (controller story past s) bits (controller story (entry_for s (Written s.outgoing.items Went.Accepted) ∷ past) s'))
    (controller story (entry_for s (Written s.outgoing.items Went.Accepted) ∷ past) s')
write_accepted_by story past s s' bits tells goes kept =
    let event = Written s.outgoing.items Went.Accepted in
    let old = controller story past s in
    let new = controller story (entry_for s event ∷ past) s' in
    let sound : s'.is_sound ≡ s.is_sound = ap (λ (x : State). x.is_sound) goes.same in
    let k = if_kept s'.is_sound (story.outcome (entry_for s event ∷ past)).conformed kept in
    let step = told story past s s' event (sym sound ∙ k.0) k.0 (ap (λ (x : State). x.control) goes.same)
    (ap (λ (x : State). x.capabilities) goes.same) k.1 in (
      step.was_kept,
      accepted tells.0 (tells.1 (story.outcome past)) step
          (same_kept new old.is_kept (kept ∙ sym step.was_kept)
          ∙ (ap (λ (x : State). record (controller story (entry_for s event ∷ past) x) { is_kept = old.is_kept }) goes.same
          ∙ ap (λ (l : List ℕ). record (controller story (entry_for s event ∷ past) (gone_state s bits s')) { is_kept = old.is_kept; outgoing = l }) goes.items)),
    )

pub write_accepted : (story : Story) (past after : List Entry) (s s' : State) (bits : ℕ) → TellsGone s bits → Goes s bits s'
    → after ≡ entry_for s (Written s.outgoing.items Went.Accepted) ∷ past
    → Settled (controller story past s) (WriteLook (controller story past s) bits (controller story after s')) (controller story after s')
write_accepted story past after s s' bits tells goes noted =
    subst (λ (es : List Entry). Settled (controller story past s)
    (WriteLook (controller story past s) bits (controller story es s')) (controller story es s')) (sym noted)
    (write_accepted_by story past s s' bits tells goes)

-- a block that was rejected, or whose status didn't come, is one whose status didn't come
pub is_rejected : DataOut → Bool
is_rejected Went.Rejected = true
is_rejected Went.Accepted = false
is_rejected Went.Nothing = false

pub rejected_is : Went.Rejected ≡ Went.Accepted → ⊥
unfolding is_rejected
rejected_is e = false≢true (sym (ap (λ (d : DataOut). is_rejected d) e))

pub rejected_is_none : Went.Rejected ≡ Went.Nothing → ⊥
unfolding is_rejected
rejected_is_none e = false≢true (sym (ap (λ (d : DataOut). is_rejected d) e))

pub is_none_accepted : Went.Nothing ≡ Went.Accepted → ⊥
is_none_accepted e = false≢true (ap (λ (d : DataOut). is_accepted d) e)

pub lost_by : (accepted_was : Bool) (got : DataOut) → got ≡ Went.Rejected → got ≡ (if accepted_was then Went.Accepted else Went.Nothing) → ⊥
lost_by true got is other = rejected_is (sym is ∙ other)
lost_by false got is other = rejected_is_none (sym is ∙ other)

unrejected : (old new : BusView) (block : List ℕ) (got : DataOut) → got ≡ Went.Rejected → MeetsBlock old block got new
    → MeetsBlock old block Went.Nothing new
unrejected old new block got is (write_faithful unharmed card told_so) = absurd (lost_by _ got is told_so)
unrejected old new block got is (lose_block can one card said) = lose_block can one card refl
unrejected old new block got is (reject bits ignores is_busy among can one card said) =
    lose_status bits false ignores is_busy among can one card refl
unrejected old new block got is (lose_status bits was ignores is_busy among can one card said) =
    lose_status bits was ignores is_busy among can one card refl
unrejected old new block got is (fall_short lands bits ignores are can one card said) =
    absurd (rejected_is (sym is ∙ said))
unrejected old new block got is (turn_out lands several can one card said) = absurd (rejected_is_none (sym is ∙ said))
unrejected old new block got is (write_brownout lands keeps late one card said) = write_brownout lands keeps late one card refl

untold : (old new : BusView) (block : List ℕ) (got : DataOut) → is_accepted got ≡ false → WriteStep old block got new
    → WriteStep old block Went.Nothing new
untold old new block Went.Nothing bad step = step
untold old new block Went.Accepted bad step = absurd (false≢true (sym bad))
untold old new block Went.Rejected bad step = record {
  met = step.met;
  passes = step.passes;
  meets = unrejected step.met new block Went.Rejected refl step.meets;
}

pub kept_untold : (old new : BusView) (block : List ℕ) (got : DataOut) → is_accepted got ≡ false
    → Kept old (WriteStep old block got new) new → Kept old (WriteStep old block Went.Nothing new) new
kept_untold old new block got bad step =
    record {
      was_kept = step.was_kept;
      was_card = step.was_card;
      step = untold old new block got bad step.step;
      is_card = step.is_card;
      bounded = step.bounded;
    }

write_lost_by : (story : Story) (past : List Entry) (s s' : State) (bits : ℕ) (got : DataOut) → is_accepted got ≡ false
    → field 15 15 bits ≡ 1 → is_empty s.outgoing.items ≡ false → Breaks s bits s'
    → Settled (controller story past s)
    (WriteLook (controller story past s) bits (controller story (entry_for s (Written s.outgoing.items got) ∷ past) s'))
    (controller story (entry_for s (Written s.outgoing.items got) ∷ past) s')
write_lost_by story past s s' bits got bad error some breaks kept =
    let event = Written s.outgoing.items got in
    let old = controller story past s in
    let new = controller story (entry_for s event ∷ past) s' in
    let sound : s'.is_sound ≡ s.is_sound = ap (λ (x : State). x.is_sound) breaks.same in
    let k = if_kept s'.is_sound (story.outcome (entry_for s event ∷ past)).conformed kept in
    let step = told story past s s' event (sym sound ∙ k.0) k.0 (ap (λ (x : State). x.control) breaks.same)
    (ap (λ (x : State). x.capabilities) breaks.same) k.1 in (
      step.was_kept,
      lost error
          (λ block offered. subst (λ (l : List ℕ). Kept (seen old) (WriteStep (seen old) l Went.Nothing (seen new)) (seen new))
          (offered some) (kept_untold (seen old) (seen new) s.outgoing.items got bad step))
          (same_kept new old.is_kept (kept ∙ sym step.was_kept)
          ∙ (ap (λ (x : State). record (controller story (entry_for s event ∷ past) x) { is_kept = old.is_kept }) breaks.same
          ∙ ap (λ (l : List ℕ). record (controller story (entry_for s event ∷ past) (broken_state s bits s')) { is_kept = old.is_kept; outgoing = l }) breaks.items)),
    )

pub write_lost : (story : Story) (past after : List Entry) (s s' : State) (bits : ℕ) (got : DataOut) → is_accepted got ≡ false
    → field 15 15 bits ≡ 1 → is_empty s.outgoing.items ≡ false → Breaks s bits s' → after ≡ entry_for s (Written s.outgoing.items got) ∷ past
    → Settled (controller story past s) (WriteLook (controller story past s) bits (controller story after s')) (controller story after s')
write_lost story past after s s' bits got bad error some breaks noted =
    subst (λ (es : List Entry). Settled (controller story past s)
    (WriteLook (controller story past s) bits (controller story es s')) (controller story es s')) (sym noted)
    (write_lost_by story past s s' bits got bad error some breaks)

pub write_went : (story : Story) (past after : List Entry) (s s' : State) (bits : ℕ) (block : List ℕ) (got : DataOut)
    → is_accepted got ≡ true → block ≡ s.outgoing.items → TellsGone s bits → Goes s bits s'
    → after ≡ entry_for s (Written block got) ∷ past
    → Settled (controller story past s) (WriteLook (controller story past s) bits (controller story after s')) (controller story after s')
write_went story past after s s' bits block Went.Accepted taken is tells goes noted =
    write_accepted story past after s s' bits tells goes
    (noted ∙ ap (λ (l : List ℕ). entry_for s (Written l Went.Accepted) ∷ past) is)
write_went story past after s s' bits block Went.Rejected taken is tells goes noted = absurd (false≢true taken)
write_went story past after s s' bits block Went.Nothing taken is tells goes noted = absurd (false≢true taken)

pub some_bytes : (l : List ℕ) → length l ≡ 512 → is_empty l ≡ false
some_bytes [] is = absurd (omega (arith, is))
some_bytes (x ∷ xs) is = refl

pub write_failed : (story : Story) (past after : List Entry) (s s' : State) (bits : ℕ) (block : List ℕ) (got : DataOut)
    → is_accepted got ≡ false → field 15 15 bits ≡ 1 → block ≡ s.outgoing.items → length s.outgoing.items ≡ 512 → Breaks s bits s'
    → after ≡ entry_for s (Written block got) ∷ past
    → Settled (controller story past s) (WriteLook (controller story past s) bits (controller story after s')) (controller story after s')
write_failed story past after s s' bits block got bad error is long breaks noted =
    write_lost story past after s s' bits got bad error (some_bytes s.outgoing.items long) breaks
    (noted ∙ ap (λ (l : List ℕ). entry_for s (Written l got) ∷ past) is)
