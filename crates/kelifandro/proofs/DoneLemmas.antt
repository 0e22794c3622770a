-- The host of either way after what was done, before a call and after it.
use Rattle.std.proofs.Common.{◌∙◌, ◌∷◌, ◌==◌, ◌≡◌, ◌||◌, ◌&&◌, ap, arith, false, not, refl, subst, sym, true, ℕ}
use Rattle.std.proofs.lemmas.Bool.{cond_both, eqb-true, false≢true}
use Rattle.std.specs.Prelude.{Bool, List, None, Option, Some, if◌then◌else◌, is_none}
use Rattle.mmc_card.specs.Card.{holds}
use Rattle.mmc_card.specs.declared.exchange.Lines.{Lines}
use Rattle.mmc_direct.proofs.NotedLemmas.{and_left}
use Rattle.mmc_sdhci.specs.DataLooks.{is_empty}
use Rattle.mmc_host.specs.HostStates.{begun}
use Rattle.mmc_host.specs.Hosts.{HostView, Where}
use Rattle.mmc_host.specs.declared.data.Data.{Data}
use Rattle.mmc_host.specs.declared.told.HostState.{HostState}
use Rattle.mmc_record.specs.Note.{is_note}
use Rattle.mmc_record.specs.declared.record.CardRecord.{CardRecord}
use Rattle.mmc_sdhci.specs.Controller.{Built, ControllerView, Settled, has_data, is_still, limits_of}
use Rattle.mmc_sdhci.specs.Driver.{IsLost, IsNew, IsReady, IsSameCard, host_over}
use Rattle.mmc_sdhci.specs.Moving.{WhereKept}
use Rattle.mmc_story.specs.Entry.{Entry}
use Rattle.mmc_story.specs.Story.{IsTrueOf, Outcome, Story, host_with}
use Rattle.sdhci_story.specs.Access.{Access, Misused}
use Rattle.sdhci_story.specs.RegisterStory as Registers
use Rattle.sdhci_story.specs.RegisterStory.{RegisterStory, never_true}
use Rattle.c_host.specs.Ways.{view_by}
use Rattle.c_host.specs.declared.given.WayRecord.{WayRecord}
use Rattle.c_host.specs.declared.way.Way.{Way}
use Rattle.c_host.specs.declared.way.Way.TheVariants as By
use Rattle.kelifandro.specs.Done.{AtRegisters, Done, IsFit, IsLeft, IsWired, OnlyTold, Stories, host_after, limits_by, stories_of}

-- by functions, or by registers
pub by_way : (by : ℕ) (functions registers : HostView) (Holds : HostView → Type 0) → (by ≡ 0 → Holds functions)
    → ((by ≡ 0 → ⊥) → Holds registers) → Holds (if by == 0 then functions else registers)
by_way by functions registers Holds one other =
    cond_both (by == 0) functions registers Holds (λ p. one (eqb-true by 0 p))
    (λ p. other (λ zero. false≢true (sym p ∙ ap (λ (n : ℕ). n == 0) zero)))

-- a host of either kind is what it is made of
pub in_host : {F H : Type 0} (functions : F → HostView) (registers : H → HostView) (way : Way F H) (host : F)
    (Holds : HostView → Type 0) → way ≡ By.Host host → Holds (functions host) → Holds (view_by functions registers way)
in_host functions registers way host Holds is holds = subst (λ w. Holds (view_by functions registers w)) (sym is) holds

pub in_registers : {F H : Type 0} (functions : F → HostView) (registers : H → HostView) (way : Way F H) (driver : H)
    (Holds : HostView → Type 0) → way ≡ By.Registers driver → Holds (registers driver) → Holds (view_by functions registers way)
in_registers functions registers way driver Holds is holds = subst (λ w. Holds (view_by functions registers w)) (sym is) holds

-- what it can stays
pub limits_stay : (stories : Stories) (way : WayRecord) (a b : Done)
    → (host_after stories way a).limits ≡ (host_after stories way b).limits
limits_stay stories way a b =
    cond_both (way.by == 0) (host_with (stories.host.outcome a.calls) begun (limits_by way))
    (host_over (stories.registers.controller a.accesses) begun (limits_of stories.registers.built))
    (λ (h : HostView). h.limits ≡ (host_after stories way b).limits)
    (λ p. cond_both (way.by == 0) (host_with (stories.host.outcome b.calls) begun (limits_by way))
    (host_over (stories.registers.controller b.accesses) begun (limits_of stories.registers.built))
    (λ (h : HostView). limits_by way ≡ h.limits) (λ q. refl) (λ q. absurd (false≢true (sym q ∙ p))))
    (λ p. cond_both (way.by == 0) (host_with (stories.host.outcome b.calls) begun (limits_by way))
    (host_over (stories.registers.controller b.accesses) begun (limits_of stories.registers.built))
    (λ (h : HostView). limits_of stories.registers.built ≡ h.limits) (λ q. absurd (false≢true (sym p ∙ q))) (λ q. refl))

pub told_nothing : (host : HostView) → OnlyTold host host
told_nothing host = λ kept. (kept, refl)

-- a host over a controller that is the same
same_over : (old new : ControllerView) (state : HostState) (limits : Lines) → IsSameCard old new → old.is_kept ≡ new.is_kept
    → host_over new state limits ≡ record (host_over old begun limits) { state = state }
same_over old new state limits same kept = λ i. record {
  card = same.card i;
  state = state;
  limits = limits;
  faults = same.faults i;
  may_fall = same.may_fall i;
  is_kept = sym kept i;
}

-- the host of a driver that goes on with a controller
pub comes_over : (stories : Stories) (way : WayRecord) (done : Done) (from past : List Access) (state : HostState) (limits : Lines)
    → (way.by ≡ 0 → ⊥) → from ≡ done.accesses
    → Settled (stories.registers.controller from)
    (IsSameCard (stories.registers.controller from) (stories.registers.controller past)) (stories.registers.controller past)
    → WhereKept (stories.registers.controller past) (limits ≡ limits_of (stories.registers.controller past).built)
    → OnlyTold (host_after stories way done) (host_over (stories.registers.controller past) state limits)
comes_over stories way done from past state limits registers begins same most =
    let old = stories.registers.controller done.accesses in
    let new = stories.registers.controller past in
    by_way way.by (host_with (stories.host.outcome done.calls) begun (limits_by way))
    (host_over old begun (limits_of stories.registers.built)) (λ (h : HostView). OnlyTold h (host_over new state limits))
    (λ zero. absurd (registers zero)) (λ _. λ kept.
    let s = subst (λ (p : List Access). (stories.registers.controller p).is_kept ≡ true × IsSameCard (stories.registers.controller p) new)
    begins (same kept) in
    let is : limits ≡ limits_of stories.registers.built = most kept ∙ ap (λ (b : Built). limits_of b) (stories.registers.same past) in (
      s.0,
      subst (λ (l : Lines). host_over new state l ≡ record (host_over old begun (limits_of stories.registers.built)) { state = state }) (sym is)
          (same_over old new state (limits_of stories.registers.built) s.1 (s.0 ∙ sym kept)),
    ))

-- Endings.

has_none : (under_way : Data) → has_data under_way ≡ false → under_way ≡ Data.Nothing
has_none Data.Nothing none = refl
has_none (Data.Read size blocks) none = absurd (false≢true (sym none))
has_none (Data.Write blocks) none = absurd (false≢true (sym none))

-- whether something was misused, or data is left under way though nothing has failed
pub was_misused : (misused rest ended : Bool) → misused ≡ true → ended ≡ misused → (misused || rest) ≡ ended
was_misused true rest ended so is = sym is
was_misused false rest ended so is = absurd (false≢true so)

pub was_left : (misused failed moving ended : Bool) → misused ≡ false → failed ≡ false → ended ≡ moving
    → (misused || (not failed && moving)) ≡ ended
was_left true failed moving ended used good is = absurd (false≢true (sym used))
was_left false true moving ended used good is = absurd (false≢true (sym good))
was_left false false moving ended used good is = sym is

pub was_ended : (misused failed moving ended : Bool) → misused ≡ false → failed ≡ true → ended ≡ not failed
    → (misused || (not failed && moving)) ≡ ended
was_ended true failed moving ended used bad is = absurd (false≢true (sym used))
was_ended false true moving ended used bad is = sym is
was_ended false false moving ended used bad is = absurd (false≢true bad)

unmoved : (misused failed moving : Bool) → (misused || (not failed && moving)) ≡ false
    → (misused ≡ false) × (failed ≡ false → moving ≡ false)
unmoved true failed moving is = absurd (false≢true (sym is))
unmoved false true moving is = (refl, λ succeeded. absurd (false≢true (sym succeeded)))
unmoved false false moving is = (refl, λ _. is)

-- a host of functions that has ended is as it was
pub left_by_functions : {Failed : Type 0} (stories : Stories) (way : WayRecord) (calls past : List Entry) (accesses were : List Access)
    (state : HostState) (limits : Lines) (misused : Bool)
    → (IsTrueOf stories.host calls → (misused ≡ false) × (calls ≡ past)) → accesses ≡ Misused ∷ were
    → Where (host_after stories way (record { calls = calls; accesses = accesses }))
    ((misused ≡ false) × IsLeft Failed (host_with (stories.host.outcome past) state limits)
    (host_after stories way (record { calls = calls; accesses = accesses })))
left_by_functions {Failed} stories way calls past accesses were state limits misused ended other =
    let left = host_with (stories.host.outcome past) state limits in
    by_way way.by (host_with (stories.host.outcome calls) begun (limits_by way))
    (host_over (stories.registers.controller accesses) begun (limits_of stories.registers.built))
    (λ (h : HostView). Where h ((misused ≡ false) × IsLeft Failed left h))
    (λ _. λ kept.
    let e = ended kept in
    let same : stories.host.outcome calls ≡ stories.host.outcome past = ap (λ (p : List Entry). stories.host.outcome p) e.1 in (
      e.0,
      subst (λ (o : Outcome). IsLeft Failed left (host_with o begun (limits_by way))) (sym same) (record {
        was_kept = subst (λ (o : Outcome). o.conformed ≡ true) same kept;
        carried = record { made = refl; sizes = λ p. refl };
        narrows = λ p s v i. i;
        is_card = λ is. is;
        stands = λ setting is. is;
        later = omega arith;
        same = λ _. refl;
      }),
    ))
    (λ _. λ kept. absurd (stories.registers.explains Misused were
    (subst (λ (p : List Access). (stories.registers.controller p).is_kept ≡ true) other kept)).1)

-- a driver that has ended has left the same card, or lost what was under way
pub left_by_driver : (stories : Stories) (way : WayRecord) (calls were : List Entry) (accesses past end : List Access)
    (state : HostState) (limits : Lines) (misused failed moving : Bool)
    → (IsTrueOf stories.host calls → (true ≡ false) × (calls ≡ were))
    → (Registers.IsTrueOf stories.registers accesses → ((misused || (not failed && moving)) ≡ false) × (accesses ≡ end))
    → moving ≡ has_data state.transfer
    → Settled (stories.registers.controller past) (IsLost (stories.registers.controller past) (stories.registers.controller end))
    (stories.registers.controller end)
    → Settled (stories.registers.controller past)
    (state.transfer ≡ Data.Nothing → IsSameCard (stories.registers.controller past) (stories.registers.controller end))
    (stories.registers.controller end)
    → Where (host_after stories way (record { calls = calls; accesses = accesses }))
    ((misused ≡ false) × IsLeft (failed ≡ false) (host_over (stories.registers.controller past) state limits)
    (host_after stories way (record { calls = calls; accesses = accesses })))
left_by_driver stories way calls were accesses past end state limits misused failed moving other ended moves lost same =
    let left = host_over (stories.registers.controller past) state limits in
    let most = limits_of stories.registers.built in
    by_way way.by (host_with (stories.host.outcome calls) begun (limits_by way))
    (host_over (stories.registers.controller accesses) begun most)
    (λ (h : HostView). Where h ((misused ≡ false) × IsLeft (failed ≡ false) left h))
    (λ _. λ kept. absurd (false≢true (sym (other kept).0)))
    (λ _. λ kept.
    let e = ended kept in
    let is = subst (λ (p : List Access). (stories.registers.controller p).is_kept ≡ true) e.1 kept in
    let l = lost is in
    let none = unmoved misused failed moving e.0 in (
      none.0,
      subst (λ (p : List Access). IsLeft (failed ≡ false) left (host_over (stories.registers.controller p) begun most)) (sym e.1) (record {
        was_kept = l.0;
        carried = l.1.carried;
        narrows = l.1.narrows;
        is_card = l.1.is_card;
        stands = l.1.stands;
        later = l.1.later;
        same = λ succeeded. ((same is).1 (has_none state.transfer (sym moves ∙ none.1 succeeded))).card;
      }),
    ))

-- What a call leaves, the next one may begin with.

and_right : (a b : Bool) → (a && b) ≡ true → b ≡ true
and_right true b p = p
and_right false b p = absurd (false≢true p)

none_runs : {A : Type 0} (running : Option A) → is_none running ≡ true → running ≡ None
none_runs None is = refl
none_runs (Some run) is = absurd (false≢true is)

pub new_of_ready : (view : ControllerView) → IsReady view → IsNew view
new_of_ready view ready = λ kept.
    let r = ready kept in
    let stuck = and_right (is_none view.running) _ r.0 in
    let stale = and_right (not view.is_stuck) _ stuck in
    let unjudged = and_right (not view.is_stale) _ stale in
    let outgoing = and_right (is_none view.unjudged) _ unjudged in
    let still = and_right (is_empty view.outgoing) _ outgoing in
    (and_left (is_still view) _ still, (none_runs view.running (and_left (is_none view.running) _ r.0), r.1.0))

pub fit_ready : (stories : Stories) (way : WayRecord) (done : Done) (note : CardRecord) → IsWired stories way
    → AtRegisters stories way done IsReady → IsFit stories way done note
fit_ready stories way done note wired ready = record {
  wired = wired;
  still = λ registers. new_of_ready (stories.registers.controller done.accesses) (ready registers);
  ready = λ _. ready;
}

pub fit_closed : (stories : Stories) (way : WayRecord) (done : Done) (note : CardRecord) → IsWired stories way
    → AtRegisters stories way done IsNew → is_note note ≡ false → IsFit stories way done note
fit_closed stories way done note wired still none = record {
  wired = wired;
  still = still;
  ready = λ noted. absurd (false≢true (sym none ∙ noted));
}

pub fit_never : (host : Story) (way : WayRecord) (done : Done) (note : CardRecord)
    → IsFit (stories_of host never_true) way done note
fit_never host way done note = record {
  wired = λ registers accesses kept. absurd (false≢true kept);
  still = λ registers kept. absurd (false≢true kept);
  ready = λ noted registers kept. absurd (false≢true kept);
}
