-- Blocks that the controller moved by itself, as a host tells of them.
use Rattle.std.proofs.Common.{[], ◌+◌, ◌-◌, ◌<◌, ◌∙◌, ◌≡◌, ◌≤◌, ◌⊎◌, Bool, List, None, Some, ap, arith, false, inl, inr, length, refl, subst, suc, sym, true, zero, ℕ}
use Rattle.std.proofs.lemmas.Bool.{eq-eqb, eqb-true, false≢true}
use Rattle.std.proofs.lemmas.List.{get_or-set_other, get_or-set_same, length-set}
use Rattle.std.specs.Prelude.{slice_index_or, slice_set, ◌==◌}
use Rattle.mmc_bus.proofs.TogetherLemmas.{WritesOne, good_count}
use Rattle.mmc_bus.specs.Exchanges.{Kept}
use Rattle.mmc_bus.specs.Lending.{IsRewritten, block, nothing}
use Rattle.mmc_bus.specs.Together.{AreAccepted, AreGood, ReadOn, RestsAfter, WrittenOn, accepted_one, good_one, none_accepted, none_good}
use Rattle.mmc_bus.specs.Together.{reads, reads_none, writes, writes_none}
use Rattle.mmc_bus.specs.declared.moved.Moved.{Moved}
use Rattle.mmc_bus.specs.declared.moved.Moved.TheVariants as Move
use Rattle.mmc_card.specs.BusView.{BusView}
use Rattle.mmc_card.specs.Faults.{PollStep, ReadStep, WriteStep}
use Rattle.mmc_card.specs.declared.exchange.DataIn.{DataIn}
use Rattle.mmc_card.specs.declared.exchange.DataIn.TheVariants as Came
use Rattle.mmc_card.specs.declared.exchange.DataOut.{DataOut}
use Rattle.mmc_card.specs.declared.exchange.DataOut.TheVariants as Went
use Rattle.mmc_card.specs.declared.exchange.Lines.{Lines}
use Rattle.mmc_host.proofs.DataLemmas.{some_left}
use Rattle.mmc_host.proofs.TogetherLemmas.{is_other_in}
use Rattle.mmc_host.specs.HostStates.{block_passed, less_by, less_one, lines_of}
use Rattle.mmc_host.specs.Hosts.{HostView, WritesBlock, bus_of}
use Rattle.mmc_host.specs.Together.{HostRead, HostRested, passed}
use Rattle.mmc_host.specs.declared.data.Data.{Data}
use Rattle.mmc_host.specs.declared.told.HostState.{HostState}
use Rattle.mmc_sdhci.proofs.Hosting.{same_bus}
use Rattle.mmc_sdhci.specs.Controller.{ControllerView, Settled, limits_of, lines_in, seen}
use Rattle.mmc_sdhci.specs.DmaLooks.{AllMoved, BlockComes, BlockGoes, CardRests, HaveCome, HaveGone, OneIsLost, SomeMoved, StepsAlone}
use Rattle.mmc_sdhci.specs.DmaLooks.{none_came, one_came}
use Rattle.mmc_sdhci.specs.Driver.{host_over}
use Rattle.mmc_sdhci.specs.Finishing.{Finishes, ended}
use Rattle.mmc_sdhci.specs.Lending.{TakesBack, placed, unlent}
use Rattle.mmc_sdhci.specs.Lent.{blocks_to_go}
use Rattle.mmc_sdhci.specs.Moving.{WhereKept}

-- A host with the card of a bus.
abbrev pub host_at : BusView → HostState → Lines → HostView
host_at bus state limits =
    record {
      card = bus.card;
      state = state;
      limits = limits;
      faults = bus.faults;
      may_fall = bus.may_fall;
      is_kept = bus.is_kept;
    }

abbrev pub IsBusOf : HostState → Lines → BusView → Type 0
IsBusOf state limits bus = bus ≡ bus_of (host_at bus state limits)

-- a step leaves it one
stays_one : (state : HostState) (limits : Lines) (old new : BusView) {Step : Type 0} → IsBusOf state limits old
    → StepsAlone old Step new → IsBusOf state limits new
stays_one state limits old new is step =
    step.same ∙ ap (λ (b : BusView). record b { card = new.card; faults = new.faults; may_fall = new.may_fall; is_kept = new.is_kept }) is

-- and is one of the host
stepped : (state after : HostState) (limits : Lines) (Step : BusView → BusView → Type 0) (old new : BusView)
    → IsBusOf state limits old → IsBusOf after limits new → StepsAlone old (Step old new) new
    → Kept (bus_of (host_at old state limits)) (Step (bus_of (host_at old state limits)) (bus_of (host_at new after limits)))
    (bus_of (host_at new after limits))
stepped state after limits Step old new is after_is step =
    subst (λ (b : BusView). Kept (bus_of (host_at old state limits)) (Step (bus_of (host_at old state limits)) b) b) after_is
    (subst (λ (b : BusView). Kept b (Step b new) new) is step.kept)

-- Reads.

one_good : (state : HostState) (limits : Lines) (done : ℕ) (view new : BusView) (left : List ℕ) → IsBusOf state limits view
    → IsBusOf state limits new → BlockComes view Came.Good left new
    → HostRead (host_at view (passed done state) limits) Came.Good left (host_at new (passed (suc done) state) limits)
one_good state limits done view new left is after_is step kept = record {
  state = refl;
  limits = refl;
  step = stepped (passed done state) (passed (suc done) state) limits (λ a b. ReadStep a 512 Came.Good left b) view new is after_is
      step;
}

one_bad : (state : HostState) (limits : Lines) (some : ℕ) (view new : BusView) (got : DataIn) (left : List ℕ) → (got ≡ Came.Good → ⊥)
    → IsBusOf state limits view → IsBusOf state limits new → BlockComes view got left new
    → HostRead (host_at view (passed some state) limits) got left (host_at new (ended state) limits)
one_bad state limits some view new got left not is after_is step kept = record {
  state = sym (ap (λ (b : Bool). block_passed (passed some state) b) (is_other_in got not));
  limits = refl;
  step = stepped (passed some state) (ended state) limits (λ a b. ReadStep a 512 got left b) view new is after_is step;
}

module _ {S : Type 0} (blocks : S → List (List ℕ)) (leave : S → ℕ → List ℕ → S) (one : WritesOne blocks leave) (was : S)
    (come : List (List ℕ)) (state : HostState) (limits : Lines) (between : BusView) (is : IsBusOf state limits between) where
  come_bus : (k : ℕ) (view : BusView) → HaveCome come between k view → IsBusOf state limits view
  come_bus k view none_came = is
  come_bus k view (one_came done before next have long step) =
      stays_one state limits before next (come_bus done before have) step

  come_good : (k : ℕ) (view : BusView) → HaveCome come between k view → k ≤ length (blocks was)
      → AreGood HostRead blocks leave (host_at between state limits) was k (host_at view (passed k state) limits)
      (placed leave come was k)
  come_good k view none_came few = none_good
  come_good k view (one_came done before next have long step) few =
      let so_far = come_good done before have (omega (arith, few)) in
      let count = good_count (host_at between state limits) was one done _ _ so_far in
      good_one done (host_at before (passed done state) limits) (placed leave come was done) (slice_index_or come done [])
      (host_at next (passed (suc done) state) limits) so_far (omega (arith, few, count)) long
      (one_good state limits done before next (slice_index_or come done []) (come_bus done before have)
      (come_bus (suc done) next (one_came done before next have long step)) step)

-- of a host that isn't kept nothing is known
module _ {S : Type 0} (blocks : S → List (List ℕ)) (leave : S → ℕ → List ℕ → S) (one : WritesOne blocks leave) (was : S)
    (these : List (List ℕ)) (between last : HostView) (unkept : last.is_kept ≡ false) where
  abbrev view_after : ℕ → HostView
  view_after zero = between
  view_after (suc done) = last

  after_some : (n : ℕ) → 1 ≤ n → view_after n ≡ last
  after_some zero less = absurd (omega (arith, less))
  after_some (suc n) less = refl

  any_good : (k : ℕ) → ((i : ℕ) → i < k → length (slice_index_or these i []) ≡ 512) → k ≤ length (blocks was)
      → AreGood HostRead blocks leave between was k (view_after k) (placed leave these was k)
  any_good zero sized few = none_good
  any_good (suc k) sized few =
      let so_far = any_good k (λ i less. sized i (omega (arith, less))) (omega (arith, few)) in
      let count = good_count between was one k _ _ so_far in
      good_one k (view_after k) (placed leave these was k) (slice_index_or these k []) last so_far (omega (arith, few, count))
      (sized k (omega arith)) (λ kept. absurd (false≢true (sym unkept ∙ kept)))

-- the same blocks are placed
pub placed_as : {S : Type 0} (leave : S → ℕ → List ℕ → S) (was : S) (xs ys : List (List ℕ)) (k : ℕ)
    → ((i : ℕ) → i < k → slice_index_or xs i [] ≡ slice_index_or ys i []) → placed leave xs was k ≡ placed leave ys was k
placed_as leave was xs ys zero same = refl
placed_as leave was xs ys (suc k) same =
    ap (λ s. leave s k (slice_index_or xs k [])) (placed_as leave was xs ys k (λ i less. same i (omega (arith, less))))
    ∙ ap (λ bytes. leave (placed leave ys was k) k bytes) (same k (omega arith))

-- One more place is filled.

pub before_or_at : (j i : ℕ) (test : Bool) → (j == i) ≡ test → j < i + 1 → (j ≡ i) ⊎ (j < i)
before_or_at j i true is less = inl (eqb-true j i is)
before_or_at j i false is less =
    let not : j ≡ i → ⊥ = λ (same : j ≡ i). false≢true (sym is ∙ eq-eqb j i same) in
    inr (omega (arith, less, not))

module _ {S : Type 0} (blocks : S → List (List ℕ)) (leave : S → ℕ → List ℕ → S) (one : WritesOne blocks leave) (was now : S)
    (i : ℕ) (left : List ℕ) (inside : i < length (blocks now)) (long : length left ≡ 512) where
  abbrev next : S
  next = leave now i left

  wrote : blocks next ≡ slice_set (blocks now) i left
  wrote = one now i left inside long

  pub other_place : (j : ℕ) → j < i → slice_index_or (blocks next) j [] ≡ slice_index_or (blocks now) j []
  other_place j less =
      ap (λ xs. slice_index_or xs j []) wrote ∙ get_or-set_other (blocks now) i j left [] (λ same. omega (arith, less, same))

  pub this_place : slice_index_or (blocks next) i [] ≡ left
  this_place = ap (λ xs. slice_index_or xs i []) wrote ∙ get_or-set_same (blocks now) i left [] inside

  pub placed_one : now ≡ placed leave (blocks now) was i → next ≡ placed leave (blocks next) was (suc i)
  placed_one so_far =
      ap (λ s. leave s i left) (so_far ∙ sym (placed_as leave was (blocks next) (blocks now) i other_place))
      ∙ ap (λ bytes. leave (placed leave (blocks next) was i) i bytes) (sym this_place)

  pub still_many : length (blocks now) ≡ length (blocks was) → length (blocks next) ≡ length (blocks was)
  still_many count = ap (λ (xs : List (List ℕ)). length xs) wrote ∙ length-set (blocks now) i left ∙ count

  pub all_long : ((j : ℕ) → j < i → length (slice_index_or (blocks now) j []) ≡ 512) → (j : ℕ) → j < i + 1
      → length (slice_index_or (blocks next) j []) ≡ 512
  all_long sized j less =
      elim (before_or_at j i (j == i) refl less) [
        | inl same ↦ ap (λ n. length (slice_index_or (blocks next) n [])) same ∙ (ap (λ (l : List ℕ). length l) this_place ∙ long)
        | inr before ↦ ap (λ (l : List ℕ). length l) (other_place j before) ∙ sized j before
      ]

  pub all_those : (come : List (List ℕ)) → left ≡ slice_index_or come i []
      → ((j : ℕ) → j < i → slice_index_or (blocks now) j [] ≡ slice_index_or come j []) → (j : ℕ) → j < i + 1
      → slice_index_or (blocks next) j [] ≡ slice_index_or come j []
  all_those come is so_far j less =
      elim (before_or_at j i (j == i) refl less) [
        | inl same ↦ ap (λ n. slice_index_or (blocks next) n []) same ∙ (this_place ∙ (is ∙ sym (ap (λ n. slice_index_or come n []) same)))
        | inr before ↦ other_place j before ∙ so_far j before
      ]

-- what is placed is rewritten
module _ {S : Type 0} (blocks : S → List (List ℕ)) (leave : S → ℕ → List ℕ → S) (one : WritesOne blocks leave) (was : S)
    (these : List (List ℕ)) where
  pub placed_rewrites : (k : ℕ) → ((i : ℕ) → i < k → length (slice_index_or these i []) ≡ 512) → k ≤ length (blocks was)
      → IsRewritten blocks leave was (placed leave these was k) × (length (blocks (placed leave these was k)) ≡ length (blocks was))
  placed_rewrites zero sized few = (nothing, refl)
  placed_rewrites (suc k) sized few =
      let so_far = placed_rewrites k (λ i less. sized i (omega (arith, less))) (omega (arith, few)) in
      let count = so_far.1 in
      let below : k < length (blocks (placed leave these was k)) = omega (arith, few, count) in
      let long = sized k (omega arith) in (
        block (placed leave these was k) k (slice_index_or these k []) so_far.0 below long,
        ap (λ (xs : List (List ℕ)). length xs) (one (placed leave these was k) k (slice_index_or these k []) below long)
            ∙ length-set (blocks (placed leave these was k)) k (slice_index_or these k []) ∙ count,
      )

-- after the last block nothing is under way
used_up : (size count : ℕ) → 1 ≤ count → less_by count (Data.Read size count) ≡ Data.Nothing
used_up size zero some = absurd (omega (arith, some))
used_up size (suc n) some =
    let left : suc n - n ≡ 1 = omega arith in
    ap less_one (some_left (λ blocks. Data.Read size blocks) (λ blocks. refl) n (suc n) (omega arith)
    ∙ ap (λ k. Data.Read size k) left)

used_up_out : (count : ℕ) → 1 ≤ count → less_by count (Data.Write count) ≡ Data.Nothing
used_up_out zero some = absurd (omega (arith, some))
used_up_out (suc n) some =
    let left : suc n - n ≡ 1 = omega arith in
    ap less_one (some_left (λ blocks. Data.Write blocks) (λ blocks. refl) n (suc n) (omega arith) ∙ ap (λ k. Data.Write k) left)

-- taking back changes nothing of the card
same_host : (v2 v3 : ControllerView) (state : HostState) (limits : Lines) → v3 ≡ unlent v2
    → host_at (seen v2) state limits ≡ host_over v3 state limits
same_host v2 v3 state limits is = sym (ap (λ (v : ControllerView). host_over v state limits) is)

module _ {S : Type 0} (blocks : S → List (List ℕ)) (leave : S → ℕ → List ℕ → S) (one : WritesOne blocks leave) (was now : S)
    (v1 v2 v3 : ControllerView) (after : HostState) (limits : Lines) (count : ℕ) (some : 1 ≤ count)
    (full : count ≡ length (blocks was)) (asked : after.transfer ≡ Data.Read 512 count)
    (under_way : WhereKept v1 (v1.transfer ≡ Data.Read 512 count))
    (lines : WhereKept v1 (lines_in v1.settings.control ≡ lines_of after.ios))
    (most : WhereKept v1 (limits_of v1.built ≡ limits)) (taken : TakesBack leave v2 was count now v3) where
  abbrev between : HostView
  between = host_over v1 after limits

  abbrev last : HostView
  last = host_over v3 (ended after) limits

  few : count ≤ length (blocks was)
  few = omega (arith, full)

  pub is_rewritten : IsRewritten blocks leave was now
  is_rewritten =
      subst (λ (s : S). IsRewritten blocks leave was s) (sym taken.placed)
      (placed_rewrites blocks leave one was taken.blocks count taken.sized few).0

  one_at_least : 0 < length (blocks was)
  one_at_least = omega (arith, some, full)

  all_by : (kept : Bool) → v3.is_kept ≡ kept → Finishes v1 None v2 → ReadOn HostRead blocks leave between was (Move.Good count) last now
  all_by false kept finishes =
      subst (λ (s : S). ReadOn HostRead blocks leave between was (Move.Good count) last s) (sym taken.placed)
      (reads count last (placed leave taken.blocks was count)
      (subst (λ (h : HostView). AreGood HostRead blocks leave between was count h (placed leave taken.blocks was count))
      (after_some blocks leave one was taken.blocks between last kept count some)
      (any_good blocks leave one was taken.blocks between last kept count taken.sized few)))
  all_by true kept finishes =
      let t = taken.back kept in
      let f = finishes t.0 in
      let e = subst (λ (t : Data). AllMoved t v1.dma.lent (seen v1) v2.dma.lent (seen v2)) (under_way f.0) f.1.ended in
      let is = same_bus v1 after limits (lines f.0) (most f.0) in
      let good = come_good blocks leave one was e.0 after limits (seen v1) is count (seen v2) e.1.1.1 few in
      let over : passed count after ≡ ended after =
      ap (λ (t : Data). record after { transfer = t }) (ap (λ (t : Data). less_by count t) asked ∙ used_up 512 count some) in
      let host : host_at (seen v2) (passed count after) limits ≡ last =
      ap (λ (s : HostState). host_at (seen v2) s limits) over ∙ same_host v2 v3 (ended after) limits t.1.1 in
      let there : placed leave e.0 was count ≡ now =
      sym (placed_as leave was taken.blocks e.0 count (t.1.0 e.0 e.1.0)) ∙ sym taken.placed in
      subst (λ (s : S). ReadOn HostRead blocks leave between was (Move.Good count) last s) there
      (reads count last (placed leave e.0 was count)
      (subst (λ (h : HostView). AreGood HostRead blocks leave between was count h (placed leave e.0 was count)) host good))

  pub all_read : Finishes v1 None v2 → ReadOn HostRead blocks leave between was (Move.Good count) last now
  all_read finishes = all_by v3.is_kept refl finishes

  failed_by : (kept : Bool) → v3.is_kept ≡ kept → (got : DataIn) → (got ≡ Came.Good → ⊥) → Finishes v1 (Some got) v2
      → ReadOn HostRead blocks leave between was (Move.Failed got) last now
  failed_by false kept got not finishes =
      reads_none 0 between was now got (slice_index_or taken.blocks 0 []) last none_good one_at_least (taken.sized 0 some) not
      (λ k. absurd (false≢true (sym kept ∙ k))) is_rewritten
  failed_by true kept got not finishes =
      let t = taken.back kept in
      let f = finishes t.0 in
      let o = subst (λ (t : Data). SomeMoved t v1.dma.lent got (seen v1) (seen v2)) (under_way f.0) f.1.ended.1 in
      let is = same_bus v1 after limits (lines f.0) (most f.0) in
      let fewer = o.fewer in
      let good = come_good blocks leave one was o.blocks after limits (seen v1) is o.some o.before o.come (omega (arith, fewer, full)) in
      let count_is = good_count between was one o.some _ _ good in
      let left = slice_index_or taken.blocks o.some [] in
      let bus = come_bus blocks leave one was o.blocks after limits (seen v1) is o.some o.before o.come in
      let step = o.fails left in
      reads_none o.some (host_at o.before (passed o.some after) limits) (placed leave o.blocks was o.some) now got left last good
      (omega (arith, fewer, full, count_is)) (taken.sized o.some fewer) not
      (subst (λ (h : HostView). HostRead (host_at o.before (passed o.some after) limits) got left h)
      (same_host v2 v3 (ended after) limits t.1.1)
      (one_bad after limits o.some o.before (seen v2) got left not bus (stays_one after limits o.before (seen v2) bus step) step))
      is_rewritten

  pub one_failed : (got : DataIn) → (got ≡ Came.Good → ⊥) → Finishes v1 (Some got) v2
      → ReadOn HostRead blocks leave between was (Move.Failed got) last now
  one_failed got not finishes = failed_by v3.is_kept refl got not finishes

-- Writes.

one_gone : (state : HostState) (limits : Lines) (done : ℕ) (view new : BusView) (left : List ℕ) → IsBusOf state limits view
    → IsBusOf state limits new → BlockGoes view left Went.Accepted new
    → WritesBlock (host_at view (passed done state) limits) left Went.Accepted (host_at new (passed (suc done) state) limits)
one_gone state limits done view new left is after_is step kept = record {
  state = refl;
  limits = refl;
  step = stepped (passed done state) (passed (suc done) state) limits (λ a b. WriteStep a left Went.Accepted b) view new is after_is
      step;
}

one_lost : (state : HostState) (limits : Lines) (some : ℕ) (view new : BusView) (left : List ℕ) → IsBusOf state limits view
    → IsBusOf state limits new → BlockGoes view left Went.Nothing new
    → WritesBlock (host_at view (passed some state) limits) left Went.Nothing (host_at new (ended state) limits)
one_lost state limits some view new left is after_is step kept = record {
  state = refl;
  limits = refl;
  step = stepped (passed some state) (ended state) limits (λ a b. WriteStep a left Went.Nothing b) view new is after_is step;
}

one_rest : (state : HostState) (limits : Lines) (view new : BusView) → IsBusOf state limits view
    → IsBusOf state limits new → CardRests view new → HostRested (host_at view state limits) (host_at new state limits)
one_rest state limits view new is after_is step kept = record {
  state = refl;
  limits = refl;
  step = stepped state state limits (λ a b. PollStep a false b) view new is after_is step;
}

module _ (blocks : List (List ℕ)) (state : HostState) (limits : Lines) (between : BusView) (is : IsBusOf state limits between) where
  rest_bus : (done : ℕ) (view ready : BusView) → RestsAfter CardRests done view ready → IsBusOf state limits view
      → IsBusOf state limits ready
  rest_bus zero view ready rests bus = subst (λ (b : BusView). IsBusOf state limits b) (sym rests) bus
  rest_bus (suc done) view ready rests bus = stays_one state limits view ready bus rests

  rest_host : (done : ℕ) (view ready : BusView) → RestsAfter CardRests done view ready → IsBusOf state limits view
      → RestsAfter HostRested done (host_at view (passed done state) limits) (host_at ready (passed done state) limits)
  rest_host zero view ready rests bus = ap (λ (b : BusView). host_at b state limits) rests
  rest_host (suc done) view ready rests bus =
      one_rest (passed (suc done) state) limits view ready bus (stays_one state limits view ready bus rests) rests

  gone_bus : (k : ℕ) (view : BusView) → HaveGone blocks between k view → IsBusOf state limits view
  gone_bus k view none_accepted = is
  gone_bus k view (accepted_one done before ready next have rests below step) =
      stays_one state limits ready next (rest_bus done before ready rests (gone_bus done before have)) step

  gone : (k : ℕ) (view : BusView) → HaveGone blocks between k view
      → AreAccepted WritesBlock HostRested blocks (host_at between state limits) k (host_at view (passed k state) limits)
  gone k view none_accepted = none_accepted
  gone k view (accepted_one done before ready next have rests below step) =
      let bus = gone_bus done before have in
      let at = rest_bus done before ready rests bus in
      accepted_one done (host_at before (passed done state) limits) (host_at ready (passed done state) limits)
      (host_at next (passed (suc done) state) limits) (gone done before have) (rest_host done before ready rests bus) below
      (one_gone state limits done ready next _ at (stays_one state limits ready next at step) step)

  lost : (moved : Moved DataOut) (new : BusView) (last : HostView) → WrittenOn BlockGoes CardRests blocks between moved new
      → moved ≡ Move.Failed Went.Nothing → host_at new (ended state) limits ≡ last
      → WrittenOn WritesBlock HostRested blocks (host_at between state limits) (Move.Failed Went.Nothing) last
  lost moved new last (writes good next all) is_so same = cc
  lost moved new last (writes_none some view ready got next all rests below not step) is_so same =
      let nothing_told : got ≡ Went.Nothing = cc in
      let bus = gone_bus some view all in
      let at = rest_bus some view ready rests bus in
      let lost_step = subst (λ (g : DataOut). BlockGoes ready (slice_index_or blocks some []) g next) nothing_told step in
      writes_none some (host_at view (passed some state) limits) (host_at ready (passed some state) limits) Went.Nothing last
      (gone some view all) (rest_host some view ready rests bus) below (λ e. cc)
      (subst (λ (h : HostView). WritesBlock (host_at ready (passed some state) limits) (slice_index_or blocks some []) Went.Nothing h) same
      (one_lost state limits some ready next _ at (stays_one state limits ready next at lost_step) lost_step))

module _ (blocks : List (List ℕ)) (between last : HostView) (unkept : last.is_kept ≡ false) where
  abbrev view_then : ℕ → HostView
  view_then zero = between
  view_then (suc done) = last

  rests_then : (done : ℕ) → RestsAfter HostRested done (view_then done) (view_then done)
  rests_then zero = refl
  rests_then (suc done) = λ kept. absurd (false≢true (sym unkept ∙ kept))

  any_gone : (k : ℕ) → k ≤ length blocks → AreAccepted WritesBlock HostRested blocks between k (view_then k)
  any_gone zero few = none_accepted
  any_gone (suc k) few =
      accepted_one k (view_then k) (view_then k) last (any_gone k (omega (arith, few))) (rests_then k) (omega (arith, few))
      (λ kept. absurd (false≢true (sym unkept ∙ kept)))

  then_some : (n : ℕ) → 1 ≤ n → view_then n ≡ last
  then_some zero less = absurd (omega (arith, less))
  then_some (suc n) less = refl

module _ (blocks : List (List ℕ)) (v1 v2 v3 : ControllerView) (after : HostState) (limits : Lines) (count : ℕ) (some : 1 ≤ count)
    (full : count ≡ length blocks) (asked : after.transfer ≡ Data.Write count)
    (under_way : WhereKept v1 (v1.transfer ≡ Data.Write count)) (lent : WhereKept v1 (blocks_to_go v1.dma.lent ≡ blocks))
    (lines : WhereKept v1 (lines_in v1.settings.control ≡ lines_of after.ios))
    (most : WhereKept v1 (limits_of v1.built ≡ limits)) (back : Settled v2 (v3 ≡ unlent v2) v3) where
  abbrev after_it : HostView
  after_it = host_over v1 after limits

  abbrev last_one : HostView
  last_one = host_over v3 (ended after) limits

  gone_by : (kept : Bool) → v3.is_kept ≡ kept → Finishes v1 None v2
      → WrittenOn WritesBlock HostRested blocks after_it (Move.Good count) last_one
  gone_by false kept finishes =
      writes count last_one
      (subst (λ (h : HostView). AreAccepted WritesBlock HostRested blocks after_it count h)
      (then_some blocks after_it last_one kept count some) (any_gone blocks after_it last_one kept count (omega (arith, full))))
  gone_by true kept finishes =
      let t = back kept in
      let f = finishes t.0 in
      let e = subst (λ (t : Data). AllMoved t v1.dma.lent (seen v1) v2.dma.lent (seen v2)) (under_way f.0) f.1.ended in
      let went = subst (λ (bs : List (List ℕ)). HaveGone bs (seen v1) count (seen v2)) (lent f.0) e.1 in
      let is = same_bus v1 after limits (lines f.0) (most f.0) in
      let over : passed count after ≡ ended after =
      ap (λ (t : Data). record after { transfer = t }) (ap (λ (t : Data). less_by count t) asked ∙ used_up_out count some) in
      let host : host_at (seen v2) (passed count after) limits ≡ last_one =
      ap (λ (s : HostState). host_at (seen v2) s limits) over ∙ same_host v2 v3 (ended after) limits t.1 in
      writes count last_one
      (subst (λ (h : HostView). AreAccepted WritesBlock HostRested blocks after_it count h) host
      (gone blocks after limits (seen v1) is count (seen v2) went))

  pub all_gone : Finishes v1 None v2 → WrittenOn WritesBlock HostRested blocks after_it (Move.Good count) last_one
  all_gone finishes = gone_by v3.is_kept refl finishes

  lost_by : (kept : Bool) → v3.is_kept ≡ kept → (got : DataIn) → Finishes v1 (Some got) v2
      → WrittenOn WritesBlock HostRested blocks after_it (Move.Failed Went.Nothing) last_one
  lost_by false kept got finishes =
      writes_none 0 after_it after_it Went.Nothing last_one none_accepted refl (omega (arith, some, full)) (λ e. cc)
      (λ k. absurd (false≢true (sym kept ∙ k)))
  lost_by true kept got finishes =
      let t = back kept in
      let f = finishes t.0 in
      let o = subst (λ (t : Data). SomeMoved t v1.dma.lent got (seen v1) (seen v2)) (under_way f.0) f.1.ended.1 in
      let went = subst (λ (bs : List (List ℕ)). OneIsLost bs (seen v1) (seen v2)) (lent f.0) o in
      let is = same_bus v1 after limits (lines f.0) (most f.0) in
      lost blocks after limits (seen v1) is _ (seen v2) last_one went refl (same_host v2 v3 (ended after) limits t.1)

  pub one_is_lost : (got : DataIn) → Finishes v1 (Some got) v2
      → WrittenOn WritesBlock HostRested blocks after_it (Move.Failed Went.Nothing) last_one
  one_is_lost got finishes = lost_by v3.is_kept refl got finishes
