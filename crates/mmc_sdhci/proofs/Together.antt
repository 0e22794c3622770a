-- A command and its blocks by one call.
use Rattle.std.proofs.Common.{[], ◌-◌, ◌<◌, ◌∙◌, ◌≡◌, List, ap, arith, refl, suc, true, ℕ}
use Rattle.std.specs.Prelude.{Result, if◌then◌else◌, is_ok, length, slice_index_or}
use Rattle.mmc_bus.specs.Together.{accepted_one, none_accepted, writes, writes_none}
use Rattle.mmc_bus.specs.declared.moved.Moved.TheVariants as Move
use Rattle.mmc_card.specs.CardAnswer.{Silent}
use Rattle.mmc_card.specs.declared.exchange.DataOut.{DataOut}
use Rattle.mmc_card.specs.declared.exchange.DataOut.TheVariants.{Accepted}
use Rattle.mmc_card.specs.declared.exchange.DataIn.TheVariants.{Good}
use Rattle.mmc_host.proofs.DataLemmas.{some_left}
use Rattle.mmc_host.specs.HostStates.{IsToCome, IsToGo, less_by, less_one}
use Rattle.mmc_host.specs.Hosts.{HostView, Sends, Where, WritesBlock, answer_heard}
use Rattle.mmc_host.specs.Together.{AreAhead, AreAfter, HostRead, WritesWith}
use Rattle.mmc_host.specs.declared.data.Data.{Data}
use Rattle.mmc_host.specs.declared.told.Heard.{Heard}
use Rattle.mmc_host.specs.declared.told.HostCommand.{HostCommand}
use Rattle.mmc_host.specs.declared.told.ResponseFault.{ResponseFault}

-- after so many blocks of a read another one is to come
still_to_come : (transfer : Data) (count done : ℕ) → AreAfter transfer count → done < count
    → (blocks : ℕ) × (less_by done transfer ≡ Data.Read 512 blocks)
still_to_come Data.Nothing count done come below = absurd come
still_to_come (Data.Write blocks) count done come below = absurd come
still_to_come (Data.Read size all) count done come below =
    let few = come.1 in (
      all - done,
      some_left (λ blocks. Data.Read size blocks) (λ blocks. refl) done all (omega (arith, few, below))
          ∙ ap (λ n. Data.Read n (all - done)) come.0,
    )

pub comes_next : (view : HostView) (transfer : Data) (count done : ℕ) → AreAfter transfer count → done < count
    → Where view (view.state.transfer ≡ less_by done transfer) → Where view (IsToCome view.state 512)
comes_next view transfer count done come below is kept =
    let next = still_to_come transfer count done come below in (next.0, is kept ∙ next.1)

-- one fewer is to come after a good one
pub one_fewer : (now new : HostView) (left : List ℕ) (transfer : Data) (done : ℕ) → HostRead now Good left new
    → Where now (now.state.transfer ≡ less_by done transfer) → Where new (new.state.transfer ≡ less_by (suc done) transfer)
one_fewer now new left transfer done read is kept =
    let s = read kept in
    ap (λ t. t.transfer) s.state ∙ ap less_one (is s.step.was_kept)

-- what is under way after a command that was heard
pub under_way : (old new : HostView) (command : HostCommand) (heard : Result Heard ResponseFault) → Sends old command heard new
    → is_ok heard ≡ true → Where new (new.state.transfer ≡ command.transfer)
under_way old new command heard sends ok kept =
    let s = sends kept in
    ap (λ t. t.transfer) s.state ∙ ap (λ b. if b then command.transfer else Data.Nothing) ok

-- the first block of a write is to go
goes_first : (transfer : Data) (count : ℕ) → AreAhead transfer count → (blocks : ℕ) × (transfer ≡ Data.Write blocks)
goes_first Data.Nothing count ahead = absurd ahead
goes_first (Data.Read size blocks) count ahead = absurd ahead
goes_first (Data.Write blocks) count ahead = (blocks, refl)

pub goes_next : (view : HostView) (transfer : Data) (count : ℕ) → AreAhead transfer count
    → Where view (view.state.transfer ≡ transfer) → Where view (IsToGo view.state)
goes_next view transfer count ahead is kept =
    let first = goes_first transfer count ahead in (first.0, is kept ∙ first.1)

-- What came of a write: no block went, or the first one.
pub none_went : (old new : HostView) (command : HostCommand) (blocks : List (List ℕ)) (heard : Result Heard ResponseFault)
    → Sends old command heard new → WritesWith old command blocks heard (Move.Good 0) new
none_went old new command blocks heard sends =
    record { between = new; sent = sends; unheard = λ silent. refl; written = writes 0 new none_accepted }

module _ (old after new : HostView) (command : HostCommand) (blocks : List (List ℕ)) (heard : Result Heard ResponseFault)
    (sends : Sends old command heard after) (is_heard : answer_heard command.response command.index heard ≡ Silent → ⊥)
    (some : 0 < length blocks) where
  pub one_went : WritesBlock after (slice_index_or blocks 0 []) Accepted new → WritesWith old command blocks heard (Move.Good 1) new
  one_went wrote = record {
    between = after;
    sent = sends;
    unheard = λ silent. absurd (is_heard silent);
    written = writes 1 new (accepted_one 0 after after new none_accepted refl some wrote);
  }

  pub one_failed : (got : DataOut) → (got ≡ Accepted → ⊥) → WritesBlock after (slice_index_or blocks 0 []) got new
      → WritesWith old command blocks heard (Move.Failed got) new
  one_failed got not wrote = record {
    between = after;
    sent = sends;
    unheard = λ silent. absurd (is_heard silent);
    written = writes_none 0 after after got new none_accepted refl some not wrote;
  }
