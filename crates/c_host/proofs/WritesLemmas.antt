-- What C says of blocks that are written: nothing has to be shown of a host that isn't kept.
use Rattle.std.proofs.Common.{◌<◌, ◌≡◌, ◌≤◌, List, arith, length, refl, suc, zero, ℕ}
use Rattle.std.specs.Prelude.{Result}
use Rattle.mmc_bus.specs.Together.{AreAccepted, MovesAtMost, RestsAfter, WrittenOn, accepted_one, none_accepted, writes, writes_none}
use Rattle.mmc_bus.specs.declared.moved.Moved.{Moved}
use Rattle.mmc_bus.specs.declared.moved.Moved.TheVariants as Move
use Rattle.mmc_card.specs.CardAnswer.{Silent}
use Rattle.mmc_card.specs.declared.exchange.DataOut.{DataOut}
use Rattle.mmc_card.specs.declared.exchange.DataOut.TheVariants.{Accepted}
use Rattle.mmc_host.specs.Hosts.{WritesBlock, answer_heard, unkept_host}
use Rattle.mmc_host.specs.Together.{HostRested, WritesWith}
use Rattle.mmc_host.specs.declared.told.Heard.{Heard}
use Rattle.mmc_host.specs.declared.told.HostCommand.{HostCommand}
use Rattle.mmc_host.specs.declared.told.ResponseFault.{ResponseFault}

rests : (k : ℕ) → RestsAfter HostRested k unkept_host unkept_host
rests zero = refl
rests (suc k) = λ kept. absurd (cc)

all_accepted : (blocks : List (List ℕ)) (k : ℕ) → k ≤ length blocks
    → AreAccepted WritesBlock HostRested blocks unkept_host k unkept_host
all_accepted blocks zero few = none_accepted
all_accepted blocks (suc k) few =
    accepted_one k unkept_host unkept_host unkept_host (all_accepted blocks k (omega (arith, few))) (rests k)
    (omega (arith, few)) (λ kept. absurd (cc))

module _ (command : HostCommand) (blocks : List (List ℕ)) (heard : Result Heard ResponseFault) where
  pub none_went : WritesWith unkept_host command blocks heard (Move.Good 0) unkept_host
  none_went = record {
    between = unkept_host;
    sent = λ kept. absurd (cc);
    unheard = λ silent. refl;
    written = writes 0 unkept_host none_accepted;
  }

  written_on : (moved : Moved DataOut) → MovesAtMost moved (length blocks)
      → ((got : DataOut) → moved ≡ Move.Failed got → (got ≡ Accepted → ⊥) × (0 < length blocks))
      → WrittenOn WritesBlock HostRested blocks unkept_host moved unkept_host
  written_on (Move.Good good) few failed = writes good unkept_host (all_accepted blocks good few)
  written_on (Move.Failed got) few failed =
      let f = failed got refl in
      writes_none 0 unkept_host unkept_host got unkept_host none_accepted refl f.1 f.0 (λ kept. absurd (cc))

  pub some_went : ((answer_heard command.response command.index heard ≡ Silent) → ⊥) → (moved : Moved DataOut)
      → MovesAtMost moved (length blocks)
      → ((got : DataOut) → moved ≡ Move.Failed got → (got ≡ Accepted → ⊥) × (0 < length blocks))
      → WritesWith unkept_host command blocks heard moved unkept_host
  some_went heard_it moved few failed = record {
    between = unkept_host;
    sent = λ kept. absurd (cc);
    unheard = λ silent. absurd (heard_it silent);
    written = written_on moved few failed;
  }
