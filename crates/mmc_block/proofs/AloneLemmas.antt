-- A request that is served at once is a submission and a turn.
use Rattle.std.proofs.Common.{◌+◌, ◌∷◌, ◌≡◌, ◌||◌, Bool, [], arith, false, inl, refl, sym, true, ℕ}
use Rattle.std.proofs.lemmas.Bool.{false≢true}
use Rattle.mmc_card.proofs.SectorLemmas.{maybe_within, old_maybe}
use Rattle.mmc_card.specs.Sectors.{Sets, Within, touches}
use Rattle.mmc_queue.specs.declared.request.Request.{Request}
use Rattle.mmc_switch.specs.declared.info.Info.{Info}
use Rattle.mmc_block.specs.Alone.{IsServedAlone, Leaves, ServesAlone, idle}
use Rattle.mmc_block.specs.Changes.{change_of}
use Rattle.mmc_block.specs.Groups.{AreInOrder, IsChangeOf, completed}
use Rattle.mmc_block.specs.Machine.{AnswersAll, Machine, Starts, Waiting}
use Rattle.mmc_block.specs.declared.completion.Answer.{Answer}
use Rattle.mmc_block.specs.declared.completion.Answer.TheVariants.{Data, Done, Failed}
use Rattle.mmc_block.proofs.GroupLemmas.{in_as, read_changes_none}
use Rattle.mmc_block.proofs.ServeLemmas.{group_answered, refuses}

or_none : (b : Bool) → (b || false) ≡ b
or_none true = refl
or_none false = refl

module _ (info : Info) (sets : Sets) (next : ℕ) (request : Request) where
  abbrev alone : Waiting
  alone = record { ticket = next; client = 0; request = request }

  abbrev started : Machine
  started = record { sets = sets; waits = []; in_service = alone ∷ []; next = next + 1 }

  starts : Starts (record { sets = sets; waits = alone ∷ []; in_service = []; next = next + 1 }) started
  starts = record {
    oldest = alone;
    others = [];
    later = [];
    idle = refl;
    group = refl;
    alike = tt;
    few = omega arith;
    first = refl;
    left = (refl, refl);
    sets = refl;
    next = refl;
  }

  served : (answer : Answer) (left : Sets) → AnswersAll info started (completed alone answer ∷ []) (idle left (next + 1))
      → IsServedAlone info (idle sets next) request answer (idle left (next + 1))
  served answer left answers = record {
    accepted = record { sets = sets; waits = alone ∷ []; in_service = []; next = next + 1 };
    accepts = record { ticket_is = refl; waits = refl };
    turns = record { started = started; start = inl starts; answers = answers };
  }

  in_order : AreInOrder 0 (alone ∷ []) (next + 1)
  in_order = (omega arith, omega arith)

  own_change : IsChangeOf info (alone ∷ []) (change_of info request)
  own_change = record {
    touched = λ p s. or_none (touches (change_of info request) p s);
    given = λ p s. ((λ touched. refl), tt);
  }

  serves_alone : (answer : Answer) (old now : Sets) → Within old sets → Leaves info request old answer now
      → (left : Sets) × IsServedAlone info (idle sets next) request answer (idle left (next + 1)) × Within now left
  serves_alone Done old now within leaves =
      let turn =
      group_answered info 0 (next + 1) started false (λ ticket. 0) (alone ∷ []) [] (change_of info request)
      (completed alone Done ∷ []) old now refl tt in_order (tt, tt) (Done, [], refl, leaves.0, refl) own_change
      (λ p s v i. old_maybe (change_of info request) sets p s v (within p s v i)) leaves.1 leaves.2 in
      (turn.sets, served Done turn.sets turn.answers, turn.within)
  serves_alone (Data bytes) old now within leaves =
      let turn =
      group_answered info 0 (next + 1) started false (λ ticket. 0) (alone ∷ []) [] (change_of info request)
      (completed alone (Data bytes) ∷ []) old now refl tt in_order (tt, tt) (Data bytes, [], refl, (leaves.0, leaves.1), refl)
      own_change (λ p s v i. old_maybe (change_of info request) sets p s v (within p s v i))
      (λ p s v i. in_as v (sym (read_changes_none info request p s (old p s) leaves.0)) (leaves.2 p s v i)) leaves.3 in
      (turn.sets, served (Data bytes) turn.sets turn.answers, turn.within)
  serves_alone (Failed cause) old now within leaves =
      let turn =
      refuses info 0 (next + 1) started false (λ ticket. 0) alone [] cause now refl in_order tt
      (λ profile. absurd (false≢true profile))
      (λ p s v i. maybe_within (change_of info request) old sets within p s v (leaves p s v i)) in
      (turn.sets, served (Failed cause) turn.sets turn.answers, turn.within)

pub request_alone : ServesAlone
request_alone info sets next request answer old now within leaves =
    serves_alone info sets next request answer old now within leaves
