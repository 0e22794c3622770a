-- A start of slots is one of the sector machine.
use Rattle.std.proofs.Common.{◌++◌, ◌<◌, ◌∙◌, ◌≡◌, ◌≤◌, ◌^◌, ◌∷◌, List, None, Option, Some, [], ap, filter, inl, inr, refl, subst, sym, ℕ}
use Rattle.std.specs.Prelude.{◌==◌, IfNone, IfSome, MatchOption}
use Rattle.mmc_card.specs.Sectors.{Sets}
use Rattle.mmc_queue.specs.Group.{IsFair, IsJoined}
use Rattle.mmc_queue.specs.Rule.{extent_of}
use Rattle.mmc_queue.specs.Waiting.{AreSound, IsSound}
use Rattle.mmc_queue.specs.declared.entry.Entry.{Entry}
use Rattle.mmc_queue.specs.declared.extent.Extent.{Extent}
use Rattle.mmc_requests.specs.declared.limits.TheConstants.{MAX_COUNT}
use Rattle.mmc_switch.specs.declared.info.Info.{Info}
use Rattle.mmc_block.specs.Entries.{waits_of}
use Rattle.mmc_block.specs.Groups.{AreInOrder}
use Rattle.mmc_block.specs.Machine.{Machine}
use Rattle.mmc_slots.specs.Slots.{AreOrdered, Memory, entries_in}
use Rattle.mmc_slots.specs.Started.{IsReady, StartsAlone, StartsGroup}
use Rattle.mmc_slots.specs.declared.slot.Slot.{Slot}
use Rattle.mmc_slots.specs.declared.slot.TheConstants.{ALONE, TOGETHER, WAITS}
use Rattle.mmc_turns.specs.Agrees.{Agrees}
use Rattle.mmc_turns.specs.Serving.{AsLong, HasStarted, StartAgrees, started}
use Rattle.mmc_turns.proofs.JoinedLemmas.{none_in, some_in}
use Rattle.mmc_turns.proofs.ServingLemmas.{all_sound, servable_as}

module _ (law : StartAgrees) (one_joined : (e : Entry) → IsSound e → IsJoined (e ∷ []) (extent_of e.request)) (most : ℕ) (old new : List Slot)
    (extent : Extent)
    (rule : (memory : Memory) (next : ℕ) → IsReady memory next old → StartsGroup memory most old new extent)
    (fair : (memory : Memory) (next : ℕ) → IsReady memory next old → AreSound (entries_in memory WAITS old) → most ≤ MAX_COUNT
    → IsFair (entries_in memory WAITS old) (entries_in memory TOGETHER new) extent (entries_in memory WAITS new))
    (alone : (memory : Memory) (e : Entry) (es : List Entry) → entries_in memory TOGETHER old ≡ []
    → entries_in memory ALONE old ≡ e ∷ es → StartsAlone memory e es old new extent)
    (ordered : (next : ℕ) → AreOrdered next old → AreOrdered next new)
    (info : Info) (memory : Memory) (next : ℕ) (card : Sets) (machine : Machine) (a : Agrees info memory old next card machine)
    (few : next < 2 ^ 64) (limit : most ≤ MAX_COUNT) (together : entries_in memory TOGETHER old ≡ []) where
  group_starts : entries_in memory ALONE old ≡ [] → HasStarted info memory new extent next card machine
  group_starts none =
      let ready : (after : Memory) → IsReady after next old = λ after. record {
        together = none_in memory after TOGETHER old together;
        alone = none_in memory after ALONE old none;
        ordered = a.ordered;
      } in
      let fairly = λ (after : Memory) (as_long : AsLong memory after).
      fair after next (ready after) (law.sound info memory after old next card machine a few as_long) limit in
      let starts =
      law.group info memory old new extent next card machine a together none (fairly memory (λ ticket. refl))
      (rule memory next (ready memory)).alone (ordered next a.ordered) in
      record {
        after = started machine (entries_in memory WAITS new) (entries_in memory TOGETHER new);
        turns = record {
          started = started machine (entries_in memory WAITS new) (entries_in memory TOGETHER new);
          start = inl starts.0;
          answers = record { completes = refl; ascend = tt };
        };
        agrees = starts.1;
        joined = λ after as_long. (fairly after as_long).joined;
      }

  alone_starts : (e : Entry) (es : List Entry) → entries_in memory ALONE old ≡ e ∷ es → HasStarted info memory new extent next card machine
  alone_starts e es some =
      let in_service : machine.in_service ≡ waits_of (entries_in memory ALONE old) =
      a.in_service ∙ ap (λ xs. waits_of xs ++ waits_of (entries_in memory ALONE old)) together in
      let order : AreInOrder 0 (waits_of (entries_in memory ALONE old)) next =
      subst (λ n. AreInOrder 0 (waits_of (entries_in memory ALONE old)) n) a.next_is
      (subst (λ ws. AreInOrder 0 ws machine.next) in_service a.served.in_order) in
      record {
        after = machine;
        turns = record {
          started = machine;
          start = inr (refl, λ idle. absurd (let none = sym (in_service ∙ ap waits_of some) ∙ idle in cc));
          answers = record { completes = refl; ascend = tt };
        };
        agrees = law.alone info memory e es old new extent next card machine a together some (alone memory e es together some)
            (ordered next a.ordered);
        joined = λ after as_long.
            let first = some_in memory after ALONE old e es some in
            let starts = alone after first.0 first.1 (none_in memory after TOGETHER old together) first.2 in
            let sound : AreSound (first.0 ∷ first.1) =
            subst AreSound first.2
            (all_sound info memory after as_long 0 next (filter (λ s. s.state == ALONE) old) few order
            (servable_as info memory after as_long ALONE old a.may_alone)) in
            subst (λ es. IsJoined es extent) (sym starts.together)
            (subst (IsJoined (first.0 ∷ [])) (sym starts.extent_is) (one_joined first.0 sound.0));
      }

  by_alone : (es : List Entry) → entries_in memory ALONE old ≡ es → HasStarted info memory new extent next card machine
  by_alone [] none = group_starts none
  by_alone (e ∷ es) some = alone_starts e es some

  pub has_started : HasStarted info memory new extent next card machine
  has_started = by_alone (entries_in memory ALONE old) refl

pub has_begun : StartAgrees → ((e : Entry) → IsSound e → IsJoined (e ∷ []) (extent_of e.request)) → (most : ℕ) (old new : List Slot)
    (result : Option Extent) → IfNone result (new ≡ old)
    → ((memory : Memory) (next : ℕ) → IsReady memory next old → IfSome result (StartsGroup memory most old new))
    → ((memory : Memory) (next : ℕ) → IsReady memory next old → AreSound (entries_in memory WAITS old) → most ≤ MAX_COUNT
    → IfSome result (λ extent. IsFair (entries_in memory WAITS old) (entries_in memory TOGETHER new) extent (entries_in memory WAITS new)))
    → ((memory : Memory) (e : Entry) (es : List Entry) → entries_in memory TOGETHER old ≡ [] → entries_in memory ALONE old ≡ e ∷ es
    → IfSome result (StartsAlone memory e es old new))
    → ((next : ℕ) → AreOrdered next old → AreOrdered next new)
    → (info : Info) (memory : Memory) (next : ℕ) (card : Sets) (machine : Machine) → Agrees info memory old next card machine
    → next < 2 ^ 64 → most ≤ MAX_COUNT → entries_in memory TOGETHER old ≡ []
    → MatchOption result (new ≡ old) (λ extent. HasStarted info memory new extent next card machine)
has_begun law one most old new None same rule fair alone ordered info memory next card machine a few limit together = same
has_begun law one most old new (Some extent) same rule fair alone ordered info memory next card machine a few limit together =
    has_started law one most old new extent rule fair alone ordered info memory next card machine a few limit together
