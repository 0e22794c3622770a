-- What it is to the sector machine that requests of slots go into service, and what became of them.
use Rattle.std.proofs.Common.{append-nil}
use Rattle.std.proofs.Common.{◌*◌, ◌++◌, ◌+◌, ◌<◌, ◌∙◌, ◌≡◌, ◌≤◌, ◌^◌, ◌∷◌, List, [], ap, arith, filter, inl, inr, length, map, refl, subst, sym, ℕ}
use Rattle.std.specs.Prelude.{◌==◌}
use Rattle.mmc_card.specs.Sectors.{Sets, Within}
use Rattle.mmc_card.specs.declared.part.Part.{Part}
use Rattle.mmc_queue.specs.Group.{IsJoined}
use Rattle.mmc_queue.specs.Waiting.{AreSound}
use Rattle.mmc_queue.specs.declared.entry.Entry.{Entry}
use Rattle.mmc_queue.specs.declared.group.Group.{Group}
use Rattle.mmc_requests.specs.declared.kind.Kind.{Kind}
use Rattle.mmc_requests.specs.declared.kind.Kind.TheVariants as to
use Rattle.mmc_switch.specs.declared.info.Info.{Info}
use Rattle.mmc_block.specs.Entries.{AreServable, IsServable, completion_of, waiting_of, waits_of}
use Rattle.mmc_block.specs.Groups.{AreAnswersOf, AreInOrder, IsChangeOf}
use Rattle.mmc_block.specs.Machine.{Machine, all_failed}
use Rattle.mmc_block.specs.Service.{AreServed, change_of_group}
use Rattle.mmc_block.specs.Together.{AnswersTogether, AreServedNow, EndsTogether, FailsAlone, FailsTogether, StartsTogether, with_service}
use Rattle.mmc_block.proofs.EntryLemmas.{length-waits_of, merged_servable, merged_waits}
use Rattle.mmc_block.proofs.GroupLemmas.{within_more}
use Rattle.mmc_block.proofs.ServeLemmas.{in_order-lower}
use Rattle.mmc_block.proofs.ServiceLemmas.{merged_in_order, served_rest}
use Rattle.mmc_block.proofs.SubmitLemmas.{first_below, sound_by}
use Rattle.mmc_slots.specs.Served.{IsAnswered}
use Rattle.mmc_slots.specs.Slots.{AreOrdered, Memory, entries_in, entry_of, request_by, room_by}
use Rattle.mmc_slots.specs.declared.slot.Slot.{Slot}
use Rattle.mmc_slots.specs.declared.slot.TheConstants.{ALONE, TOGETHER, WAITS}
use Rattle.mmc_turns.specs.Agrees.{Agrees}
use Rattle.mmc_turns.specs.Serving.{AsLong, EndAgrees, StartAgrees, group_of}

-- Whether a request can be served hangs on how long its memory is, and not on what lies there.

able_as : (info : Info) (kind : Kind) (part : Part) (start count : ℕ) (old new : List ℕ) → length new ≡ length old
    → IsServable info (request_by kind part start count old) (room_by kind old)
    → IsServable info (request_by kind part start count new) (room_by kind new)
able_as info to.Read part start count old new long able = record {
  some = able.some;
  few = able.few;
  exists = able.exists;
  in_range = able.in_range;
  writable = able.writable;
  brought = able.brought;
  erasable = able.erasable;
  room = long ∙ able.room;
}
able_as info to.Write part start count old new long able = record {
  some = able.some;
  few = able.few;
  exists = able.exists;
  in_range = able.in_range;
  writable = able.writable;
  brought = ap (λ n. n == 512 * count) long ∙ able.brought;
  erasable = able.erasable;
  room = able.room;
}
able_as info to.Erase part start count old new long able = able
able_as info to.Trim part start count old new long able = able

module _ (info : Info) (memory after : Memory) (as_long : AsLong memory after) where
  all_able : (slots : List Slot) → AreServable info (map (entry_of memory) slots) → AreServable info (map (entry_of after) slots)
  all_able [] able = tt
  all_able (s ∷ ss) able =
      (able_as info _ _ s.start s.count (memory s.ticket) (after s.ticket) (as_long s.ticket) able.0, all_able ss able.1)

  pub servable_as : (state : ℕ) (slots : List Slot) → AreServable info (entries_in memory state slots)
      → AreServable info (entries_in after state slots)
  servable_as state slots able = all_able (filter (λ s. s.state == state) slots) able

  -- with a ticket of 64 bits it is sound
  pub all_sound : (low next : ℕ) (slots : List Slot) → next < 2 ^ 64 → AreInOrder low (waits_of (map (entry_of memory) slots)) next
      → AreServable info (map (entry_of after) slots) → AreSound (map (entry_of after) slots)
  all_sound low next [] few order able = tt
  all_sound low next (s ∷ ss) few order able =
      let below = first_below (s.ticket + 1) (waits_of (map (entry_of memory) ss)) next order.1 in
      (sound_by info (entry_of after s) (omega (arith, few, below)) able.0, all_sound (s.ticket + 1) next ss few order.1 able.1)

  pub sound_as : (slots : List Slot) (next : ℕ) (card : Sets) (machine : Machine) → Agrees info memory slots next card machine
      → next < 2 ^ 64 → AreSound (entries_in after WAITS slots)
  sound_as slots next card machine a few =
      all_sound 0 next (filter (λ s. s.state == WAITS) slots) few
      (subst (λ n. AreInOrder 0 (waits_of (entries_in memory WAITS slots)) n) a.next_is
      (subst (λ ws. AreInOrder 0 ws machine.next) a.waits a.in_order)) (servable_as WAITS slots a.may_wait)

-- Starts.

module _ (law : StartsTogether) where
  pub start_agrees : StartAgrees
  start_agrees = record {
    sound = λ info memory after slots next card machine a few as_long.
        sound_as info memory after as_long slots next card machine a few;
    group = λ info memory old new extent next card machine a together alone fair none ordered.
        let waits : List Entry = entries_in memory WAITS old in
        let members : List Entry = entries_in memory TOGETHER new in
        let left : List Entry = entries_in memory WAITS new in
        let idle : machine.in_service ≡ [] =
        a.in_service ∙ ap (λ es. waits_of es ++ waits_of (entries_in memory ALONE old)) together ∙ ap waits_of alone in
        let order : AreInOrder 0 (waits_of waits) machine.next = subst (λ ws. AreInOrder 0 ws machine.next) a.waits a.in_order in
        let starts = law machine waits members left extent idle a.waits order fair in
        let merged = merged_waits fair.later fair.others left fair.parts in
        let rest : AreInOrder 0 (waiting_of fair.oldest ∷ waits_of fair.later) machine.next = rw fair.waits_are at order in
        let parts = merged_in_order (fair.oldest.ticket + 1) (waits_of fair.later) (waits_of fair.others) (waits_of left) machine.next
        merged rest.1 in
        let able : AreServable info (fair.oldest ∷ fair.later) = subst (AreServable info) fair.waits_are a.may_wait in
        let ables = merged_servable info fair.later fair.others left fair.parts able.1 in
        let all : waits_of members ≡ waits_of members ++ waits_of (entries_in memory ALONE new) =
        sym (append-nil (waits_of members)) ∙ sym (ap (λ es. waits_of members ++ waits_of es) none) in (
          starts.0,
          record {
            waits = refl;
            in_service = all;
            next_is = a.next_is;
            within = within_more info (waits_of members) card machine.sets
                (subst (λ ws. Within card (all_failed info ws machine.sets)) idle a.within);
            ordered = ordered;
            in_order = in_order-lower 0 (fair.oldest.ticket + 1) (waits_of left) machine.next (omega arith) parts.1;
            served = subst (λ ws. AreServed ws (waits_of left) machine.next) (append-nil (waits_of members)) starts.1.served;
            may_wait = ables.1;
            may_serve = subst (AreServable info) (sym fair.members_are) (able.0, ables.0);
            may_alone = subst (AreServable info) (sym none) tt;
            few = inr none;
          },
        );
    alone = λ info memory e es old new extent next card machine a together alone starts ordered.
        let able : AreServable info (e ∷ es) = subst (AreServable info) alone a.may_alone in
        record {
          waits = a.waits ∙ sym (ap waits_of starts.waits);
          in_service = a.in_service ∙ ap (λ xs. waits_of xs ++ waits_of (entries_in memory ALONE old)) together ∙ ap waits_of alone
              ∙ sym (ap (λ xs. waits_of xs ++ waits_of (entries_in memory ALONE new)) starts.together
              ∙ ap (λ xs. waiting_of e ∷ waits_of xs) starts.alone);
          next_is = a.next_is;
          within = a.within;
          ordered = ordered;
          in_order = a.in_order;
          served = a.served;
          may_wait = subst (AreServable info) (sym starts.waits) a.may_wait;
          may_serve = subst (AreServable info) (sym starts.together) (able.0, tt);
          may_alone = subst (AreServable info) (sym starts.alone) able.1;
          few = inl (subst (λ xs. length xs ≤ 1) (sym starts.together) (omega arith));
        };
  }

-- Ends.

served_now : (info : Info) (memory : Memory) (slots : List Slot) (next : ℕ) (card : Sets) (machine : Machine)
    → Agrees info memory slots next card machine → 0 < length (entries_in memory TOGETHER slots)
    → AreServedNow machine (waits_of (entries_in memory TOGETHER slots)) (waits_of (entries_in memory ALONE slots))
served_now info memory slots next card machine a some =
    let long = length-waits_of (entries_in memory TOGETHER slots) in
    record {
      some = omega (arith, long, some);
      in_service = a.in_service;
      served = subst (λ ws. AreServed ws machine.waits machine.next) a.in_service a.served;
    }

-- those that were in service have left
left_agrees : (info : Info) (memory : Memory) (old new : List Slot) (next : ℕ) (was now sets : Sets) (machine : Machine)
    → Agrees info memory old next was machine → IsAnswered memory old new → AreOrdered next new
    → Within now (all_failed info (waits_of (entries_in memory ALONE old)) sets)
    → Agrees info memory new next now (with_service machine sets (waits_of (entries_in memory ALONE old)))
left_agrees info memory old new next was now sets machine a answered ordered within = record {
  waits = a.waits ∙ sym (ap waits_of answered.waits);
  in_service = sym (ap (λ es. waits_of es ++ waits_of (entries_in memory ALONE new)) answered.none ∙ ap waits_of answered.alone);
  next_is = a.next_is;
  within = within;
  ordered = ordered;
  in_order = a.in_order;
  served = served_rest (waits_of (entries_in memory TOGETHER old)) (waits_of (entries_in memory ALONE old)) machine.waits machine.next
      (subst (λ ws. AreServed ws machine.waits machine.next) a.in_service a.served);
  may_wait = subst (AreServable info) (sym answered.waits) a.may_wait;
  may_serve = subst (AreServable info) (sym answered.none) tt;
  may_alone = subst (AreServable info) (sym answered.alone) a.may_alone;
  few = inl (subst (λ es. length es ≤ 1) (sym answered.none) (omega arith));
}

-- the card holds something else
agrees_now : (info : Info) (memory : Memory) (slots : List Slot) (next : ℕ) (was now : Sets) (machine : Machine)
    → Agrees info memory slots next was machine → Within now (all_failed info machine.in_service machine.sets)
    → Agrees info memory slots next now machine
agrees_now info memory slots next was now machine a within = record {
  waits = a.waits;
  in_service = a.in_service;
  next_is = a.next_is;
  within = within;
  ordered = a.ordered;
  in_order = a.in_order;
  served = a.served;
  may_wait = a.may_wait;
  may_serve = a.may_serve;
  may_alone = a.may_alone;
  few = a.few;
}

module _ (answers : AnswersTogether) (ends : EndsTogether) (fails : FailsTogether) (fails_alone : FailsAlone)
    (changes : (info : Info) (group : Group) → IsJoined group.members.items group.extent
    → IsChangeOf info (waits_of group.members.items) (change_of_group info group)) where
  pub end_agrees : EndAgrees
  end_agrees = record {
    done = λ info memory after old new extent next was now machine a joined as_long same changed decided read answered ordered.
        let group : Group = group_of (entries_in memory TOGETHER old) extent in
        let given : Group = group_of (entries_in after TOGETHER old) extent in
        let own = joined memory (λ ticket. refl) in
        let told : AreAnswersOf now (waits_of (entries_in memory TOGETHER old)) (map completion_of (entries_in after TOGETHER old)) =
        subst (λ ws. AreAnswersOf now ws (map completion_of (entries_in after TOGETHER old))) same
        (answers info now given (joined after as_long) (servable_as info memory after as_long TOGETHER old a.may_serve) read) in
        let end =
        ends info machine (waits_of (entries_in memory TOGETHER old)) (waits_of (entries_in memory ALONE old))
        (change_of_group info group) (map completion_of (entries_in after TOGETHER old)) was now
        (served_now info memory old next was machine a own.some) (changes info group own) told a.within changed decided in
        record {
          after = with_service machine end.sets (waits_of (entries_in memory ALONE old));
          turns = end.turns;
          agrees = left_agrees info memory old new next was now end.sets machine a answered ordered end.within;
        };
    failed = λ info memory slots extent next was now machine a joined maybe.
        let group : Group = group_of (entries_in memory TOGETHER slots) extent in
        let own = joined memory (λ ticket. refl) in
        agrees_now info memory slots next was now machine a
        (fails info machine (waits_of (entries_in memory TOGETHER slots)) (waits_of (entries_in memory ALONE slots))
        (change_of_group info group) was now (served_now info memory slots next was machine a own.some) (changes info group own) a.within maybe);
    fails = λ info memory e cause old new next now machine a is answered ordered.
        let some : AreServedNow machine (waiting_of e ∷ []) (waits_of (entries_in memory ALONE old)) =
        subst (λ es. AreServedNow machine (waits_of es) (waits_of (entries_in memory ALONE old))) is
        (served_now info memory old next now machine a (subst (λ es. 0 < length es) (sym is) (omega arith))) in
        let end = fails_alone info machine (waiting_of e) (waits_of (entries_in memory ALONE old)) cause now some a.within in
        record {
          after = with_service machine end.sets (waits_of (entries_in memory ALONE old));
          turns = end.turns;
          agrees = left_agrees info memory old new next now now end.sets machine a answered ordered end.within;
        };
    split = λ info memory old new next now machine a none split ordered. record {
      waits = a.waits ∙ sym (ap waits_of split.waits);
      in_service = a.in_service ∙ ap (λ es. waits_of (entries_in memory TOGETHER old) ++ waits_of es) none
          ∙ append-nil (waits_of (entries_in memory TOGETHER old))
          ∙ sym (ap (λ es. waits_of es ++ waits_of (entries_in memory ALONE new)) split.none ∙ ap waits_of split.alone);
      next_is = a.next_is;
      within = a.within;
      ordered = ordered;
      in_order = a.in_order;
      served = a.served;
      may_wait = subst (AreServable info) (sym split.waits) a.may_wait;
      may_serve = subst (AreServable info) (sym split.none) tt;
      may_alone = subst (AreServable info) (sym split.alone) a.may_serve;
      few = inl (subst (λ es. length es ≤ 1) (sym split.none) (omega arith));
    };
  }
