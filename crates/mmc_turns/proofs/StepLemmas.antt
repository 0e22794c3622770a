-- What calls on slots are to the sector machine.
use Rattle.std.proofs.Common.{◌*◌, ◌++◌, ◌+◌, ◌∙◌, ◌≡◌, ◌≤◌, ◌∷◌, ◌⊎◌, List, None, [], ap, arith, inl, inr, length, refl, subst, sym, true, ℕ}
use Rattle.std.specs.Prelude.{◌==◌}
use Rattle.std.proofs.lemmas.List.{map-append}
use Rattle.mmc_queue.specs.declared.entry.Entry.{Entry}
use Rattle.mmc_requests.specs.Kinds.{moves_blocks}
use Rattle.mmc_requests.specs.RefusalLaws.{AreThere, MayChange, are_there, may_change, neither}
use Rattle.mmc_requests.specs.declared.asked.Asked.{Asked}
use Rattle.mmc_requests.specs.declared.kind.Kind.{Kind}
use Rattle.mmc_requests.specs.declared.kind.Kind.TheVariants as to
use Rattle.mmc_requests.specs.declared.limits.TheConstants.{MAX_COUNT}
use Rattle.mmc_switch.specs.declared.info.Info.{Info}
use Rattle.mmc_block.specs.Entries.{AreServable, IsServable, waiting_of, waits_of}
use Rattle.mmc_block.specs.Groups.{AreInOrder, PassNone}
use Rattle.mmc_block.specs.Machine.{IsTicketOf, Machine, Waiting}
use Rattle.mmc_block.specs.Service.{AreServed}
use Rattle.mmc_block.proofs.CancelLemmas.{in_order-without, pass-without, servable-without, ticket-left, ticket-none, ticket-right}
use Rattle.mmc_block.proofs.DeviceLemmas.{AreServable-push}
use Rattle.mmc_block.proofs.SubmitLemmas.{in_order-next, in_order-push, pass-push}
use Rattle.mmc_slots.specs.Accepted.{entry_with, refusal}
use Rattle.mmc_slots.specs.Slots.{Memory, entries_in, entry_of, request_by, room_by}
use Rattle.mmc_slots.specs.declared.slot.TheConstants.{ALONE, TOGETHER, WAITS}
use Rattle.mmc_turns.specs.Agrees.{Fits, lent_more}
use Rattle.mmc_turns.specs.Steps.{CancellationAgrees, SubmissionAgrees}
use Rattle.mmc_turns.proofs.LentLemmas.{same_lent}
use Rattle.mmc_turns.proofs.TicketLemmas.{has_none, is_served}

-- A request that isn't refused can be served.

module _ (info : Info) (asked : Asked) (bytes : List ℕ) (fits : Fits asked bytes)
    (there : AreThere MAX_COUNT asked.kind info asked.part asked.start asked.count)
    (may : MayChange asked.kind info asked.part asked.start asked.count) where
  abbrev Servable : Kind → Type 0
  Servable kind = IsServable info (request_by kind asked.part asked.start asked.count bytes) (room_by kind bytes)

  long : (kind : Kind) → asked.kind ≡ kind → moves_blocks kind ≡ true → length bytes ≡ 512 * asked.count
  long kind is moves = fits (ap moves_blocks is ∙ moves)

  servable_by : (kind : Kind) → asked.kind ≡ kind → Servable kind
  servable_by to.Read is = record {
    some = there.some;
    few = λ moves. there.few (ap moves_blocks is ∙ moves);
    exists = there.exists;
    in_range = there.inside;
    writable = λ other. absurd cc;
    brought = refl;
    erasable = λ how same. may.erasable how (is ∙ same);
    room = long to.Read is refl;
  }
  servable_by to.Write is = record {
    some = there.some;
    few = λ moves. there.few (ap moves_blocks is ∙ moves);
    exists = there.exists;
    in_range = there.inside;
    writable = λ other. may.writable (rw is refl);
    brought = let all = long to.Write is refl in grind arith;
    erasable = λ how same. may.erasable how (is ∙ same);
    room = refl;
  }
  servable_by to.Erase is = record {
    some = there.some;
    few = λ moves. there.few (ap moves_blocks is ∙ moves);
    exists = there.exists;
    in_range = there.inside;
    writable = λ other. may.writable (rw is refl);
    brought = refl;
    erasable = λ how same. may.erasable how (is ∙ same);
    room = refl;
  }
  servable_by to.Trim is = record {
    some = there.some;
    few = λ moves. there.few (ap moves_blocks is ∙ moves);
    exists = there.exists;
    in_range = there.inside;
    writable = λ other. may.writable (rw is refl);
    brought = refl;
    erasable = λ how same. may.erasable how (is ∙ same);
    room = refl;
  }

can_be_served : (info : Info) (asked : Asked) (bytes : List ℕ) → Fits asked bytes → refusal info asked ≡ None
    → IsServable info (request_by asked.kind asked.part asked.start asked.count bytes) (room_by asked.kind bytes)
can_be_served info asked bytes fits none =
    let both = neither _ _ none in
    servable_by info asked bytes fits (are_there MAX_COUNT asked.kind info asked.part asked.start asked.count both.0)
    (may_change asked.kind info asked.part asked.start asked.count both.1) asked.kind refl

-- Submissions.

served_more : (in_service waits : List Waiting) (w : Waiting) → AreServed in_service waits w.ticket
    → AreServed in_service (waits ++ w ∷ []) (w.ticket + 1)
served_more in_service waits w served = record {
  one_kind = served.one_kind;
  in_order = in_order-next 0 in_service w.ticket served.in_order;
  passes_none = pass-push 0 in_service waits w served.in_order served.passes_none;
}

own_bytes : (memory : Memory) (next : ℕ) (bytes : List ℕ) → lent_more memory next bytes next ≡ bytes
own_bytes memory next bytes = let same : (next == next) ≡ true = grind arith in rw same refl

pub submission : SubmissionAgrees
submission info memory bytes client asked old new next card machine a fits none waits others ordered =
    let lent : Memory = lent_more memory next bytes in
    let e : Entry = entry_with lent client asked next in
    let w : Waiting = waiting_of e in
    let wait : entries_in lent WAITS new ≡ entries_in memory WAITS old ++ e ∷ [] =
    waits lent ∙ ap (λ es. es ++ e ∷ []) (same_lent memory next bytes WAITS old (λ h. cc) a.ordered) in
    let serve : entries_in lent TOGETHER new ≡ entries_in memory TOGETHER old =
    others lent TOGETHER (λ h. cc) (λ h. cc) ∙ same_lent memory next bytes TOGETHER old (λ h. cc) a.ordered in
    let alone : entries_in lent ALONE new ≡ entries_in memory ALONE old =
    others lent ALONE (λ h. cc) (λ h. cc) ∙ same_lent memory next bytes ALONE old (λ h. cc) a.ordered in
    let able : IsServable info e.request e.buffer =
    subst (λ (b : List ℕ). IsServable info (request_by asked.kind asked.part asked.start asked.count b) (room_by asked.kind b))
    (sym (own_bytes memory next bytes)) (can_be_served info asked bytes fits none) in
    record {
      waits = ap (λ ws. ws ++ w ∷ []) a.waits ∙ sym (ap waits_of wait ∙ map-append waiting_of (entries_in memory WAITS old) (e ∷ []));
      in_service = a.in_service ∙ sym (ap (λ es. waits_of es ++ waits_of (entries_in lent ALONE new)) serve
          ∙ ap (λ es. waits_of (entries_in memory TOGETHER old) ++ waits_of es) alone);
      next_is = ap (λ n. n + 1) a.next_is;
      within = a.within;
      ordered = ordered;
      in_order = subst (λ n. AreInOrder 0 (machine.waits ++ w ∷ []) (n + 1)) (sym a.next_is)
          (in_order-push 0 machine.waits w (subst (λ n. AreInOrder 0 machine.waits n) a.next_is a.in_order));
      served = subst (λ n. AreServed machine.in_service (machine.waits ++ w ∷ []) (n + 1)) (sym a.next_is)
          (served_more machine.in_service machine.waits w (subst (λ n. AreServed machine.in_service machine.waits n) a.next_is a.served));
      may_wait = subst (AreServable info) (sym wait) (AreServable-push info (entries_in memory WAITS old) e a.may_wait able);
      may_serve = subst (AreServable info) (sym serve) a.may_serve;
      may_alone = subst (AreServable info) (sym alone) a.may_alone;
      few = subst (λ es. (length es ≤ 1) ⊎ (entries_in lent ALONE new ≡ [])) (sym serve)
          (subst (λ es. (length (entries_in memory TOGETHER old) ≤ 1) ⊎ (es ≡ [])) (sym alone) a.few);
    }

-- Cancellations.

pub cancellation : CancellationAgrees
cancellation = record {
  gives_back = λ info memory s old new next card machine a takes others ordered.
      let e : Entry = entry_of memory s in
      let before : List Entry = takes.0 in
      let after : List Entry = takes.1 in
      let was : machine.waits ≡ waits_of before ++ waiting_of e ∷ waits_of after =
      a.waits ∙ ap waits_of takes.2 ∙ map-append waiting_of before (e ∷ after) in
      let is : waits_of (entries_in memory WAITS new) ≡ waits_of before ++ waits_of after =
      ap waits_of takes.3 ∙ map-append waiting_of before after in
      let serve = others memory TOGETHER (λ h. cc) (λ h. cc) in
      let alone = others memory ALONE (λ h. cc) (λ h. cc) in (
        record {
          before = waits_of before;
          w = waiting_of e;
          after = waits_of after;
          waited = was;
          ticket_is = refl;
          request_is = refl;
          leaves = ap (λ ws. let m : Machine = record machine { waits = ws } in m) is;
        },
        record {
          waits = refl;
          in_service = a.in_service ∙ sym (ap (λ es. waits_of es ++ waits_of (entries_in memory ALONE new)) serve
              ∙ ap (λ es. waits_of (entries_in memory TOGETHER old) ++ waits_of es) alone);
          next_is = a.next_is;
          within = a.within;
          ordered = ordered;
          in_order = subst (λ ws. AreInOrder 0 ws machine.next) (sym is)
              (in_order-without 0 (waits_of before) (waits_of after) (waiting_of e) machine.next
              (subst (λ ws. AreInOrder 0 ws machine.next) was a.in_order));
          served = record {
            one_kind = a.served.one_kind;
            in_order = a.served.in_order;
            passes_none = subst (λ ws. PassNone machine.in_service ws) (sym is)
                (pass-without machine.in_service (waits_of before) (waits_of after) (waiting_of e)
                (subst (λ ws. PassNone machine.in_service ws) was a.served.passes_none));
          };
          may_wait = subst (AreServable info) (sym takes.3)
              (servable-without info before after e (subst (AreServable info) takes.2 a.may_wait));
          may_serve = subst (AreServable info) (sym serve) a.may_serve;
          may_alone = subst (AreServable info) (sym alone) a.may_alone;
          few = subst (λ es. (length es ≤ 1) ⊎ (entries_in memory ALONE new ≡ [])) (sym serve)
              (subst (λ es. (length (entries_in memory TOGETHER old) ≤ 1) ⊎ (es ≡ [])) (sym alone) a.few);
        },
      );
  in_service = λ info memory slots ticket next card machine a why.
      subst (IsTicketOf ticket) (sym a.in_service)
      (elim (is_served memory ticket slots why) [
        | inl has ↦ ticket-left ticket (waits_of (entries_in memory TOGETHER slots)) (waits_of (entries_in memory ALONE slots)) has
        | inr has ↦ ticket-right ticket (waits_of (entries_in memory TOGETHER slots)) (waits_of (entries_in memory ALONE slots)) has
      ]);
  unknown = λ info memory slots ticket next card machine a why. (
    (λ has. ticket-none ticket (waits_of (entries_in memory TOGETHER slots)) (waits_of (entries_in memory ALONE slots))
        (has_none memory TOGETHER ticket slots (λ s is. rw is refl) why) (has_none memory ALONE ticket slots (λ s is. rw is refl) why)
        (subst (IsTicketOf ticket) a.in_service has)),
    λ has. has_none memory WAITS ticket slots (λ s is. rw is refl) why (subst (IsTicketOf ticket) a.waits has),
  );
}
