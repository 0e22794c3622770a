-- Turns one after the other.
use Rattle.std.proofs.Common.{◌*◌, ◌+◌, ◌++◌, ◌∙◌, ◌∷◌, ◌≡◌, ◌≤◌, List, [], ap, arith, append_assoc, append-nil, cond, length, length-append}
use Rattle.std.proofs.Common.{inl, inr, refl, suc, subst, sym, true, zero, zero-add, ℕ}
use Rattle.std.proofs.lemmas.List.{replicate-append-replicate}
use Rattle.std.proofs.lemmas.List.Sums.{sum_by-append}
use Rattle.std.specs.Prelude.{◌&&◌, ◌==◌, replicate}
use Rattle.mmc_card.specs.BusView.{BusView}
use Rattle.mmc_bus.proofs.WorkLemmas.{stays_same, stays_then}
use Rattle.mmc_transfer.specs.declared.pace.Pace.{Pace}
use Rattle.mmc_recovery.specs.declared.settling.TheConstants.{EXCHANGES_OF_A_SETTLE}
use Rattle.mmc_switch.specs.declared.info.Info.{Info}
use Rattle.mmc_block.specs.declared.completion.Completion.{Completion}
use Rattle.mmc_block.specs.Any.{Answers, AreFor}
use Rattle.mmc_block.specs.Device.{Comes, DeviceView, unanswered_of, work_of}
use Rattle.mmc_block.specs.Execution.{Counted, CountedSteps, IsCountedExecution, Reply}
use Rattle.mmc_block.specs.Execution.Event.{Turn}
use Rattle.mmc_block.specs.Execution.Reply.{Answers as Gives}
use Rattle.mmc_block.specs.Healing.{OnlyAdds}
use Rattle.mmc_block.specs.InOrder.{answers, answers_in}
use Rattle.mmc_block.specs.Machine.{IsMerged, Waiting}
use Rattle.mmc_block.specs.Run.{AreEachAnswered, TakesTurns, answered_to, asked_by}
use Rattle.mmc_block.specs.Service.{in_service_of}
use Rattle.mmc_block.specs.Turn.{IsTurn}
use Rattle.mmc_block.proofs.ExecutionLemmas.{follow_then}
use Rattle.mmc_block.proofs.HealingLemmas.{adds_none, adds_then, turn_adds}

-- Who is answered.

module _ (client ticket : ℕ) where
  asked_append : (ws vs : List Waiting)
      → asked_by client ticket (ws ++ vs) ≡ asked_by client ticket ws + asked_by client ticket vs
  asked_append ws vs = sum_by-append (λ (w : Waiting). cond ((w.client == client) && (w.ticket == ticket)) 1 0) ws vs

  answered_append : (cs ds : List Completion)
      → answered_to client ticket (cs ++ ds) ≡ answered_to client ticket cs + answered_to client ticket ds
  answered_append cs ds =
      sum_by-append (λ (c : Completion). cond ((c.client == client) && (c.ticket == ticket)) 1 0) cs ds

  asked_one : (w : Waiting) (ws : List Waiting)
      → asked_by client ticket (w ∷ ws) ≡ cond ((w.client == client) && (w.ticket == ticket)) 1 0 + asked_by client ticket ws
  asked_one w ws =
      asked_append (w ∷ []) ws
      ∙ ap (λ n. n + asked_by client ticket ws) (zero-add (cond ((w.client == client) && (w.ticket == ticket)) 1 0))

  answered_one : (c : Completion) (cs : List Completion)
      → answered_to client ticket (c ∷ cs)
      ≡ cond ((c.client == client) && (c.ticket == ticket)) 1 0 + answered_to client ticket cs
  answered_one c cs =
      answered_append (c ∷ []) cs
      ∙ ap (λ n. n + answered_to client ticket cs) (zero-add (cond ((c.client == client) && (c.ticket == ticket)) 1 0))

  -- answers to these are as many under each ticket
  asked_for : (ws : List Waiting) (cs : List Completion) → AreFor ws cs
      → answered_to client ticket cs ≡ asked_by client ticket ws
  asked_for [] cs a = ap (answered_to client ticket) a
  asked_for (w ∷ ws) cs a =
      let first : Completion = record { ticket = w.ticket; client = w.client; answer = a.0 } in
      ap (answered_to client ticket) a.2
      ∙ answered_one first a.1
      ∙ ap (λ n. cond ((w.client == client) && (w.ticket == ticket)) 1 0 + n) (asked_for ws a.1 a.4)
      ∙ sym (asked_one w ws)

  asked_merged : (zs xs ys : List Waiting) → IsMerged zs xs ys
      → asked_by client ticket zs ≡ asked_by client ticket xs + asked_by client ticket ys
  asked_merged [] xs ys m = rw (m.0, m.1) refl
  asked_merged (z ∷ zs) xs ys (inl m) =
      let one = asked_one z zs in
      let more : asked_by client ticket xs ≡ cond ((z.client == client) && (z.ticket == ticket)) 1 0 + asked_by client ticket m.0
      = ap (asked_by client ticket) m.1 ∙ asked_one z m.0 in
      let rest = asked_merged zs m.0 ys m.2 in
      omega (arith, one, more, rest)
  asked_merged (z ∷ zs) xs ys (inr m) =
      let one = asked_one z zs in
      let more : asked_by client ticket ys ≡ cond ((z.client == client) && (z.ticket == ticket)) 1 0 + asked_by client ticket m.0
      = ap (asked_by client ticket) m.1 ∙ asked_one z m.0 in
      let rest = asked_merged zs xs m.0 m.2 in
      omega (arith, one, more, rest)

  -- a turn answers some of those that had no answer, each once
  asked_turn : (waits served : List Waiting) (cs : List Completion) (waits' served' : List Waiting)
      → Answers waits served cs waits' served'
      → answered_to client ticket cs + asked_by client ticket (waits' ++ served')
      ≡ asked_by client ticket (waits ++ served)
  asked_turn waits served cs waits' served' a =
      let now = asked_append waits' served' in
      let was = asked_append waits served in
      let n = asked_for a.answered cs a.named in
      let k : asked_by client ticket a.started ≡ asked_by client ticket a.answered + asked_by client ticket served' =
      ap (asked_by client ticket) a.served ∙ asked_append a.answered served' in
      elim a.start [
        | inl s ↦ (
            let p : asked_by client ticket a.started ≡ asked_by client ticket served = ap (asked_by client ticket) s.0 in
            let q : asked_by client ticket waits' ≡ asked_by client ticket waits = ap (asked_by client ticket) s.1 in
            omega (arith, now, was, n, k, p, q)
            )
        | inr s ↦ (
            let p = asked_merged waits a.started waits' s.1 in
            let q : asked_by client ticket served ≡ 0 = ap (asked_by client ticket) s.0 in
            omega (arith, now, was, n, k, p, q)
            )
      ]

-- What the machine does.

answers_append : (rs ss : List Reply) → answers (rs ++ ss) ≡ answers rs ++ answers ss
answers_append [] ss = refl
answers_append (r ∷ rs) ss =
    ap (λ cs. answers_in r ++ cs) (answers_append rs ss) ∙ sym (append_assoc (answers_in r) (answers rs) (answers ss))

takes_none : (info : Info) (c : Counted) → TakesTurns info c [] c
takes_none info c = record { turns = 0; replies = []; executed = refl; given = refl }

takes_one_more : (info : Info) (old mid new : Counted) (given cs : List Completion) → TakesTurns info old given mid
    → CountedSteps info mid Turn (Gives cs) new → TakesTurns info old (given ++ cs) new
takes_one_more info old mid new given cs t step = record {
  turns = t.turns + 1;
  replies = t.replies ++ Gives cs ∷ [];
  executed = subst (λ es. IsCountedExecution info old es (t.replies ++ Gives cs ∷ []) new)
      (replicate-append-replicate t.turns 1 Turn)
      (follow_then (CountedSteps info) old (replicate t.turns Turn) t.replies mid (Turn ∷ []) (Gives cs ∷ []) new
      t.executed (new, step, refl));
  given = answers_append t.replies (Gives cs ∷ []) ∙ ap (λ ds. ds ++ (cs ++ [])) t.given
      ∙ ap (λ ds. given ++ ds) (append-nil cs);
}

-- What some turns have done of a device: these answers so far.
pub record TurnsSoFar {B : Type 0} (view : B → BusView) (start now : DeviceView B) (completions : List Completion) : Type 0 where
  pub comes : (view now.bus).is_kept ≡ true
      → Comes view start (λ (c n : Counted). TakesTurns start.info c completions n) now
  pub kept : (view now.bus).is_kept ≡ true → (view start.bus).is_kept ≡ true
  pub each : (client ticket : ℕ)
      → answered_to client ticket completions + asked_by client ticket (now.waits ++ in_service_of now.service)
      ≡ asked_by client ticket (start.waits ++ in_service_of start.service)
  pub counted : length completions + unanswered_of now ≡ unanswered_of start
  pub info : now.info ≡ start.info
  pub next : now.next ≡ start.next
  pub bounded : (view now.bus).exchanges + EXCHANGES_OF_A_SETTLE * work_of now
      ≤ (view start.bus).exchanges + EXCHANGES_OF_A_SETTLE * work_of start
  pub healed : OnlyAdds start.healed now.healed

pub turns_none : {B : Type 0} (view : B → BusView) (start : DeviceView B) → TurnsSoFar view start start []
turns_none view start = record {
  comes = λ kept c agrees.
      (stays_same (view start.bus) (view start.bus).lines, (c, takes_none start.info c, agrees));
  kept = λ kept. kept;
  each = λ client ticket. omega arith;
  counted = omega arith;
  info = refl;
  next = refl;
  bounded = omega arith;
  healed = adds_none start.healed;
}

module _ {B : Type 0} (view : B → BusView) (pace : Pace) (old : DeviceView B) (cs : List Completion) (new : DeviceView B) where
  -- a turn for which nothing was without an answer changes nothing
  turn_heals : IsTurn view pace old cs new → (n : ℕ) → unanswered_of old ≡ n → OnlyAdds old.healed new.healed
  turn_heals turn zero none = ([], ap (λ (d : DeviceView B). d.healed) (turn.idle none))
  turn_heals turn (suc n) some = turn_adds view old cs new (turn.healed (omega (arith, some)))

pub turns_then : {B : Type 0} (view : B → BusView) (pace : Pace) (start mid now : DeviceView B) (given cs : List Completion)
    → TurnsSoFar view start mid given → IsTurn view pace mid cs now → TurnsSoFar view start now (given ++ cs)
turns_then view pace start mid now given cs so_far turn = record {
  comes = λ kept c agrees.
      let first = so_far.comes (turn.kept kept) c agrees in
      let (between, taken, agrees_between) = first.1 in
      let second = turn.machine kept between agrees_between in
      let (last, step, agrees_last) = second.1 in (
        stays_then (view start.bus) (view mid.bus) (view now.bus) first.0 second.0,
        (
          last,
          takes_one_more start.info c between last given cs taken
              (subst (λ i. CountedSteps i between Turn (Gives cs) last) so_far.info step),
          agrees_last,
        ),
      );
  kept = λ kept. so_far.kept (turn.kept kept);
  each = λ client ticket.
      let before = so_far.each client ticket in
      let now_asked = asked_turn client ticket mid.waits (in_service_of mid.service) cs now.waits (in_service_of now.service)
      turn.answers in
      let together = answered_append client ticket given cs in
      omega (arith, before, now_asked, together);
  counted = let n = so_far.counted in let m = turn.leaves in let k = length-append given cs in omega (arith, n, m, k);
  info = turn.same.0 ∙ so_far.info;
  next = turn.same.1 ∙ so_far.next;
  bounded = let n = so_far.bounded in let m = turn.paid in omega (arith, n, m);
  healed = adds_then start.healed mid.healed now.healed so_far.healed (turn_heals view pace mid cs now turn (unanswered_of mid) refl);
}

asked_none : (client ticket : ℕ) (ws : List Waiting) → length ws ≡ 0 → asked_by client ticket ws ≡ 0
asked_none client ticket [] none = refl
asked_none client ticket (w ∷ ws) none = absurd (omega (arith, none))

-- once no request is without an answer each has one
pub each_answered : {B : Type 0} (view : B → BusView) (start now : DeviceView B) (completions : List Completion)
    → TurnsSoFar view start now completions → unanswered_of now ≡ 0
    → AreEachAnswered (start.waits ++ in_service_of start.service) completions
each_answered view start now completions so_far none client ticket =
    let each = so_far.each client ticket in
    let long = length-append now.waits (in_service_of now.service) in
    let nobody = asked_none client ticket (now.waits ++ in_service_of now.service) (omega (arith, long, none)) in
    omega (arith, each, nobody)
