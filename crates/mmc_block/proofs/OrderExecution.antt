-- In order: over a run.
use Rattle.std.proofs.Common.{◌*◌, ◌+◌, ◌++◌, ◌<◌, ◌∙◌, ◌∷◌, ◌≡◌, ◌⊎◌, Bool, List, None, Option, Some, [], ap}
use Rattle.std.proofs.Common.{append_assoc, arith, cond, false, inl, inr, length, refl, subst, sym, true, ℕ}
use Rattle.std.specs.Prelude.{◌==◌, slice_index_or}
use Rattle.std.proofs.lemmas.Bool.{eq-eqb, ne_eqb}
use Rattle.std.proofs.lemmas.List.{append-nil}
use Rattle.mmc_card.specs.declared.part.Part.{Part}
use Rattle.mmc_card.specs.Sectors.{IsIn, Sector, Sets, Within}
use Rattle.mmc_block.specs.declared.completion.Answer.{Answer}
use Rattle.mmc_block.specs.declared.completion.Answer.TheVariants.{Data, Done, Failed}
use Rattle.mmc_block.specs.declared.completion.Completion.{Completion}
use Rattle.mmc_switch.specs.declared.info.Info.{Info}
use Rattle.mmc_queue.specs.declared.request.Request.{Request}
use Rattle.mmc_block.specs.InOrder.{AreDecided, AreOrdered, Choices, EndsInOrder, IsInOrder, MayHold, answer_to}
use Rattle.mmc_block.specs.InOrder.{answers, answers_in, below, effect_at, first_value, history, in_turn, submitted}
use Rattle.mmc_block.specs.InOrder.{submitted_by}
use Rattle.mmc_block.specs.Machine.{Accepts, Completes, CompletesAll, GivesBack, IsAmong, IsAnswered, Machine, StartsIfIdle}
use Rattle.mmc_block.specs.Machine.{Turns, Waiting}
use Rattle.mmc_queue.specs.Requests.{count_of, part_of, start_of}
use Rattle.mmc_block.specs.Execution.{Event, Reply, IsExecution, Steps}
use Rattle.mmc_block.specs.Execution.Event.{Cancel, Submit, Turn}
use Rattle.mmc_block.specs.Execution.Reply.{Accepted, Answers, GivenBack, InService, RefusedFor, Unknown}
use Rattle.mmc_block.proofs.MachineLemmas.{start_keeps}
use Rattle.mmc_block.proofs.OrderBooks.{Books, completed_books, completed_pended, given_books, queued, queued_books}
use Rattle.mmc_block.proofs.OrderBooks.{start_books}
use Rattle.mmc_block.proofs.OrderLemmas.{among_front, among_last, below_yes, one_ticket, turn_same}
use Rattle.mmc_block.proofs.OrderSectors.{Explained, ReadsRight, completed_explained, queued_explained, whole}
use Rattle.mmc_block.proofs.TicketLemmas.{accepted_held, held, one}

-- Answers.

same_first : (b : Bool) (x y z : Option Answer) → y ≡ z → cond b x y ≡ cond b x z
same_first b x y z e = ap (cond b x) e

answer_other : (cs : List Completion) (c : Completion) (t : ℕ) → (t ≡ c.ticket → ⊥) → answer_to (cs ++ c ∷ []) t
    ≡ answer_to cs t
answer_other [] c t n = ap (λ b. cond b (Some c.answer) None) (ne_eqb c.ticket t (λ e. n (sym e)))
answer_other (x ∷ xs) c t n = same_first (x.ticket == t) (Some x.answer) _ _ (answer_other xs c t n)

first_none : (b : Bool) (x : Answer) (y : Option Answer) → cond b (Some x) y ≡ None → (b ≡ false) × (y ≡ None)
first_none true x y e = absurd cc
first_none false x y e = (refl, e)

answer_last : (cs : List Completion) (c : Completion) → answer_to cs c.ticket ≡ None → answer_to (cs ++ c ∷ []) c.ticket
    ≡ Some c.answer
answer_last [] c none = ap (λ b. cond b (Some c.answer) None) (eq-eqb c.ticket c.ticket refl)
answer_last (x ∷ xs) c none =
    let h = first_none (x.ticket == c.ticket) x.answer (answer_to xs c.ticket) none in
    ap (λ b. cond b (Some x.answer) (answer_to (xs ++ c ∷ []) c.ticket)) h.0 ∙ answer_last xs c h.1

-- data are 512 bytes for each sector
abbrev pub IsWhole : Request → Answer → Type 0
IsWhole request Done = Unit {0}
IsWhole request (Data bytes) = length bytes ≡ 512 * count_of request
IsWhole request (Failed cause) = Unit {0}

answered_whole : (info : Info) (request : Request) (others : List Waiting) (old : Sets) (answer : Answer) (new : Sets)
    → IsAnswered info request others old answer new → IsWhole request answer
answered_whole info request others old Done new a = tt
answered_whole info request others old (Data bytes) new a = a.2.0
answered_whole info request others old (Failed cause) new a = tt

whole_length : (request : Request) (answer : Answer) (bytes : List ℕ) → IsWhole request answer → answer ≡ Data bytes
    → length bytes ≡ 512 * count_of request
whole_length request answer bytes h e = subst (IsWhole request) e h

-- What holds of a machine once these requests were submitted and answered so.
pub record Stands (info : Info) (start : Sets) (ws : List Waiting) (cs : List Completion) (m : Machine) : Type 0 where
  pub books : Books ws (answer_to cs) m
  pub given : (c : Completion) → IsAmong cs c → (answer_to cs c.ticket ≡ Some c.answer)
      × ((w : Waiting) × IsAmong ws w × (w.ticket ≡ c.ticket) × IsWhole w.request c.answer)
  pub explained : (part : Part) (sector : ℕ) → Explained info part sector (first_value start part sector) ws
      (answer_to cs) (m.sets part sector)

module _ (info : Info) (start : Sets) where
  -- Steps.

  completed_given : (ws : List Waiting) (cs : List Completion) (old : Machine) (c : Completion) (new : Machine)
      → Completes info old c new
      → Stands info start ws cs old → (d : Completion) → IsAmong (cs ++ c ∷ []) d
      → (answer_to (cs ++ c ∷ []) d.ticket ≡ Some d.answer)
      × ((w : Waiting) × IsAmong ws w × (w.ticket ≡ d.ticket) × IsWhole w.request d.answer)
  completed_given ws cs old c new step s d h =
      let was = completed_pended info old c new step in
      let none : answer_to cs c.ticket ≡ None = ap (answer_to cs) step.ticket ∙ s.books.no_answer step.w (inr was) in
      elim (among_last cs c d h) [
        | inl k ↦ (let g = s.given d k in (
          answer_other cs c d.ticket (λ e. (let other : answer_to cs d.ticket ≡ None = ap (answer_to cs) e ∙ none in
              let some = g.0 in absurd cc)) ∙ g.0,
          g.1,
        ))
        | inr e ↦ subst (λ (z : Completion). (answer_to (cs ++ c ∷ []) z.ticket ≡ Some z.answer)
            × ((w : Waiting) × IsAmong ws w × (w.ticket ≡ z.ticket) × IsWhole w.request z.answer)) (sym e) (
              answer_last cs c none,
              (
                step.w,
                s.books.known step.w (inr was),
                sym step.ticket,
                answered_whole info step.w.request (step.before ++ step.after) step.decided c.answer new.sets
                    step.answered,
              ),
            )
      ]

  completed_stands : (ws : List Waiting) (cs : List Completion) (old : Machine) (c : Completion) (new : Machine)
      → Completes info old c new
      → Stands info start ws cs old → Stands info start ws (cs ++ c ∷ []) new
  completed_stands ws cs old c new step s =
      let was = completed_pended info old c new step in
      let none : answer_to cs c.ticket ≡ None = ap (answer_to cs) step.ticket ∙ s.books.no_answer step.w (inr was) in
      record {
        books = completed_books ws (answer_to cs) (answer_to (cs ++ c ∷ [])) info old c new step (answer_other cs c)
            (λ v h e. one_ticket ws v step.w s.books.ascending h (s.books.known step.w (inr was)) e) s.books;
        given = completed_given ws cs old c new step s;
        explained = λ part sector. completed_explained info part sector (first_value start part sector) ws
            (answer_to cs) (answer_to (cs ++ c ∷ [])) old c new step s.books
            (λ t n. answer_other cs c t (λ e. n (e ∙ step.ticket)))
            (ap (answer_to (cs ++ c ∷ [])) (sym step.ticket) ∙ answer_last cs c none)
            (s.explained part sector);
      }

  all_stand : (ws : List Waiting) (cs : List Completion) (old : Machine) (ds : List Completion) (new : Machine)
      → CompletesAll info old ds new
      → Stands info start ws cs old → Stands info start ws (cs ++ ds) new
  all_stand ws cs old [] new same s =
      subst (λ xs. Stands info start ws xs new) (sym (append-nil cs)) (subst (Stands info start ws cs) (sym same) s)
  all_stand ws cs old (d ∷ ds) new steps s =
      subst (λ xs. Stands info start ws xs new) (append_assoc cs (d ∷ []) ds)
      (all_stand ws (cs ++ d ∷ []) steps.0 ds new steps.2 (completed_stands ws cs old d steps.0 steps.1 s))

  start_stands : (ws : List Waiting) (cs : List Completion) (old started : Machine) → StartsIfIdle old started
      → Stands info start ws cs old → Stands info start ws cs started
  start_stands ws cs old started go s = record {
    books = start_books ws (answer_to cs) old started go s.books;
    given = s.given;
    explained = λ part sector. subst (λ (sets : Sets). Explained info part sector (first_value start part sector) ws
        (answer_to cs) (sets part sector))
        (sym (start_keeps old started go)) (s.explained part sector);
  }

  turn_stands : (ws : List Waiting) (cs : List Completion) (old : Machine) (ds : List Completion) (new : Machine)
      → Turns info old ds new
      → Stands info start ws cs old → Stands info start ws (cs ++ ds) new
  turn_stands ws cs old ds new t s =
      all_stand ws cs t.started ds new t.answers.completes
      (start_stands ws cs old t.started t.start s)

  queued_stands : (ws : List Waiting) (cs : List Completion) (m : Machine) (w : Waiting) → w.ticket ≡ m.next
      → ((t : ℕ) → held (queued m w) t ≡ held m t + one m.next t)
      → Stands info start ws cs m → Stands info start (ws ++ w ∷ []) cs (queued m w)
  queued_stands ws cs m w is more s = record {
    books = queued_books ws (answer_to cs) m w is more s.books;
    given = λ c h. (let g = s.given c h in (g.0, (g.1.0, among_front ws (w ∷ []) g.1.0 g.1.1, g.1.2, g.1.3)));
    explained = λ part sector. queued_explained info part sector (first_value start part sector) ws (answer_to cs) w
        (s.books.none_answered w.ticket (omega (arith, is))) (m.sets part sector) (s.explained part sector);
  }

  accepted_stands : (ws : List Waiting) (cs : List Completion) (old : Machine) (client : ℕ) (request : _) (ticket : ℕ)
      (new : Machine)
      → Accepts old client request ticket new → Stands info start ws cs old
      → Stands info start (ws ++ record { ticket = ticket; client = client; request = request } ∷ []) cs new
  accepted_stands ws cs old client request ticket new a s =
      let w : Waiting = record { ticket = old.next; client = client; request = request } in
      let more : (t : ℕ) → held (queued old w) t ≡ held old t + one old.next t = λ t.
      (let e = ap (λ (m : Machine). held m t) a.waits in sym e ∙ accepted_held old client request ticket new a t) in
      subst (λ t. Stands info start (ws ++ record { ticket = t; client = client; request = request } ∷ []) cs new)
      (sym a.ticket_is)
      (subst (Stands info start (ws ++ w ∷ []) cs) (sym a.waits) (queued_stands ws cs old w refl more s))

  given_stands : (ws : List Waiting) (cs : List Completion) (old : Machine) (ticket : ℕ) (request : _) (new : Machine)
      → GivesBack old ticket request new → Stands info start ws cs old → Stands info start ws cs new
  given_stands ws cs old ticket request new g s = record {
    books = given_books ws (answer_to cs) old ticket request new g s.books;
    given = s.given;
    explained = λ part sector. subst (λ (m : Machine). Explained info part sector (first_value start part sector) ws
        (answer_to cs) (m.sets part sector))
        (sym g.leaves) (s.explained part sector);
  }

  -- Executions.

  nothing_stands : (ws : List Waiting) (cs : List Completion) (event : Event) (reply : Reply) (m : Machine)
      → submitted_by event reply ≡ [] → answers_in reply ≡ [] → Stands info start ws cs m
      → Stands info start (ws ++ submitted_by event reply) (cs ++ answers_in reply) m
  nothing_stands ws cs event reply m none_submitted none_given s =
      subst (λ xs. Stands info start (ws ++ xs) (cs ++ answers_in reply) m) (sym none_submitted)
      (subst (λ ys. Stands info start (ws ++ []) (cs ++ ys) m) (sym none_given)
      (subst (λ xs. Stands info start xs (cs ++ []) m) (sym (append-nil ws))
      (subst (λ ys. Stands info start ws ys m) (sym (append-nil cs)) s)))

  event_stands : (ws : List Waiting) (cs : List Completion) (old : Machine) (event : Event) (reply : Reply)
      (new : Machine)
      → Steps info old event reply new → Stands info start ws cs old
      → Stands info start (ws ++ submitted_by event reply) (cs ++ answers_in reply) new
  event_stands ws cs old (Submit client request) (Accepted ticket) new h s =
      subst (λ ys. Stands info start (ws ++ record { ticket = ticket; client = client; request = request } ∷ []) ys new)
      (sym (append-nil cs))
      (accepted_stands ws cs old client request ticket new h.1 s)
  event_stands ws cs old (Submit client request) (RefusedFor why) new h s =
      nothing_stands ws cs (Submit client request) (RefusedFor why) new refl refl
      (subst (Stands info start ws cs) (sym h.1) s)
  event_stands ws cs old Turn (Answers completions) new h s =
      subst (λ xs. Stands info start xs (cs ++ completions) new) (sym (append-nil ws))
      (turn_stands ws cs old completions new h s)
  event_stands ws cs old (Cancel ticket) (GivenBack request) new h s =
      nothing_stands ws cs (Cancel ticket) (GivenBack request) new refl refl
      (given_stands ws cs old ticket request new h s)
  event_stands ws cs old (Cancel ticket) InService new h s =
      nothing_stands ws cs (Cancel ticket) InService new refl refl (subst (Stands info start ws cs) (sym h.1) s)
  event_stands ws cs old (Cancel ticket) Unknown new h s =
      nothing_stands ws cs (Cancel ticket) Unknown new refl refl (subst (Stands info start ws cs) (sym h.2) s)
  event_stands ws cs old _ _ new h s = absurd h

  events_stand : (ws : List Waiting) (cs : List Completion) (old : Machine) (events : List Event) (replies : List Reply)
      (new : Machine)
      → IsExecution info old events replies new → Stands info start ws cs old
      → Stands info start (ws ++ submitted events replies) (cs ++ answers replies) new
  events_stand ws cs old [] [] new same s =
      subst (λ xs. Stands info start xs (cs ++ []) new) (sym (append-nil ws))
      (subst (λ ys. Stands info start ws ys new) (sym (append-nil cs))
      (subst (Stands info start ws cs) (sym same) s))
  events_stand ws cs old (e ∷ es) (r ∷ rs) new (mid, first, rest) s =
      subst (λ xs. Stands info start xs (cs ++ (answers_in r ++ answers rs)) new)
      (append_assoc ws (submitted_by e r) (submitted es rs))
      (subst (λ ys. Stands info start ((ws ++ submitted_by e r) ++ submitted es rs) ys new)
      (append_assoc cs (answers_in r) (answers rs))
      (events_stand (ws ++ submitted_by e r) (cs ++ answers_in r) mid es rs new rest
      (event_stands ws cs old e r mid first s)))
  events_stand ws cs old _ _ new run s = absurd run

-- each of these is below the ticket
all_below : (f : Waiting → Sector → Sector) (ws : List Waiting) (n : ℕ) → ((w : Waiting) → IsAmong ws w → w.ticket < n)
    → (v : Sector)
    → in_turn (below n f) ws v ≡ in_turn f ws v
all_below f ws n under v = turn_same (below n f) f ws (λ w h x. below_yes n f w x (under w h)) v

-- at the start
first_is_in : (values : List Sector) (v : Sector) → IsIn values v → IsIn values (slice_index_or values 0 [])
first_is_in [] v h = absurd h
first_is_in (x ∷ xs) v h = inl refl

start_stands_so : (info : Info) (old : Machine) → AreDecided old.sets → old.waits ≡ [] → old.in_service ≡ []
    → Stands info old.sets [] [] old
start_stands_so info old decided no_waits no_serves =
    let none : (t : ℕ) → held old t ≡ 0 = λ t. rw (no_waits, no_serves) refl in
    let nobody : (w : Waiting) → IsAmong old.waits w ⊎ IsAmong old.in_service w → ⊥ = λ w h. elim h [
      | inl k ↦ subst (λ ws. IsAmong ws w) no_waits k
      | inr k ↦ subst (λ ws. IsAmong ws w) no_serves k
    ] in
    record {
      books = record {
        below_next = λ w h. absurd h;
        ascending = tt;
        known = λ w h. absurd (nobody w h);
        once = λ t. (let z = none t in omega (arith, z));
        none_held = λ t l. none t;
        no_answer = λ w h. refl;
        none_answered = λ t l. refl;
        passed = λ w v h. absurd (nobody w h);
      };
      given = λ c h. absurd h;
      explained = λ part sector. record {
        some = ((λ t. false), (λ w bytes h. absurd h));
        each = λ v h. (
          (λ t. false),
          (λ w bytes n. absurd n),
          decided part sector _ v
              (first_is_in (old.sets part sector) v h) h,
        );
      };
    }

-- choices that explain each sector make the answers ordered
ordered_by : (info : Info) (start : Sets) (ws : List Waiting) (cs : List Completion) (m : Machine)
    → Stands info start ws cs m → (choices : Choices)
    → ((part : Part) (sector : ℕ) → ReadsRight info part sector (first_value start part sector) ws (answer_to cs)
    (choices part sector))
    → AreOrdered (record { info = info; start = start; requests = ws; given = cs }) choices
ordered_by info start ws cs m s choices right c bytes h d =
    let g = s.given c h in (
      g.1.0,
      g.1.1,
      g.1.2,
      (
        whole_length g.1.0.request c.answer bytes g.1.3 d,
        (λ i l. right (part_of g.1.0.request) (start_of g.1.0.request + i) g.1.0 bytes g.1.1
            (ap (answer_to cs) g.1.2 ∙ g.0 ∙ ap Some d) i l refl refl),
      ),
    )

run_stands : (info : Info) (old : Machine) (events : List Event) (replies : List Reply) (new : Machine)
    → AreDecided old.sets → old.waits ≡ [] → old.in_service ≡ [] → IsExecution info old events replies new
    → Stands info old.sets (submitted events replies) (answers replies) new
run_stands info old events replies new decided no_waits no_serves run =
    events_stand info old.sets [] [] old events replies new run (start_stands_so info old decided no_waits no_serves)

pub run_in_order : (info : Info) (old : Machine) (events : List Event) (replies : List Reply) (new : Machine)
    → AreDecided old.sets → old.waits ≡ [] → old.in_service ≡ [] → IsExecution info old events replies new
    → IsInOrder (history info old.sets events replies)
run_in_order info old events replies new decided no_waits no_serves run =
    let s = run_stands info old events replies new decided no_waits no_serves run in (
      (λ part sector. (s.explained part sector).some.0),
      ordered_by info old.sets (submitted events replies) (answers replies) new s _
          (λ part sector. (s.explained part sector).some.1),
    )

-- choices for one sector that also give the value that it holds
held_by : (info : Info) (part : Part) (sector : ℕ) (start : Sector) (ws : List Waiting) (answer : ℕ → Option Answer)
    (values held : List Sector) (v : Sector)
    → ((x : Sector) → IsIn held x → IsIn values x) → IsIn held v ⊎ (held ≡ [])
    → Explained info part sector start ws answer values
    → (is_new : ℕ → Bool) × ReadsRight info part sector start ws answer is_new
    × (IsIn held v → whole info part sector start ws answer is_new ≡ v)
held_by info part sector start ws answer values held v within (inl h) e = let q = e.each v (within v h) in
    (q.0, q.1, (λ k. q.2))
held_by info part sector start ws answer values held v within (inr none) e =
    (e.some.0, e.some.1, (λ k. absurd (subst (λ xs. IsIn xs v) none k)))

pub run_ends_in_order : (info : Info) (old : Machine) (events : List Event) (replies : List Reply) (new : Machine)
    (sets : Sets) (contents : Part → ℕ → Sector)
    → AreDecided old.sets → old.waits ≡ [] → old.in_service ≡ [] → IsExecution info old events replies new
    → Within sets new.sets
    → MayHold sets contents
    → EndsInOrder (history info old.sets events replies) sets new.next contents
run_ends_in_order info old events replies new sets contents decided no_waits no_serves run within holds =
    let s = run_stands info old events replies new decided no_waits no_serves run in
    let by : (part : Part) (sector : ℕ) → _ = λ part sector. held_by info part sector (first_value old.sets part sector)
    (submitted events replies) (answer_to (answers replies))
    (new.sets part sector) (sets part sector) (contents part sector) (within part sector) (holds part sector)
    (s.explained part sector) in (
      (λ part sector. (by part sector).0),
      ordered_by info old.sets (submitted events replies) (answers replies) new s _ (λ part sector. (by part sector).1),
      (λ part sector h.
          sym ((by part sector).2 h)
          ∙ sym (all_below (effect_at info part sector (answer_to (answers replies)) (by part sector).0)
          (submitted events replies) new.next s.books.below_next
          (first_value old.sets part sector))),
    )
