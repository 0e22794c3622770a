-- Requests by ticket, and one that is given back.
use Rattle.std.proofs.Common.{◌++◌, ◌+◌, ◌<◌, ◌∙◌, ◌∷◌, ◌≡◌, ◌≤◌, List, [], ap, arith, drop, inl, inr, length}
use Rattle.std.proofs.Common.{length-append, refl, slice_index_or, subst, suc, sym, zero, ℕ}
use Rattle.std.proofs.lemmas.List.{map-append}
use Rattle.std.specs.Prelude.{◌==◌, Bool, None, Some, false, if◌then◌else◌, true}
use Rattle.std.proofs.lemmas.Bool.Decides.{nat_tests}
use Rattle.mmc_card.specs.BusView.{BusView}
use Rattle.mmc_queue.specs.Waiting.{Takes, at_ticket}
use Rattle.mmc_queue.specs.declared.entry.Entry.{Entry}
use Rattle.mmc_queue.specs.declared.queue.TheConstants.{MAX_WAITING}
use Rattle.mmc_switch.specs.declared.info.Info.{Info}
use Rattle.mmc_bus.proofs.WorkLemmas.{stays_same}
use Rattle.mmc_block.specs.Device.{Comes, DeviceOk, DeviceView, Withdraws}
use Rattle.mmc_block.specs.Entries.{AreServable, waiting_of, waits_of}
use Rattle.mmc_block.specs.Groups.{AreInOrder, PassNone}
use Rattle.mmc_block.specs.Machine.{IsTicketOf, PassesNone, Waiting}
use Rattle.mmc_block.specs.Execution.{Counted, CountedSteps}
use Rattle.mmc_block.specs.Execution.Event.{Cancel}
use Rattle.mmc_block.specs.Execution.Reply.{GivenBack, InService, Unknown}
use Rattle.mmc_block.specs.Service.{AreServed, ServiceOk, in_service_of}
use Rattle.mmc_block.specs.Service.{Service}
use Rattle.mmc_block.specs.Service.Service.{Idle, Serving, Taken}
use Rattle.mmc_block.proofs.ServeLemmas.{in_order-lower}

-- Who has a ticket.

pub ticket_at : (t : ℕ) (es : List Entry) (i : ℕ) (d : Entry) → i < length es → (slice_index_or es i d).ticket ≡ t
    → IsTicketOf t (waits_of es)
ticket_at t [] i d below is = absurd (omega (arith, below))
ticket_at t (e ∷ es) zero d below is = inl (sym is)
ticket_at t (e ∷ es) (suc i) d below is = inr (ticket_at t es i d (omega (arith, below)) is)

-- one more doesn't have it
pub left_after : (t : ℕ) (es : List Entry) (i : ℕ) (d : Entry) → i < length es
    → ((slice_index_or es i d).ticket ≡ t → ⊥) → IsTicketOf t (waits_of (drop i es))
    → IsTicketOf t (waits_of (drop (suc i) es))
left_after t [] i d below not has = absurd (omega (arith, below))
left_after t (e ∷ es) zero d below not (inl is) = absurd (not (sym is))
left_after t (e ∷ es) zero d below not (inr has) = has
left_after t (e ∷ es) (suc i) d below not has = left_after t es i d (omega (arith, below)) not has

pub left_none : (t : ℕ) (es : List Entry) (i : ℕ) → length es ≤ i → IsTicketOf t (waits_of (drop i es)) → ⊥
left_none t [] zero all has = has
left_none t [] (suc i) all has = has
left_none t (e ∷ es) zero all has = omega (arith, all)
left_none t (e ∷ es) (suc i) all has = left_none t es i (omega (arith, all)) has

pub ticket-left : (t : ℕ) (ws vs : List Waiting) → IsTicketOf t ws → IsTicketOf t (ws ++ vs)
ticket-left t [] vs h = absurd h
ticket-left t (w ∷ ws) vs (inl e) = inl e
ticket-left t (w ∷ ws) vs (inr k) = inr (ticket-left t ws vs k)

pub ticket-right : (t : ℕ) (ws vs : List Waiting) → IsTicketOf t vs → IsTicketOf t (ws ++ vs)
ticket-right t [] vs h = h
ticket-right t (w ∷ ws) vs h = inr (ticket-right t ws vs h)

pub ticket-none : (t : ℕ) (ws vs : List Waiting) → (IsTicketOf t ws → ⊥) → (IsTicketOf t vs → ⊥)
    → IsTicketOf t (ws ++ vs) → ⊥
ticket-none t [] vs p q h = q h
ticket-none t (w ∷ ws) vs p q (inl e) = p (inl e)
ticket-none t (w ∷ ws) vs p q (inr k) = ticket-none t ws vs (λ j. p (inr j)) q k

none_here : (t : ℕ) (e : Entry) (es : List Entry) (b : Bool) → (t == e.ticket) ≡ b
    → (if b then Some e else at_ticket t es) ≡ None → (t ≡ e.ticket → ⊥) × (at_ticket t es ≡ None)
none_here t e es true test none = absurd cc
none_here t e es false test none =
    ((λ is. absurd (let k : (t == e.ticket) ≡ true = grind (arith, nat_tests) in cc)), none)

-- who isn't found doesn't wait
pub none_waits : (t : ℕ) (es : List Entry) → at_ticket t es ≡ None → IsTicketOf t (waits_of es) → ⊥
none_waits t [] none has = has
none_waits t (e ∷ es) none (inl is) = (none_here t e es (t == e.ticket) refl none).0 is
none_waits t (e ∷ es) none (inr has) = none_waits t es (none_here t e es (t == e.ticket) refl none).1 has

-- The fields after one has left.

pub in_order-without : (low : ℕ) (bs zs : List Waiting) (w : Waiting) (next : ℕ) → AreInOrder low (bs ++ w ∷ zs) next
    → AreInOrder low (bs ++ zs) next
in_order-without low [] zs w next h = let l = h.0 in in_order-lower low (w.ticket + 1) zs next (omega (arith, l)) h.1
in_order-without low (b ∷ bs) zs w next h = (h.0, in_order-without (b.ticket + 1) bs zs w next h.1)

passes-without : (v : Waiting) (bs zs : List Waiting) (w : Waiting) → PassesNone v (bs ++ w ∷ zs)
    → PassesNone v (bs ++ zs)
passes-without v [] zs w h = h.1
passes-without v (b ∷ bs) zs w h = (h.0, passes-without v bs zs w h.1)

pub pass-without : (vs bs zs : List Waiting) (w : Waiting) → PassNone vs (bs ++ w ∷ zs) → PassNone vs (bs ++ zs)
pass-without [] bs zs w h = tt
pass-without (v ∷ vs) bs zs w h = (passes-without v bs zs w h.0, pass-without vs bs zs w h.1)

pub servable-without : (info : Info) (bs zs : List Entry) (e : Entry) → AreServable info (bs ++ e ∷ zs)
    → AreServable info (bs ++ zs)
servable-without info [] zs e h = h.1
servable-without info (b ∷ bs) zs e h = (h.0, servable-without info bs zs e h.1)

service-without : (info : Info) (service : Service) (bs zs : List Waiting) (w : Waiting) (next : ℕ)
    → ServiceOk info service (bs ++ w ∷ zs) next → ServiceOk info service (bs ++ zs) next
service-without info (Idle stands) bs zs w next h = h
service-without info (Serving stage attempt) bs zs w next h =
    let served : AreServed (in_service_of (Serving stage attempt)) (bs ++ w ∷ zs) next = h.3 in (
      h.0,
      h.1,
      h.2,
      record {
        one_kind = served.one_kind;
        in_order = served.in_order;
        passes_none = pass-without _ bs zs w served.passes_none;
      },
    )
service-without info Taken bs zs w next h = absurd h

pub taken_ok : (info : Info) (old new : List Entry) (service : Service) (e : Entry) (next : ℕ) → Takes old e new
    → DeviceOk info old service next → DeviceOk info new service next
taken_ok info old new service e next t ok =
    let bs = t.0 in
    let zs = t.1 in
    let was : waits_of old ≡ waits_of bs ++ waiting_of e ∷ waits_of zs =
    ap waits_of t.2 ∙ map-append waiting_of bs (e ∷ zs) in
    let is : waits_of new ≡ waits_of bs ++ waits_of zs = ap waits_of t.3 ∙ map-append waiting_of bs zs in
    let few : length old + length (in_service_of service) ≤ MAX_WAITING = ok.few in
    let n : length old ≡ length bs + length (e ∷ zs) = ap length t.2 ∙ length-append bs (e ∷ zs) in
    let k : length new ≡ length bs + length zs = ap length t.3 ∙ length-append bs zs in
    record {
      servable = subst (AreServable info) (sym t.3)
          (servable-without info bs zs e (subst (AreServable info) t.2 ok.servable));
      in_order = subst (λ ws. AreInOrder 0 ws next) (sym is)
          (in_order-without 0 (waits_of bs) (waits_of zs) (waiting_of e) next
          (subst (λ ws. AreInOrder 0 ws next) was ok.in_order));
      few = omega (arith, few, n, k);
      serves = subst (λ ws. ServiceOk info service ws next) (sym is)
          (service-without info service (waits_of bs) (waits_of zs) (waiting_of e) next
          (subst (λ ws. ServiceOk info service ws next) was ok.serves));
    }

-- Cancels.

ticket_among : (bs zs : List Entry) (e : Entry) → IsTicketOf e.ticket (waits_of (bs ++ e ∷ zs))
ticket_among [] zs e = inl refl
ticket_among (b ∷ bs) zs e = inr (ticket_among bs zs e)

-- the one that was taken had waited
pub had_waited : (es left : List Entry) (e : Entry) (ticket : ℕ) → e.ticket ≡ ticket → Takes es e left
    → IsTicketOf ticket (waits_of es)
had_waited es left e ticket is t =
    subst (λ (xs : List Entry). IsTicketOf ticket (waits_of xs)) (sym t.2)
    (subst (λ n. IsTicketOf n (waits_of (t.0 ++ e ∷ t.1))) is (ticket_among t.0 t.1 e))

pub withdrawn : {B : Type 0} (old : DeviceView B) (es left : List Entry) (e : Entry) (ticket : ℕ)
    → old.waits ≡ waits_of es → e.ticket ≡ ticket → Takes es e left
    → Withdraws old ticket e.request (record old { waits = waits_of left })
withdrawn {B} old es left e ticket waits is t = record {
  before = waits_of t.0;
  w = waiting_of e;
  after = waits_of t.1;
  waited = waits ∙ ap waits_of t.2 ∙ map-append waiting_of t.0 (e ∷ t.1);
  ticket_is = is;
  request_is = refl;
  waits = ap (λ ws. let d : DeviceView B = record old { waits = ws } in d)
      (ap waits_of t.3 ∙ map-append waiting_of t.0 t.1);
}

-- a machine that agrees gives it back too

pub gives_back : {B : Type 0} (view : B → BusView) (old : DeviceView B) (es left : List Entry) (e : Entry) (ticket : ℕ)
    → old.waits ≡ waits_of es → e.ticket ≡ ticket → Takes es e left
    → Comes view old (λ (c n : Counted). CountedSteps old.info c (Cancel ticket) (GivenBack e.request) n)
    (record old { waits = waits_of left })
gives_back view old es left e ticket waits is t c a =
    let bs = waits_of t.0 in
    let zs = waits_of t.1 in (
      stays_same (view old.bus) (view old.bus).lines,
      (
        record c { machine = record c.machine { waits = bs ++ zs } },
        (
          record {
            before = bs;
            w = waiting_of e;
            after = zs;
            waited = a.agrees.waits ∙ waits ∙ ap waits_of t.2 ∙ map-append waiting_of t.0 (e ∷ t.1);
            ticket_is = is;
            request_is = refl;
            leaves = refl;
          },
          (refl, λ u. refl),
          refl,
        ),
        record {
          agrees = record {
            waits = sym (ap waits_of t.3 ∙ map-append waiting_of t.0 t.1);
            in_service = a.agrees.in_service;
            next = a.agrees.next;
            within = a.agrees.within;
          };
          faults = a.faults;
          in_profile = a.in_profile;
          fell = a.fell;
          placed = a.placed;
          own = a.own;
        },
      ),
    )

pub is_in_service : {B : Type 0} (view : B → BusView) (d : DeviceView B) (ticket : ℕ)
    → IsTicketOf ticket (in_service_of d.service)
    → Comes view d (λ (c n : Counted). CountedSteps d.info c (Cancel ticket) InService n) d
is_in_service view d ticket h c a = (
  stays_same (view d.bus) (view d.bus).lines,
  (c, ((subst (IsTicketOf ticket) (sym a.agrees.in_service) h, refl), (refl, λ u. refl), refl), a),
)

pub is_unknown : {B : Type 0} (view : B → BusView) (d : DeviceView B) (ticket : ℕ)
    → (IsTicketOf ticket (in_service_of d.service) → ⊥) → (IsTicketOf ticket d.waits → ⊥)
    → Comes view d (λ (c n : Counted). CountedSteps d.info c (Cancel ticket) Unknown n) d
is_unknown view d ticket p q c a = (
  stays_same (view d.bus) (view d.bus).lines,
  (
    c,
    (
      (
        (λ h. p (subst (IsTicketOf ticket) a.agrees.in_service h)),
        (λ h. q (subst (IsTicketOf ticket) a.agrees.waits h)),
        refl,
      ),
      (refl, λ u. refl),
      refl,
    ),
    a,
  ),
)
