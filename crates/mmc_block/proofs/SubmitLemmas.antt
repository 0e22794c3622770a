-- A request that is accepted: it waits after all others.
use Rattle.std.proofs.Common.{◌++◌, ◌+◌, ◌<◌, ◌==◌, ◌∙◌, ◌∷◌, ◌≡◌, ◌≤◌, List, [], ap, arith, false, length}
use Rattle.std.proofs.Common.{if◌then◌else◌, length-append, refl, sym, ℕ}
use Rattle.std.proofs.lemmas.Bool.Decides.{nat_tests}
use Rattle.std.proofs.lemmas.List.{map-append}
use Rattle.std.specs.Prelude.{◌/◌, ◌^◌, None}
use Rattle.mmc_card.specs.BusView.{BusView}
use Rattle.mmc_card.specs.declared.part.Part.{Part}
use Rattle.mmc_frame.specs.declared.addressing.Addressing.{Addressing}
use Rattle.mmc_frame.specs.declared.addressing.Addressing.TheVariants.{Bytes, Sectors}
use Rattle.mmc_queue.specs.Requests.{count_of, part_of, start_of}
use Rattle.mmc_queue.specs.Waiting.{AreBelow, IsSound}
use Rattle.mmc_queue.specs.declared.entry.Entry.{Entry}
use Rattle.mmc_queue.specs.declared.queue.TheConstants.{MAX_WAITING}
use Rattle.mmc_queue.specs.declared.request.Request.{Request}
use Rattle.mmc_switch.specs.Sizes.{size_of}
use Rattle.mmc_switch.specs.declared.info.Info.{Info}
use Rattle.mmc_bus.proofs.WorkLemmas.{stays_same}
use Rattle.mmc_block.specs.Device.{Comes, DeviceOk, DeviceView, IsCountedIn, Queues, unanswered_of}
use Rattle.mmc_block.specs.Entries.{IsServable, waiting_of, waits_of}
use Rattle.mmc_block.specs.Groups.{AreInOrder, IsCounted, PassNone}
use Rattle.mmc_block.specs.Machine.{PassesNone, Waiting}
use Rattle.mmc_block.specs.Refusal.{first_refusal}
use Rattle.mmc_block.specs.Execution.{Counted, CountedSteps}
use Rattle.mmc_block.specs.Execution.Event.{Submit}
use Rattle.mmc_block.specs.Execution.Reply.{Accepted}
use Rattle.mmc_block.specs.Service.{AreServed, ServiceOk, in_service_of}
use Rattle.mmc_block.specs.Service.{Service}
use Rattle.mmc_block.specs.Service.Service.{Idle, Serving, Taken}
use Rattle.mmc_block.proofs.DeviceLemmas.{AreServable-push}

-- What the queue wants.

fits_by : (info : Info) (part : Part) (addressing : Addressing) → info.addressing ≡ addressing
    → size_of info.sizes part ≤ 2 ^ 32
fits_by info part Bytes is =
    let fits : size_of info.sizes part ≤ 2 ^ 32 / 512 = rw is at info.addressable part in
    omega (arith, fits)
fits_by info part Sectors is = rw is at info.addressable part

pub sound_by : (info : Info) (e : Entry) → e.ticket < 2 ^ 64 → IsServable info e.request e.buffer → IsSound e
sound_by info e below ok =
    let size = fits_by info (part_of e.request) info.addressing refl in
    let inside : start_of e.request + count_of e.request ≤ size_of info.sizes (part_of e.request) = ok.in_range in
    let some : 1 ≤ count_of e.request = ok.some in
    record {
      ticket = below;
      some = omega (arith, some);
      few = ok.few;
      inside = omega (arith, size, inside);
      bytes = ok.brought;
      room = ok.room;
    }

pub first_below : (low : ℕ) (ws : List Waiting) (next : ℕ) → AreInOrder low ws next → low ≤ next
first_below low [] next h = h
first_below low (w ∷ ws) next h =
    let l = h.0 in
    let k = first_below (w.ticket + 1) ws next h.1 in
    omega (arith, l, k)

all_below : (low : ℕ) (es : List Entry) (next : ℕ) → AreInOrder low (waits_of es) next → AreBelow next es
all_below low [] next h = tt
all_below low (e ∷ es) next h =
    let k = first_below (e.ticket + 1) (waits_of es) next h.1 in
    (omega (arith, k), all_below (e.ticket + 1) es next h.1)

pub are_below : (es : List Entry) (next : ℕ) → AreInOrder 0 (waits_of es) next → AreBelow next es
are_below es next h = all_below 0 es next h

-- The fields after it.

pub in_order-push : (low : ℕ) (ws : List Waiting) (w : Waiting) → AreInOrder low ws w.ticket
    → AreInOrder low (ws ++ w ∷ []) (w.ticket + 1)
in_order-push low [] w h = (h, omega arith)
in_order-push low (v ∷ ws) w h = (h.0, in_order-push (v.ticket + 1) ws w h.1)

pub in_order-next : (low : ℕ) (ws : List Waiting) (next : ℕ) → AreInOrder low ws next → AreInOrder low ws (next + 1)
in_order-next low [] next h = omega (arith, h)
in_order-next low (w ∷ ws) next h = (h.0, in_order-next (w.ticket + 1) ws next h.1)

passes-push : (v : Waiting) (ws : List Waiting) (w : Waiting) → v.ticket < w.ticket → PassesNone v ws
    → PassesNone v (ws ++ w ∷ [])
passes-push v [] w l h = ((λ b. absurd (omega (arith, l, b))), tt)
passes-push v (x ∷ ws) w l h = (h.0, passes-push v ws w l h.1)

pub pass-push : (low : ℕ) (vs ws : List Waiting) (w : Waiting) → AreInOrder low vs w.ticket → PassNone vs ws
    → PassNone vs (ws ++ w ∷ [])
pass-push low [] ws w o h = tt
pass-push low (v ∷ vs) ws w o h =
    let b = first_below (v.ticket + 1) vs w.ticket o.1 in
    (passes-push v ws w (omega (arith, b)) h.0, pass-push (v.ticket + 1) vs ws w o.1 h.1)

service-push : (info : Info) (service : Service) (ws : List Waiting) (w : Waiting) → ServiceOk info service ws w.ticket
    → ServiceOk info service (ws ++ w ∷ []) (w.ticket + 1)
service-push info (Idle stands) ws w h = h
service-push info (Serving stage attempt) ws w h =
    let served : AreServed (in_service_of (Serving stage attempt)) ws w.ticket = h.3 in (
      h.0,
      h.1,
      h.2,
      record {
        one_kind = served.one_kind;
        in_order = in_order-next 0 _ w.ticket served.in_order;
        passes_none = pass-push 0 _ ws w served.in_order served.passes_none;
      },
    )
service-push info Taken ws w h = absurd h

pub pushed_ok : (info : Info) (old new : List Entry) (service : Service) (e : Entry)
    → DeviceOk info old service e.ticket → length old + length (in_service_of service) < MAX_WAITING
    → new ≡ old ++ e ∷ []
    → IsServable info e.request e.buffer → DeviceOk info new service (e.ticket + 1)
pushed_ok info old new service e ok below is servable =
    let n = length-append old (e ∷ []) in
    rw is (record {
      servable = AreServable-push info old e ok.servable servable;
      in_order = rw (map-append waiting_of old (e ∷ [])) (in_order-push 0 (waits_of old) (waiting_of e) ok.in_order);
      few = omega (arith, n, below);
      serves = rw (map-append waiting_of old (e ∷ []))
          (service-push info service (waits_of old) (waiting_of e) ok.serves);
    })

-- The machine.

counted-new : (ws : List Waiting) (attempts fell next : ℕ) (own : ℕ → ℕ) (low : ℕ) → AreInOrder low ws next
    → IsCounted ws attempts fell own → IsCounted ws attempts fell (λ t. if t == next then 0 else own t)
counted-new [] attempts fell next own low o h = tt
counted-new (w ∷ []) attempts fell next own low o h =
    let below = o.1 in
    let apart : (w.ticket == next) ≡ false = grind (arith, nat_tests, below) in
    rw apart h
counted-new (w ∷ v ∷ ws) attempts fell next own low o h = tt

in_order-first : (low : ℕ) (ms os : List Waiting) (next : ℕ) → AreInOrder low (ms ++ os) next → AreInOrder low ms next
in_order-first low [] os next h = first_below low os next h
in_order-first low (m ∷ ms) os next h = (h.0, in_order-first (m.ticket + 1) ms os next h.1)

service_counted-new : (info : Info) (service : Service) (ws : List Waiting) (fell next : ℕ) (own : ℕ → ℕ)
    → ServiceOk info service ws next → IsCountedIn service fell own
    → IsCountedIn service fell (λ t. if t == next then 0 else own t)
service_counted-new info (Idle stands) ws fell next own ok h = tt
service_counted-new info (Serving stage attempt) ws fell next own ok h =
    let served : AreServed (in_service_of (Serving stage attempt)) ws next = ok.3 in
    counted-new (waits_of attempt.group.members.items) attempt.failed fell next own 0
    (in_order-first 0 (waits_of attempt.group.members.items) (waits_of attempt.others.items) next served.in_order) h
service_counted-new info Taken ws fell next own ok h = tt

-- an entry is pushed for the request
pub queues : {B : Type 0} (old : DeviceView B) (es left : List Entry) (e : Entry) → old.waits ≡ waits_of es
    → e.ticket ≡ old.next → left ≡ es ++ e ∷ []
    → first_refusal old.info (unanswered_of old) old.next e.request ≡ None
    → Queues old e.client e.request e.ticket (record old { waits = waits_of left; next = old.next + 1 })
queues {B} old es left e waits ticket pushed free =
    let w : Waiting = record { ticket = old.next; client = e.client; request = e.request } in
    let last : waiting_of e ≡ w =
    ap (λ t. let v : Waiting = record { ticket = t; client = e.client; request = e.request } in v) ticket in
    let all : waits_of left ≡ old.waits ++ w ∷ [] =
    ap waits_of pushed ∙ map-append waiting_of es (e ∷ []) ∙ ap (λ v. waits_of es ++ v ∷ []) last
    ∙ ap (λ ws. ws ++ w ∷ []) (sym waits) in
    record {
      not_refused = free;
      ticket = ticket;
      waits = ap (λ ws. let d : DeviceView B = record old { waits = ws; next = old.next + 1 } in d) all;
    }

-- an accepted submission, of a machine that agrees
pub accepted : {B : Type 0} (view : B → BusView) (old new : DeviceView B) (client ticket : ℕ) (request : Request)
    → ServiceOk old.info old.service old.waits old.next → Queues old client request ticket new
    → Comes view old (λ (c n : Counted). CountedSteps old.info c (Submit client request) (Accepted ticket) n) new
accepted view old new client ticket request ok q c a =
    rw (q.waits, q.ticket) (
      stays_same (view old.bus) (view old.bus).lines,
      (
        record {
          machine = record c.machine {
            waits = c.machine.waits ++ record { ticket = c.machine.next; client = client; request = request } ∷ [];
            next = c.machine.next + 1;
          };
          in_profile = c.in_profile;
          faults = c.faults;
          own_faults = λ t. if t == old.next then 0 else c.own_faults t;
        },
        (
          (
            rw (a.agrees.waits, a.agrees.in_service, a.agrees.next) q.not_refused,
            record { ticket_is = sym a.agrees.next; waits = refl },
          ),
          (refl, λ t. refl),
          refl,
        ),
        record {
          agrees = record {
            waits = rw (a.agrees.waits, a.agrees.next) refl;
            in_service = a.agrees.in_service;
            next = ap (λ n. n + 1) a.agrees.next;
            within = a.agrees.within;
          };
          faults = a.faults;
          in_profile = a.in_profile;
          fell = a.fell;
          placed = a.placed;
          own = λ profile.
              service_counted-new old.info old.service old.waits a.fell old.next c.own_faults ok (a.own profile);
        },
      ),
    )
