-- What a start, a step and a decision keep true of the fields.
use Rattle.std.proofs.Common.{◌++◌, ◌+◌, ◌<◌, ◌∷◌, ◌≡◌, ◌≤◌, List, [], ap, append-nil, arith, inl, inr, length}
use Rattle.std.proofs.Common.{refl, subst, ℕ}
use Rattle.mmc_queue.specs.Group.{IsFair, IsJoined}
use Rattle.mmc_queue.specs.Lent.{AreLent}
use Rattle.mmc_queue.specs.Waiting.{AreSound}
use Rattle.mmc_queue.specs.declared.entry.Entry.{Entry}
use Rattle.mmc_queue.specs.declared.group.Group.{Group}
use Rattle.mmc_queue.specs.declared.queue.TheConstants.{MAX_WAITING}
use Rattle.mmc_switch.specs.declared.broken.Broken.{Broken}
use Rattle.mmc_switch.specs.declared.info.Info.{Info}
use Rattle.mmc_block.specs.Device.{DeviceOk}
use Rattle.mmc_block.specs.Entries.{AreServable, waiting_of, waits_of}
use Rattle.mmc_block.specs.Groups.{AreInOrder, AreOneKind, PassNone}
use Rattle.mmc_block.specs.Machine.{IsMerged, Waiting}
use Rattle.mmc_block.specs.Service.{AfterFailure, AreAll, AreServed, AttemptOk, Concludes, HasStarted, IsFirstTry}
use Rattle.mmc_block.specs.Service.{IsNext}
use Rattle.mmc_block.specs.Service.{IsOutcomeOf, ServiceOk, lasting_of, lasting_by, info_of_outcome}
use Rattle.mmc_block.specs.Service.{tries}
use Rattle.mmc_block.specs.declared.completion.Completion.{Completion}
use Rattle.mmc_block.specs.declared.service.Attempt.{Attempt}
use Rattle.mmc_switch.specs.declared.stands.Stands.{Stands}
use Rattle.mmc_switch.specs.declared.progress.Progress.{Progress}
use Rattle.mmc_block.specs.declared.service.Stage.{Stage}
use Rattle.mmc_switch.specs.declared.progress.Progress.TheVariants.{Done, Failed, More}
use Rattle.mmc_block.specs.Service.{Service}
use Rattle.mmc_block.specs.Service.Service.{Idle, Serving, Taken}
use Rattle.mmc_block.proofs.EntryLemmas.{length-waits_of, lent_are_all, lent_length, lent_tries, lent_waits}
use Rattle.mmc_block.proofs.EntryLemmas.{merged_servable}
use Rattle.mmc_block.proofs.EntryLemmas.{merged_waits, one_kind_by, servable_all, servable_parts, waits_pass}
use Rattle.mmc_block.proofs.ServeLemmas.{in_order-lower, one_kind_rest}

-- Lists in order.

low_next : (low : ℕ) (ws : List Waiting) (next : ℕ) → AreInOrder low ws next → low ≤ next
low_next low [] next h = h
low_next low (w ∷ ws) next h = let k = low_next (w.ticket + 1) ws next h.1 in let l = h.0 in omega (arith, k, l)

pub merged_in_order : (low : ℕ) (zs xs ys : List Waiting) (next : ℕ) → IsMerged zs xs ys → AreInOrder low zs next
    → AreInOrder low xs next × AreInOrder low ys next
merged_in_order low [] xs ys next m h = rw (m.0, m.1) (h, h)
merged_in_order low (z ∷ zs) xs ys next (inl m) h =
    let k = merged_in_order (z.ticket + 1) zs m.0 ys next m.2 h.1 in
    let l = h.0 in
    rw m.1 ((h.0, k.0), in_order-lower low (z.ticket + 1) ys next (omega (arith, l)) k.1)
merged_in_order low (z ∷ zs) xs ys next (inr m) h =
    let k = merged_in_order (z.ticket + 1) zs xs m.0 next m.2 h.1 in
    let l = h.0 in
    rw m.1 (in_order-lower low (z.ticket + 1) xs next (omega (arith, l)) k.0, (h.0, k.1))

pub merged_length : (zs xs ys : List Waiting) → IsMerged zs xs ys → length zs ≡ length xs + length ys
merged_length [] xs ys m = rw (m.0, m.1) refl
merged_length (z ∷ zs) xs ys (inl m) = let n = merged_length zs m.0 ys m.2 in rw m.1 (omega (arith, n))
merged_length (z ∷ zs) xs ys (inr m) = let n = merged_length zs xs m.0 m.2 in rw m.1 (omega (arith, n))

-- The first in service leave the others.

pub pass_rest : (ms os waits : List Waiting) → PassNone (ms ++ os) waits → PassNone os waits
pass_rest [] os waits h = h
pass_rest (m ∷ ms) os waits h = pass_rest ms os waits h.1

pub pass_first : (ms os waits : List Waiting) → PassNone (ms ++ os) waits → PassNone ms waits
pass_first [] os waits h = tt
pass_first (m ∷ ms) os waits h = (h.0, pass_first ms os waits h.1)

pub in_order-rest : (low : ℕ) (ms os : List Waiting) (next : ℕ) → AreInOrder low (ms ++ os) next → AreInOrder low os next
in_order-rest low [] os next h = h
in_order-rest low (m ∷ ms) os next h =
    let l = h.0 in
    in_order-lower low (m.ticket + 1) os next (omega (arith, l)) (in_order-rest (m.ticket + 1) ms os next h.1)

one_kind-rest : (ms os : List Waiting) → AreOneKind (ms ++ os) → AreOneKind os
one_kind-rest [] os h = h
one_kind-rest (m ∷ ms) os h = one_kind-rest ms os (one_kind_rest m (ms ++ os) h)

pub served_rest : (ms os waits : List Waiting) (next : ℕ) → AreServed (ms ++ os) waits next → AreServed os waits next
served_rest ms os waits next h = record {
  one_kind = one_kind-rest ms os h.one_kind;
  in_order = in_order-rest 0 ms os next h.in_order;
  passes_none = pass_rest ms os waits h.passes_none;
}

-- Attempts.

-- of several in an attempt, these are all
pub all_served : (e f : Entry) (es os : List Entry) → AreAll (e ∷ f ∷ es) os
    → waits_of (e ∷ f ∷ es) ++ waits_of os ≡ waits_of (e ∷ f ∷ es)
all_served e f es os all = rw all (append-nil (waits_of (e ∷ f ∷ es)))

-- who is in service in a first try
pub first_serves : (attempt : Attempt) (members others : List Entry) → IsFirstTry attempt members others
    → waits_of attempt.group.members.items ++ waits_of attempt.others.items ≡ waits_of members ++ waits_of others
first_serves attempt members others first = rw (first.members_are, first.others_are) refl

first_fits : (e : Entry) (es : List Entry) → 0 < tries (e ∷ es)
first_fits e [] = omega arith
first_fits e (f ∷ es) = omega arith

alone_all : (es : List Entry) → AreAll es []
alone_all [] = tt
alone_all (e ∷ []) = tt
alone_all (e ∷ f ∷ es) = refl

-- the first try at some of these
first_ok : (info : Info) (attempt : Attempt) (e : Entry) (es others : List Entry)
    → IsFirstTry attempt (e ∷ es) others → AreServable info (e ∷ es ++ others) → AreSound others
    → AreAll (e ∷ es) others → length (e ∷ es) + length others ≤ 16 → AttemptOk info attempt
first_ok info attempt e es others first servable sound all few = record {
  joined = first.joined;
  servable = rw (first.members_are, first.others_are) servable;
  sound = rw first.others_are sound;
  fits = rw (first.members_are, first.failed) (first_fits e es);
  all = rw (first.members_are, first.others_are) all;
  few = rw (first.members_are, first.others_are) few;
}

-- the same attempt after a step, which may have changed the members' buffers
pub lent_ok : (info : Info) (attempt : Attempt) (group : Group) → AttemptOk info attempt
    → AreLent attempt.group.members.items group.members.items → IsJoined group.members.items group.extent
    → AreServable info group.members.items → AttemptOk info (record attempt { group = group })
lent_ok info attempt group ok lent joined servable =
    let olds = attempt.group.members.items in
    let news = group.members.items in
    let n = lent_length olds news lent in
    let few = ok.few in
    let fits = ok.fits in
    let t = lent_tries olds news lent in
    record {
      joined = joined;
      servable = servable_all info news attempt.others.items servable
          (servable_parts info olds attempt.others.items ok.servable).1;
      sound = ok.sound;
      fits = omega (arith, fits, t);
      all = lent_are_all olds news attempt.others.items lent ok.all;
      few = omega (arith, few, n);
    }

pub lent_served : (attempt : Attempt) (group : Group) (waits : List Waiting) (next : ℕ)
    → AreLent attempt.group.members.items group.members.items
    → AreServed (waits_of attempt.group.members.items ++ waits_of attempt.others.items) waits next
    → AreServed (waits_of group.members.items ++ waits_of attempt.others.items) waits next
lent_served attempt group waits next lent ok =
    rw (lent_waits attempt.group.members.items group.members.items lent) ok

-- Services.

pub next_ok : (info : Info) (stands : Stands) (es : List Entry) (service : Service) (waits : List Waiting) (next : ℕ)
    → lasting_by stands ≡ info → AreServable info es → AreSound es → AreServed (waits_of es) waits next
    → length es ≤ 16 → IsNext stands es service → ServiceOk info service waits next
next_ok info stands [] service waits next is servable sound served few n = rw n is
next_ok info stands (e ∷ es) service waits next is servable sound served few n =
    rw n.1 (
      is,
      tt,
      first_ok info n.0 e [] es n.2 servable sound.1 tt (omega (arith, few)),
      rw (first_serves n.0 (e ∷ []) es n.2) served,
    )

split_ok : (info : Info) (broken : Broken) (members others : List Entry) (service : Service) (cs : List Completion)
    (waits : List Waiting) (next : ℕ)
    → lasting_of broken.session ≡ info → AreServable info (members ++ others) → AreSound members → AreSound others
    → AreAll members others → length members + length others ≤ 16
    → AreServed (waits_of members ++ waits_of others) waits next
    → AfterFailure broken members others service cs → ServiceOk info service waits next
split_ok info broken [] others service cs waits next is servable sound sound_others all few served a = absurd a
split_ok info broken (e ∷ []) others service cs waits next is servable sound sound_others all few served a =
    next_ok info (Stands.Broken broken) others service waits next is servable.1 sound_others
    (served_rest (waiting_of e ∷ []) (waits_of others) waits next served) (omega (arith, few)) a.0
split_ok info broken (e ∷ f ∷ es) others service cs waits next is servable sound sound_others all few served a =
    next_ok info (Stands.Broken broken) (e ∷ f ∷ es) service waits next is
    (servable_parts info (e ∷ f ∷ es) others servable).0 sound
    (subst (λ ws. AreServed ws waits next) (all_served e f es others all) served) (omega (arith, few)) a.0

-- after a decision
pub concluded_ok : (info : Info) (outcome : Progress Stage) (attempt : Attempt) (service : Service) (cs : List Completion)
    (waits : List Waiting) (next : ℕ)
    → info_of_outcome outcome ≡ info → IsOutcomeOf attempt.group outcome → AttemptOk info attempt
    → AreServed (waits_of attempt.group.members.items ++ waits_of attempt.others.items) waits next
    → Concludes outcome attempt service cs → ServiceOk info service waits next
concluded_ok info (More stage) attempt service cs waits next is of ok served c = rw c.0 (is, of, ok, served)
concluded_ok info (Done session) attempt service cs waits next is of ok served c =
    let ms = attempt.group.members.items in
    let os = attempt.others.items in
    let few = ok.few in
    next_ok info (Stands.Ready session) os service waits next is (servable_parts info ms os ok.servable).1 ok.sound
    (served_rest (waits_of ms) (waits_of os) waits next served) (omega (arith, few)) c.0
concluded_ok info (Failed broken) attempt service cs waits next is of ok served (inl c) =
    rw c.1 (
      is,
      tt,
      record {
        joined = ok.joined;
        servable = ok.servable;
        sound = ok.sound;
        fits = c.0;
        all = ok.all;
        few = ok.few;
      },
      served,
    )
concluded_ok info (Failed broken) attempt service cs waits next is of ok served (inr c) =
    split_ok info broken attempt.group.members.items attempt.others.items service cs waits next is ok.servable
    ok.joined.sound ok.sound ok.all ok.few served c.1

-- after a start
pub started_ok : (info : Info) (old left : List Entry) (service new : Service) (next : ℕ)
    → DeviceOk info old service next → HasStarted old service left new → DeviceOk info left new next
started_ok info old left (Idle stands) new next ok (inl s) = rw (s.1, s.2) (record {
  servable = tt;
  in_order = low_next 0 (waits_of old) next ok.in_order;
  few = omega arith;
  serves = ok.serves;
})
started_ok info old left (Idle stands) new next ok (inr s) =
    let attempt : Attempt = s.0 in
    let members : List Entry = attempt.group.members.items in
    let fair : IsFair old members attempt.group.extent left = s.3 in
    let order : AreInOrder 0 (waiting_of fair.oldest ∷ waits_of fair.later) next = rw fair.waits_are at ok.in_order in
    let servable : AreServable info (fair.oldest ∷ fair.later) = rw fair.waits_are at ok.servable in
    let old_few : length (fair.oldest ∷ fair.later) + 0 ≤ MAX_WAITING = rw fair.waits_are at ok.few in
    let merged = merged_waits fair.later fair.others left fair.parts in
    let parts = merged_in_order (fair.oldest.ticket + 1) (waits_of fair.later) (waits_of fair.others) (waits_of left)
    next merged order.1 in
    let able = merged_servable info fair.later fair.others left fair.parts servable.1 in
    let joined = fair.joined in
    let few : length (fair.oldest ∷ fair.others) ≤ 16 = rw fair.members_are at joined.few in
    let first : IsFirstTry attempt (fair.oldest ∷ fair.others) [] =
    subst (λ (es : List Entry). IsFirstTry attempt es []) fair.members_are s.2 in
    let is : waits_of members ++ waits_of attempt.others.items ≡ waits_of members =
    rw s.2.others_are (append-nil (waits_of members)) in
    let kind : AreOneKind (waits_of members) = one_kind_by attempt.group.extent members joined.alike in
    let members_in_order : AreInOrder 0 (waits_of members) next = rw fair.members_are (order.0, parts.0) in
    let served : AreServed (waits_of members) (waits_of left) next = record {
      one_kind = kind;
      in_order = members_in_order;
      passes_none = waits_pass members left fair.pass_none;
    } in
    let a = length-waits_of fair.later in
    let b = length-waits_of fair.others in
    let c = length-waits_of left in
    let d = merged_length (waits_of fair.later) (waits_of fair.others) (waits_of left) merged in
    let n : length (waits_of members ++ waits_of attempt.others.items) ≡ length (waits_of members) =
    ap (λ (ws : List Waiting). length ws) is in
    let k : length members ≡ length (fair.oldest ∷ fair.others) =
    ap (λ (es : List Entry). length es) fair.members_are in
    let e = length-waits_of members in
    rw s.1 (record {
      servable = able.1;
      in_order = in_order-lower 0 (fair.oldest.ticket + 1) (waits_of left) next (omega arith) parts.1;
      few = omega (arith, old_few, a, b, c, d, n, k, e);
      serves = (
        ok.serves,
        tt,
        first_ok info attempt fair.oldest fair.others [] first
            (servable_all info (fair.oldest ∷ fair.others) [] (servable.0, able.0) tt)
            tt (alone_all (fair.oldest ∷ fair.others)) (omega (arith, few)),
        rw is served,
      );
    })
started_ok info old left (Serving stage attempt) new next ok s = rw (s.0, s.1) ok
started_ok info old left Taken new next ok s = absurd s
