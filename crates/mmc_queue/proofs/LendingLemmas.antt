-- What stays of a group that was lent.
use Rattle.std.proofs.Common.{◌+◌, ◌-◌, ◌<◌, ◌^◌, ◌∙◌, ◌∷◌, ◌≡◌, ◌≤◌, Bool, List, [], ap, arith, false, length}
use Rattle.std.proofs.Common.{refl, subst, suc, sym, true, ℕ}
use Rattle.std.specs.Prelude.{◌||◌, if◌then◌else◌}
use Rattle.mmc_bus.specs.BlockLaws.{length_left}
use Rattle.mmc_bus.specs.Bytes.{blocks_in}
use Rattle.mmc_bus.specs.Lending.{IsRewritten, block, nothing}
use Rattle.mmc_queue.specs.Group.{AreAlike, AreApart, IsJoined, any_has, has_sector}
use Rattle.mmc_queue.specs.Lent.{AreLent, IsLent, blocks_of, has_block, with_buffer, with_lent, with_sector}
use Rattle.mmc_queue.specs.LentLaws.{in_place}
use Rattle.mmc_queue.specs.Requests.{can_merge, count_of, end_of, has_its_bytes, kind_of, part_of, room_of, start_of}
use Rattle.mmc_queue.specs.Waiting.{AreSound, IsSound}
use Rattle.mmc_queue.specs.declared.entry.Entry.{Entry}
use Rattle.mmc_queue.specs.declared.group.Group.{Group}
use Rattle.mmc_queue.specs.declared.request.Request.{Request}
use Rattle.mmc_queue.specs.declared.extent.Extent.{Extent}

-- Requests and room stay.

lent_not : (e : Entry) → IsLent e e
lent_not e = record { ticket = refl; client = refl; request = refl; room = refl }

none_lent : (es : List Entry) → AreLent es es
none_lent [] = tt
none_lent (e ∷ es) = (lent_not e, none_lent es)

lent_again : (x y z : Entry) → IsLent x y → IsLent y z → IsLent x z
lent_again x y z p q = record {
  ticket = q.ticket ∙ p.ticket;
  client = q.client ∙ p.client;
  request = q.request ∙ p.request;
  room = q.room ∙ p.room;
}

all_again : (xs ys zs : List Entry) → AreLent xs ys → AreLent ys zs → AreLent xs zs
all_again [] [] [] p q = tt
all_again [] [] (z ∷ zs) p q = absurd q
all_again [] (y ∷ ys) zs p q = absurd p
all_again (x ∷ xs) [] zs p q = absurd p
all_again (x ∷ xs) (y ∷ ys) [] p q = absurd q
all_again (x ∷ xs) (y ∷ ys) (z ∷ zs) p q = (lent_again x y z p.0 q.0, all_again xs ys zs p.1 q.1)

one_by : (e : Entry) (es : List Entry) (s : ℕ) (left : List ℕ) (b : Bool) → has_block e e.buffer s ≡ b
    → length left ≡ 512
    → AreLent es (with_sector es s left)
    → AreLent (e ∷ es) (if b then (with_buffer e (s - start_of e.request) left ∷ es) else (e ∷ with_sector es s left))
one_by e es s left true has long rest =
    let there = (in_place (start_of e.request) (length (blocks_in e.buffer)) s has).0 in (
      record {
        ticket = refl;
        client = refl;
        request = refl;
        room = length_left e.buffer (s - start_of e.request) left there long;
      },
      none_lent es,
    )
one_by e es s left false has long rest = (lent_not e, rest)

one_lent : (es : List Entry) (s : ℕ) (left : List ℕ) → length left ≡ 512 → AreLent es (with_sector es s left)
one_lent [] s left long = tt
one_lent (e ∷ es) s left long = one_by e es s left (has_block e e.buffer s) refl long (one_lent es s left long)

pub extent_kept : (old new : Group) → IsRewritten blocks_of with_lent old new → new.extent ≡ old.extent
extent_kept old new nothing = refl
extent_kept old new (block now i left before below long) = extent_kept old now before

pub requests_kept : (old new : Group) → IsRewritten blocks_of with_lent old new
    → AreLent old.members.items new.members.items
requests_kept old new nothing = none_lent old.members.items
requests_kept old new (block now i left before below long) =
    all_again old.members.items now.members.items (with_sector now.members.items (now.extent.start + i) left)
    (requests_kept old now before) (one_lent now.members.items (now.extent.start + i) left long)

-- So they are joined as before.

same_length : (es vs : List Entry) → AreLent es vs → length vs ≡ length es
same_length [] [] l = refl
same_length [] (v ∷ vs) l = absurd l
same_length (e ∷ es) [] l = absurd l
same_length (e ∷ es) (v ∷ vs) l = ap suc (same_length es vs l.1)

same_any : (es vs : List Entry) (s : ℕ) → AreLent es vs → any_has vs s ≡ any_has es s
same_any [] [] s l = refl
same_any [] (v ∷ vs) s l = absurd l
same_any (e ∷ es) [] s l = absurd l
same_any (e ∷ es) (v ∷ vs) s l =
    ap (λ (r : Request). has_sector r s || any_has vs s) l.0.request
    ∙ ap (λ b. has_sector e.request s || b) (same_any es vs s l.1)

alike_kept : (extent : Extent) (es vs : List Entry) → AreLent es vs → AreAlike extent es → AreAlike extent vs
alike_kept extent [] [] l all = tt
alike_kept extent [] (v ∷ vs) l all = absurd l
alike_kept extent (e ∷ es) [] l all = absurd l
alike_kept extent (e ∷ es) (v ∷ vs) l all =
    (ap part_of l.0.request ∙ all.0, ap kind_of l.0.request ∙ all.1, alike_kept extent es vs l.1 all.2)

apart_kept : (es vs : List Entry) → AreLent es vs → AreApart es → AreApart vs
apart_kept [] [] l all = tt
apart_kept [] (v ∷ vs) l all = absurd l
apart_kept (e ∷ es) [] l all = absurd l
apart_kept (e ∷ es) (v ∷ vs) l all = (
  (λ s h. same_any es vs s l.1 ∙ all.0 s (sym (ap (λ (r : Request). has_sector r s) l.0.request) ∙ h)),
  apart_kept es vs l.1 all.1,
)

one_sound_still : (e v : Entry) → IsLent e v → IsSound e → IsSound v
one_sound_still e v l s =
    let same : e.request ≡ v.request = sym l.request in
    record {
      ticket = subst (λ t. t < 2 ^ 64) (sym l.ticket) s.ticket;
      some = subst (λ (r : Request). 0 < count_of r) same s.some;
      few = subst (λ (r : Request). can_merge (kind_of r) ≡ true → count_of r ≤ 1024) same s.few;
      inside = subst (λ (r : Request). end_of r ≤ 2 ^ 32) same s.inside;
      bytes = subst (λ (r : Request). has_its_bytes r ≡ true) same s.bytes;
      room = l.room ∙ (s.room ∙ ap room_of same);
    }

sound_kept : (es vs : List Entry) → AreLent es vs → AreSound es → AreSound vs
sound_kept [] [] l all = tt
sound_kept [] (v ∷ vs) l all = absurd l
sound_kept (e ∷ es) [] l all = absurd l
sound_kept (e ∷ es) (v ∷ vs) l all = (one_sound_still e v l.0 all.0, sound_kept es vs l.1 all.1)

joined_still : (es vs : List Entry) (extent : Extent) → AreLent es vs → IsJoined es extent → IsJoined vs extent
joined_still es vs extent l j =
    let long = same_length es vs l in
    let some = j.some in
    let few = j.few in
    record {
      alike = alike_kept extent es vs l j.alike;
      one_extent = λ s. same_any es vs s l ∙ j.one_extent s;
      apart = apart_kept es vs l j.apart;
      counted = long ∙ j.counted;
      some = omega (arith, long, some);
      few = omega (arith, long, few);
      short = j.short;
      alone = λ no. long ∙ j.alone no;
      sound = sound_kept es vs l j.sound;
    }

pub joined_kept : (old new : Group) → IsRewritten blocks_of with_lent old new → IsJoined old.members.items old.extent
    → IsJoined new.members.items new.extent
joined_kept old new r j =
    subst (λ extent. IsJoined new.members.items extent) (sym (extent_kept old new r))
    (joined_still old.members.items new.members.items old.extent (requests_kept old new r) j)
