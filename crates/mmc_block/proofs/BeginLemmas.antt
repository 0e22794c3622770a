-- A run may begin for a group whose requests may be served.
use Rattle.std.proofs.Common.{◌+◌, ◌-◌, ◌∙◌, ◌∷◌, ◌≡◌, ◌≤◌, List, Some, [], ap, arith, false, inl, inr, length, refl, subst, sym, true}
use Rattle.mmc_card.specs.Sectors.{is_boot}
use Rattle.mmc_erase.specs.Job.{suits}
use Rattle.mmc_erase.specs.declared.how.How.{How}
use Rattle.mmc_queue.specs.Group.{FormExtent, IsFair, IsOneOf}
use Rattle.mmc_requests.specs.Kinds.{kind_of_how}
use Rattle.mmc_queue.specs.Requests.{count_of, is_read, kind_of, part_of, start_of}
use Rattle.mmc_queue.specs.declared.entry.Entry.{Entry}
use Rattle.mmc_queue.specs.declared.group.Group.{Group}
use Rattle.mmc_requests.specs.declared.kind.Kind.TheVariants as kind
use Rattle.mmc_queue.specs.declared.request.Request.{Request}
use Rattle.mmc_queue.specs.declared.request.Request.TheVariants.{Erase, Read, Trim, Write}
use Rattle.std.specs.Prelude.{IsSome}
use Rattle.mmc_switch.specs.Info.{sectors_of}
use Rattle.mmc_switch.specs.Sizes.{size_of}
use Rattle.mmc_switch.specs.UnderWay.{known_part, part_of as selected_part, room_of}
use Rattle.mmc_switch.specs.declared.info.Info.{Info}
use Rattle.mmc_switch.specs.declared.session.Session.{Session}
use Rattle.mmc_block.specs.Entries.{AreServable, IsServable}
use Rattle.mmc_block.specs.Service.{EmptyIfIdle, HasStarted, IfIdle, service_of, lasting_of}
use Rattle.mmc_block.specs.Service.Service.{Serving}
use Rattle.mmc_block.specs.declared.service.Attempt.{Attempt}
use Rattle.mmc_switch.specs.declared.stands.Stands.{Stands}
use Rattle.mmc_block.specs.declared.service.Stage.TheVariants.{At}
use Rattle.mmc_block.specs.declared.service.Phase.{Phase}
use Rattle.mmc_block.specs.declared.service.Phase.TheVariants as phase

pub is_servable : (info : Info) (es : List Entry) (e : Entry) → IsOneOf es e → AreServable info es
    → IsServable info e.request e.buffer
is_servable info [] e at all = absurd at
is_servable info (v ∷ vs) e (inl is) all = subst (λ (x : Entry). IsServable info x.request x.buffer) is all.0
is_servable info (v ∷ vs) e (inr at) all = is_servable info vs e at all.1

only_one : (es : List Entry) (a b : Entry) → length es ≡ 1 → IsOneOf es a → IsOneOf es b → a ≡ b
only_one [] a b one p q = absurd p
only_one (e ∷ []) a b one (inl p) (inl q) = sym p ∙ q
only_one (e ∷ []) a b one (inl p) (inr q) = absurd q
only_one (e ∷ []) a b one (inr p) q = absurd p
only_one (e ∷ f ∷ es) a b one p q = absurd (omega (arith, one))

other_is_no_read : (r : Request) → (kind_of r ≡ kind.Read → ⊥) → is_read r ≡ false
other_is_no_read (Read part start count) other = absurd (other refl)
other_is_no_read (Write part start count bytes) other = refl
other_is_no_read (Erase part start count) other = refl
other_is_no_read (Trim part start count) other = refl

-- what an erase or a trim keeps to
abbrev pub IsSuited : How → Info → Request → Type 0
IsSuited how info r =
    (is_boot (part_of r) ≡ false) × (suits how info (size_of info.sizes (part_of r)) (start_of r) (count_of r) ≡ true)

pub run_exists : (info : Info) (g : Group) → AreServable info g.members.items → FormExtent g.members.items g.extent
    → IsSome (sectors_of info g.extent.part)
run_exists info g servable run =
    let last = run.last.0 in
    subst (λ p. IsSome (sectors_of info p)) (run.alike last run.last.1).0
    (is_servable info g.members.items last run.last.1 servable).exists

-- The session, whose partition is that of the group.
module _ (session : Session) (g : Group) (selected : session.selected ≡ Some g.extent.part)
    (servable : AreServable (lasting_of session) g.members.items) (run : FormExtent g.members.items g.extent) where
  abbrev last : Entry
  last = run.last.0

  alike : (part_of last.request ≡ g.extent.part) × (kind_of last.request ≡ g.extent.kind)
  alike = run.alike last run.last.1

  its_part : selected_part session ≡ part_of last.request
  its_part = ap known_part selected ∙ sym alike.0

  its_room : room_of session ≡ size_of session.info.sizes (part_of last.request)
  its_room = ap (size_of session.info.sizes) its_part

  may : IsServable (lasting_of session) last.request last.buffer
  may = is_servable (lasting_of session) g.members.items last run.last.1 servable

  pub run_inside : g.extent.start + (g.extent.end - g.extent.start) ≤ room_of session
  run_inside =
      let fits = may.in_range in
      let end = run.last.2 in
      let some = run.some in
      let room = its_room in
      omega (arith, fits, end, some, room)

  pub run_writable : (g.extent.kind ≡ kind.Read → ⊥) → session.info.read_only ≡ false
  run_writable other = may.writable (other_is_no_read last.request (λ read. other (sym alike.1 ∙ read)))

  -- one that is alone
  module _ (how : How) (is : g.extent.kind ≡ kind_of_how how) (one : length g.members.items ≡ 1) where
    suits_alone : IsSuited how (lasting_of session) last.request
    suits_alone = may.erasable how (alike.1 ∙ is)

    starts_there : start_of last.request ≡ g.extent.start
    starts_there =
        let x = (run.named g.extent.start).0 (omega arith, run.some) in
        let same : x.0 ≡ last = only_one g.members.items x.0 last one x.1 run.last.1 in
        let from = x.2.from in
        let at : start_of x.0.request ≡ start_of last.request = ap (λ (e : Entry). start_of e.request) same in
        let low = (run.within last run.last.1).0 in
        omega (arith, from, at, low)

    counts_all : count_of last.request ≡ g.extent.end - g.extent.start
    counts_all = let end = run.last.2 in let at = starts_there in omega (arith, end, at)

    pub run_erasable : is_boot (selected_part session) ≡ false
    run_erasable = ap is_boot its_part ∙ suits_alone.0

    pub run_suits : suits how (lasting_of session) (room_of session) g.extent.start (g.extent.end - g.extent.start) ≡ true
    run_suits =
        ap (λ n. suits how (lasting_of session) n g.extent.start (g.extent.end - g.extent.start)) its_room
        ∙ ap (λ n. suits how (lasting_of session) (size_of session.info.sizes (part_of last.request)) n (g.extent.end - g.extent.start))
        (sym starts_there)
        ∙ ap (λ n. suits how (lasting_of session) (size_of session.info.sizes (part_of last.request)) (start_of last.request) n)
        (sym counts_all)
        ∙ suits_alone.1

-- Where nothing is in service.

pub nobody_served : (was : Phase) (attempt : Attempt) → IfIdle was (λ stands. Unit {0}) → EmptyIfIdle was attempt
    → attempt.group.members.items ≡ []
nobody_served (phase.Idle stands) attempt idle empty = empty.0
nobody_served (phase.Serving stage) attempt idle empty = absurd idle
nobody_served phase.Taken attempt idle empty = absurd idle

-- and the next group goes into service
pub group_started : (was : Phase) (stands : Stands) (old left : List Entry) (attempt : Attempt) (group : Group) → was ≡ phase.Idle stands
    → EmptyIfIdle was attempt → IsFair old group.members.items group.extent left
    → HasStarted old (service_of was attempt) left (Serving (At stands) (record attempt { group = group; failed = 0 }))
group_started was stands old left attempt group is empty fair =
    let none = subst (λ (p : Phase). EmptyIfIdle p attempt) is empty in
    subst (λ (p : Phase). HasStarted old (service_of p attempt) left (Serving (At stands) (record attempt { group = group; failed = 0 })))
    (sym is) (inr (
      record attempt { group = group; failed = 0 },
      refl,
      record { members_are = refl; others_are = none.1; joined = fair.joined; failed = refl },
      fair,
    ))
