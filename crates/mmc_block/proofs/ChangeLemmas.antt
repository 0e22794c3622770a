-- The change that the run of a group makes is that of its requests together.
use Rattle.std.proofs.Common.{◌+◌, ◌-◌, ◌<◌, ◌∙◌, ◌∷◌, ◌≡◌, ◌≤◌, Bool, List, [], ap, arith, false, inl, inr, length, refl, subst, sym, true, ℕ}
use Rattle.std.specs.Prelude.{◌||◌, replicate, slice_index_or}
use Rattle.std.proofs.lemmas.Bool.{or_cases}
use Rattle.std.proofs.lemmas.List.{get_or-replicate, length-replicate}
use Rattle.mmc_card.specs.declared.part.Part.{Part}
use Rattle.mmc_card.specs.Sectors.{Change, Sector, part_number, pieces, touches, value_of}
use Rattle.mmc_card.proofs.SectorLemmas.{by_touch, same_part, touched_by, untouched}
use Rattle.mmc_bus.specs.BlockLaws.{length_pieces}
use Rattle.mmc_queue.specs.Group.{FormExtent, IsOneOf}
use Rattle.mmc_queue.specs.Lent.{write_blocks_of}
use Rattle.mmc_queue.specs.Requests.{Names, bytes_of, count_of, is_read, kind_of, part_of, start_of}
use Rattle.mmc_queue.specs.declared.entry.Entry.{Entry}
use Rattle.mmc_queue.specs.declared.group.Group.{Group}
use Rattle.mmc_requests.specs.declared.kind.Kind.{Kind}
use Rattle.mmc_requests.specs.declared.kind.Kind.TheVariants as kind
use Rattle.mmc_queue.specs.declared.request.Request.{Request}
use Rattle.mmc_queue.specs.declared.request.Request.TheVariants.{Erase, Read, Trim, Write}
use Rattle.mmc_switch.specs.declared.info.Info.{Info}
use Rattle.mmc_requests.specs.Changes.{erased_at}
use Rattle.mmc_block.specs.Changes.{change_of}
use Rattle.mmc_block.specs.Entries.{waits_of}
use Rattle.mmc_block.specs.Groups.{AllGive, IsChangeOf, any_touches}
use Rattle.mmc_block.specs.Service.{change_by, change_of_group}

-- Tests.

same_test : (a b : Bool) → (a ≡ true → b ≡ true) → (b ≡ true → a ≡ true) → a ≡ b
same_test true b forth back = sym (forth refl)
same_test false true forth back = back refl
same_test false false forth back = refl

never : (a : Bool) → (a ≡ true → ⊥) → a ≡ false
never true not = absurd (not refl)
never false not = refl

-- Of one request.

abbrev reads : Kind → Bool
reads kind.Read = true
reads kind.Write = false
reads kind.Erase = false
reads kind.Trim = false

read_by_kind : (r : Request) → is_read r ≡ reads (kind_of r)
read_by_kind (Read part start count) = refl
read_by_kind (Write part start count bytes) = refl
read_by_kind (Erase part start count) = refl
read_by_kind (Trim part start count) = refl

changes_there : (info : Info) (r : Request) → ((change_of info r).part ≡ part_of r) × ((change_of info r).start ≡ start_of r)
changes_there info (Read part start count) = (refl, refl)
changes_there info (Write part start count bytes) = (refl, refl)
changes_there info (Erase part start count) = (refl, refl)
changes_there info (Trim part start count) = (refl, refl)

changes_all : (info : Info) (r : Request) → is_read r ≡ false → length (change_of info r).values ≡ count_of r
changes_all info (Read part start count) h = cc
changes_all info (Write part start count bytes) h = length_pieces count bytes
changes_all info (Erase part start count) h = length-replicate count (replicate 512 info.erased_byte)
changes_all info (Trim part start count) h = length-replicate count (replicate 512 info.erased_byte)

changes_nothing : (info : Info) (r : Request) → is_read r ≡ true → (change_of info r).values ≡ []
changes_nothing info (Read part start count) h = refl
changes_nothing info (Write part start count bytes) h = cc
changes_nothing info (Erase part start count) h = cc
changes_nothing info (Trim part start count) h = cc

names_touched : (info : Info) (r : Request) (p : Part) (s : ℕ) → is_read r ≡ false → touches (change_of info r) p s ≡ true
    → Names r p s
names_touched info r p s writes t =
    let c = change_of info r in
    let h = by_touch (part_number c.part) (part_number p) c.start s (length c.values) t in
    let there = changes_there info r in
    let n = changes_all info r writes in
    let at = there.1 in
    record {
      part_is = sym there.0 ∙ same_part c.part p h.0;
      from = (let l = h.1 in omega (arith, l, at));
      to = (let l = h.2 in omega (arith, l, at, n));
    }

touched_named : (info : Info) (r : Request) (p : Part) (s : ℕ) → is_read r ≡ false → Names r p s
    → touches (change_of info r) p s ≡ true
touched_named info r p s writes names =
    let c = change_of info r in
    let there = changes_there info r in
    let n = changes_all info r writes in
    let at = there.1 in
    let from = names.from in
    let to = names.to in
    touched_by (part_number c.part) (part_number p) c.start s (length c.values) (ap part_number (there.0 ∙ names.part_is))
    (omega (arith, from, at)) (omega (arith, to, at, n))

-- Of several.

some_touched : (info : Info) (es : List Entry) (p : Part) (s : ℕ) → any_touches info (waits_of es) p s ≡ true
    → (e : Entry) × IsOneOf es e × (touches (change_of info e.request) p s ≡ true)
some_touched info [] p s t = cc
some_touched info (e ∷ es) p s t =
    elim (or_cases (touches (change_of info e.request) p s) (any_touches info (waits_of es) p s) t) [
      | inl here ↦ (e, inl refl, here)
      | inr there ↦ (let k = some_touched info es p s there in (k.0, inr k.1, k.2))
    ]

or_right : (a b : Bool) → b ≡ true → (a || b) ≡ true
or_right true b h = refl
or_right false b h = h

or_left : (a b : Bool) → a ≡ true → (a || b) ≡ true
or_left true b h = refl
or_left false b h = cc

touched_one : (info : Info) (es : List Entry) (e : Entry) (p : Part) (s : ℕ) → IsOneOf es e
    → touches (change_of info e.request) p s ≡ true → any_touches info (waits_of es) p s ≡ true
touched_one info [] e p s at t = absurd at
touched_one info (v ∷ vs) e p s (inl is) t =
    or_left (touches (change_of info v.request) p s) (any_touches info (waits_of vs) p s)
    (subst (λ (x : Entry). touches (change_of info x.request) p s ≡ true) (sym is) t)
touched_one info (v ∷ vs) e p s (inr at) t =
    or_right (touches (change_of info v.request) p s) (any_touches info (waits_of vs) p s) (touched_one info vs e p s at t)

all_give : (info : Info) (es : List Entry) (p : Part) (s : ℕ) (value : Sector)
    → ((e : Entry) → IsOneOf es e → touches (change_of info e.request) p s ≡ true → value_of (change_of info e.request) s ≡ value)
    → AllGive info (waits_of es) p s value
all_give info [] p s value each = tt
all_give info (e ∷ es) p s value each = (each e (inl refl), all_give info es p s value (λ v at. each v (inr at)))

-- What is written.

value_written : (info : Info) (r : Request) (s : ℕ) → kind_of r ≡ kind.Write
    → value_of (change_of info r) s ≡ slice_index_or (pieces (count_of r) (bytes_of r)) (s - start_of r) []
value_written info (Read part start count) s is = cc
value_written info (Write part start count bytes) s is = refl
value_written info (Erase part start count) s is = cc
value_written info (Trim part start count) s is = cc

-- What is erased.

value_erased : (info : Info) (part : Part) (start count s : ℕ) → start ≤ s → s < start + count
    → value_of (erased_at info part start count) s ≡ replicate 512 info.erased_byte
value_erased info part start count s from to =
    get_or-replicate count (s - start) (replicate 512 info.erased_byte) [] (omega (arith, from, to))

erased_value : (info : Info) (r : Request) (p : Part) (s : ℕ) → is_read r ≡ false → (kind_of r ≡ kind.Write → ⊥) → Names r p s
    → value_of (change_of info r) s ≡ replicate 512 info.erased_byte
erased_value info (Read part start count) p s writes other names = cc
erased_value info (Write part start count bytes) p s writes other names = absurd (other refl)
erased_value info (Erase part start count) p s writes other names = value_erased info part start count s names.from names.to
erased_value info (Trim part start count) p s writes other names = value_erased info part start count s names.from names.to

-- A group, by the laws of the queue.

module _ (info : Info) (g : Group) (run : FormExtent g.members.items g.extent)
    (lends : g.extent.kind ≡ kind.Write → length (write_blocks_of g) ≡ g.extent.end - g.extent.start)
    (own : (e : Entry) (i : ℕ) → g.extent.kind ≡ kind.Write → IsOneOf g.members.items e → i < count_of e.request
    → slice_index_or (write_blocks_of g) (start_of e.request + i - g.extent.start) []
    ≡ slice_index_or (pieces (count_of e.request) (bytes_of e.request)) i []) where
  reads_as : (k : Kind) → g.extent.kind ≡ k → (e : Entry) → IsOneOf g.members.items e → is_read e.request ≡ reads k
  reads_as k is e at = read_by_kind e.request ∙ ap reads ((run.alike e at).1 ∙ is)

  -- a change of the run's sectors is of those that a member changes
  all_touched : (c : Change) (k : Kind) → g.extent.kind ≡ k → reads k ≡ false → c.part ≡ g.extent.part → c.start ≡ g.extent.start
      → length c.values ≡ g.extent.end - g.extent.start → (p : Part) (s : ℕ)
      → any_touches info (waits_of g.members.items) p s ≡ touches c p s
  all_touched c k is writes part start long p s =
      same_test (any_touches info (waits_of g.members.items) p s) (touches c p s)
      (λ t.
      let x = some_touched info g.members.items p s t in
      let names = names_touched info x.0.request p s (reads_as k is x.0 x.1 ∙ writes) x.2 in
      let same : g.extent.part ≡ p = sym (run.alike x.0 x.1).0 ∙ names.part_is in
      let inside = (run.named s).1 (x.0, x.1, subst (λ q. Names x.0.request q s) (sym same) names) in
      let from = inside.0 in
      let to = inside.1 in
      touched_by (part_number c.part) (part_number p) c.start s (length c.values) (ap part_number (part ∙ same))
      (omega (arith, from, start)) (omega (arith, from, to, start, long)))
      (λ t.
      let h = by_touch (part_number c.part) (part_number p) c.start s (length c.values) t in
      let same : g.extent.part ≡ p = sym part ∙ same_part c.part p h.0 in
      let from = h.1 in
      let to = h.2 in
      let x = (run.named s).0 (omega (arith, from, start), omega (arith, from, to, start, long)) in
      touched_one info g.members.items x.0 p s x.1
      (touched_named info x.0.request p s (reads_as k is x.0 x.1 ∙ writes) (subst (λ q. Names x.0.request q s) same x.2)))

  erased_alike : (k : Kind) → g.extent.kind ≡ k → reads k ≡ false → (k ≡ kind.Write → ⊥) → (p : Part) (s : ℕ) (e : Entry)
      → IsOneOf g.members.items e → touches (change_of info e.request) p s ≡ true
      → value_of (change_of info e.request) s
      ≡ value_of (erased_at info g.extent.part g.extent.start (g.extent.end - g.extent.start)) s
  erased_alike k is writes other p s e at t =
      let names = names_touched info e.request p s (reads_as k is e at ∙ writes) t in
      let inside = (run.named s).1 (e, at, subst (λ q. Names e.request q s) (sym names.part_is ∙ (run.alike e at).0) names) in
      let from = inside.0 in
      let to = inside.1 in
      erased_value info e.request p s (reads_as k is e at ∙ writes) (λ w. other (sym is ∙ sym (run.alike e at).1 ∙ w)) names
      ∙ sym (value_erased info g.extent.part g.extent.start (g.extent.end - g.extent.start) s from (omega (arith, from, to)))

  changed_by : (k : Kind) → g.extent.kind ≡ k → IsChangeOf info (waits_of g.members.items) (change_by info g k)
  changed_by kind.Read is = record {
    touched = λ p s.
        never (any_touches info (waits_of g.members.items) p s)
        (λ t. let x = some_touched info g.members.items p s t in
        untouched (change_of info x.0.request) p s (changes_nothing info x.0.request (reads_as kind.Read is x.0 x.1)) x.2)
        ∙ sym (never (touches (change_by info g kind.Read) p s) (λ t. untouched (change_by info g kind.Read) p s refl t));
    given = λ p s. all_give info g.members.items p s (value_of (change_by info g kind.Read) s)
        (λ e at t. absurd (untouched (change_of info e.request) p s (changes_nothing info e.request (reads_as kind.Read is e at)) t));
  }
  changed_by kind.Write is = record {
    touched = all_touched (change_by info g kind.Write) kind.Write is refl refl refl (lends is);
    given = λ p s. all_give info g.members.items p s (value_of (change_by info g kind.Write) s)
        (λ e at t.
        let names = names_touched info e.request p s (reads_as kind.Write is e at) t in
        let from = names.from in
        let to = names.to in
        let i : ℕ = s - start_of e.request in
        let back : start_of e.request + i ≡ s = omega (arith, from) in
        value_written info e.request s ((run.alike e at).1 ∙ is)
        ∙ sym (own e i is at (omega (arith, from, to)))
        ∙ ap (λ n. slice_index_or (write_blocks_of g) (n - g.extent.start) []) back);
  }
  changed_by kind.Erase is = record {
    touched = all_touched (change_by info g kind.Erase) kind.Erase is refl refl refl
        (length-replicate (g.extent.end - g.extent.start) (replicate 512 info.erased_byte));
    given = λ p s. all_give info g.members.items p s (value_of (change_by info g kind.Erase) s)
        (erased_alike kind.Erase is refl (λ e. cc) p s);
  }
  changed_by kind.Trim is = record {
    touched = all_touched (change_by info g kind.Trim) kind.Trim is refl refl refl
        (length-replicate (g.extent.end - g.extent.start) (replicate 512 info.erased_byte));
    given = λ p s. all_give info g.members.items p s (value_of (change_by info g kind.Trim) s)
        (erased_alike kind.Trim is refl (λ e. cc) p s);
  }

  pub group_changes : IsChangeOf info (waits_of g.members.items) (change_of_group info g)
  group_changes = changed_by g.extent.kind refl
