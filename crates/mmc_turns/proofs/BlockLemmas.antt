-- The blocks of a group are those that its members have at their places.
use Rattle.std.proofs.Common.{◌+◌, ◌-◌, ◌<◌, ◌∙◌, ◌≡◌, ◌≤◌, List, [], arith, get_or, length, subst, sym, ℕ}
use Rattle.std.proofs.lemmas.List.{ext_get_or}
use Rattle.mmc_card.specs.Sectors.{Sector, pieces}
use Rattle.mmc_queue.specs.Group.{FormExtent, IsOneOf}
use Rattle.mmc_queue.specs.Requests.{count_of, start_of}
use Rattle.mmc_queue.specs.declared.entry.Entry.{Entry}
use Rattle.mmc_queue.specs.declared.group.Group.{Group}
use Rattle.mmc_turns.specs.Serving.{HoldTheirs}

module _ (held : Entry → List ℕ) (group : Group) (lent blocks : List Sector) (forms : FormExtent group.members.items group.extent)
    (lends : length lent ≡ group.extent.end - group.extent.start)
    (own : (e : Entry) (i : ℕ) → IsOneOf group.members.items e → i < count_of e.request
    → get_or lent (start_of e.request + i - group.extent.start) []
    ≡ get_or (pieces (count_of e.request) (held e)) i [])
    (long : length blocks ≡ group.extent.end - group.extent.start)
    (theirs : HoldTheirs held group.extent.start group.members.items blocks) where
  same_at : (k : ℕ) → k < length lent → get_or lent k [] ≡ get_or blocks k []
  same_at k below =
      let sector : ℕ = group.extent.start + k in
      let in_extent : sector < group.extent.end = omega (arith, below, lends) in
      let some = (forms.named sector).0 (omega arith, in_extent) in
      let e : Entry = some.0 in
      let from : start_of e.request ≤ sector = some.2.from in
      let to : sector < start_of e.request + count_of e.request = some.2.to in
      let i : ℕ = sector - start_of e.request in
      let place : start_of e.request + i - group.extent.start ≡ k = omega (arith, from) in
      let less : i < count_of e.request = omega (arith, from, to) in
      subst (λ n. get_or lent n [] ≡ get_or blocks n []) place
      (own e i some.1 less ∙ sym (theirs e i some.1 less))

  pub blocks_are_theirs : lent ≡ blocks
  blocks_are_theirs = ext_get_or [] lent blocks (lends ∙ sym long) same_at
