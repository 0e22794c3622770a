-- A block that a group lends is its member's own.
use Rattle.std.proofs.Common.{◌+◌, ◌-◌, ◌<◌, ◌∙◌, ◌∷◌, ◌≡◌, List, Some, [], ap, arith, false, inl, inr, length, refl}
use Rattle.std.proofs.Common.{sym, true, ℕ}
use Rattle.std.specs.Prelude.{slice_index_or}
use Rattle.mmc_card.specs.Sectors.{pieces}
use Rattle.mmc_queue.specs.Group.{AreApart, IsJoined, IsOneOf, any_has, has_sector}
use Rattle.mmc_queue.specs.Lent.{block_at, block_of, blocks_held, blocks_of, has_block, held_by, write_blocks_of}
use Rattle.mmc_queue.specs.LentLaws.{nth_block}
use Rattle.mmc_queue.specs.Requests.{bytes_of, count_of, end_of, kind_of, start_of}
use Rattle.mmc_queue.specs.Waiting.{IsSound}
use Rattle.mmc_queue.specs.declared.entry.Entry.{Entry}
use Rattle.mmc_queue.specs.declared.group.Group.{Group}
use Rattle.mmc_queue.specs.declared.held.Held.{Held}
use Rattle.mmc_queue.specs.declared.held.Held.TheVariants.{Bytes, Room}
use Rattle.mmc_requests.specs.declared.kind.Kind.TheVariants as kind
use Rattle.mmc_queue.proofs.CountLemmas.{IsFilled, all_lent, length_of_write, room_of_read, same_sectors, whole}
use Rattle.mmc_queue.proofs.FairLemmas.{not_both}
use Rattle.mmc_queue.proofs.JoinedLemmas.{has_any, lies_in, member_alike, member_sound, member_within}
use Rattle.mmc_queue.proofs.LentLemmas.{same_some}

-- the block for a sector that a member names is that member's
own_block : (held : Held) (es : List Entry) (e : Entry) (s : ℕ)
    → ((v : Entry) → IsOneOf es v → IsFilled held v) → AreApart es
    → IsOneOf es e → has_sector e.request s ≡ true
    → block_at (held_by held) es s ≡ Some (block_of e (held_by held e) s)
own_block held [] e s filled apart m h = absurd m
own_block held (v ∷ es) e s filled apart (inl is) h =
    let has : has_block v (held_by held v) s ≡ true =
    same_sectors held v s (filled v (inl refl)) ∙ (ap (λ (x : Entry). has_sector x.request s) is ∙ h) in
    rw has (ap (λ (x : Entry). Some (block_of x (held_by held x) s)) is)
own_block held (v ∷ es) e s filled apart (inr m) h =
    let no : has_block v (held_by held v) s ≡ false =
    same_sectors held v s (filled v (inl refl))
    ∙ not_both (has_sector v.request s) (any_has es s) (apart.0 s) (has_any es e s m h) in
    rw no (own_block held es e s (λ x n. filled x (inr n)) apart.1 m h)

held_block : (held : Held) (g : Group) → IsJoined g.members.items g.extent
    → ((e : Entry) → IsSound e → kind_of e.request ≡ g.extent.kind → IsFilled held e)
    → (e : Entry) (i : ℕ) → IsOneOf g.members.items e → i < count_of e.request
    → slice_index_or (blocks_held held g) (start_of e.request + i - g.extent.start) []
    ≡ slice_index_or (pieces (count_of e.request) (held_by held e)) i []
held_block held g j filled e i m below =
    let es : List Entry = g.members.items in
    let start : ℕ = start_of e.request in
    let k : ℕ = start + i - g.extent.start in
    let full = λ (v : Entry) (n : IsOneOf es v). filled v (member_sound es g.extent j v n) (member_alike es g.extent j v n).1 in
    let within = member_within es g.extent j e m in
    let front = within.0 in
    let back = within.1 in
    let all = all_lent held g j filled in
    let here : g.extent.start + k ≡ start + i = omega (arith, front) in
    let nth = nth_block held es g.extent.start (g.extent.end - g.extent.start) k (omega (arith, front, back, below, all)) in
    let own = own_block held es e (start + i) full j.apart m
    (lies_in start (end_of e.request) (start + i) (omega arith) (omega (arith, below))) in
    let both = sym nth ∙ (ap (block_at (held_by held) es) here ∙ own) in
    let count = whole (length (held_by held e)) (count_of e.request) (full e m) in
    let back_again : start + i - start ≡ i = omega arith in
    same_some (slice_index_or (blocks_held held g) k []) (block_of e (held_by held e) (start + i)) both
    ∙ (ap (λ n. slice_index_or (pieces n (held_by held e)) (start + i - start) []) count
    ∙ ap (λ n. slice_index_or (pieces (count_of e.request) (held_by held e)) n []) back_again)

pub reads_own : (g : Group) (e : Entry) (i : ℕ) → IsJoined g.members.items g.extent → g.extent.kind ≡ kind.Read
    → IsOneOf g.members.items e → i < count_of e.request
    → slice_index_or (blocks_of g) (start_of e.request + i - g.extent.start) []
    ≡ slice_index_or (pieces (count_of e.request) e.buffer) i []
reads_own g e i j is m below =
    held_block Room g j (λ v sound same. sound.room ∙ room_of_read v.request (same ∙ is)) e i m below

pub writes_own : (g : Group) (e : Entry) (i : ℕ) → IsJoined g.members.items g.extent → g.extent.kind ≡ kind.Write
    → IsOneOf g.members.items e → i < count_of e.request
    → slice_index_or (write_blocks_of g) (start_of e.request + i - g.extent.start) []
    ≡ slice_index_or (pieces (count_of e.request) (bytes_of e.request)) i []
writes_own g e i j is m below =
    held_block Bytes g j (λ v sound same. length_of_write v.request (same ∙ is) sound.bytes) e i m below
