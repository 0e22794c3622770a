-- How many blocks a group lends.
use Rattle.std.proofs.Common.{◌&&◌, ◌*◌, ◌+◌, ◌-◌, ◌/◌, ◌<◌, ◌∙◌, ◌≡◌, ◌≤◌, ◌∷◌, Bool, List, None, Option, Some, [], ap, arith}
use Rattle.std.proofs.Common.{false, length, refl, suc, sym, true, zero, ℕ}
use Rattle.std.specs.Prelude.{◌||◌, if◌then◌else◌, nat_le, nat_lt}
use Rattle.std.proofs.lemmas.Bool.{true≢false}
use Rattle.std.proofs.lemmas.Bool.Decides.{nat_tests}
use Rattle.mmc_card.specs.Sectors.{Sector}
use Rattle.mmc_bus.specs.BlockLaws.{length_pieces}
use Rattle.mmc_bus.specs.Bytes.{blocks_in}
use Rattle.mmc_queue.specs.Group.{AreAlike, IsJoined, any_has, has_sector}
use Rattle.mmc_queue.specs.Lent.{before_rest, block_at, block_of, blocks_from, blocks_held, blocks_of, has_block, held_by, write_blocks_of}
use Rattle.mmc_queue.specs.Requests.{bytes_of, count_of, has_its_bytes, kind_of, room_of, start_of}
use Rattle.mmc_queue.specs.Waiting.{AreSound, IsSound}
use Rattle.mmc_queue.specs.declared.entry.Entry.{Entry}
use Rattle.mmc_queue.specs.declared.group.Group.{Group}
use Rattle.mmc_queue.specs.declared.held.Held.{Held}
use Rattle.mmc_queue.specs.declared.held.Held.TheVariants.{Bytes, Room}
use Rattle.mmc_requests.specs.declared.kind.Kind.TheVariants as kind
use Rattle.mmc_queue.specs.declared.request.Request.{Request}
use Rattle.mmc_queue.specs.declared.request.Request.TheVariants.{Erase, Read, Trim, Write}
use Rattle.mmc_queue.specs.declared.extent.Extent.{Extent}
use Rattle.mmc_queue.proofs.FindLemmas.{same_number}

pub room_of_read : (r : Request) → kind_of r ≡ kind.Read → room_of r ≡ 512 * count_of r
room_of_read (Read part start count) h = refl
room_of_read (Write part start count bytes) h = cc
room_of_read (Erase part start count) h = cc
room_of_read (Trim part start count) h = cc

pub length_of_write : (r : Request) → kind_of r ≡ kind.Write → has_its_bytes r ≡ true → length (bytes_of r) ≡ 512 * count_of r
length_of_write (Read part start count) h has = cc
length_of_write (Write part start count bytes) h has = same_number (length bytes) (512 * count) has
length_of_write (Erase part start count) h has = cc
length_of_write (Trim part start count) h has = cc

pub whole : (n m : ℕ) → n ≡ 512 * m → n / 512 ≡ m
whole n m h = omega (arith, h)

-- 512 bytes for each sector
abbrev pub IsFilled : Held → Entry → Type 0
IsFilled held e = length (held_by held e) ≡ 512 * count_of e.request

-- an entry with these has a block for each of its sectors
pub same_sectors : (held : Held) (e : Entry) (s : ℕ) → IsFilled held e → has_block e (held_by held e) s ≡ has_sector e.request s
same_sectors held e s filled =
    let n : ℕ = length (held_by held e) / 512 in
    let count : length (blocks_in (held_by held e)) ≡ count_of e.request =
    length_pieces n (held_by held e) ∙ whole (length (held_by held e)) (count_of e.request) filled in
    ap (λ m. nat_le (start_of e.request) s && nat_lt s (start_of e.request + m)) count

abbrev is_some : Option Sector → Bool
is_some None = false
is_some (Some b) = true

some_by : (held : Held) (e : Entry) (es : List Entry) (s : ℕ) (b : Bool) → (b || any_has es s) ≡ true
    → (any_has es s ≡ true → is_some (block_at (held_by held) es s) ≡ true)
    → is_some (if b then Some (block_of e (held_by held e) s) else block_at (held_by held) es s) ≡ true
some_by held e es s true h rest = refl
some_by held e es s false h rest = rest h

some_block : (held : Held) (extent : Extent) (es : List Entry) (s : ℕ) → ((e : Entry) → IsSound e → kind_of e.request ≡ extent.kind → IsFilled held e)
    → AreAlike extent es → AreSound es → any_has es s ≡ true
    → is_some (block_at (held_by held) es s) ≡ true
some_block held extent [] s filled alike sound h = absurd (true≢false (sym h))
some_block held extent (e ∷ es) s filled alike sound h =
    let same = same_sectors held e s (filled e sound.0 alike.1) in
    some_by held e es s (has_block e (held_by held e) s) (ap (λ b. b || any_has es s) same ∙ h)
    (λ k. some_block held extent es s filled alike.2 sound.1 k)

count_by : (o : Option Sector) (rest : List Sector) (n : ℕ) → is_some o ≡ true → length rest ≡ n
    → length (before_rest o rest) ≡ suc n
count_by None rest n h is = absurd (true≢false (sym h))
count_by (Some b) rest n h is = ap suc is

all_blocks : (held : Held) (es : List Entry) (s n : ℕ)
    → ((t : ℕ) → s ≤ t → t < s + n → is_some (block_at (held_by held) es t) ≡ true)
    → length (blocks_from (held_by held) es s n) ≡ n
all_blocks held es s zero h = refl
all_blocks held es s (suc n) h =
    count_by (block_at (held_by held) es s) (blocks_from (held_by held) es (suc s) n) n (h s (omega arith) (omega arith))
    (all_blocks held es (suc s) n (λ t p q. h t (omega (arith, p)) (omega (arith, q))))

inside : (start end t : ℕ) → start ≤ t → t < start + (end - start) → (nat_le start t && nat_lt t end) ≡ true
inside start end t p q = grind (arith, nat_tests)

pub all_lent : (held : Held) (g : Group) → IsJoined g.members.items g.extent
    → ((e : Entry) → IsSound e → kind_of e.request ≡ g.extent.kind → IsFilled held e)
    → length (blocks_held held g) ≡ g.extent.end - g.extent.start
all_lent held g f filled =
    all_blocks held g.members.items g.extent.start (g.extent.end - g.extent.start)
    (λ t p q. some_block held g.extent g.members.items t filled f.alike f.sound (f.one_extent t ∙ inside g.extent.start g.extent.end t p q))

pub reads_lend_all : (g : Group) → IsJoined g.members.items g.extent → g.extent.kind ≡ kind.Read
    → length (blocks_of g) ≡ g.extent.end - g.extent.start
reads_lend_all g f is =
    all_lent Room g f (λ e sound same. sound.room ∙ room_of_read e.request (same ∙ is))

pub writes_lend_all : (g : Group) → IsJoined g.members.items g.extent → g.extent.kind ≡ kind.Write
    → length (write_blocks_of g) ≡ g.extent.end - g.extent.start
writes_lend_all g f is =
    all_lent Bytes g f (λ e sound same. length_of_write e.request (same ∙ is) sound.bytes)
