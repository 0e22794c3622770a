-- Lists of numbers below 256.
use Rattle.std.proofs.Common.{◌&&◌, ◌*◌, ◌+◌, ◌<◌, ◌≡◌, ◌≤◌, ◌∷◌, Bool, List, [], arith, false, length, suc, true, zero}
use Rattle.std.proofs.Common.{◌∙◌, ap, refl, ℕ}
use Rattle.std.specs.Prelude.{◌%◌, ◌==◌, None, Option, Some, if◌then◌else◌, nat_lt, replicate, slice_index, slice_set}
use Rattle.std.proofs.lemmas.Bool.Decides.{nat_tests}
use Rattle.std.proofs.lemmas.List.{get_or-set_other, get_or-set_same, length-replicate, length-set}
use Rattle.mmc_frame.specs.Field.{field}
use Rattle.mmc_frame.specs.Flips.{AreBytes}
use Rattle.mmc_regs.specs.Scr.{data_stat_after_erase, scr_number}
use Rattle.mmc_ext_csd.specs.ExtCsd.{erased_mem_cont}
use Rattle.mmc_card.proofs.Conditions.{by_cond}
use Rattle.mmc_card.proofs.Narrow.{both}
use Rattle.mmc_card.specs.Card.{Card, IsBlock}
use Rattle.mmc_card.specs.Made.{Made, erased_byte_of_card, erased_sector, is_sd}
use Rattle.mmc_card.specs.RowsSwitch.{access_number, ext_csd_now, partition_config_for, refusal, timing_number}
use Rattle.mmc_card.specs.RowsSwitch.{IsExtCsdOf, is_read, is_read_of_status, reread, status_sent, width_number, with_second_group}
use Rattle.mmc_card.specs.CardAnswer.{Choice}
use Rattle.mmc_card.specs.declared.exchange.Timing.{Timing}
use Rattle.mmc_card.specs.declared.exchange.Timing.TheVariants.{Default, High}
use Rattle.mmc_card.specs.declared.exchange.Width.{Width}
use Rattle.mmc_card.specs.declared.exchange.Width.TheVariants.{Eight, Four, One}
use Rattle.mmc_card.specs.declared.part.Part.{Part}
use Rattle.mmc_card.specs.declared.part.Part.TheVariants.{Boot1, Boot2, Gp1, Gp2, Gp3, Gp4, User}

-- a test, for bytes that are written out
abbrev pub are_bytes : List ℕ → Bool
are_bytes [] = true
are_bytes (x ∷ xs) = nat_lt x 256 && are_bytes xs

below_byte : (x : ℕ) → nat_lt x 256 ≡ true → x < 256
below_byte x h = grind (arith, nat_tests, h)

pub bytes_by : (xs : List ℕ) → are_bytes xs ≡ true → AreBytes xs
bytes_by [] h = tt
bytes_by (x ∷ xs) h = let parts = both (nat_lt x 256) (are_bytes xs) h in (below_byte x parts.0, bytes_by xs parts.1)

-- what is known of an array
pub bytes_at : (xs : List ℕ) → ((i : ℕ) → slice_index xs i < 256) → AreBytes xs
bytes_at [] h = tt
bytes_at (x ∷ xs) h = (h 0, bytes_at xs (λ i. h (suc i)))

pub bytes_replicate : (n x : ℕ) → x < 256 → AreBytes (replicate n x)
bytes_replicate zero x h = tt
bytes_replicate (suc n) x h = (h, bytes_replicate n x h)

pub bytes_set : (xs : List ℕ) (i x : ℕ) → x < 256 → AreBytes xs → AreBytes (slice_set xs i x)
bytes_set [] i x h bytes = tt
bytes_set (y ∷ xs) zero x h bytes = (h, bytes.1)
bytes_set (y ∷ xs) (suc i) x h bytes = (bytes.0, bytes_set xs i x h bytes.1)

-- The EXT_CSD as it is.

width_below : (width : Width) → width_number width < 256
width_below One = omega arith
width_below Four = omega arith
width_below Eight = omega arith

timing_below : (timing : Timing) → timing_number timing < 256
timing_below Default = omega arith
timing_below High = omega arith

pub access_below : (part : Part) → access_number part < 8
access_below User = omega arith
access_below Boot1 = omega arith
access_below Boot2 = omega arith
access_below Gp1 = omega arith
access_below Gp2 = omega arith
access_below Gp3 = omega arith
access_below Gp4 = omega arith

config_below : (config access : ℕ) → access < 8 → 8 * field 7 3 config + access < 256
config_below config access h = omega (arith, h)

byte_of_group : (n : ℕ) → n ≤ 1 → n < 256
byte_of_group n h = omega (arith, h)

pub ext_csd_bytes : (c : Card) → c.erase_group_def ≤ 1 → AreBytes c.made.ext_csd → AreBytes (ext_csd_now c)
ext_csd_bytes c group bytes =
    bytes_set _ 185 (timing_number c.timing) (timing_below c.timing)
    (bytes_set _ 183 (width_number c.width) (width_below c.width)
    (bytes_set _ 179 (partition_config_for c.made c.part) (config_below _ (access_number c.part) (access_below c.part))
    (bytes_set c.made.ext_csd 175 c.erase_group_def (byte_of_group c.erase_group_def group) bytes)))

-- As it is sent.

pub reread_bytes : (is_read : ℕ → Bool) (others : List (ℕ × ℕ)) (bytes : List ℕ) → AreBytes bytes → AreBytes (reread is_read others bytes)
reread_bytes is_read [] bytes are = are
reread_bytes is_read (other ∷ others) bytes are =
    reread_bytes is_read others _
    (by_cond AreBytes (is_read other.0) (λ _. are) (λ _. bytes_set bytes other.0 (other.1 % 256) (omega arith) are))

pub reread_length : (is_read : ℕ → Bool) (others : List (ℕ × ℕ)) (bytes : List ℕ) → length (reread is_read others bytes) ≡ length bytes
reread_length is_read [] bytes = refl
reread_length is_read (other ∷ others) bytes =
    reread_length is_read others _
    ∙ by_cond (λ (xs : List ℕ). length xs ≡ length bytes) (is_read other.0) (λ _. refl)
    (λ _. length-set bytes other.0 (other.1 % 256))

pub reread_at : (is_read : ℕ → Bool) (others : List (ℕ × ℕ)) (bytes : List ℕ) (i : ℕ) → is_read i ≡ true
    → slice_index (reread is_read others bytes) i ≡ slice_index bytes i
reread_at is_read [] bytes i read = refl
reread_at is_read (other ∷ others) bytes i read =
    reread_at is_read others _ i read
    ∙ by_cond (λ (xs : List ℕ). slice_index xs i ≡ slice_index bytes i) (is_read other.0) (λ _. refl)
    (λ unread. get_or-set_other bytes other.0 i (other.1 % 256) 0 (λ same. cc (ap is_read same, read, unread)))

pub reread_is : (unread : List (ℕ × ℕ)) (card : Card) → IsExtCsdOf card (reread is_read unread (ext_csd_now card))
reread_is unread card =
    record { len = reread_length is_read unread (ext_csd_now card); read = λ i read. reread_at is_read unread (ext_csd_now card) i read }

-- A switch status that refuses.

selected_below : (selects_none : Bool) (byte : ℕ) → 16 * field 7 4 byte + (if selects_none then 15 else 0) < 256
selected_below true byte = omega arith
selected_below false byte = omega arith

pub refusal_bytes : (selects_none : Bool) (status : List ℕ) → AreBytes status → AreBytes (refusal selects_none status)
refusal_bytes selects_none status bytes =
    bytes_set status 16 _ (selected_below selects_none (slice_index status 16)) bytes

-- A switch status as it is sent.

second_group_bytes : (other : Option ℕ) (status : List ℕ) → AreBytes status → AreBytes (with_second_group other status)
second_group_bytes None status bytes = bytes
second_group_bytes (Some function) status bytes = bytes_set status 16 _ (omega arith) bytes

pub sent_bytes : (choice : Choice) (status : List ℕ) → AreBytes status → AreBytes (status_sent choice status)
sent_bytes choice status bytes =
    second_group_bytes choice.second_group _ (reread_bytes is_read_of_status choice.unread status bytes)

second_group_length : (other : Option ℕ) (status : List ℕ) → length (with_second_group other status) ≡ length status
second_group_length None status = refl
second_group_length (Some function) status = length-set status 16 _

pub sent_length : (choice : Choice) (status : List ℕ) → length (status_sent choice status) ≡ length status
sent_length choice status =
    second_group_length choice.second_group _ ∙ reread_length is_read_of_status choice.unread status

-- whether the card has high speed is said
second_group_supports : (other : Option ℕ) (status : List ℕ)
    → slice_index (with_second_group other status) 13 ≡ slice_index status 13
second_group_supports None status = refl
second_group_supports (Some function) status = get_or-set_other status 16 13 _ 0 (omega arith)

pub sent_supports : (choice : Choice) (status : List ℕ) → slice_index (status_sent choice status) 13 ≡ slice_index status 13
sent_supports choice status =
    second_group_supports choice.second_group _ ∙ reread_at is_read_of_status choice.unread status 13 refl

-- and so is what is selected
second_group_selects : (other : Option ℕ) (status : List ℕ) → 16 < length status
    → field 3 0 (slice_index (with_second_group other status) 16) ≡ field 3 0 (slice_index status 16)
second_group_selects None status inside = refl
second_group_selects (Some function) status inside = ap (field 3 0) (get_or-set_same status 16 _ 0 inside) ∙ omega arith

pub sent_selects : (choice : Choice) (status : List ℕ) → 16 < length status
    → field 3 0 (slice_index (status_sent choice status) 16) ≡ field 3 0 (slice_index status 16)
sent_selects choice status inside =
    second_group_selects choice.second_group _ (omega (arith, reread_length is_read_of_status choice.unread status, inside))
    ∙ ap (field 3 0) (reread_at is_read_of_status choice.unread status 16 refl)

-- Blocks.

pub block_of : (x : ℕ) → x < 256 → IsBlock (replicate 512 x)
block_of x h = record { len = length-replicate 512 x; bytes = bytes_replicate 512 x h }

pub block_at : (xs : List ℕ) → length xs ≡ 512 → ((i : ℕ) → slice_index xs i < 256) → IsBlock xs
block_at xs len h = record { len = len; bytes = bytes_at xs h }

erased_below : (b : Bool) → (if b then 0 else 0xff) < 256
erased_below true = omega arith
erased_below false = omega arith

erased_byte_below : (made : Made) → erased_byte_of_card made < 256
erased_byte_below made =
    by_cond (λ x. x < 256) (is_sd made.kind)
    (λ _. erased_below (data_stat_after_erase (scr_number made.scr) == 0))
    (λ _. erased_below (erased_mem_cont made.ext_csd == 0))

pub erased_block : (made : Made) → IsBlock (erased_sector made)
erased_block made = block_of (erased_byte_of_card made) (erased_byte_below made)
