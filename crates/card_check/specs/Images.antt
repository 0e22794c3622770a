-- Whether an image fits.
use Rattle.std.specs.Prelude.{ℕ, ◌*◌, ◌-◌, ◌/◌, ◌%◌, ◌==◌, ◌&&◌, ◌++◌, ◌^◌, Bool, List, [], codes, if◌then◌else◌, max, min, nat_lt}
use Rattle.std.specs.Fmt.{decimal}
use Rattle.mmc_card_sim.specs.declared.spec.TheConstants.{MAX_SECTORS}

-- 512 bytes for each sector
abbrev pub is_image : ℕ → ℕ → Bool
is_image sectors bytes = (bytes % 512 == 0) && (bytes / 512 == sectors)

-- An image is read up to one byte past that of the largest card that `serve` takes, or of this one where it is larger.
abbrev pub most_bytes : ℕ → ℕ
most_bytes sectors = min (512 * max sectors MAX_SECTORS) (2 ^ 64 - 1)

-- after a number of bytes that may be more
abbrev pub more_words : ℕ → ℕ → List ℕ
more_words sectors bytes = if nat_lt (most_bytes sectors) bytes then codes " or more" else []

-- that so many bytes are another number than those of the sectors
unfoldable pub image_line : ℕ → ℕ → List ℕ
image_line sectors bytes =
    codes "image: " ++ (decimal bytes ++ (more_words sectors bytes ++ (codes " bytes, but the card's partitions have "
    ++ (decimal (min (512 * sectors) (2 ^ 64 - 1)) ++ (codes " together, 512 for each of "
    ++ (decimal sectors ++ codes " sectors\n"))))))

-- what is said of an image
abbrev pub image_text : ℕ → ℕ → List ℕ
image_text sectors bytes = if is_image sectors bytes then [] else image_line sectors bytes
