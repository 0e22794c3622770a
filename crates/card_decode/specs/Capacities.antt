-- A size in sectors of 512 bytes, and from 1 MiB on in MiB or GiB beside it.
use Rattle.std.specs.Prelude.{ℕ, ◌+◌, ◌*◌, ◌/◌, ◌%◌, ◌^◌, ◌==◌, nat_lt, List, ◌++◌, codes, if◌then◌else◌}
use Rattle.std.specs.Fmt.{decimal}

-- so many tenths of a unit: a whole number of it, or one with a digit after the point
unfoldable pub amount_text : ℕ → List ℕ → List ℕ
amount_text tenths unit =
    if tenths % 10 == 0 then codes ", " ++ (decimal (tenths / 10) ++ (codes " " ++ (unit ++ codes "\n")))
    else codes ", " ++ (decimal (tenths / 10) ++ (codes "." ++ (decimal (tenths % 10) ++ (codes " " ++ (unit ++ codes "\n")))))

-- a size in units of so many sectors, to the nearest tenth
abbrev pub tenths_of : ℕ → ℕ → ℕ
tenths_of sectors unit = (10 * sectors + unit / 2) / unit

-- a MiB has 2^11 sectors, a GiB 2^21
unfoldable pub binary_text : ℕ → List ℕ
binary_text sectors =
    if nat_lt sectors (2 ^ 11) then codes "\n"
    else (if nat_lt sectors (2 ^ 21) then amount_text (tenths_of sectors (2 ^ 11)) (codes "MiB")
    else amount_text (tenths_of sectors (2 ^ 21)) (codes "GiB"))

-- how many sectors there are
abbrev pub sectors_text : ℕ → List ℕ
sectors_text sectors = codes "capacity: " ++ (decimal sectors ++ codes " sectors of 512 bytes")

-- the line of a card's size
unfoldable pub capacity_text : ℕ → List ℕ
capacity_text sectors = sectors_text sectors ++ binary_text sectors
