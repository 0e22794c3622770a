-- The CID, a register of 128 bits (SD Physical Layer 6.00, section 5.2; JESD84-B51, section 7.2). SD cards and eMMC
-- devices lay its middle out in different ways; the manufacturer stands in the same bits.
use Rattle.std.specs.Prelude.{◌==◌, ◌&&◌, Bool, List, length, ℕ}
use Rattle.byteorder.specs.Endian.{big_number}
use Rattle.mmc_frame.specs.Field.{field}
use Rattle.mmc_frame.specs.declared.kind.Kind.{Kind}
use Rattle.mmc_frame.specs.declared.kind.Kind.TheVariants.{Mmc, Sd}

-- MID
abbrev pub manufacturer : ℕ → ℕ
manufacturer cid = field 127 120 cid

-- PNM, five characters of an SD card and six of an eMMC device, the first one the highest byte
abbrev pub product_name : Kind → ℕ → ℕ
product_name Sd cid = field 103 64 cid
product_name Mmc cid = field 103 56 cid

-- this maker's product of this name
abbrev pub is_product : Kind → ℕ → List ℕ → ℕ → Bool
is_product kind maker name cid = (manufacturer cid == maker) && (product_name kind cid == big_number (length name) name)
