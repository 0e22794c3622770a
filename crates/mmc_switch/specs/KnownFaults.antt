-- Cards of which more is known than their registers say: what they say they can, and do wrong. By MID and PNM of their CID.
use Rattle.std.specs.Prelude.{◌&&◌, ◌||◌, Bool, codes, false, not, ℕ}
use Rattle.mmc_frame.specs.declared.kind.Kind.{Kind}
use Rattle.mmc_frame.specs.declared.kind.Kind.TheVariants.{Mmc, Sd}
use Rattle.mmc_regs.specs.Cid.{is_product}
use Rattle.mmc_switch.specs.declared.info.Info.{Info}

-- eMMC devices that lose sectors which a trim doesn't name, or don't erase those that it names: SanDisk's take what CMD38 does
-- from byte 113 of the EXT_CSD, so that a trim erases whole groups; those of Kingston and Micron have errors of their firmware
abbrev pub loses_by_trim : Kind → ℕ → Bool
loses_by_trim Sd cid = false
loses_by_trim Mmc cid =
    is_product Mmc 0x02 (codes "SEM02G") cid || (is_product Mmc 0x02 (codes "SEM04G") cid
    || (is_product Mmc 0x02 (codes "SEM08G") cid || (is_product Mmc 0x02 (codes "SEM16G") cid
    || (is_product Mmc 0x02 (codes "SEM32G") cid || (is_product Mmc 0x70 (codes "V10008") cid
    || (is_product Mmc 0x70 (codes "V10016") cid || (is_product Mmc 0x70 (codes "M62704") cid
    || is_product Mmc 0x13 (codes "Q2J54A") cid)))))))

-- SD cards that lock up at CMD23, of ATP and Apacer
abbrev pub locks_up_at_cmd23 : Kind → ℕ → Bool
locks_up_at_cmd23 Sd cid = is_product Sd 0x09 (codes "AF SD") cid || is_product Sd 0x27 (codes "APUSD") cid
locks_up_at_cmd23 Mmc cid = false

-- what is known of a card, of which a host uses nothing that it is known to do wrong
abbrev pub heeding : Info → Info
heeding info = record info {
  trims = info.trims && not (loses_by_trim info.kind info.cid);
  cmd23 = info.cmd23 && not (locks_up_at_cmd23 info.kind info.cid);
}
