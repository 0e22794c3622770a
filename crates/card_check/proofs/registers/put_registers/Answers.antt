use Rattle.std.proofs.Common.{◌++◌, codes}
use Rattle.text_out.proofs.WritingLemmas.{front_before, writes_after, writes_failed}
use Rattle.mmc_regs.specs.Csd.{csd_in}
use Rattle.mmc_card_sim.specs.Registers.{kind_of}
use Rattle.card_check.specs.Registers.{check_text, csd_text, kind_text, ocr_text, sectors_text}
use Rattle.card_check.proofs.registers.put_registers.Goals as goal

pub returns-in_err-put_check : goal.returns-in_err-put_check
returns-in_err-put_check g c =
    let spec = c.args.spec.now in
    let registers = spec.registers in
    let after = ocr_text registers.ocr ++ (kind_text registers.kind registers.ocr ++ sectors_text spec) in
    writes_failed _ _ _ _ c.from_residual.ensures.0
    (front_before _ _ (check_text (codes "CID") registers.cid)
    (check_text (codes "CSD") registers.csd ++ (csd_text (csd_in (kind_of registers.kind) registers.csd) ++ after))
    c.in_err-put_check.ensures)

pub returns-in_err-put_check-2 : goal.returns-in_err-put_check-2
returns-in_err-put_check-2 g c =
    let spec = c.args.spec.now in
    let registers = spec.registers in
    let after = ocr_text registers.ocr ++ (kind_text registers.kind registers.ocr ++ sectors_text spec) in
    writes_after _ _ _ _ (check_text (codes "CID") registers.cid) _ c.in_ok-put_check.ensures
    (writes_failed _ _ _ _ c.from_residual-in_err-put_check-2.ensures.0
    (front_before _ _ (check_text (codes "CSD") registers.csd)
    (csd_text (csd_in (kind_of registers.kind) registers.csd) ++ after) c.in_err-put_check-2.ensures))

pub returns-in_err-put_csd : goal.returns-in_err-put_csd
returns-in_err-put_csd g c =
    let spec = c.args.spec.now in
    let registers = spec.registers in
    let after = ocr_text registers.ocr ++ (kind_text registers.kind registers.ocr ++ sectors_text spec) in
    writes_after _ _ _ _ (check_text (codes "CID") registers.cid) _ c.in_ok-put_check.ensures
    (writes_after _ _ _ _ (check_text (codes "CSD") registers.csd) _ c.in_ok-put_check-2.ensures
    (writes_failed _ _ _ _ c.from_residual-in_err-put_csd.ensures.0
    (front_before _ _ (csd_text (csd_in (kind_of registers.kind) registers.csd)) after c.in_err-put_csd.ensures)))

pub returns-in_err-put_ocr : goal.returns-in_err-put_ocr
returns-in_err-put_ocr g c =
    let spec = c.args.spec.now in
    let registers = spec.registers in
    writes_after _ _ _ _ (check_text (codes "CID") registers.cid) _ c.in_ok-put_check.ensures
    (writes_after _ _ _ _ (check_text (codes "CSD") registers.csd) _ c.in_ok-put_check-2.ensures
    (writes_after _ _ _ _ (csd_text (csd_in (kind_of registers.kind) registers.csd)) _ c.in_ok-put_csd.ensures
    (writes_failed _ _ _ _ c.from_residual-in_err-put_ocr.ensures.0
    (front_before _ _ (ocr_text registers.ocr) (kind_text registers.kind registers.ocr ++ sectors_text spec)
    c.in_err-put_ocr.ensures))))

pub returns-in_err-put_kind : goal.returns-in_err-put_kind
returns-in_err-put_kind g c =
    let spec = c.args.spec.now in
    let registers = spec.registers in
    writes_after _ _ _ _ (check_text (codes "CID") registers.cid) _ c.in_ok-put_check.ensures
    (writes_after _ _ _ _ (check_text (codes "CSD") registers.csd) _ c.in_ok-put_check-2.ensures
    (writes_after _ _ _ _ (csd_text (csd_in (kind_of registers.kind) registers.csd)) _ c.in_ok-put_csd.ensures
    (writes_after _ _ _ _ (ocr_text registers.ocr) _ c.in_ok-put_ocr.ensures
    (writes_failed _ _ _ _ c.from_residual-in_err-put_kind.ensures.0
    (front_before _ _ (kind_text registers.kind registers.ocr) (sectors_text spec) c.in_err-put_kind.ensures)))))

pub returns : goal.returns
returns g c =
    let registers = c.args.spec.now.registers in
    writes_after _ _ _ _ (check_text (codes "CID") registers.cid) _ c.in_ok-put_check.ensures
    (writes_after _ _ _ _ (check_text (codes "CSD") registers.csd) _ c.in_ok-put_check-2.ensures
    (writes_after _ _ _ _ (csd_text (csd_in (kind_of registers.kind) registers.csd)) _ c.in_ok-put_csd.ensures
    (writes_after _ _ _ _ (ocr_text registers.ocr) _ c.in_ok-put_ocr.ensures
    (writes_after _ _ _ _ (kind_text registers.kind registers.ocr) _ c.in_ok-put_kind.ensures c.put_sectors.ensures))))
