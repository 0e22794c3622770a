use Rattle.text_out.proofs.WritingLemmas.{front_after, front_before, writes_after, writes_failed}
use Rattle.card_decode.proofs.FieldLemmas.{puts_parts}
use Rattle.card_decode.proofs.put.put_ext_csd_fields.Goals as goal

pub returns-in_err-put_fields : goal.returns-in_err-put_fields
returns-in_err-put_fields g c =
    puts_parts c.args.bytes.now c.from_511-first.result.now c.from_253-second.result.now c.from_215-third.result.now
    c.from_180-fourth.result.now c.from_133-fifth.result.now c.from_511-first.ensures.covers c.from_253-second.ensures.covers
    c.from_215-third.ensures.covers c.from_180-fourth.ensures.covers c.from_133-fifth.ensures.covers c.from_511-first.ensures.fits
    c.from_253-second.ensures.fits c.from_215-third.ensures.fits c.from_180-fourth.ensures.fits c.from_133-fifth.ensures.fits _ _ _
    (writes_failed _ _ _ _ c.from_residual.ensures.0
    (front_before _ _ _ _ c.in_err-put_fields.ensures))

pub returns-in_err-put_fields-2 : goal.returns-in_err-put_fields-2
returns-in_err-put_fields-2 g c =
    puts_parts c.args.bytes.now c.from_511-first.result.now c.from_253-second.result.now c.from_215-third.result.now
    c.from_180-fourth.result.now c.from_133-fifth.result.now c.from_511-first.ensures.covers c.from_253-second.ensures.covers
    c.from_215-third.ensures.covers c.from_180-fourth.ensures.covers c.from_133-fifth.ensures.covers c.from_511-first.ensures.fits
    c.from_253-second.ensures.fits c.from_215-third.ensures.fits c.from_180-fourth.ensures.fits c.from_133-fifth.ensures.fits _ _ _
    (writes_failed _ _ _ _ c.from_residual-in_err-put_fields-2.ensures.0
    (front_after _ _ _ _ _ c.in_ok-put_fields.ensures
    (front_before _ _ _ _ c.in_err-put_fields-2.ensures)))

pub returns-in_err-put_fields-3 : goal.returns-in_err-put_fields-3
returns-in_err-put_fields-3 g c =
    puts_parts c.args.bytes.now c.from_511-first.result.now c.from_253-second.result.now c.from_215-third.result.now
    c.from_180-fourth.result.now c.from_133-fifth.result.now c.from_511-first.ensures.covers c.from_253-second.ensures.covers
    c.from_215-third.ensures.covers c.from_180-fourth.ensures.covers c.from_133-fifth.ensures.covers c.from_511-first.ensures.fits
    c.from_253-second.ensures.fits c.from_215-third.ensures.fits c.from_180-fourth.ensures.fits c.from_133-fifth.ensures.fits _ _ _
    (writes_failed _ _ _ _ c.from_residual-in_err-put_fields-3.ensures.0
    (front_after _ _ _ _ _ c.in_ok-put_fields.ensures
    (front_after _ _ _ _ _ c.in_ok-put_fields-2.ensures
    (front_before _ _ _ _ c.in_err-put_fields-3.ensures))))

pub returns-in_err-put_fields-4 : goal.returns-in_err-put_fields-4
returns-in_err-put_fields-4 g c =
    puts_parts c.args.bytes.now c.from_511-first.result.now c.from_253-second.result.now c.from_215-third.result.now
    c.from_180-fourth.result.now c.from_133-fifth.result.now c.from_511-first.ensures.covers c.from_253-second.ensures.covers
    c.from_215-third.ensures.covers c.from_180-fourth.ensures.covers c.from_133-fifth.ensures.covers c.from_511-first.ensures.fits
    c.from_253-second.ensures.fits c.from_215-third.ensures.fits c.from_180-fourth.ensures.fits c.from_133-fifth.ensures.fits _ _ _
    (writes_failed _ _ _ _ c.from_residual-in_err-put_fields-4.ensures.0
    (front_after _ _ _ _ _ c.in_ok-put_fields.ensures
    (front_after _ _ _ _ _ c.in_ok-put_fields-2.ensures
    (front_after _ _ _ _ _ c.in_ok-put_fields-3.ensures
    (front_before _ _ _ _ c.in_err-put_fields-4.ensures)))))

pub returns : goal.returns
returns g c =
    puts_parts c.args.bytes.now c.from_511-first.result.now c.from_253-second.result.now c.from_215-third.result.now
    c.from_180-fourth.result.now c.from_133-fifth.result.now c.from_511-first.ensures.covers c.from_253-second.ensures.covers
    c.from_215-third.ensures.covers c.from_180-fourth.ensures.covers c.from_133-fifth.ensures.covers c.from_511-first.ensures.fits
    c.from_253-second.ensures.fits c.from_215-third.ensures.fits c.from_180-fourth.ensures.fits c.from_133-fifth.ensures.fits _ _ _
    (writes_after _ _ _ _ _ _ c.in_ok-put_fields.ensures
    (writes_after _ _ _ _ _ _ c.in_ok-put_fields-2.ensures
    (writes_after _ _ _ _ _ _ c.in_ok-put_fields-3.ensures
    (writes_after _ _ _ _ _ _ c.in_ok-put_fields-4.ensures
    c.put_fields-5.ensures))))
