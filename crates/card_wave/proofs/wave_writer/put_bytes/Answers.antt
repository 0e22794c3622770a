use Rattle.std.proofs.Common.{◌++◌, take, sym, ap, ◌∙◌, append_assoc, take-append-drop}
use Rattle.std.proofs.lemmas.List.{take_rest}
use Rattle.text_out.proofs.WritingLemmas.{appends_more}
use Rattle.card_wave.proofs.wave_writer.put_bytes.Goals as goal

pub loop-rest-preserved : goal.loop-rest-preserved
loop-rest-preserved g c =
    let inv = c.loop-rest.invariant in
    let rest = c.loop-rest.rest.now in
    let n = c.in-Ok.count in (
      inv.0 ++ take n rest,
      inv.1 ∙ ap (λ l. inv.0 ++ l) (sym (take-append-drop n rest) ∙ ap (λ l. take n rest ++ l) (sym (take_rest rest n)))
          ∙ sym (append_assoc inv.0 (take n rest) _),
      appends_more _ _ _ inv.0 (take n rest) inv.2 c.in-Ok.ensures.bytes,
    )
