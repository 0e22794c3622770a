use Rattle.std.proofs.Common.{◌≡◌, ◌+◌, ◌++◌, Some, arith, sym, ap, ◌∙◌}
use Rattle.std.proofs.Common.{◌-◌, vec_len}
use Rattle.std.specs.Prelude.{replicate}
use Rattle.std.proofs.lemmas.List.{take_all}
use Rattle.card_text.specs.Parts.{left_parts}
use Rattle.card_text.proofs.DataLemmas.{after, after_none, after_all, after_bad, after_long, after_more}
use Rattle.card_text.proofs.data.data.Goals as goal

pub loop-rest-init : goal.loop-rest-init
loop-rest-init c = rw c.new-bytes.ensures.items (record { short = omega arith; same = after_none c.args.text.now })

pub returns-in_default-repeat : goal.returns-in_default-repeat
returns-in_default-repeat c =
    after_bad c.loop-rest.bytes.items c.cut.result.0.now (left_parts 44 c.cut.result.1)
    (sym c.in_default-repeat.is ∙ c.repeat.ensures)
    ∙ ap (after c.loop-rest.bytes.items) (sym c.cut.ensures ∙ ap (left_parts 44) (sym c.in-Some.is))
    ∙ c.loop-rest.invariant.same

pub returns-then-count-room : goal.returns-then-count-room
returns-then-count-room c =
    after_long c.loop-rest.bytes.items c.cut.result.0.now (left_parts 44 c.cut.result.1) _ _
    (sym c.in-Some-repeat.is ∙ c.repeat.ensures) (omega arith)
    ∙ ap (after c.loop-rest.bytes.items) (sym c.cut.ensures ∙ ap (left_parts 44) (sym c.in-Some.is))
    ∙ c.loop-rest.invariant.same

pub loop-rest-preserved : goal.loop-rest-preserved
loop-rest-preserved c =
    let h = c.in_ok-resize.ensures in
    let more : c.len.result + c.in-Some-repeat.count - vec_len c.loop-rest.bytes ≡ c.in-Some-repeat.count =
    omega arith in
    let grown : c.resize.new.self.items
    ≡ c.loop-rest.bytes.items ++ replicate c.in-Some-repeat.count c.in-Some-repeat.byte =
    h.items
    ∙ ap (λ xs. xs
    ++ replicate (c.len.result + c.in-Some-repeat.count - vec_len c.loop-rest.bytes) c.in-Some-repeat.byte)
    (take_all _ _ (omega arith))
    ∙ ap (λ n. c.loop-rest.bytes.items ++ replicate n c.in-Some-repeat.byte) more in
    record {
      short = omega (arith, h.len);
      same = ap (λ xs. after xs (left_parts 44 c.cut.result.1)) grown
          ∙ after_more c.loop-rest.bytes.items c.cut.result.0.now (left_parts 44 c.cut.result.1) _ _
          (sym c.in-Some-repeat.is ∙ c.repeat.ensures)
          ∙ ap (after c.loop-rest.bytes.items) (sym c.cut.ensures ∙ ap (left_parts 44) (sym c.in-Some.is))
          ∙ c.loop-rest.invariant.same;
    }

pub returns : goal.returns
returns c =
    ap (λ v. Some v) c.new.ensures ∙ after_all c.loop-rest.bytes.items c.loop-rest.invariant.short
    ∙ ap (λ r. after c.loop-rest.bytes.items (left_parts 44 r)) (sym c.in_default.is) ∙ c.loop-rest.invariant.same
