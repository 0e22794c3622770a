use Rattle.std.proofs.Common.{◌≡◌, eqb, drop, sym, ◌∙◌, take, Bool, true, false, w8, lit≤}
use Rattle.std.specs.Prelude.{not, map}
use Rattle.std.proofs.lemmas.Bool.{eqb-true}
use Rattle.std.proofs.lemmas.Simd.{bitmask_splat, length-chunk, none_from_empty_mask}
use Rattle.std.specs.Simd.Lanes.{mask_l}
use Rattle.text_out.proofs.repeats.are_all.Goals as goal

not_not : (b : Bool) → not b ≡ false → b ≡ true
not_not true h = cc
not_not false h = cc

pub returns : goal.returns
returns c = λ yes k low high.
    let bytes = c.args.bytes.now in
    let lanes = take 32 (drop c.args.from bytes) in
    let none : mask_l (map (λ x. not (eqb x c.args.byte)) lanes) ≡ 0 =
    sym (bitmask_splat w8 (λ a b. not (eqb a b)) lanes 32 c.args.byte (length-chunk c.args.from 32 bytes c.requires)
    (lit≤ tt)) ∙ eqb-true _ _ yes in
    eqb-true _ _ (not_not _ (none_from_empty_mask (λ x. not (eqb x c.args.byte)) bytes c.args.from 32 0 c.requires none k
    low high))
