use Rattle.std.proofs.Common.{◌+◌, ◌++◌, ◌-◌, ◌∙◌, ◌∷◌, ◌≡◌, ◌≤◌, [], ap, append_assoc, arith, length, replicate}
use Rattle.std.proofs.lemmas.List.{length-append, replicate-append-replicate}
use Rattle.sparse_sectors.proofs.chunk.grow.Goals as goal

pub loop-front-preserved : goal.loop-front-preserved
loop-front-preserved c =
    let blank = c.args.blank.now in
    let old = c.args.front.now.items in
    let before = c.loop-front.front.items in
    let after = c.extend_from_slice.new.self.items in
    let there = length before - length old in
    let added : after ≡ before ++ blank ∷ [] = rw (c.unwrap.ensures, c.from_ref.ensures.value) at c.extend_from_slice.ensures.items in
    let longer : length after ≡ length before + 1 = omega (arith, ap length added, length-append before (blank ∷ [])) in
    let more : there + 1 ≡ length after - length old = omega (arith, longer, c.loop-front.invariant.more) in
    let less : length before + 1 ≤ c.args.count = omega (arith, c.len.ensures, c.loop-front-test.true) in
    record {
      more = omega (arith, longer, c.loop-front.invariant.more);
      grown = added ∙ ap (λ xs. xs ++ blank ∷ []) c.loop-front.invariant.grown
          ∙ append_assoc old (replicate there blank) (blank ∷ [])
          ∙ ap (λ xs. old ++ xs) (replicate-append-replicate there 1 blank ∙ ap (λ n. replicate n blank) more);
      few = omega (arith, longer, less);
      room = omega (arith, c.loop-front.invariant.room, c.extend_from_slice.ensures.capacity);
    }

pub returns-clause-grown : goal.returns-clause-grown
returns-clause-grown c =
    let old = c.args.front.now.items in
    let grown = c.loop-front.front.items in
    let enough : c.args.count ≤ length grown = omega (arith, c.len.ensures, c.loop-front-test.false) in
    let same : length grown - length old ≡ c.args.count - length old =
    omega (arith, enough, c.loop-front.invariant.few, c.loop-front.invariant.more) in
    c.loop-front.invariant.grown ∙ ap (λ n. old ++ replicate n c.args.blank.now) same
