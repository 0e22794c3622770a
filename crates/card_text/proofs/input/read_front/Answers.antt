use Rattle.std.proofs.Common.{◌++◌, ◌≤◌, ◌∙◌, List, Option, None, Some, ℕ, ap, append_assoc, arith, length, length-append, sym, take}
use Rattle.std.proofs.lemmas.Grind.{common_steps}
use Rattle.std.proofs.lemmas.List.{length-take}
use Rattle.std.specs.Io.KnownBytes.{Consumes}
use Rattle.card_text.proofs.input.read_front.Goals as goal

-- what was taken in two parts
consumes_then : (old mid new : Option (List ℕ)) (bs cs : List ℕ) → Consumes old mid bs → Consumes mid new cs
    → Consumes old new (bs ++ cs)
consumes_then None mid new bs cs first second = tt
consumes_then (Some xs) None new bs cs first second = absurd first
consumes_then (Some xs) (Some ys) None bs cs first second = absurd second
consumes_then (Some xs) (Some ys) (Some zs) bs cs first second =
    first ∙ ap (λ rest. bs ++ rest) second ∙ sym (append_assoc bs cs zs)

-- what was read before memory was refused
pub returns-then-is_err-clause-taken : goal.returns-then-is_err-clause-taken
returns-then-is_err-clause-taken g c =
    let before = c.loop-chunk.bytes.items in
    let now = take c.in-Ok.count c.read.new.buf in
    let few : length (before ++ now) ≤ c.args.limit =
    let wide : length c.read.new.buf ≤ c.min-wanted.result = grind (arith, common_steps, c.read.auto.buf) in
    let n = length-append before now in
    let k = length-take c.in-Ok.count c.read.new.buf in
    omega (arith, wide, n, k, c.in-Ok.ensures.bound) in
    (before ++ now, few, consumes_then _ _ _ before now c.loop-chunk.invariant.took c.in-Ok.ensures.bytes.0)
