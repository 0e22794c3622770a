use Rattle.std.proofs.Common.{◌≤◌, ◌^◌, arith}
use Rattle.std.proofs.Math.Pow.{pow_mono}
use Rattle.std.proofs.lemmas.Nat.{pow_pos}
use Rattle.card_maker.proofs.sizes.power_of_two.Goals as goal

pub returns-clause-small : goal.returns-clause-small
returns-clause-small c =
    let most : 2 ^ c.args.exponent ≤ 2 ^ 10 = pow_mono {i = c.args.exponent} {j = 10} (omega arith) in
    omega (arith, most)

pub returns-clause-some : goal.returns-clause-some
returns-clause-some c =
    let most : 2 ^ c.args.exponent ≤ 2 ^ 10 = pow_mono {i = c.args.exponent} {j = 10} (omega arith) in
    omega (arith, most, pow_pos c.args.exponent)

pub returns-clause-value : goal.returns-clause-value
returns-clause-value c =
    let most : 2 ^ c.args.exponent ≤ 2 ^ 10 = pow_mono {i = c.args.exponent} {j = 10} (omega arith) in
    omega (arith, most)
