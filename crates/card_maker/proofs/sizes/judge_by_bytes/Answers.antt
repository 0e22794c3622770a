use Rattle.std.proofs.Common.{◌≡◌, ◌%◌, ◌<◌, ◌-◌, ◌+◌, ℕ, inl, subst, sym, arith}
use Rattle.card_maker.specs.Sizes.{AreNext, IsCount}
use Rattle.card_maker.proofs.CountLemmas.{if_err, is_byte_count, multiples_next, next_by_bytes, on_ok}
use Rattle.card_maker.proofs.sizes.judge_by_bytes.Goals as goal

pub returns-clause-ok : goal.returns-clause-ok
returns-clause-ok c =
    let e = c.exponent_of in
    on_ok c.judge_unit.result c.judge_unit.ensures.ok (λ none. inl (is_byte_count c.args.sectors e.result e.ensures.least
    e.ensures.most (omega arith) e.ensures.enough
    (subst (λ (p : ℕ). c.args.sectors % p ≡ 0) c.power_of_two.ensures.value none)))

pub returns-clause-err : goal.returns-clause-err
returns-clause-err c =
    let e = c.exponent_of in
    let n = c.args.sectors in
    if_err c.judge_unit.result c.judge_unit.ensures.err (λ fault h. multiples_next c.args.kind n c.power_of_two.result fault
    (omega arith)
    (subst (λ (p : ℕ). 0 < n % p → AreNext (IsCount c.args.kind) (n - n % p) (n - n % p + p))
    (sym c.power_of_two.ensures.value)
    (next_by_bytes c.args.kind n e.result e.ensures.least e.ensures.most e.ensures.needed e.ensures.enough (omega arith))) h)
