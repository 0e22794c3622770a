use Rattle.std.proofs.Common.{arith}
use Rattle.card_maker.proofs.CountLemmas.{byte_count_most, few_blocks, says_count, some_blocks}
use Rattle.card_maker.proofs.sizes.blocks_of.Goals as goal

pub exponent_of-exponent-requires : goal.exponent_of-exponent-requires
exponent_of-exponent-requires c = byte_count_most c.args.sectors c.requires

pub overflow_sub-result : goal.overflow_sub-result
overflow_sub-result c =
    let e = c.exponent_of-exponent in
    some_blocks c.args.sectors e.result c.power_of_two.result c.power_of_two.ensures.value c.requires e.ensures.least
    e.ensures.needed

pub overflow_cast-result : goal.overflow_cast-result
overflow_cast-result c =
    let e = c.exponent_of-exponent in
    let few = few_blocks c.args.sectors e.result c.power_of_two.result c.power_of_two.ensures.value c.requires
    e.ensures.least e.ensures.enough e.ensures.needed in
    omega (arith, few)

pub returns : goal.returns
returns c =
    let e = c.exponent_of-exponent in
    let length = c.block_length-read_bl_len in
    says_count c.args.sectors e.result c.power_of_two.result length.result c.power_of_two.ensures.value c.requires
    e.ensures.least e.ensures.enough e.ensures.needed length.ensures.least length.ensures.most length.ensures.enough
    length.ensures.within
