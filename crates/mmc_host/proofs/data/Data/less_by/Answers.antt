use Rattle.std.proofs.Common.{arith, refl, sym}
use Rattle.mmc_host.specs.declared.data.Data.TheVariants.{Nothing, Read, Write}
use Rattle.mmc_host.proofs.DataLemmas.{all_gone, some_left, stays}
use Rattle.mmc_host.proofs.data.Data.less_by.Goals as goal

pub returns-in-Nothing : goal.returns-in-Nothing
returns-in-Nothing c = rw c.in-Nothing.is (sym (stays c.args.count Nothing refl))

pub returns-in-Read : goal.returns-in-Read
returns-in-Read c =
    rw c.in-Read.is
    (sym (some_left (λ blocks. Read c.in-Read.length blocks) (λ count. refl) c.args.count c.in-Read.blocks
    c.if-count-blocks.true))

pub returns-in-Read-2 : goal.returns-in-Read-2
returns-in-Read-2 c =
    let none = c.if-count-blocks.false in
    rw c.in-Read.is
    (sym (all_gone (λ blocks. Read c.in-Read.length blocks) (λ count. refl) c.args.count c.in-Read.blocks
    c.if-count-eq0.false (omega (arith, none))))

pub returns-in-Write : goal.returns-in-Write
returns-in-Write c =
    rw c.in-Write.is
    (sym (some_left (λ blocks. Write blocks) (λ count. refl) c.args.count c.in-Write.blocks c.if-count-blocks-2.true))

pub returns-in-Write-2 : goal.returns-in-Write-2
returns-in-Write-2 c =
    let none = c.if-count-blocks-2.false in
    rw c.in-Write.is
    (sym (all_gone (λ blocks. Write blocks) (λ count. refl) c.args.count c.in-Write.blocks
    c.if-count-eq0.false (omega (arith, none))))
