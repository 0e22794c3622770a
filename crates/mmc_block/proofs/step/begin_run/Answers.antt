use Rattle.mmc_erase.specs.declared.how.How.TheVariants as how
use Rattle.mmc_queue.specs.Requests.{can_merge}
use Rattle.std.proofs.Common.{◌∙◌, ap, arith, rules, sym}
use Rattle.mmc_block.proofs.BeginLemmas.{run_erasable, run_inside, run_suits, run_writable}
use Rattle.mmc_block.proofs.step.begin_run.Goals as goal

pub begin-requires-clause-inside : goal.begin-requires-clause-inside
begin-requires-clause-inside c =
    run_inside c.args.session c.args.group.now c.requires.selected c.requires.servable
    (c.a_group_is_one_extent.ensures _ _ c.requires.joined)

pub begin-requires-in-Write-clause-inside : goal.begin-requires-in-Write-clause-inside
begin-requires-in-Write-clause-inside c =
    run_inside c.args.session c.args.group.now c.requires.selected c.requires.servable
    (c.a_group_is_one_extent.ensures _ _ c.requires.joined)

pub begin-requires-in-Write-clause-writable : goal.begin-requires-in-Write-clause-writable
begin-requires-in-Write-clause-writable c writes =
    run_writable c.args.session c.args.group.now c.requires.selected c.requires.servable
    (c.a_group_is_one_extent.ensures _ _ c.requires.joined) (λ read. let e = sym c.in-Write.is ∙ read in cc)

pub begin-requires-in-Erase-clause-inside : goal.begin-requires-in-Erase-clause-inside
begin-requires-in-Erase-clause-inside c =
    run_inside c.args.session c.args.group.now c.requires.selected c.requires.servable
    (c.a_group_is_one_extent.ensures _ _ c.requires.joined)

pub begin-requires-in-Erase-clause-erasable : goal.begin-requires-in-Erase-clause-erasable
begin-requires-in-Erase-clause-erasable c =
    run_erasable c.args.session c.args.group.now c.requires.selected c.requires.servable
    (c.a_group_is_one_extent.ensures _ _ c.requires.joined) how.Erase c.in-Erase.is
    (c.requires.joined.alone (ap can_merge c.in-Erase.is))

pub begin-requires-in-Erase-clause-writable : goal.begin-requires-in-Erase-clause-writable
begin-requires-in-Erase-clause-writable c =
    run_writable c.args.session c.args.group.now c.requires.selected c.requires.servable
    (c.a_group_is_one_extent.ensures _ _ c.requires.joined) (λ read. let e = sym c.in-Erase.is ∙ read in cc)

pub begin-requires-in-Erase-clause-suits : goal.begin-requires-in-Erase-clause-suits
begin-requires-in-Erase-clause-suits c =
    run_suits c.args.session c.args.group.now c.requires.selected c.requires.servable
    (c.a_group_is_one_extent.ensures _ _ c.requires.joined) how.Erase c.in-Erase.is
    (c.requires.joined.alone (ap can_merge c.in-Erase.is))

pub begin-requires-in-Trim-clause-inside : goal.begin-requires-in-Trim-clause-inside
begin-requires-in-Trim-clause-inside c =
    run_inside c.args.session c.args.group.now c.requires.selected c.requires.servable
    (c.a_group_is_one_extent.ensures _ _ c.requires.joined)

pub begin-requires-in-Trim-clause-erasable : goal.begin-requires-in-Trim-clause-erasable
begin-requires-in-Trim-clause-erasable c =
    run_erasable c.args.session c.args.group.now c.requires.selected c.requires.servable
    (c.a_group_is_one_extent.ensures _ _ c.requires.joined) how.Trim c.in-Trim.is
    (c.requires.joined.alone (ap can_merge c.in-Trim.is))

pub begin-requires-in-Trim-clause-writable : goal.begin-requires-in-Trim-clause-writable
begin-requires-in-Trim-clause-writable c =
    run_writable c.args.session c.args.group.now c.requires.selected c.requires.servable
    (c.a_group_is_one_extent.ensures _ _ c.requires.joined) (λ read. let e = sym c.in-Trim.is ∙ read in cc)

pub begin-requires-in-Trim-clause-suits : goal.begin-requires-in-Trim-clause-suits
begin-requires-in-Trim-clause-suits c =
    run_suits c.args.session c.args.group.now c.requires.selected c.requires.servable
    (c.a_group_is_one_extent.ensures _ _ c.requires.joined) how.Trim c.in-Trim.is
    (c.requires.joined.alone (ap can_merge c.in-Trim.is))

pub returns-in-Read : goal.returns-in-Read
returns-in-Read c = record {
  of = search rules;
  session_is = search rules;
  bounded =
      let most = c.begin.ensures.bounded in
      let short = c.requires.joined.short (ap can_merge c.in-Read.is) in
      omega (arith, most, short);
  under_way = λ view ready. c.begin.ensures.running view _ ready;
}

pub returns-in-Write : goal.returns-in-Write
returns-in-Write c = record {
  of = search rules;
  session_is = search rules;
  bounded =
      let most = c.begin-in-Write.ensures.bounded in
      let short = c.requires.joined.short (ap can_merge c.in-Write.is) in
      omega (arith, most, short);
  under_way = λ view ready. c.begin-in-Write.ensures.running view _ ready;
}
