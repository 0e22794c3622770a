use Rattle.mmc_record.proofs.NoteLemmas.{as_noted, stands_broken, stands_lost, stands_ready}
use Rattle.mmc_switch.specs.declared.stands.Stands.TheVariants as Stands
use Rattle.mmc_record.proofs.reading.restored.Goals as goal

pub returns-in-1-clause-says : goal.returns-in-1-clause-says
returns-in-1-clause-says c = record {
  session = c.in_ok-session.session;
  says = c.in_ok-session.ensures.says;
  how = stands_ready c.args.note.now c.in_ok-session.session c.in-1.is;
}

pub returns-in-1-clause-as_noted : goal.returns-in-1-clause-as_noted
returns-in-1-clause-as_noted c stands =
    let how = stands_ready c.args.note.now c.in_ok-session.session c.in-1.is in
    as_noted c.args.note.now c.in_ok-session.session (Stands.Ready c.in_ok-session.session) stands c.in_ok-session.ensures.says how

pub returns-in-2-clause-says : goal.returns-in-2-clause-says
returns-in-2-clause-says c = record {
  session = c.in_ok-session.session;
  says = c.in_ok-session.ensures.says;
  how = stands_broken c.args.note.now c.in_ok-session.session c.break_off.result c.cause_of-cause.result c.in-2.is
      c.cause_of-cause.ensures c.break_off.ensures;
}

pub returns-in-2-clause-as_noted : goal.returns-in-2-clause-as_noted
returns-in-2-clause-as_noted c stands =
    let how = stands_broken c.args.note.now c.in_ok-session.session c.break_off.result c.cause_of-cause.result c.in-2.is
    c.cause_of-cause.ensures c.break_off.ensures in
    as_noted c.args.note.now c.in_ok-session.session (Stands.Broken c.break_off.result) stands c.in_ok-session.ensures.says how

pub returns-in-3-clause-says : goal.returns-in-3-clause-says
returns-in-3-clause-says c = record {
  session = c.in_ok-session.session;
  says = c.in_ok-session.ensures.says;
  how = stands_lost c.args.note.now c.in_ok-session.session c.break_off-in-3.result c.give_up.result c.cause_of-cause.result
      c.in-3.is c.break_off-in-3.ensures c.give_up.ensures;
}

pub returns-in-3-clause-as_noted : goal.returns-in-3-clause-as_noted
returns-in-3-clause-as_noted c stands =
    let how = stands_lost c.args.note.now c.in_ok-session.session c.break_off-in-3.result c.give_up.result
    c.cause_of-cause.result c.in-3.is c.break_off-in-3.ensures c.give_up.ensures in
    as_noted c.args.note.now c.in_ok-session.session (Stands.Broken c.give_up.result) stands c.in_ok-session.ensures.says how
