use Rattle.nbd_server.proofs.InputLemmas.{grows_then, shrinks_then}
use Rattle.nbd_server.proofs.negotiation.negotiate.Goals as goal

pub loop-preserved : goal.loop-preserved
loop-preserved g c = record {
  written = grows_then _ _ _ c.loop.invariant.written c.in_ok-serve_option.ensures.written;
  read = shrinks_then _ _ _ c.loop.invariant.read c.in_ok-serve_option.ensures.read;
}

pub returns-in-Agreed-clause-read : goal.returns-in-Agreed-clause-read
returns-in-Agreed-clause-read g c = shrinks_then _ _ _ c.loop.invariant.read c.in_ok-serve_option.ensures.read

pub returns-in-Agreed-clause-written : goal.returns-in-Agreed-clause-written
returns-in-Agreed-clause-written g c = grows_then _ _ _ c.loop.invariant.written c.in_ok-serve_option.ensures.written

pub returns-in-Over-clause-read : goal.returns-in-Over-clause-read
returns-in-Over-clause-read g c = shrinks_then _ _ _ c.loop.invariant.read c.in_ok-serve_option.ensures.read

pub returns-in-Over-clause-written : goal.returns-in-Over-clause-written
returns-in-Over-clause-written g c = grows_then _ _ _ c.loop.invariant.written c.in_ok-serve_option.ensures.written
