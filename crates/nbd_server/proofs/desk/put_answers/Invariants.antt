use Rattle.std.proofs.Common.{◌≡◌, ℕ, List, ◌++◌, drop}
use Rattle.std.specs.Io.KnownBytes.{Appends}
use Rattle.nbd_server.specs.Acts.{answers_bytes}
use Rattle.nbd_server.proofs.desk.put_answers.Given as goal

abbrev pub invariant-loop-completion : goal.invariant-loop-completion
invariant-loop-completion g l = record {
  front : List ℕ;
  split : answers_bytes l.fn.cookies l.fn.given
      ≡ front ++ answers_bytes l.fn.cookies (drop l.completion-index l.fn.given);
  printed : Appends (g.W.Write.contents l.fn.out) (g.W.Write.contents l.out) front;
}
