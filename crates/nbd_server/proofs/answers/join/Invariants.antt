use Rattle.std.proofs.Common.{◌*◌, ◌++◌, ◌≡◌, List, length, ℕ}
use Rattle.std.specs.Prelude.{min}
use Rattle.nbd_server.specs.Parts.{AreAnswered}
use Rattle.nbd_server.proofs.answers.join.Given as goal

abbrev pub invariant-loop-number : goal.invariant-loop-number
invariant-loop-number l = record {
  bytes : List ℕ;
  more : l.bytes.items ≡ l.fn.bytes.items ++ bytes;
  long : length bytes ≡ 512 * min l.count (16 * l.number);
  answered : AreAnswered l.given l.count l.number bytes;
}
