use Rattle.std.proofs.Common.{◌≡◌}
use Rattle.c_host.specs.Lending.{with_lines}
use Rattle.c_host.proofs.stream.Stream.lend_table.Given as goal

abbrev pub invariant-loop-i : goal.invariant-loop-i
invariant-loop-i l =
    (l.self.diary.past ≡ with_lines l.fn.table l.i l.initial.self.diary.past) × (l.self.number ≡ l.fn.self.number)
