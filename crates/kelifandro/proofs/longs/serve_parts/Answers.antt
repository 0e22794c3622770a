use Rattle.std.proofs.Common.{◌-◌, ◌+◌, rules}
use Rattle.kelifandro.proofs.RequestLemmas.{kept_part}
use Rattle.kelifandro.proofs.longs.serve_parts.Goals as goal

pub returns-then-number-ne-DONE-clause-kept : goal.returns-then-number-ne-DONE-clause-kept
returns-then-number-ne-DONE-clause-kept g c = λ other.
    kept_part c.loop-done.done (c.loop-done.done + c.min-some.result - c.loop-done.done) c.loop-done.blocks
    c.serve_told-number.new.blocks c.args.blocks.now (c.serve_told-number.ensures.kept other) (c.loop-done.invariant.kept other)

pub loop-done-preserved : goal.loop-done-preserved
loop-done-preserved g c = record {
  inside = search rules;
  length = search rules;
  kept = λ other.
      kept_part c.loop-done.done (c.loop-done.done + c.min-some.result - c.loop-done.done) c.loop-done.blocks
      c.serve_told-number.new.blocks c.args.blocks.now (c.serve_told-number.ensures.kept other) (c.loop-done.invariant.kept other);
  fit = c.serve_told-number.ensures.fit_again;
}
