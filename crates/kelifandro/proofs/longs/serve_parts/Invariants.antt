use Rattle.std.proofs.Common.{◌-◌, ◌≡◌, ◌≤◌, false, length}
use Rattle.mmc_requests.specs.Kinds.{is_read}
use Rattle.kelifandro.specs.Done.{IsFit, done_of, stories_of}
use Rattle.kelifandro.proofs.longs.serve_parts.Given as goal

abbrev pub invariant-loop-done : goal.invariant-loop-done
invariant-loop-done g l =
    record {
      inside : l.done ≤ l.count;
      length : length l.blocks ≡ length l.initial.blocks;
      kept : is_read l.initial.wanted.asked.kind ≡ false → l.blocks ≡ l.initial.blocks;
      fit : IsFit (stories_of g.S.HasStory.story g.S.HasRegisterStory.story) l.initial.way (done_of l.did) l.card;
    }

abbrev pub decreases-loop-done : goal.decreases-loop-done
decreases-loop-done g l = l.count - l.done
