use Rattle.std.proofs.Common.{◌≡◌, ◌-◌, ◌^◌}
use Rattle.userset_index.specs.Lives.{ended}
use Rattle.userset_index.specs.Spans.{AreGrown, lives_of}
use Rattle.userset_index.proofs.spans.end_at.Given as goal

abbrev pub invariant-loop-place : goal.invariant-loop-place
invariant-loop-place l = record {
  grown : AreGrown l.links l.spans.items;
  lives : lives_of l.spans.items ≡ ended l.fn.index l.fn.until (lives_of l.fn.spans.items);
}

abbrev pub decreases-loop-place : goal.decreases-loop-place
decreases-loop-place l = 2 ^ 64 - l.at
