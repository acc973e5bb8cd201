use Rattle.std.proofs.Common.{◌≡◌, take}
use Rattle.userset_index.proofs.spans.Spans.of.Given as goal

abbrev pub invariant-loop-life : goal.invariant-loop-life
invariant-loop-life l = l.spans ≡ take l.life-index l.lives
