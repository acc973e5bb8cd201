use Rattle.std.proofs.Common.{◌≡◌, length}
use Rattle.rewrites.specs.Parts.{parts_shown}
use Rattle.wide_rules.specs.Asked.{AreCoversByPart}
use Rattle.wide_rules.proofs.covers.check_each.Given as goal

-- so it is of the parts so far
abbrev pub invariant-loop-k : goal.invariant-loop-k
invariant-loop-k l = record {
  count : length l.each.items ≡ l.k;
  each : AreCoversByPart (record { parts = parts_shown l.parts; covers = parts_shown l.covers }) l.each.items;
}
