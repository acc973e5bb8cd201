use Rattle.std.proofs.Common.{◌≡◌, ◌-◌, ◌≤◌, ℕ, None, Some, length}
use Rattle.std.specs.Prelude.{slice_get, Option}
use Rattle.std.specs.declared.alloc.Global.{Global}
use Rattle.std.specs.declared.boxed.Box.{Box}
use Rattle.wide_rules.specs.declared.kept.Kept.{Kept}
use Rattle.wide_rules.proofs.asking.nothing_kept.Given as goal

-- nothing is kept of the parts so far
abbrev pub invariant-loop-kept : goal.invariant-loop-kept
invariant-loop-kept l = record {
  within : length l.kept.items ≤ length l.parts;
  none : (k : ℕ) (one : Option (Box Kept Global)) → slice_get l.kept.items k ≡ Some one → one ≡ None;
}

abbrev pub decreases-loop-kept : goal.decreases-loop-kept
decreases-loop-kept l = length l.parts - length l.kept.items
