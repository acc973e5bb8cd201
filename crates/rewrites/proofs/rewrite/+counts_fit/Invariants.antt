use Rattle.std.proofs.Common.{◌≡◌, drop}
use Rattle.rewrites.specs.Expression.{counts_fit_all}
use Rattle.rewrites.specs.View.{expressions_of}
use Rattle.rewrites.proofs.rewrite.+counts_fit.Given as goal

-- what decides are the children that are left
abbrev pub invariant-all_counts_fit-loop-child : goal.invariant-all_counts_fit-loop-child
invariant-all_counts_fit-loop-child l = counts_fit_all (expressions_of l.child-items) ≡ counts_fit_all (expressions_of (drop l.child-index l.child-items))
