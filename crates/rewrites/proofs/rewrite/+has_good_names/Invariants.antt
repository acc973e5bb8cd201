use Rattle.std.proofs.Common.{◌≡◌, drop}
use Rattle.std.specs.List.{list_all}
use Rattle.rewrites.specs.Expression.{names_in_all}
use Rattle.tuple_text.specs.Forms.{is_name}
use Rattle.rewrites.specs.View.{expressions_of}
use Rattle.rewrites.proofs.rewrite.+has_good_names.Given as goal

-- what decides are the names of the children that are left
abbrev pub invariant-all_have_good_names-loop-child : goal.invariant-all_have_good_names-loop-child
invariant-all_have_good_names-loop-child l = list_all is_name (names_in_all (expressions_of l.child-items)) ≡ list_all is_name (names_in_all (expressions_of (drop l.child-index l.child-items)))
