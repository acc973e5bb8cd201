use Rattle.std.proofs.Common.{◌≡◌, drop}
use Rattle.std.specs.Str.{bytes_eq}
use Rattle.std.specs.List.{list_any, list_all}
use Rattle.rewrites.specs.Expression.{own_relations_all}
use Rattle.namespaces.specs.Shown.{show_relations}
use Rattle.rewrites.specs.View.{expressions_of}
use Rattle.namespaces.proofs.reading.+reads_declared.Given as goal

-- what decides are the names in the children that are left
abbrev pub invariant-all_read_declared-loop-child : goal.invariant-all_read_declared-loop-child
invariant-all_read_declared-loop-child l =
    list_all (λ q. list_any (λ e. bytes_eq q e.name) (show_relations l.relations.entries)) (own_relations_all (expressions_of l.child-items))
    ≡ list_all (λ q. list_any (λ e. bytes_eq q e.name) (show_relations l.relations.entries)) (own_relations_all (expressions_of (drop l.child-index l.child-items)))
