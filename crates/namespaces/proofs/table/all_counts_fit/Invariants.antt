use Rattle.std.proofs.Common.{◌≡◌, drop}
use Rattle.std.specs.List.{list_all}
use Rattle.rewrites.specs.Expression.{counts_fit}
use Rattle.namespaces.specs.Shown.{show_relations}
use Rattle.namespaces.proofs.table.all_counts_fit.Given as goal

-- what decides are the relations that are left
abbrev pub invariant-loop-relation : goal.invariant-loop-relation
invariant-loop-relation l = list_all (λ r. counts_fit r.expression) (show_relations l.relations.entries) ≡ list_all (λ r. counts_fit r.expression) (show_relations (drop l.relation-index l.relation-items))
