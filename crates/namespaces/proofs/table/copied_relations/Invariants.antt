use Rattle.std.proofs.Common.{◌≡◌, ◌++◌, drop}
use Rattle.namespaces.specs.Shown.{show_relations}
use Rattle.namespaces.proofs.table.copied_relations.Given as goal

-- the copies so far, and the relations that are left
abbrev pub invariant-loop-name : goal.invariant-loop-name
invariant-loop-name l = show_relations l.copies.items ++ show_relations (drop l.name-index l.name-items) ≡ show_relations l.relations.entries
