use Rattle.std.proofs.Common.{◌≡◌, drop}
use Rattle.namespaces.specs.Changing.{keeps_names}
use Rattle.namespaces.specs.Shown.{show_relations}
use Rattle.namespaces.proofs.table.keeps_names.Given as goal

-- what decides are the relations from one on
abbrev pub invariant-loop-index : goal.invariant-loop-index
invariant-loop-index l =
    keeps_names (show_relations l.old.entries) (show_relations l.new.entries)
    ≡ keeps_names (drop l.index (show_relations l.old.entries)) (drop l.index (show_relations l.new.entries))
