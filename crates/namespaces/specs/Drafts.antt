-- The namespace that a draft shows.
use Rattle.std.specs.Prelude.{string_bytes}
use Rattle.namespaces.specs.Declaration.{Namespace}
use Rattle.namespaces.specs.Shown.{show_relations}
use Rattle.namespaces.specs.declared.reading.Draft.{Draft}

abbrev pub show_draft : Draft → Namespace
show_draft d = record { name = string_bytes d.name; relations = show_relations d.relations.items }
