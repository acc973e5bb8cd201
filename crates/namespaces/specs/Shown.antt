-- The declarations that the lines of `Rules` show.
use Rattle.std.specs.Prelude.{List, map, String, string_bytes}
use Rattle.std.specs.declared.alloc.Global.{Global}
use Rattle.rewrites.specs.View.{expression_of}
use Rattle.namespaces.specs.Declaration as declaration
use Rattle.namespaces.specs.declared.relation.Relation.{Relation}
use Rattle.namespaces.specs.declared.table.Namespace.{Namespace}
use Rattle.namespaces.specs.declared.rules.Line.{Line}

abbrev pub show_relation : String Global × Relation → declaration.Relation
show_relation e = record { name = string_bytes e.0; stratum = e.1.stratum; expression = expression_of e.1.rewrite }

abbrev pub show_relations : List (String Global × Relation) → List declaration.Relation
show_relations es = map show_relation es

abbrev pub show_namespace : Namespace → declaration.Namespace
show_namespace n = record { name = string_bytes n.name; relations = show_relations n.relations.entries }

abbrev pub show_line : Line → declaration.Declaration
show_line l = record { at = l.at; is_change = l.is_change; name = string_bytes l.namespace.name; relations = show_relations l.namespace.relations.entries }

abbrev pub show_lines : List Line → List declaration.Declaration
show_lines ls = map show_line ls
