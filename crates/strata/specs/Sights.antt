-- What is looked for in a rule. No public clause cites this module.
use Rattle.std.specs.Prelude.{Bool, true, false, ◌||◌, Option, None}
use Rattle.rewrites.specs.Expression.{Expression, this, computed, tuple_to, union, inter, minus, Expressions, no_child, child}
use Rattle.tuple_text.specs.Refs.{set_value}
use Rattle.strata.specs.Edges.{RelationName, Place, at_this, at_computed, at_tuple_to, read_by_rule, read_in_userset, read_through}
use Rattle.tuple_text.specs.declared.sets.SetRef.{SetRef}
use Rattle.strata.specs.declared.walk.Sight.{Sight}
use Rattle.strata.specs.declared.walk.Sight.TheVariants.{Rule, Userset, Through}

abbrev pub reads : Sight → Place → Option RelationName
reads (Rule namespace) = read_by_rule namespace.now
reads (Userset set) = read_in_userset (set_value set)
reads (Through tupleset set) = read_through tupleset.now (set_value set)

abbrev pub name_of : SetRef → RelationName
name_of s = record { namespace = s.namespace.now; relation = s.relation.now }

-- what a leaf of an expression reads
abbrev pub leaf_read : (Place → Option RelationName) → Expression → Option RelationName
leaf_read f this = f at_this
leaf_read f (computed q) = f (at_computed q)
leaf_read f (tuple_to q c) = f (at_tuple_to q c)
leaf_read f (union es) = None
leaf_read f (inter es) = None
leaf_read f (minus a b) = None

-- whether a place reads a tupleset
abbrev mutual
  pub reads_tupleset : Expression → Bool
  reads_tupleset this = false
  reads_tupleset (computed q) = false
  reads_tupleset (tuple_to q c) = true
  reads_tupleset (union es) = some_reads_tupleset es
  reads_tupleset (inter es) = some_reads_tupleset es
  reads_tupleset (minus a b) = reads_tupleset a || reads_tupleset b

  pub some_reads_tupleset : Expressions → Bool
  some_reads_tupleset no_child = false
  some_reads_tupleset (child e es) = reads_tupleset e || some_reads_tupleset es
