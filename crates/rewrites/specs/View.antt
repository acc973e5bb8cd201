-- The expression that a `Rewrite` stands for.
use Rattle.std.specs.Prelude.{List, map, string_bytes}
use Rattle.rewrites.specs.Expression.{Expression, this, computed, tuple_to, union, inter, minus, Expressions, children}
use Rattle.rewrites.specs.declared.rewrite.Rewrite.{Rewrite, fold-Rewrite}
use Rattle.rewrites.specs.declared.rewrite.Rewrite.TheOpen.{Rewrite-F}

-- one level, with each rewrite inside already seen as its expression
abbrev pub expression_step : Rewrite-F Expression → Expression
expression_step Rewrite-F.This = this
expression_step (Rewrite-F.Computed q) = computed (string_bytes q)
expression_step (Rewrite-F.TupleTo q c) = tuple_to (string_bytes q) (string_bytes c)
expression_step (Rewrite-F.Union es) = union (children es.items)
expression_step (Rewrite-F.Inter es) = inter (children es.items)
expression_step (Rewrite-F.Minus a b) = minus a.value b.value

abbrev pub expression_of : Rewrite → Expression
expression_of = fold-Rewrite Expression expression_step

abbrev pub expressions_of : List Rewrite → Expressions
expressions_of es = children (map expression_of es)
