-- How the logic stores an expression: as a tree of numbers, which gives it back.
use Rattle.std.specs.Prelude.{◌≡◌, ℕ, ◌==◌, cond, List, [], ◌∷◌, refl}
use Rattle.std.specs.Coded.{Coded, code_by}
use base.Stored.{Gv, gnil, gnum, gcons, num}
use mathlib.Core.Path.{ap}
use Rattle.rewrites.specs.Expression.{Expression, this, computed, tuple_to, union, inter, minus, Expressions, no_child, child}

abbrev pub bytes_to_tree : List ℕ → Gv
bytes_to_tree [] = gnil
bytes_to_tree (x ∷ xs) = gcons (gnum x) (bytes_to_tree xs)

abbrev pub bytes_from_tree : Gv → List ℕ
bytes_from_tree gnil = []
bytes_from_tree (gnum n) = []
bytes_from_tree (gcons a b) = num a ∷ bytes_from_tree b

pub bytes_from_tree-bytes_to_tree : (xs : List ℕ) → bytes_from_tree (bytes_to_tree xs) ≡ xs
bytes_from_tree-bytes_to_tree [] = refl
bytes_from_tree-bytes_to_tree (x ∷ xs) = ap (λ ys. x ∷ ys) (bytes_from_tree-bytes_to_tree xs)

abbrev mutual
  pub expression_to_tree : Expression → Gv
  expression_to_tree this = gnil
  expression_to_tree (computed q) = gcons (gnum 1) (bytes_to_tree q)
  expression_to_tree (tuple_to q c) = gcons (gnum 2) (gcons (bytes_to_tree q) (bytes_to_tree c))
  expression_to_tree (union rs) = gcons (gnum 3) (expressions_to_tree rs)
  expression_to_tree (inter rs) = gcons (gnum 4) (expressions_to_tree rs)
  expression_to_tree (minus a b) = gcons (gnum 5) (gcons (expression_to_tree a) (expression_to_tree b))

  pub expressions_to_tree : Expressions → Gv
  expressions_to_tree no_child = gnil
  expressions_to_tree (child r rs) = gcons (expression_to_tree r) (expressions_to_tree rs)

abbrev pub names_from_tree : Gv → Expression
names_from_tree gnil = this
names_from_tree (gnum n) = this
names_from_tree (gcons a b) = tuple_to (bytes_from_tree a) (bytes_from_tree b)

-- the expression whose tree has this number first, of the expressions that its other part may stand for
abbrev pub tagged : ℕ → Expression → Expression → Expression → Expression → Expression → Expression
tagged n one two three four five = cond (n == 1) one (cond (n == 2) two (cond (n == 3) three (cond (n == 4) four five)))

abbrev mutual
  pub expression_from_tree : Gv → Expression
  expression_from_tree gnil = this
  expression_from_tree (gnum n) = this
  expression_from_tree (gcons a b) = tagged (num a) (computed (bytes_from_tree b)) (names_from_tree b) (union (expressions_from_tree b)) (inter (expressions_from_tree b)) (sides_from_tree b)

  pub expressions_from_tree : Gv → Expressions
  expressions_from_tree gnil = no_child
  expressions_from_tree (gnum n) = no_child
  expressions_from_tree (gcons a b) = child (expression_from_tree a) (expressions_from_tree b)

  pub sides_from_tree : Gv → Expression
  sides_from_tree gnil = this
  sides_from_tree (gnum n) = this
  sides_from_tree (gcons a b) = minus (expression_from_tree a) (expression_from_tree b)

mutual
  pub expression_from_tree-expression_to_tree : (r : Expression) → expression_from_tree (expression_to_tree r) ≡ r
  expression_from_tree-expression_to_tree this = refl
  expression_from_tree-expression_to_tree (computed q) = ap computed (bytes_from_tree-bytes_to_tree q)
  expression_from_tree-expression_to_tree (tuple_to q c) = λ i. tuple_to (bytes_from_tree-bytes_to_tree q i) (bytes_from_tree-bytes_to_tree c i)
  expression_from_tree-expression_to_tree (union rs) = ap union (expressions_from_tree-expressions_to_tree rs)
  expression_from_tree-expression_to_tree (inter rs) = ap inter (expressions_from_tree-expressions_to_tree rs)
  expression_from_tree-expression_to_tree (minus a b) = λ i. minus (expression_from_tree-expression_to_tree a i) (expression_from_tree-expression_to_tree b i)

  pub expressions_from_tree-expressions_to_tree : (rs : Expressions) → expressions_from_tree (expressions_to_tree rs) ≡ rs
  expressions_from_tree-expressions_to_tree no_child = refl
  expressions_from_tree-expressions_to_tree (child r rs) = λ i. child (expression_from_tree-expression_to_tree r i) (expressions_from_tree-expressions_to_tree rs i)

abbrev tree_code : Coded Gv
tree_code = record { code = λ t. t; inj = λ s t e. e }

abbrev pub expression_code : Coded Expression
expression_code = code_by Gv tree_code expression_to_tree expression_from_tree expression_from_tree-expression_to_tree
