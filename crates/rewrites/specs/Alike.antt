-- Rules that say the same, whatever their leaves give and bar. A leaf is `this`, a computed relation or a tupleset.
use Rattle.std.specs.Prelude.{◌≡◌, Bool, true, false, ◌&&◌, ◌||◌, Option, None, Some, ⊤}
use Rattle.rewrites.specs.Expression.{Expression, this, computed, tuple_to, union, inter, minus, Expressions, no_child, child}

-- which leaves give a fact, and which rule it out
pub record Leaves : Type 0 where
  pub given : Expression → Bool
  pub barred : Expression → Bool

abbrev mutual
  -- whether an expression gives the fact where its leaves do as they do
  pub gives : Leaves → Expression → Bool
  gives l this = l.given this
  gives l (computed q) = l.given (computed q)
  gives l (tuple_to q c) = l.given (tuple_to q c)
  gives l (union es) = some_gives l es
  gives l (inter es) = each_gives l es
  gives l (minus a b) = gives l a && bars l b

  pub some_gives : Leaves → Expressions → Bool
  some_gives l no_child = false
  some_gives l (child e es) = gives l e || some_gives l es

  pub each_gives : Leaves → Expressions → Bool
  each_gives l no_child = true
  each_gives l (child e es) = gives l e && each_gives l es

  -- whether it rules the fact out
  pub bars : Leaves → Expression → Bool
  bars l this = l.barred this
  bars l (computed q) = l.barred (computed q)
  bars l (tuple_to q c) = l.barred (tuple_to q c)
  bars l (union es) = each_bars l es
  bars l (inter es) = some_bars l es
  bars l (minus a b) = bars l a || gives l b

  pub each_bars : Leaves → Expressions → Bool
  each_bars l no_child = true
  each_bars l (child e es) = bars l e && each_bars l es

  pub some_bars : Leaves → Expressions → Bool
  some_bars l no_child = false
  some_bars l (child e es) = bars l e || some_bars l es

-- two expressions give and rule out the same, whatever their leaves do
pub record IsAlike (a b : Expression) : Type 0 where
  pub gives_alike : (l : Leaves) → gives l a ≡ gives l b
  pub bars_alike : (l : Leaves) → bars l a ≡ bars l b

-- the same of two rules, or there is neither
abbrev pub AreAlike : Option Expression → Option Expression → Type 0
AreAlike None None = ⊤
AreAlike None (Some b) = ⊥
AreAlike (Some a) None = ⊥
AreAlike (Some a) (Some b) = IsAlike a b
