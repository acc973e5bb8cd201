-- Which expression a JSON value is, where it has the shape of one.
use Rattle.std.specs.Prelude.{ℕ, ◌+◌, ◌==◌, if◌then◌else◌, Bool, List, [], ◌∷◌, codes, is_some, Result, Ok, Err}
use Rattle.std.specs.Str.{bytes_eq}
use Rattle.serde_json.specs.Data.{Data, null, boolean, number, string, array, object, Items, no_items, item, Members, no_members, member}
use Rattle.serde_json.specs.Find.{get, as_str}
use Rattle.namespaces.specs.declared.fault.RulesFault.{RulesFault}
use Rattle.namespaces.specs.declared.fault.RulesFault.TheVariants.{Shape}
use Rattle.namespaces.specs.Fault.{needed}
use Rattle.refusals.specs.Refusals.{◌>>=◌}
use Rattle.rewrites.specs.Expression.{Expression, this, computed, tuple_to, union, inter, minus, children}

-- a text
abbrev pub text : Data → Result (List ℕ) RulesFault
text d = needed (as_str d)

-- the text at a key
abbrev pub text_at : List ℕ → Data → Result (List ℕ) RulesFault
text_at key d = needed (get key d) >>= text

abbrev pub has : List ℕ → Data → Bool
has key d = is_some (get key d)

abbrev pub one_if : Bool → ℕ
one_if b = if b then 1 else 0

-- how many of the six keys an expression has, whatever stands at them
unfoldable pub forms_in : Data → ℕ
forms_in d =
    one_if (has (codes "this") d) + one_if (has (codes "computed") d) + one_if (has (codes "tuple_to") d)
    + one_if (has (codes "union") d) + one_if (has (codes "intersection") d) + one_if (has (codes "exclusion") d)

abbrev pub pair_of_names : Data → Result Expression RulesFault
pair_of_names d = do
  tupleset ← text_at (codes "tupleset") d
  relation ← text_at (codes "computed") d
  Ok (tuple_to tupleset relation)

-- an expression that has exactly one of the six keys, from what its children are where it has them
unfoldable pub only_form : Data → Result (List Expression) RulesFault → Result (List Expression) RulesFault → Result Expression RulesFault → Result Expression RulesFault
only_form d unions inters exclusions =
    if forms_in d == 1
    then (if has (codes "this") d then Ok this
    else (if has (codes "computed") d then (text_at (codes "computed") d >>= λ q. Ok (computed q))
    else (if has (codes "tuple_to") d then (needed (get (codes "tuple_to") d) >>= pair_of_names)
    else (if has (codes "union") d then (unions >>= λ rs. Ok (union (children rs)))
    else (if has (codes "intersection") d then (inters >>= λ rs. Ok (inter (children rs)))
    else exclusions)))))
    else Err Shape

abbrev mutual
  pub expression : Data → Result Expression RulesFault
  expression null = Err Shape
  expression (boolean b) = Err Shape
  expression (number n) = Err Shape
  expression (string s) = Err Shape
  expression (array ds) = Err Shape
  expression (object ms) = only_form (object ms) (child_list_at (codes "union") ms) (child_list_at (codes "intersection") ms) (exclusion_at (codes "exclusion") ms)

  -- a list of expressions
  pub child_list : Data → Result (List Expression) RulesFault
  child_list null = Err Shape
  child_list (boolean b) = Err Shape
  child_list (number n) = Err Shape
  child_list (string s) = Err Shape
  child_list (array ds) = expressions ds
  child_list (object ms) = Err Shape

  pub expressions : Items → Result (List Expression) RulesFault
  expressions no_items = Ok []
  expressions (item d ds) = expression d >>= λ r. expressions ds >>= λ rs. Ok (r ∷ rs)

  -- a base and what is subtracted from it
  pub exclusion : Data → Result Expression RulesFault
  exclusion null = Err Shape
  exclusion (boolean b) = Err Shape
  exclusion (number n) = Err Shape
  exclusion (string s) = Err Shape
  exclusion (array ds) = Err Shape
  exclusion (object ms) = expression_at (codes "base") ms >>= λ a. expression_at (codes "subtract") ms >>= λ b. Ok (minus a b)

  -- the same of the member at a key
  pub expression_at : List ℕ → Members → Result Expression RulesFault
  expression_at key no_members = Err Shape
  expression_at key (member k d ms) = if bytes_eq key k then expression d else expression_at key ms

  pub child_list_at : List ℕ → Members → Result (List Expression) RulesFault
  child_list_at key no_members = Err Shape
  child_list_at key (member k d ms) = if bytes_eq key k then child_list d else child_list_at key ms

  pub exclusion_at : List ℕ → Members → Result Expression RulesFault
  exclusion_at key no_members = Err Shape
  exclusion_at key (member k d ms) = if bytes_eq key k then exclusion d else exclusion_at key ms
