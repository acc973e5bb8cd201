-- What a search for evidence may cost, and when a goal outgrows it.
use Rattle.std.specs.Prelude.{ℕ, ◌+◌, ◌<◌, Bool, true, false, List, length, Option, None, Some, ◌⊎◌, Contains, sum_by}
use Rattle.std.specs.List.{filter_map}
use Rattle.tuple_text.specs.Grammar.{IsFact}
use Rattle.tuple_text.specs.Sets.{SetValue, set_eq}
use Rattle.tuple_text.specs.Tuples.{TupleValue, FactValue}
use Rattle.tuple_text.specs.declared.users.User.{User}
use Rattle.tuple_text.specs.declared.users.User.TheVariants.{Id, Set}
use Rattle.rewrites.specs.Expression.{Expression, this, computed, tuple_to, union, inter, minus, Expressions, no_child, child}
use Rattle.namespaces.specs.Lookup.{Rule, Lookup, rule_of}
use Rattle.strata.specs.Meaning.{with_relation}
use Rattle.goal_cone.specs.Cone.{HasItsPremises}

abbrev pub if_set : Bool → User → Option SetValue
if_set true (Id n) = None
if_set true (Set g) = Some g
if_set false u = None

-- the usersets that are stored in a userset
abbrev pub stored_sets : List TupleValue → SetValue → List SetValue
stored_sets store s = filter_map (λ t. if_set (set_eq s t.set) t.user) store

-- how many stored usersets an expression reads for a userset, place by place
abbrev mutual
  pub links : List TupleValue → SetValue → Expression → ℕ
  links store s this = length (stored_sets store s)
  links store s (computed q) = 0
  links store s (tuple_to q c) = length (stored_sets store (with_relation s q))
  links store s (union es) = links_all store s es
  links store s (inter es) = links_all store s es
  links store s (minus a b) = links store s a + links store s b

  pub links_all : List TupleValue → SetValue → Expressions → ℕ
  links_all store s no_child = 0
  links_all store s (child e es) = links store s e + links_all store s es

abbrev pub links_by : List TupleValue → SetValue → Option Rule → ℕ
links_by store s None = 0
links_by store s (Some r) = links store s r.expression

-- how many stored usersets the rule of f reads
abbrev pub links_of : Lookup → List TupleValue → FactValue → ℕ
links_of rules store f = links_by store f.set (rule_of rules f.set)

-- each list of facts that holds the goal and its own premises has more than so many facts, or more than so many stored
-- links
abbrev pub IsOutgrown : ℕ → ℕ → Lookup → List TupleValue → FactValue → Type 0
IsOutgrown most_facts most_links rules store goal =
    (D : List FactValue) → ((f : FactValue) → Contains D f → IsFact f) → Contains D goal
    → HasItsPremises rules store D →
    (most_facts < length D) ⊎ (most_links < sum_by (links_of rules store) D)
