-- A worked case: an exclusion inside a subtracted side.
use Rattle.std.proofs.Common.{◌≡◌, ℕ, List, [], ◌∷◌, inl, refl, arith}
use Rattle.std.specs.Prelude.{codes, Ok}
use Rattle.tuple_text.specs.Sets.{SetValue}
use Rattle.tuple_text.specs.Tuples.{TupleValue}
use Rattle.tuple_text.specs.declared.users.User.TheVariants.{Id}
use Rattle.rewrites.specs.Expression.{this, computed, minus}
use Rattle.namespaces.specs.Declaration.{Declaration, addition}
use Rattle.namespaces.specs.Lookup.{rule_at}
use Rattle.strata.specs.Edges.{first_broken, rule_edges}
use Rattle.strata.specs.Meaning.{Member}
use Rattle.strata.proofs.Lists.{Contains-here, Contains-there}

abbrev doc_one : List ℕ → SetValue
doc_one relation = record { namespace = codes "doc"; id = codes "1"; relation = relation }

-- `a` holds what is stored, and `c` what is stored but for those that are stored and not in `a`
abbrev rules_of_doc : List Declaration
rules_of_doc =
    addition
    (record {
      name = codes "doc";
      relations =
          record { name = codes "a"; stratum = 0; expression = this }
          ∷ record { name = codes "c"; stratum = 1; expression = minus this (minus this (computed (codes "a"))) }
          ∷ [];
    })
    ∷ []

abbrev a_seven : TupleValue
a_seven = record { set = doc_one (codes "a"); user = Id 7 }

abbrev c_seven : TupleValue
c_seven = record { set = doc_one (codes "c"); user = Id 7 }

no_edge_broken : first_broken rules_of_doc (rule_edges rules_of_doc) ≡ Ok (tt {0})
no_edge_broken = refl

-- user 7 is stored in both, so that `a` keeps it from being subtracted from `c`
c_has_seven : Member (rule_at rules_of_doc 5) (a_seven ∷ c_seven ∷ []) (record { set = doc_one (codes "c"); user = 7 })
c_has_seven = (
  record { stratum = 1; expression = minus this (minus this (computed (codes "a"))) },
  refl,
  (
    1,
    (
      record { stratum = 1; expression = minus this (minus this (computed (codes "a"))) },
      refl,
      omega arith,
      (
        inl (Contains-there a_seven (c_seven ∷ []) c_seven (Contains-here c_seven [])),
        λ b. b.1 (1, (record { stratum = 0; expression = this }, refl, omega arith, inl (Contains-here a_seven (c_seven ∷ [])))),
      ),
    ),
  ),
)
