-- Where its premises are settled, an expression is established or refuted.
use Rattle.std.proofs.Common.{ℕ, List, [], ◌++◌, ◌⊎◌, inl, inr}
use Rattle.std.specs.Prelude.{Contains}
use Rattle.std.proofs.lemmas.List.Elements.{Contains-append_left, Contains-append_right}
use Rattle.tuple_text.specs.Sets.{SetValue}
use Rattle.tuple_text.specs.Tuples.{TupleValue, FactValue}
use Rattle.tuple_text.specs.declared.users.User.TheVariants.{Id, Set}
use Rattle.rewrites.specs.Expression.{Expression, this, computed, tuple_to, union, inter, minus, Expressions, no_child, child, own_relations, own_relations_all}
use Rattle.namespaces.specs.Lookup.{Lookup}
use Rattle.strata.specs.Meaning.{with_relation, same_user, IsStored}
use Rattle.strata.specs.Strata.{EachPremise, EachPremises}
use Rattle.strata.proofs.Decided.{same_tuple, dec_some_stored}
use Rattle.strata.proofs.Lists.{dec_contains, Contains-here}
use Rattle.judgement.specs.Judgement.{KnownValue, IsUndeclared, IsOut, Established, SomeEstablished, EachEstablished, Refuted, EachRefuted, SomeRefuted}
use Rattle.judgement.specs.Decided.{same_facts}
use Rattle.evidence_maker.specs.Own.{OwnDeclared}
use Rattle.evidence_maker.specs.Settled.{IsSettled}

turned : {A B : Type 0} → A ⊎ B → B ⊎ A
turned (inl a) = inr a
turned (inr b) = inl b

-- one of the first, or each of the second
some_or_each : {A B C D : Type 0} → A ⊎ B → C ⊎ D → (A ⊎ C) ⊎ (B × D)
some_or_each (inl a) h = inl (inl a)
some_or_each (inr b) (inl c) = inl (inr c)
some_or_each (inr b) (inr d) = inr (b, d)

each_or_some : {A B C D : Type 0} → A ⊎ B → C ⊎ D → (A × C) ⊎ (B ⊎ D)
each_or_some g h = turned (some_or_each (turned g) (turned h))

module _ (rules : Lookup) (store : List TupleValue) (known : KnownValue) (f : FactValue) where
  out_of : (p : FactValue) → IsSettled rules known p → ¬ Contains known.yes p → IsOut rules known p
  out_of p (inl y) n = absurd (n y)
  out_of p (inr o) n = o

  abbrev AreDeclared : List (List ℕ) → Type 0
  AreDeclared names = (q : List ℕ) → Contains names q → ¬ IsUndeclared rules (with_relation f.set q)

  in_front : (xs ys : List (List ℕ)) → AreDeclared (xs ++ ys) → AreDeclared xs
  in_front xs ys own q c = own q (Contains-append_left xs ys q c)

  behind : (xs ys : List (List ℕ)) → AreDeclared (xs ++ ys) → AreDeclared ys
  behind xs ys own q c = own q (Contains-append_right xs ys q c)

  mutual
    pub settling : (e : Expression) → EachPremise store (IsSettled rules known) (IsSettled rules known) f e
        → OwnDeclared rules f.set e → Established rules store known f e ⊎ Refuted rules store known f e
    settling this h own = by_cases
        (dec_contains same_tuple store (record { set = f.set; user = Id f.user }))
        (dec_some_stored store f.set (λ g. Contains known.yes (same_user f g)) (λ g c. dec_contains same_facts known.yes (same_user f g)))
      where
        by_cases : Dec (IsStored store f.set (Id f.user))
            → Dec ((g : SetValue) × IsStored store f.set (Set g) × Contains known.yes (same_user f g))
            → Established rules store known f this ⊎ Refuted rules store known f this
        by_cases (yes s) d = inl (inl s)
        by_cases (no n) (yes t) = inl (inr t)
        by_cases (no n) (no m) = inr (n, λ g s. out_of (same_user f g) (h g s) (λ c. m (g, s, c)))
    settling (computed q) h own = by_cases h
      where
        by_cases : IsSettled rules known (same_user f (with_relation f.set q))
            → Established rules store known f (computed q) ⊎ Refuted rules store known f (computed q)
        by_cases (inl y) = inl y
        by_cases (inr (inl u)) = absurd (own q (Contains-here q []) u)
        by_cases (inr (inr c)) = inr c
    settling (tuple_to q c) h own = by_cases
        (dec_some_stored store (with_relation f.set q) (λ g. Contains known.yes (same_user f (with_relation g c)))
        (λ g s. dec_contains same_facts known.yes (same_user f (with_relation g c))))
      where
        by_cases : Dec ((g : SetValue) × IsStored store (with_relation f.set q) (Set g) × Contains known.yes (same_user f (with_relation g c)))
            → Established rules store known f (tuple_to q c) ⊎ Refuted rules store known f (tuple_to q c)
        by_cases (yes t) = inl t
        by_cases (no m) = inr (λ g s. out_of (same_user f (with_relation g c)) (h g s) (λ y. m (g, s, y)))
    settling (union es) h own = settling_some es h own
    settling (inter es) h own = settling_each es h own
    settling (minus a b) h own = each_or_some
        (settling a h.0 (in_front (own_relations a) (own_relations b) own))
        (turned (settling b h.1 (behind (own_relations a) (own_relations b) own)))

    settling_some : (es : Expressions) → EachPremises store (IsSettled rules known) (IsSettled rules known) f es
        → AreDeclared (own_relations_all es)
        → SomeEstablished rules store known f es ⊎ EachRefuted rules store known f es
    settling_some no_child h own = inr tt
    settling_some (child e es) h own = some_or_each
        (settling e h.0 (in_front (own_relations e) (own_relations_all es) own))
        (settling_some es h.1 (behind (own_relations e) (own_relations_all es) own))

    settling_each : (es : Expressions) → EachPremises store (IsSettled rules known) (IsSettled rules known) f es
        → AreDeclared (own_relations_all es)
        → EachEstablished rules store known f es ⊎ SomeRefuted rules store known f es
    settling_each no_child h own = inl tt
    settling_each (child e es) h own = each_or_some
        (settling e h.0 (in_front (own_relations e) (own_relations_all es) own))
        (settling_each es h.1 (behind (own_relations e) (own_relations_all es) own))
