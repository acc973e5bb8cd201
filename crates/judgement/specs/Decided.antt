-- What known facts say of a rule can be decided.
use Rattle.std.specs.Prelude.{◌≡◌, List, Option, None, Some, Contains, refl}
use Rattle.tuple_text.specs.Sets.{SetValue}
use Rattle.tuple_text.specs.Tuples.{TupleValue, FactValue}
use Rattle.tuple_text.specs.declared.users.User.TheVariants.{Id, Set}
use Rattle.rewrites.specs.Expression.{Expression, this, computed, tuple_to, union, inter, minus, Expressions, no_child, child}
use Rattle.namespaces.specs.Lookup.{Rule, Lookup, rule_of}
use Rattle.strata.specs.Meaning.{with_relation, same_user, IsStored}
use Rattle.strata.specs.Decisions.{same_set, same_tuple, dec_some_stored, dec_not, dec_both, dec_either, dec_same, dec_contains}
use Rattle.std.proofs.Math.Decide.{ℕ_discrete}
use Rattle.std.proofs.Common.{ap}
use Rattle.judgement.specs.Judgement.{KnownValue, IsOut, Established, SomeEstablished, EachEstablished, Refuted, EachRefuted, SomeRefuted}

pub same_facts : Discrete FactValue
same_facts a b = parts (same_set a.set b.set) (ℕ_discrete a.user b.user)
  where
    parts : Dec (a.set ≡ b.set) → Dec (a.user ≡ b.user) → Dec (a ≡ b)
    parts (yes p) (yes q) = yes (λ i. record { set = p i; user = q i })
    parts (yes p) (no n) = no (λ e. n (ap (λ (x : FactValue). x.user) e))
    parts (no n) d = no (λ e. n (ap (λ (x : FactValue). x.set) e))

pub dec_undeclared : (o : Option Rule) → Dec (o ≡ None)
dec_undeclared None = yes refl
dec_undeclared (Some r) = no (λ e. cc)

-- whether each stored userset of s meets Q
dec_each_stored : (store : List TupleValue) (s : SetValue) (Q : SetValue → Type 0) → ((g : SetValue) → Dec (Q g))
    → Dec ((g : SetValue) → IsStored store s (Set g) → Q g)
dec_each_stored store s Q d =
    dec_same (λ n g c. by_dec g (d g) (λ m. n (g, c, m))) (λ h t. t.2 (h t.0 t.1))
    (dec_not (dec_some_stored store s (λ g. ¬ Q g) (λ g c. dec_not (d g))))
  where
    by_dec : (g : SetValue) → Dec (Q g) → ((¬ Q g) → ⊥) → Q g
    by_dec g (yes q) h = q
    by_dec g (no n) h = absurd (h n)

dec_out : (rules : Lookup) (known : KnownValue) (f : FactValue) → Dec (IsOut rules known f)
dec_out rules known f = dec_either (dec_undeclared (rule_of rules f.set)) (dec_contains same_facts known.no f)

mutual
  pub dec_established : (rules : Lookup) (store : List TupleValue) (known : KnownValue) (f : FactValue) (e : Expression)
      → Dec (Established rules store known f e)
  dec_established rules store known f this =
      dec_either (dec_contains same_tuple store (record { set = f.set; user = Id f.user }))
      (dec_some_stored store f.set (λ g. Contains known.yes (same_user f g))
      (λ g c. dec_contains same_facts known.yes (same_user f g)))
  dec_established rules store known f (computed q) =
      dec_contains same_facts known.yes (same_user f (with_relation f.set q))
  dec_established rules store known f (tuple_to q c) =
      dec_some_stored store (with_relation f.set q) (λ g. Contains known.yes (same_user f (with_relation g c)))
      (λ g h. dec_contains same_facts known.yes (same_user f (with_relation g c)))
  dec_established rules store known f (union es) = dec_some_established rules store known f es
  dec_established rules store known f (inter es) = dec_each_established rules store known f es
  dec_established rules store known f (minus a b) =
      dec_both (dec_established rules store known f a) (dec_refuted rules store known f b)

  dec_some_established : (rules : Lookup) (store : List TupleValue) (known : KnownValue) (f : FactValue)
      (es : Expressions)
      → Dec (SomeEstablished rules store known f es)
  dec_some_established rules store known f no_child = no (λ h. h)
  dec_some_established rules store known f (child e es) =
      dec_either (dec_established rules store known f e) (dec_some_established rules store known f es)

  dec_each_established : (rules : Lookup) (store : List TupleValue) (known : KnownValue) (f : FactValue)
      (es : Expressions)
      → Dec (EachEstablished rules store known f es)
  dec_each_established rules store known f no_child = yes tt
  dec_each_established rules store known f (child e es) =
      dec_both (dec_established rules store known f e) (dec_each_established rules store known f es)

  pub dec_refuted : (rules : Lookup) (store : List TupleValue) (known : KnownValue) (f : FactValue) (e : Expression)
      → Dec (Refuted rules store known f e)
  dec_refuted rules store known f this =
      dec_both (dec_not (dec_contains same_tuple store (record { set = f.set; user = Id f.user })))
      (dec_each_stored store f.set (λ g. IsOut rules known (same_user f g)) (λ g. dec_out rules known (same_user f g)))
  dec_refuted rules store known f (computed q) = dec_contains same_facts known.no (same_user f (with_relation f.set q))
  dec_refuted rules store known f (tuple_to q c) =
      dec_each_stored store (with_relation f.set q) (λ g. IsOut rules known (same_user f (with_relation g c)))
      (λ g. dec_out rules known (same_user f (with_relation g c)))
  dec_refuted rules store known f (union es) = dec_each_refuted rules store known f es
  dec_refuted rules store known f (inter es) = dec_some_refuted rules store known f es
  dec_refuted rules store known f (minus a b) =
      dec_either (dec_refuted rules store known f a) (dec_established rules store known f b)

  dec_each_refuted : (rules : Lookup) (store : List TupleValue) (known : KnownValue) (f : FactValue) (es : Expressions)
      → Dec (EachRefuted rules store known f es)
  dec_each_refuted rules store known f no_child = yes tt
  dec_each_refuted rules store known f (child e es) =
      dec_both (dec_refuted rules store known f e) (dec_each_refuted rules store known f es)

  dec_some_refuted : (rules : Lookup) (store : List TupleValue) (known : KnownValue) (f : FactValue) (es : Expressions)
      → Dec (SomeRefuted rules store known f es)
  dec_some_refuted rules store known f no_child = no (λ h. h)
  dec_some_refuted rules store known f (child e es) =
      dec_either (dec_refuted rules store known f e) (dec_some_refuted rules store known f es)
