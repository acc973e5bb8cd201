-- What is read through one tupleset.
use Rattle.std.proofs.Common.{◌≡◌, ℕ, zero, suc, List, [], ◌∷◌, None, Some, ◌↔◌, true, false, refl, sym, subst, inl, inr, map, arith, String, Global}
use Rattle.std.specs.Prelude.{Contains, string_bytes}
use Rattle.tuple_text.specs.Sets.{SetValue}
use Rattle.tuple_text.specs.Tuples.{TupleValue, FactValue, fact_of}
use Rattle.namespaces.specs.Declaration.{Declaration}
use Rattle.rewrites.specs.Expression.{Expression, tuple_to, children}
use Rattle.namespaces.specs.InForce.{names_in_force}
use Rattle.namespaces.specs.Lookup.{Lookup, rule_at, rule_of}
use Rattle.rewrites.specs.Parts.{computed_names, through_expression}
use Rattle.rewrites.specs.declared.parts.Through.{Through}
use Rattle.strata.specs.Meaning.{with_relation}
use Rattle.judgement.specs.Decided.{dec_undeclared}
use Rattle.judgement.specs.Judgement.{KnownValue, SomeEstablished, EachRefuted}
use Rattle.judgement.specs.Passes.{AreBarred, BarsId, BarsNames, IsLedByName, IsLed, SomeSet, target}
use Rattle.judgement.specs.AskedFact.{asked_fact, asked_set, rules_over, tuples_over}
use Rattle.judgement.specs.Facts.{sets_of_user}
use Rattle.judgement.proofs.LedLemmas.{known_by_sets, sets_by_known, target_by_object}
use Rattle.judgement.proofs.PassLemmas.{some_from, some_given}
use Rattle.wide_rules.specs.AskedFact.{DoesFor, IsLedBy, LeadsUnder}
use Rattle.judgement.specs.declared.asked.AskedFact.{AskedFact}

-- ---- the relations of a userset's namespace are enough to look at

pub names_enough : (ds : List Declaration) (at : ℕ) (known : KnownValue) (names : List (List ℕ)) (id : ℕ) (g : SetValue)
    → ((c : List ℕ) → ¬ (rule_at ds at g.namespace c ≡ None) → Contains (names_in_force at g.namespace ds) c)
    → ((c : List ℕ) → Contains (names_in_force at g.namespace ds) c → Contains names c → BarsId (rule_at ds at) known (Some c) id g)
    → BarsNames (rule_at ds at) known names id g
names_enough ds at known names id g whole each c named = by (dec_undeclared (rule_of (rule_at ds at) (target g (Some c))))
  where
    by : Dec (rule_of (rule_at ds at) (target g (Some c)) ≡ None) → BarsId (rule_at ds at) known (Some c) id g
    by (yes none) = inl none
    by (no declared) = each c (whole c declared) named

-- ---- some userset that gives under some name

module _ (P : List ℕ → SetValue → Type 0) (names : List (List ℕ)) where
  pub name_of_some : (gs : List SetValue) → SomeSet (λ g. (c : List ℕ) × Contains names c × P c g) gs → (c : List ℕ) × Contains names c × SomeSet (P c) gs
  name_of_some [] h = absurd h
  name_of_some (g ∷ gs) (inl w) = (w.0, w.1, inl w.2)
  name_of_some (g ∷ gs) (inr h) = let w = name_of_some gs h in (w.0, w.1, inr w.2)

  pub some_of_name : (gs : List SetValue) (c : List ℕ) → Contains names c → SomeSet (P c) gs → SomeSet (λ g. (c : List ℕ) × Contains names c × P c g) gs
  some_of_name [] c there h = absurd h
  some_of_name (g ∷ gs) c there (inl p) = inl (c, there, p)
  some_of_name (g ∷ gs) c there (inr h) = inr (some_of_name gs c there h)

-- ---- a union of what each relation gives

module _ (rules : Lookup) (store : List TupleValue) (known : KnownValue) (f : FactValue) (q : List ℕ) where
  abbrev each : List (String Global × Unit {0}) → List Expression
  each es = map (λ e. tuple_to q (string_bytes e.0)) es

  abbrev names : List (String Global × Unit {0}) → List (List ℕ)
  names es = map (λ e. string_bytes e.0) es

  some_led : (es : List (String Global × Unit {0})) → SomeEstablished rules store known f (children (each es))
      → IsLedByName store known (with_relation f.set q) (names es) f.user
  some_led [] h = absurd h
  some_led (e ∷ es) (inl led) = (string_bytes e.0, (0, omega arith, refl), led)
  some_led (e ∷ es) (inr h) = let w = some_led es h in (w.0, (suc w.1.0, omega (arith, w.1.1), w.1.2), w.2)

  led_some : (es : List (String Global × Unit {0})) (c : List ℕ) → Contains (names es) c → IsLed store known (with_relation f.set q) (Some c) f.user
      → SomeEstablished rules store known f (children (each es))
  led_some [] c (k, within, is) led = absurd (omega arith)
  led_some (e ∷ es) c (zero, within, is) led = inl (rw is led)
  led_some (e ∷ es) c (suc k, within, is) led = inr (led_some es c (k, omega (arith, within), is) led)

  each_barred : (es : List (String Global × Unit {0})) → EachRefuted rules store known f (children (each es))
      → AreBarred rules store known (with_relation f.set q) (names es) f.user
  each_barred [] h c (k, within, is) = absurd (omega arith)
  each_barred (e ∷ es) h c (zero, within, is) = rw (← is) h.0
  each_barred (e ∷ es) h c (suc k, within, is) = each_barred es h.1 c (k, omega (arith, within), is)

  barred_each : (es : List (String Global × Unit {0})) → AreBarred rules store known (with_relation f.set q) (names es) f.user
      → EachRefuted rules store known f (children (each es))
  barred_each [] h = tt
  barred_each (e ∷ es) h = (
    h (string_bytes e.0) (0, omega arith, refl),
    barred_each es (λ c there. h c (suc there.0, omega (arith, there.1), there.2)),
  )

-- what leads by a name leads by that of a known fact of the user
pub led_by_targets : {F : Type 0} (a : AskedFact F) (names : List (List ℕ))
    → SomeSet (LeadsUnder a names) (sets_of_user a.user a.known.now.yes) ↔ IsLedBy a names
led_by_targets a names = (
  λ h.
      let w = some_given (LeadsUnder a names) (sets_of_user a.user a.known.now.yes) h in
      let t = target_by_object (tuples_over a) (asked_set a) w.0 w.0.relation refl w.2.1 in
      (w.0.relation, w.2.0, (t.0, t.1, subst (λ (u : SetValue). Contains a.known.now.yes (fact_of u a.user)) (sym t.2) (known_by_sets a.known.now.yes a.user w.0 w.1))),
  λ l.
      some_from (LeadsUnder a names) (sets_of_user a.user a.known.now.yes) (target l.2.0 (Some l.0))
      (sets_by_known a.known.now.yes a.user (target l.2.0 (Some l.0)) l.2.2) (l.1, (l.2.0, l.2.1, (refl, refl))),
)

-- a fact is asked for by what is stored in the tupleset of its object
module _ {F : Type 0} (a : AskedFact F) (t : Through) (set : SetValue)
    (is : set ≡ with_relation (asked_set a) (string_bytes t.tupleset)) where
  pub through_led : IsLedByName (tuples_over a) a.known.now set (computed_names t) a.user ↔ DoesFor a true (through_expression t)
  through_led = rw is (
    λ l. led_some (rules_over a) (tuples_over a) a.known.now (asked_fact a) (string_bytes t.tupleset) t.computed.entries l.0 l.1 l.2,
    λ e. some_led (rules_over a) (tuples_over a) a.known.now (asked_fact a) (string_bytes t.tupleset) t.computed.entries e,
  )

  pub through_barred : AreBarred (rules_over a) (tuples_over a) a.known.now set (computed_names t) a.user ↔ DoesFor a false (through_expression t)
  through_barred = rw is (
    λ b. barred_each (rules_over a) (tuples_over a) a.known.now (asked_fact a) (string_bytes t.tupleset) t.computed.entries b,
    λ r. each_barred (rules_over a) (tuples_over a) a.known.now (asked_fact a) (string_bytes t.tupleset) t.computed.entries r,
  )
