-- The usersets that are stored in a set, as a pass over them sees them.
use Rattle.std.proofs.Common.{◌≡◌, ℕ, ◌≤◌, ◌+◌, Bool, true, false, List, [], ◌∷◌, length, map, Option, None, Some, ◌⊎◌, inl, inr, sym, refl, ◌∙◌, ap, subst, arith, String, Global}
use Rattle.std.proofs.lemmas.List.Elements.{All-contains, All-from_recursion}
use Rattle.std.proofs.lemmas.List.Sums.{sum_by-cons}
use Rattle.std.specs.Prelude.{Contains, string_bytes, sum_by}
use Rattle.std.specs.List.{IsDistinct, cons_option}
use Rattle.tuple_text.specs.Sets.{SetValue, set_eq}
use Rattle.tuple_text.specs.Tuples.{TupleValue, FactValue, fact_of, tuple_of}
use Rattle.tuple_text.specs.declared.users.User.TheVariants.{Set}
use Rattle.tuple_text.proofs.ValueLemmas.{set_eq-itself}
use Rattle.strata.proofs.Lists.{Contains-cons_cases, Contains-here, Contains-there, not_in_nil}
use Rattle.strata.specs.Meaning.{IsStored, same_user, with_relation}
use Rattle.namespaces.specs.Lookup.{rule_of}
use Rattle.rewrites.specs.Expression.{Expression, this, tuple_to, children}
use Rattle.rewrites.specs.Parts.{computed_names, each_shown, through_expression}
use Rattle.rewrites.specs.declared.parts.Through.{Through}
use Rattle.snapshots.specs.Leading.{AreLeading, AreStored}
use Rattle.snapshots.specs.Snapshots.{rules_in, tuples_in}
use Rattle.snapshots.specs.declared.snapshot.Snapshot.{Snapshot}
use Rattle.judgement.specs.Decided.{dec_undeclared}
use Rattle.judgement.specs.Judgement.{IsUndeclared}
use Rattle.goal_cone.specs.Bounds.{if_set, links, links_all, stored_sets}
use Rattle.goal_cone.specs.Cone.{AreDistinct}
use Rattle.goal_cone.specs.Pass.{AmongSets}
use Rattle.goal_cone.specs.Premises.{Reads, ReadsSome}
use Rattle.goal_cone.specs.Targets.{AreTargets}
use Rattle.goal_cone.proofs.Weights.{no_longer}

among_given : (user : ℕ) (gs : List SetValue) (p : FactValue) → AmongSets user gs p → (g : SetValue) × Contains gs g × (fact_of g user ≡ p)
among_given user [] p h = absurd h
among_given user (x ∷ xs) p (inl e) = (x, Contains-here x xs, e)
among_given user (x ∷ xs) p (inr h) = let t = among_given user xs p h in (t.0, Contains-there x xs t.0 t.1, t.2)

among_from : (user : ℕ) (gs : List SetValue) (p : FactValue) (g : SetValue) → Contains gs g → fact_of g user ≡ p → AmongSets user gs p
among_from user [] p g c e = absurd (not_in_nil g c)
among_from user (x ∷ xs) p g c e = by_cases (among_from user xs p g) (Contains-cons_cases x xs g c)
  where
    by_cases : (Contains xs g → fact_of g user ≡ p → AmongSets user xs p) → (x ≡ g) ⊎ Contains xs g → AmongSets user (x ∷ xs) p
    by_cases further (inl same) = inl (subst (λ (h : SetValue). fact_of h user ≡ p) (sym same) e)
    by_cases further (inr d) = inr (further d e)

are_distinct : (gs : List SetValue) → IsDistinct set_eq gs → AreDistinct gs
unfolding IsDistinct
are_distinct [] h = tt
are_distinct (x ∷ xs) h = (
  λ c. let n : set_eq x x ≡ false = All-contains (λ y. set_eq x y ≡ false) xs x (All-from_recursion (λ y. set_eq x y ≡ false) xs h.0) c in
      let y = set_eq-itself x in cc,
  are_distinct xs h.1,
)

later_there : (o : Option SetValue) (gs : List SetValue) (g : SetValue) → Contains gs g → Contains (cons_option o gs) g
later_there None gs g c = c
later_there (Some x) gs g c = Contains-there x gs g c

stored_there : (store : List TupleValue) (s g : SetValue) → Contains store (tuple_of s (Set g)) → Contains (stored_sets store s) g
stored_there [] s g c = absurd (not_in_nil (tuple_of s (Set g)) c)
stored_there (t ∷ ts) s g c = by_cases (stored_there ts s g) (Contains-cons_cases t ts (tuple_of s (Set g)) c)
  where
    first : (b : Bool) → b ≡ true → Contains (cons_option (if_set b (Set g)) (stored_sets ts s)) g
    first true e = Contains-here g (stored_sets ts s)
    first false e = cc

    by_cases : (Contains ts (tuple_of s (Set g)) → Contains (stored_sets ts s) g) → (t ≡ tuple_of s (Set g)) ⊎ Contains ts (tuple_of s (Set g))
        → Contains (stored_sets (t ∷ ts) s) g
    by_cases further (inl e) = subst (λ (u : TupleValue). Contains (stored_sets (u ∷ ts) s) g) (sym e) (first (set_eq s s) (set_eq-itself s))
    by_cases further (inr d) = later_there (if_set (set_eq s t.set) t.user) (stored_sets ts s) g (further d)

pub no_more : (s : Snapshot) (set : SetValue) (gs : List SetValue) → AreStored s set gs → length gs ≤ length (stored_sets (tuples_in s) set)
no_more s set gs are = no_longer gs (stored_sets (tuples_in s) set) (are_distinct gs are.distinct) (λ g c. stored_there (tuples_in s) set g (are.each g c))

-- ---- what `this` reads

module _ (s : Snapshot) (set : SetValue) (gs : List SetValue) (leading : AreLeading s set gs) where
  pub own_read : (user : ℕ) (p : FactValue) → AmongSets user gs p → Reads (tuples_in s) (fact_of set user) this p
  own_read user p h = let t = among_given user gs p h in (t.0, leading.stored.each t.0 t.1, t.2)

  pub read_own : (user : ℕ) (p : FactValue) → Reads (tuples_in s) (fact_of set user) this p → IsUndeclared (rules_in s) p.set ⊎ AmongSets user gs p
  read_own user p h = by_rule (dec_undeclared (rule_of (rules_in s) h.0))
    where
      by_rule : Dec (rule_of (rules_in s) h.0 ≡ None) → IsUndeclared (rules_in s) p.set ⊎ AmongSets user gs p
      by_rule (yes none) = inl (subst (λ (f : FactValue). IsUndeclared (rules_in s) f.set) h.2 none)
      by_rule (no declared) = inr (among_from user gs p h.0 (leading.own h.0 h.1 declared) h.2)

-- ---- what relations read through a tupleset

module _ (store : List TupleValue) (f p : FactValue) (q : List ℕ) where
  -- one of some names reads it
  abbrev ReadsUnder : List (List ℕ) → Type 0
  ReadsUnder names = (g : SetValue) × (c : List ℕ) × IsStored store (with_relation f.set q) (Set g) × Contains names c × (same_user f (with_relation g c) ≡ p)

  under_names : (es : List (String Global × Unit {0})) → ReadsSome store f (children (map (λ e. tuple_to q (string_bytes e.0)) es)) p → ReadsUnder (map (λ e. string_bytes e.0) es)
  under_names [] r = absurd r
  under_names (e ∷ es) (inl r) = (r.0, string_bytes e.0, r.1, Contains-here (string_bytes e.0) (map (λ e. string_bytes e.0) es), r.2)
  under_names (e ∷ es) (inr r) = let w = under_names es r in (w.0, w.1, w.2, Contains-there (string_bytes e.0) (map (λ e. string_bytes e.0) es) w.1 w.3, w.4)

  names_under : (es : List (String Global × Unit {0})) → ReadsUnder (map (λ e. string_bytes e.0) es) → ReadsSome store f (children (map (λ e. tuple_to q (string_bytes e.0)) es)) p
  names_under [] r = absurd (not_in_nil r.1 r.3)
  names_under (e ∷ es) r = by_cases (names_under es) (Contains-cons_cases (string_bytes e.0) (map (λ e. string_bytes e.0) es) r.1 r.3)
    where
      by_cases : (ReadsUnder (map (λ e. string_bytes e.0) es) → ReadsSome store f (children (map (λ e. tuple_to q (string_bytes e.0)) es)) p)
          → (string_bytes e.0 ≡ r.1) ⊎ Contains (map (λ e. string_bytes e.0) es) r.1
          → ReadsSome store f (children (map (λ e. tuple_to q (string_bytes e.0)) (e ∷ es))) p
      by_cases further (inl same) = inl (r.0, r.2, ap (λ (c : List ℕ). same_user f (with_relation r.0 c)) same ∙ r.4)
      by_cases further (inr there) = inr (further (r.0, r.1, r.2, there, r.4))

-- a tupleset through which one relation is read
pub one_read : (store : List TupleValue) (f p : FactValue) (e : Expression) (t : Through) → each_shown t ≡ e ∷ []
    → (Reads store f (through_expression t) p → Reads store f e p) × (Reads store f e p → Reads store f (through_expression t) p)
one_read store f p e t one = (
  λ r. first (subst (λ (es : List Expression). ReadsSome store f (children es) p) one r),
  λ r. subst (λ (es : List Expression). ReadsSome store f (children es) p) (sym one) (inl r),
)
  where
    first : ReadsSome store f (children (e ∷ [])) p → Reads store f e p
    first (inl r) = r
    first (inr none) = absurd none

pub one_link : (store : List TupleValue) (set : SetValue) (e : Expression) (t : Through) → each_shown t ≡ e ∷ []
    → links store set (through_expression t) ≡ links store set e
one_link store set e t one = ap (λ (es : List Expression). links_all store set (children es)) one ∙ (let same : links store set e + 0 ≡ links store set e = omega arith in same)

links_under : (store : List TupleValue) (set : SetValue) (q : List ℕ) (es : List (String Global × Unit {0}))
    → links_all store set (children (map (λ e. tuple_to q (string_bytes e.0)) es)) ≡ sum_by (λ _. length (stored_sets store (with_relation set q))) (map (λ e. string_bytes e.0) es)
links_under store set q [] = refl
links_under store set q (e ∷ es) =
    rw (links_under store set q es) (sym (sum_by-cons (λ (_ : List ℕ). length (stored_sets store (with_relation set q))) (string_bytes e.0) (map (λ e. string_bytes e.0) es)))

module _ (s : Snapshot) (set : SetValue) (t : Through) (ts : List SetValue) (are : AreTargets s (with_relation set (string_bytes t.tupleset)) (computed_names t) ts) where
  pub through_read : (user : ℕ) (p : FactValue) → AmongSets user ts p → Reads (tuples_in s) (fact_of set user) (through_expression t) p
  through_read user p h =
      let w = among_given user ts p h in
      let is = are.each w.0 w.1 in
      names_under (tuples_in s) (fact_of set user) p (string_bytes t.tupleset) t.computed.entries
      (is.set, is.relation, is.stored, is.read, ap (λ (g : SetValue). fact_of g user) (sym is.is) ∙ w.2)

  pub read_through : (user : ℕ) (p : FactValue) → Reads (tuples_in s) (fact_of set user) (through_expression t) p → IsUndeclared (rules_in s) p.set ⊎ AmongSets user ts p
  read_through user p r = by_rule (dec_undeclared (rule_of (rules_in s) (with_relation w.0 w.1)))
    where
      w : ReadsUnder (tuples_in s) (fact_of set user) p (string_bytes t.tupleset) (computed_names t)
      w = under_names (tuples_in s) (fact_of set user) p (string_bytes t.tupleset) t.computed.entries r

      by_rule : Dec (rule_of (rules_in s) (with_relation w.0 w.1) ≡ None) → IsUndeclared (rules_in s) p.set ⊎ AmongSets user ts p
      by_rule (yes none) = inl (subst (λ (f : FactValue). IsUndeclared (rules_in s) f.set) w.4 none)
      by_rule (no declared) = inr (among_from user ts p (with_relation w.0 w.1) (are.led w.0 w.1 w.3 (w.2, declared)) w.4)

  pub few_links : length ts ≤ links (tuples_in s) set (through_expression t)
  few_links = subst (λ (n : ℕ). length ts ≤ n) (sym (links_under (tuples_in s) set (string_bytes t.tupleset) t.computed.entries)) are.few
