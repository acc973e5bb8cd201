-- How passes over premises follow one another.
use Rattle.std.proofs.Common.{◌≡◌, ℕ, ◌≤◌, ◌<◌, List, [], ◌∷◌, ◌++◌, length, ◌⊎◌, inl, inr, refl, subst, sym, ◌∙◌, ap, append_assoc, Option, None, Some, arith}
use Rattle.std.specs.Prelude.{Contains}
use Rattle.std.proofs.lemmas.List.{append-nil, length_push}
use Rattle.std.specs.Prelude.{option_map, is_some, Bool, true, false, sum_by, Ok, Err, if◌then◌else◌}
use Rattle.std.proofs.lemmas.List.Elements.{Contains-append_left, Contains-append_cases, Contains-push, Contains-push_cases}
use Rattle.tuple_text.specs.Sets.{SetValue}
use Rattle.tuple_text.specs.Faults.{is_memory, Fails}
use Rattle.tuple_text.specs.Forms.{is_name, is_object_id}
use Rattle.tuple_text.specs.Parts.{checked_fact}
use Rattle.tuple_text.specs.declared.fault.TupleFault.{TupleFault}
use Rattle.tuple_text.specs.Tuples.{TupleValue, FactValue, fact_of}
use Rattle.tuple_text.specs.Grammar.{IsFact}
use Rattle.rewrites.specs.Expression.{Expression, union, no_child, children}
use Rattle.namespaces.specs.Lookup.{Rule, Lookup, rule_of}
use Rattle.judgement.specs.Judgement.{IsUndeclared}
use Rattle.strata.proofs.Lists.{not_in_nil, Contains-cons_cases}
use Rattle.goal_cone.specs.Bounds.{links, links_all, links_by, links_of}
use Rattle.goal_cone.specs.Cone.{IsMet, IsNeeded}
use Rattle.goal_cone.specs.Leaves.{HaveLeavesOf}
use Rattle.goal_cone.specs.Pass.{IsRead}
use Rattle.goal_cone.specs.Premises.{Reads, ReadsSome}
use Rattle.goal_cone.specs.Seen.{Sees, IsStuck}
use Rattle.goal_cone.proofs.LeafLemmas.{thinned_reads, reads_thinned, thinned_links}
use Rattle.goal_cone.proofs.Weights.{AreDistinct-append, no_longer}

module _ (rules : Lookup) where
  pub sees_none : (S : FactValue → Type 0) → ((p : FactValue) → ¬ S p) → (seen : List FactValue) → Sees rules S seen seen
  sees_none S none seen = record {
    met = λ p s. absurd (none p s);
    more = [];
    split = sym (append-nil seen);
    each = λ p c. absurd (not_in_nil p c);
    distinct = λ d. d;
  }

  met_later : (old new more : List FactValue) → new ≡ old ++ more → (p : FactValue) → IsMet rules old p → IsMet rules new p
  met_later old new more e p (inl u) = inl u
  met_later old new more e p (inr c) = inr (subst (λ (xs : List FactValue). Contains xs p) (sym e) (Contains-append_left old more p c))

  -- a fact that is undeclared or seen already
  pub sees_known : (seen : List FactValue) (p : FactValue) → IsMet rules seen p → Sees rules (λ q. p ≡ q) seen seen
  sees_known seen p met = record {
    met = λ q e. subst (IsMet rules seen) e met;
    more = [];
    split = sym (append-nil seen);
    each = λ q c. absurd (not_in_nil q c);
    distinct = λ d. d;
  }

  -- one that is new
  pub sees_new : (seen : List FactValue) (p : FactValue) → (¬ IsUndeclared rules p.set) → (¬ Contains seen p) → Sees rules (λ q. p ≡ q) seen (seen ++ p ∷ [])
  sees_new seen p declared absent = record {
    met = λ q e. inr (subst (Contains (seen ++ p ∷ [])) e (Contains-push seen p));
    more = p ∷ [];
    split = refl;
    each = λ q c. by_cases q (Contains-cons_cases p [] q c);
    distinct = λ d. AreDistinct-append seen (p ∷ []) d (not_in_nil p, tt) (λ f c h. apart f c (Contains-cons_cases p [] f h));
  }
    where
      by_cases : (q : FactValue) → (p ≡ q) ⊎ Contains [] q → (¬ IsUndeclared rules q.set) × (p ≡ q)
      by_cases q (inl e) = (subst (λ (x : FactValue). ¬ IsUndeclared rules x.set) e declared, e)
      by_cases q (inr none) = absurd (not_in_nil q none)

      apart : (f : FactValue) → Contains seen f → (p ≡ f) ⊎ Contains [] f → ⊥
      apart f c (inl e) = absent (subst (Contains seen) (sym e) c)
      apart f c (inr none) = not_in_nil f none

  pub sees_both : (T S : FactValue → Type 0) (old now new : List FactValue) → Sees rules T old now → Sees rules S now new → Sees rules (λ p. T p ⊎ S p) old new
  sees_both T S old now new first second = record {
    met = λ p s. met p s;
    more = first.more ++ second.more;
    split = second.split ∙ ap (λ (xs : List FactValue). xs ++ second.more) first.split ∙ append_assoc old first.more second.more;
    each = λ p c. each p (Contains-append_cases first.more second.more p c);
    distinct = λ d. second.distinct (first.distinct d);
  }
    where
      met : (p : FactValue) → T p ⊎ S p → IsMet rules new p
      met p (inl t) = met_later now new second.more second.split p (first.met p t)
      met p (inr s) = second.met p s

      each : (p : FactValue) → Contains first.more p ⊎ Contains second.more p → (¬ IsUndeclared rules p.set) × (T p ⊎ S p)
      each p (inl c) = ((first.each p c).0, inl (first.each p c).1)
      each p (inr c) = ((second.each p c).0, inr (second.each p c).1)

  -- what meets S is undeclared or meets T, and what meets T meets S
  pub sees_declared : (T S : FactValue → Type 0) → ((p : FactValue) → T p → S p)
      → ((p : FactValue) → S p → IsUndeclared rules p.set ⊎ T p) → (old new : List FactValue)
      → Sees rules T old new → Sees rules S old new
  sees_declared T S there back old new h = record {
    met = λ p s. elim (back p s) [ inl none ↦ inl none | inr t ↦ h.met p t ];
    more = h.more;
    split = h.split;
    each = λ p c. ((h.each p c).0, there p (h.each p c).1);
    distinct = h.distinct;
  }

module _ (most_facts most_links : ℕ) (rules : Lookup) (store : List TupleValue) where
  -- a fact that has no text, or one too many
  pub stuck_here : (seen : List FactValue) (p : FactValue) → (¬ IsUndeclared rules p.set) → (¬ Contains seen p) → (¬ IsFact p) ⊎ (most_facts ≤ length seen)
      → IsStuck most_facts most_links rules store (λ q. p ≡ q) seen
  stuck_here seen p declared absent why goal distinct needed premise D facts holds closed = by_cases why
    where
      wanted : (q : FactValue) → Contains seen q ⊎ (p ≡ q) → Contains D q
      wanted q (inl c) = needed q c D holds closed
      wanted q (inr e) = subst (Contains D) e (premise p declared refl D holds closed)

      more : Sees rules (λ q. p ≡ q) seen (seen ++ p ∷ [])
      more = sees_new rules seen p declared absent

      by_cases : (¬ IsFact p) ⊎ (most_facts ≤ length seen) → (most_facts < length D) ⊎ (most_links < sum_by (links_of rules store) D)
      by_cases (inl n) = absurd (n (facts p (wanted p (inr refl))))
      by_cases (inr le) = inl (
          let long = no_longer (seen ++ p ∷ []) D (more.distinct distinct) (λ q c. wanted q (Contains-push_cases seen p q c)) in
          let e = length_push seen p in
          omega arith)

  pub stuck_as : (T S : FactValue → Type 0) → ((p : FactValue) → T p → S p) → (seen : List FactValue)
      → IsStuck most_facts most_links rules store T seen → IsStuck most_facts most_links rules store S seen
  stuck_as T S there seen h goal distinct needed premise = h goal distinct needed (λ p d t. premise p d (there p t))

  -- the goal needs what a pass saw
  pub stuck_later : (T S : FactValue → Type 0) (old now : List FactValue) → Sees rules T old now → IsStuck most_facts most_links rules store S now
      → IsStuck most_facts most_links rules store (λ p. T p ⊎ S p) old
  stuck_later T S old now seen h goal distinct needed premise =
      h goal (seen.distinct distinct) (λ f c. by_cases f (Contains-append_cases old seen.more f (subst (λ (xs : List FactValue). Contains xs f) seen.split c)))
      (λ p d s. premise p d (inr s))
    where
      by_cases : (f : FactValue) → Contains old f ⊎ Contains seen.more f → IsNeeded rules store goal f
      by_cases f (inl c) = needed f c
      by_cases f (inr c) = premise f (seen.each f c).0 (inl (seen.each f c).1)

-- ---- what is declared, and what has a text

pub declared_by : {A B C : Type 0} (f : A → C) (g : B → C) (a : Option A) (b : Option B) → option_map f a ≡ option_map g b → is_some a ≡ true → ¬ (b ≡ None)
declared_by f g None b e n none = cc
declared_by f g (Some a) None e n none = cc
declared_by f g (Some a) (Some b) e n none = cc

by_parts : (a b d : Bool) (x y z : TupleFault) (p f : FactValue) → (if a then (if b then (if d then Ok p else Err x) else Err y) else Err z) ≡ Ok f → p ≡ f
by_parts true true true x y z p f e = cc
by_parts true true false x y z p f e = cc
by_parts true false d x y z p f e = cc
by_parts false b d x y z p f e = cc

pub given : (s : SetValue) (user : ℕ) (f : FactValue) → checked_fact s user ≡ Ok f → fact_of s user ≡ f
given s user f e = by_parts (is_name s.namespace) (is_object_id s.id) (is_name s.relation) _ _ _ (fact_of s user) f e

-- a fact that is refused has no text
pub refused : (s : SetValue) (user : ℕ) (e : TupleFault) → Fails e (checked_fact s user) → is_memory e ≡ false → ¬ IsFact (fact_of s user)
refused s user e fails plain fact =
    let h : checked_fact s user ≡ Err e = rw plain at fails in
    let ok : checked_fact s user ≡ Ok (fact_of s user) = rw (fact.head.set.namespace, fact.head.set.id, fact.head.relation) refl in
    let same : Ok (fact_of s user) ≡ Err e = sym ok ∙ h in
    absurd (cc)

-- ---- the rule of a fact, where it is found

-- by its leaves
abbrev pub HasLeaves : Lookup → SetValue → List Expression → Type 0
HasLeaves rules g es = HaveLeavesOf es (option_map (λ (r : Rule). r.expression) (rule_of rules g))

pub read_by : (rules : Lookup) (store : List TupleValue) (f : FactValue) (es : List Expression) → HasLeaves rules f.set es
    → ((p : FactValue) → ReadsSome store f (children es) p → IsRead rules store f p) × ((p : FactValue) → IsRead rules store f p → ReadsSome store f (children es) p)
    × (links_all store f.set (children es) ≤ links_of rules store f)
read_by rules store f es found = by_rule (rule_of rules f.set) refl found
  where
    by_rule : (o : Option Rule) → rule_of rules f.set ≡ o → HaveLeavesOf es (option_map (λ (r : Rule). r.expression) o)
        → ((p : FactValue) → ReadsSome store f (children es) p → IsRead rules store f p) × ((p : FactValue) → IsRead rules store f p → ReadsSome store f (children es) p)
        × (links_all store f.set (children es) ≤ links_by store f.set (rule_of rules f.set))
    by_rule None e thin = (
      λ p reads. absurd (thinned_reads store f p (union (children es)) (union no_child) thin reads),
      λ p t. (let d : None ≡ Some t.0 = sym e ∙ t.1 in absurd (cc)),
      (let few : links_all store f.set (children es) ≤ 0 = thinned_links store f.set (union (children es)) (union no_child) thin in rw e few),
    )
    by_rule (Some r) e thin = (
      λ p reads. (r, e, thinned_reads store f p (union (children es)) r.expression thin reads),
      λ p t. (
          let one : r ≡ t.0 = (let d : Some r ≡ Some t.0 = sym e ∙ t.1 in cc) in
          reads_thinned store f p (union (children es)) r.expression thin (subst (λ (q : Rule). Reads store f q.expression p) (sym one) t.2)),
      (let few : links_all store f.set (children es) ≤ links store f.set r.expression = thinned_links store f.set (union (children es)) r.expression thin in
          rw e few),
    )
