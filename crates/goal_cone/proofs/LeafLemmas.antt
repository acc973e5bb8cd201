-- What has the leaves of a rule reads what the rule reads, by no more links.
use Rattle.std.proofs.Common.{◌≡◌, ℕ, ◌≤◌, Bool, true, false, List, [], ◌∷◌, ◌++◌, inl, inr}
use Rattle.std.proofs.Common.{refl, sym, ◌∙◌, true≢false, arith}
use Rattle.std.proofs.lemmas.List.Folds.{list_any-append}
use Rattle.std.proofs.lemmas.List.Sums.{sum_by-append, sum_by-cons}
use Rattle.std.specs.List.{list_any}
use Rattle.std.specs.Prelude.{sum_by}
use Rattle.tuple_text.specs.Sets.{SetValue}
use Rattle.tuple_text.specs.Tuples.{TupleValue, FactValue}
use Rattle.rewrites.specs.Expression.{Expression, this, computed, tuple_to, union, inter, minus}
use Rattle.rewrites.specs.Expression.{Expressions, no_child, child}
use Rattle.rewrites.specs.Plain.{leaves, leaves_of_all, IsThinned}
use Rattle.rewrites.proofs.AlikeLemmas.{or_none}
use Rattle.rewrites.proofs.Names.{by_bool, or_true}
use Rattle.strata.specs.Meaning.{with_relation, same_user}
use Rattle.strata.proofs.Decided.{dec_some_stored}
use Rattle.strata.proofs.Lists.{dec_either}
use Rattle.judgement.specs.Decided.{same_facts}
use Rattle.goal_cone.specs.Bounds.{links, links_all}
use Rattle.goal_cone.specs.Premises.{Reads, ReadsSome}

-- ---- whether an expression reads a fact

mutual
  dec_reads : (store : List TupleValue) (f p : FactValue) (e : Expression) → Dec (Reads store f e p)
  dec_reads store f p this = dec_some_stored store f.set (λ g. same_user f g ≡ p) (λ g _. same_facts (same_user f g) p)
  dec_reads store f p (computed q) = same_facts (same_user f (with_relation f.set q)) p
  dec_reads store f p (tuple_to q c) =
      dec_some_stored store (with_relation f.set q) (λ g. same_user f (with_relation g c) ≡ p)
      (λ g _. same_facts (same_user f (with_relation g c)) p)
  dec_reads store f p (union es) = dec_reads_some store f p es
  dec_reads store f p (inter es) = dec_reads_some store f p es
  dec_reads store f p (minus a b) = dec_either (dec_reads store f p a) (dec_reads store f p b)

  dec_reads_some : (store : List TupleValue) (f p : FactValue) (es : Expressions) → Dec (ReadsSome store f es p)
  dec_reads_some store f p no_child = no (λ h. h)
  dec_reads_some store f p (child e es) = dec_either (dec_reads store f p e) (dec_reads_some store f p es)

is_so : {A : Type 0} → Dec A → Bool
is_so (yes a) = true
is_so (no n) = false

then_so : {A : Type 0} (d : Dec A) → A → is_so d ≡ true
unfolding is_so
then_so (yes a) h = refl
then_so (no n) h = absurd (n h)

so_then : {A : Type 0} (d : Dec A) → is_so d ≡ true → A
unfolding is_so
so_then (yes a) h = a
so_then (no n) h = absurd (true≢false (sym h))

-- ---- what it reads, one of its leaves reads

any_left : (t : Expression → Bool) (xs ys : List Expression) → list_any t xs ≡ true → list_any t (xs ++ ys) ≡ true
any_left t xs ys h = rw (list_any-append t xs ys, h) refl

any_right : (t : Expression → Bool) (xs ys : List Expression) → list_any t ys ≡ true → list_any t (xs ++ ys) ≡ true
any_right t xs ys h = rw (list_any-append t xs ys, h) (or_true (list_any t xs))

any_else : (t : Expression → Bool) (xs ys : List Expression) → list_any t (xs ++ ys) ≡ true → list_any t xs ≡ false
    → list_any t ys ≡ true
any_else t xs ys h none = rw (list_any-append t xs ys, none) at h

any_one : (t : Expression → Bool) (x : Expression) → t x ≡ true → list_any t (x ∷ []) ≡ true
any_one t x h = rw h refl

the_one : (t : Expression → Bool) (x : Expression) → list_any t (x ∷ []) ≡ true → t x ≡ true
the_one t x h = sym (or_none (t x)) ∙ h

module _ (store : List TupleValue) (f p : FactValue) where
  is_read : Expression → Bool
  is_read e = is_so (dec_reads store f p e)

  read_itself : (e : Expression) → Reads store f e p → list_any is_read (e ∷ []) ≡ true
  unfolding is_read
  read_itself e r = any_one is_read e (then_so (dec_reads store f p e) r)

  itself_read : (e : Expression) → list_any is_read (e ∷ []) ≡ true → Reads store f e p
  unfolding is_read
  itself_read e t = so_then (dec_reads store f p e) (the_one is_read e t)

  mutual
    leaf_reads : (e : Expression) → Reads store f e p → list_any is_read (leaves e) ≡ true
    leaf_reads this r = read_itself this r
    leaf_reads (computed q) r = read_itself (computed q) r
    leaf_reads (tuple_to q c) r = read_itself (tuple_to q c) r
    leaf_reads (union es) r = leaf_reads_some es r
    leaf_reads (inter es) r = leaf_reads_some es r
    leaf_reads (minus a b) (inl r) = any_left is_read (leaves a) (leaves b) (leaf_reads a r)
    leaf_reads (minus a b) (inr r) = any_right is_read (leaves a) (leaves b) (leaf_reads b r)

    leaf_reads_some : (es : Expressions) → ReadsSome store f es p → list_any is_read (leaves_of_all es) ≡ true
    leaf_reads_some no_child r = absurd r
    leaf_reads_some (child e es) (inl r) = any_left is_read (leaves e) (leaves_of_all es) (leaf_reads e r)
    leaf_reads_some (child e es) (inr r) = any_right is_read (leaves e) (leaves_of_all es) (leaf_reads_some es r)

  mutual
    reads_leaf : (e : Expression) → list_any is_read (leaves e) ≡ true → Reads store f e p
    reads_leaf this t = itself_read this t
    reads_leaf (computed q) t = itself_read (computed q) t
    reads_leaf (tuple_to q c) t = itself_read (tuple_to q c) t
    reads_leaf (union es) t = reads_some_leaf es t
    reads_leaf (inter es) t = reads_some_leaf es t
    reads_leaf (minus a b) t = by_bool (list_any is_read (leaves a))
        (λ is. inl (reads_leaf a is))
        (λ none. inr (reads_leaf b (any_else is_read (leaves a) (leaves b) t none)))

    reads_some_leaf : (es : Expressions) → list_any is_read (leaves_of_all es) ≡ true → ReadsSome store f es p
    reads_some_leaf no_child t = absurd (true≢false (sym t))
    reads_some_leaf (child e es) t = by_bool (list_any is_read (leaves e))
        (λ is. inl (reads_leaf e is))
        (λ none. inr (reads_some_leaf es (any_else is_read (leaves e) (leaves_of_all es) t none)))

  pub thinned_reads : (a b : Expression) → IsThinned (leaves a) (leaves b) → Reads store f a p → Reads store f b p
  thinned_reads a b thin r = reads_leaf b (sym (thin.same is_read) ∙ leaf_reads a r)

  pub reads_thinned : (a b : Expression) → IsThinned (leaves a) (leaves b) → Reads store f b p → Reads store f a p
  reads_thinned a b thin r = reads_leaf a (thin.same is_read ∙ leaf_reads b r)

-- ---- its links are those of its leaves

one_weighs : (w : Expression → ℕ) (x : Expression) → w x ≡ sum_by w (x ∷ [])
one_weighs w x = let e = sum_by-cons w x [] in omega (arith, e)

mutual
  leaf_links : (store : List TupleValue) (s : SetValue) (e : Expression)
      → links store s e ≡ sum_by (links store s) (leaves e)
  leaf_links store s this = one_weighs (links store s) this
  leaf_links store s (computed q) = one_weighs (links store s) (computed q)
  leaf_links store s (tuple_to q c) = one_weighs (links store s) (tuple_to q c)
  leaf_links store s (union es) = leaf_links_all store s es
  leaf_links store s (inter es) = leaf_links_all store s es
  leaf_links store s (minus a b) =
      rw (sum_by-append (links store s) (leaves a) (leaves b), ← leaf_links store s a, ← leaf_links store s b) refl

  leaf_links_all : (store : List TupleValue) (s : SetValue) (es : Expressions)
      → links_all store s es ≡ sum_by (links store s) (leaves_of_all es)
  leaf_links_all store s no_child = refl
  leaf_links_all store s (child e es) =
      let both = sum_by-append (links store s) (leaves e) (leaves_of_all es) in
      rw (both, ← leaf_links store s e, ← leaf_links_all store s es) refl

pub thinned_links : (store : List TupleValue) (s : SetValue) (a b : Expression) → IsThinned (leaves a) (leaves b)
    → links store s a ≤ links store s b
thinned_links store s a b thin =
    rw (leaf_links store s a, leaf_links store s b) (thin.no_heavier (links store s))
