-- What the rules read, as it grows, and tuples that fit it.
use Rattle.std.proofs.Common.{◌≡◌, ℕ, ◌+◌, ◌<◌, ◌≤◌, nat_lt, not, List, [], ◌∷◌, ◌++◌, map, Bool, true, false, Option, None, Some, Result, Ok, Err, ◌⊎◌, inl, inr, refl, sym, ap, ◌∙◌, subst, arith}
use Rattle.std.specs.Prelude.{Contains, slice_get, option_map, IfOk}
use Rattle.std.proofs.lemmas.Bool.Decides.{nat_tests}
use Rattle.std.proofs.lemmas.Option.{slice_get-map, slice_get_within}
use Rattle.std.proofs.lemmas.List.Elements.{Contains-append_left, Contains-append_right, Contains-append_cases}
use Rattle.tuple_text.specs.Sets.{SetValue}
use Rattle.tuple_text.specs.Tuples.{TupleValue}
use Rattle.tuple_text.specs.declared.users.User.TheVariants.{Set}
use Rattle.namespaces.specs.Declaration.{Relation, Declaration}
use Rattle.namespaces.specs.Lookup.{relation_of, namespace_names, namespace_numbered, relation_count, relation_numbered}
use Rattle.namespaces.specs.WellFormed.{IsWellFormed}
use Rattle.namespaces.specs.declared.number.RelNo.{RelNo}
use Rattle.rewrites.specs.Expression.{Expression}
use Rattle.namespaces.proofs.Declared.{numbered}
use Rattle.rewrites.proofs.Names.{by_bool}
use Rattle.strata.specs.Edges.{Place, at_this, at_computed, at_tuple_to, is_broken_between}
use Rattle.strata.proofs.Lists.{Contains-cons_cases, Contains-here, not_in_nil}
use Rattle.strata.proofs.Walks.{relation_within, few_relations, stratum_by_names}
use Rattle.strata.proofs.Unbroken.{item_least, item_there}
use Rattle.rule_reads.specs.Reads.{stratum_of, relation_mark, pair_mark, relation_of_user, mark_of_set, mark_of_pair, tupleset_mark, computed_mark, HasMark, AreKinds, AreMarked, own, ceiling, IsReadThrough, IsRead, AreRead, FitsOwn, IsLow, FitsThrough, IsLowWhereStored, IsGrown, IsWider, relation_number}
use Rattle.rule_reads.specs.declared.kinds.Kinds.{Kinds}
use Rattle.rule_reads.specs.declared.reads.Reads.{Reads}
use Rattle.rule_reads.specs.declared.reads.Through.{Through}
use Rattle.rule_reads.proofs.Chains.{member, place_in}

-- ---- marks

-- an item's mark stands where the item stands
pub mark_there : {X : Type 0} (mark : X → ℕ) (xs : List X) (marks : List ℕ) → marks ≡ map mark xs → (i : ℕ) (x : X) → slice_get xs i ≡ Some x → slice_get marks i ≡ Some (mark x)
mark_there mark xs marks are i x at = ap (λ (ms : List ℕ). slice_get ms i) are ∙ slice_get-map mark xs i ∙ ap (option_map mark) at

-- what holds of each item with a mark holds of each that has it
pub each_marked : {X : Type 0} (P : X → Type 0) (mark : X → ℕ) (xs : List X) (marks : List ℕ) → marks ≡ map mark xs → (m : ℕ)
    → ((i : ℕ) (x : X) → slice_get marks i ≡ Some m → slice_get xs i ≡ Some x → P x) → (x : X) → Contains xs x → m ≡ mark x → P x
each_marked P mark xs marks are m all x c same =
    let at = place_in xs x c in
    all at.0 x (mark_there mark xs marks are at.0 x at.1 ∙ ap (λ (k : ℕ). Some k) (sym same)) at.1

pub mark_in : {X : Type 0} (mark : X → ℕ) (xs : List X) (marks : List ℕ) → marks ≡ map mark xs → (x : X) → Contains xs x → Contains marks (mark x)
mark_in mark xs marks are x c =
    let at = place_in xs x c in
    member marks at.0 (mark x) (mark_there mark xs marks are at.0 x at.1)

-- ---- what is read, as it grows

pub not_grown : (ds : List Declaration) (ts : List TupleValue) (a : Reads) → IsGrown ds ts a a
not_grown ds ts a = record { own_kept = λ strict m c. c; through_kept = λ e c. c; marked = λ h. h; fit = λ h. h }

pub grown_then : (ds : List Declaration) (ts : List TupleValue) (a b c : Reads) → IsGrown ds ts a b → IsGrown ds ts b c → IsGrown ds ts a c
grown_then ds ts a b c one two = record {
  own_kept = λ strict m i. two.own_kept strict m (one.own_kept strict m i);
  through_kept = λ e i. two.through_kept e (one.through_kept e i);
  marked = λ h. two.marked (one.marked h);
  fit = λ h. two.fit (one.fit h);
}

pub read_kept : (ds : List Declaration) (ts : List TupleValue) (q r : List ℕ) (k : ℕ) (ps : List (Bool × Place)) (a b : Reads) → IsGrown ds ts a b → AreRead a q r k ps → AreRead b q r k ps
read_kept ds ts q r k ps a b grown read strict place c = by place (read strict place c)
  where
    by : (place : Place) → IsRead a q r k strict place → IsRead b q r k strict place
    by at_this h = grown.own_kept strict (relation_mark q r) h
    by (at_computed p) h = h
    by (at_tuple_to t c) h = (h.0, grown.through_kept h.0 h.1, h.2, h.3)

pub wider_then : (ds : List Declaration) (ts : List TupleValue) (q r : List ℕ) (k : ℕ) (ps qs : List (Bool × Place)) (a b c : Reads)
    → IsWider ds ts q r k ps a b → IsWider ds ts q r k qs b c → IsWider ds ts q r k (ps ++ qs) a c
wider_then ds ts q r k ps qs a b c one two = record {
  grown = grown_then ds ts a b c one.grown two.grown;
  read = λ strict place i. by strict place (Contains-append_cases ps qs (strict, place) i);
}
  where
    by : (strict : Bool) (place : Place) → Contains ps (strict, place) ⊎ Contains qs (strict, place) → IsRead c q r k strict place
    by strict place (inl i) = read_kept ds ts q r k ps b c two.grown one.read strict place i
    by strict place (inr i) = two.read strict place i

pub wider_by_nothing : (ds : List Declaration) (ts : List TupleValue) (q r : List ℕ) (k : ℕ) (a : Reads) → IsWider ds ts q r k [] a a
wider_by_nothing ds ts q r k a = record { grown = not_grown ds ts a; read = λ strict place i. absurd (not_in_nil (strict, place) i) }

-- what a call shows where it answers that all fit
pub fits_then : {E A B : Type 0} (r : Result Bool E) → (A → B) → IfOk r (λ fits. fits ≡ true → A) → IfOk r (λ fits. fits ≡ true → B)
fits_then (Ok b) f h = λ t. f (h t)
fits_then (Err e) f h = tt

only_one : (reads : Reads) (q r : List ℕ) (k : ℕ) (strict : Bool) (place : Place) → IsRead reads q r k strict place → AreRead reads q r k ((strict, place) ∷ [])
only_one reads q r k strict place read s p i = by (Contains-cons_cases (strict, place) [] (s, p) i)
  where
    by : (◌≡◌ {A = Bool × Place} (strict, place) (s, p)) ⊎ Contains {X = Bool × Place} [] (s, p) → IsRead reads q r k s p
    by (inl same) = subst (λ (x : Bool × Place). IsRead reads q r k x.0 x.1) same read
    by (inr none) = absurd (not_in_nil (s, p) none)

-- ---- a `this`

same_side : {A : Type 0} (one other : Bool) → (one ≡ other → A) → (one ≡ not other → A) → A
same_side true true same not_same = same refl
same_side true false same not_same = not_same refl
same_side false true same not_same = not_same refl
same_side false false same not_same = same refl

module _ (ds : List Declaration) (kinds : Kinds) (ts : List TupleValue) (are : AreKinds kinds ts) (q r : List ℕ) (k : ℕ) (strict is_new : Bool) (old new : Reads)
    (marks : HasMark (relation_mark q r) is_new (own strict old) (own strict new)) (others : own (not strict) new ≡ own (not strict) old) (through : new.through ≡ old.through)
    (tuplesets : new.tuplesets ≡ old.tuplesets) (computed : new.computed ≡ old.computed) where
  own_more : (s : Bool) (m : ℕ) → Contains (own s old) m → Contains (own s new) m
  own_more s m c = same_side s strict
      (λ e. subst (λ (b : Bool). Contains (own b new) m) (sym e) (marks.kept m (subst (λ (b : Bool). Contains (own b old) m) e c)))
      (λ e. subst (λ (b : Bool). Contains (own b new) m) (sym e) (subst (λ (ms : List ℕ). Contains ms m) (sym others) (subst (λ (b : Bool). Contains (own b old) m) e c)))

  own_only : (s : Bool) (m : ℕ) → Contains (own s new) m → Contains (own s old) m ⊎ (relation_mark q r ≡ m)
  own_only s m c = same_side s strict
      (λ e. by e (marks.only m (subst (λ (b : Bool). Contains (own b new) m) e c)))
      (λ e. inl (subst (λ (b : Bool). Contains (own b old) m) (sym e) (subst (λ (ms : List ℕ). Contains ms m) others (subst (λ (b : Bool). Contains (own b new) m) e c))))
    where
      by : s ≡ strict → Contains (own strict old) m ⊎ (relation_mark q r ≡ m) → Contains (own s old) m ⊎ (relation_mark q r ≡ m)
      by e (inl i) = inl (subst (λ (b : Bool). Contains (own b old) m) (sym e) i)
      by e (inr h) = inr h

  still_marked : AreMarked old → AreMarked new
  still_marked h = record {
    tuplesets = tuplesets ∙ h.tuplesets ∙ ap (λ es. map tupleset_mark es.items) (sym through);
    computed = computed ∙ h.computed ∙ ap (λ es. map computed_mark es.items) (sym through);
  }

  through_same : (t : TupleValue) → FitsThrough ds old.through.items t → FitsThrough ds new.through.items t
  through_same t h = subst (λ es. FitsThrough ds es.items t) (sym through) h

  own_wider : ((t : TupleValue) → Contains ts t → FitsOwn ds old t → FitsOwn ds new t) → IsWider ds ts q r k ((strict, at_this) ∷ []) old new
  own_wider fit = record {
    grown = record {
      own_kept = own_more;
      through_kept = λ e c. subst (λ es. Contains es.items e) (sym through) c;
      marked = still_marked;
      fit = λ all t c. record { own = fit t c (all t c).own; through = through_same t (all t c).through };
    };
    read = only_one new q r k strict at_this marks.there;
  }

  -- that was there
  pub own_known : is_new ≡ false → IsWider ds ts q r k ((strict, at_this) ∷ []) old new
  own_known known = own_wider (λ t c h g user. ((h g user).0, λ s i. (h g user).1 s (back s (mark_of_set t) i)))
    where
      back : (s : Bool) (m : ℕ) → Contains (own s new) m → Contains (own s old) m
      back s m c = same_side s strict
          (λ e. subst (λ (b : Bool). Contains (own b old) m) (sym e) (subst (λ (ms : List ℕ). Contains ms m) (marks.same known) (subst (λ (b : Bool). Contains (own b new) m) e c)))
          (λ e. subst (λ (b : Bool). Contains (own b old) m) (sym e) (subst (λ (ms : List ℕ). Contains ms m) others (subst (λ (b : Bool). Contains (own b new) m) e c)))

  -- that each tuple of the relation fits
  pub own_taken : ((i : ℕ) (t : TupleValue) → slice_get kinds.sets i ≡ Some (relation_mark q r) → slice_get ts i ≡ Some t → FitsOwn ds new t) → IsWider ds ts q r k ((strict, at_this) ∷ []) old new
  own_taken all = own_wider (λ t c h g user. ((h g user).0, λ s i. by t c g user s ((h g user).1 s) i (own_only s (mark_of_set t) i)))
    where
      by : (t : TupleValue) → Contains ts t → (g : SetValue) → t.user ≡ Set g → (s : Bool)
          → (Contains (own s old) (mark_of_set t) → is_broken_between (stratum_of ds t.set) (stratum_of ds g) s ≡ false) → Contains (own s new) (mark_of_set t)
          → Contains (own s old) (mark_of_set t) ⊎ (relation_mark q r ≡ mark_of_set t) → is_broken_between (stratum_of ds t.set) (stratum_of ds g) s ≡ false
      by t c g user s was i (inl j) = was j
      by t c g user s was i (inr same) = (each_marked (FitsOwn ds new) mark_of_set ts kinds.sets are.sets (relation_mark q r) all t c same g user).1 s i

-- ---- a `tuple_to`

pub through_known : (ds : List Declaration) (ts : List TupleValue) (q r t c : List ℕ) (k : ℕ) (strict : Bool) (a : Reads)
    → IsReadThrough a.through.items (record { namespace = q; id = c; relation = t }) (ceiling k strict) → IsWider ds ts q r k ((strict, at_tuple_to t c) ∷ []) a a
through_known ds ts q r t c k strict a read = record { grown = not_grown ds ts a; read = only_one a q r k strict (at_tuple_to t c) read }

module _ (ds : List Declaration) (kinds : Kinds) (ts : List TupleValue) (are : AreKinds kinds ts) (q r t c : List ℕ) (k : ℕ) (strict : Bool) (old new : Reads) (e : Through)
    (names : e.names ≡ record { namespace = q; id = c; relation = t }) (top : e.ceiling ≡ ceiling k strict)
    (plain : new.plain ≡ old.plain) (under : new.strict ≡ old.strict) (through : new.through.items ≡ old.through.items ++ e ∷ []) (marked : AreMarked old → AreMarked new)
    (low : Contains kinds.sets (tupleset_mark e) → (users : List ℕ) → IsLowWhereStored ds kinds users e) where
  own_same : (s : Bool) → own s new ≡ own s old
  own_same true = under
  own_same false = plain

  last_there : Contains new.through.items e
  last_there = subst (λ (es : List Through). Contains es e) (sym through) (Contains-append_right old.through.items (e ∷ []) e (Contains-here e []))

  -- a tuple whose relation it reads has a user in whose namespace it is low enough
  low_at : (x : TupleValue) → Contains ts x → (g : SetValue) → x.user ≡ Set g → e.names.namespace ≡ x.set.namespace → e.names.relation ≡ x.set.relation → IsLow ds g.namespace e
  low_at x i g user n m =
      let same : mark_of_pair x ≡ pair_mark e.names g.namespace = (λ j. pair_mark (record { namespace = sym n j; id = []; relation = sym m j }) (relation_of_user (user j)).namespace) in
      let set : mark_of_set x ≡ tupleset_mark e = (λ j. relation_mark (sym n j) (sym m j)) in
      low (subst (Contains kinds.sets) set (mark_in mark_of_set ts kinds.sets are.sets x i)) g.namespace (subst (Contains kinds.pairs) same (mark_in mark_of_pair ts kinds.pairs are.pairs x i))

  pub through_taken : IsWider ds ts q r k ((strict, at_tuple_to t c) ∷ []) old new
  through_taken = record {
    grown = record {
      own_kept = λ s m i. subst (λ (ms : List ℕ). Contains ms m) (sym (own_same s)) i;
      through_kept = λ x i. subst (λ (es : List Through). Contains es x) (sym through) (Contains-append_left old.through.items (e ∷ []) x i);
      marked = marked;
      fit = λ all x i. record {
        own = λ g user. (((all x i).own g user).0, λ s j. ((all x i).own g user).1 s (subst (λ (ms : List ℕ). Contains ms (mark_of_set x)) (own_same s) j));
        through = λ g y user j n m. by x i g y user n m ((all x i).through g y user) (Contains-append_cases old.through.items (e ∷ []) y (subst (λ (es : List Through). Contains es y) through j));
      };
    };
    read = only_one new q r k strict (at_tuple_to t c) (e, last_there, names, (let same = top in omega (arith, same)));
  }
    where
      by_last : (x : TupleValue) → Contains ts x → (g : SetValue) (y : Through) → x.user ≡ Set g → y.names.namespace ≡ x.set.namespace → y.names.relation ≡ x.set.relation
          → (e ≡ y) ⊎ Contains [] y → IsLow ds g.namespace y
      by_last x i g y user n m (inl same) =
          subst (λ (z : Through). z.names.namespace ≡ x.set.namespace → z.names.relation ≡ x.set.relation → IsLow ds g.namespace z) same (low_at x i g user) n m
      by_last x i g y user n m (inr none) = absurd (not_in_nil y none)

      by : (x : TupleValue) → Contains ts x → (g : SetValue) (y : Through) → x.user ≡ Set g → y.names.namespace ≡ x.set.namespace → y.names.relation ≡ x.set.relation
          → (Contains old.through.items y → y.names.namespace ≡ x.set.namespace → y.names.relation ≡ x.set.relation → IsLow ds g.namespace y)
          → Contains old.through.items y ⊎ Contains (e ∷ []) y → IsLow ds g.namespace y
      by x i g y user n m was (inl j) = was j n m
      by x i g y user n m was (inr j) = by_last x i g y user n m (Contains-cons_cases e [] y j)

-- ---- namespaces, number by number

-- where nothing is declared there is nothing too high
pub nowhere_declared : (ds : List Declaration) (users : List ℕ) (e : Through) → relation_of users e.names.id ds ≡ None → IsLow ds users e
nowhere_declared ds users e none = rw none refl

-- low enough in each namespace that has a number
pub everywhere_low : (ds : List Declaration) (kinds : Kinds) (e : Through) → IsWellFormed ds
    → ((n : ℕ) (users : List ℕ) → n < 257 → namespace_numbered n ds ≡ Some users → IsLowWhereStored ds kinds users e) → (users : List ℕ) → IsLowWhereStored ds kinds users e
everywhere_low ds kinds e w all users c = by (relation_of users e.names.id ds) refl
  where
    by : (o : Option Relation) → relation_of users e.names.id ds ≡ o → IsLow ds users e
    by None none = nowhere_declared ds users e none
    by (Some x) is =
        let n = numbered ds users e.names.id x is in
        let least = item_least n.number.namespace (namespace_names ds) users n.namespace in
        let within = slice_get_within (namespace_names ds) _ users (item_there n.number.namespace (namespace_names ds) users n.namespace) in
        let few = w.namespaces in
        all n.number.namespace users (omega (arith, least, within, few)) n.namespace c

-- a number that a relation has is one of 256
pub number_below : (ds : List Declaration) (n r : ℕ) (x : Relation) → IsWellFormed ds → relation_numbered (relation_number n r) ds ≡ Some x → r < 257
number_below ds n r x w is =
    let within = relation_within (λ (y : Relation). y) (λ (y : Relation). y) ds (λ m. []) (relation_number n r) n refl (Some x) (rw is refl) refl in
    let few = few_relations ds n w in
    omega (arith, within, few)

pub name_of : (nm : List ℕ) (o : Option Relation) (x : Relation) → Some nm ≡ option_map (λ (r : Relation). r.name) o → o ≡ Some x → nm ≡ x.name
name_of nm o x h is = let same : Some nm ≡ Some x.name = h ∙ ap (option_map (λ (r : Relation). r.name)) is in cc

pub no_name : {A : Type 0} (o : Option Relation) (x : Relation) → None ≡ option_map (λ (r : Relation). r.name) o → o ≡ Some x → A
no_name o x h is = let no : None ≡ Some x.name = h ∙ ap (option_map (λ (r : Relation). r.name)) is in cc

-- the rule that a relation has
pub rule_of : (e : Expression) (o : Option Relation) (x : Relation) → Some e ≡ option_map (λ (r : Relation). r.expression) o → o ≡ Some x → e ≡ x.expression
rule_of e o x h is = let same : Some e ≡ Some x.expression = h ∙ ap (option_map (λ (r : Relation). r.expression)) is in cc

-- a number below or at another
pub below_or_at : (r n : ℕ) → r < n + 1 → (r < n) ⊎ (r ≡ n)
below_or_at r n less = by_bool (nat_lt r n) (λ t. inl (grind (arith, nat_tests))) (λ f. inr (grind (arith, nat_tests)))

-- the stratum that a relation with a number has by its name
pub stratum_at : (k : ℕ) (ds : List Declaration) (number : RelNo) (q nm : List ℕ) (x : Relation) → IsWellFormed ds → namespace_numbered number.namespace ds ≡ Some q
    → Some nm ≡ option_map (λ (r : Relation). r.name) (relation_numbered number ds) → relation_numbered number ds ≡ Some x
    → Some k ≡ option_map (λ (r : Relation). r.stratum) (relation_of q nm ds) → k ≡ x.stratum
stratum_at k ds number q nm x w named name is had =
    let same : Some k ≡ Some x.stratum = had ∙ stratum_by_names ds number q nm w (sym named) name ∙ ap (option_map (λ (r : Relation). r.stratum)) is in
    cc

-- and one of as many as its namespace has
pub count_within : (ds : List Declaration) (n r : ℕ) (q : List ℕ) (x : Relation) → namespace_numbered n ds ≡ Some q → relation_numbered (relation_number n r) ds ≡ Some x → r ≤ relation_count q ds
count_within ds n r q x named is =
    rw named at (relation_within (λ (y : Relation). y) (λ (y : Relation). y) ds (λ m. []) (relation_number n r) n refl (Some x) (rw is refl) refl)
