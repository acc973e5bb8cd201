-- An index, from one tuple and from one declaration to the next.
use Rattle.std.proofs.Common.{◌≡◌, ℕ, ◌+◌, ◌-◌, ◌<◌, ◌≤◌, nat_le, List, [], ◌∷◌, ◌++◌, length, map, Bool, true, false, Option, None, Some, option_map, option_and_then, unwrap_or, is_some, ◌⊎◌, inl, inr, refl, sym, ap, ◌∙◌, subst, arith}
use Rattle.std.specs.Prelude.{Contains, slice_get}
use Rattle.std.specs.Str.{bytes_eq}
use Rattle.std.proofs.lemmas.List.{map-append, length-map}
use Rattle.std.proofs.lemmas.List.Elements.{Contains-append_cases}
use Rattle.std.proofs.lemmas.Option.{slice_get-map}
use Rattle.std.proofs.lemmas.Bool.Decides.{nat_tests}
use Rattle.tuple_text.specs.Sets.{SetValue}
use Rattle.tuple_text.specs.Tuples.{TupleValue}
use Rattle.tuple_text.specs.declared.users.User.{User}
use Rattle.tuple_text.specs.declared.users.User.TheVariants.{Id, Set}
use Rattle.namespaces.specs.declared.number.RelNo.{RelNo}
use Rattle.namespaces.specs.Declaration.{Relation, Declaration}
use Rattle.namespaces.specs.Lookup as lookup
use Rattle.namespaces.specs.Lookup.{relations_of, relation_of, relation_count, relation_names, namespace_names, namespace_numbered, relation_numbered, number_of, place_of, item_at}
use Rattle.namespaces.specs.WellFormed.{IsWellFormed}
use Rattle.namespaces.proofs.Declared.{numbered}
use Rattle.rewrites.proofs.Names.{by_bool, one_name, same_name, and_true, clash}
use Rattle.namespaces.proofs.Numbering.{item_at-place}
use Rattle.strata.specs.Edges.{places, stratum_numbered, is_broken_between}
use Rattle.strata.proofs.LastDeclared as last
use Rattle.strata.proofs.LastDeclared.{names_kept, relations_last}
use Rattle.strata.proofs.LastTuple.{absent, placed, numbers_kept, stratum_of_number}
use Rattle.strata.proofs.Lists.{Contains-cons_cases, not_in_nil}
use Rattle.strata.proofs.Newest.{position_none}
use Rattle.strata.proofs.Unbroken.{item_least, item_there}
use Rattle.marks.proofs.PlacedLemmas.{slice_get-front}
use Rattle.rule_reads.specs.Reads.{stratum_of, relation_named, relation_of_user, pair_mark, mark_of_set, mark_of_user, mark_of_pair, is_from, IsSomeOfPair, AreKinds, tupleset_mark, computed_mark, AreMarked, own, HasRead, AreRead, is_below, FitsOwn, IsLow, FitsThrough, Fits, AllFit, IsLowWhereStored, IsFitting, HasTakenAll, relation_number}
use Rattle.edge_checks.specs.Indexed.{IsWhole, IsIndex, IsIndexBefore}
use Rattle.rule_reads.specs.declared.kinds.Kinds.{Kinds}
use Rattle.rule_reads.specs.declared.reads.Reads.{Reads}
use Rattle.rule_reads.specs.declared.reads.Through.{Through}
use Rattle.edge_checks.specs.declared.edge_index.EdgeIndex.{EdgeIndex}
use Rattle.rule_reads.proofs.Chains.{place_in}
use Rattle.rule_reads.proofs.Fitting.{stratum_of_numbered, named_there}
use Rattle.rule_reads.proofs.Reading.{mark_in, read_kept}

-- ---- one tuple more

pub kinds_more : (old new : Kinds) (ts : List TupleValue) (t : TupleValue) → AreKinds old ts → new.sets ≡ old.sets ++ mark_of_set t ∷ [] → new.users ≡ old.users ++ mark_of_user t ∷ [] → new.pairs ≡ old.pairs ++ mark_of_pair t ∷ []
    → AreKinds new (ts ++ t ∷ [])
kinds_more old new ts t are sets users pairs = record {
  sets = sets ∙ ap (λ ms. ms ++ mark_of_set t ∷ []) are.sets ∙ sym (map-append mark_of_set ts (t ∷ []));
  users = users ∙ ap (λ ms. ms ++ mark_of_user t ∷ []) are.users ∙ sym (map-append mark_of_user ts (t ∷ []));
  pairs = pairs ∙ ap (λ ms. ms ++ mark_of_pair t ∷ []) are.pairs ∙ sym (map-append mark_of_pair ts (t ∷ []));
}

pub all_more : (ds : List Declaration) (reads : Reads) (ts : List TupleValue) (t : TupleValue) → AllFit ds reads ts → Fits ds reads t → AllFit ds reads (ts ++ t ∷ [])
all_more ds reads ts t all fits x c = by (Contains-append_cases ts (t ∷ []) x c)
  where
    by_last : (t ≡ x) ⊎ Contains [] x → Fits ds reads x
    by_last (inl e) = subst (Fits ds reads) e fits
    by_last (inr none) = absurd (not_in_nil x none)

    by : Contains ts x ⊎ Contains (t ∷ []) x → Fits ds reads x
    by (inl k) = all x k
    by (inr k) = by_last (Contains-cons_cases t [] x k)

-- a tuple whose pair is there fits through tuplesets
pub pair_fits : (ds : List Declaration) (es : List Through) (ts : List TupleValue) (t : TupleValue) → ((u : TupleValue) → Contains ts u → FitsThrough ds es u)
    → IsSomeOfPair t.set (relation_of_user t.user).namespace ts → FitsThrough ds es t
pair_fits ds es ts t all (u, c, is) g e user i n m =
    let one = and_true (bytes_eq u.set.namespace t.set.namespace) _ is in
    let two = and_true (bytes_eq u.set.relation t.set.relation) (is_from u.user (relation_of_user t.user).namespace) one.1 in
    let q = one_name u.set.namespace t.set.namespace one.0 in
    let r = one_name u.set.relation t.set.relation two.0 in
    by u.user refl (subst (λ (x : User). is_from u.user (relation_of_user x).namespace ≡ true) user two.1) (n ∙ sym q) (m ∙ sym r)
  where
    by : (x : User) → u.user ≡ x → is_from u.user g.namespace ≡ true → e.names.namespace ≡ u.set.namespace → e.names.relation ≡ u.set.relation → IsLow ds g.namespace e
    by (Id k) same from q r = let no : false ≡ true = sym (ap (λ (y : User). is_from y g.namespace) same) ∙ from in cc
    by (Set h) same from q r =
        let own = one_name h.namespace g.namespace (sym (ap (λ (y : User). is_from y g.namespace) same) ∙ from) in
        subst (λ (p : List ℕ). IsLow ds p e) own (all u c h e same i q r)

-- ---- one declaration more

number_namespace : (ds : List Declaration) (q r : List ℕ) (m : RelNo) (n : ℕ) → number_of q r ds ≡ Some m → place_of q (namespace_names ds) ≡ Some n → m.namespace ≡ n
number_namespace ds q r m n h is = by (option_and_then (λ rs. place_of r (relation_names rs)) (relations_of q ds)) (rw is at h)
  where
    by : (o : Option ℕ) → option_map (λ k. record { namespace = n; relation = k }) o ≡ Some m → m.namespace ≡ n
    by None g = cc
    by (Some k) g =
        let same : record { namespace = n; relation = k } ≡ m = (let e : Some (record { namespace = n; relation = k }) ≡ Some m = g in cc) in
        ap (λ (x : RelNo). x.namespace) (sym same)

-- a name that stands at a place of a list is found there
found_at : (rs : List Relation) (k : ℕ) (r : List ℕ) → slice_get (relation_names rs) k ≡ Some r → lookup.relation_named r rs ≡ None → ⊥
found_at rs k r at none = clash (bytes_eq r r) (same_name r) (position_none (bytes_eq r) (relation_names rs) (absent r rs none) k r at)

its_name : (ds : List Declaration) (q r : List ℕ) (x : Relation) → relation_of q r ds ≡ Some x → x.name ≡ r
its_name ds q r x h = by (relations_of q ds) h
  where
    by : (o : Option (List Relation)) → option_and_then (lookup.relation_named r) o ≡ Some x → x.name ≡ r
    by None g = cc
    by (Some rs) g = (named_there r rs x g).1

front_at : (xs ys : List (List ℕ)) (k : ℕ) (r : List ℕ) → k < length xs → slice_get (xs ++ ys) k ≡ Some r → slice_get xs k ≡ Some r
front_at xs ys k r less at = sym (slice_get-front xs ys k less) ∙ at

module _ (ds : List Declaration) (d : Declaration) (w : IsWellFormed (ds ++ d ∷ [])) where
  abbrev more : List Declaration
  more = ds ++ d ∷ []

  -- a relation that was declared has its stratum
  declared_kept : (g : SetValue) (x : Relation) → relation_of g.namespace g.relation ds ≡ Some x → stratum_of more g ≡ stratum_of ds g
  declared_kept g x is =
      let n = numbered ds g.namespace g.relation x is in
      sym (stratum_of_numbered more g)
      ∙ ap (option_and_then (stratum_numbered more)) (number n.number n.is)
      ∙ stratum_of_number ds d w g.namespace g.relation n.number n.is
      ∙ ap (option_and_then (stratum_numbered ds)) (sym n.is)
      ∙ stratum_of_numbered ds g
    where
      number : (m : RelNo) → number_of g.namespace g.relation ds ≡ Some m → number_of g.namespace g.relation more ≡ Some m
      number m h = by_bool (bytes_eq g.namespace d.name)
          (λ t.
          let same = one_name g.namespace d.name t in
          own (relations_of d.name ds) refl (subst (λ (q : List ℕ). number_of q g.relation ds ≡ Some m) same h) (subst (λ (q : List ℕ). relation_of q g.relation ds ≡ Some x) same is) same)
          (λ f. numbers_kept ds d w g.namespace (λ same. clash (bytes_eq g.namespace d.name) (rw same (same_name d.name)) f) g.relation ∙ h)
        where
          own : (o : Option (List Relation)) → relations_of d.name ds ≡ o → number_of d.name g.relation ds ≡ Some m → relation_of d.name g.relation ds ≡ Some x → g.namespace ≡ d.name
              → number_of g.namespace g.relation more ≡ Some m
          own None found k there same = let no : None ≡ Some x = rw found at there in cc
          own (Some os) found k there same = subst (λ (q : List ℕ). number_of q g.relation more ≡ Some m) (sym same) (last.number_kept ds d w os found g.relation m k)

  -- a relation that is new has a number behind those that were there
  new_number : (r : List ℕ) (x : Relation) (n : ℕ) → relation_of d.name r ds ≡ None → relation_of d.name r more ≡ Some x → place_of d.name (namespace_names more) ≡ Some n
      → (k : ℕ) × (relation_count d.name ds < k) × (relation_numbered (relation_number n k) more ≡ Some x) × (x.name ≡ r)
  new_number r x n none is at =
      let m = numbered more d.name r x is in
      let here = number_namespace more d.name r m.number n m.is at in
      let item : item_at m.number.relation d.relations ≡ Some x = rw (m.namespace, relations_last ds d) at m.relation in
      let least = item_least m.number.relation d.relations x item in
      let there = item_there m.number.relation d.relations x item in
      let name = its_name more d.name r x is in
      (m.number.relation, above m.number.relation least there name (relations_of d.name ds) refl none, subst (λ (j : ℕ). relation_numbered (relation_number j m.number.relation) more ≡ Some x) here m.relation, name)
    where
      above : (k : ℕ) → 1 ≤ k → slice_get d.relations (k - 1) ≡ Some x → x.name ≡ r → (o : Option (List Relation)) → relations_of d.name ds ≡ o → option_and_then (lookup.relation_named r) o ≡ None
          → length (unwrap_or o []) < k
      above k least there name None found h = omega (arith, least)
      above k least there name (Some os) found h = by_bool (nat_le k (length os))
          (λ t.
          let kept = last.kept ds d w os found in
          let names = names_kept os d.relations kept.names in
          let long = length-map os (λ (y : Relation). y.name) in
          let at : slice_get (relation_names d.relations) (k - 1) ≡ Some r = slice_get-map (λ (y : Relation). y.name) d.relations (k - 1) ∙ ap (option_map (λ (y : Relation). y.name)) there ∙ ap (λ (z : List ℕ). Some z) name in
          let less : k - 1 < length (relation_names os) = grind (arith, nat_tests) in
          absurd (found_at os (k - 1) r (front_at (relation_names os) names.0 (k - 1) r less (subst (λ (zs : List (List ℕ)). slice_get zs (k - 1) ≡ Some r) names.1 at)) h))
          (λ f. grind (arith, nat_tests))

  module _ (reads : Reads) (kinds : Kinds) (ts : List TupleValue) (n : ℕ) (at : place_of d.name (namespace_names more) ≡ Some n)
      (all : (k : ℕ) (x : Relation) → relation_count d.name ds < k → relation_numbered (relation_number n k) more ≡ Some x → IsFitting more reads kinds ts d.name x.name) where
    -- a relation has its stratum, or is new, and read nowhere too high
    kept_or_new : (q r : List ℕ) → (stratum_of more (relation_named q r) ≡ stratum_of ds (relation_named q r)) ⊎ ((q ≡ d.name) × IsFitting more reads kinds ts d.name r)
    kept_or_new q r = by (relation_of q r ds) refl
      where
        by_more : q ≡ d.name → relation_of q r ds ≡ None → (o : Option Relation) → relation_of q r more ≡ o
            → (stratum_of more (relation_named q r) ≡ stratum_of ds (relation_named q r)) ⊎ ((q ≡ d.name) × IsFitting more reads kinds ts d.name r)
        by_more same none None is = inl (ap (option_map (λ (x : Relation). x.stratum)) (is ∙ sym none))
        by_more same none (Some x) is =
            let new = new_number r x n (subst (λ (p : List ℕ). relation_of p r ds ≡ None) same none) (subst (λ (p : List ℕ). relation_of p r more ≡ Some x) same is) at in
            inr (same, subst (IsFitting more reads kinds ts d.name) new.3 (all new.0 x new.1 new.2))

        by : (o : Option Relation) → relation_of q r ds ≡ o
            → (stratum_of more (relation_named q r) ≡ stratum_of ds (relation_named q r)) ⊎ ((q ≡ d.name) × IsFitting more reads kinds ts d.name r)
        by (Some x) is = inl (declared_kept (relation_named q r) x is)
        by None is = by_bool (bytes_eq q d.name)
            (λ t. by_more (one_name q d.name t) is (relation_of q r more) refl)
            (λ f. inl (sym (stratum_of_numbered more (relation_named q r))
            ∙ ap (option_and_then (stratum_numbered more)) (numbers_kept ds d w q (λ same. clash (bytes_eq q d.name) (rw same (same_name d.name)) f) r)
            ∙ other (number_of q r ds) refl
            ∙ stratum_of_numbered ds (relation_named q r)))
          where
            other : (o : Option RelNo) → number_of q r ds ≡ o → option_and_then (stratum_numbered more) o ≡ option_and_then (stratum_numbered ds) o
            other None h = refl
            other (Some m) h = stratum_of_number ds d w q r m h

    set_kept : (s : SetValue) → is_some (stratum_of ds s) ≡ true → stratum_of more s ≡ stratum_of ds s
    set_kept s declared = by (relation_of s.namespace s.relation ds) refl declared
      where
        by : (o : Option Relation) → relation_of s.namespace s.relation ds ≡ o → is_some (option_map (λ (x : Relation). x.stratum) o) ≡ true → stratum_of more s ≡ stratum_of ds s
        by None is h = cc
        by (Some x) is h = declared_kept s x is

    module _ (are : AreKinds kinds ts) (was : AllFit ds reads ts) where
      own_stays : (t : TupleValue) → Contains ts t → FitsOwn more reads t
      own_stays t c g user = by (kept_or_new g.namespace g.relation)
        where
          had : (is_some (stratum_of ds t.set) ≡ true) × ((strict : Bool) → Contains (own strict reads) (mark_of_set t) → is_broken_between (stratum_of ds t.set) (stratum_of ds g) strict ≡ false)
          had = (was t c).own g user

          by : (stratum_of more g ≡ stratum_of ds g) ⊎ ((g.namespace ≡ d.name) × IsFitting more reads kinds ts d.name g.relation)
              → (is_some (stratum_of more t.set) ≡ true) × ((strict : Bool) → Contains (own strict reads) (mark_of_set t) → is_broken_between (stratum_of more t.set) (stratum_of more g) strict ≡ false)
          by (inl same) = (
            ap is_some (set_kept t.set had.0) ∙ had.0,
            λ strict i. (λ j. is_broken_between (set_kept t.set had.0 j) (same j) strict) ∙ had.1 strict i,
          )
          by (inr new) = new.1.own t c (ap relation_of_user user ∙ (λ j. relation_named (new.0 j) g.relation)) g user

      through_stays : (t : TupleValue) → Contains ts t → FitsThrough more reads.through.items t
      through_stays t c g e user i n m = by (kept_or_new g.namespace e.names.id)
        where
          by : (stratum_of more (relation_named g.namespace e.names.id) ≡ stratum_of ds (relation_named g.namespace e.names.id)) ⊎ ((g.namespace ≡ d.name) × IsFitting more reads kinds ts d.name e.names.id) → IsLow more g.namespace e
          by (inl same) = ap (λ (o : Option ℕ). is_below o e.ceiling) same ∙ (was t c).through g e user i n m
          by (inr new) =
              let same : mark_of_pair t ≡ pair_mark e.names g.namespace = (λ j. pair_mark (record { namespace = sym n j; id = []; relation = sym m j }) (relation_of_user (user j)).namespace) in
              let there = subst (Contains kinds.pairs) same (mark_in mark_of_pair ts kinds.pairs are.pairs t c) in
              let low : IsLowWhereStored more kinds d.name e = new.1.through e i refl in
              subst (λ (q : List ℕ). IsLowWhereStored more kinds q e) (sym new.0) low there

      pub all_stay : AllFit more reads ts
      all_stay t c = record { own = own_stays t c; through = through_stays t c }

  -- each rule is read, once those of the last declaration are
  pub read_more : (old new : Reads) (ts : List TupleValue) (n : ℕ) → namespace_numbered n more ≡ Some d.name → HasRead old ds → HasTakenAll more ts d.name n old new → HasRead new more
  read_more old new ts n named had taken c x among there = by (Contains-append_cases ds (d ∷ []) c among)
    where
      of_last : (d ≡ c) ⊎ Contains [] c → AreRead new c.name x.name x.stratum (places false x.expression)
      of_last (inl same) =
          let at = place_in d.relations x (subst (λ (y : Declaration). Contains y.relations x) (sym same) there) in
          let number : relation_numbered (relation_number n (at.0 + 1)) more ≡ Some x =
          rw (named, relations_last ds d) (item_at-place (at.0 + 1) at.0 d.relations (omega arith) (omega arith) ∙ at.1) in
          subst (λ (y : Declaration). AreRead new y.name x.name x.stratum (places false x.expression)) same (taken.read (at.0 + 1) x number)
      of_last (inr none) = absurd (not_in_nil c none)

      by : Contains ds c ⊎ Contains (d ∷ []) c → AreRead new c.name x.name x.stratum (places false x.expression)
      by (inl k) = read_kept more ts c.name x.name x.stratum (places false x.expression) old new taken.grown (had c x k there)
      by (inr k) = of_last (Contains-cons_cases d [] c k)

-- ---- an index

pub empty_index : (index : EdgeIndex) → index.kinds.sets ≡ [] → index.kinds.users ≡ [] → index.kinds.pairs ≡ [] → index.reads.tuplesets ≡ [] → index.reads.computed ≡ [] → index.reads.through.items ≡ [] → IsIndex [] index []
empty_index index sets users pairs tuplesets computed through whole = record {
  well_formed = record { namespaces = omega arith; distinct = refl; fit = tt; changes = omega arith; continued = tt };
  kinds = record { sets = sets; users = users; pairs = pairs };
  marked = record { tuplesets = tuplesets ∙ ap (map tupleset_mark) (sym through); computed = computed ∙ ap (map computed_mark) (sym through) };
  read = λ d x c. absurd (not_in_nil d c);
  fit = λ t c. absurd (not_in_nil t c);
}

-- what a tuple that is admitted leaves
pub admitted : (ds : List Declaration) (old new : EdgeIndex) (ts : List TupleValue) (t : TupleValue) → IsWhole ds old ts → new.reads ≡ old.reads → AreKinds new.kinds (ts ++ t ∷ []) → Fits ds old.reads t → IsIndex ds new (ts ++ t ∷ [])
admitted ds old new ts t was same kinds fits whole = record {
  well_formed = was.well_formed;
  kinds = kinds;
  marked = subst AreMarked (sym same) was.marked;
  read = subst (λ (reads : Reads). HasRead reads ds) (sym same) was.read;
  fit = subst (λ (reads : Reads). AllFit ds reads (ts ++ t ∷ [])) (sym same) (all_more ds old.reads ts t was.fit fits);
}

-- what a declaration that is taken leaves
pub declared_whole : (es : List Declaration) (q : List ℕ) (count : ℕ) (index : EdgeIndex) (ts : List TupleValue) → IsIndexBefore es q count index ts → index.is_whole ≡ true
    → (n : ℕ) → place_of q (namespace_names es) ≡ Some n
    → ((k : ℕ) (x : Relation) → count < k → relation_numbered (relation_number n k) es ≡ Some x → IsFitting es index.reads index.kinds ts q x.name)
    → (reads : Reads) → HasTakenAll es ts q n index.reads reads → IsWhole es (record index { reads = reads }) ts
declared_whole es q count index ts before whole n at all reads taken =
    let was = before.was whole in
    let w = subst IsWellFormed before.are before.well_formed in
    let place = subst (λ (xs : List Declaration). place_of before.last.name (namespace_names xs) ≡ Some n) before.are (subst (λ (p : List ℕ). place_of p (namespace_names es) ≡ Some n) (sym before.named) at) in
    let fit : (k : ℕ) (x : Relation) → relation_count before.last.name before.before < k → relation_numbered (relation_number n k) (before.before ++ before.last ∷ []) ≡ Some x
    → IsFitting (before.before ++ before.last ∷ []) index.reads index.kinds ts before.last.name x.name =
    λ k x above is.
    subst (λ (xs : List Declaration). IsFitting xs index.reads index.kinds ts before.last.name x.name) before.are
    (subst (λ (p : List ℕ). IsFitting es index.reads index.kinds ts p x.name) (sym before.named)
    (all k x (subst (λ (j : ℕ). j < k) (ap (λ (p : List ℕ). relation_count p before.before) before.named ∙ sym before.known) above)
    (subst (λ (xs : List Declaration). relation_numbered (relation_number n k) xs ≡ Some x) (sym before.are) is))) in
    let last_taken = subst (λ (xs : List Declaration). HasTakenAll xs ts before.last.name n index.reads reads) before.are
    (subst (λ (p : List ℕ). HasTakenAll es ts p n index.reads reads) (sym before.named) taken) in
    let stay = all_stay before.before before.last w index.reads index.kinds ts n place fit was.kinds was.fit in
    let read = read_more before.before before.last w index.reads reads ts n (placed before.last.name (namespace_names (before.before ++ before.last ∷ [])) n place) was.read last_taken in
    record {
      well_formed = before.well_formed;
      kinds = was.kinds;
      marked = taken.grown.marked was.marked;
      read = subst (HasRead reads) (sym before.are) read;
      fit = taken.grown.fit (subst (λ (xs : List Declaration). AllFit xs index.reads ts) (sym before.are) stay);
    }
