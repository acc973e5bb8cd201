-- What the fields of `Rules` tell of the declarations.
use Rattle.std.proofs.Common.{◌≡◌, ℕ, ◌+◌, ◌-◌, ◌<◌, ◌≤◌, nat_le, List, [], ◌∷◌, ◌++◌, map, length, slice_get, position, filter, Bool, true, false, cond, Option, None, Some, option_map, option_and_then, is_some, Bor, string_bytes, refl, sym, ap, ◌∙◌, arith}
use Rattle.std.proofs.lemmas.Option.{slice_get-map}
use Rattle.std.proofs.lemmas.Map.Made.{is_some-lookup}
use Rattle.names.specs.Names.{place_of}
use Rattle.names.proofs.NamesLemmas.{stands, stands_nowhere}
use Rattle.std.specs.Global.{Vec}
use Rattle.std.specs.Option.{IfSome, option_copied}
use Rattle.std.specs.Str.{bytes_eq}
use Rattle.std.specs.List.{AllByRecursion, last_or, list_any}
use Rattle.std.specs.Map.{lookup, keys_of}
use Rattle.namespaces.specs.Declaration as declaration
use Rattle.namespaces.specs.Declaration.{Declaration}
use Rattle.namespaces.specs.Lookup.{as_rule, relation_at, relation_named, relation_names, relations_of, namespace_names, namespace_numbered, relation_numbered, item_at}
use Rattle.namespaces.specs.Adding.{is_declared}
use Rattle.namespaces.specs.Changing.{change_count}
use Rattle.rewrites.specs.View.{expression_of}
use Rattle.namespaces.specs.WellFormed.{AreContinued, IsFit, IsWellFormed}
use Rattle.namespaces.specs.Shown.{show_line, show_lines, show_relation, show_relations}
use Rattle.namespaces.specs.Index.{show_index, revision, with_revision, index_of, revisions_of, relations_at, unless_empty}
use Rattle.namespaces.specs.Consistent.{AreConsistent}
use Rattle.namespaces.specs.declared.number.RelNo.{RelNo}
use Rattle.namespaces.specs.declared.relation.Relation.{Relation}
use Rattle.namespaces.specs.declared.rules.Line.{Line}
use Rattle.namespaces.specs.declared.index.Revision.{Revision}
use Rattle.namespaces.proofs.Tables.{Entry, is_text}
use Rattle.namespaces.proofs.Indexes.{IndexEntry, lookup-index_of, lookup-show_index, names-index_of, names-show_index, index_of-push, length-mapped, position-map}
use Rattle.namespaces.proofs.Revisions.{last_or-slice_get, relations_of-revisions, relations_at-revisions}
use Rattle.namespaces.proofs.Times.{from_one, relation_at-relations_at}
use Rattle.namespaces.proofs.Growth.{is_declared-names, change_count-push, each_push}
use Rattle.namespaces.proofs.Numbering.{item_at-place, same_then}

map-map : {X Y Z : Type 0} (f : X → Y) (g : Y → Z) (o : Option X) → option_map g (option_map f o) ≡ option_map (λ x. g (f x)) o
map-map f g None = refl
map-map f g (Some x) = refl

list_any-map : {X Y : Type 0} (p : Y → Bool) (f : X → Y) (xs : List X) → list_any p (map f xs) ≡ list_any (λ x. p (f x)) xs
list_any-map p f [] = refl
list_any-map p f (x ∷ xs) = rw (list_any-map p f xs) refl

empty_from : {X : Type 0} (xs : List X) → None ≡ unless_empty xs → xs ≡ []
empty_from [] h = refl
empty_from (x ∷ xs) h = cc

full_from : {X : Type 0} (xs ys : List X) → Some xs ≡ unless_empty ys → ys ≡ xs
full_from xs [] h = cc
full_from xs (y ∷ ys) h = cc

-- no more relations than a namespace may have
pub few_relations : {X : Type 0} (of : X → List Entry) (q : List ℕ) (ds : List Declaration) (o : Option X) → IsWellFormed ds → option_map (λ x. show_relations (of x)) o ≡ relations_of q ds → IfSome o (λ x. length (of x) ≤ 256)
few_relations of q ds None w found = tt
few_relations of q ds (Some x) w found =
    let one = from_one IsFit q (show_relations (of x)) ds w.fit (sym found) in
    let few : length (show_relations (of x)) ≤ 256 = rw one.shown at one.has.count in
    rw (length-mapped show_relation (of x)) at few

module _ (lines : List Line) (es : List IndexEntry) (changes : ℕ) (ds : List Declaration) (shown : show_lines lines ≡ ds) (fields : AreConsistent lines es changes) where
  pub well : IsWellFormed ds
  well = rw shown at fields.well_formed

  -- no declaration is in force only after the last timestamp
  pub none_after_last : AllByRecursion (λ (d : Declaration). d.at ≤ 18446744073709551615) ds
  none_after_last = by ds (rw shown at fields.timestamps)
    where
      by : (cs : List Declaration) → AllByRecursion (λ (d : Declaration). d.at < 18446744073709551616) cs → AllByRecursion (λ (d : Declaration). d.at ≤ 18446744073709551615) cs
      by [] all = tt
      by (d ∷ cs) all = let h : d.at < 18446744073709551616 = all.0 in (omega arith, by cs all.1)

  indexed : show_index es ≡ index_of ds
  indexed = fields.indexed ∙ ap index_of shown

  found : (q : List ℕ) → option_map (λ v. v.items) (lookup (is_text q) es) ≡ unless_empty (revisions_of q ds)
  found q = sym (lookup-show_index q es) ∙ ap (lookup (bytes_eq q)) indexed ∙ lookup-index_of q ds

  -- a name that is not in the table has no revisions
  pub none_found : (q : List ℕ) → lookup (is_text q) es ≡ None → revisions_of q ds ≡ []
  none_found q none = empty_from (revisions_of q ds) (rw none at (found q))

  -- one that is in the table has those that are there
  pub some_found : (q : List ℕ) (v : Vec Revision) → lookup (is_text q) es ≡ Some v → revisions_of q ds ≡ v.items
  some_found q v some = full_from v.items (revisions_of q ds) (rw some at (found q))

  pub names : map string_bytes (keys_of es) ≡ namespace_names ds
  names = sym (names-show_index es) ∙ ap keys_of indexed ∙ names-index_of ds

  -- where a name stands
  pub position_found : (q : List ℕ) → position (bytes_eq q) (namespace_names ds) ≡ place_of q es
  position_found q = ap (position (bytes_eq q)) (sym names) ∙ position-map (bytes_eq q) string_bytes (keys_of es) ∙ position-map (is_text q) (λ (e : IndexEntry). e.0) es

  pub count_found : length es ≡ length (namespace_names ds)
  count_found = sym (length-mapped (λ (e : IndexEntry). e.0) es) ∙ sym (length-mapped string_bytes (keys_of es)) ∙ ap length names

  -- whether a name is in the table
  pub declared_found : (q : List ℕ) → is_declared q ds ≡ is_some (lookup (is_text q) es)
  declared_found q =
      sym (is_declared-names q ds) ∙ ap (list_any (bytes_eq q)) (sym names) ∙ list_any-map (bytes_eq q) string_bytes (keys_of es) ∙ sym (is_some-lookup (is_text q) es)

  -- the name at a place
  pub name_found : (n i : ℕ) → 1 ≤ n → n - 1 ≡ i → namespace_numbered n ds ≡ option_map (λ e. string_bytes e.0) (slice_get es i)
  name_found n i least is =
      item_at-place n i (namespace_names ds) least is ∙ ap (λ ns. slice_get ns i) (sym names) ∙ slice_get-map string_bytes (keys_of es) i
      ∙ ap (option_map string_bytes) (slice_get-map (λ (e : IndexEntry). e.0) es i) ∙ map-map (λ (e : IndexEntry). e.0) string_bytes (slice_get es i)

-- the relations of a namespace, by its revisions
pub newest_led : (q : List ℕ) (ds : List Declaration) (vs : List Revision) → revisions_of q ds ≡ vs
    → relations_of q ds ≡ option_and_then (λ v. option_map (λ d. d.relations) (slice_get ds v.line)) (slice_get vs (length vs - 1))
newest_led q ds vs e = relations_of-revisions q ds ∙ rw (e, last_or-slice_get vs) refl

pub at_led : (at : ℕ) (q : List ℕ) (ds : List Declaration) (vs : List Revision) → revisions_of q ds ≡ vs
    → relations_at at q ds ≡ option_and_then (λ v. option_map (λ d. d.relations) (slice_get ds v.line)) (last_or None (filter (λ v. nat_le v.at at) vs))
at_led at q ds vs e = relations_at-revisions at q ds ∙ rw e refl

-- the relation that has a number, by the revisions of its namespace
pub numbered_led : (ds : List Declaration) (number : RelNo) (q : List ℕ) (i : ℕ) (vs : List Revision) → namespace_numbered number.namespace ds ≡ Some q → 1 ≤ number.relation → number.relation - 1 ≡ i → revisions_of q ds ≡ vs
    → relation_numbered number ds ≡ option_and_then (λ rs. slice_get rs i) (option_and_then (λ v. option_map (λ d. d.relations) (slice_get ds v.line)) (slice_get vs (length vs - 1)))
numbered_led ds number q i vs named least is e =
    rw (named, ← newest_led q ds vs e) (same_then (item_at number.relation) (λ rs. slice_get rs i) (λ xs. item_at-place number.relation i xs least is) (relations_of q ds))

-- ---- in a table of relations

found_mapped : {X V B : Type 0} (b : Bool) (f : X → B) (g : V → B) (x : X) (v : V) (xs : Option X) (vs : Option V) → f x ≡ g v → option_map f xs ≡ option_map g vs
    → option_map f (cond b (Some x) xs) ≡ option_map g (cond b (Some v) vs)
found_mapped true f g x v xs vs here later = ap Some here
found_mapped false f g x v xs vs here later = later

pub stratum_found : (q : List ℕ) (es : List Entry) → option_map (λ r. r.stratum) (relation_named q (show_relations es)) ≡ option_map (λ r. r.stratum) (lookup (is_text q) es)
stratum_found q [] = refl
stratum_found q (e ∷ es) = found_mapped (is_text q e.0) _ _ _ e.1 _ _ refl (stratum_found q es)

pub expression_found : (q : List ℕ) (es : List Entry) → option_map (λ r. r.expression) (relation_named q (show_relations es)) ≡ option_map (λ r. expression_of r.rewrite) (lookup (is_text q) es)
expression_found q [] = refl
expression_found q (e ∷ es) = found_mapped (is_text q e.0) _ _ _ e.1 _ _ refl (expression_found q es)

pub expression_borrowed : (o : Option (Bor Relation)) → option_map (λ r. expression_of r.now.rewrite) o ≡ option_map (λ r. expression_of r.rewrite) (option_copied o)
expression_borrowed None = refl
expression_borrowed (Some x) = refl

-- the relation of a name stands at the place of the name
pub expression_placed : (q : List ℕ) (es : List Entry) (i : ℕ) → place_of q es ≡ Some i
    → option_map (λ r. r.expression) (slice_get (show_relations es) i) ≡ option_map (λ r. r.expression) (relation_named q (show_relations es))
expression_placed q es i at =
    let s = stands q es i at in
    ap (option_map (λ r. r.expression)) (slice_get-map show_relation es i)
    ∙ map-map show_relation (λ r. r.expression) (slice_get es i)
    ∙ sym (map-map (λ (e : Entry). e.1) (λ r. expression_of r.rewrite) (slice_get es i))
    ∙ ap (option_map (λ r. expression_of r.rewrite)) (ap (option_map (λ e. e.1)) s.there ∙ sym s.value)
    ∙ sym (expression_found q es)

-- and none, where the name stands nowhere
pub none_placed : (q : List ℕ) (es : List Entry) → place_of q es ≡ None
    → option_map (λ r. r.expression) (relation_named q (show_relations es)) ≡ None
none_placed q es none =
    expression_found q es ∙ ap (option_map (λ r. expression_of r.rewrite)) (stands_nowhere q es none)

expression_of_rule : (o : Option declaration.Relation) → option_map (λ r. r.expression) (option_map as_rule o) ≡ option_map (λ r. r.expression) o
expression_of_rule None = refl
expression_of_rule (Some r) = refl

-- the rule in force, from the relations of its namespace then
pub expression_in_force : (ds : List Declaration) (at : ℕ) (q r : List ℕ) (rs : Option (List declaration.Relation)) → AreContinued ds → rs ≡ relations_at at q ds
    → option_map (λ r. r.expression) (option_map as_rule (relation_at ds at q r)) ≡ option_map (λ r. r.expression) (option_and_then (relation_named r) rs)
expression_in_force ds at q r rs continued is = rw (expression_of_rule (relation_at ds at q r), relation_at-relations_at ds at q r continued, is) refl

names_shown : (es : List Entry) → relation_names (show_relations es) ≡ map string_bytes (keys_of es)
names_shown [] = refl
names_shown (e ∷ es) = ap (λ ns. string_bytes e.0 ∷ ns) (names_shown es)

pub position-relations : (q : List ℕ) (es : List Entry) → position (bytes_eq q) (relation_names (show_relations es)) ≡ place_of q es
position-relations q es = ap (position (bytes_eq q)) (names_shown es) ∙ position-map (bytes_eq q) string_bytes (keys_of es) ∙ position-map (is_text q) (λ (e : Entry). e.0) es

-- ---- one more

show_lines-push : (ls : List Line) (l : Line) → show_lines (ls ++ l ∷ []) ≡ show_lines ls ++ show_line l ∷ []
show_lines-push [] l = refl
show_lines-push (k ∷ ls) l = ap (λ ds. show_line k ∷ ds) (show_lines-push ls l)

pub shown_put : (lines new_lines : List Line) (l : Line) (ds : List Declaration) → show_lines lines ≡ ds → new_lines ≡ lines ++ l ∷ []
    → show_lines new_lines ≡ ds ++ show_line l ∷ []
shown_put lines new_lines l ds shown put = ap show_lines put ∙ show_lines-push lines l ∙ ap (λ cs. cs ++ show_line l ∷ []) shown

-- what is written when a declaration is put last
pub record IsPut (lines new_lines : List Line) (es new_es : List IndexEntry) (l : Line) (v : Revision) (changes new_changes : ℕ) : Type 0 where
  pub lines_put : new_lines ≡ lines ++ l ∷ []
  pub noted : show_index new_es ≡ with_revision (string_bytes l.namespace.name) v (show_index es)
  pub place : v ≡ revision (length lines) (show_line l)
  pub counted : new_changes ≡ changes + cond l.is_change 1 0
  pub timestamp : l.at < 18446744073709551616

pub consistent_put : (lines new_lines : List Line) (es new_es : List IndexEntry) (l : Line) (v : Revision) (changes new_changes : ℕ) (ds : List Declaration) → show_lines lines ≡ ds → AreConsistent lines es changes
    → IsWellFormed (ds ++ show_line l ∷ []) → IsPut lines new_lines es new_es l v changes new_changes → AreConsistent new_lines new_es new_changes
consistent_put lines new_lines es new_es l v changes new_changes ds shown fields w put =
    let all : show_lines new_lines ≡ ds ++ show_line l ∷ [] = shown_put lines new_lines l ds shown put.lines_put in
    let place : v ≡ revision (length ds) (show_line l) = put.place ∙ ap (λ n. revision n (show_line l)) (sym (length-mapped show_line lines) ∙ ap length shown) in
    record {
      well_formed = rw all w;
      indexed = put.noted ∙ ap (λ i. with_revision (string_bytes l.namespace.name) v i) (fields.indexed ∙ ap index_of shown) ∙ ap (λ u. with_revision (string_bytes l.namespace.name) u (index_of ds)) place ∙ sym (index_of-push ds (show_line l)) ∙ ap index_of (sym all);
      counted = put.counted ∙ ap (λ n. n + cond l.is_change 1 0) (fields.counted ∙ ap change_count shown) ∙ sym (change_count-push ds (show_line l)) ∙ ap change_count (sym all);
      timestamps = rw (ap show_lines put.lines_put ∙ show_lines-push lines l) (each_push (λ (d : Declaration). d.at < 18446744073709551616) (show_lines lines) (show_line l) fields.timestamps put.timestamp);
    }
