-- Tables of relations beside the relations that they show.
use Rattle.std.proofs.Common.{◌≡◌, ℕ, ◌+◌, ◌<◌, Bool, true, false, ◌||◌, is_some, option_map, List, [], ◌∷◌, ◌++◌, length, get_or, slice_get, drop, cond, Option, Some, Result, Ok, Err, String, Global, string_bytes, refl, sym, ap, ◌∙◌, append_assoc, append-nil, add-one}
use Rattle.std.proofs.lemmas.Option.{slice_get-map}
use Rattle.std.proofs.Math.Seq.{drop-cons}
use Rattle.std.specs.Result.{OnErr}
use Rattle.std.specs.Str.{bytes_eq}
use Rattle.std.specs.List.{list_any}
use Rattle.std.specs.Map.{lookup}
use Rattle.namespaces.specs.declared.fault.RulesFault.{RulesFault}
use Rattle.namespaces.specs.declared.fault.RulesFault.TheVariants.{Shape, Name, RepeatedNamespace, RepeatedRelation, UndeclaredRelation, TooDeep, TooMany, OutOfMemory, RelationsChanged, StratumChanged}
use Rattle.namespaces.specs.Fault.{Fails}
use Rattle.namespaces.specs.Declaration as declaration
use Rattle.namespaces.specs.Adding.{has_repeats}
use Rattle.namespaces.specs.Lookup.{relation_names}
use Rattle.namespaces.specs.Shown.{show_relation, show_relations}
use Rattle.namespaces.specs.declared.relation.Relation.{Relation}
use Rattle.namespaces.proofs.Repeats.{has_repeats-there, has_repeats-push}

abbrev pub Entry : Type 0
Entry = String Global × Relation

-- the test by which a table is searched for a text
abbrev pub is_text : List ℕ → String Global → Bool
is_text q k = bytes_eq q (string_bytes k)

-- the relations from one on: that one, and those behind it
pub relations_step : (es : List Entry) (i : ℕ) (d : Entry) → i < length es → show_relations (drop i es) ≡ show_relation (get_or es i d) ∷ show_relations (drop (i + 1) es)
relations_step es i d h = rw (drop-cons es i d h, add-one) refl

pub show_relations-append : (es fs : List Entry) → show_relations (es ++ fs) ≡ show_relations es ++ show_relations fs
show_relations-append [] fs = refl
show_relations-append (e ∷ es) fs = ap (λ rs. show_relation e ∷ rs) (show_relations-append es fs)

abbrev names : List Entry → List (List ℕ)
names es = relation_names (show_relations es)

relation_names-append : (rs ss : List declaration.Relation) → relation_names (rs ++ ss) ≡ relation_names rs ++ relation_names ss
relation_names-append [] ss = refl
relation_names-append (r ∷ rs) ss = ap (λ ns. r.name ∷ ns) (relation_names-append rs ss)

or_found : {V : Type 0} (b r : Bool) (v : V) (vs : Option V) → r ≡ is_some vs → (b || r) ≡ is_some (cond b (Some v) vs)
or_found true r v vs later = refl
or_found false r v vs later = later

names_found : (q : List ℕ) (es : List Entry) → list_any (bytes_eq q) (names es) ≡ is_some (lookup (is_text q) es)
names_found q [] = refl
names_found q (e ∷ es) = or_found (is_text q e.0) _ e.1 _ (names_found q es)

-- whether there is a relation of a name
pub name_found : (q : List ℕ) (es : List Entry) → list_any (λ e. bytes_eq q e.name) (show_relations es) ≡ is_some (lookup (is_text q) es)
name_found q [] = refl
name_found q (e ∷ es) = or_found (is_text q e.0) _ e.1 _ (name_found q es)

-- A table so far, what is left, and all of it.
pub record Building (done left all : List Entry) : Type 0 where
  pub shown : show_relations done ++ show_relations left ≡ show_relations all
  pub distinct : has_repeats (names done) ≡ false

pub building_repeats : (done : List Entry) (e : Entry) (left all : List Entry) → Building done (e ∷ left) all → is_some (lookup (is_text (string_bytes e.0)) done) ≡ true → has_repeats (names all) ≡ true
building_repeats done e left all b there =
    rw (← b.shown, relation_names-append (show_relations done) (show_relations (e ∷ left)))
    (has_repeats-there (names done) (names left) (string_bytes e.0) (names_found (string_bytes e.0) done ∙ there))

pub building_goes_on : (done : List Entry) (e : Entry) (left all : List Entry) → Building done (e ∷ left) all → is_some (lookup (is_text (string_bytes e.0)) done) ≡ false → Building (done ++ e ∷ []) left all
building_goes_on done e left all b absent = record {
  shown = rw (show_relations-append done (e ∷ []), append_assoc (show_relations done) (show_relation e ∷ []) (show_relations left)) b.shown;
  distinct = rw (show_relations-append done (e ∷ []), relation_names-append (show_relations done) (show_relation e ∷ [])) (has_repeats-push (names done) (string_bytes e.0) b.distinct (names_found (string_bytes e.0) done ∙ absent));
}

pub building_ends : (done all : List Entry) → Building done [] all → (has_repeats (names all) ≡ false) × (show_relations done ≡ show_relations all)
building_ends done all b =
    let same = sym (append-nil (show_relations done)) ∙ b.shown in
    (rw (← same) b.distinct, same)

pub on_err_always : {T E P : Type 0} (r : Result T E) → P → OnErr r P
on_err_always (Ok x) p = tt
on_err_always (Err e) p = p

pub not_refused : (b : Bool) (u : Unit {0}) → cond {A = Result (Unit {0}) RulesFault} b (Err RepeatedRelation) (Ok (tt {0})) ≡ Ok u → b ≡ false
not_refused true u h = cc
not_refused false u h = refl

-- a fault of one step is the fault of all of them
pub carried : (e : RulesFault) (b r : Bool) (rs : List declaration.Relation) → (b ≡ true → r ≡ true) → Fails {Y = Unit {0}} e (cond b (Err RepeatedRelation) (Ok (tt {0}))) → Fails e (cond r (Err RepeatedRelation) (Ok rs))
carried OutOfMemory b r rs f h = tt
carried RepeatedRelation true r rs f h = rw (f refl) refl
carried RepeatedRelation false r rs f h = cc
carried Shape true r rs f h = cc
carried Shape false r rs f h = cc
carried Name true r rs f h = cc
carried Name false r rs f h = cc
carried RepeatedNamespace true r rs f h = cc
carried RepeatedNamespace false r rs f h = cc
carried UndeclaredRelation true r rs f h = cc
carried UndeclaredRelation false r rs f h = cc
carried TooDeep true r rs f h = cc
carried TooDeep false r rs f h = cc
carried TooMany true r rs f h = cc
carried TooMany false r rs f h = cc
carried RelationsChanged true r rs f h = cc
carried RelationsChanged false r rs f h = cc
carried StratumChanged true r rs f h = cc
carried StratumChanged false r rs f h = cc

-- the relation at a place
pub shown_there : (es : List Entry) (i : ℕ) → slice_get (show_relations es) i ≡ option_map show_relation (slice_get es i)
shown_there es i = slice_get-map show_relation es i
