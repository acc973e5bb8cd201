-- What a value that declared a namespace is.
use Rattle.std.proofs.Common.{◌≡◌, ℕ, ◌==◌, arith, Bool, true, false, not, cond, List, [], ◌∷◌, ◌++◌, Option, None, Some, Result, Ok, Err, codes, option_map, unwrap_or, refl, sym, ◌∙◌, ap}
use Rattle.std.proofs.lemmas.Bool.Decides.{nat_tests}
use Rattle.serde_json.specs.Data.{Data}
use Rattle.serde_json.specs.Find.{get, as_str}
use Rattle.tuple_text.specs.Tuples.{TupleValue}
use Rattle.namespaces.specs.declared.fault.RulesFault.{RulesFault}
use Rattle.namespaces.specs.declared.fault.RulesFault.TheVariants.{RelationsChanged, StratumChanged}
use Rattle.namespaces.specs.Declaration.{Relation, Namespace, Declaration, addition, change}
use Rattle.namespaces.specs.Lookup.{relation_count, relations_of}
use Rattle.namespaces.specs.WellFormed.{IsWellFormed}
use Rattle.namespaces.specs.Fault.{needed}
use Rattle.namespaces.specs.Shape as shape
use Rattle.namespaces.specs.Adding.{namespace, relations, list_at, is_declared, is_full, tested, checked_addition, added, rules_add}
use Rattle.namespaces.specs.Changing.{keeps_names, keeps_strata, is_full_for, continued, checked_change, changed, rules_change}
use Rattle.namespaces.proofs.Growth.{passed}
use Rattle.refusals.specs.Refusals.{◌>>=◌}
use Rattle.json_lines.specs.Fields.{text_at}
use Rattle.strata.specs.Edges.{first_broken, edges_of_tuples}
use Rattle.edge_checks.specs.Sampled.{IsDeclaredOver}
use Rattle.trace_lines.specs.Declaring.{AreUnbroken, IsDeclaredLast}
use Rattle.edge_checks.specs.Indexed.{IsIndex, IsIndexBefore}
use Rattle.edge_checks.specs.declared.edge_index.EdgeIndex.{EdgeIndex}

step : {A B : Type 0} (r : Result A RulesFault) (f : A → Result B RulesFault) (y : B) → (r >>= f) ≡ Ok y → (x : A) × (r ≡ Ok x) × (f x ≡ Ok y)
step (Ok x) f y h = (x, refl, h)
step (Err e) f y h = cc

was_there : {A : Type 0} (o : Option A) (x : A) → needed o ≡ Ok x → o ≡ Some x
was_there (Some y) x h = let same : y ≡ x = cc in ap Some same
was_there None x h = cc

text_there : (d : Data) (q : List ℕ) → shape.text_at (codes "name") d ≡ Ok q → text_at (codes "name") d ≡ Some q
text_there d q h =
    let member = step (needed (get (codes "name") d)) shape.text q h in
    rw (was_there (get (codes "name") d) member.0 member.1) (was_there (as_str member.0) q member.2)

-- the name of the namespace that a value has the shape of
named_by : (d : Data) (n : Namespace) → namespace d ≡ Ok n → text_at (codes "name") d ≡ Some n.name
named_by d n h =
    let name = step (shape.text_at (codes "name") d) (λ q. (list_at (codes "relations") d >>= relations) >>= λ rs. Ok (record { name = q; relations = rs })) n h in
    let all = step (list_at (codes "relations") d >>= relations) (λ rs. Ok (record { name = name.0; relations = rs })) n name.2 in
    let same : record { name = name.0; relations = all.0 } ≡ n = (let e : Ok (record { name = name.0; relations = all.0 }) ≡ Ok n = all.2 in cc) in
    text_there d name.0 name.1 ∙ ap (λ (m : Namespace). Some m.name) same

continued_same : (o : Option (List Relation)) (n got : Namespace) → continued o n ≡ Ok got → n ≡ got
unfolding continued
continued_same None n got h = cc
continued_same (Some old) n got h = by (keeps_names old n.relations) (keeps_strata old n.relations) h
  where
    by : (a b : Bool) → cond (not a) (Err RelationsChanged) (cond (not b) (Err StratumChanged) (Ok n)) ≡ Ok got → n ≡ got
    by false b g = cc
    by true false g = cc
    by true true g = cc

-- what a value declares that adds a namespace
pub addition_made : (ds es : List Declaration) (d : Data) → rules_add ds d ≡ Ok es → (last : Declaration) × (es ≡ ds ++ last ∷ []) × (text_at (codes "name") d ≡ Some last.name)
addition_made ds es d h =
    let one = step (added ds d) (λ n. Ok (ds ++ addition n ∷ [])) es h in
    let two = step (namespace d) (checked_addition ds) one.0 one.1 in
    let same : two.0 ≡ one.0 = (passed (is_declared two.0.name ds) (is_full ds) two.0 one.0 two.2).same in
    let are : ds ++ addition one.0 ∷ [] ≡ es = (let e : Ok (ds ++ addition one.0 ∷ []) ≡ Ok es = one.2 in cc) in
    (addition one.0, sym are, named_by d two.0 two.1 ∙ ap (λ (m : Namespace). Some m.name) same)

pub after_add : (ds es : List Declaration) (d : Data) → rules_add ds d ≡ Ok es → AreUnbroken ds → IsDeclaredLast es d
after_add ds es d h unbroken =
    let is = addition_made ds es d h in
    record { before = ds; last = is.0; are = is.1; named = is.2; unbroken = unbroken }

-- what a change declares last
pub change_made : (ds es : List Declaration) (at : ℕ) (d : Data) → rules_change ds at d ≡ Ok es
    → (last : Declaration) × (es ≡ ds ++ last ∷ []) × (text_at (codes "name") d ≡ Some last.name)
change_made ds es at d h =
    let one = step (changed ds d) (λ n. Ok (ds ++ change at n ∷ [])) es h in
    let two = step (namespace d) (checked_change ds) one.0 one.1 in
    let three = step (tested false (is_full_for two.0.name ds) two.0) (λ n. continued (relations_of n.name ds) n) one.0 two.2 in
    let first : two.0 ≡ three.0 = (passed false (is_full_for two.0.name ds) two.0 three.0 three.1).same in
    let second : three.0 ≡ one.0 = continued_same (relations_of three.0.name ds) three.0 one.0 three.2 in
    let are : ds ++ change at one.0 ∷ [] ≡ es = (let e : Ok (ds ++ change at one.0 ∷ []) ≡ Ok es = one.2 in cc) in
    (change at one.0, sym are, named_by d two.0 two.1 ∙ ap (λ (m : Namespace). Some m.name) (first ∙ second))

pub after_change : (ds es : List Declaration) (at : ℕ) (d : Data) → rules_change ds at d ≡ Ok es → AreUnbroken ds → IsDeclaredLast es d
after_change ds es at d h unbroken =
    let is = change_made ds es at d h in
    record { before = ds; last = is.0; are = is.1; named = is.2; unbroken = unbroken }

-- and over the tuples before it
pub over_change : (ds es : List Declaration) (at : ℕ) (d : Data) (ts : List TupleValue) (q : List ℕ) (has_more : Bool) → rules_change ds at d ≡ Ok es → IsWellFormed es
    → q ≡ unwrap_or (text_at (codes "name") d) [] → (has_more ≡ false → relation_count q es ≡ relation_count q ds)
    → first_broken ds (edges_of_tuples ds ts) ≡ Ok (tt {0}) → IsDeclaredOver es q has_more ts
over_change ds es at d ts q has_more h w name count none =
    let is = change_made ds es at d h in
    record {
      well_formed = w;
      before = ds;
      again = record { last = is.0; are = is.1; named = sym (name ∙ ap (λ (o : Option (List ℕ)). unwrap_or o []) is.2); count = count };
      unbroken = none;
    }

-- and the index before a value declared a namespace
pub index_before : (ds es : List Declaration) (q : List ℕ) (count : ℕ) (index : EdgeIndex) (ts : List TupleValue) (d : Data) → (last : Declaration) × (es ≡ ds ++ last ∷ []) × (text_at (codes "name") d ≡ Some last.name)
    → IsWellFormed es → q ≡ unwrap_or (text_at (codes "name") d) [] → count ≡ relation_count q ds → IsIndex ds index ts → IsIndexBefore es q count index ts
index_before ds es q count index ts d is w name known was = record {
  well_formed = w;
  before = ds;
  last = is.0;
  are = is.1;
  named = sym (name ∙ ap (λ (o : Option (List ℕ)). unwrap_or o []) is.2);
  known = known;
  was = was;
}

-- counts that do not differ
pub same_count : (m n now was : ℕ) → m ≡ now → n ≡ was → not (m == n) ≡ false → now ≡ was
same_count m n now was is had h = sym is ∙ grind (arith, nat_tests) ∙ had

-- what a value gives in place of nothing, shown
pub shown_or : {A B : Type 0} (f : A → B) (o : Option A) (e : A) → f (unwrap_or o e) ≡ unwrap_or (option_map f o) (f e)
shown_or f None e = refl
shown_or f (Some a) e = refl
