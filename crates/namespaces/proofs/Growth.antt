-- One declaration more, and the rules are as they must be.
use Rattle.std.proofs.Common.{◌≡◌, ℕ, suc, ◌+◌, ◌<◌, ◌≤◌, nat_lt, nat_le, Bool, true, false, not, ◌&&◌, ◌||◌, cond, List, [], ◌∷◌, ◌++◌, length, is_some, All, ◌⊎◌, inl, inr, Option, None, Some, Result, Ok, Err, refl, subst, sym, ◌∙◌, length-append, arith}
use Rattle.std.proofs.lemmas.Bool.{not-false}
use Rattle.std.proofs.lemmas.Bool.Decides.{nat_tests}
use Rattle.std.proofs.lemmas.List.Sums.{sum_by-append}
use Rattle.std.proofs.lemmas.List.Elements.{All-push}
use Rattle.std.specs.Result.{OnOk, OnErr}
use Rattle.std.specs.Str.{bytes_eq}
use Rattle.std.specs.Option.{option_or}
use Rattle.std.specs.List.{AllByRecursion, list_any, list_all}
use Rattle.serde_json.specs.Data.{Data}
use Rattle.namespaces.specs.declared.fault.RulesFault.{RulesFault}
use Rattle.namespaces.specs.declared.fault.RulesFault.TheVariants.{Name, RepeatedNamespace, RepeatedRelation, UndeclaredRelation, TooDeep, TooMany, RelationsChanged, StratumChanged}
use Rattle.refusals.specs.Refusals.{◌>>=◌}
use Rattle.namespaces.specs.Declaration.{Relation, Namespace, Declaration, addition, change}
use Rattle.namespaces.specs.Lookup.{relations_of, relation_names, with_name, names_after, namespace_names}
use Rattle.rewrites.specs.Expression.{counts_fit}
use Rattle.namespaces.specs.Adding.{namespace, is_well_named, has_repeats, reads_declared, is_too_deep, is_over_limits, tested, is_declared, is_full, checked_addition, added, rules_add}
use Rattle.tuple_text.specs.Forms.{is_name}
use Rattle.namespaces.specs.Changing.{keeps_names, keeps_strata, continued, change_count, is_full_for, checked_change, changed, rules_change, IsLater}
use Rattle.namespaces.specs.WellFormed.{Continues, AreContinued, IsFit, IsWellFormed}
use Rattle.rewrites.proofs.Names.{by_bool, clash, same_name, one_name, list_any-append}
use Rattle.namespaces.proofs.Repeats.{has_repeats-with_name}
use Rattle.namespaces.proofs.Kept.{keeps_names-through, keeps_strata-through}
use Rattle.namespaces.proofs.Times.{IsKeptIn, newest_keeps}

-- ---- what the tests tell

-- what a namespace that passed `tested` is
pub record HasPassed (repeated full : Bool) (new got : Namespace) : Type 0 where
  pub same : new ≡ got
  pub first : repeated ≡ false
  pub distinct : has_repeats (relation_names new.relations) ≡ false
  pub room : full ≡ false
  pub count : length new.relations ≤ 256
  pub reads : list_all (reads_declared new.relations) new.relations ≡ true

chain : (a b c d e f : Bool) (n m : Namespace)
    → cond a (Err Name) (cond b (Err RepeatedNamespace) (cond c (Err RepeatedRelation) (cond d (Err UndeclaredRelation) (cond e (Err TooDeep) (cond f (Err TooMany) (Ok n)))))) ≡ Ok m
    → (b ≡ false) × (c ≡ false) × (f ≡ false) × (n ≡ m) × (d ≡ false)
chain true b c d e f n m h = cc
chain false true c d e f n m h = cc
chain false false true d e f n m h = cc
chain false false false true e f n m h = cc
chain false false false false true f n m h = cc
chain false false false false false true n m h = cc
chain false false false false false false n m h = (refl, refl, refl, cc, refl)

first_false : (a b c : Bool) → ((a || b) || c) ≡ false → (a ≡ false) × (b ≡ false)
first_false true b c h = cc
first_false false true c h = cc
first_false false false c h = (refl, refl)

within : (full : Bool) (rs : List Relation) → is_over_limits full rs ≡ false → (full ≡ false) × (length rs ≤ 256)
unfolding is_over_limits
within full rs h =
    let parts = first_false full (not (nat_le (length rs) 256)) (not (list_all (λ r. counts_fit r.expression) rs)) h in
    let small : not (nat_le (length rs) 256) ≡ false = parts.1 in
    (parts.0, grind (arith, nat_tests))

pub passed : (repeated full : Bool) (new got : Namespace) → tested repeated full new ≡ Ok got → HasPassed repeated full new got
unfolding tested
passed repeated full new got h =
    let parts = chain (not (is_name new.name && list_all is_well_named new.relations)) repeated (has_repeats (relation_names new.relations))
    (not (list_all (reads_declared new.relations) new.relations)) (list_any is_too_deep new.relations) (is_over_limits full new.relations) new got h in
    let limits = within full new.relations parts.2 in
    record { same = parts.3; first = parts.0; distinct = parts.1; room = limits.0; count = limits.1; reads = not-false (list_all (reads_declared new.relations) new.relations) parts.4 }

-- ---- the names of the namespaces

pub names_after-push : (names : List (List ℕ)) (ds : List Declaration) (d : Declaration) → names_after names (ds ++ d ∷ []) ≡ with_name (names_after names ds) d.name
names_after-push names [] d = refl
names_after-push names (c ∷ ds) d = names_after-push (with_name names c.name) ds d

length-with_name : (names : List (List ℕ)) (q : List ℕ) → length (with_name names q) ≤ length names + 1
length-with_name names q = by_bool (list_any (bytes_eq q) names) (λ t. rw t (omega arith)) (λ f. rw (f, length-append names (q ∷ [])) (omega arith))

or_last : (a b c : Bool) → ((a || b) || c) ≡ (a || (c || b))
or_last true b c = refl
or_last false true true = refl
or_last false true false = refl
or_last false false true = refl
or_last false false false = refl

or_none : (b : Bool) → (b || false) ≡ b
or_none true = refl
or_none false = refl

any-with_name : (names : List (List ℕ)) (q n : List ℕ) → list_any (bytes_eq q) (with_name names n) ≡ (list_any (bytes_eq q) names || bytes_eq q n)
any-with_name names q n = by_bool (list_any (bytes_eq n) names)
    (λ t. rw t (by_bool (bytes_eq q n) (λ u. rw (one_name q n u, same_name n, t) refl) (λ u. rw (u, or_none (list_any (bytes_eq q) names)) refl)))
    (λ f. rw (f, list_any-append (bytes_eq q) names (n ∷ []), or_none (bytes_eq q n)) refl)

some_or : (o : Option (List Relation)) (b : Bool) (rs : List Relation) → is_some (option_or o (cond b (Some rs) None)) ≡ (is_some o || b)
some_or None true rs = refl
some_or None false rs = refl
some_or (Some x) b rs = refl

names_declared : (q : List ℕ) (names : List (List ℕ)) (ds : List Declaration) → list_any (bytes_eq q) (names_after names ds) ≡ (list_any (bytes_eq q) names || is_declared q ds)
names_declared q names [] = sym (or_none (list_any (bytes_eq q) names))
names_declared q names (d ∷ ds) =
    names_declared q (with_name names d.name) ds
    ∙ rw (any-with_name names q d.name, some_or (relations_of q ds) (bytes_eq q d.name) d.relations) (or_last (list_any (bytes_eq q) names) (bytes_eq q d.name) (is_declared q ds))

-- the names are those of the namespaces that are declared
pub is_declared-names : (q : List ℕ) (ds : List Declaration) → list_any (bytes_eq q) (namespace_names ds) ≡ is_declared q ds
is_declared-names q ds = names_declared q [] ds

-- ---- one more

pub change_count-push : (ds : List Declaration) (d : Declaration) → change_count (ds ++ d ∷ []) ≡ change_count ds + cond d.is_change 1 0
change_count-push ds d = sum_by-append (λ (c : Declaration). cond c.is_change 1 0) ds (d ∷ []) ∙ let e : 0 + cond d.is_change 1 0 ≡ cond d.is_change 1 0 = omega arith in rw e refl

pub each_push : (P : Declaration → Type 0) (ds : List Declaration) (d : Declaration) → AllByRecursion P ds → P d → AllByRecursion P (ds ++ d ∷ [])
each_push P [] d all p = (p, tt)
each_push P (c ∷ ds) d all p = (all.0, each_push P ds d all.1 p)

continued_push : (ds : List Declaration) (d : Declaration) → AreContinued ds → AllByRecursion (λ e. e.name ≡ d.name → Continues e d) ds → AreContinued (ds ++ d ∷ [])
continued_push [] d all next = (tt, tt)
continued_push (c ∷ ds) d all next = (each_push (λ e. c.name ≡ e.name → Continues c e) ds d all.0 next.0, continued_push ds d all.1 next.1)

-- what one more declaration has to meet
pub record IsNext (d : Declaration) (ds : List Declaration) : Type 0 where
  pub fit : IsFit d
  pub room : is_declared d.name ds ≡ true ⊎ is_full ds ≡ false
  pub changes : d.is_change ≡ true → change_count ds < 4096
  pub continued : AllByRecursion (λ e. e.name ≡ d.name → Continues e d) ds

names_room : (ds : List Declaration) (q : List ℕ) → length (namespace_names ds) ≤ 256 → (is_declared q ds ≡ true ⊎ is_full ds ≡ false) → length (with_name (namespace_names ds) q) ≤ 256
names_room ds q few (inl t) = rw (is_declared-names q ds ∙ t) few
names_room ds q few (inr f) =
    let free : not (nat_lt (length (namespace_names ds)) 256) ≡ false = f in
    let less : length (namespace_names ds) < 256 = grind (arith, nat_tests) in
    omega (arith, length-with_name (namespace_names ds) q)

change_room : (b : Bool) (n : ℕ) → n ≤ 4096 → (b ≡ true → n < 4096) → n + cond b 1 0 ≤ 4096
change_room true n few less = let h = less refl in omega arith
change_room false n few less = omega arith

pub grown : (ds : List Declaration) (d : Declaration) → IsWellFormed ds → IsNext d ds → IsWellFormed (ds ++ d ∷ [])
grown ds d w next = record {
  namespaces = rw (names_after-push [] ds d) (names_room ds d.name w.namespaces next.room);
  distinct = rw (names_after-push [] ds d) (has_repeats-with_name (namespace_names ds) d.name w.distinct);
  fit = each_push IsFit ds d w.fit next.fit;
  changes = rw (change_count-push ds d) (change_room d.is_change (change_count ds) w.changes next.changes);
  continued = continued_push ds d w.continued next.continued;
}

-- ---- an addition

unnamed_step : (o : Option (List Relation)) (b : Bool) (rs : List Relation) → is_some (option_or o (cond b (Some rs) None)) ≡ false → (is_some o ≡ false) × (b ≡ false)
unnamed_step None true rs h = cc
unnamed_step None false rs h = (refl, refl)
unnamed_step (Some x) b rs h = cc

-- of a namespace that is not declared there is nothing to continue
none_to_continue : (d : Declaration) (ds : List Declaration) → is_declared d.name ds ≡ false → AllByRecursion (λ e. e.name ≡ d.name → Continues e d) ds
none_to_continue d [] h = tt
none_to_continue d (e ∷ ds) h =
    let parts = unnamed_step (relations_of d.name ds) (bytes_eq d.name e.name) e.relations h in
    (λ same. clash (bytes_eq d.name e.name) (rw same (same_name d.name)) parts.1, none_to_continue d ds parts.0)

added_well : (ds : List Declaration) (new got : Namespace) → IsWellFormed ds → checked_addition ds new ≡ Ok got → IsWellFormed (ds ++ addition got ∷ [])
added_well ds new got w h =
    let p = passed (is_declared new.name ds) (is_full ds) new got h in
    rw (← p.same) (grown ds (addition new) w (record {
      fit = record { distinct = p.distinct; count = p.count; reads = p.reads; at = λ _. refl };
      room = inr p.room;
      changes = λ h. cc;
      continued = none_to_continue (addition new) ds p.first;
    }))

-- ---- a change

-- what a namespace that passed `continued` keeps
keeps : (old : List Relation) (new got : Namespace) → continued (Some old) new ≡ Ok got → (keeps_names old new.relations ≡ true) × (keeps_strata old new.relations ≡ true) × (new ≡ got)
unfolding continued
keeps old new got h = by (keeps_names old new.relations) (keeps_strata old new.relations) h
  where
    by : (a b : Bool) → cond (not a) (Err RelationsChanged) (cond (not b) (Err StratumChanged) (Ok new)) ≡ Ok got → (a ≡ true) × (b ≡ true) × (new ≡ got)
    by true true h = (refl, refl, cc)
    by true false h = cc
    by false b h = cc

kept_new : (new got : Namespace) → continued None new ≡ Ok got → new ≡ got
unfolding continued
kept_new new got h = cc

each_by_recursion : (P : Declaration → Type 0) (ds : List Declaration) → All P ds → AllByRecursion P ds
each_by_recursion P [] all = tt
each_by_recursion P (d ∷ ds) all = (all 0 d (omega arith), each_by_recursion P ds (λ k e h. all (suc k) e (omega arith)))

not_later : (b : Bool) (n at : ℕ) → (b ≡ false → n ≡ 0) → (b ≡ true → n < at) → n ≤ at
not_later true n at first later = let h = later refl in omega arith
not_later false n at first later = let h = first refl in omega arith

-- no declaration is in force only after a timestamp
none_later : (at : ℕ) (ds : List Declaration) → AllByRecursion IsFit ds → AllByRecursion (λ e. e.is_change ≡ true → e.at < at) ds → AllByRecursion (λ e. e.at ≤ at) ds
none_later at [] fit later = tt
none_later at (d ∷ ds) fit later = (not_later d.is_change d.at at fit.0.at later.0, none_later at ds fit.1 later.1)

-- it continues each declaration of its namespace, where it keeps what the last one has
next_change : (d : Declaration) (old : List Relation) (ds : List Declaration) → keeps_names old d.relations ≡ true → keeps_strata old d.relations ≡ true
    → AllByRecursion (λ e. bytes_eq d.name e.name ≡ true → IsKeptIn old e) ds → AllByRecursion (λ e. e.at ≤ d.at) ds
    → AllByRecursion (λ e. e.name ≡ d.name → Continues e d) ds
next_change d old [] names strata kept before = tt
next_change d old (e ∷ ds) names strata kept before = (
  λ same.
      let k = kept.0 (rw same (same_name d.name)) in
      record {
        names = keeps_names-through e.relations old d.relations k.names names;
        strata = keeps_strata-through e.relations old d.relations k.names k.strata strata;
        at = before.0;
      },
  next_change d old ds names strata kept.1 before.1,
)

full_parts : (a b c : Bool) → (a || (not b && c)) ≡ false → (a ≡ false) × (b ≡ true ⊎ c ≡ false)
full_parts true b c h = cc
full_parts false true c h = (refl, inl refl)
full_parts false false c h = (refl, inr h)

one_change : (ds : List Declaration) (at : ℕ) (new got : Namespace) → IsWellFormed ds → HasPassed false (is_full_for new.name ds) new got → AllByRecursion (λ e. e.name ≡ new.name → Continues e (change at new)) ds
    → IsWellFormed (ds ++ change at new ∷ [])
one_change ds at new got w p continues =
    let parts = full_parts (not (nat_lt (change_count ds) 4096)) (is_declared new.name ds) (is_full ds) p.room in
    let few : not (nat_lt (change_count ds) 4096) ≡ false = parts.0 in
    grown ds (change at new) w (record {
      fit = record { distinct = p.distinct; count = p.count; reads = p.reads; at = λ h. cc };
      room = parts.1;
      changes = λ h. grind (arith, nat_tests);
      continued = continues;
    })

bound : {A B : Type 0} (r : Result A RulesFault) (f : A → Result B RulesFault) (y : B) → (r >>= f) ≡ Ok y → (x : A) × (r ≡ Ok x) × (f x ≡ Ok y)
bound (Ok x) f y h = (x, refl, h)
bound (Err e) f y h = cc

by_last : (ds : List Declaration) (at : ℕ) (new tried got : Namespace) (o : Option (List Relation)) → IsWellFormed ds → AllByRecursion (λ e. e.at ≤ at) ds → HasPassed false (is_full_for new.name ds) new tried
    → relations_of new.name ds ≡ o → continued o new ≡ Ok got → IsWellFormed (ds ++ change at got ∷ [])
by_last ds at new tried got None w later p found h = rw (← kept_new new got h) (one_change ds at new tried w p (none_to_continue (change at new) ds (rw found refl)))
by_last ds at new tried got (Some old) w later p found h =
    let k = keeps old new got h in
    rw (← k.2) (one_change ds at new tried w p (next_change (change at new) old ds k.0 k.1 (newest_keeps new.name old ds w.continued found) later))

changed_well : (ds : List Declaration) (at : ℕ) (new got : Namespace) → IsWellFormed ds → AllByRecursion (λ e. e.at ≤ at) ds → checked_change ds new ≡ Ok got → IsWellFormed (ds ++ change at got ∷ [])
changed_well ds at new got w later h =
    let b = bound (tested false (is_full_for new.name ds) new) (λ n. continued (relations_of n.name ds) n) got h in
    let p = passed false (is_full_for new.name ds) new b.0 b.1 in
    by_last ds at new b.0 got (relations_of new.name ds) w later p refl (rw (← p.same) at b.2)

-- what `add` and `change` make of a value
pub added_grows : (ds : List Declaration) (d : Data) (got : Namespace) → IsWellFormed ds → added ds d ≡ Ok got → IsWellFormed (ds ++ addition got ∷ [])
added_grows ds d got w h = let b = bound (namespace d) (checked_addition ds) got h in added_well ds b.0 got w b.2

pub changed_grows_from : (ds : List Declaration) (at : ℕ) (d : Data) (got : Namespace) → IsWellFormed ds → AllByRecursion (λ e. e.at ≤ at) ds → changed ds d ≡ Ok got → IsWellFormed (ds ++ change at got ∷ [])
changed_grows_from ds at d got w later h = let b = bound (namespace d) (checked_change ds) got h in changed_well ds at b.0 got w later b.2

pub changed_grows : (ds : List Declaration) (at : ℕ) (d : Data) (got : Namespace) → IsWellFormed ds → IsLater at ds → changed ds d ≡ Ok got → IsWellFormed (ds ++ change at got ∷ [])
changed_grows ds at d got w later h =
    changed_grows_from ds at d got w (none_later at ds w.fit (each_by_recursion (λ e. e.is_change ≡ true → e.at < at) ds later)) h

pub well_formed_add : (ds : List Declaration) (d : Data) (es : List Declaration) → IsWellFormed ds → rules_add ds d ≡ Ok es → IsWellFormed es
well_formed_add ds d es w h = by (added ds d) refl h
  where
    by : (o : Result Namespace RulesFault) → added ds d ≡ o → (o >>= λ n. Ok (ds ++ addition n ∷ [])) ≡ Ok es → IsWellFormed es
    by (Err e) is g = cc
    by (Ok n) is g = let same : ds ++ addition n ∷ [] ≡ es = cc in subst IsWellFormed same (added_grows ds d n w is)

pub well_formed_change : (ds : List Declaration) (at : ℕ) (d : Data) (es : List Declaration) → IsWellFormed ds → IsLater at ds → rules_change ds at d ≡ Ok es → IsWellFormed es
well_formed_change ds at d es w later h = by (changed ds d) refl h
  where
    by : (o : Result Namespace RulesFault) → changed ds d ≡ o → (o >>= λ n. Ok (ds ++ change at n ∷ [])) ≡ Ok es → IsWellFormed es
    by (Err e) is g = cc
    by (Ok n) is g = let same : ds ++ change at n ∷ [] ≡ es = cc in subst IsWellFormed same (changed_grows ds at d n w later is)

-- ---- timestamps

after_push : (r : Result (Unit {0}) RulesFault) (at : ℕ) (ds cs : List Declaration) (d : Declaration) → OnOk r (cs ≡ ds ++ d ∷ []) → OnErr r (cs ≡ ds) → IsLater at ds → (d.is_change ≡ true → d.at < at) → IsLater at cs
after_push (Ok u) at ds cs d more same later new = rw more (All-push (λ e. e.is_change ≡ true → e.at < at) ds d later new)
after_push (Err e) at ds cs d more same later new = rw same later

-- an addition is no change
pub later_added : (r : Result (Unit {0}) RulesFault) (at : ℕ) (ds cs : List Declaration) (n : Namespace) → OnOk r (cs ≡ ds ++ addition n ∷ []) → OnErr r (cs ≡ ds) → IsLater at ds → IsLater at cs
later_added r at ds cs n more same later = after_push r at ds cs (addition n) more same later (λ h. cc)

pub later_on : (at next : ℕ) (ds : List Declaration) → IsLater at ds → at < next → IsLater next ds
later_on at next ds later h k d within change = let before = later k d within change in omega arith

pub later_changed : (r : Result (Unit {0}) RulesFault) (at next : ℕ) (ds cs : List Declaration) (n : Namespace) → OnOk r (cs ≡ ds ++ change at n ∷ []) → OnErr r (cs ≡ ds) → IsLater at ds → at < next → IsLater next cs
later_changed r at next ds cs n more same later h = after_push r next ds cs (change at n) more same (later_on at next ds later h) (λ e. h)
