-- The index beside the declarations that it leads to.
use Rattle.std.proofs.Common.{◌≡◌, ℕ, zero, suc, ◌+◌, Bool, true, false, cond, List, [], ◌∷◌, ◌++◌, map, length, get_or, slice_get, position, not, ◌<◌, Option, None, Some, option_map, String, Global, string_bytes, refl, sym, ap, ◌∙◌, append_assoc, append-nil, arith}
use Rattle.std.specs.Global.{Vec}
use Rattle.std.specs.Str.{bytes_eq}
use Rattle.std.specs.List.{list_any, prefix_len}
use Rattle.std.proofs.lemmas.List.Quantifiers.{position-Some}
use Rattle.std.specs.Map.{lookup, keys_of}
use Rattle.names.specs.Names.{place_of, with_value}
use Rattle.namespaces.specs.Declaration.{Declaration}
use Rattle.namespaces.specs.Lookup.{with_name, names_after, namespace_names}
use Rattle.namespaces.specs.Index.{Index, show_index, revision, with_revision, with_revision_at, index_after, index_of, revisions_from, revisions_of, unless_empty}
use Rattle.namespaces.specs.declared.index.Revision.{Revision}
use Rattle.rewrites.proofs.Names.{by_bool, clash, one_name}
use Rattle.namespaces.proofs.Tables.{is_text}

abbrev pub IndexEntry : Type 0
IndexEntry = String Global × Vec Revision

-- ---- what is looked up

-- what was found, and more behind it
abbrev appended : {X : Type 0} → Option (List X) → List X → Option (List X)
appended None ys = unless_empty ys
appended (Some xs) ys = Some (xs ++ ys)

appended-appended : {X : Type 0} (o : Option (List X)) (x : X) (ys : List X) → appended (appended o (x ∷ [])) ys ≡ appended o (x ∷ ys)
appended-appended None x ys = refl
appended-appended (Some xs) x ys = ap Some (append_assoc xs (x ∷ []) ys)

appended-nil : {X : Type 0} (o : Option (List X)) → o ≡ appended o []
appended-nil None = refl
appended-nil (Some xs) = ap Some (sym (append-nil xs))

lookup-with_revision : (q n : List ℕ) (v : Revision) (es : Index)
    → lookup (bytes_eq q) (with_revision n v es) ≡ cond (bytes_eq q n) (appended (lookup (bytes_eq q) es) (v ∷ [])) (lookup (bytes_eq q) es)
lookup-with_revision q n v [] = refl
lookup-with_revision q n v (e ∷ es) = by_bool (bytes_eq n e.0)
    (λ t. rw (t, one_name n e.0 t) (by_bool (bytes_eq q e.0) (λ u. rw u refl) (λ u. rw u refl)))
    (λ f. rw f (by_bool (bytes_eq q e.0)
    (λ u. by_bool (bytes_eq q n) (λ w. clash (bytes_eq n e.0) (rw (← one_name q n w) u) f) (λ w. rw (u, w) refl))
    (λ u. rw u (lookup-with_revision q n v es))))

lookup-index_after : (q : List ℕ) (es : Index) (line : ℕ) (ds : List Declaration)
    → lookup (bytes_eq q) (index_after es line ds) ≡ appended (lookup (bytes_eq q) es) (revisions_from line q ds)
lookup-index_after q es line [] = appended-nil (lookup (bytes_eq q) es)
lookup-index_after q es line (d ∷ ds) =
    lookup-index_after q (with_revision d.name (revision line d) es) (line + 1) ds
    ∙ rw (lookup-with_revision q d.name (revision line d) es)
    (by_bool (bytes_eq q d.name) (λ t. rw t (appended-appended (lookup (bytes_eq q) es) (revision line d) (revisions_from (line + 1) q ds))) (λ f. rw f refl))

pub lookup-index_of : (q : List ℕ) (ds : List Declaration) → lookup (bytes_eq q) (index_of ds) ≡ unless_empty (revisions_of q ds)
lookup-index_of q ds = lookup-index_after q [] 0 ds

pub lookup-show_index : (q : List ℕ) (es : List IndexEntry) → lookup (bytes_eq q) (show_index es) ≡ option_map (λ v. v.items) (lookup (is_text q) es)
lookup-show_index q [] = refl
lookup-show_index q (e ∷ es) = by_bool (is_text q e.0) (λ t. rw t refl) (λ f. rw f (lookup-show_index q es))

-- ---- the names in order

names-with_revision : (n : List ℕ) (v : Revision) (es : Index) → keys_of (with_revision n v es) ≡ with_name (keys_of es) n
names-with_revision n v [] = refl
names-with_revision n v (e ∷ es) = by_bool (bytes_eq n e.0) (λ t. rw t refl)
    (λ f. rw f (ap (λ ns. e.0 ∷ ns) (names-with_revision n v es) ∙ by_bool (list_any (bytes_eq n) (keys_of es)) (λ t. rw t refl) (λ g. rw g refl)))

names-index_after : (es : Index) (line : ℕ) (ds : List Declaration) → keys_of (index_after es line ds) ≡ names_after (keys_of es) ds
names-index_after es line [] = refl
names-index_after es line (d ∷ ds) = names-index_after (with_revision d.name (revision line d) es) (line + 1) ds ∙ ap (λ ns. names_after ns ds) (names-with_revision d.name (revision line d) es)

pub names-index_of : (ds : List Declaration) → keys_of (index_of ds) ≡ namespace_names ds
names-index_of ds = names-index_after [] 0 ds

pub names-show_index : (es : List IndexEntry) → keys_of (show_index es) ≡ map string_bytes (keys_of es)
names-show_index [] = refl
names-show_index (e ∷ es) = ap (λ ns. string_bytes e.0 ∷ ns) (names-show_index es)

-- ---- one more

-- a declaration behind the others
index_after-push : (es : Index) (line : ℕ) (ds : List Declaration) (d : Declaration)
    → index_after es line (ds ++ d ∷ []) ≡ with_revision d.name (revision (line + length ds) d) (index_after es line ds)
index_after-push es line [] d = let e : line + 0 ≡ line = omega arith in rw e refl
index_after-push es line (c ∷ ds) d =
    let e : line + length (c ∷ ds) ≡ line + 1 + length ds = omega arith in
    rw e (index_after-push (with_revision c.name (revision line c) es) (line + 1) ds d)

pub index_of-push : (ds : List Declaration) (d : Declaration) → index_of (ds ++ d ∷ []) ≡ with_revision d.name (revision (length ds) d) (index_of ds)
index_of-push ds d = let e : 0 + length ds ≡ length ds = omega arith in rw e at (index_after-push [] 0 ds d)

pub with_value-twice : {V : Type 0} (i : ℕ) (u w : V) (es : List (String Global × V)) → with_value i w (with_value i u es) ≡ with_value i w es
with_value-twice i u w [] = refl
with_value-twice zero u w (e ∷ es) = refl
with_value-twice (suc i) u w (e ∷ es) = ap (λ r. e ∷ r) (with_value-twice i u w es)

-- a revision behind the others of a namespace
show_index-set : (es : List IndexEntry) (i : ℕ) (was w : Vec Revision) (v : Revision) → option_map (λ e. e.1) (slice_get es i) ≡ Some was → w.items ≡ was.items ++ v ∷ []
    → show_index (with_value i w es) ≡ with_revision_at i v (show_index es)
show_index-set [] i was w v at more = cc
show_index-set (e ∷ es) zero was w v at more = let same : e.1 ≡ was = cc in rw (more, same) refl
show_index-set (e ∷ es) (suc i) was w v at more = ap (λ r. (string_bytes e.0, e.1.items) ∷ r) (show_index-set es i was w v at more)

-- the same revisions of a namespace
show_index-same : (es : List IndexEntry) (i : ℕ) (was w : Vec Revision) → option_map (λ e. e.1) (slice_get es i) ≡ Some was → w.items ≡ was.items → show_index (with_value i w es) ≡ show_index es
show_index-same [] i was w at same = cc
show_index-same (e ∷ es) zero was w at same = let here : e.1 ≡ was = cc in rw (same, here) refl
show_index-same (e ∷ es) (suc i) was w at same = ap (λ r. (string_bytes e.0, e.1.items) ∷ r) (show_index-same es i was w at same)

-- what was taken out of the table for a while, and put back
module _ (es : List IndexEntry) (i : ℕ) (none was w : Vec Revision) (taken : option_map (λ e. e.1) (slice_get es i) ≡ Some was) where
  pub put_back_more : (v : Revision) → w.items ≡ was.items ++ v ∷ [] → show_index (with_value i w (with_value i none es)) ≡ with_revision_at i v (show_index es)
  put_back_more v more = ap show_index (with_value-twice i none w es) ∙ show_index-set es i was w v taken more

  pub put_back : w.items ≡ was.items → show_index (with_value i w (with_value i none es)) ≡ show_index es
  put_back same = ap show_index (with_value-twice i none w es) ∙ show_index-same es i was w taken same

pub show_index-push : (es : List IndexEntry) (e : IndexEntry) → show_index (es ++ e ∷ []) ≡ show_index es ++ (string_bytes e.0, e.1.items) ∷ []
show_index-push [] e = refl
show_index-push (x ∷ es) e = ap (λ r. (string_bytes x.0, x.1.items) ∷ r) (show_index-push es e)

there_by_index : (n : List ℕ) (v : Revision) (es : Index) (i : ℕ) (d : List ℕ) → i < length (keys_of es) → bytes_eq n (get_or (keys_of es) i d) ≡ true
    → ((k : ℕ) → k < i → bytes_eq n (get_or (keys_of es) k d) ≡ false) → with_revision n v es ≡ with_revision_at i v es
there_by_index n v [] i d within here before = absurd (omega arith)
there_by_index n v (e ∷ es) zero d within here before = rw here refl
there_by_index n v (e ∷ es) (suc i) d within here before =
    rw (before 0 (omega arith)) (ap (λ r. e ∷ r) (there_by_index n v es i d (omega arith) here (λ k h. before (suc k) (omega arith))))

prefix_len-map : {X Y : Type 0} (p : Y → Bool) (f : X → Y) (xs : List X) → prefix_len p (map f xs) ≡ prefix_len (λ x. p (f x)) xs
prefix_len-map p f [] = refl
prefix_len-map p f (x ∷ xs) = ap (λ n. cond (p (f x)) (1 + n) 0) (prefix_len-map p f xs)

pub length-mapped : {X Y : Type 0} (f : X → Y) (xs : List X) → length (map f xs) ≡ length xs
length-mapped f [] = refl
length-mapped f (x ∷ xs) = ap suc (length-mapped f xs)

pub position-map : {X Y : Type 0} (p : Y → Bool) (f : X → Y) (xs : List X) → position p (map f xs) ≡ position (λ x. p (f x)) xs
position-map p f xs = rw (prefix_len-map (λ y. not (p y)) f xs, length-mapped f xs) refl

-- where the name stands first
pub with_revision-there : (n : List ℕ) (v : Revision) (es : List IndexEntry) (i : ℕ) → place_of n es ≡ Some i → with_revision n v (show_index es) ≡ with_revision_at i v (show_index es)
with_revision-there n v es i at =
    let shown : position (bytes_eq n) (keys_of (show_index es)) ≡ Some i = rw (names-show_index es) (position-map (bytes_eq n) string_bytes (keys_of es) ∙ position-map (is_text n) (λ (e : IndexEntry). e.0) es ∙ at) in
    let found = position-Some (bytes_eq n) (keys_of (show_index es)) i [] shown in
    there_by_index n v (show_index es) i [] found.0 found.1 found.2

new_by_lookup : (n : List ℕ) (v : Revision) (es : Index) → lookup (bytes_eq n) es ≡ None → with_revision n v es ≡ es ++ (n, v ∷ []) ∷ []
new_by_lookup n v [] none = refl
new_by_lookup n v (e ∷ es) none = by_bool (bytes_eq n e.0)
    (λ t. let some = rw t at none in cc)
    (λ f. rw f (ap (λ r. e ∷ r) (new_by_lookup n v es (rw f at none))))

-- where the name is new
pub with_revision-new : (n : List ℕ) (v : Revision) (es : List IndexEntry) → lookup (is_text n) es ≡ None → with_revision n v (show_index es) ≡ show_index es ++ (n, v ∷ []) ∷ []
with_revision-new n v es none = new_by_lookup n v (show_index es) (lookup-show_index n es ∙ rw none refl)
