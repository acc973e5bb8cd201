-- The revisions of a namespace beside its declarations.
use Rattle.std.proofs.Common.{◌≡◌, ℕ, zero, suc, ◌+◌, ◌-◌, nat_le, Bool, true, ◌&&◌, cond, List, [], ◌∷◌, ◌++◌, length, slice_get, filter, Option, None, Some, option_map, option_and_then, refl, sym, ap, ◌∙◌, append_assoc, length-append, arith}
use Rattle.std.specs.Str.{bytes_eq}
use Rattle.std.specs.Option.{option_or}
use Rattle.std.specs.List.{last_or}
use Rattle.namespaces.specs.Declaration.{Relation, Declaration}
use Rattle.namespaces.specs.Lookup.{relations_of}
use Rattle.namespaces.specs.Index.{revisions_from, revisions_of, relations_at}
use Rattle.namespaces.specs.declared.index.Revision.{Revision}
use Rattle.rewrites.proofs.Names.{by_bool}

-- the declarations of a namespace that pass a test of their timestamp and their number of relations
abbrev pub picked : (ℕ → ℕ → Bool) → List ℕ → List Declaration → List Declaration
picked p q ds = filter (λ d. bytes_eq q d.name && p d.at (length d.relations)) ds

-- the revisions that pass it
abbrev pub passing : (ℕ → ℕ → Bool) → List Revision → List Revision
passing p vs = filter (λ v. p v.at v.relations) vs

slice_get-middle : {X : Type 0} (xs : List X) (y : X) (ys : List X) → Some y ≡ slice_get (xs ++ y ∷ ys) (length xs)
slice_get-middle [] y ys = refl
slice_get-middle (x ∷ xs) y ys = slice_get-middle xs y ys

-- each revision leads to its declaration
lead : (p : ℕ → ℕ → Bool) (q : List ℕ) (front ds : List Declaration) (j : ℕ)
    → slice_get (picked p q ds) j ≡ option_and_then (λ v. slice_get (front ++ ds) v.line) (slice_get (passing p (revisions_from (length front) q ds)) j)
lead p q front [] j = refl
lead p q front (d ∷ ds) zero =
    let later : slice_get (picked p q ds) 0 ≡ option_and_then (λ v. slice_get (front ++ d ∷ ds) v.line) (slice_get (passing p (revisions_from (length front + 1) q ds)) 0)
    = rw (append_assoc front (d ∷ []) ds, length-append front (d ∷ [])) at (lead p q (front ++ d ∷ []) ds 0) in
    by_bool (bytes_eq q d.name)
    (λ t. rw t (by_bool (p d.at (length d.relations)) (λ u. rw u (slice_get-middle front d ds)) (λ u. rw u later)))
    (λ f. rw f later)
lead p q front (d ∷ ds) (suc j) =
    let next : (k : ℕ) → slice_get (picked p q ds) k ≡ option_and_then (λ v. slice_get (front ++ d ∷ ds) v.line) (slice_get (passing p (revisions_from (length front + 1) q ds)) k)
    = λ k. rw (append_assoc front (d ∷ []) ds, length-append front (d ∷ [])) at (lead p q (front ++ d ∷ []) ds k) in
    by_bool (bytes_eq q d.name)
    (λ t. rw t (by_bool (p d.at (length d.relations)) (λ u. rw u (next j)) (λ u. rw u (next (suc j)))))
    (λ f. rw f (next (suc j)))

pub revisions_lead : (p : ℕ → ℕ → Bool) (q : List ℕ) (ds : List Declaration) (j : ℕ)
    → slice_get (picked p q ds) j ≡ option_and_then (λ v. slice_get ds v.line) (slice_get (passing p (revisions_of q ds)) j)
revisions_lead p q ds j = lead p q [] ds j

-- they are as many
as_many : (p : ℕ → ℕ → Bool) (q : List ℕ) (line : ℕ) (ds : List Declaration) → length (picked p q ds) ≡ length (passing p (revisions_from line q ds))
as_many p q line [] = refl
as_many p q line (d ∷ ds) =
    let later = as_many p q (line + 1) ds in
    by_bool (bytes_eq q d.name)
    (λ t. rw t (by_bool (p d.at (length d.relations)) (λ u. rw u (ap suc later)) (λ u. rw u later)))
    (λ f. rw f later)

-- ---- the last one

or_or : {X : Type 0} (o : Option X) (x y : X) → option_or (option_or o (Some y)) (Some x) ≡ option_or o (Some y)
or_or None x y = refl
or_or (Some z) x y = refl

last_or-or : {X : Type 0} (xs : List X) (x : X) → last_or (Some x) xs ≡ option_or (last_or None xs) (Some x)
last_or-or [] x = refl
last_or-or (y ∷ ys) x = rw (last_or-or ys y) (sym (or_or (last_or None ys) x y))

last_or-get : {X : Type 0} (o : Option X) (x : X) (xs : List X) → last_or o (x ∷ xs) ≡ slice_get (x ∷ xs) (length xs)
last_or-get o x [] = refl
last_or-get o x (y ∷ ys) = last_or-get (Some x) y ys

pub last_or-slice_get : {X : Type 0} (xs : List X) → last_or None xs ≡ slice_get xs (length xs - 1)
last_or-slice_get [] = refl
last_or-slice_get (x ∷ xs) = let e : length (x ∷ xs) - 1 ≡ length xs = omega arith in rw e (last_or-get None x xs)

map-or : {X Y : Type 0} (f : X → Y) (o : Option X) (x : X) → option_map f (option_or o (Some x)) ≡ option_or (option_map f o) (Some (f x))
map-or f None x = refl
map-or f (Some y) x = refl

or-none : {X : Type 0} (o : Option X) → option_or o None ≡ o
or-none None = refl
or-none (Some x) = refl

map-then : {X Y Z : Type 0} (f : Y → Z) (g : X → Option Y) (o : Option X) → option_map f (option_and_then g o) ≡ option_and_then (λ x. option_map f (g x)) o
map-then f g None = refl
map-then f g (Some x) = refl

-- a search for the last that passes
module _ (F : List Declaration → Option (List Relation)) (test : Declaration → Bool) (none : F [] ≡ None)
    (more : (d : Declaration) (ds : List Declaration) → F (d ∷ ds) ≡ option_or (F ds) (cond (test d) (Some d.relations) None)) where
  last_passing : (ds : List Declaration) → F ds ≡ option_map (λ d. d.relations) (last_or None (filter test ds))
  last_passing [] = none
  last_passing (d ∷ ds) = more d ds ∙ rw (last_passing ds) (by_bool (test d)
      (λ t. rw (t, last_or-or (filter test ds) d) (sym (map-or (λ c. c.relations) (last_or None (filter test ds)) d)))
      (λ f. rw f (or-none (option_map (λ c. c.relations) (last_or None (filter test ds))))))

last_led : (p : ℕ → ℕ → Bool) (q : List ℕ) (ds : List Declaration)
    → option_map (λ d. d.relations) (last_or None (picked p q ds)) ≡ option_and_then (λ v. option_map (λ d. d.relations) (slice_get ds v.line)) (last_or None (passing p (revisions_of q ds)))
last_led p q ds =
    rw (last_or-slice_get (picked p q ds), last_or-slice_get (passing p (revisions_of q ds)), as_many p q 0 ds, revisions_lead p q ds (length (passing p (revisions_of q ds)) - 1))
    (map-then (λ (d : Declaration). d.relations) (λ (v : Revision). slice_get ds v.line) (slice_get (passing p (revisions_of q ds)) (length (passing p (revisions_of q ds)) - 1)))

filter-all : (vs : List Revision) → passing (λ a n. true) vs ≡ vs
filter-all [] = refl
filter-all (v ∷ vs) = ap (λ r. v ∷ r) (filter-all vs)

-- the relations of a namespace are those to which its last revision leads
pub relations_of-revisions : (q : List ℕ) (ds : List Declaration)
    → relations_of q ds ≡ option_and_then (λ v. option_map (λ d. d.relations) (slice_get ds v.line)) (last_or None (revisions_of q ds))
relations_of-revisions q ds =
    let test : Declaration → Bool = λ d. bytes_eq q d.name && true in
    last_passing (relations_of q) test refl (λ d cs. by_bool (bytes_eq q d.name) (λ t. rw t refl) (λ f. rw f refl)) ds
    ∙ (rw (filter-all (revisions_of q ds)) at (last_led (λ a n. true) q ds))

-- those in force at a timestamp are those to which its last revision by then leads
pub relations_at-revisions : (at : ℕ) (q : List ℕ) (ds : List Declaration)
    → relations_at at q ds ≡ option_and_then (λ v. option_map (λ d. d.relations) (slice_get ds v.line)) (last_or None (filter (λ v. nat_le v.at at) (revisions_of q ds)))
relations_at-revisions at q ds =
    last_passing (relations_at at q) (λ d. bytes_eq q d.name && nat_le d.at at) refl (λ d cs. refl) ds
    ∙ last_led (λ a n. nat_le a at) q ds
