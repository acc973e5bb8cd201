-- Touches that are compared.
use Rattle.std.proofs.Common.{◌≡◌, ℕ, zero, suc, ◌<◌, ◌≤◌, ◌&&◌, Bool, true, false, cond, eqb, leb, length, List, [], ◌∷◌, Some, None, refl, sym, ◌∙◌, ap, subst, arith}
use Rattle.std.specs.Prelude.{slice_get, filter}
use Rattle.std.proofs.lemmas.Bool.{eqb-true, not-true}
use Rattle.std.proofs.lemmas.Option.{slice_get_within}
use Rattle.tuple_text.specs.Order.{tuple_eq}
use Rattle.tuple_text.specs.Tuples.{TupleValue}
use Rattle.tuple_text.proofs.ValueLemmas.{tuple_eq-same}
use Rattle.version_chains.specs.Commits.{Commit, Touch, changelog, is_stored, last_live}
use Rattle.runs.specs.Alike.{flag_eq, touch_eq}

both_true : (a b : Bool) → (a && b) ≡ true → (a ≡ true) × (b ≡ true)
both_true true b h = (refl, h)
both_true false b h = cc

flag_same : (a b : Bool) → flag_eq a b ≡ true → a ≡ b
flag_same true b h = sym h
flag_same false b h = sym (not-true b h)

abbrev touched : ℕ → Bool → TupleValue → Touch
touched at live t = record { at = at; live = live; tuple = t }

pub touch_eq-same : (x y : Touch) → touch_eq x y ≡ true → x ≡ y
touch_eq-same x y h =
    let at = both_true (eqb x.at y.at) (flag_eq x.live y.live && tuple_eq x.tuple y.tuple) h in
    let rest = both_true (flag_eq x.live y.live) (tuple_eq x.tuple y.tuple) at.1 in
    ap (λ (n : ℕ). touched n x.live x.tuple) (eqb-true x.at y.at at.0)
    ∙ ap (λ (b : Bool). touched y.at b x.tuple) (flag_same x.live y.live rest.0)
    ∙ ap (λ (t : TupleValue). touched y.at y.live t) (tuple_eq-same x.tuple y.tuple rest.1)

-- ---- what is stored was touched

abbrev IsFound : (Touch → Bool) → List Touch → Type 0
IsFound q xs = (k : ℕ) × (x : Touch) × (slice_get xs k ≡ Some x) × (q x ≡ true)

found : (p q : Touch → Bool) (xs : List Touch) → last_live false (filter q (filter p xs)) ≡ true → IsFound q xs
found p q [] h = let wrong : false ≡ true = h in absurd cc
found p q (x ∷ xs) h = by_test (found p q xs) (p x) (q x) refl h
  where
    behind : IsFound q xs → IsFound q (x ∷ xs)
    behind f = (suc f.0, f.1, f.2, f.3)

    by_test : (last_live false (filter q (filter p xs)) ≡ true → IsFound q xs) → (a b : Bool) → q x ≡ b
        → last_live false (filter q (cond a (x ∷ filter p xs) (filter p xs))) ≡ true → IsFound q (x ∷ xs)
    by_test rest true true is h = (0, x, refl, is)
    by_test rest true false is h =
        behind (rest (sym (ap (λ (c : Bool). last_live false (cond c (x ∷ filter q (filter p xs)) (filter q (filter p xs)))) is) ∙ h))
    by_test rest false b is h = behind (rest h)

past_end : {X : Type 0} (xs : List X) (i : ℕ) → slice_get xs i ≡ None → length xs ≤ i
past_end [] i at = omega arith
past_end (x ∷ xs) zero at = let no : Some x ≡ None = at in absurd cc
past_end (x ∷ xs) (suc i) at = let rest = past_end xs i at in omega (arith, rest)

-- Where each tuple that was touched is stored in the other if it is stored in the log, so is each that is stored.
pub all_touched : (log other : List Commit) (at i : ℕ) → slice_get (changelog log) i ≡ None
    → ((k : ℕ) (x : Touch) → k < i → slice_get (changelog log) k ≡ Some x → is_stored log at x.tuple ≡ true
    → is_stored other at x.tuple ≡ true)
    → (t : TupleValue) → is_stored log at t ≡ true → is_stored other at t ≡ true
all_touched log other at i end each t stored =
    let f = found (λ x. leb x.at at) (λ x. tuple_eq x.tuple t) (changelog log) stored in
    let same = tuple_eq-same f.1.tuple t f.3 in
    let within = slice_get_within (changelog log) f.0 f.1 f.2 in
    let long = past_end (changelog log) i end in
    subst (λ (s : TupleValue). is_stored other at s ≡ true) same
    (each f.0 f.1 (omega (arith, within, long)) f.2
    (subst (λ (s : TupleValue). is_stored log at s ≡ true) (sym same) stored))
