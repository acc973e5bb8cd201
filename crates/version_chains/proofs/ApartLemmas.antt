-- Lists in which no tuple stands twice.
use Rattle.std.proofs.Common.{◌≡◌, ℕ, ◌+◌, Bool, true, false, cond, List, [], ◌∷◌, ◌++◌, refl, sym, ◌∙◌, ap, subst, ◌||◌, Option, None, Some}
use Rattle.std.specs.List.{list_any, AllByRecursion, IsDistinct}
use Rattle.std.proofs.lemmas.List.Folds.{list_any-append}
use Rattle.tuple_text.specs.Tuples.{TupleValue}
use Rattle.tuple_text.specs.Order.{tuple_eq}
use Rattle.tuple_text.specs.OrderLaws.{tuple_equiv}
use Rattle.tuple_text.proofs.ValueLemmas.{tuple_eq-same, tuple_eq-itself}
use Rattle.version_chains.specs.Appends.{repeat_from, first_repeat}
use Rattle.version_chains.specs.Commits.{Commit, TouchesOnce}
use Rattle.version_chains.specs.Given.{AreApart}
use Rattle.std.specs.Prelude.{All}
use Rattle.std.proofs.lemmas.List.Elements.{All-from_recursion}

-- one of these tuples is t
abbrev pub has : TupleValue → List TupleValue → Bool
has t ts = list_any (λ x. tuple_eq x t) ts

pub or-false : (a b : Bool) → a ≡ false → b ≡ false → (a || b) ≡ false
or-false a b p q = cc

pub or-left : (a b : Bool) → (a || b) ≡ false → a ≡ false
or-left true b h = h
or-left false b h = refl

pub or-right : (a b : Bool) → (a || b) ≡ false → b ≡ false
or-right true b h = cc
or-right false b h = h

pub or-true : (a b : Bool) → a ≡ true → (a || b) ≡ true
or-true a b h = cc

pub differs : (b : Bool) → (b ≡ true → ⊥) → b ≡ false
differs true h = absurd (h refl)
differs false h = refl

true-false : {G : Type 0} (b : Bool) → b ≡ true → b ≡ false → G
true-false b p q = cc

pub cond-none : (b : Bool) (n : ℕ) (r : Option ℕ) → cond b (Some n) r ≡ None → (b ≡ false) × (r ≡ None)
cond-none true n r e = cc
cond-none false n r e = (refl, e)

has-push : (t : TupleValue) (ts : List TupleValue) (x : TupleValue) → has t ts ≡ true → has t (ts ++ x ∷ []) ≡ true
has-push t ts x h = list_any-append (λ y. tuple_eq y t) ts (x ∷ []) ∙ or-true (has t ts) _ h

pub has-last : (t : TupleValue) (ts : List TupleValue) → has t (ts ++ t ∷ []) ≡ true
has-last t [] = ap (λ b. b || false) (tuple_eq-itself t)
has-last t (x ∷ xs) = ap (λ b. tuple_eq x t || b) (has-last t xs) ∙ or-any (tuple_eq x t)
  where
    or-any : (b : Bool) → (b || true) ≡ true
    or-any true = refl
    or-any false = refl

-- what stands before a list without a repeat is not in it
pub apart-seen : (seen : List TupleValue) (n : ℕ) (ts : List TupleValue) (t : TupleValue) → repeat_from tuple_eq seen n ts ≡ None → has t seen ≡ true → has t ts ≡ false
apart-seen seen n [] t e h = refl
apart-seen seen n (x ∷ xs) t e h =
    let p = cond-none (has x seen) n (repeat_from tuple_eq (seen ++ x ∷ []) (n + 1) xs) e in
    or-false (tuple_eq x t) (has t xs)
    (differs (tuple_eq x t) (λ q. true-false (has x seen) (ap (λ v. has v seen) (tuple_eq-same x t q) ∙ h) p.0))
    (apart-seen (seen ++ x ∷ []) (n + 1) xs t p.1 (has-push t seen x h))

-- a list without a repeat, in two parts
pub apart-parts : (seen : List TupleValue) (n : ℕ) (fs bs : List TupleValue) (t : TupleValue) → repeat_from tuple_eq seen n (fs ++ bs) ≡ None → has t fs ≡ true → has t bs ≡ false
apart-parts seen n [] bs t e h = cc
apart-parts seen n (x ∷ xs) bs t e h =
    let p = cond-none (has x seen) n (repeat_from tuple_eq (seen ++ x ∷ []) (n + 1) (xs ++ bs)) e in
    pick (tuple_eq x t) refl h p.1 (apart-parts (seen ++ x ∷ []) (n + 1) xs bs t p.1)
  where
    pick : (b : Bool) → tuple_eq x t ≡ b → (b || has t xs) ≡ true → repeat_from tuple_eq (seen ++ x ∷ []) (n + 1) (xs ++ bs) ≡ None → (has t xs ≡ true → has t bs ≡ false) → has t bs ≡ false
    pick true q h e further =
        or-right (has t xs) (has t bs)
        (sym (list_any-append (λ y. tuple_eq y t) xs bs) ∙ apart-seen (seen ++ x ∷ []) (n + 1) (xs ++ bs) t e (subst (λ (v : TupleValue). has v (seen ++ x ∷ []) ≡ true) (tuple_eq-same x t q) (has-last x seen)))
    pick false q h e further = further h

-- and the first part alone
pub apart-front : (seen : List TupleValue) (n : ℕ) (fs bs : List TupleValue) → repeat_from tuple_eq seen n (fs ++ bs) ≡ None → repeat_from tuple_eq seen n fs ≡ None
apart-front seen n [] bs e = refl
apart-front seen n (x ∷ xs) bs e =
    let p = cond-none (has x seen) n (repeat_from tuple_eq (seen ++ x ∷ []) (n + 1) (xs ++ bs)) e in
    rw p.0 (apart-front (seen ++ x ∷ []) (n + 1) xs bs p.1)

none-same : (t : TupleValue) (ts : List TupleValue) → has t ts ≡ false → AllByRecursion (λ y. tuple_eq t y ≡ false) ts
none-same t [] h = tt
none-same t (y ∷ ys) h = (tuple_equiv.symm t y ∙ or-left _ _ h, none-same t ys (or-right (tuple_eq y t) _ h))

-- where no place repeats, the tuples are distinct
pub distinct-apart : (seen : List TupleValue) (n : ℕ) (ts : List TupleValue) → repeat_from tuple_eq seen n ts ≡ None → IsDistinct tuple_eq ts
unfolding IsDistinct
distinct-apart seen n [] e = tt
distinct-apart seen n (x ∷ xs) e =
    let p = cond-none (has x seen) n (repeat_from tuple_eq (seen ++ x ∷ []) (n + 1) xs) e in
    (none-same x xs (apart-seen (seen ++ x ∷ []) (n + 1) xs x p.1 (has-last x seen)), distinct-apart (seen ++ x ∷ []) (n + 1) xs p.1)

pub apart_more : (cs : List Commit) (c : Commit) → AreApart cs → first_repeat (c.adds ++ c.removes) ≡ None → AreApart (cs ++ c ∷ [])
apart_more [] c h e = (e, tt)
apart_more (d ∷ ds) c h e = (h.0, apart_more ds c h.1 e)

pub touch-once : (commits : List Commit) → AreApart commits → All TouchesOnce commits
touch-once commits h =
    All-from_recursion TouchesOnce commits (once commits h)
  where
    once : (commits : List Commit) → AreApart commits → AllByRecursion TouchesOnce commits
    once [] h = tt
    once (c ∷ cs) h = (distinct-apart [] 0 (c.adds ++ c.removes) h.0, once cs h.1)
