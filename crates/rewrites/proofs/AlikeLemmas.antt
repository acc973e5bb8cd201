-- What children join to, where they are nested, repeated or alone.
use Rattle.std.proofs.Common.{◌≡◌, Bool, true, false, ◌||◌, ◌&&◌, List, [], ◌∷◌, ◌++◌, refl, sym, ap, ◌∙◌, inl, inr, append_assoc, arith, get_or}
use Rattle.std.proofs.lemmas.List.Folds.{list_any-append, list_all-append, list_any_at, list_all_at}
use Rattle.std.specs.Prelude.{Contains, ◌<◌, ℕ, zero, suc, length, map}
use Rattle.std.specs.List.{list_any, list_all}
use Rattle.rewrites.specs.Alike.{Leaves, gives, some_gives, each_gives, bars, each_bars, some_bars, IsAlike}
use Rattle.rewrites.specs.Expression.{Expression, minus, children}
use Rattle.rewrites.specs.Joints.{joined, IsPut, JoinAlike}
use Rattle.rewrites.specs.View.{expression_of}
use Rattle.rewrites.specs.declared.plain.Joint.{Joint}
use Rattle.rewrites.specs.declared.rewrite.Rewrite.{Rewrite}
use Rattle.rewrites.proofs.Names.{by_bool}

-- ---- children as tests of a list

some_gives-any : (l : Leaves) (es : List Expression) → some_gives l (children es) ≡ list_any (gives l) es
some_gives-any l [] = refl
some_gives-any l (e ∷ es) = ap (λ b. gives l e || b) (some_gives-any l es)

each_gives-all : (l : Leaves) (es : List Expression) → each_gives l (children es) ≡ list_all (gives l) es
each_gives-all l [] = refl
each_gives-all l (e ∷ es) = ap (λ b. gives l e && b) (each_gives-all l es)

each_bars-all : (l : Leaves) (es : List Expression) → each_bars l (children es) ≡ list_all (bars l) es
each_bars-all l [] = refl
each_bars-all l (e ∷ es) = ap (λ b. bars l e && b) (each_bars-all l es)

some_bars-any : (l : Leaves) (es : List Expression) → some_bars l (children es) ≡ list_any (bars l) es
some_bars-any l [] = refl
some_bars-any l (e ∷ es) = ap (λ b. bars l e || b) (some_bars-any l es)

-- the tests of two lists have the same answers, for both
record SameTests (some each : Expression → Bool) (es fs : List Expression) : Type 0 where
  any : list_any some es ≡ list_any some fs
  all : list_all each es ≡ list_all each fs

abbrev TestsAlike : Joint → List Expression → List Expression → Type 0
TestsAlike Joint.Union es fs = (l : Leaves) → SameTests (gives l) (bars l) es fs
TestsAlike Joint.Inter es fs = (l : Leaves) → SameTests (bars l) (gives l) es fs

by_tests : (j : Joint) (es fs : List Expression) → TestsAlike j es fs → JoinAlike j es fs
by_tests Joint.Union es fs t = record {
  gives_alike = λ l. some_gives-any l es ∙ (t l).any ∙ sym (some_gives-any l fs);
  bars_alike = λ l. each_bars-all l es ∙ (t l).all ∙ sym (each_bars-all l fs);
}
by_tests Joint.Inter es fs t = record {
  gives_alike = λ l. each_gives-all l es ∙ (t l).all ∙ sym (each_gives-all l fs);
  bars_alike = λ l. some_bars-any l es ∙ (t l).any ∙ sym (some_bars-any l fs);
}

tests_of : (j : Joint) (es fs : List Expression) → JoinAlike j es fs → TestsAlike j es fs
tests_of Joint.Union es fs a = λ l. record {
  any = sym (some_gives-any l es) ∙ a.gives_alike l ∙ some_gives-any l fs;
  all = sym (each_bars-all l es) ∙ a.bars_alike l ∙ each_bars-all l fs;
}
tests_of Joint.Inter es fs a = λ l. record {
  any = sym (some_bars-any l es) ∙ a.bars_alike l ∙ some_bars-any l fs;
  all = sym (each_gives-all l es) ∙ a.gives_alike l ∙ each_gives-all l fs;
}

-- ---- one child more

pub or_none : (a : Bool) → (a || false) ≡ a
or_none true = refl
or_none false = refl

pub and_all : (a : Bool) → (a && true) ≡ a
and_all true = refl
and_all false = refl

-- an element that stands in a list already
any_again : (f : Expression → Bool) (es : List Expression) (e : Expression) → Contains es e → list_any f es ≡ list_any f (es ++ e ∷ [])
any_again f es e (k, within, is) = by_bool (f e)
    (λ t. rw (list_any-append f es (e ∷ []), list_any_at f es k e within (rw is t)) refl)
    (λ n. rw (list_any-append f es (e ∷ []), n, or_none (list_any f es)) refl)

all_again : (f : Expression → Bool) (es : List Expression) (e : Expression) → Contains es e → list_all f es ≡ list_all f (es ++ e ∷ [])
all_again f es e (k, within, is) = by_bool (f e)
    (λ t. rw (list_all-append f es (e ∷ []), t, and_all (list_all f es)) refl)
    (λ n. rw (list_all-append f es (e ∷ []), list_all_at f es k e within (rw is n)) refl)

same_again : (some each : Expression → Bool) (es : List Expression) (e : Expression) → Contains es e → SameTests some each es (es ++ e ∷ [])
same_again some each es e there = record { any = any_again some es e there; all = all_again each es e there }

pub alike_itself : (e : Expression) → IsAlike e e
alike_itself e = record { gives_alike = λ _. refl; bars_alike = λ _. refl }

pub minus_alike : (a b c d : Expression) → IsAlike a b → IsAlike c d → IsAlike (minus a c) (minus b d)
minus_alike a b c d p q = record {
  gives_alike = λ l. rw (p.gives_alike l, q.bars_alike l) refl;
  bars_alike = λ l. rw (p.bars_alike l, q.gives_alike l) refl;
}

pub put_alike : (j : Joint) (old new : List Expression) (e : Expression) → IsPut old new e → JoinAlike j new (old ++ e ∷ [])
put_alike j old new e (inl is) = rw is (alike_itself (joined j (old ++ e ∷ [])))
put_alike Joint.Union old new e (inr (is, there)) = rw is (by_tests Joint.Union old (old ++ e ∷ []) (λ l. same_again (gives l) (bars l) old e there))
put_alike Joint.Inter old new e (inr (is, there)) = rw is (by_tests Joint.Inter old (old ++ e ∷ []) (λ l. same_again (bars l) (gives l) old e there))

-- ---- joins of joins

pub alike_then : (a b c : Expression) → IsAlike a b → IsAlike b c → IsAlike a c
alike_then a b c p q = record {
  gives_alike = λ l. p.gives_alike l ∙ q.gives_alike l;
  bars_alike = λ l. p.bars_alike l ∙ q.bars_alike l;
}

pub alike_back : (a b : Expression) → IsAlike a b → IsAlike b a
alike_back a b p = record { gives_alike = λ l. sym (p.gives_alike l); bars_alike = λ l. sym (p.bars_alike l) }

same_more : (some each : Expression → Bool) (es fs gs : List Expression) → SameTests some each es fs → SameTests some each (es ++ gs) (fs ++ gs)
same_more some each es fs gs t = record {
  any = rw (list_any-append some es gs, list_any-append some fs gs, t.any) refl;
  all = rw (list_all-append each es gs, list_all-append each fs gs, t.all) refl;
}

-- more children behind both
pub alike_more : (j : Joint) (es fs gs : List Expression) → JoinAlike j es fs → JoinAlike j (es ++ gs) (fs ++ gs)
alike_more Joint.Union es fs gs a = by_tests Joint.Union (es ++ gs) (fs ++ gs) (λ l. same_more (gives l) (bars l) es fs gs (tests_of Joint.Union es fs a l))
alike_more Joint.Inter es fs gs a = by_tests Joint.Inter (es ++ gs) (fs ++ gs) (λ l. same_more (bars l) (gives l) es fs gs (tests_of Joint.Inter es fs a l))

same_front : (some each : Expression → Bool) (es fs gs : List Expression) → SameTests some each fs gs → SameTests some each (es ++ fs) (es ++ gs)
same_front some each es fs gs t = record {
  any = rw (list_any-append some es fs, list_any-append some es gs, t.any) refl;
  all = rw (list_all-append each es fs, list_all-append each es gs, t.all) refl;
}

-- the same children before both
pub alike_front : (j : Joint) (es fs gs : List Expression) → JoinAlike j fs gs → JoinAlike j (es ++ fs) (es ++ gs)
alike_front Joint.Union es fs gs a =
    by_tests Joint.Union (es ++ fs) (es ++ gs) (λ l. same_front (gives l) (bars l) es fs gs (tests_of Joint.Union fs gs a l))
alike_front Joint.Inter es fs gs a =
    by_tests Joint.Inter (es ++ fs) (es ++ gs) (λ l. same_front (bars l) (gives l) es fs gs (tests_of Joint.Inter fs gs a l))

or_swap : (a b c : Bool) → ((a || b) || c) ≡ ((a || c) || b)
or_swap true b c = refl
or_swap false true true = refl
or_swap false true false = refl
or_swap false false true = refl
or_swap false false false = refl

and_swap : (a b c : Bool) → ((a && b) && c) ≡ ((a && c) && b)
and_swap false b c = refl
and_swap true true true = refl
and_swap true true false = refl
and_swap true false true = refl
and_swap true false false = refl

same_swapped : (some each : Expression → Bool) (es fs gs : List Expression) → SameTests some each ((es ++ fs) ++ gs) ((es ++ gs) ++ fs)
same_swapped some each es fs gs = record {
  any = rw (list_any-append some (es ++ fs) gs, list_any-append some (es ++ gs) fs, list_any-append some es fs, list_any-append some es gs)
      (or_swap (list_any some es) (list_any some fs) (list_any some gs));
  all = rw (list_all-append each (es ++ fs) gs, list_all-append each (es ++ gs) fs, list_all-append each es fs, list_all-append each es gs)
      (and_swap (list_all each es) (list_all each fs) (list_all each gs));
}

-- children in another order
pub alike_swapped : (j : Joint) (es fs gs : List Expression) → JoinAlike j ((es ++ fs) ++ gs) ((es ++ gs) ++ fs)
alike_swapped Joint.Union es fs gs =
    by_tests Joint.Union ((es ++ fs) ++ gs) ((es ++ gs) ++ fs) (λ l. same_swapped (gives l) (bars l) es fs gs)
alike_swapped Joint.Inter es fs gs =
    by_tests Joint.Inter ((es ++ fs) ++ gs) ((es ++ gs) ++ fs) (λ l. same_swapped (bars l) (gives l) es fs gs)

same_last : (some each : Expression → Bool) (es : List Expression) (e f : Expression) → some e ≡ some f → each e ≡ each f → SameTests some each (es ++ e ∷ []) (es ++ f ∷ [])
same_last some each es e f p q = record {
  any = rw (list_any-append some es (e ∷ []), list_any-append some es (f ∷ []), p) refl;
  all = rw (list_all-append each es (e ∷ []), list_all-append each es (f ∷ []), q) refl;
}

-- the last child may be one that is alike
pub alike_last : (j : Joint) (es : List Expression) (e f : Expression) → IsAlike e f → JoinAlike j (es ++ e ∷ []) (es ++ f ∷ [])
alike_last Joint.Union es e f a = by_tests Joint.Union (es ++ e ∷ []) (es ++ f ∷ []) (λ l. same_last (gives l) (bars l) es e f (a.gives_alike l) (a.bars_alike l))
alike_last Joint.Inter es e f a = by_tests Joint.Inter (es ++ e ∷ []) (es ++ f ∷ []) (λ l. same_last (bars l) (gives l) es e f (a.bars_alike l) (a.gives_alike l))

same_nested : (some each : Expression → Bool) (es fs : List Expression) (e : Expression) → some e ≡ list_any some fs → each e ≡ list_all each fs
    → SameTests some each (es ++ fs) (es ++ e ∷ [])
same_nested some each es fs e p q = record {
  any = rw (list_any-append some es fs, list_any-append some es (e ∷ []), p, or_none (list_any some fs)) refl;
  all = rw (list_all-append each es fs, list_all-append each es (e ∷ []), q, and_all (list_all each fs)) refl;
}

-- the children of a join, in a join of the same kind, in place of it
pub nested_alike : (j : Joint) (es fs : List Expression) → JoinAlike j (es ++ fs) (es ++ joined j fs ∷ [])
nested_alike Joint.Union es fs = by_tests Joint.Union (es ++ fs) (es ++ joined Joint.Union fs ∷ [])
    (λ l. same_nested (gives l) (bars l) es fs (joined Joint.Union fs) (some_gives-any l fs) (each_bars-all l fs))
nested_alike Joint.Inter es fs = by_tests Joint.Inter (es ++ fs) (es ++ joined Joint.Inter fs ∷ [])
    (λ l. same_nested (bars l) (gives l) es fs (joined Joint.Inter fs) (some_bars-any l fs) (each_gives-all l fs))

-- where one child more was put, others that are left stay behind
pub joined_on : (j : Joint) (old new rest all : List Expression) (e : Expression) → JoinAlike j new (old ++ e ∷ []) → JoinAlike j (old ++ e ∷ rest) all
    → JoinAlike j (new ++ rest) all
joined_on j old new rest all e put left =
    let behind = alike_more j new (old ++ e ∷ []) rest put in
    alike_then (joined j (new ++ rest)) (joined j (old ++ e ∷ rest)) (joined j all) (rw append_assoc at behind) left

-- the same, where what was put is alike to the child
pub joined_on_alike : (j : Joint) (old new rest all : List Expression) (e f : Expression) → IsAlike f e → JoinAlike j new (old ++ f ∷ []) → JoinAlike j (old ++ e ∷ rest) all
    → JoinAlike j (new ++ rest) all
joined_on_alike j old new rest all e f alike put left =
    joined_on j old new rest all e
    (alike_then (joined j new) (joined j (old ++ f ∷ [])) (joined j (old ++ e ∷ [])) put (alike_last j old f e alike)) left

-- ---- a child that stands at a place

pub contains_at : (rs : List Rewrite) (i : ℕ) (r : Rewrite) (e : Expression) → i < length rs → r ≡ get_or rs i r → expression_of r ≡ e → Contains (map expression_of rs) e
contains_at [] i r e within at is = absurd (omega arith)
contains_at (q ∷ rs) zero r e within at is = (zero, omega arith, ap expression_of (sym at) ∙ is)
contains_at (q ∷ rs) (suc i) r e within at is =
    let left = contains_at rs i r e (omega arith) at is in
    (suc left.0, omega arith, left.2)

-- where the children of a join were put into a join of its kind
pub put_nested : (j : Joint) (old new fs : List Expression) (e : Expression) → e ≡ joined j fs → JoinAlike j new (old ++ fs) → JoinAlike j new (old ++ e ∷ [])
put_nested j old new fs e is put =
    alike_then (joined j new) (joined j (old ++ fs)) (joined j (old ++ e ∷ [])) put (rw is (nested_alike j old fs))
