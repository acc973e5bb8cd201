-- Each finding is told once.
use Rattle.std.proofs.Common.{◌≡◌, ℕ, zero, suc, ◌+◌, ◌<◌, ◌≤◌, ◌||◌, inl, inr, Bool, true, false, cond, eqb, ltb, leb, max, List, [], ◌∷◌, ◌++◌, length, map, get_or, Option, Some, None, refl, sym, ◌∙◌, ap, subst, arith, rules}
use Rattle.std.specs.Prelude.{slice_get, filter, option_map, is_none, IsPermutation}
use Rattle.std.specs.List.{AllByRecursion}
use Rattle.std.specs.List.Sorted.{IsStrictlyIncreasing}
use Rattle.std.proofs.lemmas.Bool.{cases_lt, lt-ltb, le-ltb, ltb-true, ne_eqb}
use Rattle.std.proofs.lemmas.List.{map-append, length-map, get_or-map}
use Rattle.std.proofs.lemmas.List.Elements.{All-from_recursion, recursion_from_All, filter-append}
use Rattle.std.proofs.lemmas.List.Kept.{AllPairs-from_increasing}
use Rattle.std.proofs.lemmas.List.Sorted.{IsPermutation-refl, IsPermutation-cons, IsPermutation-trans, IsPermutation-middle, IsPermutation-append_left, IsPermutation-map}
use Rattle.std.proofs.lemmas.Option.{slice_get_within, get_or_from_slice_get}
use Rattle.version_chains.specs.Commits.{Commit}
use Rattle.trace_lines.specs.Values.{EntryValue, TraceValue, entry_lines, after_last, next_line}
use Rattle.trace_lines.proofs.RisingLines.{last_of}
use Rattle.token_order.specs.Order.{CommitLine, on_lines, commit_lines_of}
use Rattle.token_order.specs.Found.{first_line, open_snapshot}
use Rattle.evidence_check.specs.Steps.{StepValue}
use Rattle.findings.specs.Findings.{found_on, on_line, findings_from, findings_of}
use Rattle.findings.specs.declared.finding.Finding.{Finding}
use Rattle.findings.specs.declared.finding.What.{What}
use Rattle.follow_laws.specs.Begun.{IsOfBytes}
use Rattle.follow_laws.specs.Told.{line_reaching, settling_line, moments, at_moments, told_from, is_at, told_on, left_over, told_before, all_told}

-- ---- findings with their moments

abbrev Timed : Type 0
Timed = Option ℕ × Finding

abbrev timed : List (Option ℕ) → ℕ → List (Option What) → List Timed
timed [] line os = []
timed (m ∷ ms) line [] = []
timed (m ∷ ms) line (None ∷ os) = timed ms line os
timed (m ∷ ms) line (Some what ∷ os) = (m, record { line = line; what = what }) ∷ timed ms line os

abbrev timed_from : TraceValue → List (Option (List StepValue)) → ℕ → List EntryValue → List Timed
timed_from t evidence i [] = []
timed_from t evidence i (e ∷ es) = timed (moments t e) e.line (found_on t evidence i e) ++ timed_from t evidence (i + 1) es

abbrev when : (Option ℕ → Bool) → Timed → Bool
when test x = test x.0

abbrev finding_of : Timed → Finding
finding_of x = x.1

timed_told : (test : Option ℕ → Bool) (ms : List (Option ℕ)) (line : ℕ) (os : List (Option What))
    → on_line line (at_moments test ms os) ≡ map finding_of (filter (when test) (timed ms line os))
timed_told test [] line os = refl
timed_told test (m ∷ ms) line [] = refl
timed_told test (m ∷ ms) line (None ∷ os) = by_test (timed_told test ms line os) (test m)
  where
    by_test : on_line line (at_moments test ms os) ≡ map finding_of (filter (when test) (timed ms line os)) → (b : Bool)
        → on_line line (cond b None None ∷ at_moments test ms os) ≡ map finding_of (filter (when test) (timed ms line os))
    by_test rest true = rest
    by_test rest false = rest
timed_told test (m ∷ ms) line (Some what ∷ os) = by_test (test m) (timed_told test ms line os)
  where
    by_test : (b : Bool) → on_line line (at_moments test ms os) ≡ map finding_of (filter (when test) (timed ms line os))
        → on_line line (cond b (Some what) None ∷ at_moments test ms os) ≡ map finding_of (cond b ((
          m,
          record {
            line = line;
            what = what;
          },
        ) ∷ filter (when test) (timed ms line os)) (filter (when test) (timed ms line os)))
    by_test true rest = ap (λ (fs : List Finding). record { line = line; what = what } ∷ fs) rest
    by_test false rest = rest

timed_all : (ms : List (Option ℕ)) (line : ℕ) (os : List (Option What)) → length ms ≡ length os
    → on_line line os ≡ map finding_of (timed ms line os)
timed_all [] line [] h = refl
timed_all [] line (o ∷ os) h = absurd (omega (arith, h))
timed_all (m ∷ ms) line [] h = absurd (omega (arith, h))
timed_all (m ∷ ms) line (None ∷ os) h = timed_all ms line os (omega (arith, h))
timed_all (m ∷ ms) line (Some what ∷ os) h = ap (λ (fs : List Finding). record { line = line; what = what } ∷ fs)
    (timed_all ms line os (omega (arith, h)))

told_timed : (test : Option ℕ → Bool) (t : TraceValue) (evidence : List (Option (List StepValue))) (i : ℕ) (es : List
    EntryValue)
    → told_from test t evidence i es ≡ map finding_of (filter (when test) (timed_from t evidence i es))
told_timed test t evidence i [] = refl
told_timed test t evidence i (e ∷ es) =
    let here = timed (moments t e) e.line (found_on t evidence i e) in
    let behind = timed_from t evidence (i + 1) es in
    ap (λ (fs : List Finding). fs ++ told_from test t evidence (i + 1) es) (timed_told test (moments t e) e.line (found_on t
    evidence i e))
    ∙ ap (λ (fs : List Finding). map finding_of (filter (when test) here) ++ fs) (told_timed test t evidence (i + 1) es)
    ∙ sym (map-append finding_of (filter (when test) here) (filter (when test) behind))
    ∙ ap (map finding_of) (sym (filter-append (when test) here behind))

all_timed : (t : TraceValue) (evidence : List (Option (List StepValue))) (i : ℕ) (es : List EntryValue)
    → findings_from t evidence i es ≡ map finding_of (timed_from t evidence i es)
all_timed t evidence i [] = refl
all_timed t evidence i (e ∷ es) =
    let here = timed (moments t e) e.line (found_on t evidence i e) in
    ap (λ (fs : List Finding). fs ++ findings_from t evidence (i + 1) es) (timed_all (moments t e) e.line (found_on t evidence
    i e) refl)
    ∙ ap (λ (fs : List Finding). map finding_of here ++ fs) (all_timed t evidence (i + 1) es)
    ∙ sym (map-append finding_of here (timed_from t evidence (i + 1) es))

-- ---- a list in two parts

either_test : (test other whole : Option ℕ → Bool) → ((m : Option ℕ) → whole m ≡ (test m || other m))
    → ((m : Option ℕ) → test m ≡ true → other m ≡ false) → (xs : List Timed)
    → IsPermutation (filter (when test) xs ++ filter (when other) xs) (filter (when whole) xs)
either_test test other whole sum apart [] = IsPermutation-refl []
either_test test other whole sum apart (x ∷ xs) =
    by_tests (either_test test other whole sum apart xs) (test x.0) (other x.0) (whole x.0) (sum x.0) (apart x.0)
  where
    by_tests : IsPermutation (filter (when test) xs ++ filter (when other) xs) (filter (when whole) xs) → (p q w : Bool)
        → w ≡ (p || q) → (p ≡ true → q ≡ false)
        → IsPermutation (cond p (x ∷ filter (when test) xs) (filter (when test) xs) ++ cond q (x ∷ filter (when other) xs)
        (filter (when other) xs)) (cond w (x ∷ filter (when whole) xs) (filter (when whole) xs))
    by_tests rest true true w is apart = absurd (let no = apart refl in cc)
    by_tests rest true false true is apart = IsPermutation-cons x (filter (when test) xs ++ filter (when other) xs) (filter
        (when whole) xs) rest
    by_tests rest true false false is apart = absurd cc
    by_tests rest false true true is apart =
        IsPermutation-trans (filter (when test) xs ++ x ∷ filter (when other) xs) (x ∷ (filter (when test) xs ++ filter (when
        other) xs)) (x ∷ filter (when whole) xs)
        (IsPermutation-middle (filter (when test) xs) x (filter (when other) xs))
        (IsPermutation-cons x (filter (when test) xs ++ filter (when other) xs) (filter (when whole) xs) rest)
    by_tests rest false true false is apart = absurd cc
    by_tests rest false false true is apart = absurd cc
    by_tests rest false false false is apart = rest

is_before : ℕ → Option ℕ → Bool
is_before n None = false
is_before n (Some l) = ltb l n

before_more : (k : ℕ) (m : Option ℕ) → is_before (suc k) m ≡ (is_before k m || is_at k m)
unfolding is_before
before_more k None = refl
before_more k (Some l) = elim (cases_lt l k) [
  | inl lt ↦ rw (lt-ltb l k lt, lt-ltb l (suc k) (omega (arith, lt))) refl
  | inr ge ↦ elim (cases_lt k l) [
    | inl lt ↦ rw (le-ltb l k ge, le-ltb l (suc k) (omega (arith, lt)), ne_eqb l k (λ h. omega (arith, lt, h))) refl
    | inr le ↦
        let same : l ≡ k = omega (arith, ge, le) in
        rw same (rw (le-ltb k k (omega arith), lt-ltb k (suc k) (omega arith)) (sym (itself k)))
  ]
]
  where
    itself : (n : ℕ) → eqb n n ≡ true
    itself n = search rules

before_apart : (k : ℕ) (m : Option ℕ) → is_before k m ≡ true → is_at k m ≡ false
unfolding is_before
before_apart k None h = refl
before_apart k (Some l) h = let lt = ltb-true l k h in ne_eqb l k (λ e. omega (arith, lt, e))

none_apart : (k : ℕ) (m : Option ℕ) → is_before k m ≡ true → is_none m ≡ false
unfolding is_before
none_apart k None h = cc
none_apart k (Some l) h = refl

none_before : (xs : List Timed) → filter (when (is_before 0)) xs ≡ []
unfolding is_before
none_before [] = refl
none_before ((None, f) ∷ xs) = none_before xs
none_before ((Some l, f) ∷ xs) = rw (le-ltb l 0 (omega arith)) (none_before xs)

-- ---- those on lines that pass a test

abbrev pub passes : (ℕ → Bool) → Finding → Bool
passes pass f = pass f.line

abbrev passes_too : (ℕ → Bool) → Timed → Bool
passes_too pass x = pass x.1.line

passed : (pass : ℕ → Bool) (xs : List Timed)
    → filter (passes pass) (map finding_of xs) ≡ map finding_of (filter (passes_too pass) xs)
passed pass [] = refl
passed pass (x ∷ xs) = by_test (passed pass xs) (pass x.1.line)
  where
    by_test : filter (passes pass) (map finding_of xs) ≡ map finding_of (filter (passes_too pass) xs) → (b : Bool)
        → cond b (x.1 ∷ filter (passes pass) (map finding_of xs)) (filter (passes pass) (map finding_of xs))
        ≡ map finding_of (cond b (x ∷ filter (passes_too pass) xs) (filter (passes_too pass) xs))
    by_test rest true = ap (λ (fs : List Finding). x.1 ∷ fs) rest
    by_test rest false = rest

either_first : (p q : Timed → Bool) (xs : List Timed) → filter p (filter q xs) ≡ filter q (filter p xs)
either_first p q [] = refl
either_first p q (x ∷ xs) = by_tests (either_first p q xs) (p x) refl (q x) refl
  where
    by_tests : filter p (filter q xs) ≡ filter q (filter p xs) → (a : Bool) → p x ≡ a → (b : Bool) → q x ≡ b
        → filter p (cond b (x ∷ filter q xs) (filter q xs)) ≡ filter q (cond a (x ∷ filter p xs) (filter p xs))
    by_tests rest true is true also = rw (is, also) (ap (λ (ys : List Timed). x ∷ ys) rest)
    by_tests rest true is false also = rw also rest
    by_tests rest false is true also = rw is rest
    by_tests rest false is false also = rest

module _ (pass : ℕ → Bool) (t : TraceValue) (evidence : List (Option (List StepValue))) where
  abbrev every : List Timed
  every = filter (passes_too pass) (timed_from t evidence 0 t.entries)

  told_then : (test : Option ℕ → Bool)
      → filter (passes pass) (told_from test t evidence 0 t.entries) ≡ map finding_of (filter (when test) every)
  told_then test =
      ap (filter (passes pass)) (told_timed test t evidence 0 t.entries)
      ∙ passed pass (filter (when test) (timed_from t evidence 0 t.entries))
      ∙ ap (map finding_of) (either_first (passes_too pass) (when test) (timed_from t evidence 0 t.entries))

  before_told : (k : ℕ)
      → IsPermutation (filter (passes pass) (told_before t evidence k)) (map finding_of (filter (when (is_before k)) every))
  before_told zero = rw (none_before every) (IsPermutation-refl [])
  before_told (suc k) =
      let earlier = filter (when (is_before k)) every in
      let now = filter (when (is_at k)) every in
      let later = filter (when (is_before (suc k))) every in
      let before = filter (passes pass) (told_before t evidence k) in
      subst (λ (fs : List Finding). IsPermutation fs (map finding_of later))
      (sym (filter-append (passes pass) (told_before t evidence k) (told_on t evidence k)
      ∙ ap (λ (fs : List Finding). before ++ fs) (told_then (is_at k))))
      (IsPermutation-trans (before ++ map finding_of now) (map finding_of earlier ++ map finding_of now) (map finding_of later)
      (IsPermutation-append_left (map finding_of now) before (map finding_of earlier) (before_told k))
      (subst (λ (fs : List Finding). IsPermutation fs (map finding_of later)) (map-append finding_of earlier now)
      (IsPermutation-map finding_of (earlier ++ now) later (either_test (is_before k) (is_at k) (is_before (suc k))
      (before_more k) (before_apart k) every))))

-- ---- each moment is a line of the log, or its end

abbrev IsWithin : ℕ → Option ℕ → Type 0
IsWithin n m = (is_before n m || is_none m) ≡ true

pub below_last : (ls : List ℕ) → IsStrictlyIncreasing ls → AllByRecursion (λ l. l < after_last ls) ls
below_last [] rising = tt
below_last (x ∷ xs) rising =
    recursion_from_All (λ (l : ℕ). l < after_last (x ∷ xs)) (x ∷ xs) (λ k d lt.
    let last = last_of x xs in
    let same : get_or (x ∷ xs) k d ≡ get_or (x ∷ xs) k 0 = get_or-any (x ∷ xs) k d 0 lt in
    elim (cases_lt k (length xs)) [
      | inl less ↦
          let up = AllPairs-from_increasing (x ∷ xs) rising k (length xs) 0 less (omega arith) in
          omega (arith, last, up, same)
      | inr ge ↦
          let place : k ≡ length xs = omega (arith, ge, lt) in
          let there = ap (λ (n : ℕ). get_or (x ∷ xs) n 0) place in
          omega (arith, last, same, there)
    ])
  where
    get_or-any : (ys : List ℕ) (k d e : ℕ) → k < length ys → get_or ys k d ≡ get_or ys k e
    get_or-any [] k d e lt = absurd (omega (arith, lt))
    get_or-any (y ∷ ys) zero d e lt = refl
    get_or-any (y ∷ ys) (suc k) d e lt = get_or-any ys k d e (omega (arith, lt))

lines_within : (n : ℕ) (ls : List ℕ) (cs : List Commit) → AllByRecursion (λ l. l < n) ls
    → AllByRecursion (λ c. c.line < n) (on_lines ls cs)
lines_within n [] cs h = tt
lines_within n (l ∷ ls) [] h = tt
lines_within n (l ∷ ls) (c ∷ cs) h = (h.0, lines_within n ls cs h.1)

reaching_within : (n s : ℕ) (cs : List CommitLine) → AllByRecursion (λ c. c.line < n) cs → (l : ℕ)
    → line_reaching s cs ≡ Some l → l < n
reaching_within n s [] h l is = cc
reaching_within n s (c ∷ cs) h l is = by_test (reaching_within n s cs h.1 l) (leb s c.at) is
  where
    by_test : (line_reaching s cs ≡ Some l → l < n) → (b : Bool) → cond b (Some c.line) (line_reaching s cs) ≡ Some l
        → l < n
    by_test rest true is = let same : c.line ≡ l = cc in let lt = h.0 in omega (arith, same, lt)
    by_test rest false is = rest is

first_within : (n : ℕ) (p q : CommitLine → Bool) (cs : List CommitLine) → AllByRecursion (λ c. c.line < n) cs → (b : Bool)
    (l : ℕ) → cond b (first_line (filter p cs)) None ≡ Some l → l < n
first_within n p q cs h false l is = cc
first_within n p q [] h true l is = cc
first_within n p q (c ∷ cs) h true l is = by_test (first_within n p q cs h.1 true l) (p c) is
  where
    by_test : (first_line (filter p cs) ≡ Some l → l < n) → (b : Bool)
        → first_line (cond b (c ∷ filter p cs) (filter p cs)) ≡ Some l → l < n
    by_test rest true is = let same : c.line ≡ l = cc in let lt = h.0 in omega (arith, same, lt)
    by_test rest false is = rest is

within_line : (n l : ℕ) → l < n → IsWithin n (Some l)
unfolding is_before
within_line n l lt = rw (lt-ltb l n lt) refl

within_each : (n : ℕ) (o : Option ℕ) → ((l : ℕ) → o ≡ Some l → l < n) → IsWithin n o
unfolding is_before
within_each n None h = refl
within_each n (Some l) h = within_line n l (h l refl)

module _ (t : TraceValue) (good : IsOfBytes t) where
  commits_within : AllByRecursion (λ (c : CommitLine). c.line < after_last t.commit_lines) (commit_lines_of t)
  commits_within = lines_within (after_last t.commit_lines) t.commit_lines t.commits (below_last t.commit_lines
      good.rising.commits.lines)

  module _ (e : EntryValue) (own : e.line < after_last (entry_lines t.entries)) where
    pub opened_within : (l : ℕ) → open_snapshot t e ≡ Some l → l < next_line t
    opened_within l is =
        let lt = first_within (after_last t.commit_lines) (λ c. ltb e.line c.line) (λ c. ltb e.line c.line)
        (commit_lines_of t) commits_within _ l is in
        omega (arith, lt)

    pub settling_within : (m : ℕ) → settling_line t e ≡ Some m → m < next_line t
    settling_within m is = by_line (line_reaching e.snapshot (commit_lines_of t)) refl is
      where
        by_line : (o : Option ℕ) → line_reaching e.snapshot (commit_lines_of t) ≡ o → option_map (max e.line) o ≡ Some m
            → m < next_line t
        by_line None reaches is = cc
        by_line (Some l) reaches is =
            let lt = reaching_within (after_last t.commit_lines) e.snapshot (commit_lines_of t) commits_within l reaches in
            let same : max e.line l ≡ m = cc in
            omega (arith, lt, own, same)

    moments_within : (n : ℕ) → next_line t ≤ n → AllByRecursion (IsWithin n) (moments t e)
    moments_within n le =
        let here = within_line n e.line (omega (arith, own, le)) in (
          here,
          (
            here,
            (
              here,
              (
                within_each n (open_snapshot t e) (λ l is. let lt = opened_within l is in omega (
                  arith,
                  lt,
                  le,
                )),
                (
                  here,
                  (
                    here,
                    (
                      within_each n (settling_line t e) (λ m is. let lt = settling_within m is in omega (
                        arith,
                        lt,
                        le,
                      )),
                      tt,
                    ),
                  ),
                ),
              ),
            ),
          ),
        )

-- an entry stands before the number behind the last
pub own_line : (t : TraceValue) → IsOfBytes t → (i : ℕ) (e : EntryValue) → slice_get t.entries i ≡ Some e
    → e.line < after_last (entry_lines t.entries)
own_line t good i e at =
    let within = slice_get_within t.entries i e at in
    let long = length-map t.entries (λ (x : EntryValue). x.line) in
    let all = All-from_recursion (λ (l : ℕ). l < after_last (entry_lines t.entries)) (entry_lines t.entries) (below_last
    (entry_lines t.entries) good.rising.entries) in
    let lt = all i 0 (omega (arith, within, long)) in
    let here = get_or-map (λ (x : EntryValue). x.line) t.entries i e 0 within in
    let same = ap (λ (x : EntryValue). x.line) (get_or_from_slice_get t.entries i e e at) in
    omega (arith, lt, here, same)

timed_within : (n : ℕ) (ms : List (Option ℕ)) (line : ℕ) (os : List (Option What)) → AllByRecursion (IsWithin n) ms
    → filter (when (λ m. is_before n m || is_none m)) (timed ms line os) ≡ timed ms line os
timed_within n [] line os h = refl
timed_within n (m ∷ ms) line [] h = refl
timed_within n (m ∷ ms) line (None ∷ os) h = timed_within n ms line os h.1
timed_within n (m ∷ ms) line (Some what ∷ os) h = rw h.0 (ap (λ (xs : List Timed). (m, record { line = line; what = what })
    ∷ xs) (timed_within n ms line os h.1))

every_within : (n : ℕ) (t : TraceValue) (evidence : List (Option (List StepValue))) (i : ℕ) (es : List EntryValue)
    → AllByRecursion (λ e. AllByRecursion (IsWithin n) (moments t e)) es
    → filter (when (λ m. is_before n m || is_none m)) (timed_from t evidence i es) ≡ timed_from t evidence i es
every_within n t evidence i [] h = refl
every_within n t evidence i (e ∷ es) h =
    let here = timed (moments t e) e.line (found_on t evidence i e) in
    let behind = timed_from t evidence (i + 1) es in
    filter-append (when (λ m. is_before n m || is_none m)) here behind
    ∙ ap (λ (xs : List Timed). xs ++ filter (when (λ m. is_before n m || is_none m)) behind) (timed_within n (moments t e)
    e.line (found_on t evidence i e) h.0)
    ∙ ap (λ (xs : List Timed). here ++ xs) (every_within n t evidence (i + 1) es h.1)

entries_within : (n : ℕ) (t : TraceValue) → IsOfBytes t → next_line t ≤ n → (es : List EntryValue)
    → AllByRecursion (λ l. l < after_last (entry_lines t.entries)) (entry_lines es)
    → AllByRecursion (λ e. AllByRecursion (IsWithin n) (moments t e)) es
entries_within n t good le [] h = tt
entries_within n t good le (e ∷ es) h = (moments_within t good e h.0 n le, entries_within n t good le es h.1)

-- of the findings on lines that pass a test, each is told once
pub once_among : (pass : ℕ → Bool) (n : ℕ) (t : TraceValue) → IsOfBytes t → next_line t ≤ n
    → (evidence : List (Option (List StepValue)))
    → IsPermutation (filter (passes pass) (told_before t evidence n) ++ filter (passes pass) (left_over t evidence))
    (filter (passes pass) (findings_of t evidence))
once_among pass n t good le evidence =
    let all = timed_from t evidence 0 t.entries in
    let xs = filter (passes_too pass) all in
    let earlier = filter (when (is_before n)) xs in
    let left = filter (when is_none) xs in
    let within : Option ℕ → Bool = λ m. is_before n m || is_none m in
    let whole = filter (when within) xs in
    let before = filter (passes pass) (told_before t evidence n) in
    let last : filter (passes pass) (left_over t evidence) ≡ map finding_of left = told_then pass t evidence is_none in
    let full : map finding_of whole ≡ filter (passes pass) (findings_of t evidence) =
    ap (map finding_of) (either_first (when within) (passes_too pass) all
    ∙ ap (filter (passes_too pass)) (every_within n t evidence 0 t.entries
    (entries_within n t good le t.entries (below_last (entry_lines t.entries) good.rising.entries))))
    ∙ sym (passed pass all)
    ∙ ap (filter (passes pass)) (sym (all_timed t evidence 0 t.entries)) in
    subst (λ (fs : List Finding). IsPermutation (before ++ fs) (filter (passes pass) (findings_of t evidence))) (sym last)
    (subst (λ (fs : List Finding). IsPermutation (before ++ map finding_of left) fs) full
    (IsPermutation-trans (before ++ map finding_of left) (map finding_of earlier ++ map finding_of left) (map finding_of whole)
    (IsPermutation-append_left (map finding_of left) before (map finding_of earlier) (before_told pass t evidence n))
    (subst (λ (fs : List Finding). IsPermutation fs (map finding_of whole)) (map-append finding_of earlier left)
    (IsPermutation-map finding_of (earlier ++ left) whole (either_test (is_before n) is_none within (λ m. refl)
    (none_apart n) xs)))))

all_pass : (fs : List Finding) → filter (passes (λ line. true)) fs ≡ fs
all_pass [] = refl
all_pass (f ∷ fs) = ap (λ (gs : List Finding). f ∷ gs) (all_pass fs)

pub once_to : (n : ℕ) (t : TraceValue) → IsOfBytes t → next_line t ≤ n → (evidence : List (Option (List StepValue)))
    → IsPermutation (told_before t evidence n ++ left_over t evidence) (findings_of t evidence)
once_to n t good le evidence =
    subst (λ (fs : List Finding). IsPermutation (told_before t evidence n ++ left_over t evidence) fs)
    (all_pass (findings_of t evidence))
    (subst (λ (fs : List Finding). IsPermutation (told_before t evidence n ++ fs) (filter (passes (λ line. true))
    (findings_of t evidence))) (all_pass (left_over t evidence))
    (subst (λ (fs : List Finding). IsPermutation (fs ++ filter (passes (λ line. true)) (left_over t evidence))
    (filter (passes (λ line. true)) (findings_of t evidence))) (all_pass (told_before t evidence n))
    (once_among (λ line. true) n t good le evidence)))

pub once_law : (t : TraceValue) → IsOfBytes t → (evidence : List (Option (List StepValue)))
    → IsPermutation (all_told t evidence) (findings_of t evidence)
once_law t good evidence = once_to (next_line t) t good (omega arith) evidence
