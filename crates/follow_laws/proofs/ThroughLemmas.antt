-- Entries that are settled, and of which nothing is told, are right and fresh in each longer log.
use Rattle.std.proofs.Common.{◌≡◌, ℕ, zero, suc, ◌+◌, ◌<◌, ◌≤◌, ◌⊎◌, ◌||◌, inl, inr, Bool, true, false, cond, eqb, leb, max, List, [], ◌∷◌, ◌++◌, length, Option, Some, None, refl, sym, ◌∙◌, ap, subst, arith, rules}
use Rattle.std.specs.Prelude.{slice_get, option_map, All, Contains}
use Rattle.std.specs.List.{AllByRecursion, list_any}
use Rattle.std.proofs.lemmas.Bool.{cases_lt}
use Rattle.std.proofs.lemmas.List.Elements.{All-append, All-cons, All-nil, All-contains, recursion_from_All, Contains-append_left, Contains-append_right}
use Rattle.std.proofs.lemmas.Option.{same_Some, slice_get_within, slice_get-get_or, get_or_from_slice_get}
use Rattle.marks.proofs.PlacedLemmas.{slice_get-front}
use Rattle.version_chains.specs.Commits.{Commit}
use Rattle.trace_lines.specs.Values.{EntryValue, TraceValue}
use Rattle.token_order.specs.Order.{on_lines}
use Rattle.token_order.specs.Found.{open_snapshot}
use Rattle.evidence_check.specs.Steps.{StepValue}
use Rattle.findings.specs.EachEntry.{IsRightAndFreshEntry}
use Rattle.findings.specs.Findings.{found_on, on_line, findings_from}
use Rattle.findings.specs.declared.finding.Finding.{Finding}
use Rattle.findings.specs.declared.finding.What.{What}
use Rattle.findings.specs.declared.finding.What.TheVariants.{OpenSnapshot}
use Rattle.follow_laws.specs.Begun.{Begins}
use Rattle.windows.specs.Growth.{IsSettled}
use Rattle.follow_laws.specs.Through.{IsCleanThrough}
use Rattle.follow_laws.specs.Told.{line_reaching, settling_line, moments, at_moments, told_from, is_at, told_on}
use Rattle.findings.proofs.EachEntryLemmas.{speaks_of_each}
use Rattle.windows.proofs.SettledLemmas.{settled_law}

-- ---- what is found on an entry is told

told_line : (line : ℕ) (found : List (Option What)) (what : What) → Contains found (Some what)
    → Contains (on_line line found) (record { line = line; what = what })
told_line line found what h = at found h.0 (slice_get-get_or found h.0 (Some what) h.1 ∙ ap Some h.2)
  where
    at : (found : List (Option What)) (k : ℕ) → slice_get found k ≡ Some (Some what)
        → Contains (on_line line found) (record { line = line; what = what })
    at [] k h = cc
    at (None ∷ xs) zero h = cc
    at (None ∷ xs) (suc k) h = at xs k h
    at (Some w ∷ xs) zero h =
        let same : w ≡ what = cc in
        (0, omega arith, ap (λ (x : What). record { line = line; what = x }) same)
    at (Some w ∷ xs) (suc k) h = Contains-append_right (record { line = line; what = w } ∷ []) (on_line line xs) (record {
      line = line;
      what = what;
    }) (at xs k h)

told_among : (test : Option ℕ → Bool) (t : TraceValue) (evidence : List (Option (List StepValue))) (i : ℕ) (es : List
    EntryValue) (j : ℕ) (e : EntryValue) (what : What) → slice_get es j ≡ Some e
    → Contains (at_moments test (moments t e) (found_on t evidence (i + j) e)) (Some what)
    → Contains (told_from test t evidence i es) (record { line = e.line; what = what })
told_among test t evidence i [] j e what at h = cc
told_among test t evidence i (x ∷ es) zero e what at h =
    let same : x ≡ e = same_Some x e at in
    let here : i + 0 ≡ i = omega arith in
    Contains-append_left (on_line x.line (at_moments test (moments t x) (found_on t evidence i x))) (told_from test t
    evidence (i + 1) es) (record { line = e.line; what = what })
    (subst (λ (y : EntryValue). Contains (on_line y.line (at_moments test (moments t y) (found_on t evidence i y))) (record {
      line = e.line;
      what = what;
    })) (sym same)
    (told_line e.line (at_moments test (moments t e) (found_on t evidence i e)) what (subst (λ (n : ℕ). Contains (at_moments
    test (moments t e) (found_on t evidence n e)) (Some what)) here h)))
told_among test t evidence i (x ∷ es) (suc j) e what at h =
    let next : i + suc j ≡ i + 1 + j = omega arith in
    Contains-append_right (on_line x.line (at_moments test (moments t x) (found_on t evidence i x))) (told_from test t
    evidence (i + 1) es) (record { line = e.line; what = what })
    (told_among test t evidence (i + 1) es j e what at (subst (λ (n : ℕ). Contains (at_moments test (moments t e) (found_on t
    evidence n e)) (Some what)) next h))

-- ---- nothing found where nothing is told

-- each thing that is found has a line at which it is told
abbrev HaveLines : List (Option ℕ) → List (Option What) → Type 0
HaveLines [] os = os ≡ []
HaveLines (m ∷ ms) [] = Unit {0}
HaveLines (m ∷ ms) (o ∷ os) = ((o ≡ None) ⊎ ((k : ℕ) × (m ≡ Some k))) × HaveLines ms os

there_too : (o p : Option What) (os : List (Option What)) → Contains os o → Contains (p ∷ os) o
there_too o p os h = Contains-append_right (p ∷ []) os o h

itself : (n : ℕ) → eqb n n ≡ true
itself n = search rules

none_found : (line : ℕ) (ms : List (Option ℕ)) (os : List (Option What))
    → ((k : ℕ) (what : What) → Contains (at_moments (is_at k) ms os) (Some what) → ⊥) → HaveLines ms os
    → on_line line os ≡ []
none_found line [] os none h = ap (on_line line) h
none_found line (m ∷ ms) [] none h = refl
none_found line (m ∷ ms) (None ∷ os) none h =
    none_found line ms os (λ k what c. none k what (there_too (Some what) (cond (is_at k m) None None) (at_moments (is_at k) ms
    os) c)) h.1
none_found line (m ∷ ms) (Some what ∷ os) none h = by_case h.0
  where
    by_case : (Some what ≡ None) ⊎ ((k : ℕ) × (m ≡ Some k)) → on_line line (Some what ∷ os) ≡ []
    by_case (inl none_here) = absurd cc
    by_case (inr at) = absurd (none at.0 what (subst (λ (x : Option What). Contains (x ∷ at_moments (is_at at.0) ms os) (Some
        what)) (sym (ap (λ (x : Option ℕ). cond (is_at at.0 x) (Some what) None) at.1
        ∙ ap (λ (x : Bool). cond x (Some what) None) (itself at.0))) (0, omega arith, refl)))

pub reaching : (s : ℕ) (ls : List ℕ) (cs : List Commit) → length ls ≡ length cs → list_any (λ c. leb s c.at) cs ≡ true
    → (l : ℕ) × (line_reaching s (on_lines ls cs) ≡ Some l)
reaching s ls [] counted h = cc
reaching s [] (c ∷ cs) counted h = absurd (omega (arith, counted))
reaching s (l ∷ ls) (c ∷ cs) counted h = by_test (reaching s ls cs (omega (arith, counted))) (leb s c.at) h
  where
    by_test : (list_any (λ c. leb s c.at) cs ≡ true → (m : ℕ) × (line_reaching s (on_lines ls cs) ≡ Some m)) → (b : Bool)
        → (b || list_any (λ c. leb s c.at) cs) ≡ true
        → (m : ℕ) × (cond b (Some l) (line_reaching s (on_lines ls cs)) ≡ Some m)
    by_test rest true h = (l, refl)
    by_test rest false h = rest h

module _ {k : ℕ} (t u : TraceValue) (b : Begins k t u) (evidence : List (Option (List StepValue))) (n : ℕ) (clean :
    IsCleanThrough t evidence n) where
  module _ (i : ℕ) (e : EntryValue) (at : slice_get t.entries i ≡ Some e) (le : e.line ≤ n) where
    inside : i < length t.entries
    inside = slice_get_within t.entries i e at

    settled : IsSettled t e
    settled = All-contains (λ (x : EntryValue). x.line ≤ n → IsSettled t x) t.entries e clean.settled (
      i,
      inside,
      get_or_from_slice_get t.entries i e e at,
    ) le

    untold : (k : ℕ) (what : What) → Contains (at_moments (is_at k) (moments t e) (found_on t evidence i e)) (Some what) → ⊥
    untold k what h =
        let place : i ≡ 0 + i = omega arith in
        let told : Contains (told_on t evidence k) (record { line = e.line; what = what }) = told_among (is_at k) t evidence 0
        t.entries i e what at (subst (λ (m : ℕ). Contains (at_moments (is_at k) (moments t e) (found_on t evidence m e)) (Some
        what)) place h) in
        let beyond = All-contains (λ (f : Finding). n < f.line) (told_on t evidence k) (record {
          line = e.line;
          what = what;
        }) (clean.untold k) told in
        absurd (omega (arith, beyond, le))

    settles : (k : ℕ) × (settling_line t e ≡ Some k)
    settles =
        let r = reaching e.snapshot t.commit_lines t.commits b.first.rising.commits.counted settled in
        (max e.line r.0, ap (option_map (max e.line)) r.1)

    have_lines : HaveLines (moments t e) (found_on t evidence i e)
    have_lines = (
      inr (e.line, refl),
      (
        inr (e.line, refl),
        (
          inr (e.line, refl),
          (
            opens (open_snapshot t e),
            (
              inr (e.line, refl),
              (
                inr
                    (e.line, refl),
                (inr settles, refl),
              ),
            ),
          ),
        ),
      ),
    )
      where
        opens : (o : Option ℕ) → (option_map OpenSnapshot o ≡ None) ⊎ ((k : ℕ) × (o ≡ Some k))
        opens None = inl refl
        opens (Some l) = inr (l, refl)

    in_longer : slice_get u.entries i ≡ Some e
    in_longer = ap (λ (es : List EntryValue). slice_get es i) b.goes.recorded ∙ slice_get-front t.entries b.goes.entries i
        inside ∙ at

    none_in_longer : on_line e.line (found_on u evidence i e) ≡ []
    none_in_longer = ap (on_line e.line) (settled_law k t u b.goes b.first.rising b.whole.rising i e at
        settled evidence evidence refl) ∙ none_found e.line (moments t e) (found_on t evidence i e) untold have_lines

-- an entry of the longer log that stands on one of the first lines is an entry of these
pub first_entry : (k : ℕ) (es more : List EntryValue) → AllByRecursion (λ e. k < e.line) more → (i : ℕ) (e : EntryValue)
    → slice_get (es ++ more) i ≡ Some e → e.line ≤ k → slice_get es i ≡ Some e
first_entry k [] [] later i e at le = cc
first_entry k [] (x ∷ more) later zero e at le =
    let same : x ≡ e = cc in
    let line = ap (λ (y : EntryValue). y.line) same in
    let lt = later.0 in
    absurd (omega (arith, lt, line, le))
first_entry k [] (x ∷ more) later (suc i) e at le = absurd (none_further k more later.1 i e at le)
  where
    none_further : (k : ℕ) (xs : List EntryValue) → AllByRecursion (λ e. k < e.line) xs → (i : ℕ) (e : EntryValue)
        → slice_get xs i ≡ Some e → e.line ≤ k → ⊥
    none_further k [] later i e at le = cc
    none_further k (x ∷ xs) later zero e at le =
        let same : x ≡ e = cc in
        let line = ap (λ (y : EntryValue). y.line) same in
        let lt = later.0 in
        omega (arith, lt, line, le)
    none_further k (x ∷ xs) later (suc i) e at le = none_further k xs later.1 i e at le
first_entry k (x ∷ es) more later zero e at le = at
first_entry k (x ∷ es) more later (suc i) e at le = first_entry k es more later i e at le

-- what is found on the entries from number i on is beyond line n, where nothing is found up to there
pub on_beyond : (n line : ℕ) → n < line → (found : List (Option What)) → All (λ f. n < f.line) (on_line line found)
on_beyond n line lt [] = All-nil (λ (f : Finding). n < f.line)
on_beyond n line lt (None ∷ found) = on_beyond n line lt found
on_beyond n line lt (Some what ∷ found) =
    All-cons (λ (f : Finding). n < f.line) (record { line = line; what = what }) (on_line line found) lt (on_beyond n line lt found)

all_beyond : (n : ℕ) (t : TraceValue) (evidence : List (Option (List StepValue))) (i : ℕ) (es : List EntryValue)
    → ((j : ℕ) (e : EntryValue) → slice_get es j ≡ Some e → e.line ≤ n → on_line e.line (found_on t evidence (i + j) e) ≡ [])
    → All (λ f. n < f.line) (findings_from t evidence i es)
all_beyond n t evidence i [] none = All-nil (λ (f : Finding). n < f.line)
all_beyond n t evidence i (e ∷ es) none =
    All-append (λ (f : Finding). n < f.line) (on_line e.line (found_on t evidence i e)) (findings_from t evidence (i + 1) es)
    (here (cases_lt n e.line))
    (all_beyond n t evidence (i + 1) es (λ j x at le. at_place (i + suc j) (i + 1 + j) (omega arith) x (none (suc j) x at le)))
  where
    at_place : (m p : ℕ) → m ≡ p → (x : EntryValue) → on_line x.line (found_on t evidence m x) ≡ []
        → on_line x.line (found_on t evidence p x) ≡ []
    at_place m p same x h = subst (λ (q : ℕ). on_line x.line (found_on t evidence q x) ≡ []) same h

    here : (n < e.line) ⊎ (e.line ≤ n) → All (λ f. n < f.line) (on_line e.line (found_on t evidence i e))
    here (inl lt) = on_beyond n e.line lt (found_on t evidence i e)
    here (inr le) =
        subst (λ (fs : List Finding). All (λ f. n < f.line) fs) (sym (at_place (i + 0) i (omega arith) e (none 0 e refl le)))
        (All-nil (λ (f : Finding). n < f.line))

pub through_law : (k : ℕ) (t u : TraceValue) → Begins k t u → (evidence : List (Option (List StepValue))) (n : ℕ) → n ≤ k
    → IsCleanThrough t evidence n → All (λ e. e.line ≤ n → IsRightAndFreshEntry u e) u.entries
through_law k t u b evidence n le clean =
    (speaks_of_each u b.whole.formed evidence).before n (all_beyond n u evidence 0 u.entries none)
  where
    later : AllByRecursion (λ (e : EntryValue). k < e.line) b.goes.entries
    later = recursion_from_All (λ (x : EntryValue). k < x.line) b.goes.entries b.goes.entries_behind

    none : (j : ℕ) (e : EntryValue) → slice_get u.entries j ≡ Some e → e.line ≤ n → on_line e.line (found_on u evidence (0 + j) e) ≡ []
    none j e at on =
        let there : slice_get (t.entries ++ b.goes.entries) j ≡ Some e = sym (ap (λ (es : List EntryValue). slice_get es j) b.goes.recorded) ∙ at in
        let place : j ≡ 0 + j = omega arith in
        subst (λ (m : ℕ). on_line e.line (found_on u evidence m e) ≡ []) place
        (none_in_longer t u b evidence n clean j e (first_entry k t.entries b.goes.entries later j e there (omega (arith, on, le))) on)
