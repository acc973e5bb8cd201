-- What is told at a line rests on the log up to there.
use Rattle.std.proofs.Common.{◌≡◌, ℕ, suc, ◌+◌, ◌<◌, ◌≤◌, ◌||◌, Bool, true, false, cond, ltb, leb, max, List, [], ◌∷◌, ◌++◌, length, Option, Some, None, refl, sym, ◌∙◌, ap, subst, arith}
use Rattle.std.specs.Prelude.{slice_get, filter, option_map}
use Rattle.std.specs.List.{AllByRecursion, list_any}
use Rattle.std.proofs.lemmas.Bool.{true≢false, ltb-true, ne_eqb}
use Rattle.std.proofs.lemmas.List.Elements.{All-filter, All-from_recursion, recursion_from_All}
use Rattle.std.proofs.lemmas.Option.{slice_get_within}
use Rattle.version_chains.specs.Commits.{Commit}
use Rattle.trace_lines.specs.Values.{EntryValue, TraceValue}
use Rattle.token_order.specs.Order.{CommitLine, on_lines, commit_lines_of}
use Rattle.token_order.specs.Found.{later_commits, first_line, open_snapshot, order_of}
use Rattle.token_order.specs.declared.findings.OrderFindings.{OrderFindings}
use Rattle.evidence_check.specs.Evidences.{steps_of}
use Rattle.evidence_check.specs.Judged.{judged}
use Rattle.evidence_check.specs.Steps.{StepValue}
use Rattle.findings.specs.Findings.{found_by, if_told, found_on_tokens, found_on, on_line}
use Rattle.findings.specs.declared.finding.Finding.{Finding}
use Rattle.findings.specs.declared.finding.What.{What}
use Rattle.findings.specs.declared.finding.What.TheVariants.{Stale, OldToken, NotLatest, OpenSnapshot, WrongToken, UnknownVersion}
use Rattle.windows.proofs.CompactionLemmas.{ordered}
use Rattle.windows.proofs.NearestLemmas.{AreInTime, lines_in_time, in_time_filtered, none_earlier}
use Rattle.follow_laws.specs.Begun.{Begins}
use Rattle.follow_laws.specs.Told.{line_reaching, settling_line, moments, at_moments, told_from, is_at, told_on}
use Rattle.windows.proofs.SettledLemmas.{open_among, new_lines, later_more, lines_more, opened_stays, same_judgement}
use Rattle.windows.proofs.GrownLemmas.{stands}
use Rattle.follow_laws.proofs.ToldLemmas.{settled_at}

-- ---- lines behind

not_at : (k l : ℕ) → k < l → is_at k (Some l) ≡ false
not_at k l lt = ne_eqb l k (λ e. omega (arith, e, lt))

pub lines_from : (n : ℕ) (ls : List ℕ) (cs : List Commit) → AllByRecursion (λ l. n ≤ l) ls
    → AllByRecursion (λ c. n ≤ c.line) (on_lines ls cs)
lines_from n [] cs h = tt
lines_from n (l ∷ ls) [] h = tt
lines_from n (l ∷ ls) (c ∷ cs) h = (h.0, lines_from n ls cs h.1)

first_from : (n : ℕ) (cs : List CommitLine) → AllByRecursion (λ c. n ≤ c.line) cs → (b : Bool) (l : ℕ)
    → cond b (first_line cs) None ≡ Some l → n ≤ l
first_from n cs h false l is = cc
first_from n [] h true l is = cc
first_from n (c ∷ cs) h true l is = let same : c.line ≡ l = cc in let le = h.0 in omega (arith, same, le)

-- an F4 that a further commit makes names its line
opened_new : (s n : ℕ) (cs ds : List CommitLine) → AreInTime (cs ++ ds) → AllByRecursion (λ d. n ≤ d.line) ds
    → open_among s cs ≡ None → (l : ℕ) → open_among s (cs ++ ds) ≡ Some l → n ≤ l
opened_new s n [] ds time from none l is = first_from n ds from (list_any (λ d. leb d.at s) ds) l is
opened_new s n (c ∷ cs) ds time from none l is = by_first (leb c.at s) refl none is
  where
    by_rest : (b : Bool) → list_any (λ d. leb d.at s) (cs ++ ds) ≡ b → leb c.at s ≡ false → cond b (Some c.line) None ≡ Some
        l → n ≤ l
    by_rest true any first is = absurd (true≢false (sym (none_earlier s c.at (cs ++ ds) time.0 any) ∙ first))
    by_rest false any first is = cc

    by_first : (b : Bool) → leb c.at s ≡ b → cond (b || list_any (λ d. leb d.at s) cs) (Some c.line) None ≡ None
        → cond (b || list_any (λ d. leb d.at s) (cs ++ ds)) (Some c.line) None ≡ Some l → n ≤ l
    by_first true first none is = cc
    by_first false first none is = by_rest (list_any (λ d. leb d.at s) (cs ++ ds)) refl first is

pub reaching_more : (s : ℕ) (cs ds : List CommitLine) (l : ℕ) → line_reaching s cs ≡ Some l
    → line_reaching s (cs ++ ds) ≡ Some l
reaching_more s [] ds l h = cc
reaching_more s (c ∷ cs) ds l h = by_test (reaching_more s cs ds l) (leb s c.at) h
  where
    by_test : (line_reaching s cs ≡ Some l → line_reaching s (cs ++ ds) ≡ Some l) → (b : Bool)
        → cond b (Some c.line) (line_reaching s cs) ≡ Some l → cond b (Some c.line) (line_reaching s (cs ++ ds)) ≡ Some l
    by_test rest true h = h
    by_test rest false h = rest h

pub reaching_new : (s n : ℕ) (cs ds : List CommitLine) → AllByRecursion (λ d. n ≤ d.line) ds → line_reaching s cs ≡ None
    → (l : ℕ) → line_reaching s (cs ++ ds) ≡ Some l → n ≤ l
reaching_new s n [] [] from none l is = cc
reaching_new s n [] (d ∷ ds) from none l is = by_test (reaching_new s n [] ds from.1 refl l) (leb s d.at) is
  where
    by_test : (line_reaching s ds ≡ Some l → n ≤ l) → (b : Bool) → cond b (Some d.line) (line_reaching s ds) ≡ Some l → n ≤ l
    by_test rest true is = let same : d.line ≡ l = cc in let le = from.0 in omega (arith, same, le)
    by_test rest false is = rest is
reaching_new s n (c ∷ cs) ds from none l is = by_test (reaching_new s n cs ds from) (leb s c.at) none is
  where
    by_test : (line_reaching s cs ≡ None → (l : ℕ) → line_reaching s (cs ++ ds) ≡ Some l → n ≤ l) → (b : Bool)
        → cond b (Some c.line) (line_reaching s cs) ≡ None → cond b (Some c.line) (line_reaching s (cs ++ ds)) ≡ Some l
        → n ≤ l
    by_test rest true none is = cc
    by_test rest false none is = rest none l is

-- ---- an entry of the log so far

module _ {n : ℕ} (t u : TraceValue) (b : Begins n t u) (evidence more : List (Option (List StepValue))) (k : ℕ) (lt : k ≤
    n) where
  new_from : AllByRecursion (λ (c : CommitLine). suc n ≤ c.line) (new_lines t u b.goes b.first.rising b.whole.rising)
  new_from = lines_from (suc n) b.goes.commit_lines b.goes.commits (recursion_from_All (λ (l : ℕ). n < l)
      b.goes.commit_lines b.goes.commits_behind)

  module _ (i : ℕ) (e : EntryValue) (at : slice_get t.entries i ≡ Some e) (same : steps_of more i ≡ steps_of evidence i)
    where
      abbrev old : OrderFindings
      old = order_of t i e

      abbrev fourth : TraceValue → Option What
      fourth x = cond (is_at k (open_snapshot x e)) (option_map OpenSnapshot (open_snapshot x e)) None

      fourth_new : open_snapshot t e ≡ None → (l : ℕ) → open_snapshot u e ≡ Some l → suc n ≤ l
      fourth_new none l is =
          let p : CommitLine → Bool = λ c. ltb e.line c.line in
          let from : CommitLine → Type 0 = λ c. suc n ≤ c.line in
          opened_new e.snapshot (suc n) (later_commits t e) (filter p (new_lines t u b.goes b.first.rising b.whole.rising))
          (subst AreInTime (later_more t u b.goes b.first.rising b.whole.rising e) (in_time_filtered p (commit_lines_of u) (lines_in_time u.commit_lines u.commits
          (ordered u.commits b.whole.rising.commits.timestamps))))
          (recursion_from_All from (filter p (new_lines t u b.goes b.first.rising b.whole.rising)) (All-filter p from (new_lines t u b.goes b.first.rising b.whole.rising) (All-from_recursion from
          (new_lines t u b.goes b.first.rising b.whole.rising) new_from)))
          none l (sym (ap (open_among e.snapshot) (later_more t u b.goes b.first.rising b.whole.rising e)) ∙ is)

      same_fourth : fourth u ≡ fourth t
      same_fourth = by_old (open_snapshot t e) refl
        where
          by_new : (o : Option ℕ) → open_snapshot t e ≡ None → open_snapshot u e ≡ o → cond (is_at k o) (option_map
              OpenSnapshot o) None ≡ None
          by_new None none is = refl
          by_new (Some l) none is = let le = fourth_new none l is in ap (λ (x : Bool). cond x (Some (OpenSnapshot l)) None)
              (not_at k l (omega (arith, le, lt)))

          by_old : (o : Option ℕ) → open_snapshot t e ≡ o → fourth u ≡ cond (is_at k o) (option_map OpenSnapshot o) None
          by_old None is = by_new (open_snapshot u e) is refl
          by_old (Some l) is = ap (λ (o : Option ℕ). cond (is_at k o) (option_map OpenSnapshot o) None) (opened_stays t u b.goes b.first.rising b.whole.rising e l
              is)

      same_last : cond (is_at k (settling_line u e)) (found_by (judged u e (steps_of more i))) None ≡ cond (is_at k
          (settling_line t e)) (found_by (judged t e (steps_of evidence i))) None
      same_last = by_old (line_reaching e.snapshot (commit_lines_of t)) refl
        where
          by_new : (o : Option ℕ) → line_reaching e.snapshot (commit_lines_of t) ≡ None
              → line_reaching e.snapshot (commit_lines_of u) ≡ o
              → cond (is_at k (option_map (max e.line) o)) (found_by (judged u e (steps_of more i))) None ≡ None
          by_new None none is = refl
          by_new (Some l) none is =
              let le = reaching_new e.snapshot (suc n) (commit_lines_of t) (new_lines t u b.goes b.first.rising b.whole.rising) new_from none l (sym (ap
              (line_reaching e.snapshot) (lines_more t u b.goes b.first.rising b.whole.rising)) ∙ is) in
              ap (λ (x : Bool). cond x (found_by (judged u e (steps_of more i))) None) (not_at k (max e.line l) (omega (
                arith,
                le,
                lt,
              )))

          by_old : (o : Option ℕ) → line_reaching e.snapshot (commit_lines_of t) ≡ o
              → cond (is_at k (settling_line u e)) (found_by (judged u e (steps_of more i))) None ≡ cond (is_at k (option_map
              (max e.line) o)) (found_by (judged t e (steps_of evidence i))) None
          by_old None is = by_new (line_reaching e.snapshot (commit_lines_of u)) is refl
          by_old (Some l) is =
              ap (λ (o : Option ℕ). cond (is_at k (option_map (max e.line) o)) (found_by (judged u e (steps_of more i))) None)
              (ap (line_reaching e.snapshot) (lines_more t u b.goes b.first.rising b.whole.rising) ∙ reaching_more e.snapshot (commit_lines_of t) (new_lines t u b.goes b.first.rising b.whole.rising)
              l is)
              ∙ ap (λ (w : Option What). cond (is_at k (Some (max e.line l))) w None) (ap found_by (same_judgement t u b.goes b.first.rising b.whole.rising i e at
              (settled_at t e (max e.line l) (ap (option_map (max e.line)) is)) (steps_of more i) ∙ ap (judged t e) same))

      same_told : at_moments (is_at k) (moments u e) (found_on u more i e) ≡ at_moments (is_at k) (moments t e) (found_on t
          evidence i e)
      same_told =
          let own : Option What → Option What = λ o. cond (is_at k (Some e.line)) o None in
          let told : Option What → Option What → List (Option What) = λ f g.
          own (if_told Stale old.stale) ∷ own (option_map OldToken old.old_token) ∷ own (option_map NotLatest
          old.not_latest) ∷ f ∷ own (if_told WrongToken old.wrong_token) ∷ own (if_told UnknownVersion old.unknown_version)
          ∷ g ∷ [] in
          let last : Option What = cond (is_at k (settling_line u e)) (found_by (judged u e (steps_of more i))) None in
          ap (λ (f : OrderFindings). at_moments (is_at k) (moments u e) (found_on_tokens f ++ found_by (judged u e (steps_of more
          i)) ∷ [])) ((stands t u b.goes b.first.rising.commits b.first.rising.entries).tokens i e at)
          ∙ ap (λ (f : Option What). told f last) same_fourth
          ∙ ap (told (fourth t)) same_last

  -- ---- further entries

  none_at : (line : ℕ) (ms : List (Option ℕ)) (os : List (Option What)) → AllByRecursion (λ m. is_at k m ≡ false) ms
      → on_line line (at_moments (is_at k) ms os) ≡ []
  none_at line [] os h = refl
  none_at line (m ∷ ms) [] h = refl
  none_at line (m ∷ ms) (o ∷ os) h = ap (λ (x : Bool). on_line line (cond x o None ∷ at_moments (is_at k) ms os)) h.0
      ∙ none_at line ms os h.1

  filter_passes : (p : CommitLine → Bool) (cs : List CommitLine) → AllByRecursion (λ c. p c ≡ true) (filter p cs)
  filter_passes p [] = tt
  filter_passes p (c ∷ cs) = by_test (filter_passes p cs) (p c) refl
    where
      by_test : AllByRecursion (λ x. p x ≡ true) (filter p cs) → (b : Bool) → p c ≡ b
          → AllByRecursion (λ x. p x ≡ true) (cond b (c ∷ filter p cs) (filter p cs))
      by_test rest true is = (is, rest)
      by_test rest false is = rest

  later_lines : (line : ℕ) (cs : List CommitLine) → AllByRecursion (λ c. ltb line c.line ≡ true) cs
      → AllByRecursion (λ c. suc line ≤ c.line) cs
  later_lines line [] h = tt
  later_lines line (c ∷ cs) h = (ltb-true line c.line h.0, later_lines line cs h.1)

  none_yet : (e : EntryValue) → suc n ≤ e.line → AllByRecursion (λ m. is_at k m ≡ false) (moments u e)
  none_yet e le =
      let own = not_at k e.line (omega (arith, le, lt)) in (
        own,
        (
          own,
          (
            own,
            (
              by_opened (open_snapshot u e) refl,
              (
                own,
                (
                  own,
                  (
                    by_settling (line_reaching e.snapshot
                        (commit_lines_of u)),
                    tt,
                  ),
                ),
              ),
            ),
          ),
        ),
      )
    where
      by_opened : (o : Option ℕ) → open_snapshot u e ≡ o → is_at k o ≡ false
      by_opened None is = refl
      by_opened (Some l) is =
          let from = first_from (suc e.line) (later_commits u e) (later_lines e.line (later_commits u e) (filter_passes (λ c.
          ltb e.line c.line) (commit_lines_of u))) (list_any (λ c. leb c.at e.snapshot) (later_commits u e)) l is in
          not_at k l (omega (arith, from, le, lt))

      by_settling : (o : Option ℕ) → is_at k (option_map (max e.line) o) ≡ false
      by_settling None = refl
      by_settling (Some l) = not_at k (max e.line l) (omega (arith, le, lt))

  none_of : (i : ℕ) (es : List EntryValue) → AllByRecursion (λ e. suc n ≤ e.line) es
      → told_from (is_at k) u more i es ≡ []
  none_of i [] h = refl
  none_of i (e ∷ es) h = ap (λ (fs : List Finding). fs ++ told_from (is_at k) u more (i + 1) es) (none_at e.line (moments u
      e) (found_on u more i e) (none_yet e h.0)) ∙ none_of (i + 1) es h.1

  -- the entries from number i on, where these are of the log so far
  same_from : (i : ℕ) (es rest : List EntryValue) → AllByRecursion (λ e. suc n ≤ e.line) rest
      → ((j : ℕ) (e : EntryValue) → slice_get es j ≡ Some e
      → at_moments (is_at k) (moments u e) (found_on u more (i + j) e) ≡ at_moments (is_at k) (moments t e) (found_on t
      evidence (i + j) e))
      → told_from (is_at k) u more i (es ++ rest) ≡ told_from (is_at k) t evidence i es
  same_from i [] rest later each = none_of i rest later
  same_from i (e ∷ es) rest later each =
      ap (λ (os : List (Option What)). on_line e.line os ++ told_from (is_at k) u more (i + 1) (es ++ rest)) (at_place (i + 0)
      i (omega arith) e (each 0 e refl))
      ∙ ap (λ (fs : List Finding). on_line e.line (at_moments (is_at k) (moments t e) (found_on t evidence i e)) ++ fs)
      (same_from (i + 1) es rest later (λ j x at. at_place (i + suc j) (i + 1 + j) (omega arith) x (each (suc j) x at)))
    where
      at_place : (m n : ℕ) → m ≡ n → (x : EntryValue)
          → at_moments (is_at k) (moments u x) (found_on u more m x) ≡ at_moments (is_at k) (moments t x) (found_on t
          evidence m x)
          → at_moments (is_at k) (moments u x) (found_on u more n x) ≡ at_moments (is_at k) (moments t x) (found_on t
          evidence n x)
      at_place m n same x h = subst (λ (p : ℕ). at_moments (is_at k) (moments u x) (found_on u more p x) ≡ at_moments (is_at k)
          (moments t x) (found_on t evidence p x)) same h

pub stays_law : (n : ℕ) (t u : TraceValue) → Begins n t u → (evidence more : List (Option (List StepValue)))
    → ((i : ℕ) → i < length t.entries → steps_of more i ≡ steps_of evidence i)
    → (k : ℕ) → k ≤ n → told_on u more k ≡ told_on t evidence k
stays_law n t u b evidence more same k lt =
    ap (told_from (is_at k) u more 0) b.goes.recorded
    ∙ same_from t u b evidence more k lt 0 t.entries b.goes.entries (recursion_from_All (λ (e : EntryValue). n < e.line) b.goes.entries b.goes.entries_behind)
    (λ j e at. at_first j (0 + j) (omega arith) e (same_told t u b evidence more k lt j e at (same j (slice_get_within
    t.entries j e at))))
  where
    at_first : (m n : ℕ) → m ≡ n → (x : EntryValue)
        → at_moments (is_at k) (moments u x) (found_on u more m x) ≡ at_moments (is_at k) (moments t x) (found_on t evidence
        m x)
        → at_moments (is_at k) (moments u x) (found_on u more n x) ≡ at_moments (is_at k) (moments t x) (found_on t evidence
        n x)
    at_first m n same x h = subst (λ (p : ℕ). at_moments (is_at k) (moments u x) (found_on u more p x) ≡ at_moments (is_at k)
        (moments t x) (found_on t evidence p x)) same h
