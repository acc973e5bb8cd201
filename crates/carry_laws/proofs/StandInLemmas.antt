-- What stands in for a log finds on its entries what the log finds, and tells it at the same lines.
use Rattle.std.proofs.Common.{◌≡◌, ℕ, suc, ◌+◌, ◌<◌, ◌≤◌, ◌||◌, inl, inr, Bool, true, false, cond, eqb, ltb, leb, max, List, [], ◌∷◌, ◌++◌, length, Option, Some, None, refl, sym, ◌∙◌, ap, subst, arith}
use Rattle.std.specs.Prelude.{All, filter, slice_get, option_map}
use Rattle.std.specs.List.{AllByRecursion, list_any}
use Rattle.std.proofs.Math.Bool.{or-true}
use Rattle.std.proofs.lemmas.Bool.{cases_lt, eqb-true, le-leb, leb-true}
use Rattle.std.proofs.lemmas.List.Elements.{All-append, All-from_recursion, All-weaker, recursion_from_All}
use Rattle.std.proofs.lemmas.List.Folds.{list_any-append}
use Rattle.version_chains.specs.Commits.{Commit}
use Rattle.trace_lines.specs.Values.{EntryValue, TraceValue}
use Rattle.token_order.specs.Order.{CommitLine, on_lines, commit_lines_of}
use Rattle.token_order.specs.Found.{open_snapshot}
use Rattle.evidence_check.specs.Evidences.{steps_of}
use Rattle.evidence_check.specs.Steps.{StepValue}
use Rattle.findings.specs.Findings.{found_on}
use Rattle.windows.specs.Compaction.{AreRising, above}
use Rattle.windows.specs.Cuts.{lines_between, window_of}
use Rattle.windows.specs.Windows.{IsWindow, IsWithin, NamesTheSame}
use Rattle.windows.proofs.CompactionLemmas.{IsUpTo, all_filtered, ordered}
use Rattle.windows.proofs.CutLemmas.{cut_law, filter_on, lines_of}
use Rattle.windows.proofs.GrownLemmas.{on_more_lines}
use Rattle.windows.proofs.NearestLemmas.{lines_in_time}
use Rattle.windows.proofs.WholeLemmas.{same_found, whole_up_to}
use Rattle.windows.proofs.WindowLemmas.{by_lines, by_times, found_law, open_there}
use Rattle.follow_laws.specs.Told.{line_reaching, settling_line, moments, at_moments}
use Rattle.carry_laws.specs.declared.known.Known.{Known}
use Rattle.carry_laws.specs.Carried.{StandsIn, has_commit_at, lines_above}
use Rattle.carry_laws.proofs.ReachLemmas.{any_on_lines, any_weaker, reached_above, reached_before, reaching_above, reaching_behind}

-- no timestamp of these is above their sum
abbrev pub bound : List Commit → ℕ
bound [] = 0
bound (c ∷ cs) = c.at + bound cs

pub within_bound : (m : ℕ) (cs : List Commit) → bound cs ≤ m → AllByRecursion (IsUpTo m) cs
within_bound m [] le = tt
within_bound m (c ∷ cs) le = (omega (arith, le), within_bound m cs (omega (arith, le)))

pub kept_all : {X : Type 0} (q : X → Bool) (xs : List X) → AllByRecursion (λ x. q x ≡ true) xs → filter q xs ≡ xs
kept_all q [] h = refl
kept_all {X} q (x ∷ xs) h = rw h.0 (ap (λ (ys : List X). x ∷ ys) (kept_all q xs h.1))

pub weaker : {X : Type 0} (P Q : X → Type 0) → ((x : X) → P x → Q x) → (xs : List X) → AllByRecursion P xs
    → AllByRecursion Q xs
weaker P Q h [] a = tt
weaker P Q h (x ∷ xs) a = (h x a.0, weaker P Q h xs a.1)

lines_from : (p : ℕ) (test : CommitLine → Bool) (cs : List CommitLine)
    → AllByRecursion (λ (c : CommitLine). test c ≡ true → p ≤ c.line) cs
    → AllByRecursion (λ (l : ℕ). p ≤ l) (lines_of (filter test cs))
lines_from p test [] h = tt
lines_from p test (c ∷ cs) h = by_test (lines_from p test cs h.1) (test c) refl
  where
    by_test : AllByRecursion (λ (l : ℕ). p ≤ l) (lines_of (filter test cs)) → (x : Bool) → test c ≡ x
        → AllByRecursion (λ (l : ℕ). p ≤ l) (lines_of (cond x (c ∷ filter test cs) (filter test cs)))
    by_test rest true is = (h.0 is, rest)
    by_test rest false is = rest

module _ (known : Known) (p : ℕ) (t x : TraceValue) (s : StandsIn known p t x) where
  abbrev b : ℕ
  b = known.base

  abbrev pub first_lines : List CommitLine
  first_lines = on_lines s.front_lines s.front

  abbrev pub rest_lines : List CommitLine
  rest_lines = filter (λ (c : CommitLine). ltb b c.at) (commit_lines_of t)

  pub lines_are : commit_lines_of x ≡ first_lines ++ rest_lines
  lines_are =
      ap (λ (cs : List Commit). on_lines x.commit_lines cs) s.commits
      ∙ ap (λ (ls : List ℕ). on_lines ls (s.front ++ above b t.commits)) s.on_lines
      ∙ on_more_lines s.front_lines (lines_above b t) s.front (above b t.commits) s.counted
      ∙ ap (λ (ds : List CommitLine). first_lines ++ ds) (sym (filter_on (λ at. ltb b at) t.commit_lines t.commits))

  pub first_up_to : AllByRecursion (λ (c : CommitLine). c.at ≤ b) first_lines
  first_up_to = by_times (λ at. at ≤ b) s.front_lines s.front (recursion_from_All (IsUpTo b) s.front s.stands.none_above)

  first_before : AllByRecursion (λ (c : CommitLine). c.line < p) first_lines
  first_before = by_lines (λ l. l < p) s.front_lines s.front (recursion_from_All (λ (l : ℕ). l < p) s.front_lines s.in_front)

  abbrev Folded : CommitLine → Type 0
  Folded c = c.at ≤ b → c.line < p

  folded_there : All Folded (commit_lines_of x)
  folded_there =
      subst (All Folded) (sym lines_are) (All-append Folded first_lines rest_lines
      (All-from_recursion Folded first_lines (weaker (λ (c : CommitLine). c.line < p) Folded (λ c lt le. lt) first_lines
      first_before))
      (All-from_recursion Folded rest_lines (all_filtered (λ (c : CommitLine). ltb b c.at) Folded (λ c up le.
      let lt = leb-true (suc b) c.at up in
      absurd (omega (arith, lt, le))) (commit_lines_of t))))

  pub reached_there : (q : ℕ) → list_any (λ (c : Commit). leb q c.at) t.commits ≡ true
      → list_any (λ (c : Commit). leb q c.at) x.commits ≡ true
  reached_there q h =
      ap (list_any reaches) s.commits
      ∙ list_any-append reaches s.front (above b t.commits)
      ∙ elim (reached_above b q t.commits h) [
        | inl there ↦ ap (λ (z : Bool). list_any reaches s.front || z) there ∙ or-true (list_any reaches s.front)
        | inr le ↦ ap (λ (z : Bool). z || list_any reaches (above b t.commits)) (any_weaker (λ (c : Commit). eqb c.at b)
            reaches (λ c is. le-leb q c.at (let same = eqb-true c.at b is in omega (arith, le, same))) s.front s.base_there)
      ]
    where
      reaches : Commit → Bool
      reaches c = leb q c.at

  module _ (rising : AreRising t.commits) (rising' : AreRising x.commits) (counted : length t.commit_lines ≡ length
      t.commits) (counted' : length x.commit_lines ≡ length x.commits) where
    -- ---- the line that settles an entry

    base_reached : (l : ℕ) × (line_reaching b (commit_lines_of t) ≡ Some l) × (l < p)
    base_reached =
        reached_before b p (commit_lines_of t) (lines_in_time t.commit_lines t.commits (ordered t.commits rising))
        (recursion_from_All Folded (commit_lines_of t) s.folded)
        (any_on_lines (λ at. eqb at b) t.commit_lines t.commits counted ∙ s.base)

    base_reached_there : (l : ℕ) × (line_reaching b (commit_lines_of x) ≡ Some l) × (l < p)
    base_reached_there =
        reached_before b p (commit_lines_of x) (lines_in_time x.commit_lines x.commits (ordered x.commits rising'))
        (recursion_from_All Folded (commit_lines_of x) folded_there)
        (any_on_lines (λ at. eqb at b) x.commit_lines x.commits counted'
        ∙ ap (has_commit_at b) s.commits
        ∙ list_any-append (λ (c : Commit). eqb c.at b) s.front (above b t.commits)
        ∙ ap (λ (z : Bool). z || has_commit_at b (above b t.commits)) s.base_there)

    at_own_line : (e : EntryValue) (y : TraceValue) → p ≤ e.line → e.snapshot ≡ b
        → (l : ℕ) × (line_reaching b (commit_lines_of y) ≡ Some l) × (l < p) → settling_line y e ≡ Some e.line
    at_own_line e y behind same r =
        let before = r.2 in
        let own : max e.line r.0 ≡ e.line = omega (arith, before, behind) in
        ap (λ (q : ℕ). option_map (max e.line) (line_reaching q (commit_lines_of y))) same
        ∙ ap (option_map (max e.line)) r.1
        ∙ ap Some own

    settles_alike : (e : EntryValue) → p ≤ e.line → b ≤ e.snapshot → settling_line x e ≡ settling_line t e
    settles_alike e behind from = elim (cases_lt b e.snapshot) [
      | inl lt ↦ ap (option_map (max e.line)) (
          ap (line_reaching e.snapshot) lines_are
          ∙ reaching_behind e.snapshot first_lines rest_lines (weaker (λ (c : CommitLine). c.at ≤ b) (λ (c : CommitLine).
          c.at < e.snapshot) (λ c le. omega (arith, le, lt)) first_lines first_up_to)
          ∙ reaching_above b e.snapshot (commit_lines_of t) lt)
      | inr le ↦
          let same : e.snapshot ≡ b = omega (arith, from, le) in
          at_own_line e x behind same base_reached_there ∙ sym (at_own_line e t behind same base_reached)
    ]

    -- ---- a window of the log

    module _ (h : ℕ) (down : AllByRecursion (IsUpTo h) t.commits) where
      all_lines : filter (λ (c : CommitLine). leb c.at h) (commit_lines_of t) ≡ commit_lines_of t
      all_lines = kept_all (λ (c : CommitLine). leb c.at h) (commit_lines_of t) (weaker (λ (c : CommitLine). c.at ≤ h)
          (λ (c : CommitLine). leb c.at h ≡ true) (λ c le. le-leb c.at h le) (commit_lines_of t) (by_times (λ at. at ≤ h)
          t.commit_lines t.commits down))

      abbrev whole : TraceValue
      whole = window_of b h s.front s.front_lines x.entries t

      same_trace : whole ≡ x
      same_trace = λ k. record {
        declarations = (sym s.declarations) k;
        commits = (ap (λ (cs : List Commit). s.front ++ above b cs) (whole_up_to h t.commits down) ∙ sym s.commits) k;
        commit_lines = (ap (λ (cs : List CommitLine). s.front_lines ++ lines_of (filter (λ (c : CommitLine). ltb b c.at)
            cs)) all_lines ∙ sym s.on_lines) k;
        entries = x.entries;
      }

      behind_front : All (λ (l : ℕ). p ≤ l) (lines_between b h t)
      behind_front =
          subst (λ (cs : List CommitLine). All (λ (l : ℕ). p ≤ l) (lines_of (filter (λ (c : CommitLine). ltb b c.at) cs)))
          (sym all_lines) (All-from_recursion (λ (l : ℕ). p ≤ l) (lines_above b t) (lines_from p (λ (c : CommitLine). ltb b
          c.at) (commit_lines_of t) (weaker (λ (c : CommitLine). b < c.at → p ≤ c.line) (λ (c : CommitLine). ltb b c.at ≡ true
          → p ≤ c.line) (λ c f up. f (leb-true (suc b) c.at up)) (commit_lines_of t) (recursion_from_All (λ (c :
          CommitLine). b < c.at → p ≤ c.line) (commit_lines_of t) s.behind))))

      pub window : IsWindow (λ l. l) p b h t x
      window = subst (IsWindow (λ l. l) p b h t) same_trace (cut_law b h p t s.front s.front_lines x.entries s.stands
          s.counted s.in_front behind_front)

    -- ---- an entry on its line, which stands behind m commits of the log

    module _ (d : EntryValue) (m : ℕ) (from : b ≤ d.snapshot) (behind : p ≤ d.line) where
      abbrev e : EntryValue
      e = record d { line = d.line; before = m }

      abbrev end : ℕ
      end = d.snapshot + bound t.commits

      down : AllByRecursion (IsUpTo end) t.commits
      down = within_bound end t.commits (omega arith)

      within : IsWithin b end t e
      within = record {
        from = from;
        to = omega arith;
        earlier = All-from_recursion (λ (c : CommitLine). c.line < e.line → c.at ≤ end) (commit_lines_of t) (weaker (λ (c :
            CommitLine). c.at ≤ end) (λ (c : CommitLine). c.line < e.line → c.at ≤ end) (λ c le lt. le) (commit_lines_of t)
            (by_times (λ at. at ≤ end) t.commit_lines t.commits down));
        later = All-weaker Folded (λ (c : CommitLine). e.line < c.line → b < c.at) (λ c f lt. elim (cases_lt b c.at) [
          | inl up ↦ up
          | inr le ↦ let before = f le in absurd (omega (arith, before, behind, lt))
        ]) (commit_lines_of t) s.folded;
      }

      open_alike : open_snapshot x d ≡ open_snapshot t e
      open_alike = same_line (open_snapshot x d) ∙ open_there (λ l. l) p b end t x (window end down) rising rising' d m
          behind within
        where
          same_line : (o : Option ℕ) → o ≡ option_map (λ l. l) o
          same_line None = refl
          same_line (Some l) = refl

      moments_alike : moments x d ≡ moments t e
      moments_alike = λ k.
          Some d.line ∷ Some d.line ∷ Some d.line ∷ open_alike k ∷ Some d.line ∷ Some d.line
          ∷ settles_alike d behind from k ∷ []

      pub told_there : (i j : ℕ) → slice_get t.entries i ≡ Some e → slice_get x.entries j ≡ Some d
          → NamesTheSame (λ l. l) t i x j → (evidence own : List (Option (List StepValue)))
          → steps_of own j ≡ steps_of evidence i → (test : Option ℕ → Bool)
          → at_moments test (moments x d) (found_on x own j d) ≡ at_moments test (moments t e) (found_on t evidence i e)
      told_there i j at there names evidence own steps test =
          ap (λ (ms : List (Option ℕ)). at_moments test ms (found_on x own j d)) moments_alike
          ∙ ap (at_moments test (moments t e)) (sym (same_found (found_on x own j d))
          ∙ found_law (λ l. l) p b end t x (window end down) rising rising' i j e d at there refl behind within names evidence
          own steps)
