-- A whole trace is a window of itself.
use Rattle.std.proofs.Common.{◌≡◌, ℕ, ◌<◌, ◌≤◌, List, [], ◌∷◌, map, Option, Some, None, refl, sym, ◌∙◌, ap, subst, arith}
use Rattle.std.specs.Prelude.{All, slice_get, option_map}
use Rattle.std.specs.List.{AllByRecursion}
use Rattle.std.proofs.lemmas.Bool.{le-leb}
use Rattle.std.proofs.lemmas.List.Elements.{recursion_from_All, All-from_recursion}
use Rattle.version_chains.specs.Commits.{Commit}
use Rattle.trace_lines.specs.Values.{EntryValue, TraceValue}
use Rattle.token_order.specs.Order.{CommitLine, commit_lines_of}
use Rattle.evidence_check.specs.Steps.{StepValue}
use Rattle.findings.specs.Findings.{found_on, on_line}
use Rattle.findings.specs.declared.finding.What.{What}
use Rattle.findings.specs.declared.finding.What.TheVariants.{Stale, OldToken, NotLatest, OpenSnapshot, WrongToken, UnknownVersion, NoEvidence, BadEvidence, Silent, WrongReply}
use Rattle.windows.specs.Compaction.{AreRising, above, up_to, StandsFor}
use Rattle.windows.specs.Cuts.{window_of}
use Rattle.windows.specs.Windows.{IsWindow, IsWithin, relined, IsSeenClean}
use Rattle.windows.proofs.CompactionLemmas.{IsAbove, IsUpTo, whole_above, log_out, stored_alike}
use Rattle.windows.proofs.CutLemmas.{cut_law}
use Rattle.windows.proofs.WindowLemmas.{found_law, by_times}

pub whole_up_to : (h : ℕ) (cs : List Commit) → AllByRecursion (IsUpTo h) cs → up_to h cs ≡ cs
whole_up_to h [] a = refl
whole_up_to h (c ∷ cs) a = rw (le-leb c.at h a.0) (ap (λ (ds : List Commit). c ∷ ds) (whole_up_to h cs a.1))

same_what : (x : What) → relined (λ l. l) x ≡ x
same_what Stale = refl
same_what (OldToken l) = refl
same_what (NotLatest l) = refl
same_what (OpenSnapshot l) = refl
same_what WrongToken = refl
same_what UnknownVersion = refl
same_what NoEvidence = refl
same_what (BadEvidence k) = refl
same_what Silent = refl
same_what WrongReply = refl

pub same_found : (xs : List (Option What)) → map (option_map (relined (λ l. l))) xs ≡ xs
same_found [] = refl
same_found (None ∷ xs) = ap (λ (ys : List (Option What)). None ∷ ys) (same_found xs)
same_found (Some x ∷ xs) = ap (λ (y : What). Some y ∷ map (option_map (relined (λ l. l))) xs) (same_what x)
    ∙ ap (λ (ys : List (Option What)). Some x ∷ ys) (same_found xs)

pub whole_law : (b h : ℕ) (t : TraceValue) → AreRising t.commits → All (λ c. b < c.at) t.commits
    → All (λ c. c.at ≤ h) t.commits
    → (i : ℕ) (e : EntryValue) → slice_get t.entries i ≡ Some e → b ≤ e.snapshot → e.snapshot ≤ h
    → (evidence : List (Option (List StepValue))) → on_line e.line (found_on t evidence i e) ≡ [] → IsSeenClean t i e
whole_law b h t rising all_above all_to i e at from to evidence clean =
    let up = recursion_from_All (IsAbove b) t.commits all_above in
    let down = recursion_from_All (IsUpTo h) t.commits all_to in
    let whole : above b (up_to h t.commits) ≡ t.commits = ap (above b) (whole_up_to h t.commits down)
    ∙ whole_above b t.commits up in
    let w : TraceValue = window_of b h [] [] t.entries t in
    let stands : StandsFor [] b t.commits = record {
      none_above = All-from_recursion (IsUpTo b) [] tt;
      stored = stored_alike [] t.commits b b (λ x. rw (log_out b t.commits up) refl);
    } in
    let window : IsWindow (λ l. l) 0 b h t w = cut_law b h 0 t [] [] t.entries stands refl (All-from_recursion (λ (l :
    ℕ). l < 0) [] tt) (λ k d lt. omega arith) in
    let rising' : AreRising w.commits = subst AreRising (sym whole) rising in
    let within : IsWithin b h t e = record {
      from = from;
      to = to;
      earlier = All-from_recursion (λ (c : CommitLine). c.line < e.line
          → c.at ≤ h) (commit_lines_of t) (given (λ at. at ≤ h) (λ l. l < e.line) (commit_lines_of t) (by_times (λ at.
          at ≤ h) t.commit_lines t.commits down));
      later = All-from_recursion (λ (c : CommitLine). e.line < c.line
          → b < c.at) (commit_lines_of t) (given (λ at. b < at) (λ l. e.line < l) (commit_lines_of t) (by_times (λ at.
          b < at) t.commit_lines t.commits up));
    } in
    let found = found_law (λ l. l) 0 b h t w window rising rising' i i e e at at refl (omega arith) within (record {
      snapshot = refl;
      line = refl;
    }) evidence evidence refl in
    record {
      line = λ l. l;
      first = 0;
      from = b;
      to = h;
      window = w;
      rising = rising';
      cut = window;
      place = i;
      entry = e;
      there = at;
      copied = refl;
      own = omega arith;
      within = within;
      names = record { snapshot = refl; line = refl };
      evidence = evidence;
      clean = ap (on_line e.line) (sym (same_found (found_on w evidence i e)) ∙ found) ∙ clean;
    }
  where
    given : (P Q : ℕ → Type 0) (cs : List CommitLine) → AllByRecursion (λ (c : CommitLine). P c.at) cs
        → AllByRecursion (λ (c : CommitLine). Q c.line → P c.at) cs
    given P Q [] a = tt
    given P Q (c ∷ cs) a = (λ _. a.0, given P Q cs a.1)
