-- The line that settles an entry is the first at which the log so far settles it.
use Rattle.std.proofs.Common.{◌≡◌, ℕ, suc, ◌+◌, ◌<◌, ◌≤◌, ◌↔◌, max, [], Option, Some, None, refl, sym, ◌∙◌, ap, subst, arith, append-nil}
use Rattle.std.specs.Prelude.{slice_get, option_map, Contains, IsSomeAnd}
use Rattle.std.proofs.lemmas.List.Elements.{All-nil, recursion_from_All}
use Rattle.namespaces.specs.Declaration.{Declaration}
use Rattle.trace_lines.specs.Values.{EntryValue, TraceValue, next_line}
use Rattle.token_order.specs.Order.{commit_lines_of}
use Rattle.follow_laws.specs.Begun.{IsOfBytes, Begins}
use Rattle.windows.specs.Growth.{IsSettled}
use Rattle.follow_laws.specs.Told.{line_reaching, settling_line}
use Rattle.follow_laws.proofs.OnceLemmas.{own_line, settling_within}
use Rattle.windows.proofs.SettledLemmas.{new_lines, lines_more}
use Rattle.follow_laws.proofs.StaysLemmas.{lines_from, reaching_more, reaching_new}
use Rattle.follow_laws.proofs.ThroughLemmas.{reaching}
use Rattle.follow_laws.proofs.ToldLemmas.{settled_at}

pub itself_law : (k : ℕ) (t : TraceValue) → IsOfBytes t → next_line t ≤ k + 1 → Begins k t t
itself_law k t good within = record {
  goes = record {
    declarations = [];
    commits = [];
    commit_lines = [];
    entries = [];
    declared = sym (append-nil t.declarations);
    committed = sym (append-nil t.commits);
    on_lines = sym (append-nil t.commit_lines);
    recorded = sym (append-nil t.entries);
    within = within;
    commits_behind = All-nil (λ (l : ℕ). k < l);
    entries_behind = All-nil (λ (e : EntryValue). k < e.line);
    changes = λ begun. All-nil (λ (d : Declaration). Contains [] d.at);
  };
  first = good;
  whole = good;
}

pub first_law : (k : ℕ) (t u : TraceValue) → Begins k t u → (i : ℕ) (e : EntryValue) → slice_get t.entries i ≡ Some e
    → (IsSettled t e ↔ IsSomeAnd (settling_line u e) (λ m. m ≤ k))
first_law k t u b i e at = (
  λ settled.
      let r = reaching e.snapshot t.commit_lines t.commits b.first.rising.commits.counted settled in
      let m = max e.line r.0 in
      let before = settling_within t b.first e (own_line t b.first i e at) m (ap (option_map (max e.line)) r.1) in
      let within = b.goes.within in
      let in_longer : settling_line u e ≡ Some m = ap (option_map (max e.line)) (ap (line_reaching e.snapshot) (lines_more t u b.goes b.first.rising b.whole.rising) ∙ reaching_more e.snapshot (commit_lines_of t) (new_lines t u b.goes b.first.rising b.whole.rising) r.0 r.1) in
      subst (λ (o : Option ℕ). IsSomeAnd o (λ n. n ≤ k)) (sym in_longer) (omega (arith, before, within)),
  λ h. by_first (line_reaching e.snapshot (commit_lines_of t)) refl h,
)
  where
    by_new : (o : Option ℕ) → line_reaching e.snapshot (commit_lines_of t) ≡ None
        → line_reaching e.snapshot (commit_lines_of u) ≡ o → IsSomeAnd (option_map (max e.line) o) (λ m. m ≤ k)
        → IsSettled t e
    by_new None none is h = absurd h
    by_new (Some l) none is h =
        let from = reaching_new e.snapshot (suc k) (commit_lines_of t) (new_lines t u b.goes b.first.rising b.whole.rising) (lines_from (suc k)
        b.goes.commit_lines b.goes.commits (recursion_from_All (λ (m : ℕ). k < m) b.goes.commit_lines b.goes.commits_behind)) none l (sym
        (ap (line_reaching e.snapshot) (lines_more t u b.goes b.first.rising b.whole.rising)) ∙ is) in
        absurd (omega (arith, from, h))

    by_first : (o : Option ℕ) → line_reaching e.snapshot (commit_lines_of t) ≡ o
        → IsSomeAnd (settling_line u e) (λ m. m ≤ k) → IsSettled t e
    by_first None is h = by_new (line_reaching e.snapshot (commit_lines_of u)) is refl h
    by_first (Some l) is h = settled_at t e (max e.line l) (ap (option_map (max e.line)) is)
