-- What stands in for a log stands in for it when the same lines have come behind both.
use Rattle.std.proofs.Common.{◌≡◌, ℕ, suc, ◌+◌, ◌<◌, ◌≤◌, ◌||◌, ◌⊎◌, inl, inr, Bool, true, false, cond, eqb, ltb, leb, List, [], ◌∷◌, ◌++◌, length, map, Some, refl, sym, ◌∙◌, ap, subst, arith, append_assoc, length-append}
use Rattle.std.specs.Prelude.{All, filter, slice_get}
use Rattle.std.specs.List.{AllByRecursion, list_any}
use Rattle.std.proofs.Math.Bool.{or-true}
use Rattle.std.proofs.lemmas.Bool.{cases_lt, eqb-true, le-leb, lt-ltb, le-ltb}
use Rattle.std.proofs.lemmas.List.{map-append}
use Rattle.std.proofs.lemmas.List.Elements.{All-append, All-from_recursion, filter-append, recursion_from_All}
use Rattle.std.proofs.lemmas.List.Folds.{list_any-append}
use Rattle.version_chains.specs.Commits.{Commit, store_at}
use Rattle.marks.proofs.PlacedLemmas.{slice_get-front}
use Rattle.trace_lines.specs.Values.{EntryValue, TraceValue, after_last, entry_lines}
use Rattle.token_order.specs.Order.{CommitLine, on_lines, commit_lines_of}
use Rattle.windows.specs.Alike.{AreSameTuples}
use Rattle.windows.specs.Compaction.{StandsFor, above}
use Rattle.windows.specs.Growth.{GoesOn, IsSettled, is_settled}
use Rattle.windows.proofs.CompactionLemmas.{IsAbove, ordered, whole_above}
use Rattle.windows.proofs.CutLemmas.{lines_of}
use Rattle.windows.proofs.GrownLemmas.{behind, same_store}
use Rattle.windows.proofs.SettledLemmas.{all_above, lines_more, new_lines}
use Rattle.windows.proofs.WindowLemmas.{by_times}
use Rattle.follow_laws.specs.Begun.{Begins}
use Rattle.follow_laws.proofs.OnceLemmas.{below_last}
use Rattle.follow_laws.proofs.StaysLemmas.{lines_from}
use Rattle.carry_laws.specs.declared.known.Known.{Known}
use Rattle.carry_laws.specs.Carried.{GoesOnAlike, StandsIn, has_commit_at, lines_above, placeless}
use Rattle.carry_laws.proofs.ReachLemmas.{any_weaker}
use Rattle.carry_laws.proofs.StandInLemmas.{kept_all, weaker}

pub all_lines : (ls : List ℕ) (cs : List Commit) → length ls ≡ length cs → lines_of (on_lines ls cs) ≡ ls
all_lines [] cs e = refl
all_lines (l ∷ ls) [] e = absurd (omega (arith, e))
all_lines (l ∷ ls) (c ∷ cs) e = ap (λ (ms : List ℕ). l ∷ ms) (all_lines ls cs (omega (arith, e)))

-- the test that keeps what came up to line n by another test, and all behind it
abbrev pub keeps_behind : ℕ → (EntryValue → Bool) → EntryValue → Bool
keeps_behind n keep e = keep e || ltb n e.line

kept_before : (n : ℕ) (keep : EntryValue → Bool) (es : List EntryValue) → AllByRecursion (λ l. l ≤ n) (entry_lines es)
    → filter (keeps_behind n keep) es ≡ filter keep es
kept_before n keep [] h = refl
kept_before n keep (e ∷ es) h = by_test (kept_before n keep es h.1) (keep e)
  where
    by_test : filter (keeps_behind n keep) es ≡ filter keep es → (x : Bool)
        → cond (x || ltb n e.line) (e ∷ filter (keeps_behind n keep) es) (filter (keeps_behind n keep) es) ≡ cond x (e ∷ filter
        keep es) (filter keep es)
    by_test rest true = ap (λ (xs : List EntryValue). e ∷ xs) rest
    by_test rest false = rw (le-ltb n e.line h.0) rest

module _ {n : ℕ} (known : Known) (p : ℕ) (t u x y : TraceValue) (goes : Begins n t u) (s : StandsIn known p t x) (within :
    p ≤ n + 1) (a : GoesOnAlike goes.goes x y) where
  abbrev b : ℕ
  b = known.base

  abbrev g : GoesOn n t u
  g = goes.goes

  abbrev keep : EntryValue → Bool
  keep = keeps_behind n s.keep

  -- ---- commits

  new_above : AllByRecursion (IsAbove b) g.commits
  new_above =
      all_above b t.commits g.commits (rw (← g.committed) (ordered u.commits goes.whole.rising.commits.timestamps))
      (any_weaker (λ (c : Commit). eqb c.at b) (λ (c : Commit). leb b c.at) (λ c is. le-leb b c.at (let same = eqb-true c.at b is in
      omega (arith, same))) t.commits s.base)

  more_above : above b u.commits ≡ above b t.commits ++ g.commits
  more_above =
      ap (above b) g.committed
      ∙ filter-append (λ (c : Commit). ltb b c.at) t.commits g.commits
      ∙ ap (λ (cs : List Commit). above b t.commits ++ cs) (whole_above b g.commits new_above)

  pub commits : y.commits ≡ s.front ++ above b u.commits
  commits =
      a.committed
      ∙ ap (λ (cs : List Commit). cs ++ g.commits) s.commits
      ∙ append_assoc s.front (above b t.commits) g.commits
      ∙ ap (λ (cs : List Commit). s.front ++ cs) (sym more_above)

  abbrev more : List CommitLine
  more = new_lines t u g goes.first.rising goes.whole.rising

  more_are : commit_lines_of u ≡ commit_lines_of t ++ more
  more_are = lines_more t u g goes.first.rising goes.whole.rising

  counted : length g.commit_lines ≡ length g.commits
  counted =
      let of_u = goes.whole.rising.commits.counted in
      let of_t = goes.first.rising.commits.counted in
      let ls = ap length g.on_lines ∙ length-append t.commit_lines g.commit_lines in
      let cs = ap length g.committed ∙ length-append t.commits g.commits in
      omega (arith, of_u, of_t, ls, cs)

  more_later : AllByRecursion (λ (c : CommitLine). b < c.at) more
  more_later = by_times (λ at. b < at) g.commit_lines g.commits new_above

  more_lines_above : lines_above b u ≡ lines_above b t ++ g.commit_lines
  more_lines_above =
      ap (λ (cs : List CommitLine). lines_of (filter later cs)) more_are
      ∙ ap lines_of (filter-append later (commit_lines_of t) more
      ∙ ap (λ (cs : List CommitLine). filter later (commit_lines_of t) ++ cs) (kept_all later more (weaker (λ (c : CommitLine).
      b < c.at) (λ (c : CommitLine). later c ≡ true) (λ c lt. lt-ltb b c.at lt) more more_later)))
      ∙ map-append (λ (c : CommitLine). c.line) (filter later (commit_lines_of t)) more
      ∙ ap (λ (ls : List ℕ). lines_above b t ++ ls) (all_lines g.commit_lines g.commits counted)
    where
      later : CommitLine → Bool
      later c = ltb b c.at

  pub lines : y.commit_lines ≡ s.front_lines ++ lines_above b u
  lines =
      a.on_lines
      ∙ ap (λ (ls : List ℕ). ls ++ g.commit_lines) s.on_lines
      ∙ append_assoc s.front_lines (lines_above b t) g.commit_lines
      ∙ ap (λ (ls : List ℕ). s.front_lines ++ ls) (sym more_lines_above)

  -- ---- entries

  old_lines : AllByRecursion (λ (l : ℕ). l ≤ n) (entry_lines t.entries)
  old_lines =
      let to = g.within in
      weaker (λ (l : ℕ). l < after_last (entry_lines t.entries)) (λ (l : ℕ). l ≤ n) (λ l lt. omega (arith, lt, to))
      (entry_lines t.entries) (below_last (entry_lines t.entries) goes.first.rising.entries)

  new_kept : filter keep g.entries ≡ g.entries
  new_kept = kept_all keep g.entries (weaker (λ (e : EntryValue). n < e.line) (λ (e : EntryValue). keep e ≡ true) (λ e lt.
      ap (λ (z : Bool). s.keep e || z) (lt-ltb n e.line lt) ∙ or-true (s.keep e)) g.entries (recursion_from_All (λ (e :
      EntryValue). n < e.line) g.entries g.entries_behind))

  kept_more : filter keep u.entries ≡ filter s.keep t.entries ++ g.entries
  kept_more =
      ap (filter keep) g.recorded
      ∙ filter-append keep t.entries g.entries
      ∙ ap (λ (es : List EntryValue). es ++ filter keep g.entries) (kept_before n s.keep t.entries old_lines)
      ∙ ap (λ (es : List EntryValue). filter s.keep t.entries ++ es) new_kept

  pub entries : map placeless y.entries ≡ map placeless (filter keep u.entries)
  entries =
      a.recorded
      ∙ map-append placeless x.entries g.entries
      ∙ ap (λ (es : List EntryValue). es ++ map placeless g.entries) s.entries
      ∙ sym (map-append placeless (filter s.keep t.entries) g.entries)
      ∙ ap (map placeless) (sym kept_more)

  -- an entry of the longer log stands up to line n and in the log so far, or behind that line
  pub either : (i : ℕ) (e : EntryValue) → slice_get u.entries i ≡ Some e → (slice_get t.entries i ≡ Some e) ⊎ (n < e.line)
  either i e at = elim (cases_lt i (length t.entries)) [
    | inl lt ↦ inl (sym (slice_get-front t.entries g.entries i lt) ∙ there)
    | inr ge ↦ inr (behind (λ (d : EntryValue). n < d.line) t.entries g.entries g.entries_behind i e ge there)
  ]
    where
      there : slice_get (t.entries ++ g.entries) i ≡ Some e
      there = sym (ap (λ (es : List EntryValue). slice_get es i) g.recorded) ∙ at

  still_settled : (e : EntryValue) → is_settled t e ≡ true → is_settled u e ≡ true
  still_settled e h =
      ap (list_any reaches) g.committed
      ∙ list_any-append reaches t.commits g.commits
      ∙ ap (λ (z : Bool). z || list_any reaches g.commits) h
    where
      reaches : Commit → Bool
      reaches c = leb e.snapshot c.at

  pub unsettled_kept : (i : ℕ) (e : EntryValue) → slice_get u.entries i ≡ Some e → is_settled u e ≡ false → (keep e ≡ true) × (p ≤ e.line)
  unsettled_kept i e at unset = elim (either i e at) [
    | inr lt ↦ (
      ap (λ (z : Bool). s.keep e || z) (lt-ltb n e.line lt) ∙ or-true (s.keep e),
      omega (arith, lt, within),
    )
    | inl old ↦ by_settled old (is_settled t e) refl
  ]
    where
      by_settled : slice_get t.entries i ≡ Some e → (z : Bool) → is_settled t e ≡ z → (keep e ≡ true) × (p ≤ e.line)
      by_settled old true is = let yes : false ≡ true = sym unset ∙ still_settled e is in absurd cc
      by_settled old false is =
          let kept = s.keeps.unsettled i e old is in
          (ap (λ (z : Bool). z || ltb n e.line) kept.0, kept.1)

  -- what is not kept was settled up to line n
  pub dropped : (i : ℕ) (e : EntryValue) → slice_get u.entries i ≡ Some e → keep e ≡ false
      → (slice_get t.entries i ≡ Some e) × IsSettled t e
  dropped i e at unkept = elim (either i e at) [
    | inr lt ↦
        let yes : true ≡ false = sym (ap (λ (z : Bool). s.keep e || z) (lt-ltb n e.line lt) ∙ or-true (s.keep e)) ∙ unkept in
        absurd cc
    | inl old ↦ (old, by_settled old (is_settled t e) refl)
  ]
    where
      by_settled : slice_get t.entries i ≡ Some e → (z : Bool) → is_settled t e ≡ z → is_settled t e ≡ true
      by_settled old true is = is
      by_settled old false is =
          let yes : true ≡ false = sym (ap (λ (z : Bool). z || ltb n e.line) (s.keeps.unsettled i e old is).0) ∙ unkept in absurd cc

  -- ---- all of it

  pub stands : StandsFor s.front b u.commits
  stands = record {
    none_above = s.stands.none_above;
    stored = subst (λ (cs : List Commit). AreSameTuples (store_at s.front b) (store_at cs b)) (sym g.committed)
        (subst (AreSameTuples (store_at s.front b)) (sym (same_store b t.commits g.commits new_above)) s.stands.stored);
  }

  pub folded : All (λ (c : CommitLine). c.at ≤ b → c.line < p) (commit_lines_of u)
  folded = subst (All Folded) (sym more_are) (All-append Folded (commit_lines_of t) more s.folded (All-from_recursion Folded
      more (weaker (λ (c : CommitLine). b < c.at) Folded (λ c lt le. absurd (omega (arith, lt, le))) more more_later)))
    where
      Folded : CommitLine → Type 0
      Folded c = c.at ≤ b → c.line < p

  pub behind_base : All (λ (c : CommitLine). b < c.at → p ≤ c.line) (commit_lines_of u)
  behind_base = subst (All Behind) (sym more_are) (All-append Behind (commit_lines_of t) more s.behind (All-from_recursion Behind
      more (weaker (λ (c : CommitLine). suc n ≤ c.line) Behind (λ c le lt. omega (arith, le, within)) more (lines_from (suc n)
      g.commit_lines g.commits (recursion_from_All (λ (l : ℕ). n < l) g.commit_lines g.commits_behind)))))
    where
      Behind : CommitLine → Type 0
      Behind c = b < c.at → p ≤ c.line

  abbrev pub onward : StandsIn known p u y
  onward = record {
    front = s.front;
    front_lines = s.front_lines;
    keep = keep;
    declarations = a.declared ∙ ap (λ ds. ds ++ g.declarations) s.declarations ∙ sym g.declared;
    commits = commits;
    on_lines = lines;
    entries = entries;
    stands = stands;
    base = ap (has_commit_at b) g.committed
        ∙ list_any-append (λ (c : Commit). eqb c.at b) t.commits g.commits
        ∙ ap (λ (z : Bool). z || has_commit_at b g.commits) s.base;
    base_there = s.base_there;
    counted = s.counted;
    in_front = s.in_front;
    folded = folded;
    behind = behind_base;
    keeps = record {
      unsettled = unsettled_kept;
      issuers = λ v e is from. ap (λ (z : Bool). z || ltb n e.line) (s.keeps.issuers v e is from);
      by_face = λ e. ap (λ (z : Bool). z || ltb n e.line) (s.keeps.by_face e);
    };
  }
