-- The findings on an entry's tokens, by what is next to it.
use Rattle.std.proofs.Common.{◌≡◌, ℕ, suc, ◌<◌, Bool, true, false, cond, ltb, leb, List, [], ◌∷◌, Option, Some, None, refl, sym, ◌∙◌, ap, arith, ◌||◌, ◌&&◌}
use Rattle.std.specs.Prelude.{slice_get, filter, is_none, is_some, option_and_then, option_map}
use Rattle.std.specs.List.{AllByRecursion, list_any}
use Rattle.std.specs.Option.{option_or}
use Rattle.std.proofs.Math.Bool.{or-false}
use Rattle.std.proofs.lemmas.Bool.{lt-ltb, le-leb, leb-true}
use Rattle.version_chains.specs.Commits.{Commit}
use Rattle.trace_lines.specs.Values.{EntryValue, TraceValue}
use Rattle.trace_lines.specs.Versions.{Version, entry_version, version_named, content_of}
use Rattle.trace_lines.proofs.IssuedVersions.{Means, named_content-means}
use Rattle.token_order.specs.Order.{CommitLine, on_lines, commit_lines_of}
use Rattle.token_order.specs.Found.{is_content, is_stale, is_wrong_token, old_token, earlier_commits, later_commits, first_line, last_line, not_latest, open_snapshot, is_unknown_version, order_of}
use Rattle.windows.specs.Compaction.{AreRising}
use Rattle.windows.specs.Nearest.{last_of, first_of_all, commit_before, commit_behind, content_entry, line_where, order_by}
use Rattle.windows.proofs.Rising.{AreInOrder, order_kept}
use Rattle.windows.proofs.CompactionLemmas.{AreOrdered, IsAbove, ordered}

-- ---- commits with their lines, by timestamps that rise

abbrev pub IsLater : ℕ → CommitLine → Type 0
IsLater at c = at < c.at

abbrev pub AreInTime : List CommitLine → Type 0
AreInTime = AreInOrder (λ (c : CommitLine). c.at)

later_lines : (at : ℕ) (ls : List ℕ) (cs : List Commit) → AllByRecursion (IsAbove at) cs
    → AllByRecursion (IsLater at) (on_lines ls cs)
later_lines at [] cs h = tt
later_lines at (l ∷ ls) [] h = tt
later_lines at (l ∷ ls) (c ∷ cs) h = (h.0, later_lines at ls cs h.1)

pub lines_in_time : (ls : List ℕ) (cs : List Commit) → AreOrdered cs → AreInTime (on_lines ls cs)
lines_in_time [] cs h = tt
lines_in_time (l ∷ ls) [] h = tt
lines_in_time (l ∷ ls) (c ∷ cs) h = (later_lines c.at ls cs h.0, lines_in_time ls cs h.1)

pub in_time_filtered : (p : CommitLine → Bool) (cs : List CommitLine) → AreInTime cs → AreInTime (filter p cs)
in_time_filtered = order_kept (λ (c : CommitLine). c.at)

-- ---- the last and the first tell all

or_implied : (a b : Bool) → (a ≡ true → b ≡ true) → (a || b) ≡ b
or_implied true b h = sym (h refl)
or_implied false b h = refl

or_implying : (a b : Bool) → (b ≡ true → a ≡ true) → (a || b) ≡ a
or_implying true b h = refl
or_implying false true h = sym (h refl)
or_implying false false h = refl

abbrev pub exceeds : ℕ → CommitLine → Bool
exceeds s c = ltb s c.at

abbrev pub covered : ℕ → CommitLine → Bool
covered s c = leb c.at s

last_line_is : (cs : List CommitLine) → last_line cs ≡ option_map (λ (c : CommitLine). c.line) (last_of cs)
last_line_is [] = refl
last_line_is (c ∷ cs) = ap (λ (o : Option ℕ). option_or o (Some c.line)) (last_line_is cs) ∙ by_last (last_of cs)
  where
    by_last : (o : Option CommitLine)
        → option_or (option_map (λ (d : CommitLine). d.line) o) (Some c.line) ≡ option_map (λ (d : CommitLine). d.line)
        (option_or o (Some c))
    by_last None = refl
    by_last (Some d) = refl

last_tells : (s : ℕ) (cs : List CommitLine) → AreInTime cs
    → cond (list_any (exceeds s) cs) (last_line cs) None ≡ line_where (λ at. ltb s at) (last_of cs)
last_tells s [] h = refl
last_tells s (c ∷ []) h = ap (λ (b : Bool). cond b (Some c.line) None) (or-false (exceeds s c))
last_tells s (c ∷ d ∷ ds) h =
    ap (λ (b : Bool). cond b (last_line (c ∷ d ∷ ds)) None)
    (or_implied (exceeds s c) (list_any (exceeds s) (d ∷ ds)) (λ e. let lt : s < c.at = leb-true (suc s) c.at e in
    let up = h.0.0 in rw (lt-ltb s d.at (omega (arith, lt, up))) refl))
    ∙ ap (λ (o : Option ℕ). cond (list_any (exceeds s) (d ∷ ds)) o None) (same_line (last_of ds))
    ∙ last_tells s (d ∷ ds) h.1
    ∙ same_commit (last_of ds)
  where
    same_line : (o : Option CommitLine) → last_line (c ∷ d ∷ ds) ≡ last_line (d ∷ ds)
    same_line o = ap (λ (l : Option ℕ). option_or (option_or l (Some d.line)) (Some c.line)) (last_line_is ds)
        ∙ by_last (last_of ds) ∙ ap (λ (l : Option ℕ). option_or l (Some d.line)) (sym (last_line_is ds))
      where
        by_last : (o : Option CommitLine)
            → option_or (option_or (option_map (λ (x : CommitLine). x.line) o) (Some d.line)) (Some c.line) ≡ option_or
            (option_map (λ (x : CommitLine). x.line) o) (Some d.line)
        by_last None = refl
        by_last (Some x) = refl

    same_commit : (o : Option CommitLine)
        → line_where (λ at. ltb s at) (option_or o (Some d)) ≡ line_where (λ at. ltb s at) (option_or (option_or o
        (Some d)) (Some c))
    same_commit None = refl
    same_commit (Some x) = refl

pub none_earlier : (s : ℕ) (at : ℕ) (cs : List CommitLine) → AllByRecursion (IsLater at) cs
    → list_any (covered s) cs ≡ true → leb at s ≡ true
none_earlier s at [] h e = cc
none_earlier s at (c ∷ cs) h e = by_test (none_earlier s at cs h.1) (leb c.at s) refl e
  where
    by_test : (list_any (covered s) cs ≡ true → leb at s ≡ true) → (b : Bool) → leb c.at s ≡ b
        → (b || list_any (covered s) cs) ≡ true → leb at s ≡ true
    by_test rest true le k = let a = leb-true c.at s le in let up = h.0 in le-leb at s (omega (arith, a, up))
    by_test rest false le k = rest k

first_tells : (s : ℕ) (cs : List CommitLine) → AreInTime cs
    → cond (list_any (covered s) cs) (first_line cs) None ≡ line_where (λ at. leb at s) (first_of_all cs)
first_tells s [] h = refl
first_tells s (c ∷ cs) h = ap (λ (b : Bool). cond b (Some c.line) None) (or_implying (covered s c) (list_any (covered
    s) cs) (none_earlier s c.at cs h.0))

-- ---- all six findings

pub cond_both : (a b : Bool) (o : Option ℕ) → cond (a && b) o None ≡ cond a (cond b o None) None
cond_both true b o = refl
cond_both false b o = refl

module _ (t : TraceValue) (i : ℕ) (e : EntryValue) (rising : AreRising t.commits) (at : slice_get t.entries i ≡ Some e)
  where
    in_time : AreInTime (commit_lines_of t)
    in_time = lines_in_time t.commit_lines t.commits (ordered t.commits rising)

    latest_by : not_latest t e ≡ cond (is_content e.kind) (line_where (λ at. ltb e.snapshot at) (commit_before t e)) None
    latest_by =
        cond_both (is_content e.kind) (list_any (exceeds e.snapshot) (earlier_commits t e)) (last_line (earlier_commits t
        e))
        ∙ ap (λ (o : Option ℕ). cond (is_content e.kind) o None) (last_tells e.snapshot (earlier_commits t e)
        (in_time_filtered (λ c. ltb c.line e.line) (commit_lines_of t) in_time))

    open_by : open_snapshot t e ≡ line_where (λ at. leb at e.snapshot) (commit_behind t e)
    open_by = first_tells e.snapshot (later_commits t e) (in_time_filtered (λ c. ltb e.line c.line) (commit_lines_of t)
        in_time)

    pub unknown_by : is_unknown_version t i e ≡ (is_some (version_named e.kind (entry_version e)) && is_none
        (content_entry t i))
    unknown_by = by_name (version_named e.kind (entry_version e)) refl
      where
        by_content : (v : Version) → version_named e.kind (entry_version e) ≡ Some v → (o : Option ℕ)
            → content_of t.entries i ≡ o → is_none o ≡ is_none (option_and_then (slice_get t.entries) o)
        by_content v named None is = refl
        by_content v named (Some j) is =
            let m : Means t.entries v i j = named_content-means t.entries i j e v at named is in
            rw m.there refl

        by_name : (o : Option Version) → version_named e.kind (entry_version e) ≡ o
            → (is_some o && is_none (content_of t.entries i)) ≡ (is_some o && is_none (content_entry t i))
        by_name None named = refl
        by_name (Some v) named = by_content v named (content_of t.entries i) refl

    pub order_law : order_of t i e ≡ order_by e (content_entry t i) (commit_before t e) (commit_behind t e)
    order_law = λ k. record {
      stale = is_stale e;
      old_token = old_token t i e;
      not_latest = latest_by k;
      open_snapshot = open_by k;
      wrong_token = is_wrong_token e;
      unknown_version = unknown_by k;
    }
