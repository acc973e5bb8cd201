-- What is found on an entry in a window is what is found in the whole.
use Rattle.std.proofs.Common.{◌≡◌, ℕ, suc, ◌<◌, ◌≤◌, Bool, true, false, cond, ltb, leb, List, [], ◌∷◌, ◌++◌, length, map, Option, Some, None, refl, sym, ◌∙◌, ap, subst, arith, ◌||◌, ◌&&◌}
use Rattle.std.specs.Prelude.{slice_get, filter, is_none, is_some, option_and_then, option_map}
use Rattle.std.specs.List.{AllByRecursion, list_any}
use Rattle.std.specs.Option.{option_or}
use Rattle.std.proofs.lemmas.Bool.{lt-ltb, le-ltb, le-leb, leb-true}
use Rattle.std.proofs.lemmas.List.{map-append}
use Rattle.std.proofs.lemmas.List.Elements.{filter-append, recursion_from_All}
use Rattle.version_chains.specs.Commits.{Commit, store_at}
use Rattle.trace_lines.specs.Values.{EntryValue, TraceValue}
use Rattle.trace_lines.specs.Versions.{entry_version, version_named}
use Rattle.token_order.specs.Order.{CommitLine, on_lines, commit_lines_of}
use Rattle.token_order.specs.Found.{is_short_of, is_content, is_stale, is_wrong_token, line_if_short, old_token, earlier_commits, later_commits, first_line, last_line, not_latest, open_snapshot, is_unknown_version, order_of}
use Rattle.evidence_check.specs.Evidences.{steps_of}
use Rattle.evidence_check.specs.Judged.{judged}
use Rattle.evidence_check.specs.Steps.{StepValue}
use Rattle.evidence_check.specs.declared.judged.Judged.{Judged}
use Rattle.evidence_check.specs.declared.judged.Judged.TheVariants as by
use Rattle.findings.specs.Findings.{found_on, found_by, found_on_tokens, if_told}
use Rattle.findings.specs.declared.finding.What.{What}
use Rattle.findings.specs.declared.finding.What.TheVariants.{Stale, OldToken, NotLatest, OpenSnapshot, WrongToken, UnknownVersion}
use Rattle.windows.specs.Alike.{AreSameTuples, IsSameAt}
use Rattle.windows.specs.Compaction.{AreRising, above, up_to}
use Rattle.windows.specs.Nearest.{content_entry}
use Rattle.windows.specs.Windows.{IsWindow, IsWithin, IsCopy, NamesTheSame, relined}
use Rattle.windows.proofs.CompactionLemmas.{IsUpTo, ordered, compacted_law}
use Rattle.windows.proofs.AlikeLemmas.{judged_alike_law}
use Rattle.windows.proofs.NearestLemmas.{IsLater, AreInTime, lines_in_time, in_time_filtered, exceeds, covered, none_earlier, unknown_by, cond_both}

-- ---- the last that exceeds, the first that is covered

all_exceed : (s at : ℕ) (cs : List CommitLine) → s < at → AllByRecursion (IsLater at) cs → filter (exceeds s) cs ≡ cs
all_exceed s at [] lt h = refl
all_exceed s at (c ∷ cs) lt h =
    let up = h.0 in
    let e : ltb s c.at ≡ true = lt-ltb s c.at (omega (arith, lt, up)) in
    rw e (ap (λ (ds : List CommitLine). c ∷ ds) (all_exceed s at cs lt h.1))

some_last : (c d : CommitLine) (ds : List CommitLine) → last_line (c ∷ d ∷ ds) ≡ last_line (d ∷ ds)
some_last c d ds = by_last (last_line ds)
  where
    by_last : (o : Option ℕ) → option_or (option_or o (Some d.line)) (Some c.line) ≡ option_or o (Some d.line)
    by_last None = refl
    by_last (Some x) = refl

last_exceeding : (s : ℕ) (cs : List CommitLine) → AreInTime cs
    → cond (list_any (exceeds s) cs) (last_line cs) None ≡ last_line (filter (exceeds s) cs)
last_exceeding s [] h = refl
last_exceeding s (c ∷ []) h = by_test (exceeds s c)
  where
    by_test : (b : Bool) → cond (b || false) (Some c.line) None ≡ last_line (cond b (c ∷ []) [])
    by_test true = refl
    by_test false = refl
last_exceeding s (c ∷ d ∷ ds) h = by_test (last_exceeding s (d ∷ ds) h.1) (exceeds s c) refl
  where
    by_test : cond (list_any (exceeds s) (d ∷ ds)) (last_line (d ∷ ds)) None ≡ last_line (filter (exceeds s) (d ∷ ds))
        → (b : Bool) → exceeds s c ≡ b
        → cond (b || list_any (exceeds s) (d ∷ ds)) (last_line (c ∷ d ∷ ds)) None ≡ last_line (cond b (c ∷ filter
        (exceeds s) (d ∷ ds)) (filter (exceeds s) (d ∷ ds)))
    by_test rest true e = ap (λ (xs : List CommitLine). last_line (c ∷ xs)) (sym (all_exceed s c.at (d ∷ ds) (leb-true
        (suc s) c.at e) h.0))
    by_test rest false e = ap (λ (o : Option ℕ). cond (list_any (exceeds s) (d ∷ ds)) o None) (some_last c d ds) ∙ rest

first_covering : (s : ℕ) (cs : List CommitLine) → AreInTime cs
    → cond (list_any (covered s) cs) (first_line cs) None ≡ first_line (filter (covered s) cs)
first_covering s [] h = refl
first_covering s (c ∷ cs) h = by_test (first_covering s cs h.1) (covered s c) refl (list_any (covered s) cs) refl
  where
    by_test : cond (list_any (covered s) cs) (first_line cs) None ≡ first_line (filter (covered s) cs) → (b : Bool)
        → covered s c ≡ b → (a : Bool) → list_any (covered s) cs ≡ a
        → cond (b || list_any (covered s) cs) (Some c.line) None ≡ first_line (cond b (c ∷ filter (covered s) cs)
        (filter (covered s) cs))
    by_test rest true e a k = refl
    by_test rest false e true k = let no : false ≡ true = sym e ∙ none_earlier s c.at cs h.0 k in cc
    by_test rest false e false k = ap (λ (x : Bool). cond x (Some c.line) None) k
        ∙ sym (ap (λ (x : Bool). cond x (first_line cs) None) k) ∙ rest

-- ---- what filters keep

kept_under : {X : Type 0} (p q r u : X → Bool) (xs : List X)
    → AllByRecursion (λ x. p x ≡ true → q x ≡ true → (r x ≡ true) × (u x ≡ true)) xs
    → filter p (filter q (filter r (filter u xs))) ≡ filter p (filter q xs)
kept_under p q r u [] h = refl
kept_under {X} p q r u (x ∷ xs) h = by_tests (kept_under p q r u xs h.1) h.0 (p x) (q x) (r x) (u x) refl refl refl refl
  where
    by_tests : filter p (filter q (filter r (filter u xs))) ≡ filter p (filter q xs)
        → (p x ≡ true → q x ≡ true → (r x ≡ true) × (u x ≡ true))
        → (a b c d : Bool) → p x ≡ a → q x ≡ b → r x ≡ c → u x ≡ d
        → filter p (filter q (filter r (filter u (x ∷ xs)))) ≡ filter p (filter q (x ∷ xs))
    by_tests rest k true true true true pa qb rc ud = rw (ud, rc, qb, pa) (ap (λ (ys : List X). x ∷ ys) rest)
    by_tests rest k false true true true pa qb rc ud = rw (ud, rc, qb, pa) rest
    by_tests rest k a false true true pa qb rc ud = rw (ud, rc, qb) rest
    by_tests rest k a false false true pa qb rc ud = rw (ud, rc, qb) rest
    by_tests rest k false true false true pa qb rc ud = rw (ud, rc, qb, pa) rest
    by_tests rest k true true false true pa qb rc ud = let no : false ≡ true = sym rc ∙ (k pa qb).0 in absurd cc
    by_tests rest k a false c false pa qb rc ud = rw (ud, qb) rest
    by_tests rest k false true c false pa qb rc ud = rw (ud, qb, pa) rest
    by_tests rest k true true c false pa qb rc ud = let no : false ≡ true = sym ud ∙ (k pa qb).1 in absurd cc

none_kept : {X : Type 0} (p q : X → Bool) (xs : List X) → AllByRecursion (λ x. p x ≡ false) xs
    → filter p (filter q xs) ≡ []
none_kept p q [] h = refl
none_kept {X} p q (x ∷ xs) h = by_test (none_kept p q xs h.1) (q x) refl
  where
    by_test : filter p (filter q xs) ≡ [] → (b : Bool) → q x ≡ b
        → filter p (cond b (x ∷ filter q xs) (filter q xs)) ≡ []
    by_test rest true e = rw h.0 rest
    by_test rest false e = rest

none_left : {X : Type 0} (p q : X → Bool) (xs : List X) → AllByRecursion (λ x. q x ≡ false) xs
    → filter p (filter q xs) ≡ []
none_left p q [] h = refl
none_left p q (x ∷ xs) h = rw h.0 (none_left p q xs h.1)

pub filter_mapped : {X : Type 0} (f : X → X) (p q : X → Bool) (xs : List X) → AllByRecursion (λ x. q (f x) ≡ p x) xs
    → filter q (map f xs) ≡ map f (filter p xs)
filter_mapped f p q [] h = refl
filter_mapped {X} f p q (x ∷ xs) h = ap (λ (b : Bool). cond b (f x ∷ filter q (map f xs)) (filter q (map f xs))) h.0
    ∙ by_test (filter_mapped f p q xs h.1) (p x)
  where
    by_test : filter q (map f xs) ≡ map f (filter p xs) → (b : Bool)
        → cond b (f x ∷ filter q (map f xs)) (filter q (map f xs)) ≡ map f (cond b (x ∷ filter p xs) (filter p xs))
    by_test rest true = ap (λ (ys : List X). f x ∷ ys) rest
    by_test rest false = rest

pub every : {X : Type 0} (P : X → Type 0) → ((x : X) → P x) → (xs : List X) → AllByRecursion P xs
every P h [] = tt
every P h (x ∷ xs) = (h x, every P h xs)

-- ---- lines

abbrev on_line_of : (ℕ → ℕ) → CommitLine → CommitLine
on_line_of g c = record { line = g c.line; at = c.at }

on_lines-append : (ls ms : List ℕ) (cs ds : List Commit) → length ls ≡ length cs
    → on_lines (ls ++ ms) (cs ++ ds) ≡ on_lines ls cs ++ on_lines ms ds
on_lines-append [] ms [] ds e = refl
on_lines-append [] ms (c ∷ cs) ds e = absurd (omega (arith, e))
on_lines-append (l ∷ ls) ms [] ds e = absurd (omega (arith, e))
on_lines-append (l ∷ ls) ms (c ∷ cs) ds e = ap (λ (xs : List CommitLine). record { line = l; at = c.at } ∷ xs)
    (on_lines-append ls ms cs ds (omega (arith, e)))

on_lines-map : (g : ℕ → ℕ) (ls : List ℕ) (cs : List Commit)
    → map (on_line_of g) (on_lines ls cs) ≡ on_lines (map g ls) cs
on_lines-map g [] cs = refl
on_lines-map g (l ∷ ls) [] = refl
on_lines-map g (l ∷ ls) (c ∷ cs) = ap (λ (xs : List CommitLine). record { line = g l; at = c.at } ∷ xs) (on_lines-map g
    ls cs)

pub by_lines : (P : ℕ → Type 0) (ls : List ℕ) (cs : List Commit) → AllByRecursion P ls
    → AllByRecursion (λ (c : CommitLine). P c.line) (on_lines ls cs)
by_lines P [] cs h = tt
by_lines P (l ∷ ls) [] h = tt
by_lines P (l ∷ ls) (c ∷ cs) h = (h.0, by_lines P ls cs h.1)

pub by_times : (P : ℕ → Type 0) (ls : List ℕ) (cs : List Commit) → AllByRecursion (λ (c : Commit). P c.at) cs
    → AllByRecursion (λ (c : CommitLine). P c.at) (on_lines ls cs)
by_times P [] cs h = tt
by_times P (l ∷ ls) [] h = tt
by_times P (l ∷ ls) (c ∷ cs) h = (h.0, by_times P ls cs h.1)

weaker : {X : Type 0} (P Q : X → Type 0) → ((x : X) → P x → Q x) → (xs : List X) → AllByRecursion P xs
    → AllByRecursion Q xs
weaker P Q h [] a = tt
weaker P Q h (x ∷ xs) a = (h x a.0, weaker P Q h xs a.1)

both : {X : Type 0} (P Q : X → Type 0) (xs : List X) → AllByRecursion P xs → AllByRecursion Q xs
    → AllByRecursion (λ x. P x × Q x) xs
both P Q [] h k = tt
both P Q (x ∷ xs) h k = ((h.0, k.0), both P Q xs h.1 k.1)

last_line-map : (g : ℕ → ℕ) (cs : List CommitLine) → last_line (map (on_line_of g) cs) ≡ option_map g (last_line cs)
last_line-map g [] = refl
last_line-map g (c ∷ cs) = ap (λ (o : Option ℕ). option_or o (Some (g c.line))) (last_line-map g cs)
    ∙ by_last (last_line cs)
  where
    by_last : (o : Option ℕ) → option_or (option_map g o) (Some (g c.line)) ≡ option_map g (option_or o (Some c.line))
    by_last None = refl
    by_last (Some x) = refl

first_line-map : (g : ℕ → ℕ) (cs : List CommitLine) → first_line (map (on_line_of g) cs) ≡ option_map g (first_line cs)
first_line-map g [] = refl
first_line-map g (c ∷ cs) = refl

-- ---- an entry in a window

abbrev copy : (ℕ → ℕ) → ℕ → EntryValue → EntryValue
copy g before d = record d { line = g d.line; before = before }

module _ (g : ℕ
    → ℕ) (n b h : ℕ) (t w : TraceValue) (is : IsWindow g n b h t w) (rising : AreRising t.commits) (rising' : AreRising
    w.commits)
    (d : EntryValue) (before : ℕ) (after : n ≤ d.line) (within : IsWithin b h t (copy g before d)) where
  abbrev rest : List Commit
  rest = above b (up_to h t.commits)

  abbrev first : List CommitLine
  first = on_lines is.front_lines is.front

  abbrev own : List CommitLine
  own = on_lines is.own_lines rest

  window_lines : commit_lines_of w ≡ first ++ own
  window_lines = ap (λ (cs : List Commit). on_lines w.commit_lines cs) is.commits
      ∙ ap (λ (ls : List ℕ). on_lines ls (is.front ++ rest)) is.lines
      ∙ on_lines-append is.front_lines is.own_lines is.front rest is.counted

  abbrev kept : List CommitLine
  kept = filter (λ c. ltb b c.at) (filter (λ c. leb c.at h) (commit_lines_of t))

  own_kept : map (on_line_of g) own ≡ kept
  own_kept = on_lines-map g is.own_lines rest ∙ is.own

  -- what two tests leave of the window's commits is on the lines of what they leave of the whole's
  left : (p q q' : CommitLine → Bool) → filter p (filter q first) ≡ []
      → AllByRecursion (λ (c : CommitLine). q' (on_line_of g c) ≡ q c) own
      → ((c : CommitLine) → p (on_line_of g c) ≡ p c)
      → AllByRecursion (λ (c : CommitLine). p c ≡ true → q' c ≡ true → (ltb b c.at ≡ true)
      × (leb c.at h ≡ true)) (commit_lines_of t)
      → map (on_line_of g) (filter p (filter q (commit_lines_of w))) ≡ filter p (filter q' (commit_lines_of t))
  left p q q' none same timed all =
      ap (λ (cs : List CommitLine). map (on_line_of g) (filter p (filter q cs))) window_lines
      ∙ ap (λ (cs : List CommitLine). map (on_line_of g) (filter p cs)) (filter-append q first own)
      ∙ ap (map (on_line_of g)) (filter-append p (filter q first) (filter q own)
      ∙ ap (λ (cs : List CommitLine). cs ++ filter p (filter q own)) none)
      ∙ sym (filter_mapped (on_line_of g) p p (filter q own) (every (λ (c : CommitLine). p (on_line_of g c) ≡ p c)
      timed (filter q own)))
      ∙ ap (filter p) (sym (filter_mapped (on_line_of g) q q' own same))
      ∙ ap (λ (cs : List CommitLine). filter p (filter q' cs)) own_kept
      ∙ kept_under p q' (λ c. ltb b c.at) (λ c. leb c.at h) (commit_lines_of t) all

  abbrev s : ℕ
  s = d.snapshot

  before_window : map (on_line_of g) (filter (exceeds s) (earlier_commits w d)) ≡ filter (exceeds s) (earlier_commits t
      (copy g before d))
  before_window =
      let from : b ≤ s = within.from in
      left (exceeds s) (λ c. ltb c.line d.line) (λ c. ltb c.line (g d.line))
      (none_kept (exceeds s) (λ c. ltb c.line d.line) first (by_times (λ at. ltb s at ≡ false) is.front_lines is.front
      (weaker (IsUpTo b) (λ (c : Commit). ltb s c.at ≡ false) (λ c le. le-ltb s c.at (omega (arith, le, from)))
      is.front (recursion_from_All (IsUpTo b) is.front is.stands.none_above))))
      (by_lines (λ l. ltb (g l) (g d.line) ≡ ltb l d.line) is.own_lines rest
      (weaker (λ (l : ℕ). n ≤ l) (λ (l : ℕ). ltb (g l) (g d.line) ≡ ltb l d.line) (λ l le. is.rise l d.line le after)
      is.own_lines (recursion_from_All (λ (l : ℕ). n ≤ l) is.own_lines is.behind)))
      (λ c. refl)
      (weaker (λ (c : CommitLine). c.line < g d.line → c.at ≤ h) (λ (c : CommitLine). exceeds s c ≡ true
      → ltb c.line (g d.line) ≡ true → (ltb b c.at ≡ true) × (leb c.at h ≡ true))
      (λ c k ex lt. let more : s < c.at = leb-true (suc s) c.at ex in
      (lt-ltb b c.at (omega (arith, from, more)), le-leb c.at h (k (leb-true (suc c.line) (g d.line) lt))))
      (commit_lines_of t) (recursion_from_All (λ (c : CommitLine). c.line < g d.line
      → c.at ≤ h) (commit_lines_of t) within.earlier))

  behind_window : map (on_line_of g) (filter (covered s) (later_commits w d)) ≡ filter (covered s) (later_commits t
      (copy g before d))
  behind_window =
      let to : s ≤ h = within.to in
      left (covered s) (λ c. ltb d.line c.line) (λ c. ltb (g d.line) c.line)
      (none_left (covered s) (λ c. ltb d.line c.line) first (by_lines (λ l. ltb d.line l ≡ false) is.front_lines
      is.front
      (weaker (λ (l : ℕ). l < n) (λ (l : ℕ). ltb d.line l ≡ false) (λ l lt. le-ltb d.line l (omega (arith, lt, after)))
      is.front_lines (recursion_from_All (λ (l : ℕ). l < n) is.front_lines is.in_front))))
      (by_lines (λ l. ltb (g d.line) (g l) ≡ ltb d.line l) is.own_lines rest
      (weaker (λ (l : ℕ). n ≤ l) (λ (l : ℕ). ltb (g d.line) (g l) ≡ ltb d.line l) (λ l le. is.rise d.line l after le)
      is.own_lines (recursion_from_All (λ (l : ℕ). n ≤ l) is.own_lines is.behind)))
      (λ c. refl)
      (weaker (λ (c : CommitLine). g d.line < c.line → b < c.at) (λ (c : CommitLine). covered s c ≡ true
      → ltb (g d.line) c.line ≡ true → (ltb b c.at ≡ true) × (leb c.at h ≡ true))
      (λ c k cov lt. let less : c.at ≤ s = leb-true c.at s cov in
      (lt-ltb b c.at (k (leb-true (suc (g d.line)) c.line lt)), le-leb c.at h (omega (arith, to, less))))
      (commit_lines_of t) (recursion_from_All (λ (c : CommitLine). g d.line < c.line
      → b < c.at) (commit_lines_of t) within.later))

  in_time : (v : TraceValue) → AreRising v.commits → AreInTime (commit_lines_of v)
  in_time v r = lines_in_time v.commit_lines v.commits (ordered v.commits r)

  latest_is : (v : TraceValue) (x : EntryValue) → AreRising v.commits
      → not_latest v x ≡ cond (is_content x.kind) (last_line (filter (exceeds x.snapshot) (earlier_commits v x))) None
  latest_is v x r =
      cond_both (is_content x.kind) (list_any (exceeds x.snapshot) (earlier_commits v x)) (last_line (earlier_commits v
      x))
      ∙ ap (λ (o : Option ℕ). cond (is_content x.kind) o None) (last_exceeding x.snapshot (earlier_commits v x)
      (in_time_filtered (λ c. ltb c.line x.line) (commit_lines_of v) (in_time v r)))

  open_is : (v : TraceValue) (x : EntryValue) → AreRising v.commits
      → open_snapshot v x ≡ first_line (filter (covered x.snapshot) (later_commits v x))
  open_is v x r = first_covering x.snapshot (later_commits v x) (in_time_filtered (λ c. ltb x.line c.line)
      (commit_lines_of v) (in_time v r))

  pub latest_there : option_map g (not_latest w d) ≡ not_latest t (copy g before d)
  latest_there =
      ap (option_map g) (latest_is w d rising')
      ∙ by_kind (is_content d.kind)
      ∙ ap (λ (cs : List CommitLine). cond (is_content d.kind) (last_line cs) None) before_window
      ∙ sym (latest_is t (copy g before d) rising)
    where
      by_kind : (k : Bool)
          → option_map g (cond k (last_line (filter (exceeds s) (earlier_commits w d))) None) ≡ cond k (last_line (map
          (on_line_of g) (filter (exceeds s) (earlier_commits w d)))) None
      by_kind true = sym (last_line-map g (filter (exceeds s) (earlier_commits w d)))
      by_kind false = refl

  pub open_there : option_map g (open_snapshot w d) ≡ open_snapshot t (copy g before d)
  open_there =
      ap (option_map g) (open_is w d rising')
      ∙ sym (first_line-map g (filter (covered s) (later_commits w d)))
      ∙ ap first_line behind_window
      ∙ sym (open_is t (copy g before d) rising)

  pub same_there : IsSameAt s w t
  same_there = record {
    rules = λ namespace relation. sym (is.rules s within.from within.to namespace relation);
    tuples = subst (λ (cs : List Commit). AreSameTuples (store_at cs s) (store_at t.commits s)) (sym is.commits)
        (compacted_law t.commits b h rising is.front is.stands s within.from within.to);
  }

  -- ---- all six, and the judgement

  module _ (i j : ℕ) (at : slice_get t.entries i ≡ Some (copy g before d)) (there : slice_get w.entries j ≡ Some d)
      (names : NamesTheSame g t i w j) where
    told : (what : What) (x : Bool) → relined g what ≡ what → option_map (relined g) (if_told what x) ≡ if_told what x
    told what true e = ap Some e
    told what false e = refl

    old_there : option_map g (old_token w j d) ≡ old_token t i (copy g before d)
    old_there = by_content (content_entry w j) (content_entry t i) names.snapshot names.line
      where
        short : (x y : EntryValue) → x.snapshot ≡ y.snapshot → x.line ≡ g y.line
            → option_map g (line_if_short d.zookie y) ≡ line_if_short d.zookie x
        short x y same line =
            by_test (is_short_of d.zookie y.snapshot)
            ∙ ap (λ (m : ℕ). cond (is_short_of d.zookie m) (Some (g y.line)) None) (sym same)
            ∙ ap (λ (l : ℕ). cond (is_short_of d.zookie x.snapshot) (Some l) None) (sym line)
          where
            by_test : (z : Bool) → option_map g (cond z (Some y.line) None) ≡ cond z (Some (g y.line)) None
            by_test true = refl
            by_test false = refl

        by_content : (y x : Option EntryValue)
            → option_map (λ (c : EntryValue). c.snapshot) x ≡ option_map (λ (c : EntryValue). c.snapshot) y
            → option_map (λ (c : EntryValue). c.line) x ≡ option_map (λ (c : EntryValue). g c.line) y
            → option_map g (option_and_then (line_if_short d.zookie) y) ≡ option_and_then (line_if_short d.zookie) x
        by_content None None same line = refl
        by_content None (Some x) same line = absurd (let e : Some x.line ≡ None = line in cc)
        by_content (Some y) None same line = absurd (let e : None ≡ Some (g y.line) = line in cc)
        by_content (Some y) (Some x) same line = short x y (let e : Some x.snapshot ≡ Some y.snapshot = same in
            cc) (let e : Some x.line ≡ Some (g y.line) = line in cc)

    unknown_there : is_unknown_version w j d ≡ is_unknown_version t i (copy g before d)
    unknown_there =
        unknown_by w j d rising' there
        ∙ ap (λ (x : Bool). is_some (version_named d.kind (entry_version d)) && x) (by_content (content_entry w j)
        (content_entry t i) names.snapshot)
        ∙ sym (unknown_by t i (copy g before d) rising at)
      where
        by_content : (y x : Option EntryValue)
            → option_map (λ (c : EntryValue). c.snapshot) x ≡ option_map (λ (c : EntryValue). c.snapshot) y
            → is_none y ≡ is_none x
        by_content None None same = refl
        by_content None (Some x) same = absurd (let e : Some x.snapshot ≡ None = same in cc)
        by_content (Some y) None same = absurd (let e : None ≡ Some y.snapshot = same in cc)
        by_content (Some y) (Some x) same = refl

    line_told : (make : ℕ → What) → ((l : ℕ) → relined g (make l) ≡ make (g l)) → (o : Option ℕ)
        → option_map (relined g) (option_map make o) ≡ option_map make (option_map g o)
    line_told make e None = refl
    line_told make e (Some l) = ap Some (e l)

    judged_there : (x : Judged) → option_map (relined g) (found_by x) ≡ found_by x
    judged_there by.Supported = refl
    judged_there by.Contradicted = refl
    judged_there by.Silent = refl
    judged_there (by.Bad k) = refl
    judged_there by.Missing = refl

    abbrev e : EntryValue
    e = copy g before d

    tokens_there : map (option_map (relined g)) (found_on_tokens (order_of w j d)) ≡ found_on_tokens (order_of t i e)
    tokens_there = λ k.
        told Stale (is_stale d) refl k
        ∷ (line_told OldToken (λ l. refl) (old_token w j d) ∙ ap (option_map OldToken) old_there) k
        ∷ (line_told NotLatest (λ l. refl) (not_latest w d) ∙ ap (option_map NotLatest) latest_there) k
        ∷ (line_told OpenSnapshot (λ l. refl) (open_snapshot w d) ∙ ap (option_map OpenSnapshot) open_there) k
        ∷ told WrongToken (is_wrong_token d) refl k
        ∷ (told UnknownVersion (is_unknown_version w j d) refl ∙ ap (if_told UnknownVersion) unknown_there) k ∷ []

    found_copied : (evidence own : List (Option (List StepValue))) → steps_of own j ≡ steps_of evidence i
        → map (option_map (relined g)) (found_on w own j d) ≡ found_on t evidence i e
    found_copied evidence own steps =
        map-append (option_map (relined g)) (found_on_tokens (order_of w j d)) (found_by (judged w d (steps_of own j))
        ∷ [])
        ∙ ap (λ (xs : List (Option What)). xs ++ option_map (relined g) (found_by (judged w d (steps_of own j))) ∷ [])
        tokens_there
        ∙ ap (λ (x : Option What). found_on_tokens (order_of t i e) ++ x ∷ []) (
        judged_there (judged w d (steps_of own j))
        ∙ ap (λ (o : Option (List StepValue)). found_by (judged w d o)) steps
        ∙ ap found_by (judged_alike_law w t d e same_there (record { goal = refl; snapshot = refl; reply = refl })
        (steps_of evidence i)))

pub found_law : (g : ℕ → ℕ) (n b h : ℕ) (t w : TraceValue) → IsWindow g n b h t w → AreRising t.commits
    → AreRising w.commits
    → (i j : ℕ) (e d : EntryValue) → slice_get t.entries i ≡ Some e → slice_get w.entries j ≡ Some d → IsCopy g e d
    → n ≤ d.line
    → IsWithin b h t e → NamesTheSame g t i w j
    → (evidence own : List (Option (List StepValue))) → steps_of own j ≡ steps_of evidence i
    → map (option_map (relined g)) (found_on w own j d) ≡ found_on t evidence i e
found_law g n b h t w is rising rising' i j e d at there same after within names evidence own steps =
    found_copied g n b h t w is rising rising' d e.before after (subst (IsWithin b h t) same within) i j (at
    ∙ ap Some same) there names evidence own steps
    ∙ ap (λ (x : EntryValue). found_on t evidence i x) (sym same)
