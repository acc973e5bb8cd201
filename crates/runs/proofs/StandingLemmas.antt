-- When a shorter log stands in for another one.
use Rattle.std.proofs.Common.{◌≡◌, ℕ, zero, suc, ◌+◌, ◌-◌, ◌<◌, ◌≤◌, ◌||◌, ◌&&◌, inl, inr, Bool, true, false, cond, eqb, ltb, leb, List, [], ◌∷◌, ◌++◌, length, map, get_or, Option, Some, None, refl, sym, ◌∙◌, ap, subst, arith}
use Rattle.std.specs.Prelude.{All, filter, slice_get, option_map}
use Rattle.std.specs.List.{AllByRecursion, list_any}
use Rattle.std.specs.List.Sorted.{IsStrictlyIncreasing}
use Rattle.std.proofs.Math.Bool.{or-true}
use Rattle.std.proofs.lemmas.Bool.{cases_lt, eq-eqb, eqb-true, le-leb, le-ltb, lt-leb, lt-ltb, leb-true, leb-false, ltb-false}
use Rattle.std.proofs.lemmas.List.{get_or-map, length-map, map-append}
use Rattle.std.proofs.lemmas.List.Elements.{All-filter, All-from_recursion, recursion_from_All}
use Rattle.std.proofs.lemmas.List.Kept.{AllPairs-from_increasing}
use Rattle.std.proofs.lemmas.Option.{get_or_from_slice_get, slice_get_within}
use Rattle.tuple_text.specs.Sets.{SetValue}
use Rattle.tuple_text.specs.Tuples.{TupleValue}
use Rattle.version_chains.specs.Commits.{Commit, changelog, is_stored, store_at}
use Rattle.trace_lines.specs.Placed.{HasPlacedCommits}
use Rattle.trace_lines.specs.Values.{EntryValue, TraceValue}
use Rattle.trace_lines.specs.Versions.{Version, is_version, issues, version_issued, version_of}
use Rattle.trace_lines.specs.declared.entry.EntryKind.{EntryKind}
use Rattle.trace_lines.specs.declared.entry.EntryKind.TheVariants.{Check, Content}
use Rattle.token_order.specs.Order.{CommitLine, commit_lines_of, on_lines}
use Rattle.windows.specs.Alike.{AreSameTuples}
use Rattle.windows.specs.Compaction.{above, up_to}
use Rattle.windows.specs.Growth.{is_settled}
use Rattle.windows.proofs.CompactionLemmas.{AreOrdered, IsAbove, IsUpTo, all_above, all_filtered, cut, ordered, stored_alike}
use Rattle.windows.proofs.CutLemmas.{lines_of}
use Rattle.windows.proofs.GrownLemmas.{same_store}
use Rattle.windows.proofs.NearestLemmas.{AreInTime, lines_in_time}
use Rattle.carry_laws.specs.Carried.{Keeps, StandsIn, has_commit_at, placeless}
use Rattle.carry_laws.specs.declared.known.Known.{Known}
use Rattle.carry_laws.proofs.OnwardLemmas.{all_lines}
use Rattle.carry_laws.proofs.StandInLemmas.{weaker}
use Rattle.runs.specs.Alike.{IsCommitLine, commits_above, goes_on, is_above, is_open, issues_some, last_time, touches_above}
use Rattle.runs.proofs.CommitLemmas.{above_log, touches_tell_all}

-- ---- commits by their lines

abbrev times_of : List CommitLine → List ℕ
times_of cs = map (λ (c : CommitLine). c.at) cs

all_times : (ls : List ℕ) (cs : List Commit) → length ls ≡ length cs
    → times_of (on_lines ls cs) ≡ map (λ (c : Commit). c.at) cs
all_times [] [] e = refl
all_times [] (c ∷ cs) e = absurd (omega (arith, e))
all_times (l ∷ ls) [] e = absurd (omega (arith, e))
all_times (l ∷ ls) (c ∷ cs) e = ap (λ (ts : List ℕ). c.at ∷ ts) (all_times ls cs (omega (arith, e)))

times_above : (b : ℕ) (ls : List ℕ) (cs : List Commit) → length ls ≡ length cs
    → times_of (commits_above b (on_lines ls cs)) ≡ map (λ (c : Commit). c.at) (above b cs)
times_above b [] [] e = refl
times_above b [] (c ∷ cs) e = absurd (omega (arith, e))
times_above b (l ∷ ls) [] e = absurd (omega (arith, e))
times_above b (l ∷ ls) (c ∷ cs) e = by_test (times_above b ls cs (omega (arith, e))) (ltb b c.at)
  where
    rest : List CommitLine
    rest = commits_above b (on_lines ls cs)

    by_test : times_of rest ≡ map (λ (d : Commit). d.at) (above b cs) → (x : Bool)
        → times_of (cond x (record { line = l; at = c.at } ∷ rest) rest)
        ≡ map (λ (d : Commit). d.at) (cond x (c ∷ above b cs) (above b cs))
    by_test same true = ap (λ (ts : List ℕ). c.at ∷ ts) same
    by_test same false = same

abbrev front_of : ℕ → List CommitLine → List CommitLine
front_of b cs = filter (λ c. leb c.at b) cs

front_counted : (b : ℕ) (ls : List ℕ) (cs : List Commit) → length ls ≡ length cs
    → length (lines_of (front_of b (on_lines ls cs))) ≡ length (up_to b cs)
front_counted b [] [] e = refl
front_counted b [] (c ∷ cs) e = absurd (omega (arith, e))
front_counted b (l ∷ ls) [] e = absurd (omega (arith, e))
front_counted b (l ∷ ls) (c ∷ cs) e = by_test (front_counted b ls cs (omega (arith, e))) (leb c.at b)
  where
    rest : List CommitLine
    rest = front_of b (on_lines ls cs)

    by_test : length (lines_of rest) ≡ length (up_to b cs) → (x : Bool)
        → length (lines_of (cond x (record { line = l; at = c.at } ∷ rest) rest)) ≡ length (cond x (c ∷ up_to b cs) (up_to b cs))
    by_test same true = ap suc same
    by_test same false = same

none_up_to : (b : ℕ) (cs : List CommitLine) → AllByRecursion (λ (c : CommitLine). b < c.at) cs → front_of b cs ≡ []
none_up_to b [] h = refl
none_up_to b (c ∷ cs) h = rw (lt-leb c.at b h.0) (none_up_to b cs h.1)

whole_above : (b : ℕ) (cs : List CommitLine) → AllByRecursion (λ (c : CommitLine). b < c.at) cs → commits_above b cs ≡ cs
whole_above b [] h = refl
whole_above b (c ∷ cs) h = rw (lt-ltb b c.at h.0) (ap (λ (ds : List CommitLine). c ∷ ds) (whole_above b cs h.1))

-- those up to a timestamp stand in front of the others
halves : (b : ℕ) (cs : List CommitLine) → AreInTime cs → front_of b cs ++ commits_above b cs ≡ cs
halves b [] h = refl
halves b (c ∷ cs) h = by_test (halves b cs h.1) (leb c.at b) refl
  where
    by_test : front_of b cs ++ commits_above b cs ≡ cs → (x : Bool) → leb c.at b ≡ x
        → front_of b (c ∷ cs) ++ commits_above b (c ∷ cs) ≡ c ∷ cs
    by_test rest true is = rw (is, le-ltb b c.at (leb-true c.at b is)) (ap (λ (ds : List CommitLine). c ∷ ds) rest)
    by_test rest false is =
        let lt : b < c.at = leb-false c.at b is in
        let later = weaker (λ (d : CommitLine). c.at < d.at) (λ (d : CommitLine). b < d.at) (λ d up. omega (arith, lt, up)) cs h.0 in
        rw (is, lt-ltb b c.at lt, none_up_to b cs later, whole_above b cs later) refl

front_lines_up_to : (b m : ℕ) (cs : List CommitLine) → AllByRecursion (λ (c : CommitLine). c.at ≤ b → c.line ≤ m) cs
    → AllByRecursion (λ (l : ℕ). l < m + 1) (lines_of (front_of b cs))
front_lines_up_to b m [] h = tt
front_lines_up_to b m (c ∷ cs) h = by_test (front_lines_up_to b m cs h.1) (leb c.at b) refl
  where
    by_test : AllByRecursion (λ (l : ℕ). l < m + 1) (lines_of (front_of b cs)) → (x : Bool) → leb c.at b ≡ x
        → AllByRecursion (λ (l : ℕ). l < m + 1) (lines_of (cond x (c ∷ front_of b cs) (front_of b cs)))
    by_test rest true is = let le = h.0 (leb-true c.at b is) in (omega (arith, le), rest)
    by_test rest false is = rest

-- ---- where lines and timestamps rise

module _ (cs : List CommitLine) (lines : IsStrictlyIncreasing (lines_of cs)) (times : IsStrictlyIncreasing (times_of cs)) where
  line_up : (i k : ℕ) (d : CommitLine) → i < k → k < length cs → (get_or cs i d).line < (get_or cs k d).line
  line_up i k d lt within =
      let up = AllPairs-from_increasing (lines_of cs) lines i k 0 lt (omega (arith, within, length-map cs (λ (c : CommitLine). c.line))) in
      let a = get_or-map (λ (c : CommitLine). c.line) cs i d 0 (omega (arith, lt, within)) in
      let z = get_or-map (λ (c : CommitLine). c.line) cs k d 0 within in
      omega (arith, up, a, z)

  time_up : (i k : ℕ) (d : CommitLine) → i < k → k < length cs → (get_or cs i d).at < (get_or cs k d).at
  time_up i k d lt within =
      let up = AllPairs-from_increasing (times_of cs) times i k 0 lt (omega (arith, within, length-map cs (λ (c : CommitLine). c.at))) in
      let a = get_or-map (λ (c : CommitLine). c.at) cs i d 0 (omega (arith, lt, within)) in
      let z = get_or-map (λ (c : CommitLine). c.at) cs k d 0 within in
      omega (arith, up, a, z)

  -- those up to a commit stand up to its line
  lines_up_to : (k : ℕ) (c : CommitLine) → slice_get cs k ≡ Some c → All (λ (x : CommitLine). x.at ≤ c.at → x.line ≤ c.line) cs
  lines_up_to k c at i d lt le =
      let within = slice_get_within cs k c at in
      let here : get_or cs k d ≡ c = get_or_from_slice_get cs k c d at in
      let line : (get_or cs k d).line ≡ c.line = ap (λ (x : CommitLine). x.line) here in
      let time : (get_or cs k d).at ≡ c.at = ap (λ (x : CommitLine). x.at) here in
      elim (cases_lt i k) [
        | inl before ↦ let up = line_up i k d before within in omega (arith, up, line)
        | inr ge ↦ elim (cases_lt k i) [
          | inl behind ↦ let up = time_up k i d behind lt in absurd (omega (arith, up, time, le))
          | inr le' ↦
              let same : i ≡ k = omega (arith, ge, le') in
              let own : (get_or cs i d).line ≡ (get_or cs k d).line = ap (λ (n : ℕ). (get_or cs n d).line) same in
              omega (arith, own, line)
        ]
      ]

  -- and those above it behind that
  lines_behind : (k : ℕ) (c : CommitLine) → slice_get cs k ≡ Some c → All (λ (x : CommitLine). c.at < x.at → c.line + 1 ≤ x.line) cs
  lines_behind k c at i d lt up =
      let within = slice_get_within cs k c at in
      let here : get_or cs k d ≡ c = get_or_from_slice_get cs k c d at in
      let line : (get_or cs k d).line ≡ c.line = ap (λ (x : CommitLine). x.line) here in
      let time : (get_or cs k d).at ≡ c.at = ap (λ (x : CommitLine). x.at) here in
      elim (cases_lt k i) [
        | inl behind ↦ let later = line_up k i d behind lt in omega (arith, later, line)
        | inr ge ↦ elim (cases_lt i k) [
          | inl before ↦ let earlier = time_up i k d before within in absurd (omega (arith, earlier, time, up))
          | inr le' ↦
              let same : i ≡ k = omega (arith, ge, le') in
              let own : (get_or cs i d).at ≡ (get_or cs k d).at = ap (λ (n : ℕ). (get_or cs n d).at) same in
              absurd (omega (arith, own, time, up))
        ]
      ]

-- ---- commits above a timestamp

above_ordered : (b : ℕ) (cs : List Commit) → AreOrdered cs → AreOrdered (above b cs)
above_ordered b [] h = tt
above_ordered b (c ∷ cs) h = by_test (above_ordered b cs h.1) (ltb b c.at)
  where
    by_test : AreOrdered (above b cs) → (x : Bool) → AreOrdered (cond x (c ∷ above b cs) (above b cs))
    by_test rest true = (
      recursion_from_All (IsAbove c.at) (above b cs)
          (All-filter (λ (d : Commit). ltb b d.at) (IsAbove c.at) cs (All-from_recursion (IsAbove c.at) cs h.0)),
      rest,
    )
    by_test rest false = rest

-- ---- the commit at the base

any_at : (at : ℕ) (cs : List Commit) (k x : ℕ) → slice_get (map (λ (c : Commit). c.at) cs) k ≡ Some x → at ≤ x
    → list_any (λ (c : Commit). leb at c.at) cs ≡ true
any_at at [] k x is le = absurd (let no : None ≡ Some x = is in cc)
any_at at (c ∷ cs) zero x is le =
    let same : c.at ≡ x = cc in
    rw (le-leb at c.at (omega (arith, same, le))) refl
any_at at (c ∷ cs) (suc k) x is le =
    ap (λ (b : Bool). leb at c.at || b) (any_at at cs k x is le) ∙ or-true (leb at c.at)

there_at : (ls : List ℕ) (cs : List Commit) (k : ℕ) (c : CommitLine) → slice_get (on_lines ls cs) k ≡ Some c
    → has_commit_at c.at cs ≡ true
there_at [] cs k c at = absurd (let no : None ≡ Some c = at in cc)
there_at (l ∷ ls) [] k c at = absurd (let no : None ≡ Some c = at in cc)
there_at (l ∷ ls) (d ∷ cs) zero c at =
    let same : record { line = l; at = d.at } ≡ c = cc in
    let time : d.at ≡ c.at = ap (λ (x : CommitLine). x.at) same in
    rw (eq-eqb d.at c.at time) refl
there_at (l ∷ ls) (d ∷ cs) (suc k) c at =
    ap (λ (x : Bool). eqb d.at c.at || x) (there_at ls cs k c at) ∙ or-true (eqb d.at c.at)

any_up_to : (b : ℕ) (cs : List Commit) → has_commit_at b cs ≡ true → has_commit_at b (up_to b cs) ≡ true
any_up_to b [] h = h
any_up_to b (c ∷ cs) h = by_test (any_up_to b cs) (eqb c.at b) refl (leb c.at b) refl h
  where
    by_test : (has_commit_at b cs ≡ true → has_commit_at b (up_to b cs) ≡ true) → (x : Bool) → eqb c.at b ≡ x → (y : Bool)
        → leb c.at b ≡ y → (x || has_commit_at b cs) ≡ true → has_commit_at b (cond y (c ∷ up_to b cs) (up_to b cs)) ≡ true
    by_test rest true is true le h = rw is refl
    by_test rest true is false le h =
        let same = eqb-true c.at b is in
        let up = leb-false c.at b le in
        absurd (omega (arith, same, up))
    by_test rest false is true le h = rw is (rest h)
    by_test rest false is false le h = rest h

-- ---- what is stored

same_answer : (x y : Bool) → (x ≡ true → y ≡ true) → (y ≡ true → x ≡ true) → x ≡ y
same_answer true y there back = sym (there refl)
same_answer false true there back = back refl
same_answer false false there back = refl

-- ---- which entries go on

pub open_unsettled : (t : TraceValue) (e : EntryValue) → is_settled t e ≡ false → is_open t e ≡ true
open_unsettled t e unset = by_last (last_time t) refl
  where
    by_last : (o : Option ℕ) → last_time t ≡ o → is_above o e.snapshot ≡ true
    by_last None at = refl
    by_last (Some last) at = by_test (ltb last e.snapshot) refl
      where
        by_test : (x : Bool) → ltb last e.snapshot ≡ x → x ≡ true
        by_test true is = refl
        by_test false is =
            let le = ltb-false last e.snapshot is in
            let yes : is_settled t e ≡ true = any_at e.snapshot t.commits (length (map (λ (c : Commit). c.at) t.commits) - 1) last at le in
            let wrong : false ≡ true = sym unset ∙ yes in absurd cc

issuing : (v : Version) (s : SetValue) (kind : EntryKind) (label : Option (List ℕ))
    → is_version v (version_issued kind (option_map (version_of s) label)) ≡ true → issues_some kind label ≡ true
issuing v s Check label h = let wrong : false ≡ true = h in absurd cc
issuing v s Content None h = let wrong : false ≡ true = h in absurd cc
issuing v s Content (Some l) h = refl

issuer_goes_on : (from : ℕ) (t : TraceValue) (v : Version) (e : EntryValue) → issues v e ≡ true → from ≤ e.line
    → goes_on from t e ≡ true
issuer_goes_on from t v e issued there =
    ap (λ (x : Bool). is_open t e || (x && leb from e.line)) (issuing v e.goal.set e.kind e.version issued)
    ∙ ap (λ (x : Bool). is_open t e || x) (le-leb from e.line there) ∙ or-true (is_open t e)

-- ---- the law

-- what was compared of two logs with the same declarations: where the commit at the base stands, and that both store
-- the same there, go on alike, and that the entries of one are those of the other that go on
pub record AreAlikeFrom (known : Known) (line : ℕ) (t x : TraceValue) : Type 0 where
  pub at_base : IsCommitLine t line known.base
  pub front : ℕ
  pub front_at_base : IsCommitLine x front known.base
  pub in_front : front ≤ line
  pub stored : (s : TupleValue) → is_stored t.commits known.base s ≡ true → is_stored x.commits known.base s ≡ true
  pub no_more : (s : TupleValue) → is_stored x.commits known.base s ≡ true → is_stored t.commits known.base s ≡ true
  pub touched : touches_above known.base (changelog t.commits) ≡ touches_above known.base (changelog x.commits)
  pub on_lines : commits_above known.base (commit_lines_of t) ≡ commits_above known.base (commit_lines_of x)
  pub entries : map placeless (filter (goes_on known.versions t) t.entries) ≡ map placeless x.entries
  pub open_behind : (i : ℕ) (e : EntryValue) → slice_get t.entries i ≡ Some e → is_open t e ≡ true → line + 1 ≤ e.line

module _ (known : Known) (line : ℕ) (t x : TraceValue) (tp : HasPlacedCommits t) (xp : HasPlacedCommits x)
    (h : AreAlikeFrom known line t x) where
  abbrev b : ℕ
  b = known.base

  t_order : AreOrdered t.commits
  t_order = ordered t.commits tp.timestamps

  x_order : AreOrdered x.commits
  x_order = ordered x.commits xp.timestamps

  abbrev front_commits : List Commit
  front_commits = up_to b x.commits

  same_above : above b t.commits ≡ above b x.commits
  same_above =
      touches_tell_all (above b t.commits) (above b x.commits)
      (above_ordered b t.commits t_order) (above_ordered b x.commits x_order)
      (sym (times_above b t.commit_lines t.commits tp.counted) ∙ ap times_of h.on_lines
      ∙ times_above b x.commit_lines x.commits xp.counted)
      (sym (above_log b t.commits) ∙ h.touched ∙ above_log b x.commits)

  store_in_front : store_at x.commits b ≡ store_at front_commits b
  store_in_front =
      ap (λ (cs : List Commit). store_at cs b) (sym (cut b x.commits x_order))
      ∙ same_store b front_commits (above b x.commits) (all_above b x.commits)

  same_store_there : AreSameTuples (store_at front_commits b) (store_at t.commits b)
  same_store_there =
      subst (λ (ts : List TupleValue). AreSameTuples ts (store_at t.commits b)) store_in_front
      (stored_alike x.commits t.commits b b (λ s.
      same_answer (is_stored x.commits b s) (is_stored t.commits b s) (h.no_more s) (h.stored s)))

  rising_lines : (u : TraceValue) → HasPlacedCommits u → IsStrictlyIncreasing (lines_of (commit_lines_of u))
  rising_lines u p = subst IsStrictlyIncreasing (sym (all_lines u.commit_lines u.commits p.counted)) p.lines

  rising_times : (u : TraceValue) → HasPlacedCommits u → IsStrictlyIncreasing (times_of (commit_lines_of u))
  rising_times u p = subst IsStrictlyIncreasing (sym (all_times u.commit_lines u.commits p.counted)) p.timestamps

  up_to_line : All (λ (c : CommitLine). c.at ≤ b → c.line ≤ line) (commit_lines_of t)
  up_to_line =
      lines_up_to (commit_lines_of t) (rising_lines t tp) (rising_times t tp) h.at_base.0 (record { line = line; at = b }) h.at_base.1

  front_up_to : All (λ (c : CommitLine). c.at ≤ b → c.line ≤ h.front) (commit_lines_of x)
  front_up_to =
      lines_up_to (commit_lines_of x) (rising_lines x xp) (rising_times x xp) h.front_at_base.0
      (record { line = h.front; at = b }) h.front_at_base.1

  keeps : Keeps known.versions (line + 1) t (goes_on known.versions t)
  keeps = record {
    unsettled = λ i e at unset.
        let open_there = open_unsettled t e unset in (
          ap (λ (z : Bool). z || (issues_some e.kind e.version && leb known.versions e.line)) open_there,
          h.open_behind i e at open_there,
        );
    issuers = λ v e is from. issuer_goes_on known.versions t v e is from;
    by_face = λ e. refl;
  }

  pub stands_in_there : x.declarations ≡ t.declarations → StandsIn known (line + 1) t x
  stands_in_there declared = record {
    front = front_commits;
    front_lines = lines_of (front_of b (commit_lines_of x));
    keep = goes_on known.versions t;
    declarations = declared;
    commits = sym (cut b x.commits x_order) ∙ ap (λ (cs : List Commit). front_commits ++ cs) (sym same_above);
    on_lines =
        sym (all_lines x.commit_lines x.commits xp.counted)
        ∙ ap lines_of (sym (halves b (commit_lines_of x) (lines_in_time x.commit_lines x.commits x_order)))
        ∙ map-append (λ (c : CommitLine). c.line) (front_of b (commit_lines_of x)) (commits_above b (commit_lines_of x))
        ∙ ap (λ (cs : List CommitLine). lines_of (front_of b (commit_lines_of x)) ++ lines_of cs) (sym h.on_lines);
    entries = sym h.entries;
    stands = record {
      none_above = All-from_recursion (IsUpTo b) front_commits
          (all_filtered (λ (c : Commit). leb c.at b) (IsUpTo b) (λ c is. leb-true c.at b is) x.commits);
      stored = same_store_there;
    };
    base = there_at t.commit_lines t.commits h.at_base.0 (record { line = line; at = b }) h.at_base.1;
    base_there = any_up_to b x.commits
        (there_at x.commit_lines x.commits h.front_at_base.0 (record { line = h.front; at = b }) h.front_at_base.1);
    counted = front_counted b x.commit_lines x.commits xp.counted;
    in_front = All-from_recursion (λ (l : ℕ). l < line + 1) (lines_of (front_of b (commit_lines_of x)))
        (front_lines_up_to b line (commit_lines_of x)
        (weaker (λ (c : CommitLine). c.at ≤ b → c.line ≤ h.front) (λ (c : CommitLine). c.at ≤ b → c.line ≤ line)
        (λ c up le. let early = up le in let before = h.in_front in omega (arith, early, before)) (commit_lines_of x)
        (recursion_from_All (λ (c : CommitLine). c.at ≤ b → c.line ≤ h.front) (commit_lines_of x) front_up_to)));
    folded = λ i c lt le. let up = up_to_line i c lt le in omega (arith, up);
    behind = λ i c lt up.
        lines_behind (commit_lines_of t) (rising_lines t tp) (rising_times t tp) h.at_base.0 (record { line = line; at = b })
        h.at_base.1 i c lt up;
    keeps = keeps;
  }
