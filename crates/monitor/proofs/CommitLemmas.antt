-- At which line an entry is told: what a commit's line and an entry's own line are to its moments.
use Rattle.std.proofs.Common.{◌≡◌, ℕ, zero, suc, ◌+◌, ◌-◌, ◌<◌, ◌≤◌, ◌⊎◌, inl, inr, Bool, true, false, cond, leb, max, List, [], ◌∷◌, length, map, get_or, drop, Option, Some, None, refl, sym, ◌∙◌, ap, subst, arith, rules}
use Rattle.std.specs.Prelude.{is_none, option_map}
use Rattle.std.specs.List.{list_any}
use Rattle.std.specs.List.Sorted.{IsStrictlyIncreasing}
use Rattle.std.proofs.lemmas.Bool.{cases_lt, ne_eqb, le-leb, lt-leb}
use Rattle.std.proofs.lemmas.List.{length-map, get_or-take, get_or-drop, length-take, length-drop}
use Rattle.std.proofs.lemmas.List.Kept.{AllPairs-from_increasing}
use Rattle.version_chains.specs.Commits.{Commit}
use Rattle.trace_lines.specs.Kept.{IsPlaced}
use Rattle.trace_lines.specs.Placed.{HasPlacedCommits}
use Rattle.trace_lines.specs.Values.{EntryValue, TraceValue}
use Rattle.token_order.specs.Order.{CommitLine, on_lines, commit_lines_of}
use Rattle.token_order.specs.Found.{later_commits, first_line, open_snapshot}
use Rattle.token_order.proofs.Neighbours.{later_are, first_covered, none_covered, none_behind}
use Rattle.follow_laws.specs.Told.{line_reaching, settling_line, is_at}
use Rattle.monitor.specs.Standing.{IsReached, time_of, line_of}

-- ---- the first commit at or above a timestamp

abbrev times : List Commit → List ℕ
times cs = map (λ (c : Commit). c.at) cs

reaching_at : (s : ℕ) (ls : List ℕ) (cs : List Commit) (c : ℕ) → length ls ≡ length cs → c < length cs
    → s ≤ get_or (times cs) c 0 → ((j : ℕ) → j < c → get_or (times cs) j 0 < s)
    → line_reaching s (on_lines ls cs) ≡ Some (get_or ls c 0)
reaching_at s ls [] c counted lt reaches before = absurd (omega (arith, lt))
reaching_at s [] (x ∷ cs) c counted lt reaches before = absurd (omega (arith, counted))
reaching_at s (l ∷ ls) (x ∷ cs) zero counted lt reaches before = rw (le-leb s x.at reaches) refl
reaching_at s (l ∷ ls) (x ∷ cs) (suc c) counted lt reaches before =
    rw (lt-leb s x.at (before 0 (omega arith)))
    (reaching_at s ls cs c (omega (arith, counted)) (omega (arith, lt)) reaches (λ j below. before (suc j) (omega (arith, below))))

reaching_none : (s : ℕ) (ls : List ℕ) (cs : List Commit) → ((j : ℕ) → j < length cs → get_or (times cs) j 0 < s)
    → line_reaching s (on_lines ls cs) ≡ None
reaching_none s [] cs before = refl
reaching_none s (l ∷ ls) [] before = refl
reaching_none s (l ∷ ls) (x ∷ cs) before =
    rw (lt-leb s x.at (before 0 (omega arith))) (reaching_none s ls cs (λ j below. before (suc j) (omega (arith, below))))

-- the first commit that reaches the timestamp
record IsFirst (s : ℕ) (cs : List Commit) (c : ℕ) : Type 0 where
  inside : c < length cs
  reaches : s ≤ get_or (times cs) c 0
  before : (j : ℕ) → j < c → get_or (times cs) j 0 < s

first_or_none : (s : ℕ) (cs : List Commit)
    → ((c : ℕ) × IsFirst s cs c) ⊎ ((j : ℕ) → j < length cs → get_or (times cs) j 0 < s)
first_or_none s [] = inr (λ j lt. absurd (omega (arith, lt)))
first_or_none s (x ∷ cs) = elim (cases_lt x.at s) [
  | inl below ↦ by_rest below (first_or_none s cs)
  | inr here ↦ inl (0, record { inside = omega arith; reaches = here; before = λ j lt. absurd (omega (arith, lt)) })
]
  where
    behind : x.at < s → (j : ℕ) (c : ℕ) → ((k : ℕ) → k < c → get_or (times cs) k 0 < s) → j < suc c
        → get_or (times (x ∷ cs)) j 0 < s
    behind below zero c rest lt = below
    behind below (suc j) c rest lt = rest j (omega (arith, lt))

    by_rest : x.at < s → ((c : ℕ) × IsFirst s cs c) ⊎ ((j : ℕ) → j < length cs → get_or (times cs) j 0 < s)
        → ((c : ℕ) × IsFirst s (x ∷ cs) c) ⊎ ((j : ℕ) → j < length (x ∷ cs) → get_or (times (x ∷ cs)) j 0 < s)
    by_rest below (inl (c, first)) = inl (
      suc c,
      record {
        inside = let inside = first.inside in omega (arith, inside);
        reaches = first.reaches;
        before = λ j lt. behind below j c first.before lt;
      },
    )
    by_rest below (inr none) = inr (λ j lt. behind below j (length cs) none (omega (arith, lt)))

-- where the last of the first commits is below a timestamp, all of them are
pub unreached_by : (t : TraceValue) (n s : ℕ) (ts : List ℕ) → ts ≡ times t.commits → IsStrictlyIncreasing ts
    → n ≤ length ts → 0 < n → get_or ts (n - 1) 0 < s → ¬ IsReached t n s
unreached_by t n s ts are rising within some below (c, lt, le) =
    let here = ap (λ (xs : List ℕ). get_or xs c 0) are in
    elim (cases_lt c (n - 1)) [
      | inl earlier ↦
          let up = AllPairs-from_increasing ts rising c (n - 1) 0 earlier (omega (arith, within, some)) in
          omega (arith, up, below, le, here)
      | inr last ↦
          let same : c ≡ n - 1 = omega (arith, lt, last) in
          let there = ap (λ (k : ℕ). get_or ts k 0) same in
          omega (arith, there, below, le, here)
    ]

-- ---- an entry among the commits of its trace

pub not_at : (k l : ℕ) → (l ≡ k → ⊥) → is_at k (Some l) ≡ false
not_at k l differ = ne_eqb l k differ

pub at_itself : (k : ℕ) → is_at k (Some k) ≡ true
at_itself k = search rules

module _ (t : TraceValue) (placed : HasPlacedCommits t) where
  count : length t.commit_lines ≡ length t.commits
  count = placed.counted

  pub lines_rise : (j c : ℕ) → j < c → c < length t.commits → line_of t j < line_of t c
  lines_rise j c below inside = AllPairs-from_increasing t.commit_lines placed.lines j c 0 below (omega (arith, inside, count))

  pub times_rise : (j c : ℕ) → j < c → c < length t.commits → time_of t j < time_of t c
  times_rise j c below inside =
      let long = length-map t.commits (λ (x : Commit). x.at) in
      AllPairs-from_increasing (times t.commits) placed.timestamps j c 0 below (omega (arith, inside, long))

  module _ (e : EntryValue) (stands : IsPlaced t.commit_lines e) where
    pub line_earlier : (c : ℕ) → c < e.before → line_of t c < e.line
    line_earlier c below =
        let within = stands.counted in
        let shorter = length-take e.before t.commit_lines in
        let here = get_or-take e.before t.commit_lines c 0 below in
        let lt = stands.earlier c 0 (omega (arith, below, shorter, within)) in
        omega (arith, lt, here)

    pub line_later : (c : ℕ) → e.before ≤ c → c < length t.commits → e.line < line_of t c
    line_later c behind inside =
        let shorter = length-drop e.before t.commit_lines in
        let same : e.before + (c - e.before) ≡ c = omega (arith, behind) in
        let here = get_or-drop e.before t.commit_lines (c - e.before) 0 in
        let lt = stands.later (c - e.before) 0 (omega (arith, shorter, behind, inside, count)) in
        let there : get_or t.commit_lines (e.before + (c - e.before)) 0 ≡ line_of t c = ap (λ (n : ℕ). get_or t.commit_lines n 0) same in
        omega (arith, lt, here, there)

    -- ---- the line that settles it

    settling_first : (c : ℕ) → IsFirst e.snapshot t.commits c → settling_line t e ≡ Some (max e.line (line_of t c))
    settling_first c first =
        ap (option_map (max e.line)) (reaching_at e.snapshot t.commit_lines t.commits c count first.inside first.reaches first.before)

    settling_none : ((j : ℕ) → j < length t.commits → time_of t j < e.snapshot) → settling_line t e ≡ None
    settling_none none = ap (option_map (max e.line)) (reaching_none e.snapshot t.commit_lines t.commits none)

    -- a commit behind the entry that is the first to reach its snapshot settles it
    pub settles_here : (c : ℕ) → c < length t.commits → e.before ≤ c → e.snapshot ≤ time_of t c
        → ¬ IsReached t c e.snapshot → settling_line t e ≡ Some (line_of t c)
    settles_here c inside behind reaches unreached =
        let first : IsFirst e.snapshot t.commits c = record {
          inside = inside;
          reaches = reaches;
          before = λ j lt. elim (cases_lt (time_of t j) e.snapshot) [
            | inl below ↦ below
            | inr le ↦ absurd (unreached (j, lt, le))
          ];
        } in
        let later = line_later c behind inside in
        let same : max e.line (line_of t c) ≡ line_of t c = omega (arith, later) in
        settling_first c first ∙ ap Some same

    -- and no other commit behind it does
    pub settles_nowhere : (c : ℕ) → c < length t.commits → e.before ≤ c
        → ¬ ((e.snapshot ≤ time_of t c) × ¬ IsReached t c e.snapshot) → is_at (line_of t c) (settling_line t e) ≡ false
    settles_nowhere c inside behind unsettled = by_first (first_or_none e.snapshot t.commits)
      where
        reached_by : (d : ℕ) → IsFirst e.snapshot t.commits d → IsReached t c e.snapshot → d < c
        reached_by d first (j, below, le) = elim (cases_lt d c) [
          | inl lt ↦ lt
          | inr ge ↦ let up = first.before j (omega (arith, below, ge)) in absurd (omega (arith, up, le))
        ]

        apart : (d : ℕ) → IsFirst e.snapshot t.commits d → max e.line (line_of t d) ≡ line_of t c → ⊥
        apart d first same = elim (cases_lt d c) [
          | inl lt ↦ let later = line_later c behind inside in let up = lines_rise d c lt inside in
              omega (arith, same, later, up)
          | inr ge ↦ elim (cases_lt c d) [
            | inl gt ↦ let up = lines_rise c d gt first.inside in omega (arith, same, up)
            | inr le ↦
                let here : d ≡ c = omega (arith, ge, le) in
                unsettled (
                  subst (λ (n : ℕ). e.snapshot ≤ time_of t n) here first.reaches,
                  λ reached. let lt = reached_by d first reached in omega (arith, lt, here),
                )
          ]
        ]

        by_first : ((d : ℕ) × IsFirst e.snapshot t.commits d) ⊎ ((j : ℕ) → j < length t.commits → time_of t j < e.snapshot)
            → is_at (line_of t c) (settling_line t e) ≡ false
        by_first (inl (d, first)) =
            ap (is_at (line_of t c)) (settling_first d first) ∙ not_at (line_of t c) (max e.line (line_of t d)) (apart d first)
        by_first (inr none) = ap (is_at (line_of t c)) (settling_none none)

    -- where a commit before the entry reaches its snapshot, its own line settles it
    pub settles_at_once : IsReached t e.before e.snapshot → settling_line t e ≡ Some e.line
    settles_at_once (j, below, le) = by_first (first_or_none e.snapshot t.commits)
      where
        within : e.before ≤ length t.commits
        within = let counted = stands.counted in omega (arith, counted, count)

        by_first : ((d : ℕ) × IsFirst e.snapshot t.commits d) ⊎ ((j : ℕ) → j < length t.commits → time_of t j < e.snapshot)
            → settling_line t e ≡ Some e.line
        by_first (inl (d, first)) =
            let lt : d < e.before = elim (cases_lt d e.before) [
              | inl lt ↦ lt
              | inr ge ↦ let up = first.before j (omega (arith, below, ge)) in absurd (omega (arith, up, le))
            ] in
            let earlier = line_earlier d lt in
            let same : max e.line (line_of t d) ≡ e.line = omega (arith, earlier) in
            settling_first d first ∙ ap Some same
        by_first (inr none) = let up = none j (let in_all = within in omega (arith, below, in_all)) in absurd (omega (arith, up, le))

    -- and else it does not
    pub settles_later : ¬ IsReached t e.before e.snapshot → is_at e.line (settling_line t e) ≡ false
    settles_later unreached = by_first (first_or_none e.snapshot t.commits)
      where
        by_first : ((d : ℕ) × IsFirst e.snapshot t.commits d) ⊎ ((j : ℕ) → j < length t.commits → time_of t j < e.snapshot)
            → is_at e.line (settling_line t e) ≡ false
        by_first (inl (d, first)) =
            let ge : e.before ≤ d = elim (cases_lt d e.before) [
              | inl lt ↦ absurd (unreached (d, lt, first.reaches))
              | inr ge ↦ ge
            ] in
            let later = line_later d ge first.inside in
            ap (is_at e.line) (settling_first d first)
            ∙ not_at e.line (max e.line (line_of t d)) (λ same. omega (arith, same, later))
        by_first (inr none) = ap (is_at e.line) (settling_none none)

    -- it is settled at no line that is neither its own nor a commit's
    pub settles_not_at : (k : ℕ) → (e.line ≡ k → ⊥) → ((c : ℕ) → c < length t.commits → line_of t c ≡ k → ⊥)
        → is_at k (settling_line t e) ≡ false
    settles_not_at k own others = by_first (first_or_none e.snapshot t.commits)
      where
        by_first : ((d : ℕ) × IsFirst e.snapshot t.commits d) ⊎ ((j : ℕ) → j < length t.commits → time_of t j < e.snapshot)
            → is_at k (settling_line t e) ≡ false
        by_first (inl (d, first)) =
            ap (is_at k) (settling_first d first) ∙ not_at k (max e.line (line_of t d)) (λ same. elim (cases_lt e.line (line_of t d)) [
              | inl lt ↦ others d first.inside (omega (arith, lt, same))
              | inr ge ↦ own (omega (arith, ge, same))
            ])
        by_first (inr none) = ap (is_at k) (settling_none none)

    -- nor before its own
    pub settles_not_before : (k : ℕ) → k < e.line → is_at k (settling_line t e) ≡ false
    settles_not_before k lt = by_first (first_or_none e.snapshot t.commits)
      where
        by_first : ((d : ℕ) × IsFirst e.snapshot t.commits d) ⊎ ((j : ℕ) → j < length t.commits → time_of t j < e.snapshot)
            → is_at k (settling_line t e) ≡ false
        by_first (inl (d, first)) =
            ap (is_at k) (settling_first d first) ∙ not_at k (max e.line (line_of t d)) (λ same. omega (arith, lt, same))
        by_first (inr none) = ap (is_at k) (settling_none none)

    -- the line that settles it is its own or a commit's
    pub settles_at_event : (l : ℕ) → settling_line t e ≡ Some l
        → (l ≡ e.line) ⊎ ((c : ℕ) × (c < length t.commits) × (l ≡ line_of t c))
    settles_at_event l is = by_first (first_or_none e.snapshot t.commits)
      where
        by_first : ((d : ℕ) × IsFirst e.snapshot t.commits d) ⊎ ((j : ℕ) → j < length t.commits → time_of t j < e.snapshot)
            → (l ≡ e.line) ⊎ ((c : ℕ) × (c < length t.commits) × (l ≡ line_of t c))
        by_first (inl (d, first)) =
            let same : max e.line (line_of t d) ≡ l = let h = sym (settling_first d first) ∙ is in cc in
            elim (cases_lt e.line (line_of t d)) [
              | inl lt ↦ inr (d, first.inside, omega (arith, lt, same))
              | inr ge ↦ inl (omega (arith, ge, same))
            ]
        by_first (inr none) = let h = sym (settling_none none) ∙ is in absurd cc

    -- an entry that no commit reaches is settled nowhere
    pub settles_never : ¬ IsReached t (length t.commits) e.snapshot → settling_line t e ≡ None
    settles_never unreached = by_first (first_or_none e.snapshot t.commits)
      where
        by_first : ((d : ℕ) × IsFirst e.snapshot t.commits d) ⊎ ((j : ℕ) → j < length t.commits → time_of t j < e.snapshot)
            → settling_line t e ≡ None
        by_first (inl (d, first)) = absurd (unreached (d, first.inside, first.reaches))
        by_first (inr none) = settling_none none

    -- and each other one somewhere
    pub settles_somewhere : ¬ (¬ IsReached t (length t.commits) e.snapshot) → is_none (settling_line t e) ≡ false
    settles_somewhere reached = by_first (first_or_none e.snapshot t.commits)
      where
        by_first : ((d : ℕ) × IsFirst e.snapshot t.commits d) ⊎ ((j : ℕ) → j < length t.commits → time_of t j < e.snapshot)
            → is_none (settling_line t e) ≡ false
        by_first (inl (d, first)) = ap is_none (settling_first d first)
        by_first (inr none) = absurd (reached (λ (j, lt, le). let up = none j lt in omega (arith, up, le)))

    -- ---- the line that shows its snapshot open

    -- a commit behind it at or below its snapshot, the first one there
    opens_at : (l : ℕ) → open_snapshot t e ≡ Some l
        → (e.before < length t.commits) × (l ≡ line_of t e.before) × (time_of t e.before ≤ e.snapshot)
    opens_at l is = by_inside (cases_lt e.before (length t.commits))
      where
        within : e.before ≤ length t.commits
        within = let counted = stands.counted in omega (arith, counted, count)

        later : later_commits t e ≡ drop e.before (commit_lines_of t)
        later = later_are t.commit_lines t.commits e.before e.line count placed.timestamps within stands.earlier stands.later

        covered : CommitLine → Bool
        covered c = leb c.at e.snapshot

        shown : cond (list_any covered (drop e.before (commit_lines_of t))) (first_line (drop e.before (commit_lines_of t))) None ≡ Some l
        shown = ap (λ (cs : List CommitLine). cond (list_any covered cs) (first_line cs) None) (sym later) ∙ is

        by_time : e.before < length t.commits → (time_of t e.before ≤ e.snapshot) ⊎ (e.snapshot < time_of t e.before)
            → (e.before < length t.commits) × (l ≡ line_of t e.before) × (time_of t e.before ≤ e.snapshot)
        by_time inside (inl le) =
            let both = first_covered t.commit_lines t.commits e.before e.line count placed.timestamps within stands.earlier stands.later e.snapshot inside le in
            (inside, (let h : Some (line_of t e.before) ≡ Some l = sym (rw (both.0, both.1) refl) ∙ shown in cc), le)
        by_time inside (inr lt) =
            let none = none_covered t.commit_lines t.commits e.before e.line count placed.timestamps within stands.earlier stands.later e.snapshot lt in
            let h : None ≡ Some l = sym (rw none refl) ∙ shown in absurd cc

        by_inside : (e.before < length t.commits) ⊎ (length t.commits ≤ e.before)
            → (e.before < length t.commits) × (l ≡ line_of t e.before) × (time_of t e.before ≤ e.snapshot)
        by_inside (inl inside) = elim (cases_lt e.snapshot (time_of t e.before)) [
          | inl lt ↦ by_time inside (inr lt)
          | inr le ↦ by_time inside (inl le)
        ]
        by_inside (inr beyond) =
            let none = none_behind t.commit_lines t.commits e.before e.line count placed.timestamps within stands.earlier stands.later e.snapshot beyond in
            let h : None ≡ Some l = sym (rw none refl) ∙ shown in absurd cc

    pub opens_elsewhere : (k : ℕ) → (e.before < length t.commits → line_of t e.before ≡ k → ⊥)
        → is_at k (open_snapshot t e) ≡ false
    opens_elsewhere k differ = by_line (open_snapshot t e) refl
      where
        by_line : (o : Option ℕ) → open_snapshot t e ≡ o → is_at k o ≡ false
        by_line None is = refl
        by_line (Some l) is =
            let there = opens_at l is in
            not_at k l (λ same. differ there.0 (sym there.1 ∙ same))

    -- where a commit before that reaches its snapshot, none of its line
    pub opens_nowhere : (c : ℕ) → c < length t.commits → IsReached t c e.snapshot
        → is_at (line_of t c) (open_snapshot t e) ≡ false
    opens_nowhere c inside (j, below, le) = by_line (open_snapshot t e) refl
      where
        by_line : (o : Option ℕ) → open_snapshot t e ≡ o → is_at (line_of t c) o ≡ false
        by_line None is = refl
        by_line (Some l) is =
            let there = opens_at l is in
            not_at (line_of t c) l (λ same. apart there.0 there.1 there.2 same)
          where
            apart : e.before < length t.commits → l ≡ line_of t e.before → time_of t e.before ≤ e.snapshot
                → l ≡ line_of t c → ⊥
            apart behind here early same = elim (cases_lt e.before c) [
              | inl lt ↦ let up = lines_rise e.before c lt inside in omega (arith, here, same, up)
              | inr ge ↦ elim (cases_lt c e.before) [
                | inl lt ↦ let up = lines_rise c e.before lt behind in omega (arith, here, same, up)
                | inr le_too ↦
                    let first : e.before ≡ c = omega (arith, ge, le_too) in
                    let times = ap (time_of t) first in
                    let up = times_rise j c below inside in
                    omega (arith, times, up, early, le)
              ]
            ]
