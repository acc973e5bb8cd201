-- How a monitor stands behind an entry or a commit that it takes.
use Rattle.std.proofs.Common.{◌≡◌, ℕ, zero, suc, ◌+◌, ◌<◌, ◌≤◌, ◌⊎◌, inl, inr, List, [], ◌∷◌, ◌++◌, length, get_or, Option, Some, None, false, refl, sym, ◌∙◌, ap, subst, arith}
use Rattle.std.specs.Prelude.{slice_get, is_none, Contains, All}
use Rattle.std.specs.List.Sorted.{IsStrictlyIncreasing}
use Rattle.std.proofs.lemmas.Bool.{cases_lt}
use Rattle.std.proofs.lemmas.Option.{slice_get_within, get_or_from_slice_get}
use Rattle.std.proofs.lemmas.List.Elements.{All-cons, All-contains, All-contains_itself, All-nil, Contains-append_right}
use Rattle.trace_lines.specs.Kept.{IsPlaced}
use Rattle.trace_lines.specs.Placed.{AreInPlace, HasPlacedCommits}
use Rattle.trace_lines.specs.Values.{EntryValue, TraceValue, entry_lines}
use Rattle.token_order.specs.Found.{open_snapshot}
use Rattle.token_order.proofs.Lines.{line_before}
use Rattle.follow_laws.specs.Told.{is_at, settling_line}
use Rattle.monitor.specs.Standing.{AreToBeTold, AreUnreached, IsReached, IsEntryNext, IsCommitNext, Stands, StandBefore, time_of, line_of}
use Rattle.monitor.specs.Waiting.{AreDue, AreLeft}
use Rattle.monitor.specs.declared.monitor.Monitor.{Monitor}
use Rattle.monitor.proofs.CommitLemmas.{not_at, lines_rise, line_earlier, line_later, settles_nowhere, settles_not_at, settles_not_before, settles_somewhere, opens_elsewhere}
use Rattle.monitor.proofs.TellingLemmas.{IsSilent, silent_left, silent_of}
use Rattle.monitor.proofs.WaitingLemmas.{first_there}

entry_at : (es : List EntryValue) (i : ℕ) → i < length es → (e : EntryValue) × (slice_get es i ≡ Some e)
entry_at [] i lt = absurd (omega (arith, lt))
entry_at (e ∷ es) zero lt = (e, refl)
entry_at (e ∷ es) (suc i) lt = entry_at es i (omega (arith, lt))

alone : (P : ℕ → Type 0) (done : List ℕ) (i : ℕ) (rest : List ℕ) → All P (done ++ i ∷ rest) → All P (i ∷ [])
alone P done i rest all = All-cons P i []
    (All-contains P (done ++ i ∷ rest) i all (Contains-append_right done (i ∷ rest) i (first_there i rest))) (All-nil P)

-- of those that are to be told, one of them
pub one_to_be_told : (t : TraceValue) (commit : Option ℕ) (done : List ℕ) (i : ℕ) (rest : List ℕ)
    → AreToBeTold t commit (done ++ i ∷ rest) → AreToBeTold t commit (i ∷ [])
one_to_be_told t (Some c) done i rest (inside, all) =
    (inside, alone (λ (j : ℕ). (e : EntryValue) × (slice_get t.entries j ≡ Some e) × (e.before ≤ c)) done i rest all)
one_to_be_told t None done i rest all =
    alone (λ (j : ℕ). (e : EntryValue) × (slice_get t.entries j ≡ Some e) × ¬ IsReached t (length t.commits) e.snapshot)
    done i rest all

-- which is an entry
pub place_to_be_told : (t : TraceValue) (commit : Option ℕ) (i : ℕ) → AreToBeTold t commit (i ∷ [])
    → (e : EntryValue) × (slice_get t.entries i ≡ Some e)
place_to_be_told t (Some c) i (inside, all) = let h = all 0 0 (omega arith) in (h.0, h.1)
place_to_be_told t None i all = let h = all 0 0 (omega arith) in (h.0, h.1)

pub placed_at : (t : TraceValue) → AreInPlace t → (i : ℕ) (e : EntryValue) → slice_get t.entries i ≡ Some e
    → IsPlaced t.commit_lines e
placed_at t placed i e at = All-contains (IsPlaced t.commit_lines) t.entries e placed.entries (
  i,
  slice_get_within t.entries i e at,
  get_or_from_slice_get t.entries i e e at,
)

module _ (t : TraceValue) (placed : AreInPlace t)
    (rising : IsStrictlyIncreasing (entry_lines t.entries)) where
  commits : HasPlacedCommits t
  commits = placed.commits

  within : (i : ℕ) (e : EntryValue) → slice_get t.entries i ≡ Some e → e.before ≤ length t.commits
  within i e at =
      let p = placed_at t placed i e at in
      let counted = p.counted in
      let same = commits.counted in
      omega (arith, counted, same)

  -- a later entry stands behind as many commits, or more
  pub before_rises : (i j : ℕ) (e x : EntryValue) → slice_get t.entries i ≡ Some e → slice_get t.entries j ≡ Some x
      → i ≤ j → e.before ≤ x.before
  before_rises i j e x at there le = elim (cases_lt x.before e.before) [
    | inr fine ↦ fine
    | inl lt ↦
        let inside = within i e at in
        let behind = line_later t commits x (placed_at t placed j x there) x.before (omega arith) (omega (arith, lt, inside)) in
        let ahead = line_earlier t commits e (placed_at t placed i e at) x.before lt in
        elim (cases_lt i j) [
          | inl less ↦ let up = line_before t rising j i x e there at less in omega (arith, behind, ahead, up)
          | inr ge ↦
              let same : i ≡ j = omega (arith, le, ge) in
              let alike : e ≡ x = let h = sym at ∙ ap (slice_get t.entries) same ∙ there in cc in
              let lines = ap (λ (y : EntryValue). y.before) alike in
              omega (arith, lt, lines)
        ]
  ]

  -- two entries stand on two lines
  lines_differ : (i j : ℕ) (e x : EntryValue) → slice_get t.entries i ≡ Some e → slice_get t.entries j ≡ Some x
      → (j ≡ i → ⊥) → x.line ≡ e.line → ⊥
  lines_differ i j e x at there differ same = elim (cases_lt i j) [
    | inl lt ↦ let up = line_before t rising j i x e there at lt in omega (arith, up, same)
    | inr ge ↦ elim (cases_lt j i) [
      | inl lt ↦ let up = line_before t rising i j e x at there lt in omega (arith, up, same)
      | inr le ↦ differ (omega (arith, ge, le))
    ]
  ]

  -- no line of an entry is that of a commit
  apart : (i c : ℕ) (e : EntryValue) → slice_get t.entries i ≡ Some e → c < length t.commits → line_of t c ≡ e.line → ⊥
  apart i c e at inside same = elim (cases_lt c e.before) [
    | inl lt ↦ let up = line_earlier t commits e (placed_at t placed i e at) c lt in omega (arith, up, same)
    | inr ge ↦ let up = line_later t commits e (placed_at t placed i e at) c ge inside in omega (arith, up, same)
  ]

  -- an entry's own line shows no snapshot open
  pub opens_later : (i : ℕ) (e : EntryValue) → slice_get t.entries i ≡ Some e → is_at e.line (open_snapshot t e) ≡ false
  opens_later i e at = opens_elsewhere t commits e (placed_at t placed i e at) e.line (λ inside same. apart i e.before e at inside same)

  -- and that of a commit behind an entry is not its own
  pub not_own : (c i : ℕ) (e : EntryValue) → slice_get t.entries i ≡ Some e → c < length t.commits → e.before ≤ c
      → is_at (line_of t c) (Some e.line) ≡ false
  not_own c i e at inside behind = not_at (line_of t c) e.line (λ same. apart i c e at inside (sym same))

  silent_by : (k j : ℕ) (x : EntryValue) → (x.line ≡ k → ⊥) → is_at k (open_snapshot t x) ≡ false
      → is_at k (settling_line t x) ≡ false → IsSilent t (is_at k) j x
  silent_by k j x own opens settling = (λ steps. silent_of t k steps j x (not_at k x.line own) opens settling, settling)

  -- at a line that is neither its own nor a commit's nothing is told of an entry
  pub silent_off : (k i : ℕ) (e : EntryValue) → slice_get t.entries i ≡ Some e → (e.line ≡ k → ⊥)
      → ((c : ℕ) → c < length t.commits → line_of t c ≡ k → ⊥) → IsSilent t (is_at k) i e
  silent_off k i e at own others =
      silent_by k i e own (opens_elsewhere t commits e (placed_at t placed i e at) k (λ inside same. others e.before inside same))
      (settles_not_at t commits e (placed_at t placed i e at) k own others)

  -- at an entry's own line nothing is told of another
  pub silent_beside : (i : ℕ) (e : EntryValue) → slice_get t.entries i ≡ Some e → (j : ℕ) (x : EntryValue)
      → slice_get t.entries j ≡ Some x → (j ≡ i → ⊥) → IsSilent t (is_at e.line) j x
  silent_beside i e at j x there differ =
      silent_by e.line j x (lines_differ i j e x at there differ)
      (opens_elsewhere t commits x (placed_at t placed j x there) e.line (λ inside same. apart i x.before e at inside same))
      (settles_not_at t commits x (placed_at t placed j x there) e.line (lines_differ i j e x at there differ)
      (λ c inside same. apart i c e at inside same))

  -- at a commit's line nothing is told of an entry behind it
  silent_behind : (c j : ℕ) (x : EntryValue) → c < length t.commits → slice_get t.entries j ≡ Some x → c < x.before
      → IsSilent t (is_at (line_of t c)) j x
  silent_behind c j x inside there lt =
      let up = line_earlier t commits x (placed_at t placed j x there) c lt in
      silent_by (line_of t c) j x (λ same. omega (arith, up, same))
      (opens_elsewhere t commits x (placed_at t placed j x there) (line_of t c)
      (λ in_all same. let further = lines_rise t commits c x.before lt in_all in omega (arith, further, same)))
      (settles_not_before t commits x (placed_at t placed j x there) (line_of t c) up)

  -- nor of one in front of an earlier commit, which this one does not settle
  silent_before : (c j : ℕ) (x : EntryValue) → c < length t.commits → slice_get t.entries j ≡ Some x → x.before < c
      → ¬ ((x.snapshot ≤ time_of t c) × ¬ IsReached t c x.snapshot) → IsSilent t (is_at (line_of t c)) j x
  silent_before c j x inside there lt unsettled =
      let later = line_later t commits x (placed_at t placed j x there) c (omega (arith, lt)) inside in
      silent_by (line_of t c) j x (λ same. omega (arith, later, same))
      (opens_elsewhere t commits x (placed_at t placed j x there) (line_of t c)
      (λ in_all same. let further = lines_rise t commits x.before c lt inside in omega (arith, further, same)))
      (settles_nowhere t commits x (placed_at t placed j x there) c inside (omega (arith, lt)) unsettled)

  module _ (m : Monitor) (stands : Stands t m) where
    -- ---- an entry is taken

    module _ (e : EntryValue) (next : IsEntryNext t m e) where
      pub entry_before : e.before ≡ m.commits
      entry_before =
          let le = next.before in
          let ge = stands.behind m.entries e next.there (omega arith) in
          omega (arith, le, ge)

      pub stands_behind_entry : (n : Monitor) → n.entries ≡ m.entries + 1 → n.commits ≡ m.commits → n.fresh ≡ m.fresh
          → ((q : ℕ × ℕ) → Contains m.waiting.keys q → Contains n.waiting.keys q)
          → ((q : ℕ × ℕ) → Contains n.waiting.keys q
          → Contains m.waiting.keys q ⊎ ((q ≡ (e.snapshot, m.entries)) × ¬ IsReached t m.commits e.snapshot))
          → (¬ IsReached t m.commits e.snapshot → Contains n.waiting.keys (e.snapshot, m.entries)) → Stands t n
      stands_behind_entry n more same_commits same_fresh kept only put = record {
        entries = let inside = slice_get_within t.entries m.entries e next.there in omega (arith, more, inside);
        commits = let le = stands.commits in omega (arith, le, same_commits);
        fresh = let le = stands.fresh in omega (arith, le, more, same_fresh);
        earlier = λ i x at lt. let below = stands.earlier i x at (omega (arith, lt, same_fresh)) in omega (arith, below, same_commits);
        last = λ i x at from lt. elim (cases_lt i m.entries) [
          | inl below ↦ let is = stands.last i x at (omega (arith, from, same_fresh)) below in omega (arith, is, same_commits)
          | inr ge ↦
              let same : i ≡ m.entries = omega (arith, ge, lt, more) in
              let alike : x ≡ e = let h = sym at ∙ ap (slice_get t.entries) same ∙ next.there in cc in
              let own = entry_before in
              let here = ap (λ (y : EntryValue). y.before) alike in
              omega (arith, own, here, same_commits)
        ];
        behind = λ i x at le. let ge = stands.behind i x at (omega (arith, le, more)) in omega (arith, ge, same_commits);
        waits = λ i x at lt unreached. elim (cases_lt i m.entries) [
          | inl below ↦ kept (x.snapshot, i) (stands.waits i x at below (subst (λ (c : ℕ). ¬ IsReached t c x.snapshot) same_commits unreached))
          | inr ge ↦
              let same : i ≡ m.entries = omega (arith, ge, lt, more) in
              let alike : x ≡ e = let h = sym at ∙ ap (slice_get t.entries) same ∙ next.there in cc in
              let snapshots = ap (λ (y : EntryValue). y.snapshot) alike in
              subst (λ (s : ℕ). Contains n.waiting.keys (s, i)) (sym snapshots)
              (subst (λ (k : ℕ). Contains n.waiting.keys (e.snapshot, k)) (sym same)
              (put (subst (λ (s : ℕ). ¬ IsReached t m.commits s) snapshots (subst (λ (c : ℕ). ¬ IsReached t c x.snapshot) same_commits unreached))))
        ];
        waiting = λ s i there. elim (only (s, i) there) [
          | inl before ↦
              let h = stands.waiting s i before in
              (h.0, h.1, let lt = h.2 in omega (arith, lt, more), h.3, subst (λ (c : ℕ). ¬ IsReached t c s) (sym same_commits) h.4)
          | inr new ↦
              let is_s : s ≡ e.snapshot = ap (λ (q : ℕ × ℕ). q.0) new.0 in
              let is_i : i ≡ m.entries = ap (λ (q : ℕ × ℕ). q.1) new.0 in (
                e,
                ap (slice_get t.entries) is_i ∙ next.there,
                omega (arith, is_i, more),
                sym is_s,
                subst (λ (c : ℕ). ¬ IsReached t c s) (sym same_commits) (subst (λ (k : ℕ). ¬ IsReached t m.commits k) (sym is_s) new.1),
              )
        ];
      }

    -- ---- a commit is taken

    module _ (next : IsCommitNext t m) (waiting : List (ℕ × ℕ)) (due : List ℕ)
        (are : AreDue (time_of t m.commits) m.fresh m.entries m.waiting.keys waiting due) where
      -- a later commit reaches what some earlier one does
      reached_further : (s : ℕ) → IsReached t m.commits s → IsReached t (m.commits + 1) s
      reached_further s (c, lt, le) = (c, omega (arith, lt), le)

      pub stands_behind_commit : (n : Monitor) → n.entries ≡ m.entries → n.commits ≡ m.commits + 1 → n.fresh ≡ m.entries
          → n.waiting.keys ≡ waiting → Stands t n
      stands_behind_commit n same_entries more all_old is = record {
        entries = let le = stands.entries in omega (arith, le, same_entries);
        commits = let lt = next.there in omega (arith, lt, more);
        fresh = omega (arith, all_old, same_entries);
        earlier = λ i x at lt. elim (cases_lt i m.fresh) [
          | inl below ↦ let up = stands.earlier i x at below in omega (arith, up, more)
          | inr ge ↦ let here = stands.last i x at ge (omega (arith, lt, all_old)) in omega (arith, here, more)
        ];
        last = λ i x at from lt. absurd (omega (arith, from, lt, all_old, same_entries));
        behind = λ i x at le. let up = next.behind i x at (omega (arith, le, same_entries)) in omega (arith, up, more);
        waits = λ i x at lt unreached.
            let before : ¬ IsReached t m.commits x.snapshot = λ h. unreached (subst (λ (c : ℕ). IsReached t c x.snapshot) (sym more) (reached_further x.snapshot h)) in
            elim (are.waited (x.snapshot, i) (stands.waits i x at (omega (arith, lt, same_entries)) before)) [
              | inl still ↦ subst (λ (ks : List (ℕ × ℕ)). Contains ks (x.snapshot, i)) (sym is) still
              | inr told ↦ absurd (unreached (m.commits, omega (arith, more), told.0))
            ];
        waiting = λ s i there.
            let now = subst (λ (ks : List (ℕ × ℕ)). Contains ks (s, i)) is there in
            let h = stands.waiting s i (are.kept (s, i) now) in (
              h.0,
              h.1,
              let lt = h.2 in omega (arith, lt, same_entries),
              h.3,
              λ (c, lt, le). elim (cases_lt c m.commits) [
                | inl below ↦ h.4 (c, below, le)
                | inr ge ↦
                    let here : c ≡ m.commits = omega (arith, ge, lt, more) in
                    let later = are.later (s, i) now in
                    let time = ap (time_of t) here in
                    omega (arith, le, later, time)
              ],
            );
      }

      -- those that are due stand before the commit
      stands_before : (i : ℕ) → Contains due i → (e : EntryValue) × (slice_get t.entries i ≡ Some e) × (e.before ≤ m.commits)
      stands_before i there = elim (are.only i there) [
        | inl between ↦
            let inside = stands.entries in
            let found = entry_at t.entries i (let end = between.1 in omega (arith, end, inside)) in
            (found.0, found.1, let is = stands.last i found.0 found.1 between.0 between.1 in omega (arith, is))
        | inr awaited ↦
            let h = stands.waiting awaited.0 i awaited.2 in (
              h.0,
              h.1,
              elim (cases_lt i m.fresh) [
                | inl below ↦ let up = stands.earlier i h.0 h.1 below in omega (arith, up)
                | inr ge ↦ let is = stands.last i h.0 h.1 ge h.2 in omega (arith, is)
              ],
            )
      ]

      pub due_before : StandBefore t m.commits due
      due_before i d lt = stands_before (get_or due i d) (All-contains_itself due i d lt)

      -- and of the others nothing is told
      pub silent_undue : (j : ℕ) (x : EntryValue) → slice_get t.entries j ≡ Some x → (Contains due j → ⊥)
          → IsSilent t (is_at (line_of t m.commits)) j x
      silent_undue j x there undue = elim (cases_lt j m.entries) [
        | inr ge ↦ silent_behind m.commits j x next.there there (next.behind j x there ge)
        | inl lt ↦ elim (cases_lt j m.fresh) [
          | inr fresh ↦ absurd (undue (are.between j fresh lt))
          | inl old ↦ silent_before m.commits j x next.there there (stands.earlier j x there old) (λ settles.
              elim (are.waited (x.snapshot, j) (stands.waits j x there lt settles.1)) [
                | inl still ↦ let later = are.later (x.snapshot, j) still in let le = settles.0 in absurd (omega (arith, later, le))
                | inr told ↦ undue told.1
              ])
        ]
      ]

    -- ---- the end of the log

    module _ (all : m.commits ≡ length t.commits) (every : m.entries ≡ length t.entries) (left : List ℕ)
        (are : AreLeft m.waiting.keys left) where
      unreached_left : (i : ℕ) → Contains left i → (e : EntryValue) × (slice_get t.entries i ≡ Some e)
          × ¬ IsReached t (length t.commits) e.snapshot
      unreached_left i there =
          let waited = are.only i there in
          let h = stands.waiting waited.0 i waited.1 in
          (h.0, h.1, subst (λ (n : ℕ). ¬ IsReached t n h.0.snapshot) all (subst (λ (s : ℕ). ¬ IsReached t m.commits s) (sym h.3) h.4))

      pub left_unreached : AreUnreached t left
      left_unreached i d lt = unreached_left (get_or left i d) (All-contains_itself left i d lt)

      -- of all others nothing is left to be told
      pub silent_at_end : (j : ℕ) (x : EntryValue) → slice_get t.entries j ≡ Some x → (Contains left j → ⊥) → IsSilent t is_none j x
      silent_at_end j x there gone =
          let settles = settles_somewhere t commits x (placed_at t placed j x there) (λ unreached. gone (are.all (x.snapshot, j)
          (stands.waits j x there (let lt = slice_get_within t.entries j x there in omega (arith, lt, every))
          (subst (λ (n : ℕ). ¬ IsReached t n x.snapshot) (sym all) unreached)))) in
          (λ steps. silent_left t steps j x settles, settles)
