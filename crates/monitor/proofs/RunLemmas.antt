-- What a monitor tells of a trace, from its first line to its end.
use Rattle.std.proofs.Common.{◌≡◌, ℕ, zero, suc, ◌+◌, ◌<◌, ◌≤◌, inl, inr, max, Bool, true, false, cond, leb, List, [], ◌∷◌, ◌++◌, length, Option, Some, None, refl, sym, ◌∙◌, ap, subst, arith, append_assoc, append-nil}
use Rattle.std.specs.Prelude.{slice_get, is_none}
use Rattle.std.specs.List.{AllZip}
use Rattle.std.specs.List.Sorted.{IsStrictlyIncreasing}
use Rattle.std.proofs.lemmas.Bool.{cases_lt, eqb-true, le-leb, leb-true, lt-leb}
use Rattle.std.proofs.lemmas.Option.{slice_get_within}
use Rattle.trace_lines.specs.Placed.{AreInPlace, HasPlacedCommits}
use Rattle.trace_lines.specs.Values.{EntryValue, TraceValue, entry_lines, next_line}
use Rattle.token_order.proofs.Lines.{line_before}
use Rattle.evidence_check.specs.Evidences.{steps_of}
use Rattle.evidence_check.specs.Steps.{StepValue}
use Rattle.findings.specs.declared.finding.Finding.{Finding}
use Rattle.follow_laws.specs.Begun.{IsOfBytes}
use Rattle.follow_laws.specs.Told.{is_at, left_over, settling_line, told_before, told_from, told_on, told_between}
use Rattle.follow_laws.proofs.OnceLemmas.{once_law, own_line}
use Rattle.monitor.specs.SoFar.{IsTold, IsUpTo}
use Rattle.monitor.specs.Standing.{IsAtEnd, IsCommitNext, Takes, line_of}
use Rattle.monitor.specs.Telling.{AreAllowedAt, TellsLeft, told_of}
use Rattle.monitor.specs.Whole.{TellsAll}
use Rattle.monitor.specs.declared.monitor.Monitor.{Monitor}
use Rattle.monitor.proofs.GrowthLemmas.{below_last}
use Rattle.monitor.proofs.CommitLemmas.{at_itself, not_at, line_earlier, line_later, lines_rise, settles_at_event}
use Rattle.monitor.proofs.StandingLemmas.{placed_at, silent_off}
use Rattle.monitor.proofs.TellingLemmas.{IsSilent}

-- ---- what is told rests on the steps of what is settled then

told_any : (t : TraceValue) (test : Option ℕ → Bool) (one other : Option (List StepValue)) (i : ℕ) (e : EntryValue)
    → test (settling_line t e) ≡ false → told_of t test one i e ≡ told_of t test other i e
told_any t test one other i e unsettled = rw unsettled refl

same_of : (t : TraceValue) (test : Option ℕ → Bool) (one other : Option (List StepValue)) (i : ℕ) (e : EntryValue)
    → (test (settling_line t e) ≡ true → one ≡ other) → told_of t test one i e ≡ told_of t test other i e
same_of t test one other i e same = by_test (test (settling_line t e)) refl
  where
    by_test : (b : Bool) → test (settling_line t e) ≡ b → told_of t test one i e ≡ told_of t test other i e
    by_test true is = ap (λ (s : Option (List StepValue)). told_of t test s i e) (same is)
    by_test false is = told_any t test one other i e is

same_from : (t : TraceValue) (test : Option ℕ → Bool) (one other : List (Option (List StepValue))) (i : ℕ) (es : List EntryValue)
    → ((j : ℕ) (e : EntryValue) → slice_get es j ≡ Some e → test (settling_line t e) ≡ true
    → steps_of one (i + j) ≡ steps_of other (i + j)) → told_from test t one i es ≡ told_from test t other i es
same_from t test one other i [] same = refl
same_from t test one other i (e ∷ es) same =
    ap (λ (fs : List Finding). fs ++ told_from test t one (i + 1) es)
    (same_of t test (steps_of one i) (steps_of other i) i e (λ is.
    let here : i + 0 ≡ i = omega arith in
    sym (ap (steps_of one) here) ∙ same 0 e refl is ∙ ap (steps_of other) here))
    ∙ ap (λ (fs : List Finding). told_of t test (steps_of other i) i e ++ fs)
    (same_from t test one other (i + 1) es (λ j x at is.
    let next : i + suc j ≡ i + 1 + j = omega arith in
    sym (ap (steps_of one) next) ∙ same (suc j) x at is ∙ ap (steps_of other) next))

-- nothing is told where each entry is silent
none_told : (t : TraceValue) (test : Option ℕ → Bool) (given : List (Option (List StepValue))) (i : ℕ) (es : List EntryValue)
    → ((j : ℕ) (e : EntryValue) → slice_get es j ≡ Some e → IsSilent t test (i + j) e) → told_from test t given i es ≡ []
none_told t test given i [] silent = refl
none_told t test given i (e ∷ es) silent =
    let here : i + 0 ≡ i = omega arith in
    ap (λ (fs : List Finding). fs ++ told_from test t given (i + 1) es)
    (subst (λ (n : ℕ). told_of t test (steps_of given i) n e ≡ []) here ((silent 0 e refl).0 (steps_of given i)))
    ∙ none_told t test given (i + 1) es (λ j x at.
    let next : i + suc j ≡ i + 1 + j = omega arith in subst (λ (n : ℕ). IsSilent t test n x) next (silent (suc j) x at))

-- ---- steps of two evidences

-- those of one, but of another for what is settled at some moments
abbrev pick : (t : TraceValue) (test : Option ℕ → Bool) (one other : List (Option (List StepValue))) (i : ℕ)
    (es : List EntryValue) → List (Option (List StepValue))
pick t test one other i [] = []
pick t test one other i (e ∷ es) =
    cond (test (settling_line t e)) (steps_of other i) (steps_of one i) ∷ pick t test one other (i + 1) es

picked : (t : TraceValue) (test : Option ℕ → Bool) (one other : List (Option (List StepValue))) (i : ℕ) (es : List EntryValue)
    (j : ℕ) (e : EntryValue) → slice_get es j ≡ Some e → steps_of (pick t test one other i es) j
    ≡ cond (test (settling_line t e)) (steps_of other (i + j)) (steps_of one (i + j))
picked t test one other i [] j e at = absurd cc
picked t test one other i (x ∷ es) zero e at =
    let same : x ≡ e = cc in
    let here : i ≡ i + 0 = omega arith in
    ap (λ (y : EntryValue). cond (test (settling_line t y)) (steps_of other i) (steps_of one i)) same
    ∙ ap (λ (n : ℕ). cond (test (settling_line t e)) (steps_of other n) (steps_of one n)) here
picked t test one other i (x ∷ es) (suc j) e at =
    let next : i + 1 + j ≡ i + suc j = omega arith in
    picked t test one other (i + 1) es j e at
    ∙ ap (λ (n : ℕ). cond (test (settling_line t e)) (steps_of other n) (steps_of one n)) next

all_picked : (Allows : EntryValue → Option (List StepValue) → Type 0) (t : TraceValue) (test : Option ℕ → Bool)
    (one other : List (Option (List StepValue))) (i : ℕ) (es : List EntryValue)
    → ((j : ℕ) (e : EntryValue) → slice_get es j ≡ Some e → Allows e (steps_of (pick t test one other i es) j))
    → AllZip Allows es (pick t test one other i es)
all_picked Allows t test one other i [] each = tt
all_picked Allows t test one other i (e ∷ es) each =
    (each 0 e refl, all_picked Allows t test one other (i + 1) es (λ j x at. each (suc j) x at))

module _ (t : TraceValue) (test : Option ℕ → Bool) (one other : List (Option (List StepValue))) where
  abbrev both : List (Option (List StepValue))
  both = pick t test one other 0 t.entries

  picked_other : (i : ℕ) (e : EntryValue) → slice_get t.entries i ≡ Some e → test (settling_line t e) ≡ true
      → steps_of both i ≡ steps_of other i
  picked_other i e at is =
      let here : 0 + i ≡ i = omega arith in
      picked t test one other 0 t.entries i e at
      ∙ ap (λ (b : Bool). cond b (steps_of other (0 + i)) (steps_of one (0 + i))) is ∙ ap (steps_of other) here

  picked_one : (i : ℕ) (e : EntryValue) → slice_get t.entries i ≡ Some e → test (settling_line t e) ≡ false
      → steps_of both i ≡ steps_of one i
  picked_one i e at is =
      let here : 0 + i ≡ i = omega arith in
      picked t test one other 0 t.entries i e at
      ∙ ap (λ (b : Bool). cond b (steps_of other (0 + i)) (steps_of one (0 + i))) is ∙ ap (steps_of one) here

-- ---- from a line on

pub from_first : (t : TraceValue) (given : List (Option (List StepValue))) (k : ℕ)
    → told_between t given 0 k ≡ told_before t given k
from_first t given zero = refl
from_first t given (suc k) =
    ap (λ (b : Bool). told_between t given 0 k ++ cond b (told_on t given k) []) (le-leb 0 k (omega arith))
    ∙ ap (λ (fs : List Finding). fs ++ told_on t given k) (from_first t given k)

-- before that line there is none
pub none_between : (t : TraceValue) (given : List (Option (List StepValue))) (n k : ℕ) → k ≤ n → told_between t given n k ≡ []
none_between t given n zero le = refl
none_between t given n (suc k) le =
    ap (λ (b : Bool). told_between t given n k ++ cond b (told_on t given k) []) (lt-leb n k (omega (arith, le)))
    ∙ append-nil (told_between t given n k) ∙ none_between t given n k (omega (arith, le))

nothing_either : (b : Bool) → ◌≡◌ {A = List Finding} (cond b [] []) []
nothing_either true = refl
nothing_either false = refl

same_between : (t : TraceValue) (one other : List (Option (List StepValue))) (n k : ℕ)
    → ((i : ℕ) (e : EntryValue) → slice_get t.entries i ≡ Some e → (l : ℕ) → settling_line t e ≡ Some l → n ≤ l → l < k
    → steps_of one i ≡ steps_of other i) → told_between t one n k ≡ told_between t other n k
same_between t one other n zero same = refl
same_between t one other n (suc k) same =
    ap (λ (fs : List Finding). fs ++ cond (leb n k) (told_on t one k) [])
    (same_between t one other n k (λ i e at l is from lt. same i e at l is from (omega (arith, lt))))
    ∙ ap (λ (fs : List Finding). told_between t other n k ++ fs) (by_test (leb n k) refl)
  where
    line_at : (k : ℕ) (o : Option ℕ) → is_at k o ≡ true → o ≡ Some k
    line_at k None is = absurd cc
    line_at k (Some l) is = ap Some (eqb-true l k is)

    by_test : (b : Bool) → leb n k ≡ b → cond b (told_on t one k) [] ≡ cond b (told_on t other k) []
    by_test false is = refl
    by_test true is = same_from t (is_at k) one other 0 t.entries (λ j e at here.
        let z : 0 + j ≡ j = omega arith in
        ap (steps_of one) z ∙ same j e at k (line_at k (settling_line t e) here) (leb-true n k is) (omega arith)
        ∙ sym (ap (steps_of other) z))

module _ (t : TraceValue) (placed : AreInPlace t) (rising : IsStrictlyIncreasing (entry_lines t.entries)) where
  commits : HasPlacedCommits t
  commits = placed.commits

  no_entry : (m : Monitor) (k n : ℕ) → IsUpTo t m k → IsUpTo t m (suc n) → k < suc n → (j : ℕ) (e : EntryValue)
      → slice_get t.entries j ≡ Some e → e.line ≡ n → ⊥
  no_entry m k n low high from j e at same = elim (cases_lt j m.entries) [
    | inl taken ↦ let below = low.entries_before j e at taken in omega (arith, below, same, from)
    | inr left ↦ let above = high.entries_from j e at left in omega (arith, above, same)
  ]

  no_commit : (m : Monitor) (k n : ℕ) → IsUpTo t m k → IsUpTo t m (suc n) → k < suc n → (c : ℕ) → c < length t.commits
      → line_of t c ≡ n → ⊥
  no_commit m k n low high from c inside same = elim (cases_lt c m.commits) [
    | inl taken ↦ let below = low.commits_before c inside taken in omega (arith, below, same, from)
    | inr left ↦ let above = high.commits_from c inside left in omega (arith, above, same)
  ]

  lowered : (m : Monitor) (k n : ℕ) → IsUpTo t m k → IsUpTo t m (suc n) → k < suc n → IsUpTo t m n
  lowered m k n low high from = record {
    entries_before = λ i e at taken. let below = low.entries_before i e at taken in omega (arith, below, from);
    entries_from = λ i e at left. let above = high.entries_from i e at left in omega (arith, above);
    commits_before = λ c inside taken. let below = low.commits_before c inside taken in omega (arith, below, from);
    commits_from = λ c inside left. let above = high.commits_from c inside left in omega (arith, above);
  }

  -- lines at which nothing was taken tell nothing
  pub quiet : (from : ℕ) (m : Monitor) (k n : ℕ) → IsUpTo t m k → IsUpTo t m n → k ≤ n
      → (given : List (Option (List StepValue))) → told_between t given from n ≡ told_between t given from k
  quiet from m k zero low high le given = ap (told_between t given from) (let z : zero ≡ k = omega (arith, le) in z)
  quiet from m k (suc n) low high le given = elim (cases_lt k (suc n)) [
    | inr ge ↦ ap (told_between t given from) (let z : suc n ≡ k = omega (arith, le, ge) in z)
    | inl lt ↦
        let none : told_on t given n ≡ [] = none_told t (is_at n) given 0 t.entries (λ j e at. silent_off t placed rising n (0 + j) e
        (subst (λ (i : ℕ). slice_get t.entries i ≡ Some e) (let z : j ≡ 0 + j = omega arith in z) at)
        (no_entry m k n low high lt j e at) (no_commit m k n low high lt)) in
        ap (λ (fs : List Finding). told_between t given from n ++ cond (leb from n) fs []) none
        ∙ ap (λ (fs : List Finding). told_between t given from n ++ fs) (nothing_either (leb from n))
        ∙ append-nil (told_between t given from n)
        ∙ quiet from m k n low (lowered m k n low high lt) (omega (arith, lt)) given
  ]

  -- ---- a line is taken

  raised : (m n : Monitor) (k l : ℕ) → IsUpTo t m k → Takes t m n l → (k ≤ l) × IsUpTo t m l × IsUpTo t n (suc l)
  raised m n k l up (inl takes) =
      let e = takes.entry in
      let line = takes.line in
      let from = up.entries_from m.entries e takes.there (omega arith) in
      let before = takes.before in
      let more = takes.entries in
      let same = takes.commits in
      let le : k ≤ l = omega (arith, from, line) in
      let later : (c : ℕ) → c < length t.commits → m.commits ≤ c → l < line_of t c = λ c inside left.
      let up = line_later t commits e (placed_at t placed m.entries e takes.there) c (omega (arith, left, before)) inside in omega (arith, up, line) in (
        le,
        record {
          entries_before = λ i x at taken. let below = up.entries_before i x at taken in omega (arith, below, le);
          entries_from = λ i x at left. elim (cases_lt m.entries i) [
            | inl lt ↦ let up = line_before t rising i m.entries x e at takes.there lt in omega (arith, up, line)
            | inr ge ↦
                let here : i ≡ m.entries = omega (arith, left, ge) in
                let alike : x ≡ e = let h = sym at ∙ ap (slice_get t.entries) here ∙ takes.there in cc in
                let lines = ap (λ (y : EntryValue). y.line) alike in
                omega (arith, lines, line)
          ];
          commits_before = λ c inside taken. let below = up.commits_before c inside taken in omega (arith, below, le);
          commits_from = λ c inside left. let above = later c inside left in omega (arith, above);
        },
        record {
          entries_before = λ i x at taken. elim (cases_lt i m.entries) [
            | inl lt ↦ let below = up.entries_before i x at lt in omega (arith, below, le)
            | inr ge ↦
                let here : i ≡ m.entries = omega (arith, taken, more, ge) in
                let alike : x ≡ e = let h = sym at ∙ ap (slice_get t.entries) here ∙ takes.there in cc in
                let lines = ap (λ (y : EntryValue). y.line) alike in
                omega (arith, lines, line)
          ];
          entries_from = λ i x at left. let up = line_before t rising i m.entries x e at takes.there (omega (arith, left, more)) in omega (arith, up, line);
          commits_before = λ c inside taken. let below = up.commits_before c inside (omega (arith, taken, same)) in omega (arith, below, le);
          commits_from = λ c inside left. let above = later c inside (omega (arith, left, same)) in omega (arith, above);
        },
      )
  raised m n k l up (inr takes) =
      let next : IsCommitNext t m = takes.next in
      let line = takes.line in
      let there = next.there in
      let from = up.commits_from m.commits next.there (omega arith) in
      let more = takes.commits in
      let same = takes.entries in
      let le : k ≤ l = omega (arith, from, line) in
      let later : (i : ℕ) (x : EntryValue) → slice_get t.entries i ≡ Some x → m.entries ≤ i → l < x.line = λ i x at left.
      let up = line_earlier t commits x (placed_at t placed i x at) m.commits (next.behind i x at left) in omega (arith, up, line) in (
        le,
        record {
          entries_before = λ i x at taken. let below = up.entries_before i x at taken in omega (arith, below, le);
          entries_from = λ i x at left. let above = later i x at left in omega (arith, above);
          commits_before = λ c inside taken. let below = up.commits_before c inside taken in omega (arith, below, le);
          commits_from = λ c inside left. elim (cases_lt m.commits c) [
            | inl lt ↦ let up = lines_rise t commits m.commits c lt inside in omega (arith, up, line)
            | inr ge ↦ let lines = ap (line_of t) (let here : c ≡ m.commits = omega (arith, left, ge) in here) in omega (arith, lines, line)
          ];
        },
        record {
          entries_before = λ i x at taken. let below = up.entries_before i x at (omega (arith, taken, same)) in omega (arith, below, le);
          entries_from = λ i x at left. let above = later i x at (omega (arith, left, same)) in omega (arith, above);
          commits_before = λ c inside taken. elim (cases_lt c m.commits) [
            | inl lt ↦ let below = up.commits_before c inside lt in omega (arith, below, le)
            | inr ge ↦ let lines = ap (line_of t) (let here : c ≡ m.commits = omega (arith, taken, more, ge) in here) in omega (arith, lines, line)
          ];
          commits_from = λ c inside left. let up = lines_rise t commits m.commits c (omega (arith, left, more)) inside in omega (arith, up, line);
        },
      )

  -- an entry is settled before the line up to which all was taken, or from the next one on
  pub settled_apart : (m : Monitor) (k l : ℕ) → IsUpTo t m k → IsUpTo t m l → (i : ℕ) (e : EntryValue) → slice_get t.entries i ≡ Some e
      → (s : ℕ) → settling_line t e ≡ Some s → s < l → s < k
  settled_apart m k l low high i e at s is lt = elim (settles_at_event t commits e (placed_at t placed i e at) s is) [
    | inl own ↦ elim (cases_lt i m.entries) [
      | inl taken ↦ let below = low.entries_before i e at taken in omega (arith, below, own)
      | inr left ↦ let above = high.entries_from i e at left in absurd (omega (arith, above, own, lt))
    ]
    | inr (c, inside, there) ↦ elim (cases_lt c m.commits) [
      | inl taken ↦ let below = low.commits_before c inside taken in omega (arith, below, there)
      | inr left ↦ let above = high.commits_from c inside left in absurd (omega (arith, above, there, lt))
    ]
  ]

  -- where all was taken, that stands before the number behind the last line
  pub to_last : (m : Monitor) → IsOfBytes t → IsAtEnd t m → IsUpTo t m (next_line t)
  to_last m good ended = record {
    entries_before = λ i e at taken. let lt = own_line t good i e at in omega (arith, lt);
    entries_from = λ i e at left.
        let lt = slice_get_within t.entries i e at in let all = ended.entries in absurd (omega (arith, lt, left, all));
    commits_before = λ c inside taken.
        let counted = placed.commits.counted in
        let lt = below_last t.commit_lines placed.commits.lines c (omega (arith, inside, counted)) in omega (arith, lt);
    commits_from = λ c inside left. let all = ended.commits in absurd (omega (arith, inside, left, all));
  }

  module _ (Allows : TraceValue → EntryValue → Option (List StepValue) → Type 0) where
    pub told_first : (m : Monitor) → m.entries ≡ 0 → m.commits ≡ 0 → (old : List Finding) → IsTold Allows 0 t m old old
    told_first m entries commits old = record {
      line = 0;
      from = omega arith;
      given = [];
      up_to = record {
        entries_before = λ i e at lt. absurd (omega (arith, lt, entries));
        entries_from = λ i e at le. omega arith;
        commits_before = λ c inside lt. absurd (omega (arith, lt, commits));
        commits_from = λ c inside le. omega arith;
      };
      allowed = λ i e at l is from lt. absurd (omega (arith, lt));
      told = sym (append-nil old);
    }

    pub told_further : (from : ℕ) (m n : Monitor) (l : ℕ) (old mid : List Finding) → IsTold Allows from t m old mid
        → Takes t m n l → (further : List (Option (List StepValue))) → AreAllowedAt Allows t (is_at l) further
        → IsTold Allows from t n old (mid ++ told_on t further l)
    told_further from m n l old mid so_far takes further allowed =
        let k = so_far.line in
        let up = raised m n k l so_far.up_to takes in
        let picked = both t (is_at l) so_far.given further in
        let before : told_between t picked from l ≡ told_between t so_far.given from k =
        quiet from m k l so_far.up_to up.1 up.0 picked
        ∙ same_between t picked so_far.given from k (λ i e at s is from lt.
        let le = up.0 in
        picked_one t (is_at l) so_far.given further i e at (ap (is_at l) is ∙ not_at l s (λ same. omega (arith, same, lt, le)))) in
        let here : told_on t picked l ≡ told_on t further l =
        same_from t (is_at l) picked further 0 t.entries (λ j e at is.
        let z : 0 + j ≡ j = omega arith in
        ap (steps_of picked) z ∙ picked_other t (is_at l) so_far.given further j e at is ∙ sym (ap (steps_of further) z)) in
        let from_here : leb from l ≡ true = let low = so_far.from in let le = up.0 in le-leb from l (omega (arith, low, le)) in
        record {
          line = suc l;
          from = let low = so_far.from in let le = up.0 in omega (arith, low, le);
          given = picked;
          up_to = up.2;
          allowed = λ i e at s is from lt. elim (cases_lt s l) [
            | inl below ↦ subst (Allows t e) (sym (picked_one t (is_at l) so_far.given further i e at
                (ap (is_at l) is ∙ not_at l s (λ same. omega (arith, same, below)))))
                (so_far.allowed i e at s is from (settled_apart m k l so_far.up_to up.1 i e at s is below))
            | inr ge ↦
                let same : s ≡ l = omega (arith, lt, ge) in
                let now : is_at l (settling_line t e) ≡ true = ap (is_at l) (is ∙ ap Some same) ∙ at_itself l in
                subst (Allows t e) (sym (picked_other t (is_at l) so_far.given further i e at now)) (allowed i e at now)
          ];
          told = ap (λ (fs : List Finding). fs ++ told_on t further l) so_far.told
              ∙ append_assoc old (told_between t so_far.given from k) (told_on t further l)
              ∙ ap (λ (fs : List Finding). old ++ fs) (ap (λ (fs : List Finding). fs ++ told_on t further l) (sym before)
              ∙ ap (λ (fs : List Finding). told_between t picked from l ++ fs) (sym here)
              ∙ ap (λ (b : Bool). told_between t picked from l ++ cond b (told_on t picked l) []) (sym from_here));
        }

    pub told_all : (m : Monitor) (old mid new : List Finding) → IsOfBytes t → IsTold Allows 0 t m old mid → IsAtEnd t m
        → TellsLeft Allows t mid new → TellsAll Allows t old new
    told_all m old mid new good so_far ended (last, allowed, more) =
        let k = so_far.line in
        let n = max k (next_line t) in
        let entries = ended.entries in
        let commits = ended.commits in
        let high : IsUpTo t m n = record {
          entries_before = λ i e at taken. let below = so_far.up_to.entries_before i e at taken in omega (arith, below);
          entries_from = λ i e at left. let lt = slice_get_within t.entries i e at in absurd (omega (arith, lt, left, entries));
          commits_before = λ c inside taken. let below = so_far.up_to.commits_before c inside taken in omega (arith, below);
          commits_from = λ c inside left. absurd (omega (arith, inside, left, commits));
        } in
        let given = both t is_none so_far.given last in
        let before : told_between t given 0 n ≡ told_between t so_far.given 0 k =
        quiet 0 m k n so_far.up_to high (omega arith) given
        ∙ same_between t given so_far.given 0 k (λ i e at s is from lt. picked_one t is_none so_far.given last i e at (ap is_none is)) in
        let end : left_over t given ≡ left_over t last =
        same_from t is_none given last 0 t.entries (λ j e at is.
        let z : 0 + j ≡ j = omega arith in
        ap (steps_of given) z ∙ picked_other t is_none so_far.given last j e at is ∙ sym (ap (steps_of last) z)) in record {
          given = given;
          allowed = all_picked (Allows t) t is_none so_far.given last 0 t.entries
              (λ i e at. by_line i e at (settling_line t e) refl);
          told = more ∙ ap (λ (fs : List Finding). fs ++ left_over t last) so_far.told
              ∙ append_assoc old (told_between t so_far.given 0 k) (left_over t last)
              ∙ ap (λ (fs : List Finding). old ++ fs)
              (ap (λ (fs : List Finding). fs ++ left_over t last) (sym before ∙ quiet 0 m (next_line t) n (to_last m good ended) high
              (omega arith) given ∙ from_first t given (next_line t))
              ∙ ap (λ (fs : List Finding). told_before t given (next_line t) ++ fs) (sym end));
          once = once_law t good given;
        }
      where
        by_line : (i : ℕ) (e : EntryValue) → slice_get t.entries i ≡ Some e → (o : Option ℕ) → settling_line t e ≡ o
            → Allows t e (steps_of (both t is_none so_far.given last) i)
        by_line i e at None is =
            let now : is_none (settling_line t e) ≡ true = ap is_none is in
            subst (Allows t e) (sym (picked_other t is_none so_far.given last i e at now)) (allowed i e at now)
        by_line i e at (Some s) is =
            subst (Allows t e) (sym (picked_one t is_none so_far.given last i e at (ap is_none is)))
            (so_far.allowed i e at s is (omega arith) (taken_all i e at s is))
          where
            taken_all : (i : ℕ) (e : EntryValue) → slice_get t.entries i ≡ Some e → (s : ℕ) → settling_line t e ≡ Some s → s < so_far.line
            taken_all i e at s is = elim (settles_at_event t placed.commits e (placed_at t placed i e at) s is) [
              | inl own ↦ let lt = slice_get_within t.entries i e at in let entries = ended.entries in
                  let below = so_far.up_to.entries_before i e at (omega (arith, lt, entries)) in omega (arith, below, own)
              | inr (c, inside, there) ↦ let all = ended.commits in
                  let below = so_far.up_to.commits_before c inside (omega (arith, inside, all)) in omega (arith, below, there)
            ]
