-- Of entries that a monitor is past nothing is told.
use Rattle.std.proofs.Common.{◌≡◌, ℕ, suc, ◌+◌, ◌<◌, ◌≤◌, ◌⊎◌, inl, inr, Bool, List, [], ◌∷◌, Option, Some, refl, sym, subst, arith}
use Rattle.std.specs.Prelude.{slice_get, is_none, All}
use Rattle.std.specs.List.Sorted.{IsStrictlyIncreasing}
use Rattle.std.proofs.lemmas.Bool.{cases_lt}
use Rattle.std.proofs.lemmas.List.Elements.{All-append, All-nil}
use Rattle.trace_lines.specs.Placed.{AreInPlace}
use Rattle.trace_lines.specs.Values.{EntryValue, TraceValue, entry_lines}
use Rattle.evidence_check.specs.Evidences.{steps_of}
use Rattle.evidence_check.specs.Steps.{StepValue}
use Rattle.findings.specs.Findings.{found_on, on_line}
use Rattle.findings.specs.declared.finding.Finding.{Finding}
use Rattle.follow_laws.specs.Told.{at_moments, is_at, moments, told_from}
use Rattle.follow_laws.proofs.ThroughLemmas.{on_beyond}
use Rattle.monitor.specs.Standing.{IsPast, Stands, Takes, line_of}
use Rattle.monitor.specs.Telling.{told_of}
use Rattle.monitor.specs.declared.monitor.Monitor.{Monitor}
use Rattle.monitor.proofs.CommitLemmas.{opens_nowhere, settles_nowhere, settles_somewhere}
use Rattle.monitor.proofs.StandingLemmas.{not_own, placed_at, silent_beside}
use Rattle.monitor.proofs.TellingLemmas.{IsSilent, silent_left, silent_of}

-- a monitor that goes on stays past it
pub past_on : (t : TraceValue) (m l : Monitor) (n : ℕ) → m.entries ≤ l.entries → m.commits ≤ l.commits → IsPast t m n
    → IsPast t l n
past_on t m l n entries commits past = record {
  taken = λ i e at le. let lt = past.taken i e at le in omega (arith, lt, entries);
  reached = λ i e at le. let h = past.reached i e at le in (h.0, let lt = h.1 in omega (arith, lt, commits), h.2);
}

pub past_taken : (t : TraceValue) (m l : Monitor) (k n : ℕ) → Takes t m l k → IsPast t m n → IsPast t l n
past_taken t m l k n (inl takes) past =
    let more = takes.entries in
    let same = takes.commits in
    past_on t m l n (omega (arith, more)) (omega (arith, same)) past
past_taken t m l k n (inr takes) past =
    let same = takes.entries in
    let more = takes.commits in
    past_on t m l n (omega (arith, same)) (omega (arith, more)) past

-- what is told of all entries, where those up to a line are silent
beyond : (t : TraceValue) (n : ℕ) (test : Option ℕ → Bool) (given : List (Option (List StepValue))) (i : ℕ)
    (es : List EntryValue) → ((j : ℕ) (e : EntryValue) → slice_get es j ≡ Some e → e.line ≤ n → IsSilent t test (i + j) e)
    → All (λ f. n < f.line) (told_from test t given i es)
beyond t n test given i [] silent = All-nil (λ (f : Finding). n < f.line)
beyond t n test given i (e ∷ es) silent =
    All-append (λ (f : Finding). n < f.line) (told_here) (told_from test t given (i + 1) es) (here (cases_lt n e.line))
    (beyond t n test given (i + 1) es (λ j x at le.
    let next : i + suc j ≡ i + 1 + j = omega arith in subst (λ (m : ℕ). IsSilent t test m x) next (silent (suc j) x at le)))
  where
    told_here : List Finding
    told_here = on_line e.line (at_moments test (moments t e) (found_on t given i e))

    here : (n < e.line) ⊎ (e.line ≤ n) → All (λ f. n < f.line) told_here
    here (inl lt) = on_beyond n e.line lt (at_moments test (moments t e) (found_on t given i e))
    here (inr le) =
        let same : i + 0 ≡ i = omega arith in
        subst (λ (fs : List Finding). All (λ f. n < f.line) fs)
        (sym (subst (λ (m : ℕ). told_of t test (steps_of given i) m e ≡ []) same ((silent 0 e refl le).0 (steps_of given i))))
        (All-nil (λ (f : Finding). n < f.line))

module _ (t : TraceValue) (placed : AreInPlace t) (rising : IsStrictlyIncreasing (entry_lines t.entries)) (m : Monitor)
    (stands : Stands t m) (n : ℕ) (past : IsPast t m n) where
  module _ (i : ℕ) (e : EntryValue) (at : slice_get t.entries i ≡ Some e) (le : e.line ≤ n) where
    before : e.before ≤ m.commits
    before = elim (cases_lt i m.fresh) [
      | inl old ↦ let up = stands.earlier i e at old in omega (arith, up)
      | inr fresh ↦ let is = stands.last i e at fresh (past.taken i e at le) in omega (arith, is)
    ]

    silent : (l : Monitor) (k : ℕ) → Takes t m l k → IsSilent t (is_at k) i e
    silent l k (inl takes) =
        let taken = past.taken i e at le in
        subst (λ (x : ℕ). IsSilent t (is_at x) i e) (sym takes.line)
        (silent_beside t placed rising m.entries takes.entry takes.there i e at (λ same. omega (arith, taken, same)))
    silent l k (inr takes) =
        let inside = takes.next.there in
        let reached = past.reached i e at le in
        let settling = settles_nowhere t placed.commits e (placed_at t placed i e at) m.commits inside before
        (λ settles. settles.1 reached) in
        subst (λ (x : ℕ). IsSilent t (is_at x) i e) (sym takes.line) (
          λ steps. silent_of t (line_of t m.commits) steps i e (not_own t placed rising m.commits i e at inside before)
              (opens_nowhere t placed.commits e (placed_at t placed i e at) m.commits inside reached) settling,
          settling,
        )

    silent_at_last : IsSilent t is_none i e
    silent_at_last =
        let h = past.reached i e at le in
        let all = stands.commits in
        let settles = settles_somewhere t placed.commits e (placed_at t placed i e at)
        (λ unreached. unreached (h.0, let lt = h.1 in omega (arith, lt, all), h.2)) in
        (λ steps. silent_left t steps i e settles, settles)

  -- none of what is told when a line is taken is on them
  pub behind_taken : (l : Monitor) (k : ℕ) → Takes t m l k → (given : List (Option (List StepValue)))
      → All (λ f. n < f.line) (told_from (is_at k) t given 0 t.entries)
  behind_taken l k takes given = beyond t n (is_at k) given 0 t.entries (λ j e at le.
      let z : j ≡ 0 + j = omega arith in subst (λ (i : ℕ). IsSilent t (is_at k) i e) z (silent j e at le l k takes))

  -- nor of what is left at the end
  pub behind_left : (given : List (Option (List StepValue))) → All (λ f. n < f.line) (told_from is_none t given 0 t.entries)
  behind_left given = beyond t n is_none given 0 t.entries (λ j e at le.
      let z : j ≡ 0 + j = omega arith in subst (λ (i : ℕ). IsSilent t is_none i e) z (silent_at_last j e at le))
