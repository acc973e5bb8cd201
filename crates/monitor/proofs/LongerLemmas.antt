-- What was told of a log so far was told of each longer log.
use Rattle.std.proofs.Common.{◌≡◌, ℕ, zero, suc, ◌+◌, ◌<◌, ◌≤◌, inl, inr, max, cond, leb, List, [], ◌++◌, length, Option, Some, None, refl, sym, ◌∙◌, ap, arith}
use Rattle.std.specs.Prelude.{slice_get, option_map}
use Rattle.std.proofs.lemmas.Bool.{cases_lt}
use Rattle.std.proofs.lemmas.Option.{slice_get_within, slice_get-get_or}
use Rattle.trace_lines.specs.Placed.{AreInPlace}
use Rattle.trace_lines.specs.Values.{EntryValue, TraceValue}
use Rattle.evidence_check.specs.Evidences.{steps_of}
use Rattle.evidence_check.specs.Steps.{StepValue}
use Rattle.findings.specs.declared.finding.Finding.{Finding}
use Rattle.token_order.specs.Order.{commit_lines_of}
use Rattle.windows.specs.Growth.{IsSettled}
use Rattle.follow_laws.specs.Begun.{Begins}
use Rattle.follow_laws.specs.Told.{line_reaching, settling_line, told_on, told_between}
use Rattle.follow_laws.proofs.FirstLemmas.{first_law}
use Rattle.follow_laws.proofs.OnceLemmas.{own_line}
use Rattle.follow_laws.proofs.StaysLemmas.{reaching_more, stays_law}
use Rattle.follow_laws.proofs.ThroughLemmas.{reaching}
use Rattle.monitor.specs.SoFar.{IsTold, IsUpTo}
use Rattle.monitor.specs.Standing.{IsAtEnd, line_of}
use Rattle.monitor.specs.declared.monitor.Monitor.{Monitor}
use Rattle.windows.proofs.GrownLemmas.{behind}
use Rattle.windows.proofs.SettledLemmas.{lines_more, new_lines}
use Rattle.monitor.proofs.GrowthLemmas.{below_last, same_entry, same_line}
use Rattle.monitor.proofs.RunLemmas.{quiet, settled_apart}

-- an entry is not settled before its line
from_own : (e : EntryValue) (o : Option ℕ) (s : ℕ) → option_map (max e.line) o ≡ Some s → e.line ≤ s
from_own e None s is = cc
from_own e (Some l) s is = let same : max e.line l ≡ s = cc in omega (arith, same)

module _ {k : ℕ} (t u : TraceValue) (b : Begins k t u) (here : AreInPlace t) (there : AreInPlace u) (m : Monitor)
    (ended : IsAtEnd t m) where
  entry_below : (i : ℕ) (e : EntryValue) → slice_get t.entries i ≡ Some e → e.line < k + 1
  entry_below i e at = let own = own_line t b.first i e at in let within = b.goes.within in omega (arith, own, within)

  commit_below : (c : ℕ) → c < length t.commits → line_of t c < k + 1
  commit_below c inside =
      let count = here.commits.counted in
      let last = below_last t.commit_lines here.commits.lines c (omega (arith, inside, count)) in
      let within = b.goes.within in
      omega (arith, last, within)

  high : IsUpTo t m (k + 1)
  high = record {
    entries_before = λ i e at taken. entry_below i e at;
    entries_from = λ i e at left.
        let lt = slice_get_within t.entries i e at in let all = ended.entries in absurd (omega (arith, lt, left, all));
    commits_before = λ c inside taken. commit_below c inside;
    commits_from = λ c inside left. let all = ended.commits in absurd (omega (arith, inside, left, all));
  }

  high_there : IsUpTo u m (k + 1)
  high_there = record {
    entries_before = λ i e at taken.
        let all = ended.entries in
        entry_below i e (sym (same_entry t u b.goes here there i (omega (arith, taken, all))) ∙ at);
    entries_from = λ i e at left.
        let all = ended.entries in
        let lt = behind (λ (x : EntryValue). k < x.line) t.entries b.goes.entries b.goes.entries_behind i e
        (omega (arith, left, all)) (sym (ap (λ (es : List EntryValue). slice_get es i) b.goes.recorded) ∙ at) in
        omega (arith, lt);
    commits_before = λ c inside taken.
        let all = ended.commits in
        let same = same_line t u b.goes here there c (omega (arith, taken, all)) in
        let below = commit_below c (omega (arith, taken, all)) in
        omega (arith, same, below);
    commits_from = λ c inside left.
        let all = ended.commits in
        let count = here.commits.counted in
        let more = there.commits.counted in
        let lt = behind (λ (l : ℕ). k < l) t.commit_lines b.goes.commit_lines b.goes.commits_behind c (line_of u c)
        (omega (arith, left, all, count)) (sym (ap (λ (ls : List ℕ). slice_get ls c) b.goes.on_lines)
        ∙ slice_get-get_or u.commit_lines c 0 (omega (arith, inside, more))) in
        omega (arith, lt);
  }

  alike_before : (given : List (Option (List StepValue))) (first j : ℕ) → j ≤ k + 1
      → told_between u given first j ≡ told_between t given first j
  alike_before given first zero le = refl
  alike_before given first (suc j) le =
      ap (λ (fs : List Finding). fs ++ cond (leb first j) (told_on u given j) []) (alike_before given first j (omega (arith, le)))
      ∙ ap (λ (fs : List Finding). told_between t given first j ++ cond (leb first j) fs [])
      (stays_law k t u b given given (λ i within. refl) j (omega (arith, le)))

  module _ (Allows : TraceValue → EntryValue → Option (List StepValue) → Type 0)
      (keeps : (i : ℕ) (e : EntryValue) → slice_get t.entries i ≡ Some e → IsSettled t e → (steps : Option (List StepValue))
      → Allows t e steps → Allows u e steps) (first : ℕ) (old new : List Finding) (so_far : IsTold Allows first t m old new) where
    up_to_there : told_between t so_far.given first (k + 1) ≡ told_between t so_far.given first so_far.line
    up_to_there = elim (cases_lt so_far.line (k + 1)) [
      | inl lt ↦ quiet t here b.first.rising.entries first m so_far.line (k + 1) so_far.up_to high (omega (arith, lt)) so_far.given
      | inr ge ↦ sym (quiet t here b.first.rising.entries first m (k + 1) so_far.line high so_far.up_to ge so_far.given)
    ]

    -- the line that settles an entry of the shorter log settles it in the longer one
    settles_alike : (e : EntryValue) → IsSettled t e
        → (m : ℕ) × (settling_line t e ≡ Some m) × (settling_line u e ≡ Some m)
    settles_alike e settled =
        let r = reaching e.snapshot t.commit_lines t.commits b.first.rising.commits.counted settled in (
          max e.line r.0,
          ap (option_map (max e.line)) r.1,
          ap (option_map (max e.line)) (ap (line_reaching e.snapshot) (lines_more t u b.goes b.first.rising b.whole.rising)
              ∙ reaching_more e.snapshot (commit_lines_of t) (new_lines t u b.goes b.first.rising b.whole.rising) r.0 r.1),
        )

    allowed_earlier : (i : ℕ) (e : EntryValue) → slice_get t.entries i ≡ Some e → (s : ℕ) → settling_line u e ≡ Some s
        → first ≤ s → s ≤ k → Allows u e (steps_of so_far.given i)
    allowed_earlier i e at s is from le =
        let settled : IsSettled t e = (first_law k t u b i e at).1 (rw is le) in
        let met = settles_alike e settled in
        let same : met.0 ≡ s = let both : Some met.0 ≡ Some s = sym met.2 ∙ is in cc in
        keeps i e at settled (steps_of so_far.given i) (so_far.allowed i e at met.0 met.1 (omega (arith, same, from))
        (settled_apart t here b.first.rising.entries m so_far.line (k + 1) so_far.up_to high i e at met.0 met.1
        (omega (arith, same, le))))

    pub told_of_longer : first ≤ k + 1 → IsTold Allows first u m old new
    told_of_longer within = record {
      line = k + 1;
      from = within;
      given = so_far.given;
      up_to = high_there;
      allowed = λ i e at s is from lt. elim (cases_lt i (length t.entries)) [
        | inl below ↦ allowed_earlier i e (sym (same_entry t u b.goes here there i below) ∙ at) s is from (omega (arith, lt))
        | inr ge ↦
            let later = behind (λ (x : EntryValue). k < x.line) t.entries b.goes.entries b.goes.entries_behind i e ge
            (sym (ap (λ (es : List EntryValue). slice_get es i) b.goes.recorded) ∙ at) in
            let own = from_own e (line_reaching e.snapshot (commit_lines_of u)) s is in
            absurd (omega (arith, later, own, lt))
      ];
      told = so_far.told ∙ ap (λ (fs : List Finding). old ++ fs) (sym up_to_there ∙ sym (alike_before so_far.given first (k + 1)
          (omega arith)));
    }
