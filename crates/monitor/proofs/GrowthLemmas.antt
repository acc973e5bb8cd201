-- Where a monitor stands in a log so far it stands in a longer one.
use Rattle.std.proofs.Common.{◌≡◌, ℕ, ◌-◌, ◌<◌, ◌≤◌, inl, inr, List, length, map, get_or, Some, sym, ◌∙◌, ap, arith, length-append}
use Rattle.std.specs.Prelude.{slice_get}
use Rattle.std.specs.List.Sorted.{IsStrictlyIncreasing}
use Rattle.std.proofs.lemmas.Bool.{cases_lt}
use Rattle.std.proofs.Math.ListN.{get_or-append}
use Rattle.std.proofs.lemmas.List.{length-map, map-append}
use Rattle.std.proofs.lemmas.List.Kept.{AllPairs-from_increasing}
use Rattle.std.proofs.lemmas.Option.{slice_get-get_or}
use Rattle.marks.proofs.PlacedLemmas.{slice_get-front}
use Rattle.version_chains.specs.Commits.{Commit}
use Rattle.trace_lines.specs.Placed.{AreInPlace}
use Rattle.trace_lines.specs.Values.{EntryValue, TraceValue, after_last}
use Rattle.windows.specs.Growth.{GoesOn}
use Rattle.windows.proofs.GrownLemmas.{behind}
use Rattle.monitor.specs.Standing.{IsReached, Stands, line_of, time_of}
use Rattle.monitor.specs.declared.monitor.Monitor.{Monitor}
use Rattle.monitor.proofs.CommitLemmas.{line_later}
use Rattle.monitor.proofs.StandingLemmas.{placed_at}

-- the last of numbers that rise is the greatest
pub below_last : (ns : List ℕ) → IsStrictlyIncreasing ns → (j : ℕ) → j < length ns → get_or ns j 0 < after_last ns
below_last ns rising j lt =
    let last = slice_get-get_or ns (length ns - 1) 0 (omega (arith, lt)) in
    rw last (elim (cases_lt j (length ns - 1)) [
      | inl before ↦ let up = AllPairs-from_increasing ns rising j (length ns - 1) 0 before (omega (arith, lt)) in omega (arith, up)
      | inr at ↦ let same = ap (λ (n : ℕ). get_or ns n 0) (let e : j ≡ length ns - 1 = omega (arith, lt, at) in e) in omega (arith, same)
    ])

module _ {k : ℕ} (t u : TraceValue) (goes : GoesOn k t u) (old : AreInPlace t) (new : AreInPlace u) where
  more_entries : length t.entries ≤ length u.entries
  more_entries =
      let n = length-append t.entries goes.entries in
      let same = ap (λ (es : List EntryValue). length es) goes.recorded in
      omega (arith, n, same)

  more_commits : length t.commits ≤ length u.commits
  more_commits =
      let n = length-append t.commits goes.commits in
      let same = ap (λ (cs : List Commit). length cs) goes.committed in
      omega (arith, n, same)

  pub same_entry : (i : ℕ) → i < length t.entries → slice_get u.entries i ≡ slice_get t.entries i
  same_entry i lt = ap (λ (es : List EntryValue). slice_get es i) goes.recorded ∙ slice_get-front t.entries goes.entries i lt

  same_time : (c : ℕ) → c < length t.commits → time_of u c ≡ time_of t c
  same_time c lt =
      let long = length-map t.commits (λ (x : Commit). x.at) in
      ap (λ (cs : List Commit). get_or (map (λ (x : Commit). x.at) cs) c 0) goes.committed
      ∙ ap (λ (ns : List ℕ). get_or ns c 0) (map-append (λ (x : Commit). x.at) t.commits goes.commits)
      ∙ get_or-append (map (λ (x : Commit). x.at) t.commits) (map (λ (x : Commit). x.at) goes.commits) 0 c (omega (arith, lt, long))

  pub same_line : (c : ℕ) → c < length t.commits → line_of u c ≡ line_of t c
  same_line c lt =
      let count = old.commits.counted in
      ap (λ (ns : List ℕ). get_or ns c 0) goes.on_lines
      ∙ get_or-append t.commit_lines goes.commit_lines 0 c (omega (arith, lt, count))

  pub reached_still : (n s : ℕ) → n ≤ length t.commits → IsReached t n s → IsReached u n s
  reached_still n s within (c, lt, le) = (c, lt, let same = same_time c (omega (arith, lt, within)) in omega (arith, le, same))

  reached_before : (n s : ℕ) → n ≤ length t.commits → IsReached u n s → IsReached t n s
  reached_before n s within (c, lt, le) = (c, lt, let same = same_time c (omega (arith, lt, within)) in omega (arith, le, same))

  -- a further entry stands behind all commits so far
  behind_all : (i : ℕ) (e : EntryValue) → slice_get u.entries i ≡ Some e → length t.entries ≤ i → length t.commits ≤ e.before
  behind_all i e at le = elim (cases_lt e.before (length t.commits)) [
    | inr ge ↦ ge
    | inl lt ↦
        let line = behind (λ (x : EntryValue). k < x.line) t.entries goes.entries goes.entries_behind i e le
        (sym (ap (λ (es : List EntryValue). slice_get es i) goes.recorded) ∙ at) in
        let more = more_commits in
        let ahead = line_later u new.commits e (placed_at u new i e at) e.before (omega arith) (omega (arith, lt, more)) in
        let same = same_line e.before lt in
        let count = old.commits.counted in
        let last = below_last t.commit_lines old.commits.lines e.before (omega (arith, lt, count)) in
        let within = goes.within in
        absurd (omega (arith, line, ahead, same, last, within))
  ]

  pub stands_on : (m : Monitor) → Stands t m → Stands u m
  stands_on m stands = record {
    entries = let le = stands.entries in let more = more_entries in omega (arith, le, more);
    commits = let le = stands.commits in let more = more_commits in omega (arith, le, more);
    fresh = stands.fresh;
    earlier = λ i e at lt. stands.earlier i e (sym (same_entry i (let a = stands.fresh in let b = stands.entries in omega (arith, lt, a, b))) ∙ at) lt;
    last = λ i e at from lt. stands.last i e (sym (same_entry i (let b = stands.entries in omega (arith, lt, b))) ∙ at) from lt;
    behind = λ i e at le. elim (cases_lt i (length t.entries)) [
      | inl lt ↦ stands.behind i e (sym (same_entry i lt) ∙ at) le
      | inr ge ↦ let up = behind_all i e at ge in let within = stands.commits in omega (arith, up, within)
    ];
    waits = λ i e at lt unreached. stands.waits i e (sym (same_entry i (let b = stands.entries in omega (arith, lt, b))) ∙ at) lt
        (λ h. unreached (reached_still m.commits e.snapshot stands.commits h));
    waiting = λ s i there.
        let h = stands.waiting s i there in
        (h.0, same_entry i (let lt = h.2 in let b = stands.entries in omega (arith, lt, b)) ∙ h.1, h.2, h.3, λ r. h.4 (reached_before m.commits s stands.commits r));
  }
