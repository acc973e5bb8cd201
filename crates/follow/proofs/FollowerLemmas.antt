-- What a follower takes and tells.
use Rattle.std.proofs.Common.{◌≡◌, ◌||◌, false, refl, ℕ, zero, suc, ◌+◌, ◌-◌, ◌<◌, ◌≤◌, inl, inr, Bool, true, List, [], ◌∷◌, ◌++◌, length, map, take, drop, Some, sym, ◌∙◌, ap, subst, arith, append_assoc, length-append}
use Rattle.std.specs.Prelude.{slice_get, nat_le}
use Rattle.std.specs.List.{list_any}
use Rattle.std.specs.List.Sorted.{IsStrictlyIncreasing}
use Rattle.std.proofs.Math.Seq.{drop-append_seam, take-length}
use Rattle.std.proofs.lemmas.Bool.{cases_lt}
use Rattle.std.proofs.lemmas.List.Elements.{filter-append}
use Rattle.std.proofs.lemmas.Option.{slice_get_within}
use Rattle.version_chains.specs.Commits.{Commit}
use Rattle.trace_lines.specs.Values.{EntryValue, TraceValue, entry_lines, next_line}
use Rattle.findings.specs.declared.finding.Finding.{Finding}
use Rattle.windows.specs.Growth.{IsSettled}
use Rattle.token_order.proofs.Lines.{line_before}
use Rattle.trace_lines.specs.Placed.{AreInPlace}
use Rattle.follow_laws.specs.Begun.{IsOfBytes}
use Rattle.monitor.specs.SoFar.{IsTold, TellsMore}
use Rattle.monitor.specs.Standing.{IsAtEnd, Stands}
use Rattle.monitor.specs.declared.monitor.Monitor.{Monitor}
use Rattle.monitor.proofs.RunLemmas.{none_between, to_last}
use Rattle.audit.specs.Made.{IsMade}
use Rattle.carry_laws.specs.declared.known.Known.{Known}
use Rattle.follow.specs.Heartbeats.{AreSettledTo, IsThrough}
use Rattle.follow.specs.SoFar.{IsFollowed, TellsFromSame}
use Rattle.carry_laws.specs.Asked.{asked, is_asked}
use Rattle.follow.specs.declared.follower.Follower.{Follower}

-- an entry more is settled
pub settled_next : (t : TraceValue) (n : ℕ) (x : EntryValue) → AreSettledTo t n → slice_get t.entries n ≡ Some x → IsSettled t x
    → AreSettledTo t (n + 1)
settled_next t n x before there settled i e at lt = elim (cases_lt i n) [
  | inl earlier ↦ before i e at earlier
  | inr ge ↦
      let here : i ≡ n = omega (arith, lt, ge) in
      let same : x ≡ e = let h = sym there ∙ ap (slice_get t.entries) (sym here) ∙ at in cc in
      subst (IsSettled t) same settled
]

-- all entries are settled, so they are up to any line
pub through_all : (t : TraceValue) (n line : ℕ) → AreSettledTo t n → n ≡ length t.entries → IsThrough t line n
through_all t n line before all = record {
  settled = λ i e at le. let lt = slice_get_within t.entries i e at in before i e at (omega (arith, lt, all));
  counted = λ i e at le. let lt = slice_get_within t.entries i e at in omega (arith, lt, all);
  there = omega (arith, all);
}

-- so many entries are settled, and the next one stands behind the line
pub through_before : (t : TraceValue) → IsStrictlyIncreasing (entry_lines t.entries) → (n : ℕ) (x : EntryValue)
    → AreSettledTo t n → slice_get t.entries n ≡ Some x → (line : ℕ) → line < x.line → IsThrough t line n
through_before t rising n x before there line below = record {
  settled = λ i e at le. before i e at (earlier i e at le below);
  counted = λ i e at le. earlier i e at le below;
  there = let lt = slice_get_within t.entries n x there in omega (arith, lt);
}
  where
    not_earlier : (i : ℕ) (e : EntryValue) → slice_get t.entries i ≡ Some e → n ≤ i → x.line ≤ e.line
    not_earlier i e at ge = elim (cases_lt n i) [
      | inl lt ↦ let up = line_before t rising i n e x at there lt in omega (arith, up)
      | inr le ↦
          let here : n ≡ i = omega (arith, ge, le) in
          let same : x ≡ e = let h = sym there ∙ ap (slice_get t.entries) here ∙ at in cc in
          let lines = ap (λ (y : EntryValue). y.line) same in
          omega (arith, lines)
    ]

    earlier : (i : ℕ) (e : EntryValue) → slice_get t.entries i ≡ Some e → e.line ≤ line → line < x.line → i < n
    earlier i e at le below = elim (cases_lt i n) [
      | inl lt ↦ lt
      | inr ge ↦ let up = not_earlier i e at ge in absurd (omega (arith, le, below, up))
    ]

-- ---- what a follower takes

-- behind all lines of a log nothing is told
pub told_behind : (t : TraceValue) → AreInPlace t → IsOfBytes t → (m : Monitor) → IsAtEnd t m → (first : ℕ)
    → next_line t ≤ first → IsTold IsMade first t m [] []
told_behind t placed good m ended first low =
    let up = to_last t placed good.rising.entries m good ended in
    record {
      line = first;
      from = omega arith;
      given = [];
      up_to = record {
        entries_before = λ i e at taken. let lt = up.entries_before i e at taken in omega (arith, lt, low);
        entries_from = λ i e at left.
            let lt = slice_get_within t.entries i e at in let all = ended.entries in absurd (omega (arith, lt, left, all));
        commits_before = λ c inside taken. let lt = up.commits_before c inside taken in omega (arith, lt, low);
        commits_from = λ c inside left. let all = ended.commits in absurd (omega (arith, inside, left, all));
      };
      allowed = λ i e at l is from lt. absurd (omega (arith, from, lt));
      told = sym (none_between t [] first first (omega arith));
    }

-- further lines were taken, and of what was found there what is asked was told
pub further_followed : (t : TraceValue) (f g : Follower) → IsFollowed t f → (found : List Finding)
    → TellsMore IsMade t f.monitor g.monitor [] found → Stands t g.monitor → TellsFromSame f g → g.settled ≡ f.settled
    → g.told.items ≡ f.told.items ++ asked f.known t found → IsFollowed t g
further_followed t f g followed found more stands same settled told = record {
  stands = stands;
  all = followed.all ++ more.more;
  told = subst (λ (n : ℕ). IsTold IsMade n t g.monitor [] (followed.all ++ more.more)) (sym same.0)
      (more.told f.first [] followed.all followed.told);
  asked_alone =
      told
      ∙ ap (λ (fs : List Finding). fs ++ asked f.known t found) followed.asked_alone
      ∙ ap (λ (fs : List Finding). asked f.known t followed.all ++ asked f.known t fs) more.behind
      ∙ sym (filter-append (λ (x : Finding). is_asked f.known t x.line) followed.all more.more)
      ∙ ap (λ (b : Known). asked b t (followed.all ++ more.more)) (sym same.1);
  within = let le = followed.within in omega (arith, le, settled);
  settled = λ i e at lt. followed.settled i e at (omega (arith, lt, settled));
}

-- parts of a text, one behind the other
pub joined : (o a b c d e v w x y z : List ℕ) → v ≡ o ++ a → w ≡ v ++ b → x ≡ w ++ c → y ≡ x ++ d → z ≡ y ++ e
    → z ≡ o ++ (a ++ (b ++ (c ++ (d ++ e))))
joined o a b c d e v w x y z one two three four five =
    five ∙ ap (λ (l : List ℕ). l ++ e) four ∙ ap (λ (l : List ℕ). (l ++ d) ++ e) three
    ∙ ap (λ (l : List ℕ). ((l ++ c) ++ d) ++ e) two ∙ ap (λ (l : List ℕ). (((l ++ b) ++ c) ++ d) ++ e) one
    ∙ append_assoc (((o ++ a) ++ b) ++ c) d e ∙ append_assoc ((o ++ a) ++ b) c (d ++ e)
    ∙ append_assoc (o ++ a) b (c ++ (d ++ e)) ∙ append_assoc o a (b ++ (c ++ (d ++ e)))

-- what stands behind the first so many findings
pub cut_behind : (old more whole : List Finding) (n : ℕ) → whole ≡ old ++ more → n ≡ length old
    → take (length whole - n) (drop n whole) ≡ more
cut_behind old more whole n is same =
    let size = length-append old more in
    let rest : length (old ++ more) - length old ≡ length more = omega (arith, size) in
    ap (λ (fs : List Finding). take (length fs - n) (drop n fs)) is
    ∙ ap (λ (k : ℕ). take (length (old ++ more) - k) (drop k (old ++ more))) same
    ∙ ap (take (length (old ++ more) - length old)) (drop-append_seam old more)
    ∙ ap (λ (k : ℕ). take k more) rest ∙ take-length more

-- a commit at or above the timestamp is among those whose timestamps are these
any_at : (at : ℕ) (cs : List Commit) (k x : ℕ) → slice_get (map (λ c. c.at) cs) k ≡ Some x → nat_le at x ≡ true
    → list_any (λ (c : Commit). nat_le at c.at) cs ≡ true
any_at at [] k x is le = cc
any_at at (c ∷ cs) zero x is le =
    let same : c.at ≡ x = cc in
    ap (λ (n : ℕ). nat_le at n || list_any (λ (d : Commit). nat_le at d.at) cs) same
    ∙ ap (λ (b : Bool). b || list_any (λ (d : Commit). nat_le at d.at) cs) le
any_at at (c ∷ cs) (suc k) x is le =
    ap (λ (b : Bool). nat_le at c.at || b) (any_at at cs k x is le) ∙ or_true (nat_le at c.at)
  where
    or_true : (b : Bool) → (b || true) ≡ true
    or_true true = refl
    or_true false = refl

pub reached_by : (cs : List Commit) (at : ℕ) (times : List ℕ) (k x : ℕ) → times ≡ map (λ (c : Commit). c.at) cs
    → slice_get times k ≡ Some x → nat_le at x ≡ true → list_any (λ (c : Commit). nat_le at c.at) cs ≡ true
reached_by cs at times k x same is le =
    any_at at cs k x (ap (λ (ts : List ℕ). slice_get ts k) (sym same) ∙ is) le
