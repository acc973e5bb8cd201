-- Findings on entries that are audited by what is known.
use Rattle.std.proofs.Common.{◌≡◌, ℕ, zero, suc, ◌+◌, ◌<◌, ◌≤◌, ◌==◌, ◌||◌, ◌&&◌, not, Bool, true, false, cond, leb, eqb, List, [], ◌∷◌, ◌++◌, Option, Some, None, refl, sym, ◌∙◌, ap, arith, rules, inl, inr}
use Rattle.std.specs.Prelude.{All, IsTrue, filter, slice_get}
use Rattle.std.specs.List.{AllByRecursion, list_all, list_any}
use Rattle.std.specs.List.Sorted.{IsStrictlyIncreasing}
use Rattle.std.proofs.Math.Bool.{or-true}
use Rattle.std.proofs.lemmas.Bool.{cases_lt, eqb-true, le-leb, le-ltb, ne_eqb}
use Rattle.std.proofs.lemmas.List.Elements.{All-append, All-cons, All-from_recursion, All-nil, recursion_from_All}
use Rattle.std.proofs.lemmas.List.Folds.{list_all-append, list_any-append}
use Rattle.token_order.proofs.Lines.{line_before}
use Rattle.trace_lines.specs.Values.{EntryValue, TraceValue, entry_lines}
use Rattle.trace_lines.specs.Versions.{Version, entry_version, issues, version_named}
use Rattle.evidence_check.specs.Steps.{StepValue}
use Rattle.findings.specs.Findings.{found_on, on_line}
use Rattle.findings.specs.declared.finding.Finding.{Finding}
use Rattle.findings.specs.declared.finding.What.{What}
use Rattle.windows.specs.Growth.{GoesOn}
use Rattle.follow_laws.specs.Told.{at_moments, moments, told_from}
use Rattle.carry_laws.specs.Asked.{all_known, asked, is_asked, is_audited, issues_between, known_from, knows_named, knows_version}
use Rattle.carry_laws.specs.declared.known.Known.{Known}

-- ---- the lines of findings

on_its_line : (n line : ℕ) → line < n → (found : List (Option What)) → All (λ f. f.line < n) (on_line line found)
on_its_line n line lt [] = All-nil (λ (f : Finding). f.line < n)
on_its_line n line lt (None ∷ found) = on_its_line n line lt found
on_its_line n line lt (Some what ∷ found) =
    All-cons (λ (f : Finding). f.line < n) (record { line = line; what = what }) (on_line line found) lt (on_its_line n line lt found)

pub told_before_line : (n : ℕ) (test : Option ℕ → Bool) (t : TraceValue) (given : List (Option (List StepValue))) (i : ℕ)
    (es : List EntryValue) → AllByRecursion (λ e. e.line < n) es → All (λ f. f.line < n) (told_from test t given i es)
told_before_line n test t given i [] below = All-nil (λ (f : Finding). f.line < n)
told_before_line n test t given i (e ∷ es) below =
    All-append (λ (f : Finding). f.line < n) (on_line e.line (at_moments test (moments t e) (found_on t given i e)))
    (told_from test t given (i + 1) es)
    (on_its_line n e.line below.0 (at_moments test (moments t e) (found_on t given i e)))
    (told_before_line n test t given (i + 1) es below.1)

-- ---- those that are asked

pub filter_alike : {X : Type 0} (g h : X → Bool) (xs : List X) → AllByRecursion (λ x. g x ≡ h x) xs → filter g xs ≡ filter h xs
filter_alike g h [] same = refl
filter_alike {X} g h (x ∷ xs) same =
    ap (λ (b : Bool). cond b (x ∷ filter g xs) (filter g xs)) same.0
    ∙ ap (λ (ys : List X). cond (h x) (x ∷ ys) ys) (filter_alike g h xs same.1)

pub filter_all : (g : Finding → Bool) → ((f : Finding) → g f ≡ true) → (fs : List Finding) → filter g fs ≡ fs
filter_all g each [] = refl
filter_all g each (f ∷ fs) =
    ap (λ (b : Bool). cond b (f ∷ filter g fs) (filter g fs)) (each f)
    ∙ ap (λ (xs : List Finding). f ∷ xs) (filter_all g each fs)

-- what holds of all findings holds of those
pub asked_still : (P : Finding → Type 0) (known : Known) (t : TraceValue) (fs : List Finding) → All P fs → All P (asked known t fs)
asked_still P known t fs all =
    All-from_recursion P (asked known t fs) (each fs (recursion_from_All P fs all))
  where
    each : (fs : List Finding) → AllByRecursion P fs → AllByRecursion P (asked known t fs)
    each [] all = tt
    each (f ∷ fs) all = by_test (each fs all.1) (is_asked known t f.line)
      where
        by_test : AllByRecursion P (asked known t fs) → (b : Bool) → AllByRecursion P (cond b (f ∷ asked known t fs) (asked known t fs))
        by_test rest true = (all.0, rest)
        by_test rest false = rest

-- ---- what passes on a line

-- each of these that stands on a line passes a test
abbrev pub pass_on_line : (EntryValue → Bool) → ℕ → List EntryValue → Bool
pass_on_line q line es = list_all (λ (e : EntryValue). not (e.line == line) || q e) es

pub pass_where : (q : EntryValue → Bool) (line : ℕ) (es : List EntryValue)
    → ((j : ℕ) (x : EntryValue) → slice_get es j ≡ Some x → x.line ≡ line → q x ≡ true) → pass_on_line q line es ≡ true
pass_where q line [] each = refl
pass_where q line (e ∷ es) each =
    ap (λ (b : Bool). b && pass_on_line q line es) (by_line (e.line == line) refl)
    ∙ pass_where q line es (λ j x at same. each (suc j) x at same)
  where
    by_line : (b : Bool) → (e.line == line) ≡ b → (not (e.line == line) || q e) ≡ true
    by_line true is = ap (λ (b : Bool). not (e.line == line) || b) (each 0 e refl (eqb-true e.line line is)) ∙ or-true (not (e.line == line))
    by_line false is = ap (λ (b : Bool). not b || q e) is

-- where all pass, those on each line do
all_pass : (q : EntryValue → Bool) (line : ℕ) (es : List EntryValue) → AllByRecursion (λ (e : EntryValue). q e ≡ true) es
    → pass_on_line q line es ≡ true
all_pass q line es all = pass_where q line es (λ j x at same. by_place es j x all at)
  where
    by_place : (es : List EntryValue) (j : ℕ) (x : EntryValue) → AllByRecursion (λ (e : EntryValue). q e ≡ true) es
        → slice_get es j ≡ Some x → q x ≡ true
    by_place [] j x all at = cc
    by_place (e ∷ es) zero x all at = let same : e ≡ x = cc in ap q (sym same) ∙ all.0
    by_place (e ∷ es) (suc j) x all at = by_place es j x all.1 at

-- entries on other lines say nothing of it
pub none_on_line : (q : EntryValue → Bool) (line : ℕ) (es : List EntryValue)
    → ((j : ℕ) (x : EntryValue) → slice_get es j ≡ Some x → x.line ≡ line → ⊥) → pass_on_line q line es ≡ true
none_on_line q line es others = pass_where q line es (λ j x at same. absurd (others j x at same))

and_true : (b : Bool) → (b && true) ≡ b
and_true true = refl
and_true false = refl

-- and where all others are, one decides
pub one_on_line : (q : EntryValue → Bool) (line : ℕ) (es : List EntryValue) (i : ℕ) (e : EntryValue) → slice_get es i ≡ Some e
    → ((j : ℕ) (x : EntryValue) → slice_get es j ≡ Some x → (j ≡ i → ⊥) → x.line ≡ line → ⊥)
    → pass_on_line q line es ≡ (not (e.line == line) || q e)
one_on_line q line [] i e at others = absurd cc
one_on_line q line (x ∷ es) zero e at others =
    let same : x ≡ e = cc in
    ap (λ (b : Bool). (not (x.line == line) || q x) && b)
    (none_on_line q line es (λ j y there. others (suc j) y there (λ h. omega (arith, h))))
    ∙ and_true (not (x.line == line) || q x)
    ∙ ap (λ (y : EntryValue). not (y.line == line) || q y) same
one_on_line q line (x ∷ es) (suc i) e at others =
    ap (λ (b : Bool). (not b || q x) && pass_on_line q line es)
    (ne_eqb x.line line (others 0 x refl (λ h. omega (arith, h))))
    ∙ one_on_line q line es i e at (λ j y there differ. others (suc j) y there (λ h. differ (omega (arith, h))))

-- two tests that agree on the line
pass_alike : (q r : EntryValue → Bool) (line : ℕ) (es : List EntryValue) → ((e : EntryValue) → e.line ≡ line → q e ≡ r e)
    → pass_on_line q line es ≡ pass_on_line r line es
pass_alike q r line [] same = refl
pass_alike q r line (e ∷ es) same =
    ap (λ (b : Bool). b && pass_on_line q line es) (by_line (e.line == line) refl)
    ∙ ap (λ (b : Bool). (not (e.line == line) || r e) && b) (pass_alike q r line es same)
  where
    by_line : (b : Bool) → (e.line == line) ≡ b → (not (e.line == line) || q e) ≡ (not (e.line == line) || r e)
    by_line true is = ap (λ (b : Bool). not (e.line == line) || b) (same e (eqb-true e.line line is))
    by_line false is = ap (λ (b : Bool). not b || q e) is ∙ sym (ap (λ (b : Bool). not b || r e) is)

-- ---- versions that are known

-- from the log's beginning on they all are
pub knows_all : (es : List EntryValue) (e : EntryValue) → knows_named 0 es e ≡ true
knows_all es e = by_name (version_named e.kind (entry_version e))
  where
    by_name : (o : Option Version) → knows_version 0 es e.line o ≡ true
    by_name None = refl
    by_name (Some v) = refl

none_issues : (from line : ℕ) (v : Version) (es : List EntryValue) → AllByRecursion (λ x. line ≤ x.line) es
    → list_any (issues_between from line v) es ≡ false
none_issues from line v [] later = refl
none_issues from line v (x ∷ es) later =
    ap (λ (b : Bool). (leb from x.line && (b && issues v x)) || list_any (issues_between from line v) es) (le-ltb x.line line later.0)
    ∙ ap (λ (b : Bool). b || list_any (issues_between from line v) es) (and_false (leb from x.line))
    ∙ none_issues from line v es later.1
  where
    and_false : (b : Bool) → (b && false) ≡ false
    and_false true = refl
    and_false false = refl

-- what stands behind an entry is nothing to it
pub knows_longer : (from : ℕ) (es more : List EntryValue) (e : EntryValue) → AllByRecursion (λ x. e.line ≤ x.line) more
    → knows_named from (es ++ more) e ≡ knows_named from es e
knows_longer from es more e later = by_name (version_named e.kind (entry_version e))
  where
    or_false : (b : Bool) → (b || false) ≡ b
    or_false true = refl
    or_false false = refl

    by_name : (o : Option Version) → knows_version from (es ++ more) e.line o ≡ knows_version from es e.line o
    by_name None = refl
    by_name (Some v) = ap (λ (b : Bool). (from == 0) || b) (
        list_any-append (issues_between from e.line v) es more
        ∙ ap (λ (b : Bool). list_any (issues_between from e.line v) es || b) (none_issues from e.line v more later)
        ∙ or_false (list_any (issues_between from e.line v) es))

-- ---- entries that are audited

-- where all are, each line is asked
pub all_above_asked : (known : Known) (t : TraceValue) → All (λ e. IsTrue (is_audited known t.entries e)) t.entries
    → (fs : List Finding) → asked known t fs ≡ fs
all_above_asked known t all = filter_all (λ (f : Finding). is_asked known t f.line) (λ f. all_pass (is_audited known t.entries)
    f.line t.entries (recursion_from_All (λ (e : EntryValue). IsTrue (is_audited known t.entries e)) t.entries all))

-- with all versions the base alone decides
pub audited_from : (base : ℕ) (es : List EntryValue) (e : EntryValue) → is_audited (known_from base) es e ≡ leb base e.snapshot
audited_from base es e = ap (λ (b : Bool). leb base e.snapshot && b) (knows_all es e) ∙ and_true (leb base e.snapshot)

audits_all : (es : List EntryValue) (e : EntryValue) → is_audited all_known es e ≡ true
audits_all es e = audited_from 0 es e ∙ le-leb 0 e.snapshot (omega arith)

each_audited : (es xs : List EntryValue) → AllByRecursion (λ (e : EntryValue). is_audited all_known es e ≡ true) xs
each_audited es [] = tt
each_audited es (x ∷ xs) = (audits_all es x, each_audited es xs)

pub asks_all : (t : TraceValue) (line : ℕ) → is_asked all_known t line ≡ true
asks_all t line = all_pass (is_audited all_known t.entries) line t.entries (each_audited t.entries t.entries)

pub all_asked : (t : TraceValue) (fs : List Finding) → asked all_known t fs ≡ fs
all_asked t = filter_all (λ (f : Finding). is_asked all_known t f.line) (λ f. asks_all t f.line)

pub asked_of_all : (known : Known) → known ≡ all_known → (t : TraceValue) (fs : List Finding) → asked known t fs ≡ fs
asked_of_all known is t fs = ap (λ (k : Known). asked k t fs) is ∙ all_asked t fs

weaker : (k line : ℕ) → line < k + 1 → (es : List EntryValue) → AllByRecursion (λ e. k < e.line) es
    → AllByRecursion (λ e. line < e.line) es
weaker k line le [] later = tt
weaker k line le (e ∷ es) later = (let lt = later.0 in omega (arith, lt, le), weaker k line le es later.1)

-- an entry so far is audited in a longer log where it is in the shorter one
pub audited_longer : {k : ℕ} (known : Known) (t u : TraceValue) → GoesOn k t u → (e : EntryValue) → e.line < k + 1
    → is_audited known u.entries e ≡ is_audited known t.entries e
audited_longer {k} known t u goes e le =
    ap (λ (b : Bool). leb known.base e.snapshot && b) (
    ap (λ (es : List EntryValue). knows_named known.versions es e) goes.recorded
    ∙ knows_longer known.versions t.entries goes.entries e (behind goes.entries (weaker k e.line le goes.entries
    (recursion_from_All (λ (x : EntryValue). k < x.line) goes.entries goes.entries_behind))))
  where
    behind : (es : List EntryValue) → AllByRecursion (λ x. e.line < x.line) es → AllByRecursion (λ x. e.line ≤ x.line) es
    behind [] h = tt
    behind (x ∷ es) h = (let lt = h.0 in omega (arith, lt), behind es h.1)

-- of a line so far a longer log asks the same
pub line_asked_longer : {k : ℕ} (known : Known) (t u : TraceValue) → GoesOn k t u → (line : ℕ) → line < k + 1
    → is_asked known u line ≡ is_asked known t line
line_asked_longer {k} known t u goes line le =
    ap (λ (es : List EntryValue). pass_on_line (is_audited known u.entries) line es) goes.recorded
    ∙ list_all-append (λ (e : EntryValue). not (e.line == line) || is_audited known u.entries e) t.entries goes.entries
    ∙ ap (λ (b : Bool). pass_on_line (is_audited known u.entries) line t.entries && b) (none_on_line (is_audited known u.entries)
    line goes.entries (none_there goes.entries (weaker k line le goes.entries
    (recursion_from_All (λ (e : EntryValue). k < e.line) goes.entries goes.entries_behind))))
    ∙ and_true (pass_on_line (is_audited known u.entries) line t.entries)
    ∙ pass_alike (is_audited known u.entries) (is_audited known t.entries) line t.entries (λ e same.
    audited_longer known t u goes e (omega (arith, same, le)))
  where
    none_there : (es : List EntryValue) → AllByRecursion (λ e. line < e.line) es
        → (j : ℕ) (x : EntryValue) → slice_get es j ≡ Some x → x.line ≡ line → ⊥
    none_there [] h j x at same = cc
    none_there (e ∷ es) h zero x at same =
        let is : e ≡ x = cc in
        let lt = h.0 in
        let on = ap (λ (y : EntryValue). y.line) is in
        omega (arith, lt, on, same)
    none_there (e ∷ es) h (suc j) x at same = none_there es h.1 j x at same

-- and so of the findings on such lines
pub asked_longer : {k : ℕ} (known : Known) (t u : TraceValue) → GoesOn k t u → (fs : List Finding) → All (λ f. f.line < k + 1) fs
    → asked known u fs ≡ asked known t fs
asked_longer {k} known t u goes fs within =
    filter_alike (λ (f : Finding). is_asked known u f.line) (λ (f : Finding). is_asked known t f.line) fs
    (each fs (recursion_from_All (λ (f : Finding). f.line < k + 1) fs within))
  where
    each : (fs : List Finding) → AllByRecursion (λ f. f.line < k + 1) fs
        → AllByRecursion (λ f. is_asked known u f.line ≡ is_asked known t f.line) fs
    each [] within = tt
    each (f ∷ fs) within = (line_asked_longer known t u goes f.line within.0, each fs within.1)

-- ---- the entry on a line

-- entries on the same line are the same
pub one_by_line : (t : TraceValue) → IsStrictlyIncreasing (entry_lines t.entries) → (i j : ℕ) (e d : EntryValue)
    → slice_get t.entries i ≡ Some e → slice_get t.entries j ≡ Some d → d.line ≡ e.line → j ≡ i
one_by_line t rising i j e d at there same = elim (cases_lt i j) [
  | inl lt ↦ let up = line_before t rising j i d e there at lt in absurd (omega (arith, up, same))
  | inr ge ↦ elim (cases_lt j i) [
    | inl lt ↦ let up = line_before t rising i j e d at there lt in absurd (omega (arith, up, same))
    | inr le ↦ omega (arith, ge, le)
  ]
]

itself : (n : ℕ) → eqb n n ≡ true
itself n = search rules

-- what decides whether the entry on a line is asked
pub asked_by_entry : (known : Known) (t : TraceValue) → IsStrictlyIncreasing (entry_lines t.entries) → (i : ℕ) (e : EntryValue)
    → slice_get t.entries i ≡ Some e → is_asked known t e.line ≡ is_audited known t.entries e
asked_by_entry known t rising i e at =
    one_on_line (is_audited known t.entries) e.line t.entries i e at (λ j x there differ same.
    differ (one_by_line t rising i j e x at there same))
    ∙ ap (λ (b : Bool). not b || is_audited known t.entries e) (itself e.line)
