-- What was found on a settled entry stays.
use Rattle.std.proofs.Common.{◌≡◌, ℕ, ◌<◌, ◌≤◌, ◌||◌, Bool, true, false, cond, ltb, leb, List, [], ◌∷◌, ◌++◌, Option, Some, None, refl, ◌∙◌, ap, arith}
use Rattle.std.specs.Prelude.{slice_get, filter, All}
use Rattle.std.specs.List.{AllByRecursion, list_any}
use Rattle.std.proofs.lemmas.Bool.{lt-leb, leb-true}
use Rattle.std.proofs.lemmas.Option.{slice_get_within}
use Rattle.std.proofs.lemmas.List.Elements.{All-filter, All-from_recursion, filter-append, recursion_from_All}
use Rattle.namespaces.specs.Lookup.{rule_at}
use Rattle.version_chains.specs.Commits.{Commit, store_at}
use Rattle.marks.proofs.PlacedLemmas.{slice_get-front}
use Rattle.trace_lines.specs.Values.{EntryValue, TraceValue}
use Rattle.token_order.specs.Order.{CommitLine, on_lines, commit_lines_of}
use Rattle.token_order.specs.Found.{later_commits, first_line, open_snapshot, order_of}
use Rattle.token_order.specs.declared.findings.OrderFindings.{OrderFindings}
use Rattle.evidence_check.specs.Evidences.{steps_of}
use Rattle.evidence_check.specs.Judged.{judged}
use Rattle.evidence_check.specs.Steps.{StepValue}
use Rattle.evidence_check.specs.declared.judged.Judged.{Judged}
use Rattle.findings.specs.Findings.{found_by, found_on_tokens, found_on}
use Rattle.windows.proofs.CompactionLemmas.{AreOrdered, IsAbove, ordered}
use Rattle.windows.proofs.GrownLemmas.{on_more_lines, same_at, same_store, stands}
use Rattle.windows.specs.Growth.{GoesOn, HasRisingLines, IsSettled}

-- ---- more behind a list

any_more : {X : Type 0} (p : X → Bool) (xs ys : List X) → list_any p xs ≡ true → list_any p (xs ++ ys) ≡ true
any_more p [] ys h = cc
any_more p (x ∷ xs) ys h = by_test (any_more p xs ys) (p x) h
  where
    by_test : (list_any p xs ≡ true → list_any p (xs ++ ys) ≡ true) → (b : Bool) → (b || list_any p xs) ≡ true
        → (b || list_any p (xs ++ ys)) ≡ true
    by_test rest true h = refl
    by_test rest false h = rest h

none_covered : (s : ℕ) (ds : List CommitLine) → AllByRecursion (λ d. s < d.at) ds → list_any (λ d. leb d.at s) ds ≡ false
none_covered s [] h = refl
none_covered s (d ∷ ds) h = rw (lt-leb d.at s h.0) (none_covered s ds h.1)

covered_same : (s : ℕ) (cs ds : List CommitLine) → AllByRecursion (λ d. s < d.at) ds
    → list_any (λ d. leb d.at s) (cs ++ ds) ≡ list_any (λ d. leb d.at s) cs
covered_same s [] ds h = none_covered s ds h
covered_same s (c ∷ cs) ds h = ap (λ (b : Bool). leb c.at s || b) (covered_same s cs ds h)

-- the line of the first of these, where some are at or below a timestamp
abbrev pub open_among : ℕ → List CommitLine → Option ℕ
open_among s cs = cond (list_any (λ c. leb c.at s) cs) (first_line cs) None

open_same : (s : ℕ) (cs ds : List CommitLine) → AllByRecursion (λ d. s < d.at) ds
    → open_among s (cs ++ ds) ≡ open_among s cs
open_same s [] ds h = ap (λ (b : Bool). cond b (first_line ds) None) (none_covered s ds h)
open_same s (c ∷ cs) ds h = ap (λ (b : Bool). cond b (Some c.line) None) (covered_same s (c ∷ cs) ds h)

open_more : (s : ℕ) (cs ds : List CommitLine) (l : ℕ) → open_among s cs ≡ Some l → open_among s (cs ++ ds) ≡ Some l
open_more s [] ds l h = cc
open_more s (c ∷ cs) ds l h = by_test (list_any p (c ∷ cs)) refl h
  where
    p : CommitLine → Bool
    p d = leb d.at s

    by_test : (b : Bool) → list_any (λ d. leb d.at s) (c ∷ cs) ≡ b → cond b (Some c.line) None ≡ Some l
        → open_among s ((c ∷ cs) ++ ds) ≡ Some l
    by_test true is h = ap (λ (b : Bool). cond b (Some c.line) None) (any_more (λ (d : CommitLine). leb d.at s) (c ∷ cs)
        ds is) ∙ h
    by_test false is h = cc

-- ---- behind a commit at or above a timestamp all are above it

behind : {X : Type 0} (P : X → Type 0) (xs ys : List X) → AllByRecursion P (xs ++ ys) → AllByRecursion P ys
behind P [] ys h = h
behind P (x ∷ xs) ys h = behind P xs ys h.1

further : (s n : ℕ) → s ≤ n → (ds : List Commit) → AllByRecursion (λ d. n < d.at) ds → AllByRecursion (IsAbove s) ds
further s n le [] h = tt
further s n le (d ∷ ds) h = ((let lt = h.0 in omega (arith, le, lt)), further s n le ds h.1)

pub all_above : (s : ℕ) (cs ds : List Commit) → AreOrdered (cs ++ ds) → list_any (λ c. leb s c.at) cs ≡ true
    → AllByRecursion (IsAbove s) ds
all_above s [] ds o h = cc
all_above s (c ∷ cs) ds o h = by_test (all_above s cs ds o.1) (leb s c.at) refl h
  where
    by_test : (list_any (λ c. leb s c.at) cs ≡ true → AllByRecursion (IsAbove s) ds) → (b : Bool) → leb s c.at ≡ b
        → (b || list_any (λ c. leb s c.at) cs) ≡ true → AllByRecursion (IsAbove s) ds
    by_test rest true le h = further s c.at (leb-true s c.at le) ds (behind (λ (d : Commit). c.at < d.at) cs ds o.0)
    by_test rest false le h = rest h

lines_above : (s : ℕ) (ls : List ℕ) (cs : List Commit) → AllByRecursion (IsAbove s) cs
    → AllByRecursion (λ c. s < c.at) (on_lines ls cs)
lines_above s [] cs h = tt
lines_above s (l ∷ ls) [] h = tt
lines_above s (l ∷ ls) (c ∷ cs) h = (h.0, lines_above s ls cs h.1)

module _ {k : ℕ} (t u : TraceValue) (goes : GoesOn k t u) (first : HasRisingLines t) (whole : HasRisingLines u) where
  abbrev pub new_lines : List CommitLine
  new_lines = on_lines goes.commit_lines goes.commits

  pub lines_more : commit_lines_of u ≡ commit_lines_of t ++ new_lines
  lines_more =
      ap (λ (ls : List ℕ). on_lines ls u.commits) goes.on_lines
      ∙ ap (on_lines (t.commit_lines ++ goes.commit_lines)) goes.committed
      ∙ on_more_lines t.commit_lines goes.commit_lines t.commits goes.commits first.commits.counted

  pub later_more : (e : EntryValue) → later_commits u e ≡ later_commits t e ++ filter (λ c. ltb e.line c.line) new_lines
  later_more e =
      let p : CommitLine → Bool = λ c. ltb e.line c.line in
      ap (filter p) lines_more ∙ filter-append p (commit_lines_of t) new_lines

  -- an open snapshot stays open
  pub opened_stays : (e : EntryValue) (l : ℕ) → open_snapshot t e ≡ Some l → open_snapshot u e ≡ Some l
  opened_stays e l h = ap (open_among e.snapshot) (later_more e) ∙ open_more e.snapshot (later_commits t e) (filter (λ c.
      ltb e.line c.line) new_lines) l h

  module _ (i : ℕ) (e : EntryValue) (at : slice_get t.entries i ≡ Some e) (settled : IsSettled t e) where
    above : AllByRecursion (IsAbove e.snapshot) goes.commits
    above = all_above e.snapshot t.commits goes.commits (rw (← goes.committed) (ordered u.commits
        whole.commits.timestamps)) settled

    pub opened : open_snapshot u e ≡ open_snapshot t e
    opened =
        let p : CommitLine → Bool = λ c. ltb e.line c.line in
        let later : CommitLine → Type 0 = λ c. e.snapshot < c.at in
        ap (open_among e.snapshot) (later_more e)
        ∙ open_same e.snapshot (later_commits t e) (filter p new_lines) (recursion_from_All later (filter p new_lines)
        (All-filter p later new_lines (All-from_recursion later new_lines (lines_above e.snapshot goes.commit_lines
        goes.commits above))))

    closed : All (λ (c : Commit). e.snapshot < c.at) goes.commits
    closed = All-from_recursion (IsAbove e.snapshot) goes.commits above

    -- at the entry's snapshot the same rules are in force, and the same is stored
    pub same_rules_then : rule_at u.declarations e.snapshot ≡ rule_at t.declarations e.snapshot
    same_rules_then = λ j namespace relation.
        (same_at t u goes first.commits first.entries i e at closed).rules namespace relation j

    pub same_store_then : store_at u.commits e.snapshot ≡ store_at t.commits e.snapshot
    same_store_then = ap (λ (cs : List Commit). store_at cs e.snapshot) goes.committed
        ∙ same_store e.snapshot t.commits goes.commits above

    pub same_judgement : (steps : Option (List StepValue)) → judged u e steps ≡ judged t e steps
    same_judgement = (stands t u goes first.commits first.entries).judgement i e at closed

    pub same_found : (evidence more : List (Option (List StepValue))) → steps_of more i ≡ steps_of evidence i
        → found_on u more i e ≡ found_on t evidence i e
    same_found evidence more same =
        ap (λ (f : OrderFindings). found_on_tokens f ++ found_by (judged u e (steps_of more i)) ∷ [])
        ((stands t u goes first.commits first.entries).tokens i e at
        ∙ ap (λ (o : Option ℕ). record (order_of t i e) { open_snapshot = o }) opened)
        ∙ ap (λ (j : Judged). found_on_tokens (order_of t i e) ++ found_by j ∷ []) (same_judgement (steps_of more i)
        ∙ ap (judged t e) same)

pub settled_law : (k : ℕ) (t u : TraceValue) → GoesOn k t u → HasRisingLines t → HasRisingLines u → (i : ℕ) (e : EntryValue)
    → slice_get t.entries i ≡ Some e → IsSettled t e → (evidence more : List (Option (List StepValue)))
    → steps_of more i ≡ steps_of evidence i → found_on u more i e ≡ found_on t evidence i e
settled_law k t u goes first whole i e at settled = same_found t u goes first whole i e at settled

pub still_recorded : {k : ℕ} (t u : TraceValue) (goes : GoesOn k t u) (i : ℕ) (e : EntryValue) → slice_get t.entries i ≡ Some e
    → slice_get u.entries i ≡ Some e
still_recorded t u goes i e at =
    ap (λ (es : List EntryValue). slice_get es i) goes.recorded
    ∙ slice_get-front t.entries goes.entries i (slice_get_within t.entries i e at)
    ∙ at
