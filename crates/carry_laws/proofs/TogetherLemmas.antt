-- What all runs of a log tell together.
use Rattle.std.proofs.Common.{◌≡◌, ℕ, zero, suc, ◌+◌, ◌<◌, ◌≤◌, ◌⊎◌, ◌&&◌, ◌||◌, max, ltb, inl, inr, Bool, true, false, cond, eqb, leb, List, [], ◌∷◌, ◌++◌, Option, Some, None, refl, sym, ◌∙◌, ap, subst, arith, append_assoc, append-nil}
use Rattle.std.specs.Prelude.{filter, is_none, option_map, slice_get, IsPermutation, IsSomeAnd}
use Rattle.std.specs.List.{AllByRecursion, list_any}
use Rattle.std.specs.List.Sorted.{IsStrictlyIncreasing}
use Rattle.std.proofs.Math.Bool.{or-true}
use Rattle.std.proofs.lemmas.Bool.{and_from, cases_lt, eqb-true, le-leb, leb-true, leb-false, lt-leb, lt-ltb, ne_eqb}
use Rattle.std.proofs.lemmas.List.Elements.{filter-append, recursion_from_All}
use Rattle.std.proofs.lemmas.List.Folds.{list_any-append}
use Rattle.version_chains.specs.Commits.{Commit}
use Rattle.trace_lines.specs.Values.{EntryValue, TraceValue, empty_trace, entry_lines, next_line}
use Rattle.evidence_check.specs.Evidences.{steps_of}
use Rattle.evidence_check.specs.Steps.{StepValue}
use Rattle.findings.specs.Findings.{findings_of, found_on, on_line}
use Rattle.findings.specs.declared.finding.Finding.{Finding}
use Rattle.findings.specs.declared.finding.What.{What}
use Rattle.windows.specs.Growth.{IsSettled, is_settled}
use Rattle.follow_laws.specs.Begun.{Begins, IsOfBytes}
use Rattle.follow_laws.specs.Told.{at_moments, is_at, left_over, moments, settling_line, told_before, told_between, told_from, told_on}
use Rattle.follow_laws.proofs.FirstLemmas.{first_law, itself_law}
use Rattle.follow_laws.proofs.OnceLemmas.{once_among, settling_within, own_line}
use Rattle.follow_laws.proofs.StaysLemmas.{stays_law}
use Rattle.follow_laws.proofs.ThroughLemmas.{first_entry, reaching}
use Rattle.carry_laws.specs.Asked.{asked, is_asked, is_audited, knows_named}
use Rattle.carry_laws.specs.declared.known.Known.{Known}
use Rattle.carry_laws.specs.Carried.{StandsIn, has_commit_at, placeless}
use Rattle.carry_laws.specs.Together.{AreParts, HadSteps, IsPart, Part, known_at, on_audited, told_in, told_in_all}
use Rattle.carry_laws.proofs.AskLemmas.{asked_by_entry, filter_alike, knows_all, knows_longer, line_asked_longer, one_by_line, told_before_line}
use Rattle.carry_laws.proofs.HandedLemmas.{among_kept, reached_back}
use Rattle.carry_laws.proofs.OnwardLemmas.{onward}
use Rattle.carry_laws.proofs.PartLemmas.{copied, in_longer, line_within, lines_within, same_line, same_snapshot, told_by_part}
use Rattle.carry_laws.proofs.SilentLemmas.{silent}
use Rattle.carry_laws.proofs.StandInLemmas.{kept_all, reached_there}
use Rattle.carry_laws.proofs.StepLemmas.{chosen, chosen_there, steps_on, steps_there, told_by_steps}

-- ---- findings that are told, entry by entry

each_on_line : (P : ℕ → Type 0) (line : ℕ) → P line → (found : List (Option What)) → AllByRecursion (λ (f : Finding). P f.line) (on_line line found)
each_on_line P line h [] = tt
each_on_line P line h (None ∷ found) = each_on_line P line h found
each_on_line P line h (Some what ∷ found) = (h, each_on_line P line h found)

all_more : {X : Type 0} (P : X → Type 0) (xs ys : List X) → AllByRecursion P xs → AllByRecursion P ys → AllByRecursion P (xs ++ ys)
all_more P [] ys one two = two
all_more P (x ∷ xs) ys one two = (one.0, all_more P xs ys one.1 two)

-- where it holds of the line of each entry of which anything is told
pub each_told : (P : ℕ → Type 0) (test : Option ℕ → Bool) (t : TraceValue) (evidence : List (Option (List StepValue))) (i : ℕ)
    (es : List EntryValue) → ((j : ℕ) (e : EntryValue) → slice_get es j ≡ Some e
    → P e.line ⊎ (on_line e.line (at_moments test (moments t e) (found_on t evidence (i + j) e)) ≡ []))
    → AllByRecursion (λ (f : Finding). P f.line) (told_from test t evidence i es)
each_told P test t evidence i [] h = tt
each_told P test t evidence i (e ∷ es) h =
    all_more (λ (f : Finding). P f.line) (on_line e.line (at_moments test (moments t e) (found_on t evidence i e)))
    (told_from test t evidence (i + 1) es) here
    (each_told P test t evidence (i + 1) es (λ j d at. elim (h (suc j) d at) [
      | inl holds ↦ inl holds
      | inr none ↦ inr (at_place d (i + suc j) (i + 1 + j) (omega arith) none)
    ]))
  where
    at_place : (d : EntryValue) (k l : ℕ) → k ≡ l
        → on_line d.line (at_moments test (moments t d) (found_on t evidence k d)) ≡ []
        → on_line d.line (at_moments test (moments t d) (found_on t evidence l d)) ≡ []
    at_place d k l same none = subst (λ (m : ℕ). on_line d.line (at_moments test (moments t d) (found_on t evidence m d)) ≡ []) same none

    here : AllByRecursion (λ (f : Finding). P f.line) (on_line e.line (at_moments test (moments t e) (found_on t evidence i e)))
    here = elim (h 0 e refl) [
      | inl holds ↦ each_on_line P e.line holds (at_moments test (moments t e) (found_on t evidence i e))
      | inr none ↦ subst (AllByRecursion (λ (f : Finding). P f.line)) (sym (at_place e (i + 0) i (omega arith) none)) tt
    ]

-- ---- what is told between lines

-- two that are told alike at each line, of which those that pass a test are asked for
between_alike : (p q : Finding → Bool) (t u : TraceValue) (one other : List (Option (List StepValue))) (a b : ℕ)
    → ((k : ℕ) → a ≤ k → k < b → filter p (told_on t one k) ≡ filter q (told_on u other k))
    → filter p (told_between t one a b) ≡ filter q (told_between u other a b)
between_alike p q t u one other a zero h = refl
between_alike p q t u one other a (suc b) h =
    filter-append p (told_between t one a b) (cond (leb a b) (told_on t one b) [])
    ∙ ap (λ (fs : List Finding). fs ++ filter p (cond (leb a b) (told_on t one b) []))
    (between_alike p q t u one other a b (λ k from lt. h k from (omega (arith, lt))))
    ∙ ap (λ (fs : List Finding). filter q (told_between u other a b) ++ fs) (by_test (leb a b) refl)
    ∙ sym (filter-append q (told_between u other a b) (cond (leb a b) (told_on u other b) []))
  where
    by_test : (c : Bool) → leb a b ≡ c
        → filter p (cond (leb a b) (told_on t one b) []) ≡ filter q (cond (leb a b) (told_on u other b) [])
    by_test true is =
        ap (λ (c : Bool). filter p (cond c (told_on t one b) [])) is
        ∙ h b (leb-true a b is) (omega arith)
        ∙ sym (ap (λ (c : Bool). filter q (cond c (told_on u other b) [])) is)
    by_test false is =
        ap (λ (c : Bool). filter p (cond c (told_on t one b) [])) is
        ∙ sym (ap (λ (c : Bool). filter q (cond c (told_on u other b) [])) is)

none_between : (t : TraceValue) (evidence : List (Option (List StepValue))) (a b : ℕ) → b ≤ a → told_between t evidence a b ≡ []
none_between t evidence a zero le = refl
none_between t evidence a (suc b) le =
    ap (λ (c : Bool). told_between t evidence a b ++ cond c (told_on t evidence b) []) (lt-leb a b (omega (arith, le)))
    ∙ append-nil (told_between t evidence a b)
    ∙ none_between t evidence a b (omega (arith, le))

between_joined : (t : TraceValue) (evidence : List (Option (List StepValue))) (a b c : ℕ) → a ≤ b → b ≤ c
    → told_between t evidence a b ++ told_between t evidence b c ≡ told_between t evidence a c
between_joined t evidence a b zero le up =
    let none : b ≡ 0 = omega (arith, up) in
    ap (λ (m : ℕ). told_between t evidence a m ++ []) none
between_joined t evidence a b (suc c) le up = elim (cases_lt c b) [
  | inl lt ↦
      let same : b ≡ suc c = omega (arith, up, lt) in
      ap (λ (fs : List Finding). told_between t evidence a b ++ fs) (none_between t evidence b (suc c) (omega (arith, same)))
      ∙ append-nil (told_between t evidence a b)
      ∙ ap (told_between t evidence a) same
  | inr low ↦
      ap (λ (d : Bool). told_between t evidence a b ++ (told_between t evidence b c ++ cond d (told_on t evidence c) []))
      (le-leb b c low)
      ∙ sym (append_assoc (told_between t evidence a b) (told_between t evidence b c) (told_on t evidence c))
      ∙ ap (λ (fs : List Finding). fs ++ told_on t evidence c) (between_joined t evidence a b c le low)
      ∙ sym (ap (λ (d : Bool). told_between t evidence a c ++ cond d (told_on t evidence c) []) (le-leb a c (omega (arith, le, low))))
]

from_one : (t : TraceValue) (evidence : List (Option (List StepValue))) → told_on t evidence 0 ≡ [] → (k : ℕ)
    → told_before t evidence k ≡ told_between t evidence 1 k
from_one t evidence none zero = refl
from_one t evidence none (suc zero) = none
from_one t evidence none (suc (suc k)) =
    ap (λ (fs : List Finding). fs ++ told_on t evidence (suc k)) (from_one t evidence none (suc k))
    ∙ sym (ap (λ (c : Bool). told_between t evidence 1 (suc k) ++ cond c (told_on t evidence (suc k)) []) (le-leb 1 (suc k) (omega arith)))

-- ---- bases

-- no base, or the timestamp of a commit
abbrev IsBase : TraceValue → ℕ → Type 0
IsBase t b = (b ≡ 0) ⊎ (has_commit_at b t.commits ≡ true)

still_base : {k : ℕ} (t u : TraceValue) → Begins k t u → (b : ℕ) → IsBase t b → IsBase u b
still_base t u begins b (inl none) = inl none
still_base t u begins b (inr has) = inr (
    ap (has_commit_at b) begins.goes.committed
    ∙ list_any-append (λ (c : Commit). eqb c.at b) t.commits begins.goes.commits
    ∙ ap (λ (z : Bool). z || has_commit_at b begins.goes.commits) has)

below_open : (b s : ℕ) (cs : List Commit) → list_any (λ (c : Commit). leb s c.at) cs ≡ false
    → list_any (λ (c : Commit). eqb c.at b) cs ≡ true → b ≤ s
below_open b s [] unreached has = absurd (let no : false ≡ true = has in cc)
below_open b s (c ∷ cs) unreached has = by_tests (below_open b s cs) (leb s c.at) refl (eqb c.at b) refl unreached has
  where
    by_tests : (list_any (λ (d : Commit). leb s d.at) cs ≡ false → list_any (λ (d : Commit). eqb d.at b) cs ≡ true → b ≤ s)
        → (x : Bool) → leb s c.at ≡ x → (y : Bool) → eqb c.at b ≡ y → (x || list_any (λ (d : Commit). leb s d.at) cs) ≡ false
        → (y || list_any (λ (d : Commit). eqb d.at b) cs) ≡ true → b ≤ s
    by_tests rest true is y also unreached has = absurd (let no : true ≡ false = unreached in cc)
    by_tests rest false is true also unreached has =
        let same = eqb-true c.at b also in
        let lt = leb-false s c.at is in
        omega (arith, same, lt)
    by_tests rest false is false also unreached has = rest unreached has

-- an entry that is not settled asks at each base
asks_there : (t : TraceValue) (e : EntryValue) → is_settled t e ≡ false → (b : ℕ) → IsBase t b → b ≤ e.snapshot
asks_there t e unreached b (inl none) = omega (arith, none)
asks_there t e unreached b (inr has) = below_open b e.snapshot t.commits unreached has

-- a run's base is one of the log before it
base_known : (u : TraceValue) (n : ℕ) (before : TraceValue) (from : ℕ) (r : Part) → IsPart u n before from r → IsBase before r.knows.base
base_known u n before from r part = elim part.known [
  | inl first ↦ inl (ap (λ (k : Known). k.base) first.0)
  | inr begun ↦ inr begun.2.base
]

known_first : (r : Part) (rs : List Part) (l : ℕ) → l ≤ r.to → known_at (r ∷ rs) l ≡ r.knows
known_first r rs l le = ap (λ (b : Bool). cond b r.knows (known_at rs l)) (le-leb l r.to le)

known_later : (r : Part) (rs : List Part) (l : ℕ) → r.to < l → known_at (r ∷ rs) l ≡ known_at rs l
known_later r rs l lt = ap (λ (b : Bool). cond b r.knows (known_at rs l)) (lt-leb l r.to lt)

-- an entry is audited on whose line this is
abbrev pub audited : TraceValue → (ℕ → Known) → Finding → Bool
audited u known f = is_asked (known f.line) u f.line

-- one that asks at both bases is where it knows of the same versions
audited_by_both : (one other : Known) (es : List EntryValue) (e : EntryValue) → one.base ≤ e.snapshot → other.base ≤ e.snapshot
    → knows_named one.versions es e ≡ knows_named other.versions es e → is_audited one es e ≡ is_audited other es e
audited_by_both one other es e low high same =
    ap (λ (b : Bool). b && knows_named one.versions es e) (le-leb one.base e.snapshot low)
    ∙ same
    ∙ sym (ap (λ (b : Bool). b && knows_named other.versions es e) (le-leb other.base e.snapshot high))

-- what is known of entries that wait is what the run before knew of them
abbrev pub KnowsTheSame : TraceValue → (ℕ → Known) → ℕ → Type 0
KnowsTheSame t known from = (i : ℕ) (e : EntryValue) → slice_get t.entries i ≡ Some e → is_settled t e ≡ false
    → knows_named (known e.line).versions t.entries e ≡ knows_named from t.entries e

-- ---- one run of several

module _ (u : TraceValue) (known : ℕ → Known) (n : ℕ) (before : TraceValue) (from : ℕ) (r : Part) (part : IsPart u n before from r)
    (old : (l : ℕ) → l ≤ n → IsBase before (known l).base) (same : KnowsTheSame before known from)
    (new : (l : ℕ) → n < l → l ≤ r.to → known l ≡ r.knows) where
  later : (e : EntryValue) → e.line ≤ n → (es : List EntryValue) → AllByRecursion (λ (x : EntryValue). n < x.line) es
      → AllByRecursion (λ (x : EntryValue). e.line ≤ x.line) es
  later e le [] h = tt
  later e le (x ∷ es) h = (let lt = h.0 in omega (arith, lt, le), later e le es h.1)

  knows_there : (f : ℕ) (e : EntryValue) → e.line ≤ n → knows_named f r.whole.entries e ≡ knows_named f before.entries e
  knows_there f e le =
      ap (λ (es : List EntryValue). knows_named f es e) part.goes.goes.recorded
      ∙ knows_longer f before.entries part.goes.goes.entries e (later e le part.goes.goes.entries
      (recursion_from_All (λ (x : EntryValue). n < x.line) part.goes.goes.entries part.goes.goes.entries_behind))

  in_before : (j : ℕ) (e : EntryValue) → slice_get r.whole.entries j ≡ Some e → e.line ≤ n → slice_get before.entries j ≡ Some e
  in_before j e at low = first_entry n before.entries part.goes.goes.entries
      (recursion_from_All (λ (x : EntryValue). n < x.line) part.goes.goes.entries part.goes.goes.entries_behind) j e
      (sym (ap (λ (es : List EntryValue). slice_get es j) part.goes.goes.recorded) ∙ at) low

  known_still : (j : ℕ) (e : EntryValue) → slice_get before.entries j ≡ Some e → e.line ≤ n → is_settled before e ≡ false
      → knows_named (known e.line).versions r.whole.entries e ≡ knows_named r.knows.versions r.whole.entries e
  known_still j e at low unset =
      knows_there (known e.line).versions e low
      ∙ same j e at unset
      ∙ sym (part.steady j e at unset)
      ∙ sym (knows_there r.knows.versions e low)

  -- so it is of those that wait behind the run
  pub knows_on : KnowsTheSame r.whole known r.knows.versions
  knows_on j e at unset = elim (cases_lt n e.line) [
    | inl above ↦
        let last = line_within r.whole u part.onward j e at in
        ap (λ (k : Known). knows_named k.versions r.whole.entries e) (new e.line above (omega (arith, last)))
    | inr low ↦ known_still j e (in_before j e at low) low (not_settled (is_settled before e) refl)
  ]
    where
      reaches : Commit → Bool
      reaches c = leb e.snapshot c.at

      not_settled : (b : Bool) → is_settled before e ≡ b → is_settled before e ≡ false
      not_settled false is = is
      not_settled true is =
          let yes : is_settled r.whole e ≡ true = ap (list_any reaches) part.goes.goes.committed
          ∙ list_any-append reaches before.commits part.goes.goes.commits
          ∙ ap (λ (z : Bool). z || list_any reaches part.goes.goes.commits) is in
          let no : false ≡ true = sym unset ∙ yes in absurd cc

  same_test : (evidence : List (Option (List StepValue))) (k : ℕ) → n < k → k ≤ r.to
      → AllByRecursion (λ (f : Finding). is_asked r.knows r.whole f.line ≡ is_asked (known f.line) r.whole f.line)
      (told_on r.whole evidence k)
  same_test evidence k lt le =
      each_told (λ l. is_asked r.knows r.whole l ≡ is_asked (known l) r.whole l) (is_at k) r.whole evidence 0 r.whole.entries
      (λ j e at. by_line j e at (cases_lt n e.line))
    where
      rising : IsStrictlyIncreasing (entry_lines r.whole.entries)
      rising = part.onward.first.rising.entries

      by_settled : (j : ℕ) (e : EntryValue) → slice_get r.whole.entries j ≡ Some e → e.line ≤ n
          → slice_get before.entries j ≡ Some e → (s : Bool) → is_settled before e ≡ s
          → (is_asked r.knows r.whole e.line ≡ is_asked (known e.line) r.whole e.line)
          ⊎ (on_line e.line (at_moments (is_at k) (moments r.whole e) (found_on r.whole evidence (0 + j) e)) ≡ [])
      by_settled j e at low there true is =
          inr (subst (λ (i : ℕ). on_line e.line (at_moments (is_at k) (moments r.whole e) (found_on r.whole evidence i e)) ≡ [])
          (let z : j ≡ 0 + j = omega arith in z)
          (silent before r.whole part.goes (is_at k) (λ m up. ne_eqb m k (λ same. omega (arith, up, lt, same))) j e there is evidence))
      by_settled j e at low there false is =
          inl (asked_by_entry r.knows r.whole rising j e at
          ∙ audited_by_both r.knows (known e.line) r.whole.entries e
          (asks_there before e is r.knows.base (base_known u n before from r part))
          (asks_there before e is (known e.line).base (old e.line low))
          (sym (known_still j e there low is))
          ∙ sym (asked_by_entry (known e.line) r.whole rising j e at))

      by_line : (j : ℕ) (e : EntryValue) → slice_get r.whole.entries j ≡ Some e → (n < e.line) ⊎ (e.line ≤ n)
          → (is_asked r.knows r.whole e.line ≡ is_asked (known e.line) r.whole e.line)
          ⊎ (on_line e.line (at_moments (is_at k) (moments r.whole e) (found_on r.whole evidence (0 + j) e)) ≡ [])
      by_line j e at (inl above) =
          let last = line_within r.whole u part.onward j e at in
          inl (ap (λ (k : Known). is_asked k r.whole e.line) (sym (new e.line above (omega (arith, last)))))
      by_line j e at (inr low) = by_settled j e at low (in_before j e at low) (is_settled before e) refl

  -- what it tells at a line is what the whole log lets tell there, on audited entries
  pub told_at_line : (evidence : List (Option (List StepValue))) → ((i j : ℕ) (e d : EntryValue)
      → slice_get r.whole.entries i ≡ Some e → slice_get r.log.entries j ≡ Some d → placeless e ≡ placeless d
      → IsSettled r.whole e → steps_of r.evidence j ≡ steps_of evidence i) → (k : ℕ) → n < k → k ≤ r.to
      → asked r.knows r.log (told_on r.log r.evidence k) ≡ filter (audited u known) (told_on u evidence k)
  told_at_line evidence agree k lt le =
      sym (told_by_part u n before from r part evidence agree k lt)
      ∙ filter_alike (λ (f : Finding). is_asked r.knows r.whole f.line) (λ (f : Finding). is_asked (known f.line) r.whole f.line)
      (told_on r.whole evidence k) (same_test evidence k lt le)
      ∙ longer (told_on r.whole evidence k) (recursion_from_All (λ (f : Finding). f.line < r.to + 1) (told_on r.whole evidence k)
      (told_before_line (r.to + 1) (is_at k) r.whole evidence 0 r.whole.entries (lines_within r.whole u part.onward)))
      ∙ ap (filter (audited u known)) (sym (stays_law r.to r.whole u part.onward evidence evidence (λ i within. refl) k le))
    where
      -- the longer log asks for the same
      longer : (fs : List Finding) → AllByRecursion (λ (f : Finding). f.line < r.to + 1) fs
          → filter (λ (f : Finding). is_asked (known f.line) r.whole f.line) fs ≡ filter (audited u known) fs
      longer [] below = refl
      longer (f ∷ fs) below =
          ap (λ (b : Bool). cond b (f ∷ filter (λ (g : Finding). is_asked (known g.line) r.whole g.line) fs)
          (filter (λ (g : Finding). is_asked (known g.line) r.whole g.line) fs)) (sym (line_asked_longer (known f.line) r.whole u
          part.onward.goes f.line below.0))
          ∙ ap (λ (gs : List Finding). cond (audited u known f) (f ∷ gs) gs) (longer fs below.1)

-- ---- the steps that runs had

-- P holds of each entry that a run settles, without its place, and of the steps that the run had for it
abbrev pub HaveSteps : (EntryValue → Option (List StepValue) → Type 0) → ℕ → List Part → Type 0
HaveSteps P n [] = Unit {0}
HaveSteps P n (r ∷ rs) = ((j : ℕ) (d : EntryValue) → slice_get r.log.entries j ≡ Some d → (l : ℕ)
    → settling_line r.log d ≡ Some l → n < l → l ≤ r.to → P (placeless d) (steps_of r.evidence j)) × HaveSteps P r.to rs

pub steps_more : (P Q : EntryValue → Option (List StepValue) → Type 0) → ((e : EntryValue) (s : Option (List StepValue)) → P e s → Q e s)
    → (n : ℕ) (ps : List Part) → HaveSteps P n ps → HaveSteps Q n ps
steps_more P Q more n [] h = tt
steps_more P Q more n (p ∷ ps) h =
    (λ j d at l is lt le. more (placeless d) (steps_of p.evidence j) (h.0 j d at l is lt le), steps_more P Q more p.to ps h.1)

own_steps : (n : ℕ) (rs : List Part) → HaveSteps (HadSteps rs) n rs
own_steps n [] = tt
own_steps n (r ∷ rs) = (
  λ j d at l is lt le. inl (j, d, at, refl, refl),
  steps_more (HadSteps rs) (HadSteps (r ∷ rs)) (λ e s had. inr had) r.to rs (own_steps r.to rs),
)

-- ---- the runs, one behind the other

abbrev last_of : ℕ → List Part → ℕ
last_of n [] = n
last_of n (r ∷ rs) = last_of r.to rs

module _ (u : TraceValue) (P : EntryValue → Option (List StepValue) → Type 0) where
  -- an entry is settled in the log before the run
  abbrev IsOld : TraceValue → ℕ → EntryValue → Type 0
  IsOld before i e = (slice_get before.entries i ≡ Some e) × IsSettled before e

  module _ (n : ℕ) (before : TraceValue) (from : ℕ) (r : Part) (part : IsPart u n before from r) (rest : List (Option (List StepValue))) where
    settled_by_then : EntryValue → Bool
    settled_by_then e = leb e.line r.to && is_settled r.whole e

    -- for what the run has settled its own steps, and else the others
    abbrev joined : List (Option (List StepValue))
    joined = chosen settled_by_then (steps_on r.log.entries r.evidence 0) rest 0 u.entries

    in_whole : (i : ℕ) (e : EntryValue) → slice_get u.entries i ≡ Some e → e.line ≤ r.to → slice_get r.whole.entries i ≡ Some e
    in_whole i e at le = first_entry r.to r.whole.entries part.onward.goes.entries
        (recursion_from_All (λ (x : EntryValue). r.to < x.line) part.onward.goes.entries part.onward.goes.entries_behind) i e
        (sym (ap (λ (es : List EntryValue). slice_get es i) part.onward.goes.recorded) ∙ at) le

    joined_own : (i j : ℕ) (e d : EntryValue) → slice_get r.whole.entries i ≡ Some e → slice_get r.log.entries j ≡ Some d
        → placeless e ≡ placeless d → IsSettled r.whole e → steps_of r.evidence j ≡ steps_of joined i
    unfolding settled_by_then
    joined_own i j e d at there same settled = sym (
        chosen_there settled_by_then (steps_on r.log.entries r.evidence 0) rest 0 u.entries i e (in_longer r.whole u part.onward i e at)
        ∙ ap (λ (b : Bool). cond b (steps_on r.log.entries r.evidence 0 e.line) (steps_of rest (0 + i)))
        (and_from (leb e.line r.to) (is_settled r.whole e) (le-leb e.line r.to (let lt = line_within r.whole u part.onward i e at in
        omega (arith, lt))) settled)
        ∙ steps_there r.log.entries r.evidence 0 e.line j d there (sym (same_line e d same)) (λ k x here on.
        one_by_line r.log part.shorter.whole.rising.entries j k d x there here (on ∙ same_line e d same))
        ∙ ap (steps_of r.evidence) (let z : 0 + j ≡ j = omega arith in z))

    joined_rest : (i : ℕ) (e : EntryValue) → slice_get u.entries i ≡ Some e → settled_by_then e ≡ false
        → steps_of joined i ≡ steps_of rest i
    joined_rest i e at is =
        chosen_there settled_by_then (steps_on r.log.entries r.evidence 0) rest 0 u.entries i e at
        ∙ ap (λ (b : Bool). cond b (steps_on r.log.entries r.evidence 0 e.line) (steps_of rest (0 + i))) is
        ∙ ap (steps_of rest) (let z : 0 + i ≡ i = omega arith in z)

    -- what is settled behind the run's last line was not settled by then
    not_by_then : (i : ℕ) (e : EntryValue) → slice_get u.entries i ≡ Some e → (k : ℕ) → r.to < k
        → is_at k (settling_line u e) ≡ true → settled_by_then e ≡ false
    unfolding settled_by_then
    not_by_then i e at k lt is = by_line (leb e.line r.to) refl
      where
        apart : (o : Option ℕ) → is_at k o ≡ true → IsSomeAnd o (λ m. m ≤ r.to) → ⊥
        apart None is some = some
        apart (Some l) is some = let same = eqb-true l k is in omega (arith, same, some, lt)

        by_line : (b : Bool) → leb e.line r.to ≡ b → (leb e.line r.to && is_settled r.whole e) ≡ false
        by_line false here = ap (λ (b : Bool). b && is_settled r.whole e) here
        by_line true here = ap (λ (b : Bool). b && is_settled r.whole e) here ∙ by_settled (is_settled r.whole e) refl
          where
            by_settled : (s : Bool) → is_settled r.whole e ≡ s → is_settled r.whole e ≡ false
            by_settled false settled = settled
            by_settled true settled =
                let some = (first_law r.to r.whole u part.onward i e (in_whole i e at (leb-true e.line r.to here))).0 settled in
                absurd (apart (settling_line u e) is some)

    later_told : (k : ℕ) → r.to < k → told_on u rest k ≡ told_on u joined k
    later_told k lt = told_by_steps (is_at k) u rest joined 0 u.entries (λ j e at is.
        let place : 0 + j ≡ j = omega arith in
        ap (steps_of rest) place
        ∙ sym (joined_rest j e at (not_by_then j e at k lt is))
        ∙ ap (steps_of joined) (sym place))

    -- ---- an entry that the run settles stands in its log

    record IsSettledHere (e : EntryValue) : Type 0 where
      pub place : ℕ
      pub entry : EntryValue
      pub there : slice_get r.log.entries place ≡ Some entry
      pub same : placeless e ≡ placeless entry
      pub line : ℕ
      pub settles : settling_line r.log entry ≡ Some line
      pub behind : n < line
      pub within : line ≤ r.to

    settles_at : (j : ℕ) (d : EntryValue) → slice_get r.log.entries j ≡ Some d → IsSettled r.log d
        → (l : ℕ) × (settling_line r.log d ≡ Some l) × (l ≤ r.to)
    settles_at j d there settled =
        let reached = reaching d.snapshot r.log.commit_lines r.log.commits part.shorter.whole.rising.commits.counted settled in
        let is : settling_line r.log d ≡ Some (max d.line reached.0) = ap (option_map (max d.line)) reached.1 in
        let lt = settling_within r.log part.shorter.whole d (own_line r.log part.shorter.whole j d there) (max d.line reached.0) is in
        let fits = part.fits in
        (max d.line reached.0, is, omega (arith, lt, fits))

    own_first : (e : EntryValue) (o : Option ℕ) (l : ℕ) → option_map (max e.line) o ≡ Some l → e.line ≤ l
    own_first e None l is = cc
    own_first e (Some m) l is = let same : max e.line m ≡ l = cc in omega (arith, same)

    settled_here : (i : ℕ) (e : EntryValue) → slice_get r.whole.entries i ≡ Some e → IsSettled r.whole e
        → (IsOld before i e → ⊥) → IsSettledHere e
    settled_here i e at settled fresh = elim part.known [
      | inl first ↦ by_same first.1
      | inr begun ↦ by_begun begun.0 begun.1 begun.2
    ]
      where
        in_before : e.line ≤ n → slice_get before.entries i ≡ Some e
        in_before le = first_entry n before.entries part.goes.goes.entries
            (recursion_from_All (λ (x : EntryValue). n < x.line) part.goes.goes.entries part.goes.goes.entries_behind) i e
            (sym (ap (λ (es : List EntryValue). slice_get es i) part.goes.goes.recorded) ∙ at) le

        by_same : r.log ≡ r.whole → IsSettledHere e
        by_same same =
            let there : slice_get r.log.entries i ≡ Some e = ap (λ (t : TraceValue). slice_get t.entries i) same ∙ at in
            let s = settles_at i e there (ap (λ (t : TraceValue). is_settled t e) same ∙ settled) in
            let whole : settling_line r.whole e ≡ Some s.0 = ap (λ (t : TraceValue). settling_line t e) (sym same) ∙ s.1 in
            record {
              place = i;
              entry = e;
              there = there;
              same = refl;
              line = s.0;
              settles = s.1;
              behind = elim (cases_lt n s.0) [
                | inl lt ↦ lt
                | inr le ↦
                    let own = own_first e _ s.0 whole in
                    let here = in_before (omega (arith, own, le)) in
                    absurd (fresh (here, (first_law n before r.whole part.goes i e here).1 (rw whole le)))
              ];
              within = s.2;
            }

        by_begun : (p : ℕ) → p ≤ n + 1 → StandsIn r.knows p before part.begun → IsSettledHere e
        by_begun p within s =
            let z = onward r.knows p before r.whole part.begun r.log part.goes s within part.alike in
            let stays = among_kept z.keep r.whole.entries i e at (kept (cases_lt n e.line)) in
            let copy = copied r.log.entries (filter z.keep r.whole.entries) (sym z.entries) stays.0 e stays.1 in
            let d = copy.0 in
            let there = copy.1 in
            let same : placeless e ≡ placeless d = sym copy.2 in
            let settles = settles_at stays.0 d there (subst (λ (q : ℕ). list_any (λ (c : Commit). leb q c.at) r.log.commits ≡ true)
            (same_snapshot e d same) (reached_there r.knows p r.whole r.log z e.snapshot settled)) in
            record {
              place = stays.0;
              entry = d;
              there = there;
              same = same;
              line = settles.0;
              settles = settles.1;
              behind = elim (cases_lt n settles.0) [
                | inl lt ↦ lt
                | inr le ↦
                    let own = own_first d _ settles.0 settles.1 in
                    let line = same_line e d same in
                    let begun_there = first_entry n part.begun.entries part.shorter.goes.entries
                    (recursion_from_All (λ (x : EntryValue). n < x.line) part.shorter.goes.entries part.shorter.goes.entries_behind)
                    stays.0 d (sym (ap (λ (es : List EntryValue). slice_get es stays.0) part.shorter.goes.recorded) ∙ there)
                    (omega (arith, own, le)) in
                    let begun_settled = (first_law n part.begun r.log part.shorter stays.0 d begun_there).1 (rw settles.1 le) in
                    absurd (fresh (
                      in_before (omega (arith, own, le, line)),
                      reached_back r.knows p before part.begun s e.snapshot (subst (λ (q : ℕ). list_any (λ (c : Commit). leb q c.at)
                          part.begun.commits ≡ true) (sym (same_snapshot e d same)) begun_settled),
                    ))
              ];
              within = settles.2;
            }
          where
            kept : (n < e.line) ⊎ (e.line ≤ n) → (s.keep e || ltb n e.line) ≡ true
            kept (inl lt) = ap (λ (b : Bool). s.keep e || b) (lt-ltb n e.line lt) ∙ or-true (s.keep e)
            kept (inr le) = by_settled (is_settled before e) refl
              where
                by_settled : (b : Bool) → is_settled before e ≡ b → (s.keep e || ltb n e.line) ≡ true
                by_settled true is = absurd (fresh (in_before le, is))
                by_settled false is = ap (λ (b : Bool). b || ltb n e.line) (s.keeps.unsettled i e (in_before le) is).0

  module _ (known : ℕ → Known) where
    record AreTold (n : ℕ) (before : TraceValue) (rs : List Part) : Type 0 where
      pub evidence : List (Option (List StepValue))
      pub told : told_in_all n rs ≡ filter (audited u known) (told_between u evidence (n + 1) (last_of n rs + 1))
      pub made : (i : ℕ) (e : EntryValue) → slice_get u.entries i ≡ Some e → IsSettled u e → (IsOld before i e → ⊥)
          → P (placeless e) (steps_of evidence i)
      pub rises : n ≤ last_of n rs

    all_told : (n : ℕ) (before : TraceValue) (from : ℕ) (rs : List Part) → AreParts u n before from rs → HaveSteps P n rs
        → ((l : ℕ) → l ≤ n → IsBase before (known l).base) → KnowsTheSame before known from
        → ((l : ℕ) → n < l → known l ≡ known_at rs l) → AreTold n before rs
    unfolding settled_by_then
    all_told n before from [] same steps old knows new = record {
      evidence = [];
      told = sym (ap (filter (audited u known)) (none_between u [] (n + 1) (n + 1) (omega arith)));
      made = λ i e at settled fresh. absurd (fresh (
        ap (λ (t : TraceValue). slice_get t.entries i) same ∙ at,
        ap (λ (t : TraceValue). is_settled t e) same ∙ settled,
      ));
      rises = omega arith;
    }
    all_told n before from (r ∷ rs) parts steps old knows new =
        let part = parts.0 in
        let within = part.within in
        let here = λ (l : ℕ) (lt : n < l) (le : l ≤ r.to). new l lt ∙ known_first r rs l le in
        let rest = all_told r.to r.whole r.knows.versions rs parts.1 steps.1 (λ l le. elim (cases_lt n l) [
          | inl lt ↦ still_base before r.whole part.goes (known l).base (subst (λ (k : Known). IsBase before k.base) (sym (here l lt le))
              (base_known u n before from r part))
          | inr low ↦ still_base before r.whole part.goes (known l).base (old l low)
        ]) (knows_on u known n before from r part old knows here) (λ l lt. new l (omega (arith, lt, within)) ∙ known_later r rs l lt) in
        let rises = rest.rises in
        let evidence = joined n before from r part rest.evidence in
        let first : told_in n r ≡ filter (audited u known) (told_between u evidence (n + 1) (r.to + 1)) =
        between_alike (λ (f : Finding). is_asked r.knows r.log f.line) (audited u known) r.log u r.evidence evidence (n + 1) (r.to + 1)
        (λ k low lt. told_at_line u known n before from r part old knows here evidence (joined_own n before from r part rest.evidence) k
        (omega (arith, low)) (omega (arith, lt))) in
        let then : told_in_all r.to rs ≡ filter (audited u known) (told_between u evidence (r.to + 1) (last_of r.to rs + 1)) =
        rest.told ∙ between_alike (audited u known) (audited u known) u u rest.evidence evidence (r.to + 1) (last_of r.to rs + 1)
        (λ k low lt. ap (filter (audited u known)) (later_told n before from r part rest.evidence k (omega (arith, low)))) in
        record {
          evidence = evidence;
          told =
              ap (λ (fs : List Finding). fs ++ told_in_all r.to rs) first
              ∙ ap (λ (fs : List Finding). filter (audited u known) (told_between u evidence (n + 1) (r.to + 1)) ++ fs) then
              ∙ sym (filter-append (audited u known) (told_between u evidence (n + 1) (r.to + 1))
              (told_between u evidence (r.to + 1) (last_of r.to rs + 1)))
              ∙ ap (filter (audited u known)) (between_joined u evidence (n + 1) (r.to + 1) (last_of r.to rs + 1)
              (omega (arith, within)) (omega (arith, rises)));
          made = λ i e at settled fresh. made_at n before from r part rest.evidence steps.0 rest.made i e at settled fresh;
          rises = omega (arith, within, rises);
        }
      where
        made_at : (n : ℕ) (before : TraceValue) (from : ℕ) (r : Part) (part : IsPart u n before from r) (rest : List (Option (List StepValue)))
            → ((j : ℕ) (d : EntryValue) → slice_get r.log.entries j ≡ Some d → (l : ℕ) → settling_line r.log d ≡ Some l
            → n < l → l ≤ r.to → P (placeless d) (steps_of r.evidence j))
            → ((i : ℕ) (e : EntryValue) → slice_get u.entries i ≡ Some e → IsSettled u e → (IsOld r.whole i e → ⊥)
            → P (placeless e) (steps_of rest i))
            → (i : ℕ) (e : EntryValue) → slice_get u.entries i ≡ Some e → IsSettled u e → (IsOld before i e → ⊥)
            → P (placeless e) (steps_of (joined n before from r part rest) i)
        made_at n before from r part rest own others i e at settled fresh = by_line (leb e.line r.to) refl
          where
            old_or_new : (b : Bool) → is_settled r.whole e ≡ b → leb e.line r.to ≡ true
                → P (placeless e) (steps_of (joined n before from r part rest) i)
            old_or_new false is le = subst (P (placeless e)) (sym (joined_rest n before from r part rest i e at (ap (λ (b : Bool). b && is_settled
                r.whole e) le ∙ is))) (others i e at settled (λ old. let no : true ≡ false = sym old.1 ∙ is in absurd cc))
            old_or_new true is le =
                let there = in_whole n before from r part rest i e at (leb-true e.line r.to le) in
                let s = settled_here n before from r part rest i e there is fresh in
                subst (λ (x : EntryValue). P x (steps_of (joined n before from r part rest) i)) (sym s.same)
                (subst (P (placeless s.entry)) (joined_own n before from r part rest i s.place e s.entry there s.there s.same is)
                (own s.place s.entry s.there s.line s.settles s.behind s.within))

            by_line : (b : Bool) → leb e.line r.to ≡ b → P (placeless e) (steps_of (joined n before from r part rest) i)
            by_line true le = old_or_new (is_settled r.whole e) refl le
            by_line false gt = subst (P (placeless e)) (sym (joined_rest n before from r part rest i e at (ap (λ (b : Bool). b && is_settled
                r.whole e) gt))) (others i e at settled (λ old.
                let lt = line_within r.whole u part.onward i e old.0 in
                let high = leb-false e.line r.to gt in absurd (omega (arith, lt, high))))

-- ---- all of it

last_fits : (u : TraceValue) (n : ℕ) (before : TraceValue) (from : ℕ) (rs : List Part) → AreParts u n before from rs
    → next_line before ≤ n + 1 → next_line u ≤ last_of n rs + 1
last_fits u n before from [] same fits = subst (λ (t : TraceValue). next_line t ≤ n + 1) same fits
last_fits u n before from (r ∷ rs) parts fits = last_fits u r.to r.whole r.knows.versions rs parts.1 parts.0.onward.goes.within

all_bases : (u : TraceValue) (n : ℕ) (before : TraceValue) (from : ℕ) (rs : List Part) → AreParts u n before from rs → (l : ℕ)
    → IsBase u (known_at rs l).base
all_bases u n before from [] parts l = inl refl
all_bases u n before from (r ∷ rs) parts l = by_line (all_bases u r.to r.whole r.knows.versions rs parts.1 l) (leb l r.to)
  where
    by_line : IsBase u (known_at rs l).base → (b : Bool) → IsBase u (cond b r.knows (known_at rs l)).base
    by_line rest true = still_base r.whole u parts.0.onward r.knows.base (still_base before r.whole parts.0.goes r.knows.base
        (base_known u n before from r parts.0))
    by_line rest false = rest

none_at_first : (u : TraceValue) (rs : List Part) → AreParts u 0 empty_trace 0 rs → (evidence : List (Option (List StepValue)))
    → told_on u evidence 0 ≡ []
none_at_first u [] same evidence = ap (λ (t : TraceValue). told_on t evidence 0) (sym same)
none_at_first u (r ∷ rs) parts evidence =
    stays_law r.to r.whole u parts.0.onward evidence evidence (λ i lt. refl) 0 (omega arith)
    ∙ stays_law 0 empty_trace r.whole parts.0.goes evidence evidence (λ i lt. refl) 0 (omega arith)

first_bases : (u : TraceValue) (rs : List Part) → AreParts u 0 empty_trace 0 rs → (l : ℕ) → l ≤ 0 → IsBase empty_trace (known_at rs l).base
first_bases u [] parts l le = inl refl
first_bases u (r ∷ rs) parts l le =
    subst (λ (k : Known). IsBase empty_trace k.base) (sym (known_first r rs l (omega (arith, le)))) (base_known u 0 empty_trace 0 r parts.0)

module _ (u : TraceValue) (good : IsOfBytes u) (rs : List Part) (parts : AreParts u 0 empty_trace 0 rs)
    (P : EntryValue → Option (List StepValue) → Type 0) (steps : HaveSteps P 0 rs) where
  told : AreTold u P (known_at rs) 0 empty_trace rs
  told = all_told u P (known_at rs) 0 empty_trace 0 rs parts steps (first_bases u rs parts) (λ i e at unset. cc) (λ l lt. refl)

  last : ℕ
  last = last_of 0 rs

  -- what is left is audited where no version was let go
  left_audited : ((l : ℕ) → (known_at rs l).versions ≡ 0)
      → filter (audited u (known_at rs)) (left_over u told.evidence) ≡ left_over u told.evidence
  unfolding last
  left_audited all = kept_all (audited u (known_at rs)) (left_over u told.evidence) (each_told (λ l. is_asked (known_at rs l) u l ≡ true) is_none
      u told.evidence 0 u.entries (λ j e at. by_settled j e at (is_settled u e) refl))
    where
      itself : Begins last u u
      itself = itself_law last u good (last_fits u 0 empty_trace 0 rs parts (omega arith))

      by_settled : (j : ℕ) (e : EntryValue) → slice_get u.entries j ≡ Some e → (b : Bool) → is_settled u e ≡ b
          → (is_asked (known_at rs e.line) u e.line ≡ true)
          ⊎ (on_line e.line (at_moments is_none (moments u e) (found_on u told.evidence (0 + j) e)) ≡ [])
      by_settled j e at true is = inr (subst (λ (i : ℕ). on_line e.line (at_moments is_none (moments u e) (found_on u told.evidence i e)) ≡ [])
          (let z : j ≡ 0 + j = omega arith in z) (silent u u itself is_none (λ m le. refl) j e at is told.evidence))
      by_settled j e at false is = inl (asked_by_entry (known_at rs e.line) u good.rising.entries j e at
          ∙ ap (λ (b : Bool). b && knows_named (known_at rs e.line).versions u.entries e) (le-leb (known_at rs e.line).base e.snapshot
          (asks_there u e is (known_at rs e.line).base (all_bases u 0 empty_trace 0 rs parts e.line)))
          ∙ ap (λ (v : ℕ). knows_named v u.entries e) (all e.line)
          ∙ knows_all u.entries e)

  pub together_law : (evidence : List (Option (List StepValue)))
      × IsPermutation (told_in_all 0 rs ++ on_audited rs u (left_over u evidence)) (on_audited rs u (findings_of u evidence))
      × ((i : ℕ) (e : EntryValue) → slice_get u.entries i ≡ Some e → IsSettled u e → P (placeless e) (steps_of evidence i))
      × (((l : ℕ) → (known_at rs l).versions ≡ 0) → on_audited rs u (left_over u evidence) ≡ left_over u evidence)
  unfolding last
  together_law = (
    told.evidence,
    subst (λ (fs : List Finding). IsPermutation (fs ++ on_audited rs u (left_over u told.evidence))
        (on_audited rs u (findings_of u told.evidence)))
        (ap (filter (audited u (known_at rs))) (from_one u told.evidence (none_at_first u rs parts told.evidence) (last + 1)) ∙ sym told.told)
        (once_among (λ l. is_asked (known_at rs l) u l) (last + 1) u good (last_fits u 0 empty_trace 0 rs parts (omega arith)) told.evidence),
    λ i e at settled. told.made i e at settled (λ old. let no : None ≡ Some e = old.0 in cc),
    left_audited,
  )

pub own_law : (u : TraceValue) → IsOfBytes u → (rs : List Part) → AreParts u 0 empty_trace 0 rs
    → (evidence : List (Option (List StepValue)))
    × IsPermutation (told_in_all 0 rs ++ on_audited rs u (left_over u evidence)) (on_audited rs u (findings_of u evidence))
    × ((i : ℕ) (e : EntryValue) → slice_get u.entries i ≡ Some e → IsSettled u e → HadSteps rs (placeless e) (steps_of evidence i))
own_law u good rs parts =
    let all = together_law u good rs parts (HadSteps rs) (own_steps 0 rs) in
    (all.0, all.1, all.2)
