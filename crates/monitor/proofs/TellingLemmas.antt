-- What is told at a line, of one entry and of all.
use Rattle.std.proofs.Common.{◌≡◌, ℕ, zero, suc, ◌+◌, ◌-◌, ◌<◌, ◌≤◌, ◌⊎◌, inl, inr, Bool, true, false, cond, List, [], ◌∷◌, ◌++◌, length, get_or, Option, Some, None, refl, sym, ◌∙◌, ap, subst, arith, append_assoc, append-nil, length-append}
use Rattle.std.specs.Prelude.{slice_get, is_none, option_map, Contains}
use Rattle.std.specs.List.{AllZip, flat_map}
use Rattle.std.specs.List.Sorted.{IsStrictlyIncreasing}
use Rattle.std.proofs.lemmas.Bool.{cases_lt, true≢false}
use Rattle.trace_lines.specs.Values.{EntryValue, TraceValue}
use Rattle.token_order.specs.Found.{open_snapshot}
use Rattle.evidence_check.specs.Evidences.{steps_of}
use Rattle.evidence_check.specs.Judged.{judged}
use Rattle.evidence_check.specs.Steps.{StepValue}
use Rattle.findings.specs.Findings.{found_where, found_on, on_line}
use Rattle.findings.specs.declared.finding.Finding.{Finding}
use Rattle.findings.specs.declared.finding.What.TheVariants.{OpenSnapshot}
use Rattle.evidence_check.specs.declared.judged.Judged.{Judged}
use Rattle.evidence_check.specs.declared.judged.Judged.TheVariants.{Supported}
use Rattle.follow_laws.specs.Told.{at_moments, is_at, moments, settling_line, told_from}
use Rattle.monitor.proofs.CommitLemmas.{at_itself}
use Rattle.monitor.specs.Telling.{if_names, told_at_commit, told_at_end, told_at_once, told_of, AreAllowedAt, IsJudgedBy, IsJudgedIf, IsToldOf, TellsOf, TellsOfEach, TellsWhen}

-- ---- an entry of which nothing is told

pub silent_of : (t : TraceValue) (k : ℕ) (steps : Option (List StepValue)) (i : ℕ) (e : EntryValue)
    → is_at k (Some e.line) ≡ false → is_at k (open_snapshot t e) ≡ false → is_at k (settling_line t e) ≡ false
    → told_of t (is_at k) steps i e ≡ []
silent_of t k steps i e own opens settling = rw (own, opens, settling) refl

nothing_open : (o : Option ℕ) → cond (is_none o) (option_map OpenSnapshot o) None ≡ None
nothing_open None = refl
nothing_open (Some l) = refl

-- the end of the log tells of no snapshot that is open
pub silent_left : (t : TraceValue) (steps : Option (List StepValue)) (i : ℕ) (e : EntryValue)
    → is_none (settling_line t e) ≡ false → told_of t is_none steps i e ≡ []
silent_left t steps i e settling = rw (settling, nothing_open (open_snapshot t e)) refl

pub told_left : (t : TraceValue) (steps : Option (List StepValue)) (i : ℕ) (e : EntryValue)
    → is_none (settling_line t e) ≡ true
    → told_of t is_none steps i e ≡ on_line e.line (told_at_end (found_where t (judged t e steps) i e))
told_left t steps i e settling = rw (settling, nothing_open (open_snapshot t e)) refl

-- ---- an entry at its own line

pub told_settled : (t : TraceValue) (steps : Option (List StepValue)) (i : ℕ) (e : EntryValue)
    → is_at e.line (open_snapshot t e) ≡ false → is_at e.line (settling_line t e) ≡ true
    → told_of t (is_at e.line) steps i e ≡ on_line e.line (told_at_once (found_where t (judged t e steps) i e))
told_settled t steps i e opens settling = rw (at_itself e.line, opens, settling) refl

pub told_unsettled : (t : TraceValue) (steps : Option (List StepValue)) (i : ℕ) (e : EntryValue)
    → is_at e.line (open_snapshot t e) ≡ false → is_at e.line (settling_line t e) ≡ false
    → told_of t (is_at e.line) steps i e ≡ on_line e.line (told_at_once (found_where t Supported i e))
told_unsettled t steps i e opens settling = rw (at_itself e.line, opens, settling) refl

-- ---- and at the line of a commit

names_at : (k : ℕ) (o : Option ℕ) → cond (is_at k o) (option_map OpenSnapshot o) None ≡ if_names k (option_map OpenSnapshot o)
names_at k None = refl
names_at k (Some l) = refl

pub told_settling : (t : TraceValue) (k : ℕ) (steps : Option (List StepValue)) (i : ℕ) (e : EntryValue)
    → is_at k (Some e.line) ≡ false → is_at k (settling_line t e) ≡ true
    → told_of t (is_at k) steps i e ≡ on_line e.line (told_at_commit (found_where t (judged t e steps) i e) k)
told_settling t k steps i e own settling = rw (own, settling, names_at k (open_snapshot t e)) refl

pub told_opening : (t : TraceValue) (k : ℕ) (steps : Option (List StepValue)) (i : ℕ) (e : EntryValue)
    → is_at k (Some e.line) ≡ false → is_at k (settling_line t e) ≡ false
    → told_of t (is_at k) steps i e ≡ on_line e.line (told_at_commit (found_where t Supported i e) k)
told_opening t k steps i e own settling = rw (own, settling, names_at k (open_snapshot t e)) refl

-- nothing is told of it, whatever its steps are
abbrev pub IsSilent : TraceValue → (Option ℕ → Bool) → ℕ → EntryValue → Type 0
IsSilent t test i e = ((steps : Option (List StepValue)) → told_of t test steps i e ≡ [])
    × (test (settling_line t e) ≡ false)

-- ---- all entries, of which some are told

-- numbers that rise, from one on
abbrev pub AreFrom : ℕ → List ℕ → Type 0
AreFrom i [] = Unit {0}
AreFrom i (d ∷ ds) = (i ≤ d) × AreFrom (suc d) ds

from_contains : (i : ℕ) (ds : List ℕ) → AreFrom i ds → (j : ℕ) → Contains ds j → i ≤ j
from_contains i [] rise j (n, lt, is) = absurd (omega (arith, lt))
from_contains i (d ∷ ds) rise j (zero, lt, is) = let first = rise.0 in omega (arith, first, is)
from_contains i (d ∷ ds) rise j (suc n, lt, is) =
    let first = rise.0 in
    let le = from_contains (suc d) ds rise.1 j (n, omega (arith, lt), is) in
    omega (arith, first, le)

contains_of : (d : ℕ) (ds : List ℕ) (j : ℕ) → Contains (d ∷ ds) j → (j ≡ d) ⊎ Contains ds j
contains_of d ds j (zero, lt, is) = inl (sym is)
contains_of d ds j (suc n, lt, is) = inr (n, omega (arith, lt), is)

-- numbers that strictly increase do so
pub from_rising : (i : ℕ) (ds : List ℕ) → i ≤ get_or ds 0 i → IsStrictlyIncreasing ds → AreFrom i ds
from_rising i [] le rising = tt
from_rising i (d ∷ ds) le rising = (
  le,
  from_rising (suc d) ds (next ds rising) (λ k lt.
      let step : suc k + 1 ≡ suc (k + 1) = omega arith in
      subst (λ (n : ℕ). get_or (d ∷ ds) (suc k) 0 < get_or (d ∷ ds) n 0) step (rising (suc k) (omega (arith, lt)))),
)
  where
    next : (ds : List ℕ) → IsStrictlyIncreasing (d ∷ ds) → suc d ≤ get_or ds 0 (suc d)
    next [] rising = omega arith
    next (x ∷ xs) rising = let up = rising 0 (omega arith) in omega (arith, up)

module _ (Allows : TraceValue → EntryValue → Option (List StepValue) → Type 0) where
  abbrev PartAt : TraceValue → (Option ℕ → Bool) → ℕ → List Finding → Type 0
  PartAt t test i told = (e : EntryValue) × (slice_get t.entries i ≡ Some e) × IsToldOf Allows t test i e told

  -- steps for each of some entries, where they are settled at such moments
  abbrev AllowedOf : TraceValue → (Option ℕ → Bool) → List EntryValue → List (Option (List StepValue)) → Type 0
  AllowedOf t test [] [] = Unit {0}
  AllowedOf t test (e ∷ es) (o ∷ os) = (test (settling_line t e) ≡ true → Allows t e o) × AllowedOf t test es os
  AllowedOf t test _ _ = ⊥

  allowed_of_each : (t : TraceValue) (test : Option ℕ → Bool) (es : List EntryValue) (os : List (Option (List StepValue))) → AllowedOf t test es os
      → (i : ℕ) (e : EntryValue) → slice_get es i ≡ Some e → test (settling_line t e) ≡ true → Allows t e (steps_of os i)
  allowed_of_each t test [] os made i e at settles = absurd cc
  allowed_of_each t test (x ∷ es) [] made i e at settles = absurd made
  allowed_of_each t test (x ∷ es) (o ∷ os) made zero e at settles =
      let same : x ≡ e = cc in
      subst (λ (y : EntryValue). Allows t y o) same (made.0 (subst (λ (y : EntryValue). test (settling_line t y) ≡ true) (sym same) settles))
  allowed_of_each t test (x ∷ es) (o ∷ os) made (suc i) e at settles = allowed_of_each t test es os made.1 i e at settles

  steps_at : (before after : List (Option (List StepValue))) (o : Option (List StepValue)) (i : ℕ) → length before ≡ i
      → steps_of (before ++ o ∷ after) i ≡ o
  steps_at [] after o zero e = refl
  steps_at [] after o (suc i) e = absurd (omega (arith, e))
  steps_at (x ∷ before) after o zero e = absurd (omega (arith, e))
  steps_at (x ∷ before) after o (suc i) e = steps_at before after o i (omega (arith, e))

  -- Of the entries from entry i on those of some numbers are told, and the others are silent: with some steps that is what
  -- is told of all.
  gathered : (t : TraceValue) (test : Option ℕ → Bool) (i : ℕ) (before : List (Option (List StepValue))) (es : List EntryValue) (ds : List ℕ)
      (parts : List (List Finding)) → length before ≡ i
      → ((j : ℕ) → slice_get t.entries (i + j) ≡ slice_get es j)
      → AreFrom i ds → AllZip (PartAt t test) ds parts
      → ((j : ℕ) (e : EntryValue) → i ≤ j → slice_get t.entries j ≡ Some e → (Contains ds j → ⊥) → IsSilent t test j e)
      → (given : List (Option (List StepValue))) × AllowedOf t test es given
      × (flat_map (λ part. part) parts ≡ told_from test t (before ++ given) i es)
  gathered t test i before [] [] [] count at rise each silent = ([], tt, refl)
  gathered t test i before [] [] (p ∷ parts) count at rise each silent = absurd each
  gathered t test i before [] (d ∷ ds) [] count at rise each silent = absurd each
  gathered t test i before [] (d ∷ ds) (p ∷ parts) count at rise each silent =
      let first = rise.0 in
      let same : i + (d - i) ≡ d = omega (arith, first) in
      let there = sym (ap (slice_get t.entries) same) in
      let gone : slice_get t.entries d ≡ None = there ∙ at (d - i) in
      let is = each.0.1 in
      absurd cc
  gathered t test i before (e ∷ es) ds parts count at rise each silent =
      by_numbers (λ o. gathered t test (suc i) (before ++ o ∷ []) es) ds parts rise each silent
    where
      Rest : Option (List StepValue) → Type 0
      Rest o = (xs : List ℕ) (others : List (List Finding)) → length (before ++ o ∷ []) ≡ suc i
          → ((j : ℕ) → slice_get t.entries (suc i + j) ≡ slice_get es j)
          → AreFrom (suc i) xs → AllZip (PartAt t test) xs others
          → ((j : ℕ) (x : EntryValue) → suc i ≤ j → slice_get t.entries j ≡ Some x → (Contains xs j → ⊥) → IsSilent t test j x)
          → (given : List (Option (List StepValue))) × AllowedOf t test es given
          × (flat_map (λ part. part) others ≡ told_from test t ((before ++ o ∷ []) ++ given) (suc i) es)

      here : slice_get t.entries i ≡ Some e
      here = ap (slice_get t.entries) (let z : i ≡ i + 0 = omega arith in z) ∙ at 0

      rest_at : (j : ℕ) → slice_get t.entries (suc i + j) ≡ slice_get es j
      rest_at j = ap (slice_get t.entries) (let z : suc i + j ≡ i + suc j = omega arith in z) ∙ at (suc j)

      joined : (o : Option (List StepValue)) (given : List (Option (List StepValue))) → (before ++ o ∷ []) ++ given ≡ before ++ o ∷ given
      joined o given = append_assoc before (o ∷ []) given

      longer : (o : Option (List StepValue)) → length (before ++ o ∷ []) ≡ suc i
      longer o = let n = length-append before (o ∷ []) in omega (arith, n, count)

      with_part : (o : Option (List StepValue)) (part : List Finding) (others : List (List Finding)) → part ≡ told_of t test o i e
          → (test (settling_line t e) ≡ true → Allows t e o)
          → ((given : List (Option (List StepValue))) × AllowedOf t test es given
          × (flat_map (λ part. part) others ≡ told_from test t ((before ++ o ∷ []) ++ given) (suc i) es))
          → (given : List (Option (List StepValue))) × AllowedOf t test (e ∷ es) given
          × (part ++ flat_map (λ part. part) others ≡ told_from test t (before ++ given) i (e ∷ es))
      with_part o part others is made (given, each_made, rest) = (
        o ∷ given,
        (made, each_made),
        let steps = steps_at before given o i count in
            let own : part ≡ on_line e.line (at_moments test (moments t e) (found_on t (before ++ o ∷ given) i e)) =
            is ∙ ap (λ (s : Option (List StepValue)). told_of t test s i e) (sym steps) in
            let next : suc i ≡ i + 1 = omega arith in
            let behind : flat_map (λ part. part) others ≡ told_from test t (before ++ o ∷ given) (i + 1) es =
            rest ∙ ap (λ (os : List (Option (List StepValue))). told_from test t os (suc i) es) (joined o given)
            ∙ ap (λ (n : ℕ). told_from test t (before ++ o ∷ given) n es) next in
            ap (λ (fs : List Finding). fs ++ flat_map (λ part. part) others) own
            ∙ ap (λ (fs : List Finding). on_line e.line (at_moments test (moments t e) (found_on t (before ++ o ∷ given) i e)) ++ fs) behind,
      )

      passed_over : Rest None → (ds : List ℕ) (parts : List (List Finding)) → AreFrom (suc i) ds → AllZip (PartAt t test) ds parts
          → IsSilent t test i e
          → ((j : ℕ) (x : EntryValue) → suc i ≤ j → slice_get t.entries j ≡ Some x → (Contains ds j → ⊥) → IsSilent t test j x)
          → (given : List (Option (List StepValue))) × AllowedOf t test (e ∷ es) given
          × (flat_map (λ part. part) parts ≡ told_from test t (before ++ given) i (e ∷ es))
      passed_over rest ds parts rise each quiet silent =
          with_part None [] parts (sym (quiet.0 None)) (λ settles. absurd (true≢false (sym settles ∙ quiet.1)))
          (rest ds parts (longer None) rest_at rise each silent)

      by_numbers : ((o : Option (List StepValue)) → Rest o) → (ds : List ℕ) (parts : List (List Finding)) → AreFrom i ds → AllZip (PartAt t test) ds parts
          → ((j : ℕ) (x : EntryValue) → i ≤ j → slice_get t.entries j ≡ Some x → (Contains ds j → ⊥) → IsSilent t test j x)
          → (given : List (Option (List StepValue))) × AllowedOf t test (e ∷ es) given
          × (flat_map (λ part. part) parts ≡ told_from test t (before ++ given) i (e ∷ es))
      by_numbers rest [] [] rise each silent =
          passed_over (rest None) [] [] tt each (silent i e (omega arith) here (λ (n, lt, is). omega (arith, lt)))
          (λ j x le. silent j x (omega (arith, le)))
      by_numbers rest [] (p ∷ parts) rise each silent = absurd each
      by_numbers rest (d ∷ ds) [] rise each silent = absurd each
      by_numbers rest (d ∷ ds) (p ∷ parts) rise each silent = elim (cases_lt i d) [
        | inl lt ↦ passed_over (rest None) (d ∷ ds) (p ∷ parts) (omega (arith, lt), rise.1) each
            (silent i e (omega arith) here (λ there. let le = from_contains d (d ∷ ds) (omega arith, rise.1) i there in omega (arith, lt, le)))
            (λ j x le. silent j x (omega (arith, le)))
        | inr ge ↦
            let first = rise.0 in
            let same : d ≡ i = omega (arith, ge, first) in
            let x = each.0.0 in
            let there : slice_get t.entries i ≡ Some x = ap (slice_get t.entries) (sym same) ∙ each.0.1 in
            let alike : x ≡ e = let h = sym there ∙ here in cc in
            let part : IsToldOf Allows t test i e p = subst (λ (y : EntryValue). IsToldOf Allows t test i y p) alike (subst (λ (n : ℕ). IsToldOf Allows t test n x p) same each.0.2) in
            with_part part.0 p parts part.2 part.1
            (rest part.0 ds parts (longer part.0) rest_at
            (subst (λ (n : ℕ). AreFrom (suc n) ds) same rise.1) each.1
            (λ j y le is apart. silent j y (omega (arith, le)) is
            (λ there. elim (contains_of d ds j there) [
              | inl head ↦ omega (arith, head, same, le)
              | inr rest ↦ apart rest
            ])))
      ]

  -- what is told at some moments, where of the entries with these numbers each part is told, and the others are silent
  pub told_sparse : (t : TraceValue) (test : Option ℕ → Bool) (ds : List ℕ) (parts : List (List Finding)) → AreFrom 0 ds
      → AllZip (PartAt t test) ds parts
      → ((j : ℕ) (e : EntryValue) → slice_get t.entries j ≡ Some e → (Contains ds j → ⊥) → IsSilent t test j e)
      → (given : List (Option (List StepValue))) × AreAllowedAt Allows t test given
      × (flat_map (λ part. part) parts ≡ told_from test t given 0 t.entries)
  told_sparse t test ds parts rise each silent =
      let all = gathered t test 0 [] t.entries ds parts refl (λ j. ap (slice_get t.entries) (let z : 0 + j ≡ j = omega arith in z)) rise each (λ j e le. silent j e) in
      (all.0, allowed_of_each t test t.entries all.0 all.1, all.2)

  -- of one entry alone
  pub told_one : (t : TraceValue) (test : Option ℕ → Bool) (i : ℕ) (e : EntryValue) (old new : List Finding) → slice_get t.entries i ≡ Some e
      → TellsOf Allows t test i e old new
      → ((j : ℕ) (x : EntryValue) → slice_get t.entries j ≡ Some x → (j ≡ i → ⊥) → IsSilent t test j x)
      → TellsWhen Allows t test old new
  told_one t test i e old new at (told, is, more) silent =
      let all = told_sparse t test (i ∷ []) (told ∷ []) (omega arith, tt) ((e, at, is), tt)
      (λ j x there apart. silent j x there (λ same. apart (0, omega arith, sym same))) in
      (all.0, all.1, more ∙ ap (λ (fs : List Finding). old ++ fs) (sym (append-nil told) ∙ all.2))

  -- of each of these entries
  pub told_each : (t : TraceValue) (test : Option ℕ → Bool) (ds : List ℕ) (old new : List Finding) → AreFrom 0 ds
      → TellsOfEach Allows t test ds old new
      → ((j : ℕ) (x : EntryValue) → slice_get t.entries j ≡ Some x → (Contains ds j → ⊥) → IsSilent t test j x)
      → TellsWhen Allows t test old new
  told_each t test ds old new rise (parts, each, more) silent =
      let all = told_sparse t test ds parts rise each silent in
      (all.0, all.1, more ∙ ap (λ (fs : List Finding). old ++ fs) all.2)

  -- ---- as it is computed

  -- an entry at its own line
  pub tells_once : (t : TraceValue) (i : ℕ) (e : EntryValue) (now : Bool) (j : Judged) (old new : List Finding)
      → IsJudgedIf Allows now t e j → is_at e.line (open_snapshot t e) ≡ false
      → (now ≡ true → settling_line t e ≡ Some e.line) → (now ≡ false → is_at e.line (settling_line t e) ≡ false)
      → new ≡ old ++ on_line e.line (told_at_once (found_where t j i e)) → TellsOf Allows t (is_at e.line) i e old new
  tells_once t i e true j old new (steps, allowed, is) opens settles unsettled more = (
    on_line e.line (told_at_once (found_where t j i e)),
    (
      steps,
      λ here. allowed,
      ap (λ (k : Judged). on_line e.line (told_at_once (found_where t k i e))) is
          ∙ sym (told_settled t steps i e opens (ap (is_at e.line) (settles refl) ∙ at_itself e.line)),
    ),
    more,
  )
  tells_once t i e false j old new is opens settles unsettled more = (
    on_line e.line (told_at_once (found_where t j i e)),
    (
      None,
      λ here. absurd (true≢false (sym here ∙ unsettled refl)),
      ap (λ (k : Judged). on_line e.line (told_at_once (found_where t k i e))) is
          ∙ sym (told_unsettled t None i e opens (unsettled refl)),
    ),
    more,
  )

  -- and at the line of a commit behind it
  pub tells_there : (t : TraceValue) (k i : ℕ) (e : EntryValue) (now : Bool) (j : Judged) (old new : List Finding)
      → IsJudgedIf Allows now t e j → is_at k (Some e.line) ≡ false
      → (now ≡ true → settling_line t e ≡ Some k) → (now ≡ false → is_at k (settling_line t e) ≡ false)
      → new ≡ old ++ on_line e.line (told_at_commit (found_where t j i e) k) → TellsOf Allows t (is_at k) i e old new
  tells_there t k i e true j old new (steps, allowed, is) own settles unsettled more = (
    on_line e.line (told_at_commit (found_where t j i e) k),
    (
      steps,
      λ here. allowed,
      ap (λ (x : Judged). on_line e.line (told_at_commit (found_where t x i e) k)) is
          ∙ sym (told_settling t k steps i e own (ap (is_at k) (settles refl) ∙ at_itself k)),
    ),
    more,
  )
  tells_there t k i e false j old new is own settles unsettled more = (
    on_line e.line (told_at_commit (found_where t j i e) k),
    (
      None,
      λ here. absurd (true≢false (sym here ∙ unsettled refl)),
      ap (λ (x : Judged). on_line e.line (told_at_commit (found_where t x i e) k)) is
          ∙ sym (told_opening t k None i e own (unsettled refl)),
    ),
    more,
  )

  -- and at the end of the log
  pub tells_left : (t : TraceValue) (i : ℕ) (e : EntryValue) (j : Judged) (old new : List Finding)
      → IsJudgedBy Allows t e j → settling_line t e ≡ None
      → new ≡ old ++ on_line e.line (told_at_end (found_where t j i e)) → TellsOf Allows t is_none i e old new
  tells_left t i e j old new (steps, allowed, is) unsettled more = (
    on_line e.line (told_at_end (found_where t j i e)),
    (
      steps,
      λ here. allowed,
      ap (λ (x : Judged). on_line e.line (told_at_end (found_where t x i e))) is
          ∙ sym (told_left t steps i e (ap is_none unsettled)),
    ),
    more,
  )

  -- one entry more
  pub tells_more : (t : TraceValue) (test : Option ℕ → Bool) (done : List ℕ) (i : ℕ) (e : EntryValue) (old mid new : List Finding)
      → TellsOfEach Allows t test done old mid → slice_get t.entries i ≡ Some e → TellsOf Allows t test i e mid new
      → TellsOfEach Allows t test (done ++ i ∷ []) old new
  tells_more t test done i e old mid new (parts, each, is) at (told, one, more) = (
    parts ++ told ∷ [],
    zip_more done parts each,
    more ∙ ap (λ (fs : List Finding). fs ++ told) is ∙ append_assoc old (flat_map (λ part. part) parts) told
        ∙ ap (λ (fs : List Finding). old ++ fs) (sym (flat_more parts)),
  )
    where
      zip_more : (ds : List ℕ) (ps : List (List Finding)) → AllZip (PartAt t test) ds ps
          → AllZip (PartAt t test) (ds ++ i ∷ []) (ps ++ told ∷ [])
      zip_more [] [] each = ((e, at, one), tt)
      zip_more [] (p ∷ ps) each = absurd each
      zip_more (d ∷ ds) [] each = absurd each
      zip_more (d ∷ ds) (p ∷ ps) each = (each.0, zip_more ds ps each.1)

      flat_more : (ps : List (List Finding)) → flat_map (λ part. part) (ps ++ told ∷ []) ≡ flat_map (λ part. part) ps ++ told
      flat_more [] = append-nil told
      flat_more (p ∷ ps) = ap (λ (fs : List Finding). p ++ fs) (flat_more ps) ∙ sym (append_assoc p (flat_map (λ part. part) ps) told)
