-- What all runs of a log tell together.
use Rattle.std.proofs.Common.{◌≡◌, ℕ, ◌+◌, ◌<◌, ◌≤◌, ◌⊎◌, not, inl, inr, true, List, [], ◌∷◌, ◌++◌, Option, Some, Ok, refl, sym, ◌∙◌, ap, subst, arith}
use Rattle.std.specs.Prelude.{All, is_none, slice_get, IsPermutation}
use Rattle.std.specs.List.{AllByRecursion}
use Rattle.std.proofs.lemmas.Bool.{cases_lt}
use Rattle.std.proofs.lemmas.List.Elements.{All-from_recursion}
use Rattle.std.proofs.lemmas.List.Sorted.{All-permutation}
use Rattle.std.proofs.lemmas.Option.{get_or_from_slice_get, slice_get_within}
use Rattle.trace_lines.specs.Values.{EntryValue, empty_trace, next_line}
use Rattle.evidence_check.specs.Evidences.{steps_of}
use Rattle.evidence_check.specs.Steps.{StepValue}
use Rattle.findings.specs.EachEntry.{IsRightAndFreshEntry}
use Rattle.findings.specs.Findings.{findings_of, found_on, on_line}
use Rattle.findings.specs.declared.finding.Finding.{Finding}
use Rattle.findings.proofs.EachEntryLemmas.{speaks_of_each}
use Rattle.windows.specs.Growth.{GoesOn, IsSettled}
use Rattle.windows.proofs.GrownLemmas.{behind}
use Rattle.follow_laws.specs.Begun.{Begins, IsOfBytes}
use Rattle.follow_laws.specs.Told.{at_moments, left_over, moments}
use Rattle.follow_laws.proofs.FirstLemmas.{itself_law}
use Rattle.carry_laws.specs.Asked.{is_asked, is_audited, knows_named}
use Rattle.carry_laws.specs.declared.known.Known.{Known}
use Rattle.carry_laws.specs.Carried.{placeless}
use Rattle.carry_laws.specs.Together as together
use Rattle.carry_laws.proofs.AskLemmas.{filter_alike, filter_all, pass_where}
use Rattle.carry_laws.proofs.SilentLemmas.{silent}
use Rattle.carry_laws.proofs.TogetherLemmas.{each_told, together_law}
use Rattle.runs.specs.Kept.{KeptValue, nothing_kept}
use Rattle.runs.proofs.SoundLemmas.{of_bytes}
use Rattle.audit.specs.Audit.{verdict_of}
use Rattle.audit.specs.declared.plain.Verdict.TheVariants.{Clean}
use Rattle.run_laws.specs.Runs.{AreRuns, IsMadeIn, Ran, known_at, on_audited, told_by, told_in, whole_log}
use Rattle.run_laws.proofs.PartsLemmas.{AreBegun, AreMade, IsLog, begins_all, nothing_first, parts_of}

are_begun : (rs : List Ran) → AreRuns rs → AreBegun nothing_kept 0 rs
are_begun [] runs = tt
are_begun (r ∷ rs) runs = (
  record {
    lines = ap (λ (k : KeptValue). k.lines) runs.0;
    log = subst IsLog (sym runs.0) nothing_first;
    known = inl (runs.1.0, ap (λ (k : KeptValue). k.log) runs.0);
    steady = λ i e at unset. ap (λ (c : Known). knows_named c.versions nothing_kept.log.entries e) runs.1.0;
  },
  runs.1.1,
)

module _ (rs : List Ran) (runs : AreRuns rs) (w : KeptValue) (says : whole_log rs ≡ Ok w) where
  made : AreMade nothing_kept w 0 rs
  made = parts_of nothing_kept w 0 rs nothing_first (are_begun rs runs) says

  good : IsOfBytes w.log
  good = of_bytes w.log (begins_all nothing_kept w rs nothing_first says).0

  same_audited : (found : List Finding) → together.on_audited made.parts w.log found ≡ on_audited rs w.log found
  same_audited found = each found
    where
      each : (fs : List Finding) → together.on_audited made.parts w.log fs ≡ on_audited rs w.log fs
      each fs = filter_alike (λ (f : Finding). is_asked (together.known_at made.parts f.line) w.log f.line)
          (λ (f : Finding). is_asked (known_at rs f.line) w.log f.line) fs (alike fs)
        where
          alike : (fs : List Finding) → AllByRecursion (λ (f : Finding). is_asked (together.known_at made.parts f.line) w.log f.line
              ≡ is_asked (known_at rs f.line) w.log f.line) fs
          alike [] = tt
          alike (f ∷ fs) = (ap (λ (k : Known). is_asked k w.log f.line) (made.knows f.line), alike fs)

  pub told_together_law : (evidence : List (Option (List StepValue)))
      × IsPermutation (told_by rs ++ on_audited rs w.log (left_over w.log evidence))
      (on_audited rs w.log (findings_of w.log evidence))
      × ((i : ℕ) (e : EntryValue) → slice_get w.log.entries i ≡ Some e → IsSettled w.log e
      → IsMadeIn rs (placeless e) (steps_of evidence i))
  told_together_law =
      let all = together_law w.log good made.parts made.are (IsMadeIn rs) made.steps in
      let found = findings_of w.log all.0 in
      let left = left_over w.log all.0 in (
        all.0,
        subst (λ (fs : List Finding). IsPermutation (told_by rs ++ on_audited rs w.log left) fs) (same_audited found)
            (subst (λ (fs : List Finding). IsPermutation (told_by rs ++ fs) (together.on_audited made.parts w.log found))
            (same_audited left)
            (subst (λ (fs : List Finding). IsPermutation (fs ++ together.on_audited made.parts w.log left)
            (together.on_audited made.parts w.log found)) made.told all.1)),
        all.2,
      )

  -- ---- where nothing was told, and each run was whole

  module _ (clean : AllByRecursion (λ (r : Ran). (r.end.verdict ≡ Clean) × (r.end.whole ≡ true)) rs) where
    none_told : told_by rs ≡ []
    none_told = each rs clean
      where
        nothing : (fs : List Finding) → Clean ≡ verdict_of fs → fs ≡ []
        nothing [] is = refl
        nothing (f ∷ fs) is = cc

        each : (rs : List Ran) → AllByRecursion (λ (r : Ran). (r.end.verdict ≡ Clean) × (r.end.whole ≡ true)) rs → told_by rs ≡ []
        each [] h = refl
        each (r ∷ rs) h =
            ap (λ (fs : List Finding). fs ++ told_by rs) (nothing (told_in r) (sym h.0.0 ∙ r.ends.verdict)) ∙ each rs h.1

    all_whole : AllByRecursion (λ (r : Ran). r.end.whole ≡ true) rs
    all_whole = each rs clean
      where
        each : (rs : List Ran) → AllByRecursion (λ (r : Ran). (r.end.verdict ≡ Clean) × (r.end.whole ≡ true)) rs
            → AllByRecursion (λ (r : Ran). r.end.whole ≡ true) rs
        each [] h = tt
        each (r ∷ rs) h = (h.0.1, each rs h.1)

    goes : GoesOn 0 empty_trace w.log
    goes = (begins_all nothing_kept w rs nothing_first says).1

    asks : (i : ℕ) (e : EntryValue) → slice_get w.log.entries i ≡ Some e
        → is_audited (known_at rs e.line) w.log.entries e ≡ true
    asks i e at = made.asks all_whole i e at (behind (λ (x : EntryValue). 0 < x.line) [] goes.entries goes.entries_behind i e
        (omega arith) (sym (ap (λ (es : List EntryValue). slice_get es i) goes.recorded) ∙ at))

    -- no line is one of an entry that was not audited
    all_asked : (line : ℕ) → is_asked (known_at rs line) w.log line ≡ true
    all_asked line = pass_where (is_audited (known_at rs line) w.log.entries) line w.log.entries (λ i e at on.
        subst (λ (l : ℕ). is_audited (known_at rs l) w.log.entries e ≡ true) on (asks i e at))

    all_audited : (fs : List Finding) → on_audited rs w.log fs ≡ fs
    all_audited = filter_all (λ (f : Finding). is_asked (known_at rs f.line) w.log f.line) (λ f. all_asked f.line)

    module _ (n : ℕ) (settled : All (λ e. e.line ≤ n → IsSettled w.log e) w.log.entries) where
      abbrev evidence : List (Option (List StepValue))
      evidence = told_together_law.0

      -- what is left is on none of these entries
      left_beyond : AllByRecursion (λ (f : Finding). n < f.line) (left_over w.log evidence)
      left_beyond = each_told (λ l. n < l) is_none w.log evidence 0 w.log.entries (λ i e at. by_line i e at (cases_lt n e.line))
        where
          itself : Begins (next_line w.log) w.log w.log
          itself = itself_law (next_line w.log) w.log good (omega arith)

          by_line : (i : ℕ) (e : EntryValue) → slice_get w.log.entries i ≡ Some e → (n < e.line) ⊎ (e.line ≤ n)
              → (n < e.line) ⊎ (on_line e.line (at_moments is_none (moments w.log e) (found_on w.log evidence (0 + i) e)) ≡ [])
          by_line i e at (inl lt) = inl lt
          by_line i e at (inr le) = inr (subst (λ (m : ℕ). on_line e.line (at_moments is_none (moments w.log e)
              (found_on w.log evidence m e)) ≡ []) (let z : i ≡ 0 + i = omega arith in z)
              (silent w.log w.log itself is_none (λ m low. refl) i e at (all_there i e at le) evidence))
            where
              all_there : (i : ℕ) (e : EntryValue) → slice_get w.log.entries i ≡ Some e → e.line ≤ n → IsSettled w.log e
              all_there i e at le =
                  let within = slice_get_within w.log.entries i e at in
                  subst (λ (x : EntryValue). x.line ≤ n → IsSettled w.log x) (get_or_from_slice_get w.log.entries i e e at)
                  (settled i e within) le

      pub clean_together_law : All (λ e. e.line ≤ n → IsRightAndFreshEntry w.log e) w.log.entries
      clean_together_law =
          let all = told_together_law.1 in
          let found = findings_of w.log evidence in
          let left = left_over w.log evidence in
          let same : IsPermutation left found =
          subst (λ (fs : List Finding). IsPermutation left fs) (all_audited found)
          (subst (λ (fs : List Finding). IsPermutation fs (on_audited rs w.log found)) (all_audited left)
          (subst (λ (fs : List Finding). IsPermutation (fs ++ on_audited rs w.log left) (on_audited rs w.log found)) none_told all)) in
          (speaks_of_each w.log good.formed evidence).before n (All-permutation (λ (f : Finding). n < f.line)
          (left_over w.log evidence) found same (All-from_recursion (λ (f : Finding). n < f.line) (left_over w.log evidence) left_beyond))
