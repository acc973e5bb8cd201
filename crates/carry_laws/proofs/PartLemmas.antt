-- What a run tells is what the whole log lets tell at its lines, on entries that it audits.
use Rattle.std.proofs.Common.{◌≡◌, ℕ, zero, suc, ◌+◌, ◌<◌, inl, inr, Bool, true, false, cond, List, [], ◌∷◌, map, Option, Some, None, refl, sym, ◌∙◌, ap, arith}
use Rattle.std.specs.Prelude.{filter, slice_get, option_map}
use Rattle.std.specs.List.{AllByRecursion}
use Rattle.std.proofs.lemmas.Option.{slice_get-map, slice_get_within}
use Rattle.marks.proofs.PlacedLemmas.{slice_get-front}
use Rattle.trace_lines.specs.Values.{EntryValue, TraceValue}
use Rattle.evidence_check.specs.Evidences.{steps_of}
use Rattle.evidence_check.specs.Steps.{StepValue}
use Rattle.windows.specs.Growth.{IsSettled, is_settled}
use Rattle.follow_laws.specs.Begun.{Begins}
use Rattle.follow_laws.specs.Told.{is_at, settling_line, told_on}
use Rattle.follow_laws.proofs.OnceLemmas.{own_line}
use Rattle.follow_laws.proofs.ToldLemmas.{settled_at}
use Rattle.carry_laws.specs.Asked.{asked}
use Rattle.carry_laws.specs.Carried.{asked_on, placeless}
use Rattle.carry_laws.specs.Together.{IsPart, Part}
use Rattle.carry_laws.proofs.AlikeLemmas.{told_alike_law}
use Rattle.carry_laws.proofs.AskLemmas.{one_by_line}
use Rattle.carry_laws.proofs.HandedLemmas.{reached_back}
use Rattle.carry_laws.proofs.OnwardLemmas.{onward}
use Rattle.carry_laws.proofs.StepLemmas.{chosen, chosen_there, steps_on, steps_there, told_by_steps}

-- an entry of a log so far stands in the longer one
pub in_longer : {k : ℕ} (t u : TraceValue) → Begins k t u → (i : ℕ) (e : EntryValue) → slice_get t.entries i ≡ Some e
    → slice_get u.entries i ≡ Some e
in_longer t u b i e at =
    ap (λ (es : List EntryValue). slice_get es i) b.goes.recorded
    ∙ slice_get-front t.entries b.goes.entries i (slice_get_within t.entries i e at) ∙ at

-- and up to its last line
pub line_within : {k : ℕ} (t u : TraceValue) → Begins k t u → (i : ℕ) (e : EntryValue) → slice_get t.entries i ≡ Some e
    → e.line < k + 1
line_within t u b i e at =
    let own = own_line t b.first i e at in
    let within = b.goes.within in
    omega (arith, own, within)

pub lines_within : {k : ℕ} (t u : TraceValue) → Begins k t u → AllByRecursion (λ (e : EntryValue). e.line < k + 1) t.entries
lines_within {k} t u b = each t.entries (λ i e at. line_within t u b i e at)
  where
    each : (es : List EntryValue) → ((i : ℕ) (e : EntryValue) → slice_get es i ≡ Some e → e.line < k + 1)
        → AllByRecursion (λ (e : EntryValue). e.line < k + 1) es
    each [] h = tt
    each (x ∷ es) h = (h 0 x refl, each es (λ i e at. h (suc i) e at))

kept_stands : (keep : EntryValue → Bool) (xs : List EntryValue) (j : ℕ) (e : EntryValue) → slice_get (filter keep xs) j ≡ Some e
    → (i : ℕ) × (slice_get xs i ≡ Some e)
kept_stands keep [] j e at = absurd (let no : None ≡ Some e = at in cc)
kept_stands keep (x ∷ xs) j e at = by_test (kept_stands keep xs) (keep x) j at
  where
    by_place : ((j : ℕ) (e : EntryValue) → slice_get (filter keep xs) j ≡ Some e → (i : ℕ) × (slice_get xs i ≡ Some e)) → (j : ℕ)
        → slice_get (x ∷ filter keep xs) j ≡ Some e → (i : ℕ) × (slice_get (x ∷ xs) i ≡ Some e)
    by_place rest zero at = (0, at)
    by_place rest (suc j) at = let there = rest j e at in (suc there.0, there.1)

    by_test : ((j : ℕ) (e : EntryValue) → slice_get (filter keep xs) j ≡ Some e → (i : ℕ) × (slice_get xs i ≡ Some e)) → (b : Bool)
        → (j : ℕ) → slice_get (cond b (x ∷ filter keep xs) (filter keep xs)) j ≡ Some e → (i : ℕ) × (slice_get (x ∷ xs) i ≡ Some e)
    by_test rest true j at = by_place rest j at
    by_test rest false j at = let there = rest j e at in (suc there.0, there.1)

-- an entry of a run's log is one of the whole log
pub record IsOfWhole (t : TraceValue) (d : EntryValue) : Type 0 where
  pub place : ℕ
  pub entry : EntryValue
  pub there : slice_get t.entries place ≡ Some entry
  pub same : placeless entry ≡ placeless d

pub copied : (xs ys : List EntryValue) → map placeless ys ≡ map placeless xs → (j : ℕ) (d : EntryValue)
    → slice_get ys j ≡ Some d → (e : EntryValue) × (slice_get xs j ≡ Some e) × (placeless e ≡ placeless d)
copied xs ys alike j d at = by_entry (slice_get xs j) refl (
    sym (slice_get-map placeless xs j) ∙ ap (λ (es : List EntryValue). slice_get es j) (sym alike)
    ∙ slice_get-map placeless ys j ∙ ap (option_map placeless) at)
  where
    by_entry : (o : Option EntryValue) → slice_get xs j ≡ o → option_map placeless o ≡ Some (placeless d)
        → (e : EntryValue) × (slice_get xs j ≡ Some e) × (placeless e ≡ placeless d)
    by_entry None is same = absurd (let no : None ≡ Some (placeless d) = same in cc)
    by_entry (Some e) is same = (e, is, let both : placeless e ≡ placeless d = cc in both)

pub same_line : (e d : EntryValue) → placeless e ≡ placeless d → e.line ≡ d.line
same_line e d same = ap (λ (x : EntryValue). x.line) same

pub same_snapshot : (e d : EntryValue) → placeless e ≡ placeless d → e.snapshot ≡ d.snapshot
same_snapshot e d same = ap (λ (x : EntryValue). x.snapshot) same

module _ (u : TraceValue) (n : ℕ) (before : TraceValue) (from : ℕ) (r : Part) (part : IsPart u n before from r) where
  pub of_whole : (j : ℕ) (d : EntryValue) → slice_get r.log.entries j ≡ Some d → IsOfWhole r.whole d
  of_whole j d at = elim part.known [
    | inl first ↦ record {
      place = j;
      entry = d;
      there = ap (λ (t : TraceValue). slice_get t.entries j) (sym first.1) ∙ at;
      same = refl;
    }
    | inr begun ↦
        let z = onward r.knows begun.0 before r.whole part.begun r.log part.goes begun.2 begun.1 part.alike in
        let c = copied (filter z.keep r.whole.entries) r.log.entries z.entries j d at in
        let there = kept_stands z.keep r.whole.entries j c.0 c.1 in
        record { place = there.0; entry = c.0; there = there.1; same = c.2 }
  ]

  -- what the run's log settles the whole log settles
  pub settled_too : (e d : EntryValue) → placeless e ≡ placeless d → IsSettled r.log d → IsSettled r.whole e
  settled_too e d same settled = elim part.known [
    | inl first ↦
        ap (λ (s : ℕ). is_settled r.whole (record e { snapshot = s })) (same_snapshot e d same)
        ∙ ap (λ (t : TraceValue). is_settled t d) (sym first.1) ∙ settled
    | inr begun ↦
        let z = onward r.knows begun.0 before r.whole part.begun r.log part.goes begun.2 begun.1 part.alike in
        reached_back r.knows begun.0 r.whole r.log z e.snapshot
        (ap (λ (s : ℕ). is_settled r.log (record d { snapshot = s })) (same_snapshot e d same) ∙ settled)
  ]

  module _ (evidence : List (Option (List StepValue))) (agree : (i j : ℕ) (e d : EntryValue)
      → slice_get r.whole.entries i ≡ Some e → slice_get r.log.entries j ≡ Some d → placeless e ≡ placeless d
      → IsSettled r.whole e → steps_of r.evidence j ≡ steps_of evidence i) where
    -- the steps for the run's entries, as the whole log has them
    abbrev own : List (Option (List StepValue))
    own = chosen (λ d. true) (steps_on r.whole.entries evidence 0) [] 0 r.log.entries

    own_there : (i j : ℕ) (e d : EntryValue) → slice_get r.whole.entries i ≡ Some e → slice_get r.log.entries j ≡ Some d
        → d.line ≡ e.line → steps_of own j ≡ steps_of evidence i
    own_there i j e d at there on =
        chosen_there (λ x. true) (steps_on r.whole.entries evidence 0) [] 0 r.log.entries j d there
        ∙ steps_there r.whole.entries evidence 0 d.line i e at (sym on) (λ k x here same.
        one_by_line r.whole part.onward.first.rising.entries i k e x at here (same ∙ on))
        ∙ ap (steps_of evidence) (let z : 0 + i ≡ i = omega arith in z)

    told_own : (k : ℕ) → told_on r.log own k ≡ told_on r.log r.evidence k
    told_own k = told_by_steps (is_at k) r.log own r.evidence 0 r.log.entries (λ j d at is.
        let w = of_whole j d at in
        let settled = settled_too w.entry d w.same (settled_then d (settling_line r.log d) refl is) in
        let place : 0 + j ≡ j = omega arith in
        ap (steps_of own) place
        ∙ own_there w.place j w.entry d w.there at (sym (same_line w.entry d w.same))
        ∙ sym (agree w.place j w.entry d w.there at w.same settled)
        ∙ ap (steps_of r.evidence) (sym place))
      where
        settled_then : (d : EntryValue) (o : Option ℕ) → settling_line r.log d ≡ o → is_at k o ≡ true → IsSettled r.log d
        settled_then d None is at = cc
        settled_then d (Some l) is at = settled_at r.log d l is

    in_whole : (k : ℕ) → n < k → asked_on r.knows r.whole evidence k ≡ asked_on r.knows r.log own k
    in_whole k lt = elim part.known [
      | inl first ↦
          ap (asked r.knows r.whole) (same_told first.1)
          ∙ ap (λ (t : TraceValue). asked r.knows t (told_on t own k)) (sym first.1)
      | inr begun ↦ (told_alike_law r.knows n begun.0 before r.whole part.begun r.log part.goes part.shorter begun.2 begun.1
          part.alike evidence own (λ i j e d at there on. own_there i j e d at there on)).0 k lt
    ]
      where
        same_told : r.log ≡ r.whole → told_on r.whole evidence k ≡ told_on r.whole own k
        same_told same = told_by_steps (is_at k) r.whole evidence own 0 r.whole.entries (λ i e at is.
            sym (own_there (0 + i) (0 + i) e e (at_sum i e at) (ap (λ (t : TraceValue). slice_get t.entries (0 + i)) same
            ∙ at_sum i e at) refl))
          where
            at_sum : (i : ℕ) (e : EntryValue) → slice_get r.whole.entries i ≡ Some e → slice_get r.whole.entries (0 + i) ≡ Some e
            at_sum i e at = ap (slice_get r.whole.entries) (let z : 0 + i ≡ i = omega arith in z) ∙ at

    -- at each line of the run
    pub told_by_part : (k : ℕ) → n < k → asked r.knows r.whole (told_on r.whole evidence k) ≡ asked r.knows r.log (told_on r.log r.evidence k)
    told_by_part k lt = in_whole k lt ∙ ap (asked r.knows r.log) (told_own k)
