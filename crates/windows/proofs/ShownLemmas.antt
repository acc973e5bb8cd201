-- The findings on the entries that windows show, whole or in parts.
use Rattle.std.proofs.Common.{◌≡◌, ℕ, zero, suc, ◌+◌, Bool, true, false, cond, List, [], ◌∷◌, ◌++◌, length, map, Option, Some, None, refl, sym, ◌∙◌, ap, subst, arith}
use Rattle.std.specs.Prelude.{slice_get, option_map}
use Rattle.std.proofs.lemmas.List.{map-append, length-append, append_assoc}
use Rattle.std.proofs.lemmas.Option.{slice_get_within}
use Rattle.tuple_text.specs.Tuples.{FactValue}
use Rattle.trace_lines.specs.Values.{EntryValue, TraceValue}
use Rattle.evidence_check.specs.Steps.{StepValue}
use Rattle.findings.specs.Findings.{found_on, on_line, findings_from, findings_of}
use Rattle.findings.specs.Parts.{is_of, findings_on_part_from}
use Rattle.findings.specs.declared.finding.Finding.{Finding}
use Rattle.findings.specs.declared.finding.What.{What}
use Rattle.findings.proofs.PartLemmas.{part_from}
use Rattle.windows.specs.Compaction.{AreRising}
use Rattle.windows.specs.Windows.{relined, refound}
use Rattle.windows.specs.Together.{Window, told, told_of_part, IsShown, Show, ShowAll, all_told}
use Rattle.windows.proofs.WindowLemmas.{found_law}

on_line-map : (g : ℕ → ℕ) (l : ℕ) (xs : List (Option What))
    → map (refound g) (on_line l xs) ≡ on_line (g l) (map (option_map (relined g)) xs)
on_line-map g l [] = refl
on_line-map g l (None ∷ xs) = on_line-map g l xs
on_line-map g l (Some x ∷ xs) =
    ap (λ (fs : List Finding). record { line = g l; what = relined g x } ∷ fs) (on_line-map g l xs)

placed : (before es after : List EntryValue) (k : ℕ) (e : EntryValue) → slice_get es k ≡ Some e
    → slice_get (before ++ (es ++ after)) (length before + k) ≡ Some e
placed (x ∷ xs) es after k e at =
    let n : length (x ∷ xs) + k ≡ suc (length xs + k) = omega arith in
    ap (slice_get (x ∷ (xs ++ (es ++ after)))) n ∙ placed xs es after k e at
placed [] es after k e at = let n : 0 + k ≡ k = omega arith in ap (slice_get (es ++ after)) n ∙ in_front es k at
  where
    in_front : (xs : List EntryValue) (k : ℕ) → slice_get xs k ≡ Some e → slice_get (xs ++ after) k ≡ Some e
    in_front [] k h = cc
    in_front (x ∷ xs) zero h = h
    in_front (x ∷ xs) (suc k) h = in_front xs k h

no_more : (xs : List EntryValue) → xs ++ [] ≡ xs
no_more [] = refl
no_more (x ∷ xs) = ap (λ (ys : List EntryValue). x ∷ ys) (no_more xs)

module _ (g : ℕ → ℕ) (t w : TraceValue) (evidence steps : List (Option (List StepValue))) where
  -- an entry asks of the same goal, and its findings are the same on the whole's lines
  record IsAlike (i j : ℕ) (e d : EntryValue) : Type 0 where
    pub goal : e.goal ≡ d.goal
    pub line : g d.line ≡ e.line
    pub found : map (option_map (relined g)) (found_on w steps j d) ≡ found_on t evidence i e

  abbrev AreAlike : ℕ → ℕ → List EntryValue → List EntryValue → Type 0
  AreAlike i j seen own =
      (k : ℕ) (e d : EntryValue) → slice_get seen k ≡ Some e → slice_get own k ≡ Some d → IsAlike (i + k) (j + k) e d

  module _ (objects : List ℕ → List ℕ → Bool) where
    abbrev of_window : ℕ → List EntryValue → List Finding
    of_window j es = findings_on_part_from objects w steps j es

    abbrev of_whole : ℕ → List EntryValue → List Finding
    of_whole i es = findings_on_part_from objects t evidence i es

    alike_in_part : (i j : ℕ) (seen own : List EntryValue) → length own ≡ length seen → AreAlike i j seen own
        → map (refound g) (of_window j own) ≡ of_whole i seen
    alike_in_part i j [] [] counted alike = refl
    alike_in_part i j [] (d ∷ ds) counted alike = absurd (omega (arith, counted))
    alike_in_part i j (e ∷ es) [] counted alike = absurd (omega (arith, counted))
    alike_in_part i j (e ∷ es) (d ∷ ds) counted alike =
        let i0 : i + 0 ≡ i = omega arith in
        let j0 : j + 0 ≡ j = omega arith in
        let first : IsAlike i j e d =
        subst (λ (m : ℕ). IsAlike m j e d) i0 (subst (λ (m : ℕ). IsAlike (i + 0) m e d) j0 (alike 0 e d refl refl)) in
        let rest = alike_in_part (i + 1) (j + 1) es ds (omega (arith, counted)) (λ k x y at there.
        let ik : i + suc k ≡ i + 1 + k = omega arith in
        let jk : j + suc k ≡ j + 1 + k = omega arith in
        subst (λ (m : ℕ). IsAlike m (j + 1 + k) x y) ik
        (subst (λ (m : ℕ). IsAlike (i + suc k) m x y) jk (alike (suc k) x y at there))) in
        ap (λ (b : Bool). map (refound g) (cond b (on_line d.line (found_on w steps j d) ++ of_window (j + 1) ds)
        (of_window (j + 1) ds)))
        (ap (λ (f : FactValue). objects f.set.namespace f.set.id) (sym first.goal))
        ∙ by_test first rest (is_of objects e)
      where
        by_test : IsAlike i j e d → map (refound g) (of_window (j + 1) ds) ≡ of_whole (i + 1) es → (b : Bool)
            → map (refound g) (cond b (on_line d.line (found_on w steps j d) ++ of_window (j + 1) ds)
            (of_window (j + 1) ds))
            ≡ cond b (on_line e.line (found_on t evidence i e) ++ of_whole (i + 1) es) (of_whole (i + 1) es)
        by_test first rest false = rest
        by_test first rest true =
            map-append (refound g) (on_line d.line (found_on w steps j d)) (of_window (j + 1) ds)
            ∙ ap (λ (fs : List Finding). fs ++ map (refound g) (of_window (j + 1) ds)) (
            on_line-map g d.line (found_on w steps j d)
            ∙ ap (λ (l : ℕ). on_line l (map (option_map (relined g)) (found_on w steps j d))) first.line
            ∙ ap (λ (xs : List (Option What)). on_line e.line xs) first.found)
            ∙ ap (λ (fs : List Finding). on_line e.line (found_on t evidence i e) ++ fs) rest

-- the part with the entries of all objects
of_all : (t : TraceValue) (evidence : List (Option (List StepValue))) (i : ℕ) (es : List EntryValue)
    → findings_on_part_from (λ n id. true) t evidence i es ≡ findings_from t evidence i es
of_all t evidence i [] = refl
of_all t evidence i (e ∷ es) =
    ap (λ (fs : List Finding). on_line e.line (found_on t evidence i e) ++ fs) (of_all t evidence (i + 1) es)

-- the findings on some entries and on those behind them
in_two : (t : TraceValue) (evidence : List (Option (List StepValue))) (i : ℕ) (xs ys : List EntryValue)
    → findings_from t evidence i (xs ++ ys) ≡ findings_from t evidence i xs ++ findings_from t evidence (i + length xs)
    ys
in_two t evidence i [] ys = let n : i ≡ i + 0 = omega arith in ap (λ (m : ℕ). findings_from t evidence m ys) n
in_two t evidence i (e ∷ es) ys =
    let n : i + 1 + length es ≡ i + suc (length es) = omega arith in
    let here = on_line e.line (found_on t evidence i e) in
    ap (λ (fs : List Finding). here ++ fs) (in_two t evidence (i + 1) es ys
    ∙ ap (λ (m : ℕ). findings_from t evidence (i + 1) es ++ findings_from t evidence m ys) n)
    ∙ sym (append_assoc here (findings_from t evidence (i + 1) es) (findings_from t evidence (i + suc (length es)) ys))

module _ (t : TraceValue) (evidence : List (Option (List StepValue))) where
  module _ (rising : AreRising t.commits) (before seen after : List EntryValue) (is : t.entries ≡ before ++ (seen ++
      after))
      (w : Window) (shown : IsShown t evidence before seen w) where
    alike : AreAlike w.line t w.trace evidence w.evidence (length before) (length w.carried) seen w.own
    alike k e d at there =
        let same = shown.copied k e d at there in
        let within = slice_get_within seen k e at in
        let i = length before + k in
        let j = length w.carried + k in
        let at_t : slice_get t.entries i ≡ Some e =
        ap (λ (xs : List EntryValue). slice_get xs i) is ∙ placed before seen after k e at in
        let at_w : slice_get w.trace.entries j ≡ Some d =
        ap (λ (xs : List EntryValue). slice_get xs j) (shown.entries
        ∙ ap (λ (xs : List EntryValue). w.carried ++ xs) (sym (no_more w.own)))
        ∙ placed w.carried w.own [] k d there in
        record {
          goal = ap (λ (x : EntryValue). x.goal) same;
          line = ap (λ (x : EntryValue). x.line) (sym same);
          found = found_law w.line w.first w.from w.to t w.trace shown.cut rising shown.rising i j e d at_t at_w same
              (shown.behind k d there) (shown.within k e at) (shown.names k within) evidence w.evidence (shown.judged k
              within);
        }

    pub part_shown : (objects : List ℕ → List ℕ → Bool)
        → told_of_part objects w ≡ findings_on_part_from objects t evidence (length before) seen
    part_shown objects =
        ap (map (refound w.line)) (part_from objects w.trace w.evidence w.carried w.own shown.entries)
        ∙ alike_in_part w.line t w.trace evidence w.evidence objects (length before) (length w.carried) seen w.own
        shown.counted alike

    pub all_shown : told w ≡ findings_from t evidence (length before) seen
    all_shown =
        ap (map (refound w.line)) (sym (of_all w.trace w.evidence (length w.carried) w.own))
        ∙ alike_in_part w.line t w.trace evidence w.evidence (λ n id. true) (length before) (length w.carried) seen
        w.own shown.counted alike
        ∙ of_all t evidence (length before) seen

  shown_from : AreRising t.commits → (before es : List EntryValue) (ws : List Window) → t.entries ≡ before ++ es
      → Show t evidence before es ws → all_told ws ≡ findings_from t evidence (length before) es
  shown_from rising before es [] is none = ap (findings_from t evidence (length before)) (sym none)
  shown_from rising before es (w ∷ ws) is show =
      let seen = show.0 in
      let after = show.1 in
      let parted : es ≡ seen ++ after = show.2 in
      let here = is ∙ ap (λ (xs : List EntryValue). before ++ xs) parted in
      let further = shown_from rising (before ++ seen) after ws (here ∙ sym (append_assoc before seen after)) show.4 in
      ap (λ (fs : List Finding). fs ++ all_told ws) (all_shown rising before seen after here w show.3)
      ∙ ap (λ (fs : List Finding). findings_from t evidence (length before) seen ++ fs) (further
      ∙ ap (λ (m : ℕ). findings_from t evidence m after) (length-append before seen))
      ∙ sym (in_two t evidence (length before) seen after)
      ∙ ap (findings_from t evidence (length before)) (sym parted)

  pub together : AreRising t.commits → (ws : List Window) → ShowAll t evidence ws → all_told ws ≡ findings_of t evidence
  together rising ws show = shown_from rising [] t.entries ws refl show
