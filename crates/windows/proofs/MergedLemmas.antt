-- What is found on the line of an entry in its part is what is found on the entry in the whole.
use Rattle.std.proofs.Common.{◌≡◌, ℕ, zero, suc, ◌+◌, ◌<◌, ◌==◌, Bool, true, false, cond, List, [], ◌∷◌, ◌++◌, Option, Some, None, refl, sym, ◌∙◌, ap, subst, arith, append-nil}
use Rattle.std.specs.Prelude.{filter, nat_eq, slice_get}
use Rattle.std.specs.List.Sorted.{IsStrictlyIncreasing}
use Rattle.std.proofs.lemmas.Bool.{eq-eqb, ne_eqb}
use Rattle.std.proofs.lemmas.List.Elements.{filter-append}
use Rattle.std.proofs.lemmas.Option.{same_Some}
use Rattle.trace_lines.specs.Values.{EntryValue, TraceValue, entry_lines}
use Rattle.token_order.proofs.Lines.{line_before}
use Rattle.evidence_check.specs.Steps.{StepValue}
use Rattle.findings.specs.Findings.{found_on, on_line, findings_from, findings_of}
use Rattle.findings.specs.Parts.{is_of, findings_on_part_from}
use Rattle.findings.specs.declared.finding.Finding.{Finding}
use Rattle.findings.specs.declared.finding.What.{What}
use Rattle.findings.proofs.PartLemmas.{findings_of_part_law}
use Rattle.windows.specs.Merged.{of_part, merged}

abbrev is_on : ℕ → Finding → Bool
is_on line f = f.line == line

all_here : (line : ℕ) (found : List (Option What)) → filter (is_on line) (on_line line found) ≡ on_line line found
all_here line [] = refl
all_here line (None ∷ found) = all_here line found
all_here line (Some what ∷ found) =
    rw (eq-eqb line line refl) (ap (λ (fs : List Finding). record { line = line; what = what } ∷ fs) (all_here line
    found))

none_here : (line other : ℕ) (found : List (Option What)) → (other == line) ≡ false
    → filter (is_on line) (on_line other found) ≡ []
none_here line other [] not_it = refl
none_here line other (None ∷ found) not_it = none_here line other found not_it
none_here line other (Some what ∷ found) not_it = rw not_it (none_here line other found not_it)

module _ (t : TraceValue) (rising : IsStrictlyIncreasing (entry_lines t.entries)) (evidence : List (Option (List
    StepValue))) where
  -- these entries stand in the trace from a place on
  abbrev StandFrom : ℕ → List EntryValue → Type 0
  StandFrom j xs = (k : ℕ) (x : EntryValue) → slice_get xs k ≡ Some x → slice_get t.entries (j + k) ≡ Some x

  next : (j : ℕ) (x : EntryValue) (xs : List EntryValue) → StandFrom j (x ∷ xs) → StandFrom (j + 1) xs
  next j x xs stand k y at = let same : j + suc k ≡ j + 1 + k = omega arith in
      subst (λ (n : ℕ). slice_get t.entries n ≡ Some y) same (stand (suc k) y at)

  first : (j : ℕ) (x : EntryValue) (xs : List EntryValue) → StandFrom j (x ∷ xs) → slice_get t.entries j ≡ Some x
  first j x xs stand = let same : j + 0 ≡ j = omega arith in
      subst (λ (n : ℕ). slice_get t.entries n ≡ Some x) same (stand 0 x refl)

  module _ (objects : List ℕ → List ℕ → Bool) (p : ℕ) (e : EntryValue) (there : slice_get t.entries p ≡ Some e) where
    abbrev of_xs : ℕ → List EntryValue → List Finding
    of_xs j xs = findings_on_part_from objects t evidence j xs

    two_parts : (j : ℕ) (x : EntryValue) (xs : List EntryValue) (b : Bool) (line : ℕ)
        → filter (is_on line) (cond b (on_line x.line (found_on t evidence j x) ++ of_xs (j + 1) xs) (of_xs (j + 1) xs))
        ≡ cond b (filter (is_on line) (on_line x.line (found_on t evidence j x)) ++ filter (is_on line) (of_xs (j + 1)
        xs)) (filter (is_on line) (of_xs (j + 1) xs))
    two_parts j x xs true line = filter-append (is_on line) (on_line x.line (found_on t evidence j x)) (of_xs (j + 1)
        xs)
    two_parts j x xs false line = refl

    none_behind : (j : ℕ) (xs : List EntryValue) → StandFrom j xs → p < j → filter (is_on e.line) (of_xs j xs) ≡ []
    none_behind j [] stand lt = refl
    none_behind j (x ∷ xs) stand lt =
        let later = line_before t rising j p x e (first j x xs stand) there lt in
        let other : (x.line == e.line) ≡ false = ne_eqb x.line e.line (λ h. omega (arith, h, later)) in
        two_parts j x xs (is_of objects x) e.line
        ∙ by_test (none_here e.line x.line (found_on t evidence j x) other) (none_behind (j + 1) xs (next j x xs stand)
        (omega (arith, lt))) (is_of objects x)
      where
        by_test : filter (is_on e.line) (on_line x.line (found_on t evidence j x)) ≡ []
            → filter (is_on e.line) (of_xs (j + 1) xs) ≡ [] → (b : Bool)
            → cond b (filter (is_on e.line) (on_line x.line (found_on t evidence j x)) ++ filter (is_on e.line) (of_xs
            (j + 1) xs)) (filter (is_on e.line) (of_xs (j + 1) xs)) ≡ []
        by_test here rest true = rw (here, rest) refl
        by_test here rest false = rest

    picked : is_of objects e ≡ true → (j : ℕ) (xs : List EntryValue) (k : ℕ) → StandFrom j xs → p ≡ j + k
        → slice_get xs k ≡ Some e
        → filter (is_on e.line) (of_xs j xs) ≡ on_line e.line (found_on t evidence p e)
    picked kept j [] k stand place at = cc
    picked kept j (x ∷ xs) zero stand place at =
        let same : x ≡ e = same_Some x e at in
        let here : j ≡ p = omega (arith, place) in
        let own : is_of objects x ≡ true = ap (is_of objects) same ∙ kept in
        two_parts j x xs (is_of objects x) e.line
        ∙ ap (λ (b : Bool). cond b (filter (is_on e.line) (on_line x.line (found_on t evidence j x)) ++ filter (is_on
        e.line) (of_xs (j + 1) xs)) (filter (is_on e.line) (of_xs (j + 1) xs))) own
        ∙ ap (λ (fs : List Finding). filter (is_on e.line) (on_line x.line (found_on t evidence j x)) ++ fs)
        (none_behind (j + 1) xs (next j x xs stand) (omega (arith, here)))
        ∙ append-nil (filter (is_on e.line) (on_line x.line (found_on t evidence j x)))
        ∙ ap (λ (y : EntryValue). filter (is_on e.line) (on_line y.line (found_on t evidence j y))) same
        ∙ all_here e.line (found_on t evidence j e)
        ∙ ap (λ (n : ℕ). on_line e.line (found_on t evidence n e)) here
    picked kept j (x ∷ xs) (suc k) stand place at =
        let earlier = line_before t rising p j e x there (first j x xs stand) (omega (arith, place)) in
        let other : (x.line == e.line) ≡ false = ne_eqb x.line e.line (λ h. omega (arith, h, earlier)) in
        two_parts j x xs (is_of objects x) e.line
        ∙ by_test (none_here e.line x.line (found_on t evidence j x) other) (picked kept (j + 1) xs k (next j x xs
        stand) (omega (arith, place)) at) (is_of objects x)
      where
        by_test : filter (is_on e.line) (on_line x.line (found_on t evidence j x)) ≡ []
            → filter (is_on e.line) (of_xs (j + 1) xs) ≡ on_line e.line (found_on t evidence p e) → (b : Bool)
            → cond b (filter (is_on e.line) (on_line x.line (found_on t evidence j x)) ++ filter (is_on e.line) (of_xs
            (j + 1) xs)) (filter (is_on e.line) (of_xs (j + 1) xs)) ≡ on_line e.line (found_on t evidence p e)
        by_test here rest true = rw (here, rest) refl
        by_test here rest false = rest

  merged_from : (part : List ℕ → List ℕ → ℕ) (i : ℕ) (es : List EntryValue) → StandFrom i es
      → findings_from t evidence i es ≡ merged part (of_part part t evidence) es
  merged_from part i [] stand = refl
  merged_from part i (e ∷ es) stand =
      let own = part e.goal.set.namespace e.goal.set.id in
      let objects : List ℕ → List ℕ → Bool = λ n d. nat_eq (part n d) own in
      let at = first i e es stand in
      let from : StandFrom 0 t.entries = λ k x h. let same : k ≡ 0 + k = omega arith in
      subst (λ (n : ℕ). slice_get t.entries n ≡ Some x) same h in
      let here = picked objects i e at (eq-eqb own own refl) 0 t.entries i from (omega arith) at in
      ap (λ (fs : List Finding). fs ++ findings_from t evidence (i + 1) es) (sym here
      ∙ ap (filter (is_on e.line)) (sym (findings_of_part_law objects t evidence)))
      ∙ ap (λ (fs : List Finding). filter (is_on e.line) (of_part part t evidence own) ++ fs) (merged_from part (i + 1)
      es (next i e es stand))

  pub merged_law : (part : List ℕ → List ℕ → ℕ)
      → findings_of t evidence ≡ merged part (of_part part t evidence) t.entries
  merged_law part = merged_from part 0 t.entries (λ k x h. let same : k ≡ 0 + k = omega arith in
      subst (λ (n : ℕ). slice_get t.entries n ≡ Some x) same h)
