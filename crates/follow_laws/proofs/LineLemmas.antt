-- A log of lines, and what its first lines say.
use Rattle.std.proofs.Common.{◌≡◌, ℕ, zero, suc, ◌+◌, ◌<◌, ◌≤◌, inl, inr, true, List, [], ◌∷◌, ◌++◌, length, take, Option, Result, Ok, refl, sym, ◌∙◌, ap, subst, ◌==◌, arith, append_assoc, append-nil, length-append}
use Rattle.std.specs.Prelude.{All, IsPermutation}
use Rattle.std.specs.List.{AllByRecursion}
use Rattle.std.proofs.lemmas.Bool.{cases_lt, ne_eqb}
use Rattle.std.proofs.lemmas.List.Elements.{recursion_from_All}
use Rattle.std.proofs.lemmas.List.Splits.{slice_split_none}
use Rattle.line_blocks.proofs.WholeLines.{parts_at}
use Rattle.json_lines.specs.Reading.{parts}
use Rattle.trace_lines.specs.Traces.{trace_of}
use Rattle.trace_lines.specs.Values.{TraceValue, empty_trace, next_line}
use Rattle.trace_lines.specs.declared.cause.TraceFault.{TraceFault}
use Rattle.evidence_check.specs.Steps.{StepValue}
use Rattle.findings.specs.Findings.{findings_of}
use Rattle.follow_laws.specs.Begun.{IsOfBytes, Begins}
use Rattle.follow_laws.specs.Followed.{IsOneLine, text_of, followed}
use Rattle.follow_laws.specs.Told.{left_over}
use Rattle.windows.specs.Growth.{GoesOn}
use Rattle.windows.proofs.GrowthLemmas.{begins, nothing_said, from_nothing}
use Rattle.follow_laws.proofs.FollowedLemmas.{followed_law}

-- the first k lines, and those behind them
record IsCut (lines : List (List ℕ)) (k : ℕ) : Type 0 where
  a : List ℕ
  b : List ℕ
  whole : text_of lines ≡ (a ++ 10 ∷ []) ++ b
  first : text_of (take k lines) ≡ a ++ 10 ∷ []
  counted : length (parts a) ≡ k

one_part : (l : List ℕ) → IsOneLine l → length (parts l) ≡ 1
one_part l one = ap length (slice_split_none (λ b. b == 10) l (λ k d lt. ne_eqb _ 10 (one k d lt)))

cut : (lines : List (List ℕ)) → AllByRecursion IsOneLine lines → (j : ℕ) → j < length lines → IsCut lines (suc j)
cut [] ones j lt = absurd (omega (arith, lt))
cut (l ∷ ls) ones zero lt = record {
  a = l;
  b = text_of ls;
  whole = refl;
  first = append-nil (l ++ 10 ∷ []);
  counted = one_part l ones.0;
}
cut (l ∷ ls) ones (suc j) lt =
    let r = cut ls ones.1 j (omega (arith, lt)) in
    let here = l ++ 10 ∷ [] in
    record {
      a = here ++ r.a;
      b = r.b;
      whole =
          ap (λ (t : List ℕ). here ++ t) r.whole
          ∙ sym (append_assoc here (r.a ++ 10 ∷ []) r.b)
          ∙ ap (λ (t : List ℕ). t ++ r.b) (sym (append_assoc here r.a (10 ∷ [])));
      first = ap (λ (t : List ℕ). here ++ t) r.first ∙ sym (append_assoc here r.a (10 ∷ []));
      counted =
          let counted = r.counted in
          let one = one_part l ones.0 in
          let both = length-append (parts l) (parts r.a) in
          ap (λ (t : List ℕ). length (parts t)) (append_assoc l (10 ∷ []) r.a)
          ∙ ap length (parts_at l r.a)
          ∙ omega (arith, counted, one, both);
    }

take_all : {X : Type 0} (xs : List X) → take (length xs) xs ≡ xs
take_all [] = refl
take_all {X} (x ∷ xs) = ap (λ (ys : List X). x ∷ ys) (take_all xs)

same_trace : (t u : TraceValue) (r : Result TraceValue TraceFault) → r ≡ Ok t → r ≡ Ok u → t ≡ u
same_trace t u r h k = let both : Ok t ≡ Ok u = sym h ∙ k in cc

module _ (lines : List (List ℕ)) (ones : AllByRecursion IsOneLine lines) (u : TraceValue) (says : trace_of true (text_of lines)
    ≡ Ok u) (good : (bytes : List ℕ) (t : TraceValue) → trace_of true bytes ≡ Ok t → IsOfBytes t) where
  begins_with : (k : ℕ) (bytes : List ℕ) (t : TraceValue) → trace_of true bytes ≡ Ok t → GoesOn k t u → Begins k t u
  begins_with k bytes t first goes = record { goes = goes; first = good bytes t first; whole = good (text_of lines) u says }

  log_to : (k : ℕ) → k ≤ length lines → (t : TraceValue) × (trace_of true (text_of (take k lines)) ≡ Ok t) × Begins k t u
  log_to zero le = (
    empty_trace,
    nothing_said,
    begins_with 0 [] empty_trace nothing_said (from_nothing (text_of lines) u says),
  )
  log_to (suc j) le =
      let c = cut lines ones j (omega (arith, le)) in
      let f = begins c.a c.b u (sym (ap (trace_of true) c.whole) ∙ says) in
      let said : trace_of true (text_of (take (suc j) lines)) ≡ Ok f.0 = ap (trace_of true) c.first ∙ f.1 in (
        f.0,
        said,
        begins_with (suc j) (text_of (take (suc j) lines)) f.0 said (subst (λ (m : ℕ). GoesOn m f.0 u) c.counted f.2),
      )

  log_at : (k : ℕ) → (t : TraceValue) × (k ≤ length lines → (trace_of true (text_of (take k lines)) ≡ Ok t) × Begins k t u)
  log_at k = elim (cases_lt (length lines) k) [
    | inl lt ↦ (empty_trace, λ le. absurd (omega (arith, lt, le)))
    | inr le ↦ let l = log_to k le in (l.0, λ le. (l.1, l.2))
  ]

  within_lines : next_line u ≤ length lines + 1
  within_lines =
      let l = log_to (length lines) (omega arith) in
      let same : l.0 ≡ u = same_trace l.0 u (trace_of true (text_of lines)) (sym (ap (λ (ls : List (List ℕ)). trace_of true
      (text_of ls)) (take_all lines)) ∙ l.1) says in
      subst (λ (t : TraceValue). next_line t ≤ length lines + 1) same l.2.goes.within

pub lines_law : ((bytes : List ℕ) (t : TraceValue) → trace_of true bytes ≡ Ok t → IsOfBytes t) → (lines : List (List ℕ))
    → All IsOneLine lines → (u : TraceValue) → trace_of true (text_of lines) ≡ Ok u
    → (evidence : List (Option (List StepValue)))
    → (so_far : ℕ → TraceValue)
    × ((k : ℕ) → k ≤ length lines → trace_of true (text_of (take k lines)) ≡ Ok (so_far k))
    × IsPermutation (followed so_far evidence (length lines + 1) ++ left_over u evidence) (findings_of u evidence)
unfolding log_at
lines_law good lines one u says evidence =
    let ones = recursion_from_All IsOneLine lines one in
    let at : (k : ℕ) → (t : TraceValue) × (k ≤ length lines → (trace_of true (text_of (take k lines)) ≡ Ok t) × Begins k t u) =
    log_at lines ones u says good in (
      λ k. (at k).0,
      λ k le. ((at k).1 le).0,
      followed_law (λ k. (at k).0) (length lines + 1) u (good (text_of lines) u says) (λ k lt. ((at k).1 (omega (arith, lt))).1)
          (within_lines lines ones u says good) evidence,
    )
