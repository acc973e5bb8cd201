-- What was read by one way of taking lines, where another makes the same of them.
use Rattle.std.proofs.Common.{◌≡◌, ℕ, ◌+◌, ◌-◌, ◌^◌, Bool, true, false, not, ◌&&◌, eqb, cond, List, [], ◌∷◌, ◌++◌, length, Option, Result, Ok, Err, refl, sym, ap, subst, ◌∙◌}
use Rattle.refusals.specs.Refusals.{◌>>=◌}
use Rattle.json_lines.specs.InputRead.{LinesRead}
use Rattle.json_lines.specs.Reading.{at_line, parts, passes_limit, read_all, read_from, Fails, IsOfSomeLine}
use Rattle.json_lines.specs.declared.lines.InputFault.TheVariants.{Read, TooLong}
use Rattle.json_lines.specs.declared.reading.LineFault.{LineFault}
use Rattle.json_lines.specs.declared.reading.Stop.{Stop}
use Rattle.json_lines.specs.declared.reading.Stop.TheVariants.{Input}
use Rattle.json_lines.proofs.InputReads.{answered, refused}
use Rattle.line_blocks.proofs.Parts.{bind_same}

module _ {S C : Type 0} (taken : ℕ → S → List ℕ → Result S C) where
  -- a cause that was answered is what some line gave
  some_line : (whole : Bool) (n room : ℕ) (s : S) (lines : List (List ℕ)) (e : LineFault C)
      → read_from taken whole n room s lines ≡ Err e → IsOfSomeLine taken e
  some_line whole n room s [] e is = absurd cc
  some_line whole n room s (line ∷ lines) e is =
      over (passes_limit room line (not (eqb (length lines) 0))) (not whole && eqb (length lines) 0)
      (λ t. some_line whole (n + 1) (room - (length line + 1)) t lines e) is
    where
      rest : S → Result S (LineFault C)
      rest t = read_from taken whole (n + 1) (room - (length line + 1)) t lines

      step : (r : Result S C) → taken n s line ≡ r → ((t : S) → rest t ≡ Err e → IsOfSomeLine taken e)
          → (at_line n r >>= rest) ≡ Err e → IsOfSomeLine taken e
      step (Ok t) by later h = later t h
      step (Err c) by later h = λ d stop. (n, s, line, by ∙ ap (λ (x : C). Err x) (cc (h, stop)))

      over : (long cut : Bool) → ((t : S) → rest t ≡ Err e → IsOfSomeLine taken e)
          → cond long (Err (record { line = n; stop = Input TooLong }))
          (cond cut (Err (record { line = n; stop = Input Read })) (at_line n (taken n s line) >>= rest)) ≡ Err e
          → IsOfSomeLine taken e
      over true cut later h = λ d stop. absurd (cc (h, stop))
      over false true later h = λ d stop. absurd (cc (h, stop))
      over false false later h = step (taken n s line) refl later h

-- two ways make the same of each line, and so of an input
module _ {S C : Type 0} (by taken : ℕ → S → List ℕ → Result S C)
    (same : (n : ℕ) (s : S) (line : List ℕ) → by n s line ≡ taken n s line) where
  lines_alike : (whole : Bool) (n room : ℕ) (s : S) (lines : List (List ℕ))
      → read_from by whole n room s lines ≡ read_from taken whole n room s lines
  lines_alike whole n room s [] = refl
  lines_alike whole n room s (line ∷ lines) =
      let rest : S → Result S (LineFault C) =
      λ t. read_from by whole (n + 1) (room - (length line + 1)) t lines in
      ap
      (λ (r : Result S (LineFault C)). cond (passes_limit room line (not (eqb (length lines) 0)))
      (Err (record { line = n; stop = Input TooLong }))
      (cond (not whole && eqb (length lines) 0) (Err (record { line = n; stop = Input Read })) r))
      (ap (λ (x : Result S C). at_line n x >>= rest) (same n s line)
      ∙ bind_same (at_line n (taken n s line)) rest _
      (λ t. lines_alike whole (n + 1) (room - (length line + 1)) t lines))

  pub inputs_alike : (whole : Bool) (s : S) (input : List ℕ) → read_all by whole s input ≡ read_all taken whole s input
  unfolding read_all
  inputs_alike whole s input = lines_alike whole 1 (2 ^ 30) s (parts input)

module _ {R S T C : Type 0} (given : R → List ℕ) (ends failures : R → ℕ) (remaining : R → Option (List ℕ))
    (taken by : ℕ → S → List ℕ → Result S C) (old new : R) (start now : S) where
  pub read_alike : (result : Result T (LineFault C))
      → ((whole : Bool) (input : List ℕ) → read_all by whole start input ≡ read_all taken whole start input)
      → LinesRead given ends failures remaining by old new start now result
      → LinesRead given ends failures remaining taken old new start now result
  read_alike (Ok u) same read =
      answered _ _ _ _ _ _ _ _ given ends failures remaining old new u u
      (λ input is. sym (same true input) ∙ is) read
  read_alike (Err e) same read =
      refused _ _ _ _ _ _ _ _ given ends failures remaining old new e e refl (λ is. is) (λ is. is)
      (λ input fails. subst (λ (r : Result S (LineFault C)). Fails e.stop e r) (same true input) fails)
      (λ came is. sym (same false came) ∙ is) read

module _ {R S T C : Type 0} (given : R → List ℕ) (ends failures : R → ℕ) (remaining : R → Option (List ℕ))
    (taken : ℕ → S → List ℕ → Result S C) (old new : R) (start now : S) where
  pub told : (e : LineFault C) → LinesRead {T = T} given ends failures remaining taken old new start now (Err e)
      → IsOfSomeLine taken e
  unfolding read_all
  told e h = λ c stop.
      let input : List ℕ = h.exact.0 ++ [] in
      let is : read_all taken true start input ≡ Err e =
      subst (λ (x : Stop C). Fails x e (read_all taken true start input)) stop (h.exact.2 [] (λ _. refl)) in
      some_line taken true 1 (2 ^ 30) start (parts input) e is c stop
