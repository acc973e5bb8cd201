-- Lines that are read for a part of what the whole is read for.
use Rattle.std.proofs.Common.{◌≡◌, ℕ, ◌+◌, ◌-◌, ◌^◌, ◌≤◌, ◌==◌, ◌&&◌, not, min, Bool, true, false, cond, ltb, eqb, List, [], ◌∷◌, length, map, Result, Ok, Err, refl, sym, subst, arith}
use Rattle.std.proofs.lemmas.Bool.{ltb-false, le-ltb, eqb-false, ne_eqb, or_parts, or_from}
use Rattle.std.proofs.lemmas.List.{length-map}
use Rattle.refusals.specs.Refusals.{◌>>=◌}
use Rattle.refusals.proofs.Steps.{OkHas}
use Rattle.json_lines.specs.Reading.{at_line, passes_limit, read_from}
use Rattle.json_lines.specs.declared.lines.InputFault.TheVariants.{TooLong}
use Rattle.json_lines.specs.declared.reading.Stop.TheVariants.{Input}
use Rattle.json_lines.specs.declared.reading.LineFault.{LineFault}

-- a line within its limits is so where it is shorter, and more may come
within : (room more_room : ℕ) (line other : List ℕ) (more : Bool) → room ≤ more_room → length other ≤ length line
    → passes_limit room line more ≡ false → passes_limit more_room other more ≡ false
within room more_room line other more le shorter h =
    let both = or_parts (ltb (min room (2 ^ 20)) (length line)) (more && eqb (length line) room) h in
    let short = ltb-false (min room (2 ^ 20)) (length line) both.0 in
    or_from (ltb (min more_room (2 ^ 20)) (length other)) (more && eqb (length other) more_room)
    (le-ltb _ _ (omega (arith, short, le, shorter)))
    (by_more more both.1)
  where
    by_more : (b : Bool) → (b && eqb (length line) room) ≡ false → (b && eqb (length other) more_room) ≡ false
    by_more false e = refl
    by_more true e =
        let ne = eqb-false (length line) room e in
        let both = or_parts (ltb (min room (2 ^ 20)) (length line)) (more && eqb (length line) room) h in
        let short = ltb-false (min room (2 ^ 20)) (length line) both.0 in
        ne_eqb (length other) more_room (λ same. ne (omega (arith, short, le, shorter, same)))

-- Where each line that the whole takes is taken, as another that is no longer, by the part of the whole, so are all.
module _ {S P C : Type 0} (takes : ℕ → S → List ℕ → Result S C) (takes_part : ℕ → P → List ℕ → Result P C) (part : S
    → P) (Keeps : S → Type 0)
    (other : List ℕ → List ℕ) (shorter : (line : List ℕ) → length (other line) ≤ length line)
    (each : (n : ℕ) (s : S) (line : List ℕ) → Keeps s
    → OkHas (λ u. Keeps u × (takes_part n (part s) (other line) ≡ Ok (part u))) (takes n s line)) where
  steps : (n : ℕ) (m : Result S C) (m2 : Result P C) (k : S → Result S (LineFault C)) (k2 : P → Result P (LineFault C))
      → OkHas (λ u. Keeps u × (m2 ≡ Ok (part u))) m → ((s : S) → Keeps s → OkHas (λ u. k2 (part s) ≡ Ok (part u)) (k s))
      → OkHas (λ u. (at_line n m2 >>= k2) ≡ Ok (part u)) (at_line n m >>= k)
  steps n (Ok s) m2 k k2 h next = subst (λ r. OkHas (λ u. (at_line n r >>= k2) ≡ Ok (part u)) (k s)) (sym h.1) (next s
      h.0)
  steps n (Err c) m2 k k2 h next = tt

  pub lines_carried : (n room more_room : ℕ) (s : S) (lines : List (List ℕ)) → Keeps s → room ≤ more_room
      → OkHas (λ u. read_from takes_part true n more_room (part s) (map other lines) ≡ Ok (part u)) (read_from takes
      true n room s lines)
  lines_carried n room more_room s [] keeps le = refl
  lines_carried n room more_room s (line ∷ lines) keeps le =
      by_limit
      (steps n (takes n s line) (takes_part n (part s) (other line)) _ _ (each n s line keeps)
      (λ u kept. lines_carried (n + 1) (room - (length line + 1)) (more_room - (length (other line) + 1)) u lines kept
      (omega (arith, le, shorter line))))
      (passes_limit room line (not (length lines == 0))) refl
    where
      rest : Result S (LineFault C)
      rest = at_line n (takes n s line) >>= λ u. read_from takes true (n + 1) (room - (length line + 1)) u lines

      part_rest : Result P (LineFault C)
      part_rest =
          at_line n (takes_part n (part s) (other line))
          >>= λ u. read_from takes_part true (n + 1) (more_room - (length (other line) + 1)) u (map other lines)

      by_limit : OkHas (λ u. part_rest ≡ Ok (part u)) rest → (b : Bool)
          → passes_limit room line (not (length lines == 0)) ≡ b
          → OkHas (λ u. read_from takes_part true n more_room (part s) (map other (line ∷ lines)) ≡ Ok (part u))
          (cond b (Err (record { line = n; stop = Input TooLong })) rest)
      by_limit further true h = tt
      by_limit further false h =
          let same : passes_limit more_room (other line) (not (length (map other lines) == 0)) ≡ false =
          rw (length-map lines other) (within room more_room line (other line) (not (length lines == 0)) le (shorter
          line) h) in
          rw same further
