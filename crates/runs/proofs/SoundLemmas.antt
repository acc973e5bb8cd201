-- What holds of a log that a carry begins, and of one that lines make behind another.
use Rattle.std.proofs.Common.{◌≡◌, ◌⊎◌, ℕ, zero, suc, ◌+◌, ◌-◌, ◌^◌, ◌<◌, ◌≤◌, ◌&&◌, ◌==◌, inl, inr, Bool, true, false, cond, eqb, List, [], ◌∷◌, ◌++◌, length, get_or, Option, Some, None, Result, Ok, Err, refl, sym, ◌∙◌, ap, subst, arith, append-nil, length-append}
use Rattle.std.specs.Prelude.{nat_lt, nat_le}
use Rattle.std.specs.List.{count_by}
use Rattle.std.proofs.lemmas.Bool.{eqb-true, leb-true, ltb-true}
use Rattle.std.proofs.lemmas.List.Recursion.{is_count_by}
use Rattle.std.proofs.lemmas.List.Splits.{length-slice_split}
use Rattle.serde_json.specs.Data.{Data}
use Rattle.serde_json.specs.Read.{read}
use Rattle.refusals.specs.Refusals.{◌>>=◌}
use Rattle.refusals.proofs.Steps.{OkHas, value_has}
use Rattle.json_lines.specs.Json.{of_json, taken_line}
use Rattle.json_lines.proofs.Counts.{last_byte}
use Rattle.json_lines.specs.Reading.{are_whole_lines, line_count, parts, read_from}
use Rattle.trace_lines.specs.LineValues.{LineValue, placed_at, put_line}
use Rattle.trace_lines.specs.LineValues as line
use Rattle.trace_lines.specs.Traces.{declaration_line, value_line, with_commit, with_entry}
use Rattle.trace_lines.specs.Values.{TraceValue, empty_trace, next_line}
use Rattle.trace_lines.specs.declared.cause.Cause.{Cause}
use Rattle.trace_lines.specs.declared.cause.Cause.TheVariants as causes
use Rattle.trace_lines.proofs.OfBytes.{IsSound, commits_of_sound, sound_commit, sound_declaration, sound_empty, sound_entry, sound_from, strata_of_sound, versions_of_sound}
use Rattle.trace_lines.proofs.RisingLines.{Fits, fits_commit, fits_declaration, fits_entry}
use Rattle.windows.proofs.GrowthLemmas.{begins_from, blank_line, lines_fit}
use Rattle.follow_laws.specs.Begun.{IsOfBytes}
use Rattle.carry.specs.Values.{CarryValue, ItemValue}
use Rattle.runs.specs.Begins.{line_of, log_from, log_of, with_item}
use Rattle.runs.specs.Faults.{refused_at}
use Rattle.runs.specs.Kept.{KeptValue, log_behind}
use Rattle.runs.specs.declared.fault.BeginFault.{BeginFault}
use Rattle.runs.specs.declared.fault.BeginFault.TheVariants.{OutOfOrder}
use Rattle.runs.proofs.DeclaredLemmas.{put, step}
use Rattle.runs.proofs.KeptReadLemmas.{said_lines}

pub of_bytes : (t : TraceValue) → IsSound t → IsOfBytes t
of_bytes t is = record {
  rising = record { commits = commits_of_sound t is; entries = is.rising };
  formed = record { lines = is.rising; versions = versions_of_sound t is; strata = strata_of_sound t is };
}

-- ---- the log that a carry begins

sound_put : (n : ℕ) (t u : TraceValue) (said : LineValue) → next_line t ≤ n → IsSound t → put_line n t said ≡ Ok u
    → IsSound u × (next_line u ≤ n + 1)
sound_put n t u (line.declares text) le is h = by_read (read text) h
  where
    by_read : (o : Option Data) → of_json causes.NotJson (declaration_line n t) o ≡ Ok u → IsSound u × (next_line u ≤ n + 1)
    by_read None h = cc
    by_read (Some d) h = (
      value_has IsSound (declaration_line n t d) u h (sound_declaration n t d le is),
      value_has (Fits n) (declaration_line n t d) u h (fits_declaration n t d le),
    )
sound_put n t u (line.commits c) le is h = (
  value_has IsSound (with_commit n t c) u h (sound_commit n t c le is),
  value_has (Fits n) (with_commit n t c) u h (fits_commit n t c le),
)
sound_put n t u (line.records e) le is h =
    let placed = placed_at n (length t.commits) e in (
      value_has IsSound (with_entry t placed) u h (sound_entry n t placed le refl is),
      value_has (Fits n) (with_entry t placed) u h (fits_entry n (length t.commits) t placed le (refl, refl)),
    )

in_order : (lines k last : ℕ) (t u : TraceValue) (i : ItemValue) → with_item lines k last t i ≡ Ok u
    → (last < i.line) × (i.line ≤ lines)
in_order lines k last t u i h = by_test (nat_lt last i.line) refl (nat_le i.line lines) refl h
  where
    by_test : (b : Bool) → nat_lt last i.line ≡ b → (c : Bool) → nat_le i.line lines ≡ c
        → cond (b && c) (refused_at k (put_line i.line t (line_of i.said))) (Err (OutOfOrder k)) ≡ Ok u
        → (last < i.line) × (i.line ≤ lines)
    by_test true lt true le h = (ltb-true last i.line lt, leb-true i.line lines le)
    by_test true lt false le h = cc
    by_test false lt c le h = cc

begun_from : (lines k last : ℕ) (t x : TraceValue) (is : List ItemValue) → next_line t ≤ last + 1 → last ≤ lines → IsSound t
    → log_from lines k last t is ≡ Ok x → IsSound x × (next_line x ≤ lines + 1)
begun_from lines k last t x [] fits low sound h =
    let same : t ≡ x = cc in
    subst (λ (u : TraceValue). IsSound u × (next_line u ≤ lines + 1)) same (sound, omega (arith, fits, low))
begun_from lines k last t x (i ∷ is) fits low sound h =
    let first = step (with_item lines k last t i) (λ u. log_from lines (k + 1) i.line u is) x h in
    let order = in_order lines k last t first.0 i first.1 in
    let next = sound_put i.line t first.0 (line_of i.said) (omega (arith, fits, order.0)) sound
    (put lines k last t first.0 i first.1) in
    begun_from lines (k + 1) i.line first.0 x is next.1 order.1 next.0 first.2

pub begun_sound : (c : CarryValue) (x : TraceValue) → log_of c ≡ Ok x → IsSound x × (next_line x ≤ c.lines + 1)
begun_sound c x begun = begun_from c.lines 0 0 empty_trace x c.items (omega arith) (omega arith) sound_empty begun

-- ---- lines behind a log

abbrev takes : ℕ → TraceValue → List ℕ → Result TraceValue Cause
takes = taken_line causes.NotJson value_line

ends_whole : (a : List ℕ) → are_whole_lines a ≡ true → (a ≡ []) ⊎ ((front : List ℕ) × (a ≡ front ++ 10 ∷ []))
ends_whole [] h = inl refl
ends_whole (x ∷ []) h = inr ([], ap (λ (b : ℕ). b ∷ []) (eqb-true x 10 h))
ends_whole (x ∷ y ∷ ys) h = elim (ends_whole (y ∷ ys) (sym (ap (λ (b : ℕ). eqb b 10) (last_byte (x ∷ []) y ys)) ∙ h)) [
  | inl none ↦ absurd (let no : y ∷ ys ≡ [] = none in cc)
  | inr lines ↦ inr (x ∷ lines.0, ap (λ (l : List ℕ). x ∷ l) lines.1)
]

abbrev newlines : List ℕ → ℕ
newlines [] = 0
newlines (x ∷ xs) = cond (eqb x 10) (1 + newlines xs) (newlines xs)

newlines_more : (xs : List ℕ) → newlines (xs ++ 10 ∷ []) ≡ newlines xs + 1
newlines_more [] = refl
newlines_more (x ∷ xs) = by_test (newlines (xs ++ 10 ∷ [])) (newlines xs) (newlines_more xs) (eqb x 10)
  where
    by_test : (more some : ℕ) → more ≡ some + 1 → (b : Bool) → cond b (1 + more) more ≡ cond b (1 + some) some + 1
    by_test more some rest true = omega (arith, rest)
    by_test more some rest false = rest

newlines_counted : (xs : List ℕ) → newlines xs ≡ count_by (λ b. eqb b 10) xs
newlines_counted = is_count_by newlines (λ b. eqb b 10) refl (λ x xs. refl)

counted_more : (xs : List ℕ) → count_by (λ b. eqb b 10) (xs ++ 10 ∷ []) ≡ count_by (λ b. eqb b 10) xs + 1
counted_more xs =
    let one = newlines_counted (xs ++ 10 ∷ []) in
    let two = newlines_counted xs in
    let more = newlines_more xs in
    omega (arith, one, two, more)

module _ (k : KeptValue) (fits : next_line k.log ≤ k.lines + 1) (a : List ℕ) (t : TraceValue) (said : log_behind k true a ≡ Ok t) where
  pub sound_behind : IsSound k.log → IsSound t
  sound_behind is = value_has IsSound _ t (said_lines k a t said) (sound_from (k.lines + 1) (2 ^ 30) k.log (parts a) (is, fits))

  -- its lines are those of the log, and as many more as the bytes have
  pub fits_behind : next_line t ≤ k.lines + line_count a + 1
  fits_behind = by_end (are_whole_lines a) refl
    where
      parts_counted : length (parts a) ≡ count_by (λ b. eqb b 10) a + 1
      parts_counted = length-slice_split (λ b. eqb b 10) a

      by_end : (b : Bool) → are_whole_lines a ≡ b → next_line t ≤ k.lines + line_count a + 1
      by_end false unended =
          let m = k.lines + 1 + length (parts a) in
          let low = value_has (λ (u : TraceValue). next_line u ≤ m) _ t (said_lines k a t said)
          (lines_fit m (k.lines + 1) (2 ^ 30) k.log (parts a) (omega arith) fits) in
          let counted : line_count a ≡ count_by (λ b. eqb b 10) a + 1 =
          ap (λ (b : Bool). count_by (λ b. eqb b 10) a + cond b 0 1) unended in
          omega (arith, low, counted, parts_counted)
      by_end true whole = elim (ends_whole a whole) [
        | inl none ↦
            let same : Ok k.log ≡ Ok t = sym (blank_line (k.lines + 1) (2 ^ 30) k.log)
            ∙ sym (ap (λ (xs : List ℕ). read_from takes true (k.lines + 1) (2 ^ 30) k.log (parts xs)) none) ∙ said_lines k a t said in
            let log : k.log ≡ t = cc in
            subst (λ (u : TraceValue). next_line u ≤ k.lines + line_count a + 1) log (omega (arith, fits))
        | inr lines ↦
            let front = lines.0 in
            let read = begins_from k.lines (2 ^ 30) k.log fits front [] t (sym (ap (λ (xs : List ℕ). read_from takes true (k.lines + 1)
            (2 ^ 30) k.log (parts xs)) (lines.1 ∙ sym (append-nil (front ++ 10 ∷ [])))) ∙ said_lines k a t said) in
            let both : Ok read.0 ≡ Ok t = sym read.1 ∙ sym (ap (λ (xs : List ℕ). read_from takes true (k.lines + 1)
            (2 ^ 30) k.log (parts xs)) lines.1) ∙ said_lines k a t said in
            let same : read.0 ≡ t = cc in
            let within = read.2.within in
            let some = length-slice_split (λ b. eqb b 10) front in
            let more = counted_more front in
            let counted : line_count a ≡ count_by (λ b. eqb b 10) a + 0 =
            ap (λ (b : Bool). count_by (λ b. eqb b 10) a + cond b 0 1) whole in
            let all = ap (count_by (λ b. eqb b 10)) lines.1 in
            subst (λ (u : TraceValue). next_line u ≤ k.lines + line_count a + 1) same (omega (arith, within, some, more, counted, all))
      ]
