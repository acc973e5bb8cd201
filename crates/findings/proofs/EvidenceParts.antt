-- Evidence whose records for entries of other objects are blank reads as the evidence of the part.
use Rattle.std.proofs.Common.{◌≡◌, ℕ, zero, suc, ◌+◌, ◌<◌, ◌≤◌, ◌^◌, ◌==◌, ◌&&◌, ◌||◌, not, Bool, true, false, cond, ltb, List, [], ◌∷◌, length, map, take, replicate, Option, Some, None, Result, Ok, Err, refl, sym, ◌∙◌, ap, subst, arith}
use Rattle.std.specs.Prelude.{codes, filter, slice_get, slice_set}
use Rattle.std.specs.List.{position_from}
use Rattle.std.specs.List.Sorted.{IsStrictlyIncreasing}
use Rattle.std.specs.Str.{is_utf8}
use Rattle.std.proofs.lemmas.Bool.{eqb-true, eq-eqb, not-false, or_parts}
use Rattle.std.proofs.lemmas.Iterator.Adapters.{position_from-zero}
use Rattle.std.proofs.lemmas.Option.{same_Some, slice_get_within, get_or_from_slice_get}
use Rattle.serde_json.specs.Data.{Data}
use Rattle.serde_json.specs.Read.{read}
use Rattle.marks.proofs.PlacedLemmas.{length-set}
use Rattle.refusals.specs.Refusals.{◌>>=◌, needed}
use Rattle.refusals.proofs.Steps.{OkHas, either_passes}
use Rattle.json_lines.specs.Fields.{number_at}
use Rattle.json_lines.specs.Json.{is_blank, of_json, json_line, taken_line}
use Rattle.json_lines.specs.Reading.{read_from, read_all, parts}
use Rattle.json_lines.specs.declared.reading.LineFault.{LineFault}
use Rattle.trace_lines.specs.Values.{EntryValue, TraceValue, entry_lines}
use Rattle.evidence_check.specs.Evidences.{steps_of}
use Rattle.evidence_check.specs.Reading.{steps_at, steps_in, known_steps, place_of, is_taken, fact_count, put_steps, placed_steps, record_line, faulted, no_records, evidence_of}
use Rattle.evidence_check.specs.Records.{Records}
use Rattle.evidence_check.specs.Steps.{StepValue}
use Rattle.evidence_check.specs.declared.cause.EvidenceCause.{EvidenceCause}
use Rattle.evidence_check.specs.declared.cause.EvidenceCause.TheVariants as causes
use Rattle.findings.specs.Parts.{is_of, part_of, evidence_from, evidence_of_part}
use Rattle.findings.specs.PartEvidence.{is_line_of_others, names_others, is_record_of_others, record_of_part, IsPartOfEvidence}
use Rattle.findings.proofs.PartLines.{lines_carried}
use Rattle.findings.proofs.WrongReplies.{one_entry}

abbrev Given : Type 0
Given = List (Option (List StepValue))

-- ---- steps that are put in a place

steps_kept : (s : Given) (p i : ℕ) (o : Option (List StepValue)) → (p ≡ i → ⊥)
    → steps_of (slice_set s p o) i ≡ steps_of s i
steps_kept [] p i o other = refl
steps_kept (x ∷ xs) zero zero o other = absurd (other refl)
steps_kept (x ∷ xs) zero (suc i) o other = refl
steps_kept (x ∷ xs) (suc p) zero o other = refl
steps_kept (x ∷ xs) (suc p) (suc i) o other = steps_kept xs p i o (λ e. other (ap suc e))

steps_put : (s : Given) (p : ℕ) (o : Option (List StepValue)) → p < length s → steps_of (slice_set s p o) p ≡ o
steps_put [] p o lt = absurd (omega (arith, lt))
steps_put (x ∷ xs) zero o lt = refl
steps_put (x ∷ xs) (suc p) o lt = steps_put xs p o (omega (arith, lt))

same_taken : (s : Given) (p : ℕ) → is_taken (slice_get s p) ≡ is_taken (Some (steps_of s p))
same_taken [] p = refl
same_taken (None ∷ xs) zero = refl
same_taken (Some x ∷ xs) zero = refl
same_taken (x ∷ xs) (suc p) = same_taken xs p

module _ (objects : List ℕ → List ℕ → Bool) where
  -- the entries of these objects
  abbrev own : List EntryValue → List EntryValue
  own es = filter (is_of objects) es

  -- the place in the part of what stands at a place of the whole
  abbrev place_in : ℕ → List EntryValue → ℕ
  place_in k es = length (own (take k es))

  -- an entry more, for which there are the same steps
  one_more : (s t : Given) (i : ℕ) (es : List EntryValue) (b : Bool) → steps_of t i ≡ steps_of s i
      → evidence_from objects t (i + 1) es ≡ evidence_from objects s (i + 1) es
      → cond b (steps_of t i ∷ evidence_from objects t (i + 1) es) (evidence_from objects t (i + 1) es)
      ≡ cond b (steps_of s i ∷ evidence_from objects s (i + 1) es) (evidence_from objects s (i + 1) es)
  one_more s t i es true here rest = rw (here, rest) refl
  one_more s t i es false here rest = rest

  behind : (s : Given) (p : ℕ) (o : Option (List StepValue)) (i : ℕ) (es : List EntryValue) → p < i
      → evidence_from objects (slice_set s p o) i es ≡ evidence_from objects s i es
  behind s p o i [] lt = refl
  behind s p o i (e ∷ es) lt =
      one_more s (slice_set s p o) i es (is_of objects e) (steps_kept s p i o (λ h. omega (arith, h, lt)))
      (behind s p o (i + 1) es (omega (arith, lt)))

  put_other : (s : Given) (p : ℕ) (o : Option (List StepValue)) (i : ℕ) (es : List EntryValue) (k : ℕ) (e : EntryValue)
      → p ≡ i + k → slice_get es k ≡ Some e → is_of objects e ≡ false
      → evidence_from objects (slice_set s p o) i es ≡ evidence_from objects s i es
  put_other s p o i [] k e at there other = cc
  put_other s p o i (x ∷ xs) zero e at there other =
      let here : is_of objects x ≡ false = ap (is_of objects) (same_Some x e there) ∙ other in
      rw here (behind s p o (i + 1) xs (omega (arith, at)))
  put_other s p o i (x ∷ xs) (suc k) e at there other =
      one_more s (slice_set s p o) i xs (is_of objects x) (steps_kept s p i o (λ h. omega (arith, h, at)))
      (put_other s p o (i + 1) xs k e (omega (arith, at)) there other)

  put_own : (s : Given) (p : ℕ) (o : Option (List StepValue)) (i : ℕ) (es : List EntryValue) (k : ℕ) (e : EntryValue)
      → p ≡ i + k → p < length s
      → slice_get es k ≡ Some e → is_of objects e ≡ true
      → evidence_from objects (slice_set s p o) i es ≡ slice_set (evidence_from objects s i es) (place_in k es) o
  put_own s p o i [] k e at lt there kept = cc
  put_own s p o i (x ∷ xs) zero e at lt there kept =
      let here : is_of objects x ≡ true = ap (is_of objects) (same_Some x e there) ∙ kept in
      let place : p ≡ i = omega (arith, at) in
      let put : steps_of (slice_set s p o) i ≡ o = subst (λ (n : ℕ). steps_of (slice_set s p o) n ≡ o) place (steps_put
      s p o lt) in
      rw (here, put, behind s p o (i + 1) xs (omega (arith, at))) refl
  put_own s p o i (x ∷ xs) (suc k) e at lt there kept =
      by_test (is_of objects x) (steps_kept s p i o (λ h. omega (arith, h, at))) (put_own s p o (i + 1) xs k e (omega
      (arith, at)) lt there kept)
    where
      by_test : (b : Bool) → steps_of (slice_set s p o) i ≡ steps_of s i
          → evidence_from objects (slice_set s p o) (i + 1) xs ≡ slice_set (evidence_from objects s (i + 1) xs)
          (place_in k xs) o
          → cond b (steps_of (slice_set s p o) i ∷ evidence_from objects (slice_set s p o) (i + 1) xs) (evidence_from
          objects (slice_set s p o) (i + 1) xs)
          ≡ slice_set (cond b (steps_of s i ∷ evidence_from objects s (i + 1) xs) (evidence_from objects s (i + 1) xs))
          (length (cond b (x ∷ own (take k xs)) (own (take k xs)))) o
      by_test true here rest = rw (here, rest) refl
      by_test false here rest = rest

  own_at : (s : Given) (i : ℕ) (es : List EntryValue) (k : ℕ) (e : EntryValue) → slice_get es k ≡ Some e
      → is_of objects e ≡ true
      → slice_get (evidence_from objects s i es) (place_in k es) ≡ Some (steps_of s (i + k))
  own_at s i [] k e there kept = cc
  own_at s i (x ∷ xs) zero e there kept =
      let here : is_of objects x ≡ true = ap (is_of objects) (same_Some x e there) ∙ kept in
      let place : i ≡ i + 0 = omega arith in
      rw here (ap (λ (n : ℕ). Some (steps_of s n)) place)
  own_at s i (x ∷ xs) (suc k) e there kept =
      let place : i + 1 + k ≡ i + suc k = omega arith in
      by_test (is_of objects x) (own_at s (i + 1) xs k e there kept ∙ ap (λ (n : ℕ). Some (steps_of s n)) place)
    where
      by_test : (b : Bool)
          → slice_get (evidence_from objects s (i + 1) xs) (place_in k xs) ≡ Some (steps_of s (i + suc k))
          → slice_get (cond b (steps_of s i ∷ evidence_from objects s (i + 1) xs) (evidence_from objects s (i + 1) xs))
          (length (cond b (x ∷ own (take k xs)) (own (take k xs)))) ≡ Some (steps_of s (i + suc k))
      by_test true rest = rest
      by_test false rest = rest

  -- ---- the entry that a record names

  -- the entry at a place is the first on a line, in the whole and, where it is of these objects, in the part
  record IsFirstOn (n i j p : ℕ) (es : List EntryValue) : Type 0 where
    pub k : ℕ
    pub e : EntryValue
    pub place : p ≡ i + k
    pub there : slice_get es k ≡ Some e
    pub line : e.line ≡ n
    pub in_part : is_of objects e ≡ true
        → position_from (λ l. l == n) j (entry_lines (own es)) ≡ Some (j + place_in k es)

  -- the place behind, one further where an entry is kept
  abbrev shifted : ℕ → Bool → ℕ
  shifted j true = j + 1
  shifted j false = j

  first_on : (n i j : ℕ) (es : List EntryValue) (p : ℕ) → position_from (λ l. l == n) i (entry_lines es) ≡ Some p
      → IsFirstOn n i j p es
  first_on n i j [] p h = cc
  first_on n i j (x ∷ xs) p h = by_line (first_on n (i + 1) (shifted j (is_of objects x)) xs p) (x.line == n) refl h
    where
      by_kept : (b : Bool) (k : ℕ) → (x.line == n) ≡ false
          → position_from (λ l. l == n) (shifted j b) (entry_lines (own xs)) ≡ Some (shifted j b + place_in k xs)
          → position_from (λ l. l == n) j (entry_lines (cond b (x ∷ own xs) (own xs))) ≡ Some (j + length (cond b (x ∷
          own (take k xs)) (own (take k xs))))
      by_kept true k other rest = let same : j + 1 + place_in k xs ≡ j + suc (place_in k xs) = omega arith in
          rw other (rest ∙ ap (λ (m : ℕ). Some m) same)
      by_kept false k other rest = rest

      by_line : (position_from (λ l. l == n) (i + 1) (entry_lines xs) ≡ Some p
          → IsFirstOn n (i + 1) (shifted j (is_of objects x)) p xs)
          → (b : Bool) → (x.line == n) ≡ b
          → cond b (Some i) (position_from (λ l. l == n) (i + 1) (entry_lines xs)) ≡ Some p
          → IsFirstOn n i j p (x ∷ xs)
      by_line further true is h =
          let place = same_Some i p h in
          record {
            k = 0;
            e = x;
            place = omega (arith, place);
            there = refl;
            line = eqb-true x.line n is;
            in_part = λ kept. let same : j ≡ j + 0 = omega arith in rw (kept, is) (ap (λ (m : ℕ). Some m) same);
          }
      by_line further false is h =
          let rest = further h in
          let place = rest.place in
          record {
            k = suc rest.k;
            e = rest.e;
            place = omega (arith, place);
            there = rest.there;
            line = rest.line;
            in_part = λ kept. by_kept (is_of objects x) rest.k is (rest.in_part kept);
          }

  -- who stands on a line that is none of others is of these objects
  pub of_these : (es : List EntryValue) (n k : ℕ) (e : EntryValue) → slice_get es k ≡ Some e → e.line ≡ n
      → is_line_of_others objects es n ≡ false → is_of objects e ≡ true
  of_these [] n k e at line none = cc
  of_these (x ∷ xs) n zero e at line none =
      let same = same_Some x e at in
      let on : (x.line == n) ≡ true = eq-eqb x.line n (ap (λ (y : EntryValue). y.line) same ∙ line) in
      let parts = or_parts ((x.line == n) && not (is_of objects x)) (is_line_of_others objects xs n) none in
      ap (is_of objects) (sym same)
      ∙ not-false (is_of objects x) (sym (ap (λ (b : Bool). b && not (is_of objects x)) on) ∙ parts.0)
  of_these (x ∷ xs) n (suc k) e at line none =
      of_these xs n k e at line (or_parts ((x.line == n) && not (is_of objects x)) (is_line_of_others objects xs n)
      none).1

  -- an entry of another object on the line
  pub record IsOther (es : List EntryValue) (n : ℕ) : Type 0 where
    pub k : ℕ
    pub e : EntryValue
    pub there : slice_get es k ≡ Some e
    pub line : e.line ≡ n
    pub other : is_of objects e ≡ false

  pub some_other : (es : List EntryValue) (n : ℕ) → is_line_of_others objects es n ≡ true → IsOther es n
  some_other [] n h = cc
  some_other (x ∷ xs) n h = by_test (some_other xs n) (x.line == n) refl (is_of objects x) refl h
    where
      further : IsOther xs n → IsOther (x ∷ xs) n
      further rest = record { k = suc rest.k; e = rest.e; there = rest.there; line = rest.line; other = rest.other }

      by_test : (is_line_of_others objects xs n ≡ true → IsOther xs n) → (b : Bool) → (x.line == n) ≡ b → (c : Bool)
          → is_of objects x ≡ c
          → ((b && not c) || is_line_of_others objects xs n) ≡ true → IsOther (x ∷ xs) n
      by_test rest true on false other h = record {
        k = 0;
        e = x;
        there = refl;
        line = eqb-true x.line n on;
        other =
            other;
      }
      by_test rest true on true kept h = further (rest h)
      by_test rest false on c is h = further (rest h)

module _ (objects : List ℕ → List ℕ
    → Bool) (es : List EntryValue) (rising : IsStrictlyIncreasing (entry_lines es)) where
  -- the records of the part
  abbrev part : Records → Records
  part r = record { lines = entry_lines (own objects es); steps = evidence_from objects r.steps 0 es }

  -- the records are for these entries
  record Keeps (r : Records) : Type 0 where
    pub lines : r.lines ≡ entry_lines es
    pub counted : length r.steps ≡ length es

  abbrev Carries : Result Records EvidenceCause → Result Records EvidenceCause → Type 0
  Carries whole of_part = OkHas (λ u. Keeps u × (of_part ≡ Ok (part u))) whole

  abbrev Drops : Records → Result Records EvidenceCause → Type 0
  Drops r whole = OkHas (λ u. Keeps u × (part r ≡ part u)) whole

  module _ (r : Records) (keeps : Keeps r) where
    kept_after : (p : ℕ) (steps : List StepValue) → Keeps (record r { steps = slice_set r.steps p (Some steps) })
    kept_after p steps = record { lines = keeps.lines; counted = length-set r.steps p (Some steps) ∙ keeps.counted }

    put_carried : (n p : ℕ) (f : IsFirstOn objects n 0 0 p es) → is_of objects f.e ≡ true → (steps : List StepValue)
        → Carries (put_steps r p steps) (put_steps (part r) (place_in objects f.k es) steps)
    unfolding put_steps
    put_carried n p f kept steps = by_taken (is_taken (slice_get r.steps p)) (is_taken (slice_get (part r).steps
        (place_in objects f.k es))) taken (ltb 100000 (fact_count steps))
      where
        place : f.k ≡ p
        place = let same = f.place in omega (arith, same)

        inside : p < length r.steps
        inside = let within = slice_get_within es f.k f.e f.there in let counted = keeps.counted in
            let same = f.place in omega (arith, within, counted, same)

        taken : is_taken (slice_get (part r).steps (place_in objects f.k es)) ≡ is_taken (slice_get r.steps p)
        taken =
            let here : 0 + f.k ≡ p = omega (arith, place) in
            ap is_taken (own_at objects r.steps 0 es f.k f.e f.there kept)
            ∙ ap (λ (m : ℕ). is_taken (Some (steps_of r.steps m))) here ∙ sym (same_taken r.steps p)

        by_taken : (a b : Bool) → b ≡ a → (c : Bool)
            → Carries (cond a (Err causes.RepeatedLine) (cond c (Err causes.TooMany) (Ok (record r {
              steps = slice_set
                  r.steps p (Some steps);
            }))))
            (cond b (Err causes.RepeatedLine) (cond c (Err causes.TooMany) (Ok (record (part r) {
              steps = slice_set
                  (part r).steps (place_in objects f.k es) (Some steps);
            }))))
        by_taken true b same c = tt
        by_taken false true same c = cc
        by_taken false false same true = tt
        by_taken false false same false = (
          kept_after p steps,
          ap (λ (s : Given). Ok (record (part r) { steps = s })) (sym (put_own objects r.steps p (Some steps) 0 es f.k
              f.e f.place inside f.there kept)),
        )

    put_dropped : (n p : ℕ) (f : IsFirstOn objects n 0 0 p es) → is_of objects f.e ≡ false → (steps : List StepValue)
        → Drops r (put_steps r p steps)
    unfolding put_steps
    put_dropped n p f other steps =
        either_passes _ (is_taken (slice_get r.steps p)) _ _ tt
        (either_passes _ (ltb 100000 (fact_count steps)) _ _ tt (
          kept_after p steps,
          ap (λ (s : Given). record (part r) { steps = s }) (sym (put_other objects r.steps p (Some steps) 0 es f.k f.e
              f.place f.there other)),
        ))

    found : (n p : ℕ) → place_of n r.lines ≡ Some p → IsFirstOn objects n 0 0 p es
    found n p at = first_on objects n 0 0 es p (sym (position_from-zero (λ l. l == n) (entry_lines es))
        ∙ sym (ap (place_of n) keeps.lines) ∙ at)

    -- ---- a record

    abbrev Placed : Type 0
    Placed = Result (ℕ × List StepValue) EvidenceCause

    abbrev Alike : Placed → Placed → Type 0
    Alike whole of_part = Carries (whole >>= λ p. put_steps r p.0 p.1) (of_part >>= λ p. put_steps (part r) p.0 p.1)

    alike_then : {X : Type 0} (m : Result X EvidenceCause) (f g : X → Placed) → ((x : X) → Alike (f x) (g x))
        → Alike (m >>= f) (m >>= g)
    alike_then (Ok x) f g k = k x
    alike_then (Err e) f g k = tt

    abbrev Dropped : Placed → Type 0
    Dropped whole = Drops r (whole >>= λ p. put_steps r p.0 p.1)

    dropped_then : {X : Type 0} (m : Result X EvidenceCause) (f : X → Placed) → ((x : X) → Dropped (f x))
        → Dropped (m >>= f)
    dropped_then (Ok x) f k = k x
    dropped_then (Err e) f k = tt

    abbrev read_steps : List ℕ → Data → ℕ → Placed
    read_steps lines d line =
        needed causes.Shape (steps_at d) >>= λ items. steps_in items >>= λ read. known_steps items read
        >>= λ steps. needed causes.StrayLine (place_of line lines) >>= λ place. Ok (place, steps)

    placed_alike : (n : ℕ) (steps : List StepValue) → is_line_of_others objects es n ≡ false → (o : Option ℕ)
        → place_of n r.lines ≡ o
        → Alike (needed causes.StrayLine o >>= λ place. Ok (place, steps)) (needed causes.StrayLine (place_of n
        (entry_lines (own objects es))) >>= λ place. Ok (place, steps))
    placed_alike n steps none None at = tt
    placed_alike n steps none (Some p) at =
        let f = found n p at in
        let kept = of_these objects es n f.k f.e f.there f.line none in
        let there : place_of n (entry_lines (own objects es)) ≡ Some (place_in objects f.k es) =
        position_from-zero (λ l. l == n) (entry_lines (own objects es)) ∙ f.in_part kept
        ∙ ap (λ (m : ℕ). Some m) (let same : 0 + place_in objects f.k es ≡ place_in objects f.k es = omega arith in
        same) in
        rw there (put_carried n p f kept steps)

    placed_dropped : (n : ℕ) (steps : List StepValue) → is_line_of_others objects es n ≡ true → (o : Option ℕ)
        → place_of n r.lines ≡ o
        → Dropped (needed causes.StrayLine o >>= λ place. Ok (place, steps))
    placed_dropped n steps some None at = tt
    placed_dropped n steps some (Some p) at =
        let f = found n p at in
        let x = some_other objects es n some in
        let within = slice_get_within es x.k x.e x.there in
        let same : f.e ≡ x.e =
        one_entry es rising f.k x.k f.e x.e f.there within (f.line ∙ sym x.line
        ∙ sym (ap (λ (y : EntryValue). y.line) (get_or_from_slice_get es x.k x.e x.e x.there)))
        ∙ get_or_from_slice_get es x.k x.e x.e x.there in
        put_dropped n p f (ap (is_of objects) same ∙ x.other) steps

    record_carried : (d : Data) → is_record_of_others objects es (Some d) ≡ false
        → Carries (record_line r d) (record_line (part r) d)
    unfolding record_line placed_steps
    record_carried d none = by_line (number_at (codes "line") d) none
      where
        by_line : (o : Option ℕ) → names_others objects es o ≡ false
            → Alike (needed causes.Shape o >>= read_steps r.lines d) (needed causes.Shape o >>= read_steps (entry_lines
            (own objects es)) d)
        by_line None none = tt
        by_line (Some n) none =
            alike_then (needed causes.Shape (steps_at d)) _ _
            (λ items. alike_then (steps_in items) _ _
            (λ read. alike_then (known_steps items read) _ _ (λ steps. placed_alike n steps none (place_of n r.lines)
            refl)))

    record_dropped : (d : Data) → is_record_of_others objects es (Some d) ≡ true → Drops r (record_line r d)
    unfolding record_line placed_steps
    record_dropped d some = by_line (number_at (codes "line") d) some
      where
        by_line : (o : Option ℕ) → names_others objects es o ≡ true
            → Dropped (needed causes.Shape o >>= read_steps r.lines d)
        by_line None some = cc
        by_line (Some n) some =
            dropped_then (needed causes.Shape (steps_at d)) _
            (λ items. dropped_then (steps_in items) _
            (λ read. dropped_then (known_steps items read) _ (λ steps. placed_dropped n steps some (place_of n r.lines)
            refl)))

  -- ---- a line

  abbrev taken : ℕ → Records → List ℕ → Result Records EvidenceCause
  taken n r line = taken_line causes.NotJson (λ n. record_line) n r line

  carries_if : (b : Bool) (x y x2 y2 : Result Records EvidenceCause) → Carries x x2 → Carries y y2
      → Carries (cond b x y) (cond b x2 y2)
  carries_if true x y x2 y2 h k = h
  carries_if false x y x2 y2 h k = k

  text_carried : (r : Records) (line : List ℕ) → Keeps r
      → (is_utf8 line && is_record_of_others objects es (read line)) ≡ false
      → Carries (json_line causes.NotJson (record_line r) line) (json_line causes.NotJson (record_line (part r)) line)
  unfolding json_line
  text_carried r line keeps = by_utf8 (is_utf8 line) (read line)
    where
      by_utf8 : (b : Bool) (o : Option Data) → (b && is_record_of_others objects es o) ≡ false
          → Carries (cond b (of_json causes.NotJson (record_line r) o) (Err causes.NotJson)) (cond b (of_json
          causes.NotJson (record_line (part r)) o) (Err causes.NotJson))
      by_utf8 true None h = tt
      by_utf8 true (Some d) h = record_carried r keeps d h
      by_utf8 false o h = tt

  text_dropped : (r : Records) (line : List ℕ) → Keeps r
      → (is_utf8 line && is_record_of_others objects es (read line)) ≡ true
      → Drops r (json_line causes.NotJson (record_line r) line)
  unfolding json_line
  text_dropped r line keeps = by_utf8 (is_utf8 line) (read line)
    where
      by_utf8 : (b : Bool) (o : Option Data) → (b && is_record_of_others objects es o) ≡ true
          → Drops r (cond b (of_json causes.NotJson (record_line r) o) (Err causes.NotJson))
      by_utf8 true None h = cc
      by_utf8 true (Some d) h = record_dropped r keeps d h
      by_utf8 false o h = cc

  each_line : (n : ℕ) (r : Records) (line : List ℕ) → Keeps r
      → Carries (taken n r line) (taken n (part r) (record_of_part objects es line))
  each_line n r line keeps = by_test (is_utf8 line && is_record_of_others objects es (read line)) refl
    where
      dropped : (whole : Result Records EvidenceCause) → Drops r whole → Carries whole (Ok (part r))
      dropped (Ok u) g = (g.0, ap Ok g.1)
      dropped (Err e) g = tt

      by_test : (b : Bool) → (is_utf8 line && is_record_of_others objects es (read line)) ≡ b
          → Carries (taken n r line) (taken n (part r) (cond b [] line))
      by_test true h = dropped (taken n r line) (either_passes _ (is_blank line) (Ok r) _ (keeps, refl) (text_dropped r
          line keeps h))
      by_test false h = carries_if (is_blank line) _ _ _ _ (keeps, refl) (text_carried r line keeps h)

shorter : (objects : List ℕ → List ℕ → Bool) (es : List EntryValue) (line : List ℕ)
    → length (record_of_part objects es line) ≤ length line
shorter objects es line = by_test (is_utf8 line && is_record_of_others objects es (read line))
  where
    by_test : (b : Bool) → length (cond b [] line) ≤ length line
    by_test true = omega arith
    by_test false = omega arith

-- ---- all lines

none_yet : (n i : ℕ) → steps_of (replicate n None) i ≡ None
none_yet zero i = refl
none_yet (suc n) zero = refl
none_yet (suc n) (suc i) = none_yet n i

part_of_none : (objects : List ℕ → List ℕ → Bool) (n i : ℕ) (es : List EntryValue)
    → evidence_from objects (replicate n None) i es ≡ replicate (length (own objects es)) None
part_of_none objects n i [] = refl
part_of_none objects n i (e ∷ es) = by_test (is_of objects e) (none_yet n i) (part_of_none objects n (i + 1) es)
  where
    by_test : (b : Bool) → steps_of (replicate n None) i ≡ None
        → evidence_from objects (replicate n None) (i + 1) es ≡ replicate (length (own objects es)) None
        → cond b (steps_of (replicate n None) i ∷ evidence_from objects (replicate n None) (i + 1) es) (evidence_from
        objects (replicate n None) (i + 1) es) ≡ replicate (length (cond b (e ∷ own objects es) (own objects es)))
        None
    by_test true here rest = rw (here, rest) refl
    by_test false here rest = rest

abbrev none_of : ℕ → Given
none_of n = replicate n None

as_many : (n : ℕ) → length (none_of n) ≡ n
as_many zero = refl
as_many (suc n) = ap suc (as_many n)

pub bytes_of_evidence_law : (objects : List ℕ → List ℕ → Bool) (t : TraceValue)
    → IsStrictlyIncreasing (entry_lines t.entries) → (bytes part : List ℕ) (given : Given)
    → evidence_of t.entries true bytes ≡ Ok given → IsPartOfEvidence objects t.entries part bytes
    → evidence_of (part_of objects t).entries true part ≡ Ok (evidence_of_part objects t given)
unfolding read_all
bytes_of_evidence_law objects t rising bytes cut given h same =
    let es = t.entries in
    let reads : Records → List (List ℕ)
    → Result Records (LineFault EvidenceCause) = read_from (taken objects es rising) true 1 (2 ^ 30) in
    let none : part objects es rising (no_records es) ≡ no_records (own objects es) =
    ap (λ (s : Given). record { lines = entry_lines (own objects es); steps = s }) (part_of_none objects (length es) 0
    es) in
    let all = lines_carried (taken objects es rising) (taken objects es rising) (part objects es rising) (Keeps objects
    es rising) (record_of_part objects es) (shorter objects es)
    (each_line objects es rising) 1 (2 ^ 30) (2 ^ 30) (no_records es) (parts bytes) (record {
      lines = refl;
      counted =
          as_many (length es);
    }) (omega arith) in
    ap (λ ls. faulted (reads (no_records (own objects es)) ls)) same
    ∙ ap (λ (r : Records). faulted (reads r (map (record_of_part objects es) (parts bytes)))) (sym none)
    ∙ read_part (reads (part objects es rising (no_records es)) (map (record_of_part objects es) (parts bytes))) (reads
    (no_records es) (parts bytes)) all h
  where
    read_part : (p r : Result Records (LineFault EvidenceCause))
        → OkHas (λ u. p ≡ Ok (part objects t.entries rising u)) r → faulted r ≡ Ok given
        → faulted p ≡ Ok (evidence_from objects given 0 t.entries)
    read_part p (Ok u) is made = let steps : u.steps ≡ given = cc in ap faulted is
        ∙ ap (λ (s : Given). Ok (evidence_from objects s 0 t.entries)) steps
    read_part p (Err e) is made = cc
