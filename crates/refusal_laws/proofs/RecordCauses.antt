-- A record of evidence is refused for the least cause that applies.
use Rattle.std.proofs.Common.{◌≡◌, ℕ, suc, ◌+◌, ◌&&◌, Bool, true, false, List, [], ◌∷◌, length, Option, None, Some, Result, Ok, Err, inl, inr, refl, sym, ap, ◌∙◌, subst, arith}
use Rattle.std.specs.Prelude.{IsSomeAnd, is_some, nat_lt, option_map, option_and_then, slice_get, slice_set, codes, if◌then◌else◌}
use Rattle.std.proofs.lemmas.Bool.{ltb-true, lt-ltb}
use Rattle.std.proofs.lemmas.List.{length-append}
use Rattle.serde_json.specs.Data.{Data, null, boolean, number, string, array, object, Items, no_items, item}
use Rattle.serde_json.specs.Find.{get, as_array, as_object}
use Rattle.tuple_text.specs.Reading.{fact_at}
use Rattle.tuple_text.specs.Tuples.{FactValue}
use Rattle.tuple_text.specs.declared.fault.TupleFault.{TupleFault}
use Rattle.refusals.specs.Refusals.{◌>>=◌, needed}
use Rattle.json_lines.specs.Fields.{number_at, are_strings}
use Rattle.evidence_check.specs.Causes.{text_cause}
use Rattle.evidence_check.specs.Reading.{yes_of, no_of, are_known, has_shape, is_step, are_shaped, if_shaped, steps_at, facts_in, step_from, step_in, steps_in, in_front, count_of, fact_count, place_of, is_taken, put_steps, placed_steps, record_line}
use Rattle.evidence_check.specs.Records.{Records}
use Rattle.evidence_check.specs.Steps.{StepValue, yes_step, no_step}
use Rattle.evidence_check.specs.declared.cause.EvidenceCause.{EvidenceCause}
use Rattle.evidence_check.specs.declared.cause.EvidenceCause.TheVariants as causes
use Rattle.refusal_laws.specs.LeastCause.{TellsTheLeast, first_fault, fault_or}
use Rattle.refusal_laws.specs.TraceCauses.{texts_of}
use Rattle.refusal_laws.specs.EvidenceCauses as spec
use Rattle.refusal_laws.specs.EvidenceCauses.{RecordFields, record_fields, step_texts, fact_texts, AppliesToRecord}
use Rattle.refusal_laws.proofs.Least.{chain, AreRising, IsFault, one_meets, tells_the_least, tells_the_only, first_of_two, first_fault-append}

-- ---- the texts of steps

-- what is read of texts: their first fault, or something that counts as many as they are
abbrev ReadsAs : {X : Type 0} → (X → ℕ) → Result X EvidenceCause → Option TupleFault → ℕ → Type 0
ReadsAs {X} count r None k = (x : X) × (r ≡ Ok x) × (count x ≡ k)
ReadsAs count r (Some f) k = r ≡ Err (causes.Text f)

abbrev count_in : Option StepValue → ℕ
count_in None = 0
count_in (Some s) = count_of s

facts_read : (ds : Items) → are_strings ds ≡ true → ReadsAs (λ (fs : List FactValue). length fs) (facts_in ds) (first_fault fact_at (texts_of ds)) (length (texts_of ds))
facts_read no_items are = ([], refl, refl)
facts_read (item (string s) ds) are = by_result (fact_at s) (first_fault fact_at (texts_of ds)) (facts_read ds are)
  where
    by_result : (r : Result FactValue TupleFault) (o : Option TupleFault)
        → ReadsAs (λ (fs : List FactValue). length fs) (facts_in ds) o (length (texts_of ds))
        → ReadsAs (λ (fs : List FactValue). length fs) (text_cause r >>= λ f. facts_in ds >>= λ fs. Ok (f ∷ fs)) (fault_or r o) (suc (length (texts_of ds)))
    by_result (Err f) o h = refl
    by_result (Ok f) None (fs, is, long) = (f ∷ fs, rw is refl, omega (arith, long))
    by_result (Ok f) (Some g) is = rw is refl
facts_read (item null ds) are = absurd (cc)
facts_read (item (boolean b) ds) are = absurd (cc)
facts_read (item (number n) ds) are = absurd (cc)
facts_read (item (array es) ds) are = absurd (cc)
facts_read (item (object ms) ds) are = absurd (cc)

both : (a b : Bool) → (a && b) ≡ true → (a ≡ true) × (b ≡ true)
both true true h = (refl, refl)
both true false h = absurd (cc)
both false b h = absurd (cc)

step_read : (one all : Option Data) → has_shape one all ≡ true
    → ReadsAs count_in (step_from one all) (first_fault fact_at (step_texts one all)) (length (step_texts one all))
step_read (Some (string s)) all shape = by_result (fact_at s)
  where
    by_result : (r : Result FactValue TupleFault)
        → ReadsAs count_in (text_cause r >>= λ f. Ok (Some (yes_step f))) (fault_or r None) 1
    by_result (Ok f) = (Some (yes_step f), refl, refl)
    by_result (Err f) = refl
step_read (Some null) all shape = absurd (cc)
step_read (Some (boolean b)) all shape = absurd (cc)
step_read (Some (number n)) all shape = absurd (cc)
step_read (Some (array es)) all shape = absurd (cc)
step_read (Some (object ms)) all shape = absurd (cc)
step_read None (Some (array ds)) shape = by_result (first_fault fact_at (texts_of ds)) (facts_read ds shape)
  where
    by_result : (o : Option TupleFault) → ReadsAs (λ (fs : List FactValue). length fs) (facts_in ds) o (length (texts_of ds))
        → ReadsAs count_in (facts_in ds >>= λ fs. Ok (Some (no_step fs))) o (length (texts_of ds))
    by_result None (fs, is, long) = (Some (no_step fs), rw is refl, long)
    by_result (Some f) is = rw is refl
step_read None (Some null) shape = absurd (cc)
step_read None (Some (boolean b)) shape = absurd (cc)
step_read None (Some (number n)) shape = absurd (cc)
step_read None (Some (string s)) shape = absurd (cc)
step_read None (Some (object ms)) shape = absurd (cc)
step_read None None shape = (None, refl, refl)

steps_read : (ds : Items) → are_shaped ds ≡ true → ReadsAs fact_count (steps_in ds) (first_fault fact_at (fact_texts ds)) (length (fact_texts ds))
steps_read no_items shaped = ([], refl, refl)
steps_read (item d ds) shaped =
    let parts = both (is_step d) (are_shaped ds) shaped in
    let shape = both (is_some (as_object d)) (has_shape (yes_of d) (no_of d)) parts.0 in
    rw (first_fault-append fact_at (step_texts (yes_of d) (no_of d)) (fact_texts ds), length-append (step_texts (yes_of d) (no_of d)) (fact_texts ds))
    (by_results (step_in d) (steps_in ds) (first_fault fact_at (step_texts (yes_of d) (no_of d))) (first_fault fact_at (fact_texts ds))
    (length (step_texts (yes_of d) (no_of d))) (length (fact_texts ds)) (step_read (yes_of d) (no_of d) shape.1) (steps_read ds parts.1))
  where
    counted : (s : Option StepValue) (ss : List StepValue) → fact_count (in_front s ss) ≡ count_in s + fact_count ss
    counted None ss = omega arith
    counted (Some s) ss = refl

    by_results : (r : Result (Option StepValue) EvidenceCause) (q : Result (List StepValue) EvidenceCause) (o p : Option TupleFault) (j k : ℕ)
        → ReadsAs count_in r o j → ReadsAs fact_count q p k
        → ReadsAs fact_count (r >>= λ s. q >>= λ ss. Ok (in_front s ss)) (first_of_two o p) (j + k)
    by_results r q (Some f) p j k is h = rw is refl
    by_results r q None (Some f) j k (s, is, long) ends = rw (is, ends) refl
    by_results r q None None j k (s, is, long) (ss, ends, more) =
        (in_front s ss, rw (is, ends) refl, (let e = counted s ss in omega (arith, e, long, more)))

-- ---- the tests in turn, each by itself

-- the steps with the place of their entry
abbrev placing : Bool → Option ℕ → List StepValue → Result (ℕ × List StepValue) EvidenceCause
placing known place ss = (if known then Ok ss else Err causes.UnknownStep) >>= λ steps. needed causes.StrayLine place >>= λ p. Ok (p, steps)

abbrev text_fault : Option TupleFault → Option EvidenceCause
text_fault o = option_map (λ (f : TupleFault). causes.Text f) o

abbrev if_not : Bool → EvidenceCause → Option EvidenceCause
if_not b c = if b then None else Some c

abbrev if_so : Bool → EvidenceCause → Option EvidenceCause
if_so b c = if b then Some c else None

abbrev stray_in : Option ℕ → Option EvidenceCause
stray_in None = Some causes.StrayLine
stray_in (Some p) = None

module _ (r : Records) (d : Data) where
  abbrev repeated_in : Option ℕ → Option EvidenceCause
  repeated_in None = None
  repeated_in (Some p) = if_so (is_taken (slice_get r.steps p)) causes.RepeatedLine

  abbrev tests : RecordFields → List (Option EvidenceCause)
  tests x =
      text_fault (first_fault fact_at (fact_texts x.steps)) ∷ if_not (are_known x.steps) causes.UnknownStep ∷ stray_in (place_of x.line r.lines)
      ∷ repeated_in (place_of x.line r.lines) ∷ if_so (nat_lt 100000 (length (fact_texts x.steps))) causes.TooMany ∷ []

  are_rising : (x : RecordFields) → AreRising spec.number 0 (tests x)
  are_rising x = (5, omega arith, of_text _, (6, omega arith, of_not _ causes.UnknownStep, (7, omega arith, of_stray _, (8, omega arith, of_repeated _, (9, omega arith, of_so _ causes.TooMany, tt)))))
    where
      of_text : (o : Option TupleFault) (c : EvidenceCause) → text_fault o ≡ Some c → spec.number c ≡ 5
      of_text None c e = absurd (cc)
      of_text (Some f) c e = let same : causes.Text f ≡ c = cc in subst (λ (y : EvidenceCause). spec.number y ≡ 5) same refl

      of_not : (b : Bool) (k c : EvidenceCause) → if_not b k ≡ Some c → spec.number c ≡ spec.number k
      of_not true k c e = absurd (cc)
      of_not false k c e = let same : k ≡ c = cc in subst (λ (y : EvidenceCause). spec.number y ≡ spec.number k) same refl

      of_so : (b : Bool) (k c : EvidenceCause) → if_so b k ≡ Some c → spec.number c ≡ spec.number k
      of_so false k c e = absurd (cc)
      of_so true k c e = let same : k ≡ c = cc in subst (λ (y : EvidenceCause). spec.number y ≡ spec.number k) same refl

      of_stray : (o : Option ℕ) (c : EvidenceCause) → stray_in o ≡ Some c → spec.number c ≡ 7
      of_stray (Some p) c e = absurd (cc)
      of_stray None c e = let same : causes.StrayLine ≡ c = cc in subst (λ (y : EvidenceCause). spec.number y ≡ 7) same refl

      of_repeated : (o : Option ℕ) (c : EvidenceCause) → repeated_in o ≡ Some c → spec.number c ≡ 8
      of_repeated None c e = absurd (cc)
      of_repeated (Some p) c e = of_so (is_taken (slice_get r.steps p)) causes.RepeatedLine c e

  -- the line is read by them
  is_read : (x : RecordFields) → number_at (codes "line") d ≡ Some x.line → steps_at d ≡ Some x.steps → are_shaped x.steps ≡ true
      → (made : Records) × (record_line r d ≡ chain (tests x) (Ok made))
  unfolding record_line placed_steps put_steps
  is_read x lines steps shaped = by_texts (first_fault fact_at (fact_texts x.steps)) refl (steps_read x.steps shaped)
    where
      put : (p : ℕ) (ss : List StepValue) (k : ℕ) → fact_count ss ≡ k
          → put_steps r p ss ≡ chain (if_so (is_taken (slice_get r.steps p)) causes.RepeatedLine ∷ if_so (nat_lt 100000 k) causes.TooMany ∷ [])
          (Ok (record r { steps = slice_set r.steps p (Some ss) }))
      put p ss k long = rw long (by_tests (is_taken (slice_get r.steps p)) (nat_lt 100000 k))
        where
          by_tests : (a b : Bool)
              → (if a then Err causes.RepeatedLine else (if b then Err causes.TooMany else Ok (record r { steps = slice_set r.steps p (Some ss) })))
              ≡ chain ((if a then Some causes.RepeatedLine else None) ∷ (if b then Some causes.TooMany else None) ∷ [])
              (Ok (record r { steps = slice_set r.steps p (Some ss) }))
          by_tests true b = refl
          by_tests false true = refl
          by_tests false false = refl

      by_place : (known : Bool) (o : Option ℕ) (ss : List StepValue) (k : ℕ) → fact_count ss ≡ k
          → (made : Records) × (((if known then Ok ss else Err causes.UnknownStep) >>= λ steps. needed causes.StrayLine o >>= λ place. put_steps r place steps)
          ≡ chain (if_not known causes.UnknownStep ∷ stray_in o ∷ repeated_in o ∷ if_so (nat_lt 100000 k) causes.TooMany ∷ []) (Ok made))
      by_place false o ss k long = (r, refl)
      by_place true None ss k long = (r, refl)
      by_place true (Some p) ss k long = (record r { steps = slice_set r.steps p (Some ss) }, put p ss k long)

      flat : (known : Bool) (o : Option ℕ) (ss : List StepValue)
          → (placing known o ss >>= λ p. put_steps r p.0 p.1)
          ≡ ((if known then Ok ss else Err causes.UnknownStep) >>= λ steps. needed causes.StrayLine o >>= λ place. put_steps r place steps)
      flat false o ss = refl
      flat true None ss = refl
      flat true (Some p) ss = refl

      by_texts : (o : Option TupleFault) → first_fault fact_at (fact_texts x.steps) ≡ o
          → ReadsAs fact_count (steps_in x.steps) o (length (fact_texts x.steps)) → (made : Records) × (record_line r d ≡ chain (tests x) (Ok made))
      by_texts (Some f) at is = (r, rw (lines, steps, is, at) refl)
      by_texts None at (ss, is, long) =
          let put_in = by_place (are_known x.steps) (place_of x.line r.lines) ss (length (fact_texts x.steps)) long in
          (put_in.0, rw (lines, steps, is, at) (flat (are_known x.steps) (place_of x.line r.lines) ss ∙ put_in.1))

  -- ---- the causes are the faults of the tests

  module _ (x : RecordFields) (is : record_fields d ≡ Some x) where
    place_there : (o : Option ℕ) → IsSomeAnd o (λ p. is_taken (slice_get r.steps p) ≡ true) → repeated_in o ≡ Some causes.RepeatedLine
    place_there None h = absurd h
    place_there (Some p) h = rw h refl

    there : (c : EvidenceCause) → AppliesToRecord r d c → IsFault (tests x) c
    there causes.Shape h = let none : None ≡ Some x = sym h ∙ is in absurd (cc)
    there (causes.Text f) h = inl (ap text_fault (rw is at h))
    there causes.UnknownStep h = inr (inl (ap (λ (b : Bool). if_not b causes.UnknownStep) (rw is at h)))
    there causes.StrayLine h = inr (inr (inl (ap stray_in (rw is at h))))
    there causes.RepeatedLine h = inr (inr (inr (inl (place_there (place_of x.line r.lines) (rw is at h)))))
    there causes.TooMany h = inr (inr (inr (inr (inl (ap (λ (b : Bool). if_so b causes.TooMany) (lt-ltb _ _ (rw is at h)))))))
    there causes.Read h = absurd h
    there causes.TooLong h = absurd h
    there causes.NotJson h = absurd h
    there causes.OutOfMemory h = absurd h

    of_text : (o : Option TupleFault) → first_fault fact_at (fact_texts x.steps) ≡ o → (c : EvidenceCause) → text_fault o ≡ Some c → AppliesToRecord r d c
    of_text None at c e = absurd (cc)
    of_text (Some f) at c e = let same : causes.Text f ≡ c = cc in subst (AppliesToRecord r d) same (rw is at)

    of_known : (b : Bool) → are_known x.steps ≡ b → (c : EvidenceCause) → if_not b causes.UnknownStep ≡ Some c → AppliesToRecord r d c
    of_known true at c e = absurd (cc)
    of_known false at c e = let same : causes.UnknownStep ≡ c = cc in subst (AppliesToRecord r d) same (rw is at)

    of_stray : (o : Option ℕ) → place_of x.line r.lines ≡ o → (c : EvidenceCause) → stray_in o ≡ Some c → AppliesToRecord r d c
    of_stray (Some p) at c e = absurd (cc)
    of_stray None at c e = let same : causes.StrayLine ≡ c = cc in subst (AppliesToRecord r d) same (rw is at)

    of_repeated : (o : Option ℕ) → place_of x.line r.lines ≡ o → (c : EvidenceCause) → repeated_in o ≡ Some c → AppliesToRecord r d c
    of_repeated None at c e = absurd (cc)
    of_repeated (Some p) at c e = by_test (is_taken (slice_get r.steps p)) refl e
      where
        by_test : (b : Bool) → is_taken (slice_get r.steps p) ≡ b → (if b then Some causes.RepeatedLine else None) ≡ Some c → AppliesToRecord r d c
        by_test false taken e = absurd (cc)
        by_test true taken e = let same : causes.RepeatedLine ≡ c = cc in subst (AppliesToRecord r d) same (rw (is, at) taken)

    of_many : (b : Bool) → nat_lt 100000 (length (fact_texts x.steps)) ≡ b → (c : EvidenceCause) → if_so b causes.TooMany ≡ Some c → AppliesToRecord r d c
    of_many false at c e = absurd (cc)
    of_many true at c e = let same : causes.TooMany ≡ c = cc in subst (AppliesToRecord r d) same (rw is (ltb-true _ _ at))

    back : (c : EvidenceCause) → IsFault (tests x) c → AppliesToRecord r d c
    back = one_meets (AppliesToRecord r d) (tests x) (
      of_text (first_fault fact_at (fact_texts x.steps)) refl,
      (of_known (are_known x.steps) refl, (of_stray (place_of x.line r.lines) refl, (of_repeated (place_of x.line r.lines) refl, (of_many (nat_lt 100000 (length (fact_texts x.steps))) refl, tt)))),
    )

  only_shape : record_fields d ≡ None → (c : EvidenceCause) → AppliesToRecord r d c → causes.Shape ≡ c
  only_shape none causes.Shape h = refl
  only_shape none (causes.Text f) h = absurd (rw none at h)
  only_shape none causes.UnknownStep h = absurd (rw none at h)
  only_shape none causes.StrayLine h = absurd (rw none at h)
  only_shape none causes.RepeatedLine h = absurd (rw none at h)
  only_shape none causes.TooMany h = absurd (rw none at h)
  only_shape none causes.Read h = absurd h
  only_shape none causes.TooLong h = absurd h
  only_shape none causes.NotJson h = absurd h
  only_shape none causes.OutOfMemory h = absurd h

  shapeless : record_fields d ≡ None → record_line r d ≡ Err causes.Shape → TellsTheLeast spec.number (AppliesToRecord r d) (record_line r d)
  shapeless none e = subst (TellsTheLeast spec.number (AppliesToRecord r d)) (sym e) (tells_the_only spec.number (AppliesToRecord r d) causes.Shape none (only_shape none))

  are_shaped_at : (o : Option Items) (ds : Items) → option_and_then if_shaped o ≡ Some ds → are_shaped ds ≡ true
  are_shaped_at None ds e = absurd (cc)
  are_shaped_at (Some items) ds e = by_test (are_shaped items) refl e
    where
      by_test : (b : Bool) → are_shaped items ≡ b → (if b then Some items else None) ≡ Some ds → are_shaped ds ≡ true
      by_test false at e = absurd (cc)
      by_test true at e = let same : items ≡ ds = cc in subst (λ (y : Items). are_shaped y ≡ true) same at

  shaped_at : (ds : Items) → steps_at d ≡ Some ds → are_shaped ds ≡ true
  unfolding steps_at
  shaped_at ds e = are_shaped_at (option_and_then as_array (get (codes "steps") d)) ds e

  pub least_cause_of_record : TellsTheLeast spec.number (AppliesToRecord r d) (record_line r d)
  unfolding record_line placed_steps record_fields
  least_cause_of_record = by_fields (number_at (codes "line") d) (steps_at d) refl refl
    where
      by_fields : (n : Option ℕ) (o : Option Items) → number_at (codes "line") d ≡ n → steps_at d ≡ o → TellsTheLeast spec.number (AppliesToRecord r d) (record_line r d)
      by_fields None o lines steps = shapeless (rw lines refl) (rw lines refl)
      by_fields (Some line) None lines steps = shapeless (rw (lines, steps) refl) (rw (lines, steps) refl)
      by_fields (Some line) (Some items) lines steps =
          let x : RecordFields = record { line = line; steps = items } in
          let is : record_fields d ≡ Some x = rw (lines, steps) refl in
          let read = is_read x lines steps (shaped_at items steps) in
          subst (TellsTheLeast spec.number (AppliesToRecord r d)) (sym read.1)
          (tells_the_least spec.number (AppliesToRecord r d) (tests x) read.0 (are_rising x) (there x is) (back x is))
