-- The findings of a part are the whole's on its entries.
use Rattle.std.proofs.Common.{◌≡◌, ℕ, suc, ◌+◌, Bool, true, false, cond, List, [], ◌∷◌, ◌++◌, length, take, refl, sym, ◌∙◌, ap, subst, Option, None, Some, arith, append-nil, length-append}
use Rattle.std.specs.Prelude.{slice_get, filter, is_none, is_some, ◌&&◌, option_map, option_and_then, nat_eq, unwrap_or}
use Rattle.std.specs.Cmp.{first_so, second_so}
use Rattle.std.specs.List.{position_from}
use Rattle.std.proofs.lemmas.Bool.{eq-eqb}
use Rattle.std.proofs.lemmas.List.Elements.{filter-append}
use Rattle.std.proofs.lemmas.Slice.Eq.{bytes_eq-Decides}
use Rattle.tuple_text.specs.Sets.{SetValue}
use Rattle.trace_lines.specs.Values.{TraceValue, EntryValue}
use Rattle.trace_lines.specs.Versions.{Version, version_eq, version_of, is_version, version_issued, version_named, entry_version, issues, content_among, content_of}
use Rattle.trace_lines.specs.declared.entry.EntryKind.{EntryKind}
use Rattle.trace_lines.specs.declared.entry.EntryKind.TheVariants.{Check, Content}
use Rattle.token_order.specs.Found.{order_of, line_if_short, is_stale, not_latest, open_snapshot, is_wrong_token}
use Rattle.token_order.specs.declared.findings.OrderFindings.{OrderFindings}
use Rattle.evidence_check.specs.Evidences.{steps_of}
use Rattle.evidence_check.specs.Judged.{judged}
use Rattle.evidence_check.specs.Steps.{StepValue}
use Rattle.findings.specs.Findings.{found_on, found_by, found_on_tokens, on_line, findings_from, findings_of}
use Rattle.findings.specs.Parts.{is_of, part_of, evidence_from, evidence_of_part, findings_on_part_from, findings_on_part, IsCleanInParts}

-- ---- the first item that passes a test

abbrev pub first_that : {X : Type 0} → (X → Bool) → List X → Option X
first_that test [] = None
first_that test (x ∷ xs) = cond (test x) (Some x) (first_that test xs)

pub at_place : {X : Type 0} (test : X → Bool) (before xs after : List X) → option_and_then (slice_get (before ++ (xs ++ after))) (position_from test (length before) xs) ≡ first_that test xs
at_place test before [] after = refl
at_place {X} test before (x ∷ xs) after = by_test (at_place test (before ++ x ∷ []) xs after) (test x)
  where
    longer : (b : List X) → b ++ (x ∷ (xs ++ after)) ≡ (b ++ x ∷ []) ++ (xs ++ after)
    longer [] = refl
    longer (y ∷ ys) = ap (λ r. y ∷ r) (longer ys)

    here : (b : List X) → slice_get (b ++ (x ∷ (xs ++ after))) (length b) ≡ Some x
    here [] = refl
    here (y ∷ ys) = here ys

    by_test : option_and_then (slice_get ((before ++ x ∷ []) ++ (xs ++ after))) (position_from test (length (before ++ x ∷ [])) xs) ≡ first_that test xs
        → (b : Bool) → option_and_then (slice_get (before ++ (x ∷ (xs ++ after)))) (cond b (Some (length before)) (position_from test (length before + 1) xs)) ≡ cond b (Some x) (first_that test xs)
    by_test rest true = here before
    by_test rest false =
        ap (λ r. option_and_then (slice_get r) (position_from test (length before + 1) xs)) (longer before)
        ∙ ap (λ n. option_and_then (slice_get ((before ++ x ∷ []) ++ (xs ++ after))) (position_from test n xs)) (sym (length-append before (x ∷ [])))
        ∙ rest

pub found_alike : {X : Type 0} (test : X → Bool) (n : ℕ) (xs : List X) → is_none (position_from test n xs) ≡ is_none (first_that test xs)
found_alike test n [] = refl
found_alike test n (x ∷ xs) = by_test (found_alike test (n + 1) xs) (test x)
  where
    by_test : is_none (position_from test (n + 1) xs) ≡ is_none (first_that test xs) → (b : Bool) → is_none (cond b (Some n) (position_from test (n + 1) xs)) ≡ is_none (cond b (Some x) (first_that test xs))
    by_test rest true = refl
    by_test rest false = rest

-- what passes the test is kept
pub first_kept : {X : Type 0} (keep test : X → Bool) → ((x : X) → test x ≡ true → keep x ≡ true) → (xs : List X) → first_that test (filter keep xs) ≡ first_that test xs
first_kept keep test kept [] = refl
first_kept keep test kept (x ∷ xs) = by_tests (first_kept keep test kept xs) (keep x) refl (test x) refl
  where
    by_tests : first_that test (filter keep xs) ≡ first_that test xs
        → (k : Bool) → keep x ≡ k → (b : Bool) → test x ≡ b → first_that test (cond k (x ∷ filter keep xs) (filter keep xs)) ≡ cond b (Some x) (first_that test xs)
    by_tests rest true e b t = ap (λ c. cond c (Some x) (first_that test (filter keep xs))) t ∙ ap (λ o. cond b (Some x) o) rest
    by_tests rest false e true t = let h : false ≡ true = sym e ∙ kept x t in cc
    by_tests rest false e false t = rest

-- ---- the content check that issued what an entry names

version_object : (v w : Version) → version_eq v w ≡ true → (v.namespace ≡ w.namespace) × (v.id ≡ w.id)
version_object v w h = ((bytes_eq-Decides v.namespace w.namespace).0 (first_so _ _ h), (bytes_eq-Decides v.id w.id).0 (first_so _ _ (second_so _ _ h)))

pub issued_object : (k : EntryKind) (label : Option (List ℕ)) (s : SetValue) (v : Version) → is_version v (version_issued k (option_map (version_of s) label)) ≡ true → (v.namespace ≡ s.namespace) × (v.id ≡ s.id)
issued_object Check label s v h = let e : false ≡ true = h in cc
issued_object Content None s v h = let e : false ≡ true = h in cc
issued_object Content (Some l) s v h = version_object v (version_of s l) h

named_object : (k : EntryKind) (label : Option (List ℕ)) (s : SetValue) (v : Version) → version_named k (option_map (version_of s) label) ≡ Some v → (v.namespace ≡ s.namespace) × (v.id ≡ s.id)
named_object Check None s v h = cc
named_object Check (Some l) s v h = let same : version_of s l ≡ v = cc in (ap (λ w. w.namespace) (sym same), ap (λ w. w.id) (sym same))
named_object Content label s v h = cc

-- who issues what an entry names asks of the same object
pub same_object : (objects : List ℕ → List ℕ → Bool) (e : EntryValue) (v : Version) → is_of objects e ≡ true → version_named e.kind (entry_version e) ≡ Some v
    → (x : EntryValue) → issues v x ≡ true → is_of objects x ≡ true
same_object objects e v kept named x h =
    let by = issued_object x.kind x.version x.goal.set v h in
    let of = named_object e.kind e.version e.goal.set v named in
    ap (λ n. objects n x.goal.set.id) (sym by.0 ∙ of.0) ∙ ap (λ i. objects e.goal.set.namespace i) (sym by.1 ∙ of.1) ∙ kept

-- the first of the entries that issued what e names
abbrev first_issuer : List EntryValue → EntryValue → Option EntryValue
first_issuer es e = option_and_then (λ v. first_that (issues v) es) (version_named e.kind (entry_version e))

entry_here : (before : List EntryValue) (e : EntryValue) (after : List EntryValue) → slice_get (before ++ e ∷ after) (length before) ≡ Some e
entry_here [] e after = refl
entry_here (x ∷ xs) e after = entry_here xs e after

taken_before : (before after : List EntryValue) → take (length before) (before ++ after) ≡ before
taken_before [] after = refl
taken_before (x ∷ xs) after = ap (λ r. x ∷ r) (taken_before xs after)

content_here : (before : List EntryValue) (e : EntryValue) (after : List EntryValue) → content_of (before ++ e ∷ after) (length before) ≡ content_among before e
content_here before e after = rw (entry_here before e after, taken_before before (e ∷ after)) refl

issuer_here : (before : List EntryValue) (e : EntryValue) (after : List EntryValue) → option_and_then (slice_get (before ++ e ∷ after)) (content_of (before ++ e ∷ after) (length before)) ≡ first_issuer before e
issuer_here before e after =
    ap (λ o. option_and_then (slice_get (before ++ e ∷ after)) o) (content_here before e after) ∙ by_name (version_named e.kind (entry_version e))
  where
    by_name : (o : Option Version) → option_and_then (slice_get (before ++ e ∷ after)) (option_and_then (λ v. position_from (issues v) 0 before) o) ≡ option_and_then (λ v. first_that (issues v) before) o
    by_name None = refl
    by_name (Some v) = at_place (issues v) [] before (e ∷ after)

none_here : (before : List EntryValue) (e : EntryValue) (after : List EntryValue) → is_none (content_of (before ++ e ∷ after) (length before)) ≡ is_none (first_issuer before e)
none_here before e after = ap (λ o. is_none o) (content_here before e after) ∙ by_name (version_named e.kind (entry_version e))
  where
    by_name : (o : Option Version) → is_none (option_and_then (λ v. position_from (issues v) 0 before) o) ≡ is_none (option_and_then (λ v. first_that (issues v) before) o)
    by_name None = refl
    by_name (Some v) = found_alike (issues v) 0 before

issuer_kept : (objects : List ℕ → List ℕ → Bool) (before : List EntryValue) (e : EntryValue) → is_of objects e ≡ true → first_issuer (filter (is_of objects) before) e ≡ first_issuer before e
issuer_kept objects before e kept = by_name (version_named e.kind (entry_version e)) refl
  where
    by_name : (o : Option Version) → version_named e.kind (entry_version e) ≡ o → option_and_then (λ v. first_that (issues v) (filter (is_of objects) before)) o ≡ option_and_then (λ v. first_that (issues v) before) o
    by_name None named = refl
    by_name (Some v) named = first_kept (is_of objects) (issues v) (same_object objects e v kept named) before

-- ---- one entry

abbrev order_with : TraceValue → EntryValue → Option EntryValue → Bool → OrderFindings
order_with t e issued unissued = record {
  stale = is_stale e;
  old_token = option_and_then (line_if_short e.zookie) issued;
  not_latest = not_latest t e;
  open_snapshot = open_snapshot t e;
  wrong_token = is_wrong_token e;
  unknown_version = is_some (version_named e.kind (entry_version e)) && unissued;
}

module _ (objects : List ℕ → List ℕ → Bool) (t : TraceValue) (evidence : List (Option (List StepValue))) where
  -- what is found on an entry's tokens
  order_kept : (before : List EntryValue) (e : EntryValue) (after : List EntryValue) → t.entries ≡ before ++ e ∷ after → is_of objects e ≡ true
      → order_of (part_of objects t) (length (filter (is_of objects) before)) e ≡ order_of t (length before) e
  order_kept before e after is kept =
      let split : filter (is_of objects) (before ++ e ∷ after) ≡ filter (is_of objects) before ++ e ∷ filter (is_of objects) after =
      filter-append (is_of objects) before (e ∷ after) ∙ ap (λ b. filter (is_of objects) before ++ cond b (e ∷ filter (is_of objects) after) (filter (is_of objects) after)) kept in
      let entries = ap (λ es. filter (is_of objects) es) is ∙ split in
      let j = length (filter (is_of objects) before) in
      ap (λ es. order_with t e (option_and_then (slice_get es) (content_of es j)) (is_none (content_of es j))) entries
      ∙ ap (λ o. order_with t e o (is_none (content_of (filter (is_of objects) before ++ e ∷ filter (is_of objects) after) j))) (issuer_here (filter (is_of objects) before) e (filter (is_of objects) after) ∙ issuer_kept objects before e kept)
      ∙ ap (λ b. order_with t e (first_issuer before e) b) (none_here (filter (is_of objects) before) e (filter (is_of objects) after) ∙ ap (λ o. is_none o) (issuer_kept objects before e kept))
      ∙ ap (λ o. order_with t e o (is_none (first_issuer before e))) (sym (issuer_here before e after))
      ∙ ap (λ b. order_with t e (option_and_then (slice_get (before ++ e ∷ after)) (content_of (before ++ e ∷ after) (length before))) b) (sym (none_here before e after))
      ∙ ap (λ es. order_with t e (option_and_then (slice_get es) (content_of es (length before))) (is_none (content_of es (length before)))) (sym is)

  -- the steps that are given for an entry
  steps_from : (n : ℕ) (before : List EntryValue) (e : EntryValue) (after : List EntryValue) → is_of objects e ≡ true
      → slice_get (evidence_from objects evidence n (before ++ e ∷ after)) (length (filter (is_of objects) before)) ≡ Some (steps_of evidence (n + length before))
  steps_from n [] e after kept = let z : n + 0 ≡ n = omega arith in rw (kept, z) refl
  steps_from n (x ∷ xs) e after kept = by_test (steps_from (n + 1) xs e after kept) (is_of objects x)
    where
      next : n + 1 + length xs ≡ n + suc (length xs)
      next = omega arith

      by_test : slice_get (evidence_from objects evidence (n + 1) (xs ++ e ∷ after)) (length (filter (is_of objects) xs)) ≡ Some (steps_of evidence (n + 1 + length xs))
          → (b : Bool) → slice_get (cond b (steps_of evidence n ∷ evidence_from objects evidence (n + 1) (xs ++ e ∷ after)) (evidence_from objects evidence (n + 1) (xs ++ e ∷ after))) (length (cond b (x ∷ filter (is_of objects) xs) (filter (is_of objects) xs))) ≡ Some (steps_of evidence (n + suc (length xs)))
      by_test rest true = rest ∙ ap (λ m. Some (steps_of evidence m)) next
      by_test rest false = rest ∙ ap (λ m. Some (steps_of evidence m)) next

  from_nothing : (n : ℕ) → 0 + n ≡ n
  from_nothing n = omega arith

  steps_kept : (before : List EntryValue) (e : EntryValue) (after : List EntryValue) → t.entries ≡ before ++ e ∷ after → is_of objects e ≡ true
      → steps_of (evidence_of_part objects t evidence) (length (filter (is_of objects) before)) ≡ steps_of evidence (length before)
  steps_kept before e after is kept =
      ap (λ es. steps_of (evidence_from objects evidence 0 es) (length (filter (is_of objects) before))) is
      ∙ ap (λ o. unwrap_or o None) (steps_from 0 before e after kept)
      ∙ ap (λ n. steps_of evidence n) (from_nothing (length before))

  found_kept : (before : List EntryValue) (e : EntryValue) (after : List EntryValue) → t.entries ≡ before ++ e ∷ after → is_of objects e ≡ true
      → found_on (part_of objects t) (evidence_of_part objects t evidence) (length (filter (is_of objects) before)) e ≡ found_on t evidence (length before) e
  found_kept before e after is kept =
      ap (λ o. found_on_tokens o ++ found_by (judged t e (steps_of (evidence_of_part objects t evidence) (length (filter (is_of objects) before)))) ∷ []) (order_kept before e after is kept)
      ∙ ap (λ s. found_on_tokens (order_of t (length before) e) ++ found_by (judged t e s) ∷ []) (steps_kept before e after is kept)

  -- ---- all entries

  -- the part's findings from an entry on are the whole's
  abbrev FindsAlike : ℕ → ℕ → List EntryValue → Type 0
  FindsAlike j i es = findings_from (part_of objects t) (evidence_of_part objects t evidence) j (filter (is_of objects) es) ≡ findings_on_part_from objects t evidence i es

  one_more : (xs : List EntryValue) (e : EntryValue) (es : List EntryValue) → (xs ++ e ∷ []) ++ es ≡ xs ++ e ∷ es
  one_more [] e es = refl
  one_more (x ∷ xs) e es = ap (λ r. x ∷ r) (one_more xs e es)

  pub next_kept : (before : List EntryValue) (e : EntryValue) (b : Bool) → is_of objects e ≡ b → filter (is_of objects) (before ++ e ∷ []) ≡ filter (is_of objects) before ++ cond b (e ∷ []) []
  next_kept before e b h = filter-append (is_of objects) before (e ∷ []) ∙ ap (λ c. filter (is_of objects) before ++ cond c (e ∷ []) []) h

  pub part_from : (before after : List EntryValue) → t.entries ≡ before ++ after → FindsAlike (length (filter (is_of objects) before)) (length before) after
  part_from before [] is = refl
  part_from before (e ∷ es) is = by_test (part_from (before ++ e ∷ []) es (is ∙ sym (one_more before e es))) (is_of objects e) refl
    where
      by_test : FindsAlike (length (filter (is_of objects) (before ++ e ∷ []))) (length (before ++ e ∷ [])) es → (b : Bool) → is_of objects e ≡ b
          → findings_from (part_of objects t) (evidence_of_part objects t evidence) (length (filter (is_of objects) before)) (cond b (e ∷ filter (is_of objects) es) (filter (is_of objects) es))
          ≡ cond b (on_line e.line (found_on t evidence (length before) e) ++ findings_on_part_from objects t evidence (length before + 1) es) (findings_on_part_from objects t evidence (length before + 1) es)
      by_test rest true h =
          let j : length (filter (is_of objects) (before ++ e ∷ [])) ≡ length (filter (is_of objects) before) + 1 = ap length (next_kept before e true h) ∙ length-append (filter (is_of objects) before) (e ∷ []) in
          let further : FindsAlike (length (filter (is_of objects) before) + 1) (length before + 1) es =
          subst (λ k. FindsAlike k (length before + 1) es) j (subst (λ k. FindsAlike (length (filter (is_of objects) (before ++ e ∷ []))) k es) (length-append before (e ∷ [])) rest) in
          ap (λ f. on_line e.line f ++ findings_from (part_of objects t) (evidence_of_part objects t evidence) (length (filter (is_of objects) before) + 1) (filter (is_of objects) es)) (found_kept before e es is h)
          ∙ ap (λ r. on_line e.line (found_on t evidence (length before) e) ++ r) further
      by_test rest false h =
          let j : length (filter (is_of objects) (before ++ e ∷ [])) ≡ length (filter (is_of objects) before) = ap length (next_kept before e false h ∙ append-nil (filter (is_of objects) before)) in
          subst (λ k. FindsAlike k (length before + 1) es) j (subst (λ k. FindsAlike (length (filter (is_of objects) (before ++ e ∷ []))) k es) (length-append before (e ∷ [])) rest)

pub findings_of_part_law : (objects : List ℕ → List ℕ → Bool) (t : TraceValue) (evidence : List (Option (List StepValue))) → findings_of (part_of objects t) (evidence_of_part objects t evidence) ≡ findings_on_part objects t evidence
findings_of_part_law objects t evidence = part_from objects t evidence [] t.entries refl

-- ---- parts that are all clean

nothing_left : {X : Type 0} (xs ys : List X) → xs ++ ys ≡ [] → (xs ≡ []) × (ys ≡ [])
nothing_left [] ys h = (refl, h)
nothing_left (x ∷ xs) ys h = cc

module _ (part : List ℕ → List ℕ → ℕ) (t : TraceValue) (evidence : List (Option (List StepValue))) where
  abbrev of_part : ℕ → List ℕ → List ℕ → Bool
  of_part k n i = nat_eq (part n i) k

  of_others : (k i : ℕ) (e : EntryValue) (es : List EntryValue) (b : Bool)
      → cond b (on_line e.line (found_on t evidence i e) ++ findings_on_part_from (of_part k) t evidence (i + 1) es) (findings_on_part_from (of_part k) t evidence (i + 1) es) ≡ [] → findings_on_part_from (of_part k) t evidence (i + 1) es ≡ []
  of_others k i e es true h = (nothing_left (on_line e.line (found_on t evidence i e)) (findings_on_part_from (of_part k) t evidence (i + 1) es) h).1
  of_others k i e es false h = h

  of_its_own : (k i : ℕ) (e : EntryValue) (es : List EntryValue) (b : Bool) → b ≡ true
      → cond b (on_line e.line (found_on t evidence i e) ++ findings_on_part_from (of_part k) t evidence (i + 1) es) (findings_on_part_from (of_part k) t evidence (i + 1) es) ≡ [] → on_line e.line (found_on t evidence i e) ≡ []
  of_its_own k i e es true is h = (nothing_left (on_line e.line (found_on t evidence i e)) (findings_on_part_from (of_part k) t evidence (i + 1) es) h).0
  of_its_own k i e es false is h = let no : false ≡ true = is in cc

  clean_from : (i : ℕ) (es : List EntryValue) → ((k : ℕ) → findings_on_part_from (of_part k) t evidence i es ≡ []) → findings_from t evidence i es ≡ []
  clean_from i [] clean = refl
  clean_from i (e ∷ es) clean =
      let own = part e.goal.set.namespace e.goal.set.id in
      let here = of_its_own own i e es (nat_eq own own) (eq-eqb own own refl) (clean own) in
      let rest = clean_from (i + 1) es (λ k. of_others k i e es (nat_eq (part e.goal.set.namespace e.goal.set.id) k) (clean k)) in
      rw (here, rest) refl

  pub clean_in_parts : IsCleanInParts part t evidence → findings_of t evidence ≡ []
  clean_in_parts clean = clean_from 0 t.entries (λ k. sym (findings_of_part_law (of_part k) t evidence) ∙ clean k)
