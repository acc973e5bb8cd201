-- Steps as they are shown, and lines of entries.
use Rattle.std.proofs.Common.{◌≡◌, ℕ, ◌+◌, ◌<◌, List, [], ◌∷◌, ◌++◌, length, take, Option, Some, None, sym, ap, ◌∙◌, arith, get_or}
use Rattle.std.specs.Prelude.{slice_get, slice_set, replicate, option_map}
use Rattle.std.specs.declared.vec.Vec.{Vec}
use Rattle.std.specs.declared.alloc.Global.{Global}
use Rattle.std.proofs.lemmas.List.{map-append, map-set, replicate_more, length-map, take_more}
use Rattle.std.proofs.lemmas.Option.{slice_get-map, get_or_from_slice_get}
use Rattle.trace_lines.specs.Values.{EntryValue, entry_lines}
use Rattle.evidence_check.specs.declared.step.Step.{Step}
use Rattle.evidence_check.specs.Records.{Records}
use Rattle.evidence_check.specs.Steps.{StepValue}
use Rattle.evidence_check.specs.Evidences.{shown_steps, all_shown}

abbrev Kept : Type 0
Kept = Option (Vec Step Global)

pub one_more_none : (xs new : List Kept) (n : ℕ) → all_shown xs ≡ replicate n None → new ≡ xs ++ None ∷ [] → all_shown new ≡ replicate (n + 1) None
one_more_none xs new n h e = rw (e, map-append shown_steps xs (None ∷ []), h) (replicate_more n None)

pub set_shown : (xs : List Kept) (i : ℕ) (x : Kept) → all_shown (slice_set xs i x) ≡ slice_set (all_shown xs) i (shown_steps x)
set_shown xs i x = map-set shown_steps xs i x

-- the line of one more entry
pub one_more_line : (es : List EntryValue) (i : ℕ) (e : EntryValue) (lines new : List ℕ) → i < length es → slice_get es i ≡ Some e
    → lines ≡ take i (entry_lines es) → new ≡ lines ++ e.line ∷ [] → new ≡ take (i + 1) (entry_lines es)
one_more_line es i e lines new lt at h is =
    let len = length-map es (λ (x : EntryValue). x.line) in
    let here : get_or (entry_lines es) i 0 ≡ e.line = get_or_from_slice_get (entry_lines es) i e.line 0 (slice_get-map (λ (x : EntryValue). x.line) es i ∙ ap (option_map (λ (x : EntryValue). x.line)) at) in
    rw (is, h) (sym (take_more (entry_lines es) i 0 (omega (arith, len, lt)) ∙ ap (λ (n : ℕ). take i (entry_lines es) ++ n ∷ []) here))

abbrev shown_as : List ℕ → List Kept → Records
shown_as lines kept = record { lines = lines; steps = all_shown kept }

abbrev put : List ℕ → List (Option (List StepValue)) → Records
put lines ss = record { lines = lines; steps = ss }

-- one set of steps is put among those that are kept
pub set_records : (r : Records) (lines : List ℕ) (xs : List Kept) (i : ℕ) (x : Kept) → shown_as lines xs ≡ r
    → shown_as lines (slice_set xs i x) ≡ record r { steps = slice_set r.steps i (shown_steps x) }
set_records r lines xs i x h = rw (← h) (ap (λ (ss : List (Option (List StepValue))). put lines ss) (set_shown xs i x))
