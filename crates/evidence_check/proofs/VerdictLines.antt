-- What a line of evidence says, by its text.
use Rattle.std.proofs.Common.{◌≡◌, ℕ, true, false, List, None, Some, Result, Ok, Err, refl, ap, ◌∙◌}
use Rattle.std.specs.Str.{IsUtf8, is_utf8}
use Rattle.std.proofs.lemmas.Bool.{false_from_ne_true}
use Rattle.std.proofs.lemmas.Str.{IsUtf8-from_is_utf8, is_utf8-from_IsUtf8}
use Rattle.serde_json.specs.Read.{read}
use Rattle.refusals.specs.Refusals.{◌>>=◌, Fails}
use Rattle.json_lines.specs.Json.{is_blank, json_line}
use Rattle.json_lines.proofs.JsonLines.{json_then}
use Rattle.trace_lines.specs.Values.{TraceValue}
use Rattle.evidence_check.specs.Alone.{verdict_in, verdict_of}
use Rattle.evidence_check.specs.Causes.{is_memory}
use Rattle.evidence_check.specs.declared.alone.Verdict.{Verdict}
use Rattle.evidence_check.specs.declared.cause.EvidenceCause.{EvidenceCause}
use Rattle.evidence_check.specs.declared.cause.EvidenceCause.TheVariants as causes
use Rattle.evidence_check.specs.Verdicts.{verdict_told}

module _ (t : TraceValue) (lines line : List ℕ) where
  pub is_none : is_blank line ≡ true → verdict_told t lines line ≡ Ok None
  unfolding verdict_told
  is_none e = rw e refl

  pub is_no_text : is_blank line ≡ false → ¬ IsUtf8 line → verdict_told t lines line ≡ Err causes.NotJson
  unfolding verdict_told json_line
  is_no_text e f =
      let no : is_utf8 line ≡ false = false_from_ne_true (is_utf8 line) (λ is. f (IsUtf8-from_is_utf8 line is)) in
      rw (e, no) refl

  is_of : is_blank line ≡ false → IsUtf8 line
      → verdict_told t lines line ≡ (verdict_of t lines line >>= λ v. Ok (Some v))
  unfolding verdict_told json_line
  is_of e f =
      let is : is_utf8 line ≡ true = is_utf8-from_IsUtf8 line f in
      rw (e, is) (json_then causes.NotJson (read line) (verdict_in t lines) (λ v. Ok (Some v)))

  pub is_verdict : (v : Verdict) → is_blank line ≡ false → IsUtf8 line
      → verdict_of t lines line ≡ Ok v → verdict_told t lines line ≡ Ok (Some v)
  is_verdict v e f g = is_of e f ∙ ap (λ (r : Result Verdict EvidenceCause). r >>= (λ (w : Verdict). Ok (Some w))) g

  pub is_refusal : (c : EvidenceCause) → is_blank line ≡ false → IsUtf8 line → is_memory c ≡ false
      → Fails is_memory c (verdict_of t lines line) → verdict_told t lines line ≡ Err c
  is_refusal c e f known told =
      is_of e f ∙ ap (λ (r : Result Verdict EvidenceCause). r >>= (λ (w : Verdict). Ok (Some w))) (rw known at told)
