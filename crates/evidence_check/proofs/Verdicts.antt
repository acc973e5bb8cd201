-- A line of evidence: what it says by itself, and what that makes of the judgements.
use Rattle.std.proofs.Common.{◌≡◌, ℕ, ◌+◌, ◌-◌, ◌^◌, Bool, true, false, not, ◌&&◌, eqb, cond, List, [], ◌∷◌, length, Option, None, Some, Result, Ok, Err, refl, sym, ap, ◌∙◌}
use Rattle.std.specs.Prelude.{slice_get, slice_set}
use Rattle.std.specs.Str.{is_utf8}
use Rattle.serde_json.specs.Data.{Data}
use Rattle.serde_json.specs.Read.{read}
use Rattle.refusals.specs.Refusals.{◌>>=◌, needed}
use Rattle.json_lines.specs.Json.{is_blank, json_line, of_json, taken_line}
use Rattle.json_lines.specs.Reading.{at_line, passes_limit, parts, read_all, read_from}
use Rattle.json_lines.specs.declared.lines.InputFault.TheVariants.{Read, TooLong}
use Rattle.json_lines.specs.declared.reading.LineFault.{LineFault}
use Rattle.json_lines.specs.declared.reading.Stop.TheVariants.{Input}
use Rattle.line_blocks.specs.Parts.{taken_by}
use Rattle.line_blocks.proofs.Parts.{bind_bind, bind_kept, bind_ok}
use Rattle.trace_lines.specs.Values.{TraceValue}
use Rattle.evidence_check.specs.Alone.{settled, verdict_in}
use Rattle.evidence_check.specs.Judging.{is_judged, judge_line}
use Rattle.evidence_check.specs.Records.{Judgements}
use Rattle.evidence_check.specs.declared.alone.Verdict.{Verdict}
use Rattle.evidence_check.specs.declared.cause.EvidenceCause.{EvidenceCause}
use Rattle.evidence_check.specs.declared.cause.EvidenceCause.TheVariants as causes
use Rattle.evidence_check.specs.declared.judged.Judged.{Judged}
use Rattle.evidence_check.specs.Verdicts.{put_verdict, verdict_told}
use Rattle.evidence_check.proofs.RecordsApart.{judge_splits}

-- a line of evidence, taken by judgements
abbrev pub evidence_taken : ℕ → Judgements → List ℕ → Result Judgements EvidenceCause
evidence_taken = taken_line causes.NotJson (λ n. judge_line)

-- the judgements are of this trace, whose entries stand on these lines
abbrev pub IsOf : TraceValue → List ℕ → Judgements → Type 0
IsOf t lines j = (j.trace ≡ t) × (j.lines ≡ lines)

-- ---- a line splits

of_value : (j : Judgements) (d : Option Data)
    → of_json causes.NotJson (judge_line j) d
    ≡ (of_json causes.NotJson (λ e. verdict_in j.trace j.lines e >>= λ v. Ok (Some v)) d >>= λ v. put_verdict j v)
of_value j None = refl
of_value j (Some d) =
    judge_splits j d ∙ sym (bind_bind (verdict_in j.trace j.lines d) (λ v. Ok (Some v)) (λ v. put_verdict j v))

cond_bind : {A B E : Type 0} (b : Bool) (x y : Result A E) (f : A → Result B E)
    → (cond b x y >>= f) ≡ cond b (x >>= f) (y >>= f)
cond_bind true x y f = refl
cond_bind false x y f = refl

line_splits : (n : ℕ) (j : Judgements) (line : List ℕ)
    → evidence_taken n j line ≡ taken_by (verdict_told j.trace j.lines) (λ _. put_verdict) n j line
unfolding json_line verdict_told
line_splits n j line =
    let f : Option Verdict → Result Judgements EvidenceCause = λ v. put_verdict j v in
    let said : Result (Option Verdict) EvidenceCause =
    of_json causes.NotJson (λ e. verdict_in j.trace j.lines e >>= λ v. Ok (Some v)) (read line) in
    sym (cond_bind (is_blank line) (Ok None) (cond (is_utf8 line) said (Err causes.NotJson)) f
    ∙ ap (λ (r : Result Judgements EvidenceCause). cond (is_blank line) (Ok j) r)
    (cond_bind (is_utf8 line) said (Err causes.NotJson) f
    ∙ ap (λ (r : Result Judgements EvidenceCause). cond (is_utf8 line) r (Err causes.NotJson))
    (sym (of_value j (read line)))))

module _ (t : TraceValue) (lines : List ℕ) where
  -- lines of evidence split, at judgements of this trace
  splits : (n : ℕ) (j : Judgements) (line : List ℕ) → IsOf t lines j
      → evidence_taken n j line ≡ taken_by (verdict_told t lines) (λ _. put_verdict) n j line
  splits n j line fits =
      line_splits n j line
      ∙ ap (λ (u : TraceValue). verdict_told u j.lines line >>= (λ (v : Option Verdict). put_verdict j v)) fits.0
      ∙ ap (λ (ls : List ℕ). verdict_told t ls line >>= (λ (v : Option Verdict). put_verdict j v)) fits.1

  -- and stay judgements of this trace
  same_trace : (j k : Judgements) (b : Bool) (o : Option Judged) (place : ℕ) → IsOf t lines j
      → cond b (Err causes.RepeatedLine)
      (needed causes.TooMany o >>= λ judgement. Ok
      (record j { judgements = slice_set j.judgements place judgement })) ≡ Ok k → IsOf t lines k
  same_trace j k true o place fits is = absurd cc
  same_trace j k false None place fits is = absurd cc
  same_trace j k false (Some judged) place fits is =
      let e : record j { judgements = slice_set j.judgements place judged } ≡ k = cc in
      (ap (λ (x : Judgements). x.trace) (sym e) ∙ fits.0, ap (λ (x : Judgements). x.lines) (sym e) ∙ fits.1)

  keeps : (j k : Judgements) (v : Option Verdict) → IsOf t lines j → put_verdict j v ≡ Ok k → IsOf t lines k
  unfolding settled
  keeps j k None fits is =
      let e : j ≡ k =
      cc in (ap (λ (x : Judgements). x.trace) (sym e) ∙ fits.0, ap (λ (x : Judgements). x.lines) (sym e) ∙ fits.1)
  keeps j k (Some v) fits is = same_trace j k (is_judged (slice_get j.judgements v.place)) v.judgement v.place fits is

  line_ok : (n : ℕ) (x : Result Judgements EvidenceCause) (k : Judgements) → at_line n x ≡ Ok k → x ≡ Ok k
  line_ok n (Ok j) k e = cc
  line_ok n (Err c) k e = absurd cc

  read_alike : (whole : Bool) (n room : ℕ) (j : Judgements) (ls : List (List ℕ)) → IsOf t lines j
      → read_from evidence_taken whole n room j ls ≡ read_from (taken_by (verdict_told t lines) (λ _. put_verdict)) whole n
      room j ls
  read_alike whole n room j [] fits = refl
  read_alike whole n room j (line ∷ ls) fits =
      let by : Result Judgements EvidenceCause = taken_by (verdict_told t lines) (λ _. put_verdict) n j line in
      let f : Judgements → Result Judgements (LineFault EvidenceCause) =
      λ k. read_from evidence_taken whole (n + 1) (room - (length line + 1)) k ls in
      ap
      (λ (r : Result Judgements (LineFault EvidenceCause)). cond (passes_limit room line (not (eqb (length ls) 0)))
      (Err (record { line = n; stop = Input TooLong }))
      (cond (not whole && eqb (length ls) 0) (Err (record { line = n; stop = Input Read })) r))
      (ap (λ (x : Result Judgements EvidenceCause). at_line n x >>= f) (splits n j line fits)
      ∙ bind_kept (at_line n by) f _ (λ k is.
      let said = bind_ok (verdict_told t lines line) (λ v. put_verdict j v) k (line_ok n by k is) in
      read_alike whole (n + 1) (room - (length line + 1)) k ls (keeps j k said.0 fits said.2)))

  -- evidence reads the same either way
  pub all_alike : (whole : Bool) (j : Judgements) (input : List ℕ) → IsOf t lines j
      → read_all (taken_by (verdict_told t lines) (λ _. put_verdict)) whole j input ≡ read_all evidence_taken whole j input
  unfolding read_all
  all_alike whole j input fits = sym (read_alike whole 1 (2 ^ 30) j (parts input) fits)
