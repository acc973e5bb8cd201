-- One line more goes to `early`.
use Rattle.std.proofs.Common.{◌≡◌, ◌⊎◌, inl, inr, ℕ, ◌+◌, ◌<◌, Bool, true, false, List, [], ◌∷◌, ◌++◌, Option, None, Some, refl, sym, ap, ◌∙◌, length, take, append_assoc, append-nil, length-append, subst}
use Rattle.std.specs.Prelude.{slice_get, is_some}
use Rattle.std.specs.List.{flat_map, list_any}
use Rattle.std.specs.Option.{option_map_or}
use Rattle.std.proofs.Math.Logic.{∥∥₁_map}
use Rattle.std.proofs.Math.Seq.{take-append-add, take-length}
use Rattle.std.proofs.lemmas.Grind.{flat_map-append, merely}
use Rattle.std.proofs.lemmas.List.Elements.{All-nil, All-push, All-weaker}
use Rattle.trace_lines.specs.Values.{TraceValue, EntryValue}
use Rattle.evidence_check.specs.Judging.{AreJudged}
use Rattle.evidence_check.specs.Steps.{StepValue}
use Rattle.evidence_check.specs.declared.judged.Judged.{Judged}
use Rattle.audit.specs.Devices.{HasRisen}
use Rattle.audit.specs.Early.{IsEarlyLine, WriterState, WasLast, WentOut, TellsEarly, early_text}
use Rattle.findings.specs.Findings.{found_on, on_line}
use Rattle.audit.specs.Shared.{nothing_found, found_judged, has_finding}
use Rattle.audit.specs.EarlyLines.{IsLineOf, line_for}
use Rattle.findings.specs.declared.finding.Finding.{Finding}
use Rattle.findings.specs.declared.finding.What.{What}
use Rattle.audit.specs.declared.shared.Found.{Found}
use Rattle.audit.proofs.SharedLemmas.{found_at, judged_alike}

-- ---- what went out grows

joined : List (List ℕ) → List ℕ
joined lines = flat_map (λ l. l) lines

-- the first n bytes of a line went out
goes_on : (P : List ℕ → Type 0) (old mid new : WriterState) (line : List ℕ) (n : ℕ) (given_up : Bool) → P line
    → new.taken ≡ mid.taken ++ take n line
    → (given_up ≡ false → (length line ≡ n) × (new.failures ≡ mid.failures) × (new.idle ≡ mid.idle))
    → (given_up ≡ true → WasLast mid new)
    → WentOut P old mid false → WentOut P old new given_up
unfolding joined
goes_on P old mid new line n given_up is part all risen e =
    let lines : List ℕ = joined e.lines in
    let kept = e.whole refl in
    let more : joined (e.lines ++ line ∷ []) ≡ lines ++ line =
    flat_map-append (λ (l : List ℕ). l) e.lines (line ∷ []) ∙ ap (λ (l : List ℕ). lines ++ l) (append-nil line) in
    let before : take e.written lines ≡ lines = ap (λ (k : ℕ). take k lines) (sym kept.0) ∙ take-length lines in
    let after : take (length lines + n) (joined (e.lines ++ line ∷ [])) ≡ take e.written lines ++ take n line =
    ap (take (length lines + n)) more ∙ take-append-add lines line n
    ∙ ap (λ (l : List ℕ). l ++ take n line) (sym before) in
    record {
      lines = e.lines ++ line ∷ [];
      each = All-push P e.lines line e.each is;
      written = length lines + n;
      goes =
          part ∙ ap (λ (l : List ℕ). l ++ take n line) e.goes
          ∙ append_assoc old.taken (take e.written lines) (take n line)
          ∙ ap (λ (l : List ℕ). old.taken ++ l) (sym after);
      whole = λ keeps. let now = all keeps in (
        ap length more ∙ length-append lines line ∙ ap (λ (k : ℕ). length lines + k) now.0,
        now.1 ∙ kept.1,
        now.2 ∙ kept.2,
      );
      cut = λ gives. let last = risen gives in (rises kept.1 kept.2 last.0, last.1);
    }
  where
    rises : mid.failures ≡ old.failures → mid.idle ≡ old.idle
        → (HasRisen mid.failures new.failures × (new.idle ≡ mid.idle))
        ⊎ (HasRisen mid.idle new.idle × (new.failures ≡ mid.failures))
        → (HasRisen old.failures new.failures × (new.idle ≡ old.idle))
        ⊎ (HasRisen old.idle new.idle × (new.failures ≡ old.failures))
    rises a b (inl h) = inl (h.0 ∙ ap (λ (k : ℕ). k + 1) a, h.1 ∙ b)
    rises a b (inr h) = inr (h.0 ∙ ap (λ (k : ℕ). k + 1) b, h.1 ∙ a)

module _ (gives : ℕ → Found → Type 0) (alerts : Found → Bool) (old mid new : WriterState) (i : ℕ) (found : Found)
    (line : List ℕ) where
  line_is : gives i found → alerts found ≡ true → line ≡ line_for found → IsLineOf gives alerts line
  line_is at raised is = (i, found, at, raised, is)

  pub tells : (b : Bool) → b ≡ false → gives i found × (alerts found ≡ true) → line ≡ line_for found
      → new.taken ≡ mid.taken ++ line → (new.failures ≡ mid.failures) × (new.idle ≡ mid.idle)
      → ∥ WentOut (IsLineOf gives alerts) old mid b ∥₁ → ∥ WentOut (IsLineOf gives alerts) old new b ∥₁
  tells b keeps at is out kept told =
      let P : List ℕ → Type 0 = IsLineOf gives alerts in
      let before : ∥ WentOut P old mid false ∥₁ = subst (λ (b : Bool). ∥ WentOut P old mid b ∥₁) keeps told in
      subst (λ (b : Bool). ∥ WentOut P old new b ∥₁) (sym keeps)
      (∥∥₁_map before
      (goes_on P old mid new line (length line) false (line_is at.0 at.1 is)
      (out ∙ ap (λ (l : List ℕ). mid.taken ++ l) (sym (take-length line))) (λ _. (refl, kept.0, kept.1))
      (λ e. absurd cc)))

  pub tells_part : (n : ℕ) (b : Bool) → b ≡ false → gives i found × (alerts found ≡ true) → line ≡ line_for found
      → new.taken ≡ mid.taken ++ take n line
      → (HasRisen mid.failures new.failures × (new.idle ≡ mid.idle))
      ⊎ (HasRisen mid.idle new.idle × (new.failures ≡ mid.failures) × (n < length line)) → new.since ≡ 0
      → ∥ WentOut (IsLineOf gives alerts) old mid b ∥₁ → ∥ WentOut (IsLineOf gives alerts) old new true ∥₁
  tells_part n b keeps at is out risen last told =
      let P : List ℕ → Type 0 = IsLineOf gives alerts in
      let before : ∥ WentOut P old mid false ∥₁ = subst (λ (b : Bool). ∥ WentOut P old mid b ∥₁) keeps told in
      ∥∥₁_map before
      (goes_on P old mid new line n true (line_is at.0 at.1 is) out (λ e. absurd cc) (λ _. (either risen, last)))
    where
      either : (HasRisen mid.failures new.failures × (new.idle ≡ mid.idle))
          ⊎ (HasRisen mid.idle new.idle × (new.failures ≡ mid.failures) × (n < length line))
          → (HasRisen mid.failures new.failures × (new.idle ≡ mid.idle))
          ⊎ (HasRisen mid.idle new.idle × (new.failures ≡ mid.failures))
      either (inl h) = inl h
      either (inr h) = inr (h.0, h.1)

pub begins : (P : List ℕ → Type 0) (old : WriterState) → ∥ WentOut P old old false ∥₁
begins P old =
    merely
    (record {
      lines = [];
      each = All-nil P;
      written = 0;
      goes = sym (append-nil old.taken);
      whole = λ _. (refl, refl, refl);
      cut = λ e. absurd cc;
    })

pub begins_at : (P : List ℕ → Type 0) (old now : WriterState) → old ≡ now → ∥ WentOut P old now false ∥₁
begins_at P old now is = subst (λ (x : WriterState). ∥ WentOut P old x false ∥₁) is (begins P old)

-- ---- the lines are those of entries

-- where something is found, something is told first
first_told : (line : ℕ) (found : List (Option What)) → list_any is_some found ≡ true
    → (f : Finding) × (fs : List Finding) × (on_line line found ≡ f ∷ fs)
first_told line [] h = absurd cc
first_told line (None ∷ found) h = first_told line found h
first_told line (Some what ∷ found) h = (record { line = line; what = what }, on_line line found, refl)

module _ (t : TraceValue) (evidence : List (Option (List StepValue))) (l : List ℕ) (i : ℕ) where
  found_in : Option EntryValue → Found
  found_in o = option_map_or (λ e. record { line = e.line; what = found_on t evidence i e }) o nothing_found

  of_entry : (o : Option EntryValue) → slice_get t.entries i ≡ o → has_finding (found_in o) ≡ true
      → l ≡ line_for (found_in o) → IsEarlyLine t evidence l
  unfolding found_in
  of_entry None at h is = absurd cc
  of_entry (Some e) at h is =
      let told = first_told e.line (found_on t evidence i e) h in
      record {
        place = i;
        entry = e;
        first = told.0;
        others = told.1;
        at = at;
        found = told.2;
        text = is
            ∙ ap early_text told.2;
      }

  pub is_early_line : has_finding (found_at t evidence i) ≡ true → l ≡ line_for (found_at t evidence i)
      → IsEarlyLine t evidence l
  unfolding found_in
  is_early_line h is = of_entry (slice_get t.entries i) refl h is

-- where evidence judges the entries so
pub of_entries : (t : TraceValue) (evidence : List (Option (List StepValue))) (judgements : List Judged)
    → AreJudged t evidence judgements → (old new : WriterState) (given_up : Bool)
    → ∥ WentOut (IsLineOf (λ i found. found ≡ found_judged t judgements i) has_finding) old new given_up ∥₁
    → TellsEarly t evidence old new
of_entries t evidence judgements are old new given_up h =
    let P : List ℕ → Type 0 = IsLineOf (λ i found. found ≡ found_judged t judgements i) has_finding in
    ∥∥₁_map h (λ (w : WentOut P old new given_up). (
      given_up,
      record {
        lines = w.lines;
        each = All-weaker P (IsEarlyLine t evidence)
            (λ l is. let at = is.2 ∙ judged_alike t evidence judgements are is.0 in
            is_early_line t evidence l is.0 (ap has_finding (sym at) ∙ is.3) (is.4 ∙ ap line_for at))
            w.lines w.each;
        written = w.written;
        goes = w.goes;
        whole = w.whole;
        cut = w.cut;
      },
    ))

-- what a writer that is lent was told, once it is back
pub given_back : {E : Type 0} (before after back : E) (X : E → Type 0) → back ≡ after → (after ≡ before) ⊎ X after
    → (back ≡ before) ⊎ X back
given_back {E = E} before after back X is told = subst (λ (e : E). (e ≡ before) ⊎ X e) (sym is) told
