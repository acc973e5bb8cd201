-- What is told line by line is what is found in the whole.
use Rattle.std.proofs.Common.{◌≡◌, ℕ, zero, suc, ◌<◌, ◌≤◌, List, ◌++◌, Option, refl, sym, ◌∙◌, ap, subst, arith}
use Rattle.std.specs.Prelude.{IsPermutation}
use Rattle.trace_lines.specs.Values.{TraceValue, next_line}
use Rattle.evidence_check.specs.Steps.{StepValue}
use Rattle.findings.specs.Findings.{findings_of}
use Rattle.findings.specs.declared.finding.Finding.{Finding}
use Rattle.follow_laws.specs.Begun.{IsOfBytes, Begins}
use Rattle.follow_laws.specs.Followed.{followed}
use Rattle.follow_laws.specs.Told.{told_on, told_before, left_over}
use Rattle.follow_laws.proofs.OnceLemmas.{once_to}
use Rattle.follow_laws.proofs.StaysLemmas.{stays_law}

followed_alike : (so_far : ℕ → TraceValue) (u : TraceValue) (evidence : List (Option (List StepValue))) (n : ℕ)
    → ((k : ℕ) → k < n → Begins k (so_far k) u) → followed so_far evidence n ≡ told_before u evidence n
followed_alike so_far u evidence zero begins = refl
followed_alike so_far u evidence (suc n) begins =
    ap (λ (fs : List Finding). fs ++ told_on (so_far n) evidence n) (followed_alike so_far u evidence n (λ k lt. begins k
    (omega (arith, lt))))
    ∙ ap (λ (fs : List Finding). told_before u evidence n ++ fs) (sym (stays_law n (so_far n) u (begins n (omega arith))
    evidence evidence (λ i lt. refl) n (omega arith)))

pub followed_law : (so_far : ℕ → TraceValue) (n : ℕ) (u : TraceValue) → IsOfBytes u
    → ((k : ℕ) → k < n → Begins k (so_far k) u) → next_line u ≤ n → (evidence : List (Option (List StepValue)))
    → IsPermutation (followed so_far evidence n ++ left_over u evidence) (findings_of u evidence)
followed_law so_far n u good begins within evidence =
    subst (λ (fs : List Finding). IsPermutation (fs ++ left_over u evidence) (findings_of u evidence)) (sym (followed_alike
    so_far u evidence n begins)) (once_to n u good within evidence)
