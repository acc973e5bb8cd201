-- A step that was judged, and whose facts are known from then on, was taken.
use Rattle.std.proofs.Common.{◌≡◌, ℕ, Bool, Ok, IsTrue, ◌↔◌, ◌∙◌, subst, sym}
use Rattle.namespaces.specs.Lookup.{rule_at}
use Rattle.version_chains.specs.Commits.{store_at}
use Rattle.trace_lines.specs.Values.{TraceValue}
use Rattle.judgement.specs.Judgement.{KnownValue}
use Rattle.evidence_check.specs.Accepted.{IsAccepted, after_step}
use Rattle.evidence_check.specs.Growing.{IsBorneOut}
use Rattle.evidence_check.specs.Steps.{StepValue}
use Rattle.evidence_check.specs.Taking.{TakesStep}
use Rattle.evidence_check.proofs.Growing.{borne_out_after}
use Rattle.evidence_check.proofs.JudgedLemmas.{accepted_by, accepted_iff}

pub taken : (t : TraceValue) (at : ℕ) (old new : KnownValue) (step : StepValue) (r : Bool)
    → IsBorneOut (rule_at t.declarations at) (store_at t.commits at) old
    → (IsTrue r ↔ IsAccepted (rule_at t.declarations at) (store_at t.commits at) old step) → new ≡ after_step old step
    → TakesStep t at old new step (Ok r)
taken t at old new step r borne accepts known =
    let rules = rule_at t.declarations at in
    let store = store_at t.commits at in
    let is = accepted_by rules store old step r accepts in
    record {
      accepted = is;
      known = known;
      borne = λ ok.
          subst (λ (k : KnownValue). IsBorneOut rules store k) (sym known)
          (borne_out_after rules store old step borne ((accepted_iff rules store old step).0 (sym is ∙ ok)));
    }
