-- What taking a step of a record answers, and what is known from then on.
use Rattle.std.specs.Prelude.{◌≡◌, ℕ, Bool, true, Result, IfOk, OnOk}
use Rattle.std.specs.declared.alloc.AllocError.{AllocError}
use Rattle.namespaces.specs.Lookup.{rule_at}
use Rattle.version_chains.specs.Commits.{store_at}
use Rattle.trace_lines.specs.Values.{TraceValue}
use Rattle.judgement.specs.Judgement.{KnownValue}
use Rattle.evidence_check.specs.Accepted.{after_step}
use Rattle.evidence_check.specs.Growing.{IsBorneOut}
use Rattle.evidence_check.specs.Judged.{is_accepted}
use Rattle.evidence_check.specs.Steps.{StepValue}

-- whether it is accepted at a timestamp of the trace is the answer; what is known is borne out as long as steps are
pub record TakesStep (t : TraceValue) (at : ℕ) (old new : KnownValue) (step : StepValue)
    (result : Result Bool AllocError) : Type 0 where
  pub accepted : IfOk result (λ r. r ≡ is_accepted (rule_at t.declarations at) (store_at t.commits at) old step)
  pub known : OnOk result (new ≡ after_step old step)
  pub borne : IfOk result (λ r. r ≡ true → IsBorneOut (rule_at t.declarations at) (store_at t.commits at) new)
