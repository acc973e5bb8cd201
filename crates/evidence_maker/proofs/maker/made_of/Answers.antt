use Rattle.std.proofs.Common.{◌≡◌, ◌↔◌, false, IsTrue, Some, inl, inr, sym, ◌∙◌}
use Rattle.trace_lines.specs.EntryViews.{entry_value}
use Rattle.evidence_check.specs.Judged.{judged}
use Rattle.evidence_check.specs.Steps.{step_values}
use Rattle.evidence_maker.specs.Made.{Fits}
use Rattle.evidence_maker.proofs.JudgedSteps.{IsSettling, settles_if_judged, judged_if_settles}
use Rattle.evidence_maker.proofs.maker.made_of.Goals as goal

pub returns-in-Supported-clause-made : goal.returns-in-Supported-clause-made
returns-in-Supported-clause-made c =
    let t = c.args.asked.now in
    let e = entry_value c.args.entry.now in
    let ss = step_values c.args.steps.items in
    let judges : c.in_ok-judged.judged ≡ judged t e (Some ss) = c.in_ok-judged.ensures.judged in
    let settling : IsSettling (judged t e (Some ss)) =
    elim c.in-Supported.is [ inl s ↦ inl (sym judges ∙ s) | inr s ↦ inr (sym judges ∙ s) ] in
    let fit : IsTrue c.fits.result ↔ Fits e.line ss = rw c.deref.ensures.value at c.fits.ensures in
    record { settles = settles_if_judged t e ss settling; fits = fit.0 c.if-not-fits.false; judges = judges }

pub returns-then-not-fits-clause-none : goal.returns-then-not-fits-clause-none
returns-then-not-fits-clause-none c = λ none h.
    let ss = step_values c.args.steps.items in
    let fit : IsTrue c.fits.result ↔ Fits c.args.entry.now.line ss = rw c.deref.ensures.value at c.fits.ensures in
    let t : IsTrue c.fits.result = fit.1 h.1 in let f : c.fits.result ≡ false = c.if-not-fits.true in cc

pub returns-in_default-clause-none : goal.returns-in_default-clause-none
returns-in_default-clause-none c = λ none h.
    elim (judged_if_settles c.args.asked.now (entry_value c.args.entry.now) (step_values c.args.steps.items) h.0) [
      | inl s ↦ c.in_default.not-Supported (c.in_ok-judged.ensures.judged ∙ s)
      | inr s ↦ c.in_default.not-Contradicted (c.in_ok-judged.ensures.judged ∙ s)
    ]
