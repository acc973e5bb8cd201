use Rattle.std.proofs.Common.{Option, ap, ◌∙◌}
use Rattle.std.specs.Prelude.{unwrap_or}
use Rattle.trace_lines.specs.EntryViews.{entry_value}
use Rattle.evidence_check.specs.declared.judged.Judged.{Judged}
use Rattle.evidence_check.specs.declared.judged.Judged.TheVariants.{Missing}
use Rattle.findings.specs.Findings.{found_where, findings_of}
use Rattle.findings.proofs.OneMore.{one_more}
use Rattle.findings.proofs.entries.findings_judged.Goals as goal

pub loop-i-preserved : goal.loop-i-preserved
loop-i-preserved c = λ evidence h.
    let t = c.args.trace.now in
    let e = entry_value c.entry.result in
    let at = c.entry.ensures.value in
    let found = c.found_judged-found.ensures e at ∙ ap (λ (o : Option Judged). found_where t (unwrap_or o Missing) c.loop-i.i e) (h.1 c.loop-i.i e at) in
    one_more t evidence c.loop-i.i e c.loop-i.findings.items c.push_found.new.findings.items (findings_of t evidence) c.found_judged-found.result at found c.in_ok-push_found.ensures.pushes (c.loop-i.invariant evidence h)
