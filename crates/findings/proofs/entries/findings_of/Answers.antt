use Rattle.trace_lines.specs.EntryViews.{entry_value}
use Rattle.evidence_check.specs.Evidences.{evidence_value}
use Rattle.findings.specs.Findings.{findings_of}
use Rattle.findings.proofs.OneMore.{one_more}
use Rattle.findings.proofs.entries.findings_of.Goals as goal

pub loop-i-preserved : goal.loop-i-preserved
loop-i-preserved c =
    let e = entry_value c.entry.result in
    one_more c.args.trace.now (evidence_value c.args.evidence.now) c.loop-i.i e c.loop-i.findings.items c.push_found.new.findings.items (findings_of c.args.trace.now (evidence_value c.args.evidence.now)) c.in_ok-found.found
    c.entry.ensures.value (c.in_ok-found.ensures e c.entry.ensures.value) c.in_ok-push_found.ensures.pushes c.loop-i.invariant
