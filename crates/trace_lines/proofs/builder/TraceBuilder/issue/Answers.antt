use Rattle.std.proofs.Common.{◌≡◌, ◌≤◌, None, length, sym, subst, ◌∙◌}
use Rattle.trace_lines.specs.Issued.{version_value}
use Rattle.trace_lines.specs.EntryViews.{entry_value}
use Rattle.trace_lines.specs.Values.{TraceValue, next_line}
use Rattle.trace_lines.specs.Recorded.{Recorded, shown}
use Rattle.trace_lines.proofs.IssuedVersions.{unchanged_issued}
use Rattle.trace_lines.proofs.Recording.{content_names_nothing, issued_content, kept_push, not_there}
use Rattle.trace_lines.proofs.builder.TraceBuilder.issue.Goals as goal

pub invariant_of-self : goal.invariant_of-self
invariant_of-self c = rw c.in_err-push.ensures.err c.self.invariant

pub invariant_of-self-in-Err : goal.invariant_of-self-in-Err
invariant_of-self-in-Err c =
    let rs = c.self.inside.recorded in
    let last : Recorded = record { entry = entry_value c.args.entry.now; content = None } in
    rw (c.pop.ensures.last rs last c.in_ok-push.ensures.ok) (
      c.self.invariant.0,
      c.self.invariant.1,
      c.self.invariant.2,
      c.self.invariant.3,
      unchanged_issued _ c.self.inside.versions c.push-3.new.self c.self.invariant.4 c.in-Err.ensures.same_entries c.in-Err.ensures.same_marks,
    )

pub invariant_of-self-in_default-push : goal.invariant_of-self-in_default-push
invariant_of-self-in_default-push c =
    let e = c.args.entry.now in
    let room = subst (λ (t : TraceValue). next_line t ≤ e.line) (sym c.self.view_is) c.requires.line in
    let before = subst (λ (t : TraceValue). e.before ≡ length t.commit_lines) (sym c.self.view_is) c.requires.before in
    let new = sym c.issuer.ensures ∙ not_there _ (sym c.is_some.ensures ∙ c.if-is_some.false) in
    let rs = c.self.inside.recorded in
    let entries = rw c.len-number.ensures at c.in_default-push.ensures.entries in
    let kept : Recorded = record { entry = entry_value e; content = None } in (
      c.self.invariant.0,
      kept_push _ _ rs c.self.invariant.1 kept c.push-2.new.self c.in_ok-push.ensures.ok room before (content_names_nothing (shown rs) (entry_value e) c.requires.kind),
      c.self.invariant.2,
      c.self.invariant.3,
      issued_content rs c.self.inside.versions c.self.invariant.4 kept c.push-2.new.self c.in_ok-push.ensures.ok (version_value c.in-Some.version) c.push-3.new.self c.requires.kind
          (sym c.in-Some.ensures) new entries c.in_default-push.ensures.marks,
    )
