use Rattle.std.proofs.Common.{◌≡◌, ◌≤◌, length, sym, subst}
use Rattle.trace_lines.specs.Recorded.{Recorded}
use Rattle.trace_lines.specs.EntryViews.{entry_value}
use Rattle.trace_lines.specs.Values.{TraceValue, next_line}
use Rattle.trace_lines.specs.Versions.{content_among}
use Rattle.trace_lines.proofs.Recording.{issued_plain, kept_push}
use Rattle.trace_lines.proofs.builder.TraceBuilder.push.Goals as goal

pub invariant_of-self : goal.invariant_of-self
invariant_of-self c = rw c.in_err-push.ensures.err c.self.invariant

pub invariant_of-self-2 : goal.invariant_of-self-2
invariant_of-self-2 c =
    let e = c.args.entry.now in
    let room = subst (λ (t : TraceValue). next_line t ≤ e.line) (sym c.self.view_is) c.requires.line in
    let before = subst (λ (t : TraceValue). e.before ≡ length t.commit_lines) (sym c.self.view_is) c.requires.before in
    let content = subst (λ (t : TraceValue). c.args.content ≡ content_among t.entries (entry_value e)) (sym c.self.view_is) c.requires.content in
    let kept : Recorded = record { entry = entry_value e; content = c.args.content } in (
      c.self.invariant.0,
      kept_push _ _ c.self.inside.recorded c.self.invariant.1 kept c.push.new.self c.in_ok-push.ensures.ok room before content,
      c.self.invariant.2,
      c.self.invariant.3,
      issued_plain c.self.inside.recorded c.self.inside.versions c.self.invariant.4 kept c.push.new.self c.in_ok-push.ensures.ok c.requires.issues_nothing,
    )
