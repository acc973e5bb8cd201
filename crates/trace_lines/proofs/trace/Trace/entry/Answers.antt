use Rattle.std.proofs.Common.{◌≡◌, ◌<◌, ◌≤◌, All, Some, take, drop, length, sym, subst}
use Rattle.std.specs.Prelude.{slice_get}
use Rattle.trace_lines.specs.EntryViews.{entry_value}
use Rattle.trace_lines.specs.Values.{TraceValue}
use Rattle.trace_lines.proofs.Recording.{entry_recorded, placed_recorded}
use Rattle.trace_lines.proofs.trace.Trace.entry.Goals as goal

pub returns-clause-value : goal.returns-clause-value
returns-clause-value c =
    let within = subst (λ (t : TraceValue). c.args.i < length t.entries) (sym c.self.view_is) c.requires in
    let there = entry_recorded c.self.inside.recorded c.args.i (entry_value c.entry.result) within c.entry.ensures in
    subst (λ (t : TraceValue). slice_get t.entries c.args.i ≡ Some (entry_value c.entry.result)) c.self.view_is there

pub returns-clause-before : goal.returns-clause-before
returns-clause-before c =
    let within = subst (λ (t : TraceValue). c.args.i < length t.entries) (sym c.self.view_is) c.requires in
    let placed = placed_recorded _ c.self.inside.recorded c.args.i (entry_value c.entry.result) c.self.invariant.0.placed within c.entry.ensures in
    subst (λ (t : TraceValue). c.entry.result.before ≤ length t.commits) c.self.view_is (rw c.self.invariant.0.counted at placed.counted)

pub returns-clause-earlier : goal.returns-clause-earlier
returns-clause-earlier c =
    let within = subst (λ (t : TraceValue). c.args.i < length t.entries) (sym c.self.view_is) c.requires in
    let placed = placed_recorded _ c.self.inside.recorded c.args.i (entry_value c.entry.result) c.self.invariant.0.placed within c.entry.ensures in
    subst (λ (t : TraceValue). All (λ l. l < c.entry.result.line) (take c.entry.result.before t.commit_lines)) c.self.view_is placed.earlier

pub returns-clause-later : goal.returns-clause-later
returns-clause-later c =
    let within = subst (λ (t : TraceValue). c.args.i < length t.entries) (sym c.self.view_is) c.requires in
    let placed = placed_recorded _ c.self.inside.recorded c.args.i (entry_value c.entry.result) c.self.invariant.0.placed within c.entry.ensures in
    subst (λ (t : TraceValue). All (λ l. c.entry.result.line < l) (drop c.entry.result.before t.commit_lines)) c.self.view_is placed.later
