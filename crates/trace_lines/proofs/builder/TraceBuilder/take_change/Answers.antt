use Rattle.std.proofs.Common.{◌≡◌, ◌≤◌, ◌-◌, ◌^◌, length, Some, None, sym, subst, ◌∙◌}
use Rattle.serde_json.specs.View.{view}
use Rattle.namespaces.specs.Changing.{IsLater}
use Rattle.version_chains.specs.Commits.{changelog}
use Rattle.version_chains.specs.Appends.{late_fault, last_at}
use Rattle.trace_lines.specs.Causes.{Fails}
use Rattle.trace_lines.specs.Declaring.{refused_late}
use Rattle.trace_lines.specs.Traces.{empty_commit, with_commit}
use Rattle.trace_lines.specs.Values.{TraceValue}
use Rattle.trace_lines.proofs.Orderly.{late_line, committed, empty_last, gives_rest, not_err}
use Rattle.trace_lines.proofs.builder.TraceBuilder.take_change.Goals as goal

pub returns-in-Some : goal.returns-in-Some
returns-in-Some c =
    rw (late_line c.args.line c.args.at c.in-Some.last c.args.self.now (view c.args.value.now) (sym c.in-Some.ensures))
    (subst (λ (t : TraceValue). Fails c.late_change.result (refused_late c.in-Some.last c.args.at t.declarations (view c.args.value.now))) c.self.view_is (c.late_change.ensures c.args.at))

pub change_rules-requires-clause-later : goal.change_rules-requires-clause-later
change_rules-requires-clause-later c =
    let given = not_err c.append.new.self c.append.result (with_commit c.args.line c.args.self.now (empty_commit c.args.at)) (sym c.is_err.ensures.value ∙ c.if-is_err.false) c.append.ensures in
    let ready = subst (λ (t : TraceValue). late_fault (last_at t.commits) c.args.at ≡ None → IsLater c.args.at t.declarations) c.self.view_is (c.self.invariant.2.later c.args.at) in
    subst (λ (t : TraceValue). IsLater c.args.at t.declarations) (sym (committed c.args.line c.args.at c.args.self.now c.append.new.self given)) (ready (sym c.in_default.ensures))

pub change_rules-requires-clause-last : goal.change_rules-requires-clause-last
change_rules-requires-clause-last c =
    let given = not_err c.append.new.self c.append.result (with_commit c.args.line c.args.self.now (empty_commit c.args.at)) (sym c.is_err.ensures.value ∙ c.if-is_err.false) c.append.ensures in
    subst (λ (t : TraceValue). last_at t.commits ≡ Some c.args.at) (sym (committed c.args.line c.args.at c.args.self.now c.append.new.self given)) (empty_last c.args.self.now c.args.line c.args.at)

pub returns : goal.returns
returns c =
    let given = not_err c.append.new.self c.append.result (with_commit c.args.line c.args.self.now (empty_commit c.args.at)) (sym c.is_err.ensures.value ∙ c.if-is_err.false) c.append.ensures in
    let few = subst (λ (t : TraceValue). length (changelog t.commits) ≤ 2 ^ 32 - 1) c.self.view_is c.self.invariant.2.touches in
    gives_rest _ c.change_rules.result c.args.line c.args.at c.args.self.now c.append.new.self (view c.args.value.now)
    (committed c.args.line c.args.at c.args.self.now c.append.new.self given) (sym c.in_default.ensures) few c.change_rules.ensures
