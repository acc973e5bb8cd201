use Rattle.serde_json.specs.View.{view}
use Rattle.namespaces.specs.Shown.{show_namespace}
use Rattle.namespaces.proofs.Fields.{well}
use Rattle.namespaces.proofs.Growth.{changed_grows, later_changed}
use Rattle.namespaces.proofs.rules.Rules.change.Goals as goal

pub push-requires : goal.push-requires
push-requires c =
    let s = c.self.inside in
    let w = well s.lines.items s.namespaces.entries s.changes c.args.self.now c.self.view_is c.self.invariant.0 in
    changed_grows c.args.self.now c.args.at (view c.args.value.now) (show_namespace c.in_ok-namespace.namespace) w c.requires c.in_ok-namespace.ensures

pub returns-clause-later : goal.returns-clause-later
returns-clause-later c = λ next h. later_changed c.push.result c.args.at next c.args.self.now c.push.new.self (show_namespace c.in_ok-namespace.namespace) c.push.ensures.ok c.push.ensures.unchanged c.requires h
