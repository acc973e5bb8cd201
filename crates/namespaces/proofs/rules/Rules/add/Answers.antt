use Rattle.serde_json.specs.View.{view}
use Rattle.namespaces.specs.Shown.{show_namespace}
use Rattle.namespaces.proofs.Fields.{well}
use Rattle.namespaces.proofs.Growth.{added_grows, later_added}
use Rattle.namespaces.proofs.rules.Rules.add.Goals as goal

pub push-requires : goal.push-requires
push-requires c =
    let s = c.self.inside in
    let w = well s.lines.items s.namespaces.entries s.changes c.args.self.now c.self.view_is c.self.invariant.0 in
    added_grows c.args.self.now (view c.args.value.now) (show_namespace c.in_ok-namespace.namespace) w c.in_ok-namespace.ensures

pub returns-clause-later : goal.returns-clause-later
returns-clause-later c = λ at later. later_added c.push.result at c.args.self.now c.push.new.self (show_namespace c.in_ok-namespace.namespace) c.push.ensures.ok c.push.ensures.unchanged later
