use Rattle.std.proofs.Common.{◌∙◌, sym}
use Rattle.namespaces.proofs.Fields.{declared_found}
use Rattle.namespaces.proofs.rules.Rules.is_declared.Goals as goal

pub returns : goal.returns
returns c =
    let s = c.self.inside in
    c.contains.ensures ∙ sym (declared_found s.lines.items s.namespaces.entries s.changes c.args.self.now c.self.view_is c.self.invariant.0 c.args.namespace.now)
