use Rattle.std.proofs.Common.{sym, refl}
use Rattle.namespaces.proofs.Fields.{well, none_found, some_found, at_led}
use Rattle.namespaces.proofs.Times.{revisions_rise_in_time}
use Rattle.namespaces.proofs.rules.Rules.revision_in_force.Goals as goal

pub returns-in_err-revisions-clause-relations : goal.returns-in_err-revisions-clause-relations
returns-in_err-revisions-clause-relations c =
    let s = c.self.inside in
    let q = c.args.namespace.now in
    let none = none_found s.lines.items s.namespaces.entries s.changes c.args.self.now c.self.view_is c.self.invariant.0 q (sym c.in_err-revisions.ensures.value) in
    rw (c.from_residual.ensures, at_led c.args.at q c.args.self.now _ none) refl

pub revision_at-requires : goal.revision_at-requires
revision_at-requires c =
    let s = c.self.inside in
    let q = c.args.namespace.now in
    let w = well s.lines.items s.namespaces.entries s.changes c.args.self.now c.self.view_is c.self.invariant.0 in
    let some = some_found s.lines.items s.namespaces.entries s.changes c.args.self.now c.self.view_is c.self.invariant.0 q _ (sym c.in_ok-revisions.ensures.value) in
    rw (c.as_slice.ensures.value, ← some) (revisions_rise_in_time q c.args.self.now w.continued)

pub returns-clause-relations : goal.returns-clause-relations
returns-clause-relations c =
    let s = c.self.inside in
    let q = c.args.namespace.now in
    let some = some_found s.lines.items s.namespaces.entries s.changes c.args.self.now c.self.view_is c.self.invariant.0 q _ (sym c.in_ok-revisions.ensures.value) in
    rw (at_led c.args.at q c.args.self.now _ some, ← c.as_slice.ensures.value, ← c.revision_at.ensures) refl
