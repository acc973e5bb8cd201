use Rattle.std.proofs.Common.{sym, refl}
use Rattle.namespaces.proofs.Fields.{well, none_found, some_found, newest_led, few_relations}
use Rattle.namespaces.proofs.rules.Rules.newest.Goals as goal

pub returns-in_err-get-clause-relations : goal.returns-in_err-get-clause-relations
returns-in_err-get-clause-relations c =
    let s = c.self.inside in
    let q = c.args.namespace.now in
    let none = none_found s.lines.items s.namespaces.entries s.changes c.args.self.now c.self.view_is c.self.invariant.0 q (sym c.in_err-get.ensures.value) in
    rw (c.from_residual.ensures, newest_led q c.args.self.now _ none) refl

pub returns-in_err-newest-clause-relations : goal.returns-in_err-newest-clause-relations
returns-in_err-newest-clause-relations c =
    let s = c.self.inside in
    let q = c.args.namespace.now in
    let some = some_found s.lines.items s.namespaces.entries s.changes c.args.self.now c.self.view_is c.self.invariant.0 q _ (sym c.in_ok-get.ensures.value) in
    rw (c.from_residual-in_err-newest.ensures, newest_led q c.args.self.now _ some, ← c.deref.ensures.value, ← c.last.ensures.value, ← c.in_err-newest.ensures) refl

pub returns-clause-relations : goal.returns-clause-relations
returns-clause-relations c =
    let s = c.self.inside in
    let q = c.args.namespace.now in
    let some = some_found s.lines.items s.namespaces.entries s.changes c.args.self.now c.self.view_is c.self.invariant.0 q _ (sym c.in_ok-get.ensures.value) in
    rw (newest_led q c.args.self.now _ some, ← c.deref.ensures.value, ← c.last.ensures.value, ← c.in_ok-newest.ensures) c.relations_in.ensures

pub returns-clause-limit : goal.returns-clause-limit
returns-clause-limit c =
    let s = c.self.inside in
    let q = c.args.namespace.now in
    few_relations (λ m. m.now.entries) q c.args.self.now c.relations_in.result (well s.lines.items s.namespaces.entries s.changes c.args.self.now c.self.view_is c.self.invariant.0) (returns-clause-relations c)
