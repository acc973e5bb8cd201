use Rattle.std.proofs.Common.{◌<◌, refl, arith}
use Rattle.namespaces.proofs.Fields.{well, position_found, count_found}
use Rattle.namespaces.proofs.rules.Rules.namespace_number.Goals.{In_ok-index}
use Rattle.namespaces.proofs.rules.Rules.namespace_number.Goals as goal

pub returns-in_err-index : goal.returns-in_err-index
returns-in_err-index c =
    let s = c.self.inside in
    rw (c.from_residual.ensures, position_found s.lines.items s.namespaces.entries s.changes c.args.self.now c.self.view_is c.self.invariant.0 c.args.namespace.now, ← c.in_err-index.ensures.index) refl

few : (c : In_ok-index) → c.in_ok-index.index < 256
few c =
    let s = c.self.inside in
    let few = (well s.lines.items s.namespaces.entries s.changes c.args.self.now c.self.view_is c.self.invariant.0).namespaces in
    let count = count_found s.lines.items s.namespaces.entries s.changes c.args.self.now c.self.view_is c.self.invariant.0 in
    omega (arith, c.in_ok-index.ensures.within)

pub overflow_cast-result : goal.overflow_cast-result
overflow_cast-result c = let few = few (goal.at.overflow_cast-result c).In_ok-index in omega arith

pub overflow_add-result : goal.overflow_add-result
overflow_add-result c = let few = few (goal.at.overflow_add-result c).In_ok-index in omega arith

pub returns : goal.returns
returns c =
    let s = c.self.inside in
    rw (position_found s.lines.items s.namespaces.entries s.changes c.args.self.now c.self.view_is c.self.invariant.0 c.args.namespace.now, ← c.in_ok-index.ensures.index) refl
