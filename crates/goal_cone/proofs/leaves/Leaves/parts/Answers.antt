use Rattle.std.proofs.Common.{rules, ◌≡◌, ◌<◌, ◌≤◌, ◌∙◌, List, ap, get_or, length, map, sym, subst}
use Rattle.namespaces.specs.Declaration.{Declaration}
use Rattle.goal_cone.specs.Leaves.{IsNoted, LeavesValue, numbered, read_shown}
use Rattle.goal_cone.proofs.OnceLemmas.{numbered_nowhere}
use Rattle.goal_cone.proofs.leaves.Leaves.parts.Goals as goal

pub returns-in-Some-clause-noted : goal.returns-in-Some-clause-noted
returns-in-Some-clause-noted c = λ r there.
    let items = c.self.inside.placed.items in
    let n = c.args.number in
    let p = c.in-Some.placed.now in
    let same : c.self.inside.rules.now ≡ c.args.self.now.declarations = ap (λ (l : LeavesValue). l.declarations) c.self.view_is in
    let within : n < length items = rw c.deref.ensures.value at c.in-Some.ensures.lookup.3.0 in
    let is : get_or items n p ≡ p = sym (rw c.deref.ensures.value at (c.in-Some.ensures.lookup.3.1 p)) in
    let parts : c.as_slice.result.now ≡ p.parts.items = search rules in
    subst (λ (ds : List Declaration). IsNoted ds r) same ((c.self.invariant p (n, within, is)).noted r (rw parts at there))

pub returns-in-None-clause-shown : goal.returns-in-None-clause-shown
returns-in-None-clause-shown c =
    let items = c.self.inside.placed.items in
    let few : length items ≤ c.args.number = rw c.deref.ensures.value at c.in-None.ensures.lookup.3 in
    let found : map (λ p. read_shown p.parts.items) items ≡ c.args.self.now.found = ap (λ (l : LeavesValue). l.found) c.self.view_is in
    sym (ap (numbered c.args.number) (sym found) ∙ numbered_nowhere items c.args.number few)
