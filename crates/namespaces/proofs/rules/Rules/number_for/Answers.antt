use Rattle.std.proofs.Common.{◌≡◌, ◌<◌, ◌+◌, ◌∙◌, [], ◌∷◌, None, Some, length, length-append, arith, sym, ap}
use Rattle.namespaces.specs.Lookup.{namespace_names, place_of, with_name}
use Rattle.namespaces.proofs.Declarers.{number_kept, number_next, with_name-new}
use Rattle.namespaces.proofs.Fields.{count_found}
use Rattle.namespaces.proofs.rules.Rules.number_for.Goals.{After-len}
use Rattle.namespaces.proofs.rules.Rules.number_for.Goals as goal

counted : (c : After-len) → c.len.result ≡ length (namespace_names c.args.self.now)
counted c =
    let s = c.self.inside in
    c.len.ensures.len ∙ count_found s.lines.items s.namespaces.entries s.changes c.args.self.now c.self.view_is c.self.invariant.0

few : (c : After-len) → c.len.result < 256
few c =
    let ns = namespace_names c.args.self.now in
    let none : place_of c.args.namespace.now ns ≡ None = sym c.namespace_number.ensures ∙ c.in-None.is in
    let more : length (with_name ns c.args.namespace.now) ≡ length ns + 1 =
    ap length (with_name-new ns c.args.namespace.now none) ∙ length-append ns (c.args.namespace.now ∷ []) in
    omega (arith, more, counted c, c.requires)

pub overflow_cast-result : goal.overflow_cast-result
overflow_cast-result c = omega (arith, few (goal.at.overflow_cast-result c).After-len)

pub overflow_add-result : goal.overflow_add-result
overflow_add-result c = omega (arith, few (goal.at.overflow_add-result c).After-len)

pub returns-in-Some : goal.returns-in-Some
returns-in-Some c = number_kept (namespace_names c.args.self.now) c.args.namespace.now c.in-Some.number (sym c.namespace_number.ensures ∙ c.in-Some.is)

pub returns-in-None : goal.returns-in-None
returns-in-None c =
    let ns = namespace_names c.args.self.now in
    number_next ns c.args.namespace.now (sym c.namespace_number.ensures ∙ c.in-None.is)
    ∙ ap (λ n. Some (n + 1)) (sym (counted (goal.at.returns-in-None c).After-len))
