use Rattle.std.proofs.Common.{◌≡◌, ◌∷◌, ◌++◌, [], subst}
use Rattle.namespaces.specs.Declaration.{declared}
use Rattle.namespaces.specs.WellFormed.{IsWellFormed}
use Rattle.namespaces.specs.Shown.{show_lines, show_namespace}
use Rattle.namespaces.proofs.Copies.{well_next, fit_line}
use Rattle.namespaces.proofs.rules.Rules.copy.Goals as goal

pub copied_namespace-requires : goal.copied_namespace-requires
copied_namespace-requires c =
    let ls = c.deref-line-items.result.now in
    let w : IsWellFormed (show_lines ls) = rw c.deref-line-items.ensures.value c.self.invariant.0.well_formed in
    (fit_line ls c.loop-line.line-index c.line-item.result c.loop-line-test.true c.line-item.is w.fit).distinct

pub push-requires : goal.push-requires
push-requires c =
    let ls = c.deref-line-items.result.now in
    let l = c.line-item.result in
    let w : IsWellFormed (show_lines ls) = rw c.deref-line-items.ensures.value c.self.invariant.0.well_formed in
    let same : show_namespace l.namespace ≡ show_namespace c.in_ok-namespace.namespace = let e = c.in_ok-namespace.ensures in cc in
    subst (λ n. IsWellFormed (c.loop-line.rules ++ declared l.at l.is_change n ∷ [])) same (rw c.loop-line.invariant (well_next ls c.loop-line.line-index l c.loop-line-test.true c.line-item.is w))
