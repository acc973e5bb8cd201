use Rattle.std.proofs.Common.{◌≡◌, ◌∷◌, ◌++◌, [], subst}
use Rattle.serde_json.specs.View.{view}
use Rattle.namespaces.specs.Declaration.{change}
use Rattle.namespaces.specs.WellFormed.{IsWellFormed}
use Rattle.namespaces.specs.Shown.{show_namespace}
use Rattle.namespaces.proofs.Fields.{well, none_after_last}
use Rattle.namespaces.proofs.Growth.{changed_grows_from}
use Rattle.namespaces.proofs.rules.Rules.with_change.Goals as goal

pub push-requires : goal.push-requires
push-requires c =
    let s = c.self.inside in
    let ds = c.args.self.now in
    let w = well s.lines.items s.namespaces.entries s.changes ds c.self.view_is c.self.invariant.0 in
    let before = none_after_last s.lines.items s.namespaces.entries s.changes ds c.self.view_is c.self.invariant.0 in
    let n = show_namespace c.in_ok-namespace.namespace in
    let same : ds ≡ c.in_ok-rules.rules = let e = c.in_ok-rules.ensures in cc in
    subst (λ cs. IsWellFormed (cs ++ change 18446744073709551615 n ∷ [])) same (changed_grows_from ds 18446744073709551615 (view c.args.value.now) n w before c.in_ok-namespace.ensures)
