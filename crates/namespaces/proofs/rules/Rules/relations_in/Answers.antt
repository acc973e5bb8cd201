use Rattle.std.proofs.Common.{◌≡◌, ℕ, nat_lt, List, length, get_or, slice_get, Option, Some, None, is_some, option_map, Bor, refl}
use Rattle.std.proofs.lemmas.Option.{slice_get-map}
use Rattle.std.specs.Option.{IfSome, option_copied}
use Rattle.namespaces.specs.Declaration.{Declaration}
use Rattle.namespaces.specs.Shown.{show_relations, show_line, show_lines}
use Rattle.namespaces.specs.declared.rules.Line.{Line}
use Rattle.namespaces.proofs.Points.{copied_get}
use Rattle.namespaces.proofs.rules.Rules.relations_in.Goals as goal

there : (ds : List Declaration) (ms ls : List Line) (i : ℕ) (o : Option (Bor Line)) → show_lines ms ≡ ds → ls ≡ ms
    → is_some o ≡ nat_lt i (length ls) → IfSome o (λ x. x.now ≡ get_or ls i x.now)
    → option_map (λ x. show_relations x.now.namespace.relations.entries) o ≡ option_map (λ d. d.relations) (slice_get ds i)
there ds ms ls i o shown same within is = rw (← shown, ← same, slice_get-map show_line ls i, ← copied_get ls i o within is) (by o)
  where
    by : (o : Option (Bor Line))
        → option_map (λ x. show_relations x.now.namespace.relations.entries) o ≡ option_map (λ d. d.relations) (option_map show_line (option_copied o))
    by None = refl
    by (Some x) = refl

pub returns-in_err-line : goal.returns-in_err-line
returns-in_err-line c =
    rw c.from_residual.ensures (there _ _ _ _ None c.self.view_is c.deref.ensures.value c.in_err-line.ensures.lookup.0
    c.in_err-line.ensures.lookup.1)

pub returns : goal.returns
returns c =
    there _ _ _ _ (Some c.in_ok-line.line) c.self.view_is c.deref.ensures.value c.in_ok-line.ensures.lookup.0
    c.in_ok-line.ensures.lookup.1
