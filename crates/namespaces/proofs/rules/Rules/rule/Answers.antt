use Rattle.std.proofs.Common.{◌≡◌, slice_get, refl, sym}
use Rattle.std.specs.Prelude.{option_and_then, option_map}
use Rattle.namespaces.specs.Declaration.{Declaration}
use Rattle.namespaces.specs.Lookup.{history_numbered}
use Rattle.namespaces.proofs.Numbering.{history-numbered}
use Rattle.namespaces.proofs.Times.{revisions_grow}
use Rattle.namespaces.proofs.rules.Rules.rule.Goals.{After-revision_with}
use Rattle.namespaces.proofs.rules.Rules.rule.Goals as goal

pub revision_with-requires : goal.revision_with-requires
revision_with-requires c = rw (c.as_slice.ensures.value, c.in_ok-revisions.ensures.revisions) (revisions_grow _ c.args.self.now c.in_ok-revisions.ensures.well_formed.continued)

-- the rule stands where the revision that was found leads
led : (c : After-revision_with) → slice_get (history_numbered c.args.number c.args.self.now) c.args.k
    ≡ option_and_then (λ v. option_and_then (λ rs. slice_get rs c.in_ok-index.field-0) (option_map (λ (d : Declaration). d.relations) (slice_get c.args.self.now v.line))) c.revision_with.result
led c =
    rw (
      history-numbered c.args.self.now c.args.number _ c.in_ok-index.field-0 c.args.k c.in_ok-revisions.ensures.well_formed (sym c.in_ok-revisions.ensures.name) c.in_ok-index.ensures.0 (sym c.in_ok-index.ensures.1),
      ← c.in_ok-revisions.ensures.revisions,
      ← c.as_slice.ensures.value,
      ← c.revision_with.ensures,
    ) refl

pub returns-in_err-revision : goal.returns-in_err-revision
returns-in_err-revision c = rw (c.from_residual-in_err-revision.ensures, led (goal.at.returns-in_err-revision c).After-revision_with, c.in_err-revision.was) refl

pub returns-in_err-relation : goal.returns-in_err-relation
returns-in_err-relation c =
    rw (c.from_residual-in_err-relation.ensures, led (goal.at.returns-in_err-relation c).After-revision_with, c.in_ok-revision.was, ← c.in_err-relation.ensures) refl

pub returns : goal.returns
returns c = rw (led (goal.at.returns c).After-revision_with, c.in_ok-revision.was, ← c.in_ok-relation.ensures) refl
