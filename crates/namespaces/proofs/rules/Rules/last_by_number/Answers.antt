use Rattle.std.proofs.Common.{refl, sym}
use Rattle.namespaces.proofs.Fields.{numbered_led}
use Rattle.namespaces.proofs.rules.Rules.last_by_number.Goals as goal

pub returns-in_err-newest-clause-relation : goal.returns-in_err-newest-clause-relation
returns-in_err-newest-clause-relation c =
    rw (
      c.from_residual-in_err-newest.ensures,
      numbered_led c.args.self.now c.args.number _ c.in_ok-index.index _ (sym c.in_ok-revisions.ensures.name) c.in_ok-index.ensures.0 (sym c.in_ok-index.ensures.1) (sym c.in_ok-revisions.ensures.revisions),
      ← c.deref.ensures.value,
      ← c.last.ensures.value,
      ← c.in_err-newest.ensures,
    ) refl

pub returns-clause-relation : goal.returns-clause-relation
returns-clause-relation c =
    rw (
      numbered_led c.args.self.now c.args.number _ c.in_ok-index.index _ (sym c.in_ok-revisions.ensures.name) c.in_ok-index.ensures.0 (sym c.in_ok-index.ensures.1) (sym c.in_ok-revisions.ensures.revisions),
      ← c.deref.ensures.value,
      ← c.last.ensures.value,
      ← c.in_ok-newest.ensures,
      ← c.relation_in.ensures,
    ) refl
