use Rattle.std.proofs.Common.{refl}
use Rattle.namespaces.proofs.InForceLemmas.{name_shown}
use Rattle.namespaces.proofs.rules.Rules.name_in_force.Goals as goal

pub returns-in_err-name : goal.returns-in_err-name
returns-in_err-name c =
    let es = c.in_ok-in_force.field-0.now.entries in
    rw (
      c.from_residual-in_err-name.ensures,
      name_shown c.args.at c.args.namespace.now c.args.self.now es c.args.k c.in_ok-in_force.ensures.relations,
      ← c.in_err-name.ensures.entry,
    ) refl

pub returns : goal.returns
returns c =
    let es = c.in_ok-in_force.field-0.now.entries in
    rw (
      name_shown c.args.at c.args.namespace.now c.args.self.now es c.args.k c.in_ok-in_force.ensures.relations,
      ← c.in_ok-name.ensures.entry,
      c.as_str.ensures.value,
    ) refl
