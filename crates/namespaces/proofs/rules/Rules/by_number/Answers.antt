use Rattle.std.proofs.Common.{sym, refl, string_bytes}
use Rattle.namespaces.proofs.Fields.{well, name_found, some_found}
use Rattle.namespaces.proofs.rules.Rules.by_number.Goals as goal

pub returns-in_err-index-clause-well_formed : goal.returns-in_err-index-clause-well_formed
returns-in_err-index-clause-well_formed c =
    let s = c.self.inside in
    well s.lines.items s.namespaces.entries s.changes c.args.self.now c.self.view_is c.self.invariant.0

pub returns-in_err-name-clause-name : goal.returns-in_err-name-clause-name
returns-in_err-name-clause-name c =
    let s = c.self.inside in
    let named = name_found s.lines.items s.namespaces.entries s.changes c.args.self.now c.self.view_is c.self.invariant.0 c.args.number c.in_ok-index.index c.in_ok-index.ensures.0 (sym c.in_ok-index.ensures.1) in
    rw (c.from_residual-in_err-name.ensures, named, ← c.in_err-name.ensures.entry) refl

pub returns-clause-name : goal.returns-clause-name
returns-clause-name c =
    let s = c.self.inside in
    let named = name_found s.lines.items s.namespaces.entries s.changes c.args.self.now c.self.view_is c.self.invariant.0 c.args.number c.in_ok-index.index c.in_ok-index.ensures.0 (sym c.in_ok-index.ensures.1) in
    rw (c.as_str.ensures.value, named, ← c.in_ok-name.ensures.entry) refl

pub returns-clause-revisions : goal.returns-clause-revisions
returns-clause-revisions c =
    let s = c.self.inside in
    rw c.as_str.ensures.value (sym (some_found s.lines.items s.namespaces.entries s.changes c.args.self.now c.self.view_is c.self.invariant.0 (string_bytes c.in_ok-name.name.now) c.in_ok-name.revisions.now c.in_ok-name.ensures.value))
