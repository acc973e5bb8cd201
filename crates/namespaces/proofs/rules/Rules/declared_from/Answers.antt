use Rattle.std.proofs.Common.{◌≡◌, ◌∙◌, Option, None, Some, option_map, refl, sym}
use Rattle.namespaces.specs.Lookup.{relation_of}
use Rattle.namespaces.specs.Shown.{show_relations}
use Rattle.namespaces.proofs.Fields.{none_found, none_placed, position-relations, some_found}
use Rattle.namespaces.proofs.Since.{never, since_none, since_some}
use Rattle.namespaces.proofs.Times.{revisions_grow}
use Rattle.namespaces.proofs.rules.Rules.declared_from.Goals as goal

unmapped : {X Y : Type 0} (f : X → Y) (o : Option X) → option_map f o ≡ None → o ≡ None
unmapped f None h = refl
unmapped f (Some x) h = cc

pub returns-in_err-newest : goal.returns-in_err-newest
returns-in_err-newest c =
    let q = c.args.set.namespace.now in
    let r = c.args.set.relation.now in
    let none : relation_of q r c.args.self.now ≡ None = rw (← c.in_err-newest.ensures.relations) refl in
    rw c.from_residual.ensures (never c.args.self.now q r c.in_err-newest.ensures.well_formed none)

pub returns-in_err-index : goal.returns-in_err-index
returns-in_err-index c =
    let q = c.args.set.namespace.now in
    let r = c.args.set.relation.now in
    let none : relation_of q r c.args.self.now ≡ None =
    rw (← c.in_ok-newest.ensures.relations) (unmapped _ _ (none_placed r c.in_ok-newest.field-0.now.entries (sym c.in_err-index.ensures.index))) in
    rw c.from_residual-in_err-index.ensures (never c.args.self.now q r c.in_ok-newest.ensures.well_formed none)

pub returns-in_err-revisions : goal.returns-in_err-revisions
returns-in_err-revisions c =
    let s = c.self.inside in
    let q = c.args.set.namespace.now in
    let r = c.args.set.relation.now in
    let es = c.in_ok-newest.field-0.now.entries in
    let nothing = none_found s.lines.items s.namespaces.entries s.changes c.args.self.now c.self.view_is c.self.invariant.0 q (sym c.in_err-revisions.ensures.value) in
    rw c.from_residual-in_err-revisions.ensures (since_none c.args.self.now q r (show_relations es) c.in_ok-index.index c.in_ok-newest.ensures.well_formed
    (sym c.in_ok-newest.ensures.relations) (position-relations r es ∙ sym c.in_ok-index.ensures.index) (rw nothing refl))

pub revision_with-requires : goal.revision_with-requires
revision_with-requires c =
    let s = c.self.inside in
    let q = c.args.set.namespace.now in
    let some = some_found s.lines.items s.namespaces.entries s.changes c.args.self.now c.self.view_is c.self.invariant.0 q _ (sym c.in_ok-revisions.ensures.value) in
    rw (c.as_slice.ensures.value, ← some) (revisions_grow q c.args.self.now c.in_ok-newest.ensures.well_formed.continued)

pub returns-in_err-first : goal.returns-in_err-first
returns-in_err-first c =
    let s = c.self.inside in
    let q = c.args.set.namespace.now in
    let r = c.args.set.relation.now in
    let es = c.in_ok-newest.field-0.now.entries in
    let some = some_found s.lines.items s.namespaces.entries s.changes c.args.self.now c.self.view_is c.self.invariant.0 q _ (sym c.in_ok-revisions.ensures.value) in
    rw c.from_residual-in_err-first.ensures (since_none c.args.self.now q r (show_relations es) c.in_ok-index.index c.in_ok-newest.ensures.well_formed
    (sym c.in_ok-newest.ensures.relations) (position-relations r es ∙ sym c.in_ok-index.ensures.index)
    (rw (some, ← c.as_slice.ensures.value) (sym c.in_err-first.ensures)))

pub returns : goal.returns
returns c =
    let s = c.self.inside in
    let q = c.args.set.namespace.now in
    let r = c.args.set.relation.now in
    let es = c.in_ok-newest.field-0.now.entries in
    let some = some_found s.lines.items s.namespaces.entries s.changes c.args.self.now c.self.view_is c.self.invariant.0 q _ (sym c.in_ok-revisions.ensures.value) in
    since_some c.args.self.now q r (show_relations es) c.in_ok-index.index c.in_ok-newest.ensures.well_formed
    (sym c.in_ok-newest.ensures.relations) (position-relations r es ∙ sym c.in_ok-index.ensures.index)
    c.in_ok-first.first (rw (some, ← c.as_slice.ensures.value) (sym c.in_ok-first.ensures))
