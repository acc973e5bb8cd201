use Rattle.std.proofs.Common.{◌≡◌, ℕ, ◌<◌, Some, subst, List}
use Rattle.std.specs.Prelude.{slice_get}
use Rattle.version_chains.specs.Arena.{Held, latest_of, tuples_of}
use Rattle.version_chains.specs.Commits.{Touch}
use Rattle.version_chains.specs.Given.{LeadsBack}
use Rattle.version_chains.specs.declared.node.Node.{Node}
use Rattle.version_chains.proofs.BackLemmas.{link_back, jump_back}
use Rattle.marks.proofs.PlacedLemmas.{read_item}
use Rattle.version_chains.proofs.arena.Arena.further.Goals as goal

abbrev GoesBack : ℕ → ℕ → ℕ → Held → Type 0
GoesBack i s place h = (x : Touch) → slice_get h.touches i ≡ Some x → s < x.at → LeadsBack x.tuple s h.touches i place

pub returns-in-Some-at_place : goal.returns-in-Some-at_place
returns-in-Some-at_place c =
    let read = read_item c.self.inside.nodes.items c.deref.result.now c.args.index c.in-Some.touch.now c.deref.ensures.value c.in-Some.ensures.lookup.3.0 c.in-Some.ensures.lookup.1 in
    let far = c.in-Some-at_place.ensures.stands in
    subst (GoesBack c.args.index c.args.at c.in-Some.touch.now.jump) c.self.view_is
    (λ x here after.
    jump_back (tuples_of c.self.inside.rows) (latest_of c.self.inside.rows) c.self.inside.named c.self.inside.held c.self.inside.nodes.items c.self.invariant.0
    c.args.at c.args.index c.in-Some.touch.now read x here after far.0 c.in-Some-at_place.far.now far.1
    (subst (λ (ns : List Node). slice_get ns far.0 ≡ Some c.in-Some-at_place.far.now) c.as_slice.ensures.value far.2) c.if-far-at.true c.if-touch-index.true)

pub returns-in_default-at_place : goal.returns-in_default-at_place
returns-in_default-at_place c =
    let read = read_item c.self.inside.nodes.items c.deref.result.now c.args.index c.in-Some.touch.now c.deref.ensures.value c.in-Some.ensures.lookup.3.0 c.in-Some.ensures.lookup.1 in
    subst (GoesBack c.args.index c.args.at c.in-Some.touch.now.older) c.self.view_is
    (λ x here after.
    link_back (tuples_of c.self.inside.rows) (latest_of c.self.inside.rows) c.self.inside.named c.self.inside.held c.self.inside.nodes.items c.self.invariant.0
    c.args.at c.args.index c.in-Some.touch.now read x here after)
