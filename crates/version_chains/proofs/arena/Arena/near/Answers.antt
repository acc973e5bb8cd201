use Rattle.std.proofs.Common.{◌≡◌, ℕ, ◌+◌, ◌-◌, ◌<◌, ◌≤◌, suc, length, Some, arith, refl, sym, subst, ◌∙◌, ap}
use Rattle.std.specs.Prelude.{slice_get}
use Rattle.std.proofs.lemmas.List.{length-map}
use Rattle.tuple_text.specs.Tuples.{TupleValue}
use Rattle.version_chains.specs.Arena.{Held, latest_of, tuples_of, touch_of}
use Rattle.version_chains.specs.Given.{newest_of}
use Rattle.version_chains.proofs.ArenaLemmas.{last_touch_here, last_touch_before}
use Rattle.marks.proofs.PlacedLemmas.{read_item}
use Rattle.version_chains.proofs.arena.Arena.near.Goals.{After-index}
use Rattle.version_chains.proofs.arena.Arena.near.Goals as goal

-- the last touch among the first, and one more, is the one at this place
abbrev IsHere : ℕ → ℕ → Held → Type 0
IsHere k m h = (t : TupleValue) → slice_get h.tuples k ≡ Some t → suc m ≡ newest_of t h.touches (suc m)

-- or is among the first
abbrev IsBefore : ℕ → ℕ → Held → Type 0
IsBefore k m h = (t : TupleValue) → slice_get h.tuples k ≡ Some t → newest_of t h.touches m ≡ newest_of t h.touches (suc m)

abbrev place : After-index → ℕ
place c = c.args.count - c.loop-back.back - 1

next : (c : After-index) → c.args.count - c.loop-back.back ≡ suc (place c)
next c =
    let few = c.min-back-end.ensures in
    let less = c.loop-back-test.true in
    omega (arith, few, less)

-- the node that is looked at
read : (c : After-index) → slice_get c.self.inside.nodes.items (place c) ≡ Some c.index.result.now
read c =
    let nodes = c.self.inside.nodes.items in
    let all = subst (λ (n : ℕ). c.args.count ≤ n) (length-map nodes (touch_of (tuples_of c.self.inside.rows)))
    (subst (λ (h : Held). c.args.count ≤ length h.touches) (sym c.self.view_is) c.requires) in
    let within : place c < length nodes = (let e = next c in omega (arith, e, all)) in
    read_item nodes nodes (place c) c.index.result.now refl within c.index.ensures

pub returns-then-index-number : goal.returns-then-index-number
returns-then-index-number c t there =
    let rows = c.self.inside.rows in
    let at = (goal.at.returns-then-index-number c).After-index in
    let here : IsHere c.args.number (place at) c.args.self.now = subst (IsHere c.args.number (place at)) c.self.view_is
    (λ u there. last_touch_here (tuples_of rows)
    (latest_of rows) c.self.inside.named c.self.inside.held c.self.inside.nodes.items c.self.invariant.0
    c.args.number u there (place at) c.index.result.now (read at) c.if-index-number.true) in
    next at ∙ here t there ∙ ap (newest_of t c.args.self.now.touches) (sym (next at)) ∙ c.loop-back.invariant t there

pub loop-back-preserved : goal.loop-back-preserved
loop-back-preserved c t there =
    let rows = c.self.inside.rows in
    let at = (goal.at.loop-back-preserved c).After-index in
    let further : c.args.count - (c.loop-back.back + 1) ≡ place at = omega arith in
    let before : IsBefore c.args.number (place at) c.args.self.now = subst
    (IsBefore c.args.number (place at)) c.self.view_is
    (λ u there. last_touch_before (tuples_of rows)
    (latest_of rows) c.self.inside.named c.self.inside.held c.self.inside.nodes.items c.self.invariant.0
    c.args.number u there (place at) c.index.result.now (read at) c.if-index-number.false) in
    ap (newest_of t c.args.self.now.touches) further ∙ before t there ∙ ap (newest_of t c.args.self.now.touches)
    (sym (next at)) ∙ c.loop-back.invariant t there
