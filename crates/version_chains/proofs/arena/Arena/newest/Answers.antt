use Rattle.std.proofs.Common.{◌≡◌, ℕ, length, Some, ◌∙◌, subst}
use Rattle.std.specs.Prelude.{slice_get}
use Rattle.tuple_text.specs.Order.{tuple_eq}
use Rattle.tuple_text.specs.Tuples.{TupleValue}
use Rattle.version_chains.specs.Arena.{Held, latest_of, tuples_of}
use Rattle.marks.specs.Placed.{last_place}
use Rattle.version_chains.specs.Rows.{Kept}
use Rattle.version_chains.proofs.ArenaLemmas.{item_of, newest_touch}
use Rattle.version_chains.proofs.RowLemmas.{row-kept}
use Rattle.version_chains.proofs.arena.Arena.newest.Goals as goal

abbrev IsNewest : ℕ → ℕ → Held → Type 0
IsNewest k p h = (t : TupleValue) → slice_get h.tuples k ≡ Some t → p ≡ last_place (λ x. tuple_eq x.tuple t) h.touches (length h.touches)

pub returns : goal.returns
returns c =
    subst (IsNewest c.args.number c.latest.result) c.self.view_is
    (λ t at.
    let kept = row-kept c.self.inside.rows c.args.number t at in
    let read = item_of (λ (r : Kept). r.latest) c.self.inside.rows c.args.number kept.0 kept.1 in
    c.latest.ensures kept.0 kept.1
    ∙ newest_touch (tuples_of c.self.inside.rows) (latest_of c.self.inside.rows) c.self.inside.named c.self.inside.held c.self.inside.nodes.items c.self.invariant.0 c.args.number kept.0.latest t at read)
