use Rattle.std.proofs.Common.{◌≡◌, Some, nat_eq, subst}
use Rattle.std.specs.Prelude.{slice_get}
use Rattle.tuple_text.specs.Tuples.{TupleValue}
use Rattle.version_chains.specs.Arena.{Held, latest_of, tuples_of}
use Rattle.marks.specs.Marks.{held_mark}
use Rattle.marks.specs.Placed.{last_place}
use Rattle.version_chains.proofs.ArenaLemmas.{sibling_by_mark}
use Rattle.version_chains.proofs.arena.Arena.sibling.Goals as goal

pub returns : goal.returns
returns c =
    subst (λ (h : Held). (t : TupleValue) → slice_get h.tuples c.args.number ≡ Some t → c.older.result ≡ last_place (λ u. nat_eq (held_mark t) (held_mark u)) h.tuples c.args.number) c.self.view_is
    (λ t at. sibling_by_mark (tuples_of c.self.inside.rows) (latest_of c.self.inside.rows) c.self.inside.named c.self.inside.held c.self.inside.nodes.items c.self.invariant.0 c.args.number c.older.result t at c.older.ensures)
