use Rattle.std.proofs.Common.{◌≡◌, ◌∙◌, List, Some, ap, subst, sym}
use Rattle.std.specs.Prelude.{slice_get}
use Rattle.tuple_text.specs.Tuples.{TupleValue}
use Rattle.version_chains.specs.Arena.{Held, tuples_of}
use Rattle.version_chains.specs.Rows.{Kept}
use Rattle.version_chains.proofs.ArenaLemmas.{item_of}
use Rattle.version_chains.proofs.RowLemmas.{row-kept}
use Rattle.version_chains.proofs.arena.Arena.is_like.Goals as goal

pub returns-in-Some : goal.returns-in-Some
returns-in-Some c shares t is =
    let rows = c.self.inside.rows in
    let shown : tuples_of rows ≡ c.args.self.now.tuples = ap (λ (h : Held). h.tuples) c.self.view_is in
    let a = row-kept rows c.args.number t (subst (λ (ts : List TupleValue). slice_get ts c.args.number ≡ Some t) (sym shown) is) in
    let b = c.share_set.ensures shares a.0 a.1 in (
      b.0.tuple,
      c.in-Some.like,
      c.in-Some.is,
      subst (λ (ts : List TupleValue). slice_get ts c.in-Some.like ≡ Some b.0.tuple) shown (item_of (λ (r : Kept). r.tuple) rows c.in-Some.like b.0 b.1),
      ap (λ (x : TupleValue). x.set) (sym a.2) ∙ b.2,
    )
