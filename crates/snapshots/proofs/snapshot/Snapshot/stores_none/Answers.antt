use Rattle.std.proofs.Common.{◌≡◌, ◌&&◌, true, [], rules, sym, ◌∙◌}
use Rattle.tuple_text.specs.Refs.{set_value}
use Rattle.marks.specs.Marks.{set_mark}
use Rattle.marks.proofs.PlacedLemmas.{and-left, and-right}
use Rattle.userset_index.specs.Index.{is_crowded}
use Rattle.snapshots.proofs.LeadingLemmas.{none_found}
use Rattle.snapshots.proofs.snapshot.Snapshot.stores_none.Goals as goal

pub returns : goal.returns
returns c is_none =
    let set = set_value c.args.set.set in
    let v = c.usersets-index.result.now in
    let crowded : (v.is_whole && is_crowded v.crowds (set_mark set)) ≡ true = search rules in
    let whole = c.usersets-index.ensures (and-left v.is_whole (is_crowded v.crowds (set_mark set)) crowded) in
    let none : c.through-touches.result ≡ [] = search rules in
    none_found c.args.self.now c.fits.ensures v whole set (and-right v.is_whole (is_crowded v.crowds (set_mark set)) crowded) c.args.number
    (sym c.through-touches.ensures ∙ none)
