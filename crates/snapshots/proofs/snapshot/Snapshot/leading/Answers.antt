use Rattle.std.proofs.Common.{◌≡◌, ◌&&◌, ◌∙◌, true, [], None, map, ap, sym, subst, rules}
use Rattle.tuple_text.specs.Refs.{set_value}
use Rattle.marks.specs.Marks.{set_mark}
use Rattle.marks.proofs.PlacedLemmas.{and-left, and-right}
use Rattle.userset_index.specs.Index.{is_crowded}
use Rattle.snapshots.specs.Leading.{AreLeading, sets_by}
use Rattle.snapshots.proofs.LeadingLemmas.{own_leading}
use Rattle.snapshots.proofs.snapshot.Snapshot.leading.Goals as goal

pub returns : goal.returns
returns c =
    let s = c.args.self.now in
    let set = set_value c.args.set.set in
    let v = c.usersets-index.result.now in
    let crowded : (v.is_whole && is_crowded v.crowds (set_mark set)) ≡ true = search rules in
    let whole = c.usersets-index.ensures (and-left v.is_whole (is_crowded v.crowds (set_mark set)) crowded) in
    let none : c.new-sets.result.items ≡ [] = search rules in
    let all : map set_value c.push_touched.new.sets.items ≡ sets_by s set None c.own.result = search rules in
    subst (AreLeading s set) (sym (all ∙ ap (sets_by s set None) c.own.ensures))
    (own_leading s c.fits.ensures v whole set (and-right v.is_whole (is_crowded v.crowds (set_mark set)) crowded))
