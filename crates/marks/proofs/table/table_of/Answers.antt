use Rattle.std.proofs.Common.{rules, ◌≡◌, ◌∙◌, ◌+◌, ap, get_or, length, nat_eq}
use Rattle.std.proofs.lemmas.Option.{slice_get-get_or}
use Rattle.marks.specs.Links.{newest_of}
use Rattle.marks.specs.Placed.{last_place}
use Rattle.marks.proofs.LinkLemmas.{one_further, place_there, set_there}
use Rattle.marks.proofs.table.table_of.Goals as goal

pub loop-index-preserved : goal.loop-index-preserved
loop-index-preserved c =
    let mark = get_or c.args.marks.now c.loop-index.index 0 in
    let there = slice_get-get_or c.args.marks.now c.loop-index.index 0 (search rules) in
    let set = set_there c.args.marks.now c.loop-index.table c.set.new.self mark (c.loop-index.index + 1) (place_there c.args.marks.now c.loop-index.index mark there) c.in_ok-set.ensures.ok in
    record {
      table = set.table;
      so_far = λ m.
          one_further c.args.marks.now c.loop-index.index mark m (newest_of c.args.marks.now c.set.new.self m) (newest_of c.args.marks.now c.loop-index.table m)
          (set.newest m) (c.loop-index.invariant.so_far m) there;
    }

pub returns-clause-newest : goal.returns-clause-newest
returns-clause-newest c = λ mark.
    let end : c.loop-index.index ≡ length c.args.marks.now = search rules in
    c.loop-index.invariant.so_far mark ∙ ap (last_place (nat_eq mark) c.args.marks.now) end
