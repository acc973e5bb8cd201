use Rattle.std.proofs.Common.{map}
use Rattle.tuple_text.specs.Refs.{set_value}
use Rattle.tuple_text.specs.Tuples.{fact_of}
use Rattle.rewrites.specs.Parts.{through_expression}
use Rattle.snapshots.specs.Snapshots.{tuples_in}
use Rattle.goal_cone.specs.Pass.{AmongSets}
use Rattle.goal_cone.specs.Premises.{Reads}
use Rattle.goal_cone.proofs.PassLemmas.{passes_declared}
use Rattle.goal_cone.proofs.StoredLemmas.{few_links, read_through, through_read}
use Rattle.goal_cone.proofs.premises.see_through.Goals as goal

pub returns : goal.returns
returns c =
    let s = c.args.fact.now.snapshot.now in
    let set = set_value c.args.fact.now.set in
    let through = c.args.through.now in
    let ts = map set_value c.in_ok-sets.sets.items in
    let are = c.in_ok-sets.ensures c.requires in
    passes_declared 131072 4194304 s (AmongSets c.args.fact.now.user ts)
    (Reads (tuples_in s) (fact_of set c.args.fact.now.user) (through_expression through))
    (through_read s set through ts are c.args.fact.now.user) _ _ (few_links s set through ts are)
    (read_through s set through ts are c.args.fact.now.user)
    c.see_each.result c.args.seen.now c.see_each.new.seen c.args.room.now c.see_each.new.room c.see_each.ensures
