use Rattle.std.proofs.Common.{map, subst}
use Rattle.tuple_text.specs.Refs.{set_value}
use Rattle.tuple_text.specs.Tuples.{fact_of}
use Rattle.tuple_text.specs.declared.sets.SetRef.{SetRef}
use Rattle.rewrites.specs.Expression.{this}
use Rattle.snapshots.specs.Leading.{AreLeading}
use Rattle.snapshots.specs.Snapshots.{tuples_in}
use Rattle.goal_cone.specs.Pass.{AmongSets}
use Rattle.goal_cone.specs.Premises.{Reads}
use Rattle.goal_cone.proofs.PassLemmas.{passes_declared}
use Rattle.goal_cone.proofs.StoredLemmas.{no_more, own_read, read_own}
use Rattle.goal_cone.proofs.premises.see_own.Goals as goal

pub returns : goal.returns
returns c =
    let s = c.args.fact.now.snapshot.now in
    let set = set_value c.args.fact.now.set in
    let gs = map set_value c.in_ok-sets.sets.items in
    let leading = subst (λ (o : SetRef). AreLeading s (set_value o) gs) c.of.ensures c.in_ok-sets.ensures in
    passes_declared 131072 4194304 s (AmongSets c.args.fact.now.user gs)
    (Reads (tuples_in s) (fact_of set c.args.fact.now.user) this) (own_read s set gs leading c.args.fact.now.user)
    _ _ (no_more s set gs leading.stored) (read_own s set gs leading c.args.fact.now.user)
    c.see_each.result c.args.seen.now c.see_each.new.seen c.args.room.now c.see_each.new.room c.see_each.ensures
