use Rattle.std.proofs.Common.{rules, ◌≡◌, ◌∙◌, refl, [], ◌∷◌, None, Some, slice_get, arith}
use Rattle.snapshots.specs.Snapshots.{rules_in, tuples_in}
use Rattle.goal_cone.proofs.Searching.{searching_start, searching_done, searching_full, searching_stuck, searching_step}
use Rattle.goal_cone.proofs.cone.explore_by.Goals.{In_ok-fact}
use Rattle.goal_cone.proofs.cone.explore_by.Goals as goal

there : (c : In_ok-fact) → slice_get c.loop-next.seen c.loop-next.next ≡ Some c.in_ok-fact.fact
there c = let same : c.in_ok-fact.fact ≡ c.in-Some.fact.now = search rules in let at : Some c.in-Some.fact.now ≡ slice_get c.loop-next.seen c.loop-next.next = c.in-Some.ensures in cc

pub loop-next-init : goal.loop-next-init
loop-next-init c =
    let seen : c.add.new.self ≡ c.args.goal.now ∷ [] = search rules in (
      rw seen (searching_start (rules_in c.args.snapshot.now) (tuples_in c.args.snapshot.now) 4194304 c.args.goal.now),
      refl,
    )

pub returns-in_default-clause-cone : goal.returns-in_default-clause-cone
returns-in_default-clause-cone c =
    let none : slice_get c.loop-next.seen c.loop-next.next ≡ None = search rules in
    rw c.into_facts.ensures
    (searching_done (rules_in c.args.snapshot.now) (tuples_in c.args.snapshot.now) 4194304 c.args.goal.now
    c.loop-next.seen c.loop-next.next c.loop-next.room c.loop-next.invariant.0 none)

pub returns-in_default-clause-first : goal.returns-in_default-clause-first
returns-in_default-clause-first c = rw c.into_facts.ensures c.loop-next.invariant.0.first

pub returns-in_err-see_read-clause-outgrown : goal.returns-in_err-see_read-clause-outgrown
returns-in_err-see_read-clause-outgrown c = λ e.
    searching_stuck (rules_in c.args.snapshot.now) (tuples_in c.args.snapshot.now) 4194304 c.args.goal.now
    c.loop-next.seen c.loop-next.next c.loop-next.room c.loop-next.invariant.0 c.in_ok-fact.fact (there (goal.at.returns-in_err-see_read-clause-outgrown c).In_ok-fact) 131072
    (c.in_err-see_read.ensures.passes.stuck (search rules))

pub loop-next-preserved : goal.loop-next-preserved
loop-next-preserved c = (
  searching_step (rules_in c.args.snapshot.now) (tuples_in c.args.snapshot.now) 4194304 c.args.goal.now
      c.loop-next.seen c.loop-next.next c.loop-next.room c.loop-next.invariant.0 c.in_ok-fact.fact (there (goal.at.loop-next-preserved c).In_ok-fact)
      c.see_read.new.seen c.see_read.new.room c.in_ok-see_read.ensures.passes.seen
      c.in_ok-see_read.ensures.passes.links,
  c.in_ok-see_read.ensures.rules ∙ c.loop-next.invariant.1,
)

pub returns-clause-outgrown : goal.returns-clause-outgrown
returns-clause-outgrown c = λ e.
    searching_full (rules_in c.args.snapshot.now) (tuples_in c.args.snapshot.now) 4194304 c.args.goal.now
    c.loop-next.seen c.loop-next.next c.loop-next.room c.loop-next.invariant.0 131072 (omega arith)
