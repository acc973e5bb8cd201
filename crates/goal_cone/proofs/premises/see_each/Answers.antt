use Rattle.std.proofs.Common.{rules, ◌≡◌, ◌+◌, ◌-◌, [], ◌∷◌, Ok, Err, List, refl, length, map, arith}
use Rattle.std.proofs.lemmas.Grind.{common_steps}
use Rattle.std.specs.Vec.Iter.{into_iter_items}
use Rattle.tuple_text.specs.Refs.{set_value}
use Rattle.tuple_text.specs.Sets.{SetValue}
use Rattle.tuple_text.specs.Tuples.{fact_of}
use Rattle.goal_cone.specs.Pass.{AmongSets, IsUnderWay}
use Rattle.snapshots.specs.Snapshots.{rules_in, tuples_in}
use Rattle.goal_cone.proofs.PassLemmas.{passes_one, under_way_done, under_way_start, under_way_step, under_way_stopped}
use Rattle.goal_cone.proofs.premises.see_each.Goals.{After-see}
use Rattle.goal_cone.proofs.premises.see_each.Goals as goal

pub loop-set-init : goal.loop-set-init
loop-set-init c =
    let same : into_iter_items c.into_iter-set-iterator.result ≡ c.args.sets.items = search rules in
    rw same
    (under_way_start 131072 4194304 c.args.fact.now.snapshot.now
    (AmongSets c.args.fact.now.user (map set_value c.args.sets.items)) c.args.seen.now c.args.room.now _)

-- the sets behind the one at hand
abbrev rest : After-see → List SetValue
rest c = map set_value (into_iter_items c.next.new.self)

way : (c : After-see) → IsUnderWay 131072 4194304 (rules_in c.args.fact.now.snapshot.now)
    (tuples_in c.args.fact.now.snapshot.now)
    (AmongSets c.args.fact.now.user (map set_value c.args.sets.items))
    (AmongSets c.args.fact.now.user (set_value c.in-Some.set ∷ rest c))
    c.args.seen.now c.loop-set.seen c.args.room.now c.loop-set.room (length (map set_value c.args.sets.items))
    (1 + length (rest c))
way c =
    let left : into_iter_items c.loop-set.set-iterator ≡ c.in-Some.set ∷ into_iter_items c.next.new.self = search
    rules in
    let sum : length (set_value c.in-Some.set ∷ rest c) ≡ 1 + length (rest c) = omega arith in
    rw (← sum) (rw left at c.loop-set.invariant)

pub loop-set-preserved : goal.loop-set-preserved
loop-set-preserved c =
    let s = c.args.fact.now.snapshot.now in
    let at = (goal.at.loop-set-preserved c).After-see in
    under_way_step 131072 4194304 s _ c.args.seen.now c.args.room.now _ _
    (AmongSets c.args.fact.now.user (rest at)) c.loop-set.seen c.loop-set.room
    (1 + length (rest at)) 1 (length (rest at)) refl (way at) c.see.new.seen (c.loop-set.room - 1)
    (passes_one 131072 4194304 s (λ q. fact_of (set_value c.in-Some.set) c.args.fact.now.user ≡ q) 1
    (Ok tt) c.loop-set.seen c.see.new.seen
    c.loop-set.room (c.loop-set.room - 1) (omega arith) c.in_ok-see.ensures.seen c.in_ok-see.ensures.stuck)

pub returns-in_err-see : goal.returns-in_err-see
returns-in_err-see c =
    let s = c.args.fact.now.snapshot.now in
    let at = (goal.at.returns-in_err-see c).After-see in
    let same : c.from_residual.result ≡ Err c.in_err-see.field-0.0 = search rules in
    rw same (under_way_stopped 131072 4194304 s _ c.args.seen.now c.args.room.now _ _
    (AmongSets c.args.fact.now.user (rest at)) c.loop-set.seen c.loop-set.room
    (1 + length (rest at)) 1 (length (rest at)) refl (way at) _ c.see.new.seen _ (c.loop-set.room - 1) _
    (passes_one 131072 4194304 s (λ q. fact_of (set_value c.in-Some.set) c.args.fact.now.user ≡ q) 1 _
    c.loop-set.seen c.see.new.seen
    c.loop-set.room (c.loop-set.room - 1) (omega arith) c.in_err-see.ensures.seen c.in_err-see.ensures.stuck))

pub returns : goal.returns
returns c =
    let left : into_iter_items c.loop-set.set-iterator ≡ [] = grind (arith, common_steps, c.in-None.ensures.steps) in
    under_way_done 131072 4194304 c.args.fact.now.snapshot.now
    (AmongSets c.args.fact.now.user (map set_value c.args.sets.items)) c.args.seen.now c.args.room.now _
    (AmongSets c.args.fact.now.user []) (λ p h. h) c.loop-set.seen c.loop-set.room (rw left at c.loop-set.invariant)
