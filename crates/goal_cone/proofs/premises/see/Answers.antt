use Rattle.std.proofs.Common.{◌≡◌, inl, inr, arith, false, IsTrue, ◌∷◌, ◌++◌, []}
use Rattle.std.specs.Prelude.{Contains}
use Rattle.tuple_text.specs.Refs.{set_value}
use Rattle.tuple_text.specs.Tuples.{fact_of}
use Rattle.namespaces.specs.Lookup.{Rule, rule_of}
use Rattle.rewrites.specs.View.{expression_of}
use Rattle.snapshots.specs.Snapshots.{rules_in, tuples_in}
use Rattle.judgement.specs.Judgement.{IsUndeclared}
use Rattle.goal_cone.proofs.SeenLemmas.{sees_new, stuck_here, declared_by, given, refused}
use Rattle.goal_cone.proofs.premises.see.Goals.{After-len}
use Rattle.goal_cone.proofs.premises.see.Goals as goal

declared : (c : After-len) → ¬ IsUndeclared (rules_in c.args.snapshot.now) (set_value c.args.set)
declared c =
    declared_by (λ r. expression_of r.now) (λ (r : Rule). r.expression) c.rule.result (rule_of (rules_in c.args.snapshot.now) (set_value c.args.set))
    c.rule.ensures c.if-is_none.ensures

absent : (c : After-len) → ¬ Contains c.args.seen.now (fact_of (set_value c.args.set) c.args.user)
absent c h = let t : IsTrue c.has.result = c.has.ensures.1 h in let f : c.has.result ≡ false = c.if-has.false in cc

pub returns-then-len-ge-MAX_USERSETS-clause-stuck : goal.returns-then-len-ge-MAX_USERSETS-clause-stuck
returns-then-len-ge-MAX_USERSETS-clause-stuck c =
    let d = declared (goal.at.returns-then-len-ge-MAX_USERSETS-clause-stuck c).After-len in
    let a = absent (goal.at.returns-then-len-ge-MAX_USERSETS-clause-stuck c).After-len in
    λ _. stuck_here 131072 4194304 (rules_in c.args.snapshot.now) (tuples_in c.args.snapshot.now) c.args.seen.now
    (fact_of (set_value c.args.set) c.args.user) d a (inr (omega arith))

pub returns-in_ok-add-in-Ok-clause-seen : goal.returns-in_ok-add-in-Ok-clause-seen
returns-in_ok-add-in-Ok-clause-seen c =
    let d = declared (goal.at.returns-in_ok-add-in-Ok-clause-seen c).After-len in
    let a = absent (goal.at.returns-in_ok-add-in-Ok-clause-seen c).After-len in
    let p = fact_of (set_value c.args.set) c.args.user in
    let new : c.add.new.self ≡ c.args.seen.now ++ c.in-Ok.fact ∷ [] = c.in_ok-add-in-Ok.ensures.ok in
    let same : p ≡ c.in-Ok.fact = given (set_value c.args.set) c.args.user c.in-Ok.fact c.in-Ok.ensures.exact in
    rw (new, ← same) (sees_new (rules_in c.args.snapshot.now) c.args.seen.now p d a)

pub returns-in-Err-clause-stuck : goal.returns-in-Err-clause-stuck
returns-in-Err-clause-stuck c = λ e.
    let d = declared (goal.at.returns-in-Err-clause-stuck c).After-len in
    let a = absent (goal.at.returns-in-Err-clause-stuck c).After-len in
    stuck_here 131072 4194304 (rules_in c.args.snapshot.now) (tuples_in c.args.snapshot.now) c.args.seen.now
    (fact_of (set_value c.args.set) c.args.user) d a
    (inl (refused (set_value c.args.set) c.args.user c.in-Err.fault c.in-Err.ensures.exact (c.told.ensures cc)))
