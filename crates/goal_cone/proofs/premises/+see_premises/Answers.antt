use Rattle.std.proofs.Common.{rules, ◌≡◌, ℕ, ◌+◌, [], Err, inl, inr, drop, arith}
use Rattle.std.proofs.lemmas.List.{drop_all}
use Rattle.std.specs.Prelude.{string_bytes}
use Rattle.tuple_text.specs.Refs.{set_value}
use Rattle.tuple_text.specs.Tuples.{fact_of}
use Rattle.rewrites.specs.Expression.{Expressions, this, computed, tuple_to, union, inter, minus, child}
use Rattle.rewrites.specs.Parts.{through_expression}
use Rattle.rewrites.specs.View.{expression_of, expressions_of}
use Rattle.strata.specs.Meaning.{with_relation}
use Rattle.goal_cone.specs.Bounds.{links}
use Rattle.goal_cone.specs.Premises.{Reads}
use Rattle.goal_cone.proofs.PassLemmas.{over_done, over_start, over_step, over_stopped, passes_both, passes_declared, passes_first, passes_one}
use Rattle.goal_cone.proofs.StoredLemmas.{one_link, one_read}
use Rattle.rewrites.specs.declared.rewrite.Rewrite.{the_lemmas}
use Rattle.rewrites.proofs.Walks.{children_step}
use Rattle.snapshots.specs.Snapshots.{tuples_in}
use Rattle.goal_cone.proofs.premises.+see_premises.Goals.{see_children-After-see_premises}
use Rattle.goal_cone.proofs.premises.+see_premises.Goals as goal

pub see_premises-returns-in-This : goal.see_premises-returns-in-This
see_premises-returns-in-This t c =
    let e : expression_of c.args.rewrite.now ≡ this = rw c.in-This.is (search (rules, the_lemmas)) in
    rw e c.see_own.ensures

pub see_premises-returns-in-Computed : goal.see_premises-returns-in-Computed
see_premises-returns-in-Computed t c =
    let name = string_bytes c.in-Computed.relation in
    let e : expression_of c.args.rewrite.now ≡ computed name = rw c.in-Computed.is (search (rules, the_lemmas)) in
    let q : set_value c.under-set.result ≡ with_relation (set_value c.args.fact.now.set) name = rw
    (← c.as_str.ensures.value) c.under-set.ensures in
    rw e (passes_one 131072 4194304 c.args.fact.now.snapshot.now
    (λ p. fact_of (with_relation (set_value c.args.fact.now.set) name) c.args.fact.now.user ≡ p) 0
    c.see.result c.args.seen.now c.see.new.seen c.args.room.now c.args.room.now (omega arith)
    (rw q at c.see.ensures.seen) (rw q at c.see.ensures.stuck))

pub see_premises-returns-in_ok-declaring-in-TupleTo : goal.see_premises-returns-in_ok-declaring-in-TupleTo
see_premises-returns-in_ok-declaring-in-TupleTo t c =
    let leaf = tuple_to (string_bytes c.in-TupleTo.tupleset) (string_bytes c.in-TupleTo.computed) in
    let e : expression_of c.args.rewrite.now ≡ leaf = rw c.in-TupleTo.is (search (rules, the_lemmas)) in
    let store = tuples_in c.args.fact.now.snapshot.now in
    let set = set_value c.args.fact.now.set in
    let f = fact_of set c.args.fact.now.user in
    let through = c.in_ok-through-in-TupleTo.through in
    let one = c.in_ok-through-in-TupleTo.ensures in
    let same = one_link store set leaf through one in
    rw e (passes_declared 131072 4194304 c.args.fact.now.snapshot.now (Reads store f (through_expression through))
    (Reads store f leaf)
    (λ p. (one_read store f p leaf through one).0) (links store set (through_expression through))
    (links store set leaf) (omega (arith, same))
    (λ p r. inr ((one_read store f p leaf through one).1 r))
    c.see_through.result c.args.seen.now c.see_through.new.seen c.args.room.now c.see_through.new.room
    c.see_through.ensures)

pub see_premises-returns-in-Union : goal.see_premises-returns-in-Union
see_premises-returns-in-Union t c = elim c.in-Union.is [
  | inl h ↦
      let e : expression_of c.args.rewrite.now ≡ union (expressions_of c.in-Union.children.items) = rw h
      (search (rules, the_lemmas)) in
      rw e c.see_children.ensures
  | inr h ↦
      let e : expression_of c.args.rewrite.now ≡ inter (expressions_of c.in-Union.children.items) = rw h
      (search (rules, the_lemmas)) in
      rw e c.see_children.ensures
]

pub see_premises-returns-in_ok-see_premises-in-Minus : goal.see_premises-returns-in_ok-see_premises-in-Minus
see_premises-returns-in_ok-see_premises-in-Minus t c =
    let base = expression_of c.deref.result.now in
    let less = expression_of c.deref-in-Minus.result.now in
    let e : expression_of c.args.rewrite.now ≡ minus base less = rw c.in-Minus.is (search (rules, the_lemmas)) in
    let store = tuples_in c.args.fact.now.snapshot.now in
    let set = set_value c.args.fact.now.set in
    let f = fact_of set c.args.fact.now.user in
    rw e (passes_both 131072 4194304 c.args.fact.now.snapshot.now (Reads store f base) (Reads store f less)
    (links store set base) (links store set less)
    c.args.seen.now c.see_premises.new.seen c.args.room.now c.see_premises.new.room
    c.in_ok-see_premises-in-Minus.ensures
    c.see_premises-in-Minus.result c.see_premises-in-Minus.new.seen c.see_premises-in-Minus.new.room
    c.see_premises-in-Minus.ensures)

pub see_premises-returns-in_err-see_premises-in-Minus : goal.see_premises-returns-in_err-see_premises-in-Minus
see_premises-returns-in_err-see_premises-in-Minus t c =
    let base = expression_of c.deref.result.now in
    let less = expression_of c.in-Minus.subtract.value in
    let e : expression_of c.args.rewrite.now ≡ minus base less = rw c.in-Minus.is (search (rules, the_lemmas)) in
    let store = tuples_in c.args.fact.now.snapshot.now in
    let set = set_value c.args.fact.now.set in
    let f = fact_of set c.args.fact.now.user in
    let same : c.from_residual-in_err-see_premises-in-Minus.result ≡ Err
    c.in_err-see_premises-in-Minus.field-0.0 = search rules in
    rw (e, same) (passes_first 131072 4194304 c.args.fact.now.snapshot.now (Reads store f base) (Reads store f less)
    (links store set base) (links store set less)
    c.args.seen.now c.see_premises.new.seen c.args.room.now c.see_premises.new.room _ c.see_premises.new.seen
    c.see_premises.new.room
    c.in_err-see_premises-in-Minus.ensures)

pub see_children-loop-child-init : goal.see_children-loop-child-init
see_children-loop-child-init t c =
    rw c.deref-child-items.ensures.value
    (over_start 131072 4194304 c.args.fact.now
    (expressions_of c.args.children.now.items) c.args.seen.now c.args.room.now)

-- the children behind the one at hand
abbrev rest : (t : ℕ) → see_children-After-see_premises t → Expressions
rest t c = expressions_of (drop (c.loop-child.child-index + 1) c.deref-child-items.result.now)

step : (t : ℕ) (c : see_children-After-see_premises t) → expressions_of
    (drop c.loop-child.child-index c.deref-child-items.result.now) ≡ child (expression_of c.child-item.result)
    (rest t c)
step t c = rw c.child-item.is (children_step c.deref-child-items.result.now c.loop-child.child-index
    c.child-item.result c.loop-child-test.true)

pub see_children-loop-child-preserved : goal.see_children-loop-child-preserved
see_children-loop-child-preserved t c =
    let at = (goal.at.see_children-loop-child-preserved t c).After-see_premises in
    over_step 131072 4194304 c.args.fact.now (expressions_of c.args.children.now.items) c.args.seen.now c.args.room.now
    (expression_of c.child-item.result) (rest t at) c.loop-child.seen c.loop-child.room
    (rw (step t at) at c.loop-child.invariant)
    c.see_premises.new.seen c.see_premises.new.room c.in_ok-see_premises.ensures

pub see_children-returns-in_err-see_premises : goal.see_children-returns-in_err-see_premises
see_children-returns-in_err-see_premises t c =
    let at = (goal.at.see_children-returns-in_err-see_premises t c).After-see_premises in
    let same : c.from_residual.result ≡ Err c.in_err-see_premises.field-0.0 = search rules in
    rw same (over_stopped 131072 4194304 c.args.fact.now
    (expressions_of c.args.children.now.items) c.args.seen.now c.args.room.now
    (expression_of c.child-item.result) (rest t at) c.loop-child.seen c.loop-child.room
    (rw (step t at) at c.loop-child.invariant)
    _ c.see_premises.new.seen _ c.see_premises.new.room _ c.in_err-see_premises.ensures)

pub see_children-returns : goal.see_children-returns
see_children-returns t c =
    let items = c.deref-child-items.result.now in
    let none : drop c.loop-child.child-index items ≡ [] = drop_all c.loop-child.child-index items
    c.loop-child-test.false in
    over_done 131072 4194304 c.args.fact.now (expressions_of c.args.children.now.items) c.args.seen.now c.args.room.now
    c.loop-child.seen c.loop-child.room (rw none at c.loop-child.invariant)
