use Rattle.std.proofs.Common.{◌≡◌, ◌≤◌, ℕ, List, length, set, map, rules, arith, sym, ap, ◌∙◌, subst}
use Rattle.std.specs.Prelude.{Some, None, slice_get, vec_capacity}
use Rattle.std.specs.declared.collections.VecDeque.{VecDeque}
use Rattle.std.specs.declared.alloc.Global.{Global}
use Rattle.slice_core.specs.Machine.{state_of}
use Rattle.slice_core.specs.Places.{count_all}
use Rattle.std.proofs.lemmas.Grind.{common_steps}
use Rattle.slice_core.proofs.Tables.{empty}
use Rattle.slice_core.proofs.MachineLemmas.{hands_out, hands_none, same_lanes, free_hand, moved_weight}
use Rattle.slice_core.proofs.machine.Core.hand_out.Goals as goal

pub invariant_of-self : goal.invariant_of-self
invariant_of-self c =
    let items : VecDeque ℕ Global → List ℕ = λ d. d.items in
    let s = c.args.self.now in
    let lanes : map items (set s.lanes.items c.args.l c.pop_front.new.self) ≡ map items s.lanes.items = same_lanes items s.lanes.items s.hands.items s.done.items s.lost.items c.args.w c.args.l c.pop_front.new.self c.index_mut.result.now (omega arith)
    (free_hand s.hands.items c.args.w c.index.result.now (omega arith) c.index.ensures c.if-is_some.ensures) (sym c.in_default.ensures.items ∙ ap items c.index_mut.ensures.value) in
    record {
      done_fits = subst (λ ls. count_all ls s.hands.items s.done.items s.lost.items ≤ vec_capacity s.done) (sym lanes) s.done_fits;
      lost_fits = subst (λ ls. count_all ls s.hands.items s.done.items s.lost.items ≤ vec_capacity s.lost) (sym lanes) s.lost_fits;
    }

pub returns-in_default-clause-err : goal.returns-in_default-clause-err
returns-in_default-clause-err c =
    let items : VecDeque ℕ Global → List ℕ = λ d. d.items in
    let s = c.args.self.now in
    let free : slice_get s.hands.items c.args.w ≡ Some None = free_hand s.hands.items c.args.w c.index.result.now (omega arith) c.index.ensures c.if-is_some.ensures in
    let lanes : map items (set s.lanes.items c.args.l c.pop_front.new.self) ≡ map items s.lanes.items = same_lanes items s.lanes.items s.hands.items s.done.items s.lost.items c.args.w c.args.l c.pop_front.new.self c.index_mut.result.now (omega arith)
    free (sym c.in_default.ensures.items ∙ ap items c.index_mut.ensures.value) in
    let count : length c.index_mut.result.now.items ≡ 0 = (let e = c.in_default.ensures.cases.0 in first_of (search rules, grind (arith, common_steps))) in (
      hands_none items s.lanes.items s.hands.items s.done.items s.lost.items c.args.w c.args.l c.pop_front.new.self c.index_mut.result.now (omega arith) free (sym (ap items c.index_mut.ensures.value) ∙ empty c.index_mut.result.now.items count),
      ap (λ (ls : List (List ℕ)). record { lanes = ls; hands = s.hands.items; done = s.done.items; lost = s.lost.items }) lanes,
    )

pub invariant_of-self-2 : goal.invariant_of-self-2
invariant_of-self-2 c =
    let items : VecDeque ℕ Global → List ℕ = λ d. d.items in
    let s = c.args.self.now in
    let free : slice_get s.hands.items c.args.w ≡ Some None = free_hand s.hands.items c.args.w c.index.result.now (omega arith) c.index.ensures c.if-is_some.ensures in
    let out = hands_out items s.lanes.items s.hands.items s.done.items s.lost.items c.args.w c.args.l c.pop_front.new.self c.index_mut.result.now (omega arith) free c.in-Some.x (sym (ap items c.index_mut.ensures.value) ∙ c.in-Some.ensures.items) in
    let same = moved_weight (state_of s) record { lanes = map items (set s.lanes.items c.args.l c.pop_front.new.self); hands = set s.hands.items c.args.w (Some c.in-Some.x); done = s.done.items; lost = s.lost.items } c.args.w c.args.l out (λ _. 1) in
    record {
      done_fits = let a = s.done_fits in subst (λ k. k ≤ vec_capacity s.done) (sym same) a;
      lost_fits = let a = s.lost_fits in subst (λ k. k ≤ vec_capacity s.lost) (sym same) a;
    }

pub returns-clause-ok : goal.returns-clause-ok
returns-clause-ok c =
    let items : VecDeque ℕ Global → List ℕ = λ d. d.items in
    let s = c.args.self.now in
    let free : slice_get s.hands.items c.args.w ≡ Some None = free_hand s.hands.items c.args.w c.index.result.now (omega arith) c.index.ensures c.if-is_some.ensures in
    hands_out items s.lanes.items s.hands.items s.done.items s.lost.items c.args.w c.args.l c.pop_front.new.self c.index_mut.result.now (omega arith) free c.in-Some.x (sym (ap items c.index_mut.ensures.value) ∙ c.in-Some.ensures.items)
