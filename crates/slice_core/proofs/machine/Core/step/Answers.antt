use Rattle.std.proofs.Common.{◌≡◌, ◌≤◌, ◌<◌, ℕ, List, [], ◌∷◌, ◌++◌, length, set, map, rules, arith, sym, ap, ◌∙◌, subst}
use Rattle.std.specs.Prelude.{None, vec_len, vec_capacity}
use Rattle.std.specs.declared.vec.Vec.{Vec}
use Rattle.std.specs.declared.collections.VecDeque.{VecDeque}
use Rattle.std.specs.declared.alloc.Global.{Global}
use Rattle.slice_core.specs.Places.{count_all}
use Rattle.slice_core.proofs.MachineLemmas.{done_room, lost_room, finished_fits, failed_fits, le_cap}
use Rattle.slice_core.proofs.machine.Core.step.Goals as goal

-- a vector that is as one with room to spare has room
has_room : (v w : Vec ℕ Global) → v ≡ w → length w.items ≡ w.len → length w.items < vec_capacity w → vec_len v < vec_capacity v
has_room v w same count room = subst (λ (v : Vec ℕ Global). vec_len v < vec_capacity v) (sym same) (omega (arith, count, room))

pub push_reserved-requires : goal.push_reserved-requires
push_reserved-requires c =
    let s = c.args.self.now in
    let given = c.in_ok-x-in-Finish.ensures.ok in
    has_room _ s.done given.1.done (search rules) (done_room (map (λ (d : VecDeque ℕ Global). d.items) s.lanes.items) s.hands.items s.done.items s.lost.items c.in-Finish.w c.in_ok-x-in-Finish.x (vec_capacity s.done) given.0 s.done_fits)

pub invariant_of-self : goal.invariant_of-self
invariant_of-self c =
    let s = c.args.self.now in
    let t = c.give_up.new.self in
    let items : VecDeque ℕ Global → List ℕ = λ d. d.items in
    let given = c.in_ok-x-in-Finish.ensures.ok in
    let fits = λ (cap : ℕ). finished_fits (map items s.lanes.items) s.hands.items s.done.items s.lost.items c.in-Finish.w c.in_ok-x-in-Finish.x cap given.0 in
    let lanes : map items t.lanes.items ≡ map items s.lanes.items = ap (λ (v : Vec (VecDeque ℕ Global) Global). map items v.items) given.1.lanes in
    let done_now : c.push_reserved.new.self.items ≡ s.done.items ++ c.in_ok-x-in-Finish.x ∷ [] = c.push_reserved.ensures.items ∙ ap (λ (v : Vec ℕ Global). v.items ++ c.in_ok-x-in-Finish.x ∷ []) given.1.done in
    let lost_now : t.lost.items ≡ s.lost.items = ap (λ (v : Vec ℕ Global). v.items) given.1.lost in
    let count : count_all (map items t.lanes.items) t.hands.items c.push_reserved.new.self.items t.lost.items ≡ count_all (map items s.lanes.items) (set s.hands.items c.in-Finish.w None) (s.done.items ++ c.in_ok-x-in-Finish.x ∷ []) s.lost.items =
    λ i. count_all (lanes i) (given.1.hands i) (done_now i) (lost_now i) in
    let cap : vec_capacity c.push_reserved.new.self ≡ vec_capacity s.done = c.push_reserved.ensures.capacity ∙ ap (λ (v : Vec ℕ Global). vec_capacity v) given.1.done in
    let cap_other : vec_capacity t.lost ≡ vec_capacity s.lost = ap (λ (v : Vec ℕ Global). vec_capacity v) given.1.lost in
    record {
      done_fits = let a = fits (vec_capacity s.done) s.done_fits in subst (λ k. k ≤ vec_capacity c.push_reserved.new.self) (sym count) (le_cap _ _ _ cap a);
      lost_fits = let a = fits (vec_capacity s.lost) s.lost_fits in subst (λ k. k ≤ vec_capacity t.lost) (sym count) (le_cap _ _ _ cap_other a);
    }

pub push_reserved-requires-in-Fail : goal.push_reserved-requires-in-Fail
push_reserved-requires-in-Fail c =
    let s = c.args.self.now in
    let given = c.in_ok-x-in-Fail.ensures.ok in
    has_room _ s.lost given.1.lost (search rules) (lost_room (map (λ (d : VecDeque ℕ Global). d.items) s.lanes.items) s.hands.items s.done.items s.lost.items c.in-Fail.w c.in_ok-x-in-Fail.x (vec_capacity s.lost) given.0 s.lost_fits)

pub invariant_of-self-in-Fail : goal.invariant_of-self-in-Fail
invariant_of-self-in-Fail c =
    let s = c.args.self.now in
    let t = c.give_up-in-Fail.new.self in
    let items : VecDeque ℕ Global → List ℕ = λ d. d.items in
    let given = c.in_ok-x-in-Fail.ensures.ok in
    let fits = λ (cap : ℕ). failed_fits (map items s.lanes.items) s.hands.items s.done.items s.lost.items c.in-Fail.w c.in_ok-x-in-Fail.x cap given.0 in
    let lanes : map items t.lanes.items ≡ map items s.lanes.items = ap (λ (v : Vec (VecDeque ℕ Global) Global). map items v.items) given.1.lanes in
    let lost_now : c.push_reserved-in-Fail.new.self.items ≡ s.lost.items ++ c.in_ok-x-in-Fail.x ∷ [] = c.push_reserved-in-Fail.ensures.items ∙ ap (λ (v : Vec ℕ Global). v.items ++ c.in_ok-x-in-Fail.x ∷ []) given.1.lost in
    let done_now : t.done.items ≡ s.done.items = ap (λ (v : Vec ℕ Global). v.items) given.1.done in
    let count : count_all (map items t.lanes.items) t.hands.items t.done.items c.push_reserved-in-Fail.new.self.items ≡ count_all (map items s.lanes.items) (set s.hands.items c.in-Fail.w None) s.done.items (s.lost.items ++ c.in_ok-x-in-Fail.x ∷ []) =
    λ i. count_all (lanes i) (given.1.hands i) (done_now i) (lost_now i) in
    let cap : vec_capacity c.push_reserved-in-Fail.new.self ≡ vec_capacity s.lost = c.push_reserved-in-Fail.ensures.capacity ∙ ap (λ (v : Vec ℕ Global). vec_capacity v) given.1.lost in
    let cap_other : vec_capacity t.done ≡ vec_capacity s.done = ap (λ (v : Vec ℕ Global). vec_capacity v) given.1.done in
    record {
      lost_fits = let a = fits (vec_capacity s.lost) s.lost_fits in subst (λ k. k ≤ vec_capacity c.push_reserved-in-Fail.new.self) (sym count) (le_cap _ _ _ cap a);
      done_fits = let a = fits (vec_capacity s.done) s.done_fits in subst (λ k. k ≤ vec_capacity t.done) (sym count) (le_cap _ _ _ cap_other a);
    }
