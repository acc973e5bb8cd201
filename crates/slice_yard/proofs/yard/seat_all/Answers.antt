use Rattle.std.proofs.Common.{◌≡◌, ◌≤◌, ◌+◌, ◌++◌, ◌∷◌, [], List, length, map, take, drop, ap, ◌∙◌, sym, arith, rules, append-nil, subst, length-append}
use Rattle.std.specs.Prelude.{false}
use Rattle.std.specs.Vec.Iter.{into_iter_items}
use Rattle.std.proofs.lemmas.Grind.{common_steps}
use Rattle.slice_yard.specs.declared.lane.Lane.{Lane}
use Rattle.slice_yard.specs.Lane.{lane_state, lane_deque, thief_state}
use Rattle.slice_yard.specs.Yard.{filled, dealt, seated, thief_lanes, post_lanes, seat_of, times, lanes_seated, thieves_at_first}
use Rattle.slice_core.proofs.Tables.{table_mid, table_push, written_back, same_count}
use Rattle.slice_yard.proofs.SeatLemmas.{times_once, seated_next, seated_last}
use Rattle.slice_yard.proofs.yard.seat_all.Goals as goal

pub seat_worker-requires-clause-once : goal.seat_worker-requires-clause-once
seat_worker-requires-clause-once c = λ l lt.
    let n = length c.args.lanes.items in
    let e : c.args.posts.items ≡ c.loop-post.yielded ++ (c.in-Some.post ∷ into_iter_items c.next.new.self) = first_of (search rules, grind (arith, common_steps)) in
    let is = table_mid post_lanes (thief_lanes n) (length c.args.posts.items) c.args.posts.items c.loop-post.yielded (into_iter_items c.next.new.self) c.in-Some.post e c.requires.posts in
    let value : c.as_mut_slice.result.now ≡ c.loop-post.lanes.items = c.as_mut_slice.ensures.value in
    let count = same_count lane_deque c.args.lanes.items c.loop-post.lanes.items c.loop-post.invariant.same in
    subst (λ ls. times l ls ≤ 1) (sym is) (times_once n (length c.loop-post.yielded) l (let k = ap length value in omega arith))

pub loop-post-preserved : goal.loop-post-preserved
loop-post-preserved c =
    let n = length c.args.lanes.items in
    let w = length c.loop-post.yielded in
    let new : List Lane = c.seat_worker.new.lanes in
    let e : c.args.posts.items ≡ c.loop-post.yielded ++ (c.in-Some.post ∷ into_iter_items c.next.new.self) = first_of (search rules, grind (arith, common_steps)) in
    let is : post_lanes c.in-Some.post ≡ thief_lanes n w = table_mid post_lanes (thief_lanes n) (length c.args.posts.items) c.args.posts.items c.loop-post.yielded (into_iter_items c.next.new.self) c.in-Some.post e c.requires.posts in
    let value : c.as_mut_slice.result.now ≡ c.loop-post.lanes.items = c.as_mut_slice.ensures.value in
    let len : length c.loop-post.lanes.items ≡ c.loop-post.lanes.len = search rules in
    let wrote : take c.loop-post.lanes.len (new ++ drop (length new) c.loop-post.lanes.items) ≡ new = written_back c.loop-post.lanes.len c.loop-post.lanes.items new (c.seat_worker.auto.lanes ∙ ap length value ∙ len) len in
    let more : length (c.loop-post.yielded ++ c.in-Some.post ∷ []) ≡ w + 1 = length-append c.loop-post.yielded _ in
    record {
      lanes = λ xs deques first.
          ap (map lane_state) wrote
          ∙ seated_next deques xs n new w (post_lanes c.in-Some.post) is (c.seat_worker.ensures.lanes (λ l. ((deques l, false), filled (dealt xs n l) (seat_of l w))) n (ap (map lane_state) value ∙ c.loop-post.invariant.lanes xs deques first))
          ∙ ap (lanes_seated deques xs n) (sym more);
      thieves = λ xs deques first.
          table_push (λ v. map thief_state v.items) (λ w. map (λ l. (l, deques l, seated (dealt xs n l) (seat_of l w))) (thief_lanes n w)) 0 w c.loop-post.thieves.items c.push_reserved.new.self.items c.seat_worker.result c.push_reserved.ensures.items
          (c.loop-post.invariant.thieves xs deques first)
          (c.seat_worker.ensures.thieves (λ l. ((deques l, false), filled (dealt xs n l) (seat_of l w))) n (ap (map lane_state) value ∙ c.loop-post.invariant.lanes xs deques first)
          ∙ ap (map (λ l. (l, deques l, seated (dealt xs n l) (seat_of l w)))) is
          ∙ ap (λ k. map (λ l. (l, deques l, seated (dealt xs n l) (seat_of l k))) (thief_lanes n k)) (let z : w ≡ 0 + w = omega arith in z))
          ∙ ap (thieves_at_first deques xs n) (sym more);
      same = ap (map lane_deque) wrote ∙ c.seat_worker.ensures.same ∙ ap (map lane_deque) value ∙ c.loop-post.invariant.same;
      count = first_of (search rules, grind (arith, common_steps));
      room = first_of (search rules, grind (arith, common_steps));
      all = first_of (search rules, grind (arith, common_steps));
    }

pub returns : goal.returns
returns c = λ xs deques first.
    let n = length c.args.lanes.items in
    let none : into_iter_items c.loop-post.post-iterator ≡ [] = first_of (search rules, grind (arith, common_steps)) in
    let all : length c.loop-post.yielded ≡ length c.args.posts.items = ap length (sym (append-nil c.loop-post.yielded) ∙ ap (λ l. c.loop-post.yielded ++ l) (sym none) ∙ sym c.loop-post.invariant.all) in (
      seated_last deques xs n c.loop-post.lanes.items (length c.args.posts.items) c.requires.lanes (c.loop-post.invariant.lanes xs deques first ∙ ap (lanes_seated deques xs n) all),
      c.loop-post.invariant.thieves xs deques first ∙ ap (thieves_at_first deques xs n) all,
    )
