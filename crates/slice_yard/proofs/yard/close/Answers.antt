use Rattle.std.proofs.Common.{◌≡◌, ◌+◌, ◌<◌, ◌++◌, ◌∷◌, [], List, All, length, map, take, drop, ap, ◌∙◌, sym, arith, rules, append-nil, subst}
use Rattle.std.specs.List.{flat_map}
use Rattle.std.specs.declared.vec.Vec.{Vec}
use Rattle.std.specs.declared.alloc.Global.{Global}
use Rattle.std.specs.Vec.Iter.{into_iter_items}
use Rattle.std.proofs.lemmas.Grind.{common_steps}
use Rattle.slice_yard.specs.declared.rule.Hand.{Hand}
use Rattle.slice_yard.specs.declared.lane.Lane.{Lane}
use Rattle.slice_yard.specs.declared.lane.Thief.{Thief}
use Rattle.slice_yard.specs.Yard.{IsNextOf, lists_of, with_lists}
use Rattle.slice_yard.specs.Lane.{lane_state, lane_hand}
use Rattle.slice_yard.specs.Receipts.{receipt_hands}
use Rattle.slice_yard.specs.ClosedRuns.{WereOpened}
use Rattle.slice_yard.specs.Shared.{lists_sum, thieves_sum}
use Rattle.std.specs.Prelude.{sum_by}
use Rattle.std.proofs.lemmas.List.Sums.{sum_by-cons, sum_by-append}
use Rattle.slice_core.proofs.SumLemmas.{sum_by-mapped}
use Rattle.slice_core.proofs.Tables.{written_back, All_map}
use Rattle.slice_yard.proofs.CloseLemmas.{next_all, once_each, were_opened, all_joined, hands_closed, joined_more, so_far_all}
use Rattle.slice_yard.proofs.yard.close.Goals as goal

pub absorb_all-requires-clause-next : goal.absorb_all-requires-clause-next
absorb_all-requires-clause-next c =
    let e : c.args.thieves.items ≡ c.loop-ends.yielded ++ (c.in-Some.ends ∷ into_iter_items c.next.new.self) = first_of (search rules, grind (arith, common_steps)) in
    let value : c.as_mut_slice.result.now ≡ c.loop-ends.lanes.items = c.as_mut_slice.ensures.value in
    subst (λ (ls : List Lane). All (IsNextOf (map lane_state ls)) c.in-Some.ends.items) (sym value)
    (next_all c.args.lanes.items c.args.thieves.items c.requires c.loop-ends.lanes.items c.loop-ends.yielded (into_iter_items c.next.new.self) c.in-Some.ends e c.loop-ends.invariant.lanes)

pub absorb_all-requires-clause-once : goal.absorb_all-requires-clause-once
absorb_all-requires-clause-once c = λ l lt.
    let e : c.args.thieves.items ≡ c.loop-ends.yielded ++ (c.in-Some.ends ∷ into_iter_items c.next.new.self) = first_of (search rules, grind (arith, common_steps)) in
    let value : c.as_mut_slice.result.now ≡ c.loop-ends.lanes.items = c.as_mut_slice.ensures.value in
    once_each c.args.lanes.items c.args.thieves.items c.requires c.loop-ends.lanes.items c.loop-ends.yielded (into_iter_items c.next.new.self) c.in-Some.ends e c.loop-ends.invariant.lanes l (subst (λ (ls : List Lane). l < length ls) value lt)

pub loop-ends-preserved : goal.loop-ends-preserved
loop-ends-preserved c =
    let new : List Lane = c.absorb_all.new.lanes in
    let value : c.as_mut_slice.result.now ≡ c.loop-ends.lanes.items = c.as_mut_slice.ensures.value in
    let len : length c.loop-ends.lanes.items ≡ c.loop-ends.lanes.len = search rules in
    let wrote : take c.loop-ends.lanes.len (new ++ drop (length new) c.loop-ends.lanes.items) ≡ new = written_back c.loop-ends.lanes.len c.loop-ends.lanes.items new (c.absorb_all.auto.lanes ∙ ap length value ∙ len) len in
    record {
      lanes = λ f n first. ap (map lane_state) wrote ∙ joined_more new c.loop-ends.yielded c.in-Some.ends f n
          (c.absorb_all.ensures.lanes (λ k. ((f k).0, with_lists (lists_of k (flat_map (λ (v : Vec Thief Global). v.items) c.loop-ends.yielded)) (f k).1)) n (ap (map lane_state) value ∙ c.loop-ends.invariant.lanes f n first));
      sums = λ h. let a = c.absorb_all.ensures.sums h in let b = c.loop-ends.invariant.sums h in
          let d : sum_by (λ (x : Lane). lists_sum h (lane_hand x)) c.as_mut_slice.result.now ≡ sum_by (λ (x : Lane). lists_sum h (lane_hand x)) c.loop-ends.lanes.items = ap (sum_by (λ (x : Lane). lists_sum h (lane_hand x))) value in
          let k : sum_by (λ (x : Lane). lists_sum h (lane_hand x)) (take c.loop-ends.lanes.len (new ++ drop (length new) c.loop-ends.lanes.items)) ≡ sum_by (λ (x : Lane). lists_sum h (lane_hand x)) new = ap (sum_by (λ (x : Lane). lists_sum h (lane_hand x))) wrote in
          omega (arith, sum_by-append (λ (v : Vec Thief Global). thieves_sum h v.items) c.loop-ends.yielded (c.in-Some.ends ∷ []), sum_by-cons (λ (v : Vec Thief Global). thieves_sum h v.items) c.in-Some.ends []);
      all = first_of (search rules, grind (arith, common_steps));
    }

pub of-requires : goal.of-requires
of-requires c =
    let none : into_iter_items c.loop-ends.ends-iterator ≡ [] = first_of (search rules, grind (arith, common_steps)) in
    let all : c.loop-ends.yielded ≡ c.args.thieves.items = sym (append-nil c.loop-ends.yielded) ∙ ap (λ l. c.loop-ends.yielded ++ l) (sym none) ∙ sym c.loop-ends.invariant.all in
    all_joined c.args.lanes.items c.args.thieves.items c.requires c.loop-ends.lanes.items (so_far_all c.args.lanes.items c.loop-ends.lanes.items c.loop-ends.yielded c.args.thieves.items all c.loop-ends.invariant.lanes)

pub returns : goal.returns
returns c =
    let none : into_iter_items c.loop-ends.ends-iterator ≡ [] = first_of (search rules, grind (arith, common_steps)) in
    let all : c.loop-ends.yielded ≡ c.args.thieves.items = sym (append-nil c.loop-ends.yielded) ∙ ap (λ l. c.loop-ends.yielded ++ l) (sym none) ∙ sym c.loop-ends.invariant.all in
    record {
      opened = λ yard numbered. subst (λ hs. WereOpened (length yard.slices) yard.lane_count yard.workers hs) (sym c.of.ensures)
          (were_opened c.args.lanes.items c.args.thieves.items yard c.loop-ends.lanes.items (so_far_all c.args.lanes.items c.loop-ends.lanes.items c.loop-ends.yielded c.args.thieves.items all c.loop-ends.invariant.lanes) numbered);
      joined = subst (λ hs. All (λ (v : Hand). v.seats ≡ length v.closed + 1) hs) (sym c.of.ensures) (All_map (λ (v : Hand). v.seats ≡ length v.closed + 1) lane_hand c.loop-ends.lanes.items
          (all_joined c.args.lanes.items c.args.thieves.items c.requires c.loop-ends.lanes.items (so_far_all c.args.lanes.items c.loop-ends.lanes.items c.loop-ends.yielded c.args.thieves.items all c.loop-ends.invariant.lanes)));
      sums = λ h. let a = c.loop-ends.invariant.sums h in
          let b : sum_by (lists_sum h) (receipt_hands c.of.result) ≡ sum_by (λ (x : Lane). lists_sum h (lane_hand x)) c.loop-ends.lanes.items = ap (sum_by (lists_sum h)) c.of.ensures ∙ sum_by-mapped (lists_sum h) lane_hand c.loop-ends.lanes.items in
          let d : sum_by (λ (v : Vec Thief Global). thieves_sum h v.items) c.loop-ends.yielded ≡ sum_by (λ (v : Vec Thief Global). thieves_sum h v.items) c.args.thieves.items = ap (sum_by (λ (v : Vec Thief Global). thieves_sum h v.items)) all in
          omega arith;
      hands = c.of.ensures ∙ hands_closed c.args.lanes.items c.args.thieves.items c.requires c.loop-ends.lanes.items (so_far_all c.args.lanes.items c.loop-ends.lanes.items c.loop-ends.yielded c.args.thieves.items all c.loop-ends.invariant.lanes);
    }
