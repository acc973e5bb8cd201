use Rattle.std.proofs.Common.{◌≡◌, ◌≤◌, ◌<◌, ◌++◌, ◌∷◌, [], ℕ, List, length, map, ap, ◌∙◌, sym, arith, rules, append-nil, subst}
use Rattle.std.specs.Vec.Iter.{into_iter_items}
use Rattle.std.proofs.lemmas.Grind.{common_steps}
use Rattle.std.proofs.Math.Seq.{map-set_same}
use Rattle.std.proofs.lemmas.List.{map-append, length-map}
use Rattle.slice_yard.specs.declared.yard.Seat.{Seat}
use Rattle.slice_yard.specs.Hands.{thief_hand}
use Rattle.slice_yard.specs.Lane.{lane_deque, thief_state}
use Rattle.slice_core.specs.Named.{named_from}
use Rattle.slice_yard.specs.Yard.{times, more_seats, IsTakerAt}
use Rattle.slice_core.proofs.Tables.{All_mid, get_within}
use Rattle.slice_yard.proofs.SeatLemmas.{seat_taken, thief_taken, first_time}
use Rattle.slice_yard.proofs.yard.seat_worker.Goals as goal

pub loop-seat-preserved : goal.loop-seat-preserved
loop-seat-preserved c =
    let lane_of : Seat → ℕ = λ s. s.lane in
    let ls : List ℕ = map lane_of c.loop-seat.yielded in
    let l : ℕ = c.in-Some.seat.lane in
    let e : c.args.post.seats.items ≡ c.loop-seat.yielded ++ (c.in-Some.seat ∷ into_iter_items c.next.new.self) = first_of (search rules, grind (arith, common_steps)) in
    let taker : IsTakerAt (map lane_deque c.args.lanes.now) c.in-Some.seat = All_mid (IsTakerAt (map lane_deque c.args.lanes.now)) c.args.post.seats.items c.loop-seat.yielded (into_iter_items c.next.new.self) c.in-Some.seat e c.requires.fits.takers in
    let within : l < length c.loop-seat.lanes =
    let a = get_within (map lane_deque c.args.lanes.now) l _ taker.deque in let b = length-map c.args.lanes.now lane_deque in let n = c.loop-seat.auto.lanes in omega arith in
    let all : map lane_of c.args.post.seats.items ≡ ls ++ (l ∷ map lane_of (into_iter_items c.next.new.self)) = ap (map lane_of) e ∙ map-append lane_of c.loop-seat.yielded _ in
    let none : times l ls ≡ 0 = first_time l ls (map lane_of (into_iter_items c.next.new.self)) (subst (λ ks. times l ks ≤ 1) all (c.requires.once l (let n = c.loop-seat.auto.lanes in omega arith))) in
    let more : map lane_of (c.loop-seat.yielded ++ c.in-Some.seat ∷ []) ≡ ls ++ l ∷ [] = map-append lane_of c.loop-seat.yielded _ in
    record {
      lanes = λ f n first.
          seat_taken f n c.loop-seat.lanes l c.index-lanes-lane.result ls (c.loop-seat.invariant.lanes f n first) within c.thief.new.self c.thief.ensures.same c.thief.ensures.owner
          ∙ ap (λ ks. named_from (λ k. ((f k).0, more_seats (times k ks) (f k).1)) 0 n) (sym more);
      thieves = λ f n first. ap (map thief_state) c.push_reserved.ensures.items ∙ map-append thief_state c.loop-seat.thieves.items _
          ∙ ap (λ ts. ts ++ thief_state c.thief.result ∷ []) (c.loop-seat.invariant.thieves f n first)
          ∙ ap (λ t. map (λ k. (k, (f k).0.0, thief_hand (f k).1)) ls ++ t ∷ []) (thief_taken f n c.loop-seat.lanes l c.index-lanes-lane.result ls (c.loop-seat.invariant.lanes f n first) within c.thief.result none c.thief.ensures.thief)
          ∙ sym (map-append (λ k. (k, (f k).0.0, thief_hand (f k).1)) ls (l ∷ [])) ∙ ap (map (λ k. (k, (f k).0.0, thief_hand (f k).1))) (sym more);
      same = map-set_same lane_deque c.loop-seat.lanes l c.thief.new.self c.index-lanes-lane.result c.thief.ensures.same ∙ c.loop-seat.invariant.same;
      count = first_of (search rules, grind (arith, common_steps));
      room = first_of (search rules, grind (arith, common_steps));
      all = first_of (search rules, grind (arith, common_steps));
    }

pub returns-clause-lanes : goal.returns-clause-lanes
returns-clause-lanes c = λ f n first.
    let lane_of : Seat → ℕ = λ s. s.lane in
    let none : into_iter_items c.loop-seat.seat-iterator ≡ [] = first_of (search rules, grind (arith, common_steps)) in
    let all : c.loop-seat.yielded ≡ c.args.post.seats.items = sym (append-nil c.loop-seat.yielded) ∙ ap (λ l. c.loop-seat.yielded ++ l) (sym none) ∙ sym c.loop-seat.invariant.all in
    c.loop-seat.invariant.lanes f n first ∙ ap (λ ks. named_from (λ k. ((f k).0, more_seats (times k (map lane_of ks)) (f k).1)) 0 n) all
