use Rattle.std.proofs.Common.{◌≡◌, ◌≤◌, ◌++◌, ℕ, length, map}
use Rattle.std.specs.Prelude.{vec_len, vec_capacity}
use Rattle.std.specs.Vec.Iter.{into_iter_items}
use Rattle.slice_yard.specs.declared.yard.Seat.{Seat}
use Rattle.slice_yard.specs.Hands.{thief_hand}
use Rattle.slice_yard.specs.Lane.{LanePlace, lane_state, lane_deque, thief_state}
use Rattle.slice_core.specs.Named.{named_from}
use Rattle.slice_yard.specs.Yard.{times, more_seats}
use Rattle.slice_yard.proofs.yard.seat_worker.Given as goal

abbrev pub invariant-loop-seat : goal.invariant-loop-seat
invariant-loop-seat l = record {
  lanes : (f : ℕ → LanePlace) (n : ℕ) → map lane_state l.initial.lanes ≡ named_from f 0 n
      → map lane_state l.lanes ≡ named_from (λ k. ((f k).0, more_seats (times k (map (λ (s : Seat). s.lane) l.yielded)) (f k).1)) 0 n;
  thieves : (f : ℕ → LanePlace) (n : ℕ) → map lane_state l.initial.lanes ≡ named_from f 0 n
      → map thief_state l.thieves.items ≡ map (λ (k : ℕ). (k, (f k).0.0, thief_hand (f k).1)) (map (λ (s : Seat). s.lane) l.yielded);
  same : map lane_deque l.lanes ≡ map lane_deque l.initial.lanes;
  count : vec_len l.thieves ≡ length l.yielded;
  room : vec_len l.fn.post.seats ≤ vec_capacity l.thieves;
  all : l.fn.post.seats.items ≡ l.yielded ++ into_iter_items l.seat-iterator;
}
