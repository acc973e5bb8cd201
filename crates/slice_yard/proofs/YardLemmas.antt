-- What is made before a yard is opened.
use Rattle.std.proofs.Common.{◌≡◌, ℕ, ◌+◌, ◌<◌, List, [], ◌∷◌, All, length, get_or, map, sym, ap, ◌∙◌, arith}
use Rattle.std.specs.Prelude.{Some, Bool, false}
use Rattle.std.proofs.lemmas.List.{get_or-map}
use Rattle.crossbeam_deque.specs.declared.handles.Stealer.{Stealer}
use Rattle.std.specs.declared.alloc.Global.{Global}
use Rattle.slice_yard.specs.declared.slices.Slice.{Slice}
use Rattle.slice_yard.specs.declared.rule.Hand.{Hand}
use Rattle.slice_yard.specs.declared.rule.InLane.{InLane}
use Rattle.slice_yard.specs.declared.lane.Lane.{Lane}
use Rattle.slice_yard.specs.Lane.{Deque, lane_deque, lane_hand, lane_state, IsTakerOf, IsOpen}
use Rattle.slice_core.specs.Named.{named_from}
use Rattle.slice_yard.specs.Yard.{filled, dealt, lanes_at_first, IsTakerAt}
use Rattle.slice_core.proofs.Tables.{get_map, table_at, table_from, same_count}

-- a taker of the lane at its number
pub taker_at : (lanes : List Lane) (d : Lane) (l : ℕ) (t : Stealer Slice Global Hand InLane) → l < length lanes → IsTakerOf (get_or lanes l d) t → IsOpen (get_or lanes l d) → IsTakerAt (map lane_deque lanes) record { lane = l; taker = t }
taker_at lanes d l t within taker still = record {
  deque = get_map lane_deque lanes l d within ∙ (λ i. Some ((sym taker.0) i, still i));
  in_order = taker.1;
}

-- lanes in which the slices were dealt
pub dealt_states : (os ls : List Lane) (xs : List Slice) (n : ℕ) → length os ≡ n → 0 < n → All IsOpen os → map lane_deque ls ≡ map lane_deque os → map lane_hand ls ≡ named_from (λ l. filled (dealt xs n l) 1) 0 n
    → (deques : ℕ → Deque) × (map lane_state ls ≡ lanes_at_first deques xs n 1)
dealt_states [] ls xs n count some still same hands = absurd (omega arith)
dealt_states (o ∷ os) ls xs n count some still same hands =
    let owners : List Lane = o ∷ os in
    let at : ℕ → Deque × Bool = λ k. get_or (map lane_deque owners) k (lane_deque o) in
    let length_is : length ls ≡ n = same_count lane_deque owners ls same ∙ count in (
      (λ k. (at k).0),
      table_from lane_state (λ l. (((at l).0, false), filled (dealt xs n l) 1)) 0 ls (λ k d lt.
          let hand = table_at lane_hand (λ l. filled (dealt xs n l) 1) n ls k d hands (omega arith) in
          let deque : lane_deque (get_or ls k d) ≡ at k = sym (get_or-map lane_deque ls k d (lane_deque o) lt) ∙ ap (λ l. get_or l k (lane_deque o)) same in
          let is_open : (at k).1 ≡ false = ap (λ (p : Deque × Bool). p.1) (get_or-map lane_deque owners k o (lane_deque o) (omega arith)) ∙ still k o (omega arith) in
          let z : k ≡ 0 + k = omega arith in
          (λ i. (deque i, hand i)) ∙ (λ i. (((at k).0, is_open i), filled (dealt xs n k) 1)) ∙ ap (λ j. (((at j).0, false), filled (dealt xs n j) 1)) z)
          ∙ ap (named_from (λ l. (((at l).0, false), filled (dealt xs n l) 1)) 0) length_is,
    )
