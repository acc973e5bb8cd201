-- What a clause says of a yard: its lanes, and the thieves of each worker.
use Rattle.std.specs.Prelude.{◌≡◌, ℕ, suc, ◌+◌, ◌-◌, ◌%◌, ◌<◌, ◌≤◌, ◌==◌, Bool, true, false, List, [], ◌++◌, All, map, length, if◌then◌else◌, nat_lt, slice_get, Some, vec_len, vec_capacity}
use Rattle.std.specs.List.{filter}
use Rattle.std.specs.declared.vec.Vec.{Vec}
use Rattle.std.specs.declared.alloc.Global.{Global}
use Rattle.crossbeam_deque.specs.Handles.{stealer_deque, stealer_flavor}
use Rattle.slice_yard.specs.declared.slices.Slice.{Slice}
use Rattle.slice_yard.specs.declared.rule.Hand.{Hand}
use Rattle.slice_yard.specs.declared.lane.Lane.{Lane}
use Rattle.slice_yard.specs.declared.lane.Thief.{Thief}
use Rattle.slice_yard.specs.declared.yard.Seat.{Seat}
use Rattle.slice_yard.specs.declared.yard.Post.{Post}
use Rattle.slice_yard.specs.Hands.{owner_hand}
use Rattle.slice_yard.specs.Lane.{Deque, LanePlace, ThiefPlace, lane_hand, lane_state, thief_state, thief_hand_of, lane_room, lane_index, IsOpen}
use Rattle.slice_core.specs.Named.{named_from}

-- what the owner of a lane knows that was handed nothing, where so many passes were made
abbrev pub filled : List Slice → ℕ → Hand
filled all seats = record { live = true; seat = 0; seats = seats; opening = all; handed = []; closed = []; rest = [] }

-- what the thief at a seat knows that was handed nothing
abbrev pub seated : List Slice → ℕ → Hand
seated all seat = record { live = true; seat = seat; seats = 0; opening = all; handed = []; closed = []; rest = [] }

-- the opening list of lane l: the slices whose number is l modulo the number of lanes
abbrev pub dealt : List Slice → ℕ → ℕ → List Slice
dealt xs lanes l = filter (λ x. x.number % lanes == l) xs

-- how many lanes worker w steals from
abbrev pub thief_count : ℕ → ℕ → ℕ
thief_count lanes w = if nat_lt w lanes then lanes - 1 else lanes

-- the lanes that worker w steals from, in its order: from the one after its number upwards and round
abbrev pub thief_lanes : ℕ → ℕ → List ℕ
thief_lanes lanes w = named_from (λ i. i % lanes) (w + 1) (thief_count lanes w)

-- the seat of worker w at lane l, which is not its own. Before w has it, it is how many passes the lane has
abbrev pub seat_of : ℕ → ℕ → ℕ
seat_of l w = if nat_lt l w then w else suc w

-- a yard at its opening: what stays of each owner's end, and of the thieves of each worker
abbrev pub lanes_at_first : (ℕ → Deque) → List Slice → ℕ → ℕ → List LanePlace
lanes_at_first deques xs n workers = named_from (λ l. ((deques l, false), filled (dealt xs n l) workers)) 0 n

abbrev pub thieves_at_first : (ℕ → Deque) → List Slice → ℕ → ℕ → List (List ThiefPlace)
thieves_at_first deques xs n workers = named_from (λ w. map (λ l. (l, deques l, seated (dealt xs n l) (seat_of l w))) (thief_lanes n w)) 0 workers

-- no pass was handed anything yet
pub record IsOpened (xs : List Slice) (n workers : ℕ) (lanes : List Lane) (thieves : List (Vec Thief Global)) : Type 0 where
  pub deques : ℕ → Deque
  pub owners : map lane_state lanes ≡ lanes_at_first deques xs n workers
  pub others : map (λ v. map thief_state v.items) thieves ≡ thieves_at_first deques xs n workers

-- these are all ends that one opening gave, in its order, whatever they were handed since
pub record AreOfOneYard (lanes : List LanePlace) (thieves : List (List ThiefPlace)) : Type 0 where
  pub slices : List Slice
  pub lane_count : ℕ
  pub workers : ℕ
  pub some_lane : 0 < lane_count
  pub enough : lane_count ≤ workers
  pub deques : ℕ → Deque
  pub owners : lanes ≡ lanes_at_first deques slices lane_count workers
  pub others : thieves ≡ thieves_at_first deques slices lane_count workers

-- an open lane with room for so many slices, in which nothing was put yet
pub record IsEmptyLane (room : ℕ) (l : Lane) : Type 0 where
  pub hand : lane_hand l ≡ owner_hand
  pub fits : room ≤ lane_room l
  pub index : lane_index l ≡ 0
  pub open_still : IsOpen l

-- what a thief is made of fits the lane at its number
pub record IsTakerAt (deques : List (Deque × Bool)) (s : Seat) : Type 0 where
  pub deque : slice_get deques s.lane ≡ Some (stealer_deque s.taker, false)
  pub in_order : stealer_flavor s.taker ≡ 0

abbrev pub post_lanes : Post → List ℕ
post_lanes p = map (λ s. s.lane) p.seats.items

-- each of its seats fits its lane, and its thieves will take no memory
pub record IsPostOf (deques : List (Deque × Bool)) (p : Post) : Type 0 where
  pub takers : All (IsTakerAt deques) p.seats.items
  pub nothing : p.thieves.items ≡ []
  pub room : vec_len p.seats ≤ vec_capacity p.thieves

-- it stands k passes more
abbrev pub more_seats : ℕ → Hand → Hand
more_seats k v = record v { seats = v.seats + k }

-- how often l stands in the list
abbrev pub times : ℕ → List ℕ → ℕ
times l ls = length (filter (λ k. k == l) ls)

-- the thieves of lane l
abbrev pub thieves_of : ℕ → List Thief → List Thief
thieves_of l ts = filter (λ t. t.lane == l) ts

-- what the thieves of lane l were handed, a list for each
abbrev pub lists_of : ℕ → List Thief → List (List Slice)
lists_of l ts = map (λ t. (thief_hand_of t).handed) (thieves_of l ts)

-- with these lists behind those of the thieves that were joined
abbrev pub with_lists : List (List Slice) → Hand → Hand
with_lists ls v = record v { closed = v.closed ++ ls }

-- the thief is of the lane at its number, and its seat is the next to be joined there
pub record IsNextOf (lanes : List LanePlace) (t : Thief) : Type 0 where
  pub hand : Hand
  pub place : slice_get lanes t.lane ≡ Some ((stealer_deque t.deque, false), hand)
  pub seat : (thief_hand_of t).seat ≡ length hand.closed + 1

-- what is known of the lanes once the first w workers have taken their seats
abbrev pub lanes_seated : (ℕ → Deque) → List Slice → ℕ → ℕ → List LanePlace
lanes_seated deques xs n w = named_from (λ l. ((deques l, false), filled (dealt xs n l) (seat_of l w))) 0 n
