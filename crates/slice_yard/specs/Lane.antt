-- What a clause says of a lane and of a thief.
use Rattle.std.specs.Prelude.{◌≡◌, ℕ, Bool, true, false}
use Rattle.crossbeam_deque.specs.Handles.{worker_view, worker_deque, worker_capacity, worker_index, stealer_deque, stealer_flavor, view}
use Rattle.crossbeam_deque.specs.declared.handles.Stealer.{Stealer}
use Rattle.std.specs.declared.alloc.Global.{Global}
use Rattle.slice_yard.specs.declared.rule.Hand.{Hand}
use Rattle.slice_yard.specs.declared.lane.Lane.{Lane}
use Rattle.slice_yard.specs.declared.lane.Thief.{Thief}
use Rattle.atomic_blocks.specs.Lent.{RowsId}
use Rattle.slice_yard.specs.Hands.{fresh}
use Rattle.slice_yard.specs.declared.slices.Slice.{Slice}
use Rattle.slice_yard.specs.declared.rule.InLane.{InLane}

-- what the owner knows
abbrev pub lane_hand : Lane → Hand
lane_hand l = worker_view l.deque

-- what the thief knows
abbrev pub thief_hand_of : Thief → Hand
thief_hand_of t = view t.pass

-- which deque it is
abbrev pub Deque : Type 0
Deque = RowsId × Global

-- it was not closed
abbrev pub IsOpen : Lane → Type 0
IsOpen l = l.ended ≡ false

abbrev pub IsEnded : Lane → Type 0
IsEnded l = l.ended ≡ true

-- a lane's deque, and whether it was closed
abbrev pub lane_deque : Lane → Deque × Bool
lane_deque l = (worker_deque l.deque, l.ended)

abbrev pub LanePlace : Type 0
LanePlace = (Deque × Bool) × Hand

abbrev pub ThiefPlace : Type 0
ThiefPlace = ℕ × Deque × Hand

abbrev pub lane_state : Lane → LanePlace
lane_state l = (lane_deque l, lane_hand l)

-- the lane's number, its deque, and what the thief knows
abbrev pub thief_state : Thief → ThiefPlace
thief_state t = (t.lane, stealer_deque t.deque, thief_hand_of t)

-- what stays: the same before anything was handed out
abbrev pub lane_place : Lane → LanePlace
lane_place l = (lane_deque l, fresh (lane_hand l))

abbrev pub fresh_state : LanePlace → LanePlace
fresh_state p = (p.0, fresh p.1)

abbrev pub thief_place : Thief → ThiefPlace
thief_place t = (t.lane, stealer_deque t.deque, fresh (thief_hand_of t))

-- the thief is one of this lane
abbrev pub IsThiefOf : Lane → Thief → Type 0
IsThiefOf l t = stealer_deque t.deque ≡ worker_deque l.deque

abbrev pub IsTakerOf : Lane → Stealer Slice Global Hand InLane → Type 0
IsTakerOf l t = (stealer_deque t ≡ worker_deque l.deque) × (stealer_flavor t ≡ 0)

-- how many slices it was made for, and how many were put in
abbrev pub lane_room : Lane → ℕ
lane_room l = worker_capacity l.deque

abbrev pub lane_index : Lane → ℕ
lane_index l = worker_index l.deque
