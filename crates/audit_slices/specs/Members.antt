-- What a clause says of a worker: its places in the lanes, and what it was handed there.
use Rattle.std.specs.Prelude.{◌≡◌, ℕ, ◌+◌, false, List, [], ◌∷◌, map, sum_by, All, Contains}
use Rattle.slice_yard.specs.declared.slices.Slice.{Slice}
use Rattle.audit_slices.specs.declared.members.Member.{Member}
use Rattle.slice_yard.specs.Cut.{IsWithin}
use Rattle.slice_yard.specs.Lane.{LanePlace, ThiefPlace, lane_place, thief_place, lane_hand}
use Rattle.audit_slices.specs.Reports.{IsReported}
use Rattle.slice_yard.specs.Shared.{handed_sum, thieves_sum}

-- a worker's places: in its own lane, and as a thief
abbrev pub Places : Type 0
Places = LanePlace × List ThiefPlace

-- what was put into the lanes of these thieves
abbrev pub thief_openings : List ThiefPlace → List (List Slice)
thief_openings ps = map (λ p. p.2.opening) ps

-- what was put into the lanes of a worker
abbrev pub openings : Places → List (List Slice)
openings p = p.0.1.opening ∷ thief_openings p.1

-- each slice that was put in has its entries below n
pub record AreBelow (n : ℕ) (places : Places) : Type 0 where
  pub each : All (λ all. All (IsWithin n) all) (openings places)

module _ {X : Type 0} where
  abbrev pub member_sum : (Slice → ℕ) → Member X → ℕ
  member_sum h m = handed_sum h (lane_hand m.lane) + thieves_sum h m.thieves.items

  abbrev pub member_places : Member X → Places
  member_places m = (lane_place m.lane, map thief_place m.thieves.items)

  -- it was handed no slice, and has no report
  pub record IsNew (m : Member X) : Type 0 where
    pub done : m.done.items ≡ []
    pub handed : (h : Slice → ℕ) → member_sum h m ≡ 0

  -- its reports may be given, and unless it lost a slice, they are of just the slices that it was handed
  pub record IsSettled (gives : ℕ → X → Type 0) (m : Member X) : Type 0 where
    pub given : All (IsReported gives) m.done.items
    pub each : m.lost ≡ false → (h : Slice → ℕ) → sum_by (λ r. h r.slice) m.done.items ≡ member_sum h m

  -- the same, but for the slice x, which it holds
  pub record IsOneShort (gives : ℕ → X → Type 0) (x : Slice) (m : Member X) : Type 0 where
    pub given : All (IsReported gives) m.done.items
    pub each : m.lost ≡ false → (h : Slice → ℕ) → sum_by (λ r. h r.slice) m.done.items + h x ≡ member_sum h m

  -- it is settled, and each slice of its lanes has its entries below n
  pub record MayWork (n : ℕ) (gives : ℕ → X → Type 0) (m : Member X) : Type 0 where
    pub covered : AreBelow n (member_places m)
    pub before : IsSettled gives m

  -- it is settled again, and has the places that it had
  pub record HasWorked (gives : ℕ → X → Type 0) (old new : Member X) : Type 0 where
    pub after : IsSettled gives new
    pub places : member_places new ≡ member_places old

  -- the same of each
  pub record HaveWorked (gives : ℕ → X → Type 0) (old new : List (Member X)) : Type 0 where
    pub after : All (IsSettled gives) new
    pub places : map member_places new ≡ map member_places old

-- x is a slice that was put into one of these lanes
abbrev pub IsIn : List (List Slice) → Slice → Type 0
IsIn lists x = (all : List Slice) × Contains lists all × Contains all x
