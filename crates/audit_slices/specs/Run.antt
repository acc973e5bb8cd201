-- What the calls of the pool hand to one another.
use Rattle.std.specs.Prelude.{◌≡◌, ℕ, ◌+◌, ◌<◌, false, List, [], All, map, sum_by, length}
use Rattle.std.specs.List.{flat_map}
use Rattle.slice_yard.specs.declared.slices.Slice.{Slice}
use Rattle.slice_yard.specs.declared.rule.Hand.{Hand}
use Rattle.audit_slices.specs.declared.checks.SliceReport.{SliceReport}
use Rattle.audit_slices.specs.declared.members.Member.{Member}
use Rattle.audit_slices.specs.Members.{member_places, member_sum}
use Rattle.slice_core.specs.Named.{named_from}
use Rattle.slice_yard.specs.Shared.{lists_sum}
use Rattle.slice_yard.specs.Yard.{dealt, AreOfOneYard}

-- before anything was handed out since the lane was closed
abbrev pub unspent : Hand → Hand
unspent v = record v { rest = [] }

abbrev pub rest_sum : (Slice → ℕ) → List Hand → ℕ
rest_sum h vs = sum_by (λ v. sum_by h v.rest) vs

module _ {X : Type 0} where
  -- the workers have all ends of a yard that was opened with these slices
  pub record IsWhole (slices : List Slice) (members : List (Member X)) : Type 0 where
    pub yard : AreOfOneYard (map (λ m. (member_places m).0) members) (map (λ m. (member_places m).1) members)
    pub same : yard.slices ≡ slices

  -- the lanes that were closed had these slices, nothing is handed out of them yet, and their lists hold what the workers were handed. No worker lost a slice
  pub record IsFinished (slices : List Slice) (members : List (Member X)) (hands : List Hand) (reports : List (SliceReport X)) : Type 0 where
    pub count : ℕ
    pub some_lane : 0 < count
    pub kept : All (λ m. m.lost ≡ false) members
    pub done : reports ≡ flat_map (λ m. m.done.items) members
    pub fresh : All (λ v. v.rest ≡ []) hands
    pub openings : map (λ v. v.opening) hands ≡ named_from (dealt slices count) 0 count
    pub joined : All (λ v. v.seats ≡ length v.closed + 1) hands
    pub sums : (h : Slice → ℕ) → sum_by (lists_sum h) hands ≡ sum_by (member_sum h) members
