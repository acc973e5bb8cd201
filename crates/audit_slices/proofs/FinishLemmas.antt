-- The yard of the workers, closed.
use Rattle.std.proofs.Common.{◌≡◌, ℕ, ◌+◌, ◌<◌, ◌≤◌, false, List, [], ◌∷◌, length, get_or, map, All, sym, refl, ap, ◌∙◌, subst, arith}
use Rattle.std.specs.Prelude.{sum_by}
use Rattle.std.specs.List.{flat_map}
use Rattle.std.specs.declared.vec.Vec.{Vec}
use Rattle.std.specs.declared.alloc.Global.{Global}
use Rattle.std.proofs.lemmas.List.{length-map}
use Rattle.std.proofs.lemmas.List.Sums.{sum_by-cons}
use Rattle.std.proofs.lemmas.List.Elements.{All-head, All-tail}
use Rattle.slice_yard.specs.declared.slices.Slice.{Slice}
use Rattle.slice_yard.specs.declared.rule.Hand.{Hand}
use Rattle.slice_yard.specs.declared.lane.Lane.{Lane}
use Rattle.slice_yard.specs.declared.lane.Thief.{Thief}
use Rattle.audit_slices.specs.declared.checks.SliceReport.{SliceReport}
use Rattle.audit_slices.specs.declared.members.Member.{Member}
use Rattle.slice_yard.specs.Hands.{owner_hand, fresh}
use Rattle.slice_yard.specs.Lane.{LanePlace, lane_hand, lane_place, thief_place}
use Rattle.audit_slices.specs.Members.{member_places, member_sum}
use Rattle.slice_core.specs.Named.{named_from}
use Rattle.audit_slices.specs.Run.{IsWhole, IsFinished}
use Rattle.slice_yard.specs.Shared.{handed_sum, thieves_sum, lists_sum, closed_hands}
use Rattle.slice_yard.specs.Yard.{filled, dealt, lists_of, with_lists, IsOpened, AreOfOneYard}
use Rattle.slice_yard.proofs.OpenedLemmas.{same_yard, yard_start}
use Rattle.slice_core.proofs.SumLemmas.{sum_by-mapped, sum_both}
use Rattle.slice_core.proofs.Tables.{table_at, table_all, table_map, table_same, table_length, map_map, default_at}

handed_alone : (h : Slice → ℕ) (ls : List Lane) → All (λ v. v.closed ≡ []) (map lane_hand ls) → sum_by (λ l. lists_sum h (lane_hand l)) ls ≡ sum_by (λ l. handed_sum h (lane_hand l)) ls
handed_alone h [] none = refl
handed_alone h (l ∷ ls) none =
    let P : Hand → Type 0 = λ v. v.closed ≡ [] in
    let a = sum_by-cons (λ (l : Lane). lists_sum h (lane_hand l)) l ls in
    let b = sum_by-cons (λ (l : Lane). handed_sum h (lane_hand l)) l ls in
    let c : sum_by (λ l. sum_by h l) (lane_hand l).closed ≡ 0 = ap (sum_by (λ (l : List Slice). sum_by h l)) (All-head P (lane_hand l) (map lane_hand ls) none) in
    let d = handed_alone h ls (All-tail P (lane_hand l) (map lane_hand ls) none) in
    omega arith

module _ {X : Type 0} (ms : List (Member X)) (ls : List Lane) (vs : List (Vec Thief Global)) (lanes_are : ls ≡ map (λ m. m.lane) ms) (thieves_are : vs ≡ map (λ m. m.thieves) ms) where
  abbrev pub yard_of : AreOfOneYard (map (λ m. (member_places m).0) ms) (map (λ m. (member_places m).1) ms) → AreOfOneYard (map lane_place ls) (map (λ v. map thief_place v.items) vs)
  yard_of =
      same_yard (ap (map lane_place) lanes_are ∙ map_map lane_place (λ (m : Member X). m.lane) ms)
      (ap (map (λ (v : Vec Thief Global). map thief_place v.items)) thieves_are ∙ map_map (λ (v : Vec Thief Global). map thief_place v.items) (λ (m : Member X). m.thieves) ms)

  -- nothing was joined before
  members_sum : (h : Slice → ℕ) → All (λ v. v.closed ≡ []) (map lane_hand ls) → sum_by (λ l. lists_sum h (lane_hand l)) ls + sum_by (λ v. thieves_sum h v.items) vs ≡ sum_by (member_sum h) ms
  members_sum h none =
      let f : Lane → ℕ = λ l. lists_sum h (lane_hand l) in
      let g : Vec Thief Global → ℕ = λ v. thieves_sum h v.items in
      let a : sum_by f ls ≡ sum_by (λ l. handed_sum h (lane_hand l)) ls = handed_alone h ls none in
      let b : sum_by (λ l. handed_sum h (lane_hand l)) ls ≡ sum_by (λ m. handed_sum h (lane_hand m.lane)) ms = ap (sum_by (λ (l : Lane). handed_sum h (lane_hand l))) lanes_are ∙ sum_by-mapped (λ (l : Lane). handed_sum h (lane_hand l)) (λ (m : Member X). m.lane) ms in
      let c : sum_by g vs ≡ sum_by (λ m. thieves_sum h m.thieves.items) ms = ap (sum_by g) thieves_are ∙ sum_by-mapped g (λ (m : Member X). m.thieves) ms in
      let d = sum_both (λ (m : Member X). handed_sum h (lane_hand m.lane)) (λ (m : Member X). thieves_sum h m.thieves.items) ms in
      omega arith

  pub finished : (xs : List Slice) (hands : List Hand) (done : List (SliceReport X)) → IsWhole xs ms → hands ≡ closed_hands (map lane_hand ls) (flat_map (λ v. v.items) vs) → All (λ v. v.seats ≡ length v.closed + 1) hands
      → ((h : Slice → ℕ) → sum_by (lists_sum h) hands ≡ sum_by (λ l. lists_sum h (lane_hand l)) ls + sum_by (λ v. thieves_sum h v.items) vs) → All (λ m. m.lost ≡ false) ms → done ≡ flat_map (λ m. m.done.items) ms → IsFinished xs ms hands done
  finished xs hands done whole are joined sums kept done_are =
      let yard = yard_of whole.yard in
      let n = yard.lane_count in
      let flat = flat_map (λ (v : Vec Thief Global). v.items) vs in
      let first : ℕ → Hand = λ l. get_or (map lane_hand ls) l owner_hand in
      let settled : map fresh (map lane_hand ls) ≡ named_from (λ l. filled (dealt yard.slices n l) yard.workers) 0 n =
      map_map fresh lane_hand ls ∙ sym (map_map (λ (p : LanePlace). p.1) lane_place ls) ∙ ap (map (λ (p : LanePlace). p.1)) yard.owners ∙ table_map (λ (p : LanePlace). p.1) (λ l. ((yard.deques l, false), filled (dealt yard.slices n l) yard.workers)) n in
      let count : length (map lane_hand ls) ≡ n = length-map ls lane_hand ∙ sym (length-map ls lane_place) ∙ ap length yard.owners ∙ table_length (λ l. ((yard.deques l, false), filled (dealt yard.slices n l) yard.workers)) n in
      let first_is : (l : ℕ) → l < n → fresh (first l) ≡ filled (dealt yard.slices n l) yard.workers = λ l lt. table_at fresh (λ l. filled (dealt yard.slices n l) yard.workers) n (map lane_hand ls) l owner_hand settled lt in
      let table : hands ≡ named_from (λ l. with_lists (lists_of l flat) (first l)) 0 n = are ∙ ap (named_from (λ l. with_lists (lists_of l flat) (first l)) 0) count in
      let slices_are : (l : ℕ) → dealt yard.slices n l ≡ dealt xs n l = λ l. ap (λ s. dealt s n l) whole.same in
      record {
        count = n;
        some_lane = yard.some_lane;
        kept = kept;
        done = done_are;
        fresh = subst (λ hs. All (λ (v : Hand). v.rest ≡ []) hs) (sym table) (table_all (λ (v : Hand). v.rest ≡ []) (λ l. with_lists (lists_of l flat) (first l)) n (λ l lt. ap (λ (v : Hand). v.rest) (first_is l lt)));
        openings = ap (map (λ (v : Hand). v.opening)) table ∙ table_map (λ (v : Hand). v.opening) (λ l. with_lists (lists_of l flat) (first l)) n
            ∙ table_same (λ l. (first l).opening) (dealt xs n) n (λ l lt. ap (λ (v : Hand). v.opening) (first_is l lt) ∙ slices_are l);
        joined = joined;
        sums = λ h. sums h ∙ members_sum h (λ k d lt.
            let a : get_or (map lane_hand ls) k d ≡ first k = default_at (map lane_hand ls) k d owner_hand lt in
            ap (λ (v : Hand). v.closed) (a) ∙ ap (λ (v : Hand). v.closed) (first_is k (omega arith)));
      }

-- the workers of a yard that was opened have all its ends
module _ (xs : List Slice) (n workers : ℕ) (lanes : List Lane) (thieves : List (Vec Thief Global)) (opened : IsOpened xs n workers lanes thieves) where
  pub whole_start : {X : Type 0} (ms : List (Member X)) → 0 < n → n ≤ workers → map (λ m. (member_places m).0) ms ≡ map lane_place lanes → map (λ m. (member_places m).1) ms ≡ map (λ v. map thief_place v.items) thieves → IsWhole xs ms
  whole_start ms some enough own others = record {
    yard = same_yard own others (yard_start xs n workers lanes thieves opened some enough);
    same = refl;
  }
