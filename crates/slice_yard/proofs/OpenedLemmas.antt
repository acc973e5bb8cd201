-- The ends of a yard that was opened.
use Rattle.std.proofs.Common.{◌≡◌, ℕ, ◌<◌, ◌≤◌, false, List, [], ◌∷◌, get_or, map, All, sym, refl, ap, ◌∙◌, subst}
use Rattle.std.specs.declared.vec.Vec.{Vec}
use Rattle.std.specs.declared.alloc.Global.{Global}
use Rattle.slice_yard.specs.declared.slices.Slice.{Slice}
use Rattle.slice_yard.specs.declared.lane.Lane.{Lane}
use Rattle.slice_yard.specs.declared.lane.Thief.{Thief}
use Rattle.slice_yard.specs.Hands.{fresh}
use Rattle.slice_yard.specs.Lane.{LanePlace, ThiefPlace, lane_hand, lane_state, lane_place, fresh_state, thief_state, thief_place, thief_hand_of}
use Rattle.slice_yard.specs.Yard.{filled, seated, dealt, seat_of, thief_lanes, lanes_at_first, thieves_at_first, IsOpened, AreOfOneYard}
use Rattle.slice_core.proofs.Tables.{table_all, table_map, table_same, map_map, All_map, All_unmap}

-- ends at the places of those of one opening
abbrev pub same_yard : {owners now : List LanePlace} {thieves others : List (List ThiefPlace)} → now ≡ owners → others ≡ thieves → AreOfOneYard owners thieves → AreOfOneYard now others
same_yard owners others yard = record {
  slices = yard.slices;
  lane_count = yard.lane_count;
  workers = yard.workers;
  some_lane = yard.some_lane;
  enough = yard.enough;
  deques = yard.deques;
  owners = owners ∙ yard.owners;
  others = others ∙ yard.others;
}

fresh_thieves : (vs : List (Vec Thief Global)) → map (λ v. map thief_place v.items) vs ≡ map (map (λ (p : ThiefPlace). (p.0, p.1, fresh p.2))) (map (λ v. map thief_state v.items) vs)
fresh_thieves [] = refl
fresh_thieves (v ∷ vs) = let a = map_map (λ (p : ThiefPlace). (p.0, p.1, fresh p.2)) thief_state v.items in let b = fresh_thieves vs in λ i. sym a i ∷ b i

-- a yard that was opened
module _ (xs : List Slice) (n workers : ℕ) (lanes : List Lane) (thieves : List (Vec Thief Global)) (opened : IsOpened xs n workers lanes thieves) where
  pub nothing_lanes : All (λ l. (lane_hand l).handed ≡ []) lanes
  nothing_lanes = All_unmap (λ (p : LanePlace). p.1.handed ≡ []) lane_state lanes (subst (All (λ (p : LanePlace). p.1.handed ≡ [])) (sym opened.owners)
      (table_all (λ (p : LanePlace). p.1.handed ≡ []) (λ l. ((opened.deques l, false), filled (dealt xs n l) workers)) n (λ l lt. refl)))

  pub nothing_thieves : All (λ v. All (λ t. (thief_hand_of t).handed ≡ []) v.items) thieves
  nothing_thieves =
      let P : ThiefPlace → Type 0 = λ p. p.2.handed ≡ [] in
      let each : All (λ v. All P (map thief_state v.items)) thieves = All_unmap (All P) (λ (v : Vec Thief Global). map thief_state v.items) thieves (subst (All (All P)) (sym opened.others)
      (table_all (All P) (λ w. map (λ l. (l, opened.deques l, seated (dealt xs n l) (seat_of l w))) (thief_lanes n w)) workers
      (λ w lt. All_map P (λ l. (l, opened.deques l, seated (dealt xs n l) (seat_of l w))) (thief_lanes n w) (λ k d lt. refl)))) in
      λ k d lt. All_unmap P thief_state (get_or thieves k d).items (each k d lt)

  pub owners_start : map lane_place lanes ≡ lanes_at_first opened.deques xs n workers
  owners_start = sym (map_map fresh_state lane_state lanes) ∙ ap (map fresh_state) opened.owners ∙ table_map fresh_state (λ l. ((opened.deques l, false), filled (dealt xs n l) workers)) n

  pub others_start : map (λ v. map thief_place v.items) thieves ≡ thieves_at_first opened.deques xs n workers
  others_start = fresh_thieves thieves ∙ ap (map (map (λ (p : ThiefPlace). (p.0, p.1, fresh p.2)))) opened.others
      ∙ table_map (map (λ (p : ThiefPlace). (p.0, p.1, fresh p.2))) (λ w. map (λ l. (l, opened.deques l, seated (dealt xs n l) (seat_of l w))) (thief_lanes n w)) workers
      ∙ table_same _ (λ w. map (λ l. (l, opened.deques l, seated (dealt xs n l) (seat_of l w))) (thief_lanes n w)) workers
      (λ w lt. map_map (λ (p : ThiefPlace). (p.0, p.1, fresh p.2)) (λ l. (l, opened.deques l, seated (dealt xs n l) (seat_of l w))) (thief_lanes n w))

  -- its ends are those of one opening
  abbrev pub yard_start : 0 < n → n ≤ workers → AreOfOneYard (map lane_place lanes) (map (λ v. map thief_place v.items) thieves)
  yard_start some enough = record {
    slices = xs;
    lane_count = n;
    workers = workers;
    some_lane = some;
    enough = enough;
    deques = opened.deques;
    owners = owners_start;
    others = others_start;
  }
